-- Where the pages of a die lie, and how many lie in an erase block. This project's own.
use Rattle.std.specs.Prelude.{ℕ, ◌/◌, ◌==◌, if◌then◌else◌, List, set, Option, Some, None}
use Rattle.std.specs.List.{sum_by}
use Rattle.ftl_die.specs.declared.place.Place.{Place}
use Rattle.ftl_die.specs.declared.place.Place.TheVariants.{Unwritten, At, Held}

-- 1 where a page lies in this erase block, else 0
abbrev pub one_in : ℕ → Place → ℕ
one_in block Unwritten = 0
one_in block (At raw) = if raw / 64 == block then 1 else 0
one_in block (Held slot) = 0

-- 1 where a page lies in raw flash, else 0
abbrev pub one_at : Place → ℕ
one_at Unwritten = 0
one_at (At raw) = 1
one_at (Held slot) = 0

-- how many pages lie in an erase block: its live pages
abbrev pub live_in : ℕ → List Place → ℕ
live_in block places = sum_by (one_in block) places

-- 1 where a slot has a page of the die, else 0
abbrev pub one_held : Option ℕ → ℕ
one_held None = 0
one_held (Some page) = 1

-- how many slots have a page of the die
abbrev pub held_in : List (Option ℕ) → ℕ
held_in owners = sum_by one_held owners

-- the slots when a page leaves its place
abbrev pub vacated : Place → List (Option ℕ) → List (Option ℕ)
vacated Unwritten owners = owners
vacated (At raw) owners = owners
vacated (Held slot) owners = set owners slot None
