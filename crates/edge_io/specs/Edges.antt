-- What a room and a sink are seen as: named bytes, written bytes, and counts of faults. This project's own.
use Rattle.std.specs.Prelude.{◌≡◌, ◌≢◌, ℕ, ◌+◌, ◌-◌, ◌^◌, ◌≤◌, min, List, ◌++◌, length, take, bytes_eq, if◌then◌else◌, ⊤, Option, Some, None, IsSome}

-- a count has risen, or stands at its end
abbrev pub Rose : ℕ → ℕ → Type 0
Rose before now = min (before + 1) (2 ^ 64 - 1) ≤ now

-- what is under each name
abbrev pub Names : Type 0
Names = List ℕ → Option (List ℕ)

-- where the names are told, these bytes are under the name
abbrev pub IsUnder : Option Names → List ℕ → List ℕ → Type 0
IsUnder None name bytes = ⊤
IsUnder (Some names) name bytes = names name ≡ Some bytes

-- where the names are told, nothing is under the name
abbrev pub Lacks : Option Names → List ℕ → Type 0
Lacks None name = ⊤
Lacks (Some names) name = names name ≡ None

-- where the names are told, something is under the name
abbrev pub HasName : Option Names → List ℕ → Type 0
HasName None name = ⊤
HasName (Some names) name = IsSome (names name)

-- the names with these bytes under one of them
abbrev pub with_entry : Option Names → List ℕ → List ℕ → Option Names
with_entry None name bytes = None
with_entry (Some names) name bytes = Some (λ other. if bytes_eq name other then Some bytes else names other)

-- the names are told after as before, and have the same under every other name
abbrev pub SameElsewhere : Option Names → Option Names → List ℕ → Type 0
SameElsewhere None None name = ⊤
SameElsewhere (Some old) (Some new) name = (other : List ℕ) → other ≢ name → new other ≡ old other
SameElsewhere None (Some new) name = ⊥
SameElsewhere (Some old) None name = ⊥

-- known bytes, and then these
abbrev pub appended : Option (List ℕ) → List ℕ → Option (List ℕ)
appended None bytes = None
appended (Some known) bytes = Some (known ++ bytes)

-- the new bytes are the old ones and then a front of these
abbrev pub AppendsFront : Option (List ℕ) → Option (List ℕ) → List ℕ → Type 0
AppendsFront old new bytes = (n : ℕ) × (n ≤ length bytes) × (new ≡ appended old (take n bytes))
