-- An image's pages cut by die and joined again: image page p is page p / dies of die p mod dies. This project's own.
use Rattle.std.specs.Prelude.{ℕ, ◌+◌, ◌*◌, ◌/◌, ◌%◌, List, [], length, get_or, map}
use Rattle.std.specs.List.{range_with_len}
use Rattle.page_base.specs.Drive.{die_share}

-- the image's pages on one die, by place: its page k is image page k * dies + die
abbrev pub cut : List (List ℕ) → ℕ → ℕ → List (List ℕ)
cut pages dies die = map (λ place. get_or pages (place * dies + die) []) (range_with_len 0 (die_share (length pages) dies die))

-- those of each die
abbrev pub cuts : List (List ℕ) → ℕ → List (List (List ℕ))
cuts pages dies = map (λ die. cut pages dies die) (range_with_len 0 dies)

-- so many pages in the order of the image, each from its place on its die
abbrev pub joined : List (List (List ℕ)) → ℕ → ℕ → List (List ℕ)
joined lists dies total = map (λ page. get_or (get_or lists (page % dies) []) (page / dies) []) (range_with_len 0 total)
