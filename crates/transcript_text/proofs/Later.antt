-- The loop over the lines of a transcript.
use Rattle.std.proofs.Common.{◌≡◌, ℕ, ◌+◌, ◌<◌, List, ◌∷◌, length, map, drop, get_or, true, Result, Err, ap, sym, ◌∙◌, arith}
use Rattle.std.proofs.lemmas.Bool.{cond-true}
use Rattle.std.proofs.lemmas.List.{drop_more}
use Rattle.script_words.specs.declared.script.Lane.{Lane}
use Rattle.transcript_text.specs.Transcripts.{Entry, parts, is_places, at_end, read_entries}

-- a line stands behind the last one
pub line_behind : {A : Type 0} (seen : A → List ℕ) (lanes : List Lane) (whole : Result (List Entry) ℕ) (entries : List Entry) (all : List A) (i : ℕ) (d : A) → i + 1 < length all → read_entries lanes (i + 1) entries (map seen (drop i all)) ≡ whole → is_places (parts (seen (get_or all i d))) ≡ true → whole ≡ Err (i + 1 + 1)
line_behind seen lanes whole entries all i d more same last =
    let first : drop i all ≡ get_or all i d ∷ drop (i + 1) all = drop_more all i d (omega arith) in
    let second : drop (i + 1) all ≡ get_or all (i + 1) d ∷ drop (i + 1 + 1) all = drop_more all (i + 1) d more in
    sym same
    ∙ ap (λ ls. read_entries lanes (i + 1) entries (map seen ls)) first
    ∙ cond-true _ _ _ last
    ∙ ap (λ ls. at_end (i + 1) entries (map seen ls)) second
