-- The first file of a name, from a place on.
use Rattle.std.proofs.Common.{◌≡◌, inl, inr, ℕ, ◌+◌, List, [], ◌∷◌, drop, true, false, Some, None, refl, ap, sym, ◌∙◌}
use Rattle.std.specs.List.{slice_get}
use Rattle.std.proofs.lemmas.List.{drop_more, drop_all}
use Rattle.std.proofs.lemmas.Option.{slice_get_within, get_or_from_slice_get, slice_get_cases}
use Rattle.plain_files.specs.declared.calls.PlainFile.{PlainFile}
use Rattle.plain_files.specs.Plain.{is_file, file_of}

-- what is left from a file on
left_at : (files : List PlainFile) (i : ℕ) (file : PlainFile) → slice_get files i ≡ Some file → drop i files ≡ file ∷ drop (i + 1) files
left_at files i file is = drop_more files i file (slice_get_within files i file is) ∙ ap (λ f. f ∷ drop (i + 1) files) (get_or_from_slice_get files i file file is)

none_left : (files : List PlainFile) (i : ℕ) → slice_get files i ≡ None → drop i files ≡ []
none_left files i is =
    elim (slice_get_cases files i).1 [
      | inl there ↦ let e : None ≡ Some there.0 = sym is ∙ there.2 in cc
      | inr past ↦ drop_all i files past.0
    ]

at_front : (name : List ℕ) (file : PlainFile) (rest : List PlainFile) → is_file name file ≡ true → file_of name (file ∷ rest) ≡ Some file
at_front name file rest is = rw is refl

behind_front : (name : List ℕ) (file : PlainFile) (rest : List PlainFile) → is_file name file ≡ false → file_of name (file ∷ rest) ≡ file_of name rest
behind_front name file rest is = rw is refl

-- no file is left
pub not_found : (name : List ℕ) (files : List PlainFile) (i : ℕ) → slice_get files i ≡ None → file_of name (drop i files) ≡ file_of name files → None ≡ file_of name files
not_found name files i is same = sym (ap (λ fs. file_of name fs) (none_left files i is)) ∙ same

-- this file has the name
pub found_here : (name : List ℕ) (files : List PlainFile) (i : ℕ) (file : PlainFile) → slice_get files i ≡ Some file → is_file name file ≡ true → file_of name (drop i files) ≡ file_of name files → Some file ≡ file_of name files
found_here name files i file is here same =
    sym (at_front name file (drop (i + 1) files) here) ∙ sym (ap (λ fs. file_of name fs) (left_at files i file is)) ∙ same

-- this file has another
pub found_later : (name : List ℕ) (files : List PlainFile) (i : ℕ) (file : PlainFile) → slice_get files i ≡ Some file → is_file name file ≡ false → file_of name (drop i files) ≡ file_of name files → file_of name (drop (i + 1) files) ≡ file_of name files
found_later name files i file is other same =
    sym (behind_front name file (drop (i + 1) files) other) ∙ sym (ap (λ fs. file_of name fs) (left_at files i file is)) ∙ same
