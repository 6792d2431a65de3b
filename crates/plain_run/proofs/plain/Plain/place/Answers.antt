use Rattle.std.proofs.Common.{◌≡◌, ap, ◌∙◌, Some, ℕ, List, false}
use Rattle.std.specs.List.{position}
use Rattle.plain_files.specs.declared.calls.PlainFile.{PlainFile}
use Rattle.plain_files.specs.Plain.{State, is_file, has_no_file}
use Rattle.plain_run.proofs.Places.{FilePlace, file_place, nowhere}
use Rattle.plain_run.proofs.plain.Plain.place.Goals as goal

-- a place of the same name in the same files
place_in : (s : State) (name name' : List ℕ) (files : List PlainFile) (i : ℕ) → has_no_file s name ≡ false → name' ≡ name → files ≡ s.files → Some i ≡ position (is_file name') files → FilePlace s name i
place_in s name name' files i some named same found =
    file_place s name i some (found ∙ ap (λ n. position (is_file n) files) named ∙ ap (λ fs. position (is_file name) fs) same)

pub unreachable-requires : goal.unreachable-requires
unreachable-requires c =
    let same = c.deref.ensures.value ∙ ap (λ (s : State). s.files) c.self.view_is in
    nowhere (is_file c.args.name.now) c.args.self.now.files (c.in-None.ensures ∙ ap (λ n. position (is_file n) c.deref.result.now) c.as_slice.ensures ∙ ap (λ fs. position (is_file c.args.name.now) fs) same) c.requires

pub returns-clause-found : goal.returns-clause-found
returns-clause-found c = (place_in c.args.self.now c.args.name.now c.as_slice.result.now c.deref.result.now c.in-Some.i c.requires c.as_slice.ensures (c.deref.ensures.value ∙ ap (λ (s : State). s.files) c.self.view_is) c.in-Some.ensures).found

pub returns-clause-changed : goal.returns-clause-changed
returns-clause-changed c = (place_in c.args.self.now c.args.name.now c.as_slice.result.now c.deref.result.now c.in-Some.i c.requires c.as_slice.ensures (c.deref.ensures.value ∙ ap (λ (s : State). s.files) c.self.view_is) c.in-Some.ensures).changed

pub returns-clause-removed : goal.returns-clause-removed
returns-clause-removed c = (place_in c.args.self.now c.args.name.now c.as_slice.result.now c.deref.result.now c.in-Some.i c.requires c.as_slice.ensures (c.deref.ensures.value ∙ ap (λ (s : State). s.files) c.self.view_is) c.in-Some.ensures).removed
