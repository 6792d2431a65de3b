-- One log more is taken out of its post.
use Rattle.std.proofs.Common.{◌≡◌, ℕ, ◌+◌, ◌<◌, ◌≤◌, List, [], ◌∷◌, ◌++◌, length, Some, refl, sym, ap, ◌∙◌, inl, inr, ⊎_elim, arith, length-append, get_or-set_other}
use Rattle.std.specs.Prelude.{◌⊎◌, slice_get, slice_set, slice_index_or}
use Rattle.std.proofs.lemmas.List.{get_or_push, get_or_append_left, get_or_default}
use Rattle.std.proofs.lemmas.Option.{slice_get_within, slice_get_read, get_or_from_slice_get}
use mathlib.Core.Logic.{dite}
use native.Mathlib.Decide.{ℕ_discrete}
use Rattle.crews.specs.declared.post.Post.{Post}
use Rattle.lane_logs.specs.declared.logs.LaneLog.{LaneLog}

-- a log of the ones with one more is the last one, or one of those before
at_push : (logs : List LaneLog) (new log : LaneLog) (l : ℕ) → slice_get (logs ++ new ∷ []) l ≡ Some log → ((l ≡ length logs) × (log ≡ new)) ⊎ (slice_get logs l ≡ Some log)
at_push logs new log l at =
    let long = length-append logs (new ∷ []) in
    let within = slice_get_within (logs ++ new ∷ []) l log at in
    let is : slice_index_or (logs ++ new ∷ []) l log ≡ log = get_or_from_slice_get (logs ++ new ∷ []) l log log at in
    dite (ℕ_discrete l (length logs))
    (λ e. inl (e, sym is ∙ get_or_push logs new log l (sym e)))
    (λ ne. let below : l < length logs = omega arith in
    inr (slice_get_read logs (length logs) l log refl below (sym is ∙ get_or_append_left logs (new ∷ []) log l below)))

module _ {D J : Type 0} where
  -- the logs that were taken are those of the first posts
  abbrev pub AreTaken : List (Post D J) → List LaneLog → Type 0
  AreTaken posts logs = (l : ℕ) (d : Post D J) (log : LaneLog) → slice_get logs l ≡ Some log → (log.lane ≡ l) × (log.entries ≡ (slice_index_or posts l d).log)

  -- from place k on they are as they were
  abbrev pub AreLeft : List (Post D J) → List (Post D J) → ℕ → Type 0
  AreLeft olds posts k = (j : ℕ) (d : Post D J) → k ≤ j → j < length olds → slice_index_or posts j d ≡ slice_index_or olds j d

  pub left_on : (olds posts : List (Post D J)) (k : ℕ) (next : Post D J) → AreLeft olds posts k → AreLeft olds (slice_set posts k next) (k + 1)
  left_on olds posts k next all j d from l = get_or-set_other posts k j next d (λ e. absurd (omega arith)) ∙ all j d (omega arith) l

  pub taken_on : (olds posts : List (Post D J)) (logs : List LaneLog) (k : ℕ) (item : Post D J) (new : LaneLog) → length logs ≡ k → k < length olds → length posts ≡ length olds → item ≡ slice_index_or posts k item → new.lane ≡ k → new.entries ≡ item.log →
      AreLeft olds posts k → AreTaken olds logs → AreTaken olds (logs ++ new ∷ [])
  taken_on olds posts logs k item new long low same is number entries left all l d log at = ⊎_elim
      (λ here.
      let place : l ≡ k = here.0 ∙ long in
      let post : slice_index_or olds l d ≡ item = (λ i. slice_index_or olds (place i) d) ∙ (sym (left k d (omega arith) low) ∙ (get_or_default posts k d item (omega arith) ∙ sym is)) in
      (ap (λ (z : LaneLog). z.lane) here.1 ∙ (number ∙ sym place), ap (λ (z : LaneLog). z.entries) here.1 ∙ (entries ∙ ap (λ (z : Post D J). z.log) (sym post))))
      (λ before. all l d log before) (at_push logs new log l at)
