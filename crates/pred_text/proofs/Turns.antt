-- A byte more of a text.
use Rattle.std.proofs.Common.{◌≡◌, ℕ, ◌+◌, List, [], ◌∷◌, Bool, true, false, Ok, refl}
use Rattle.std.specs.Prelude.{if◌then◌else◌, not, ◌&&◌}
use Rattle.pred_text.specs.declared.place.Place.{Place}
use Rattle.pred_text.specs.Words.{tokens, is_blank, is_paren, run_of}
use Rattle.pred_text.specs.Places.{step}
use Rattle.pred_text.specs.Reading.{on_step, reads}
use Rattle.pred_text.specs.Turns.{is_in_run, step_in}

pub byte_more : (size : ℕ) (place : Place) (in_run : Bool) (at b : ℕ) (bs : List ℕ) → reads size place (tokens in_run at (b ∷ bs)) ≡ on_step (λ later. reads size later (tokens (is_in_run b) (at + 1) bs)) at (step_in place in_run b (b ∷ bs))
byte_more size place in_run at b bs = by (is_blank b) (is_paren b) in_run
  where
    by : (blank paren in_run : Bool) → reads size place (if blank then tokens false (at + 1) bs else if paren then record { at = at; word = b ∷ [] } ∷ tokens false (at + 1) bs else if in_run then tokens true (at + 1) bs else record { at = at; word = run_of (b ∷ bs) } ∷ tokens true (at + 1) bs) ≡ on_step (λ later. reads size later (tokens (not blank && not paren) (at + 1) bs)) at (if blank then Ok place else if paren then step place (b ∷ []) else if in_run then Ok place else step place (run_of (b ∷ bs)))
    by true paren in_run = refl
    by false true in_run = refl
    by false false true = refl
    by false false false = refl
