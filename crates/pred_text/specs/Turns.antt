-- How reading goes on byte for byte. No reader need believe this: it is proved to be reading token for token. This
-- project's own.
use Rattle.std.specs.Prelude.{ℕ, List, [], ◌∷◌, Bool, not, ◌&&◌, if◌then◌else◌, Result, Ok}
use Rattle.pred_text.specs.declared.fault.PredKind.{PredKind}
use Rattle.pred_text.specs.declared.place.Place.{Place}
use Rattle.pred_text.specs.Words.{is_blank, is_paren, run_of}
use Rattle.pred_text.specs.Places.{step}

-- a byte of a run
abbrev pub is_in_run : ℕ → Bool
is_in_run b = not (is_blank b) && not (is_paren b)

-- where the token leads that begins at the first byte of those that are left, if one does
abbrev pub step_in : Place → Bool → ℕ → List ℕ → Result Place PredKind
step_in place in_run b left =
    if is_blank b then Ok place
    else if is_paren b then step place (b ∷ [])
    else if in_run then Ok place
    else step place (run_of left)
