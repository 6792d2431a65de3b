-- The predicate that a text is, or its first faulty token. This project's own.
use Rattle.std.specs.Prelude.{◌≡◌, ⊤, ℕ, List, [], ◌∷◌, length, false, Result, Ok, Err}
use Rattle.predicates.specs.declared.pred.Pred.{Pred}
use Rattle.pred_text.specs.declared.fault.PredFault.{PredFault}
use Rattle.pred_text.specs.declared.fault.PredKind.{PredKind}
use Rattle.pred_text.specs.declared.fault.PredKind.TheVariants as kind
use Rattle.pred_text.specs.declared.fault.PredTextErr.{PredTextErr}
use Rattle.pred_text.specs.declared.fault.PredTextErr.TheVariants as err
use Rattle.pred_text.specs.declared.place.Next.{Next}
use Rattle.pred_text.specs.declared.place.Next.TheVariants as next
use Rattle.pred_text.specs.declared.place.Place.{Place}
use Rattle.pred_text.specs.Words.{Token, tokens}
use Rattle.pred_text.specs.Places.{place, step}

abbrev pub faulty : ℕ → PredKind → Result Pred PredFault
faulty at kind = Err (record { at = at; kind = kind })

-- the text ends here, at an offset: a whole predicate was read, or a token is wanting
abbrev pub ended : ℕ → Next → Result Pred PredFault
ended at (next.End p) = Ok p
ended at _ = faulty at kind.Form

-- a token led to a place, from which the text goes on, or was faulty
abbrev pub on_step : (Place → Result Pred PredFault) → ℕ → Result Place PredKind → Result Pred PredFault
on_step on at (Ok place) = on place
on_step on at (Err kind) = faulty at kind

-- what the tokens that are left lead to, of a text of so many bytes
abbrev pub reads : ℕ → Place → List Token → Result Pred PredFault
reads size place [] = ended size place.next
reads size place (token ∷ rest) = on_step (λ later. reads size later rest) token.at (step place token.word)

-- a predicate may stand at the beginning, and no connective is open
abbrev pub start : Place
start = place 0 [] next.Predicate

-- the predicate that a text is, or its first faulty token
abbrev pub read_pred : List ℕ → Result Pred PredFault
read_pred text = reads (length text) start (tokens false 0 text)

-- what a function answered is what reading gives, unless memory ran out
abbrev pub ReadsPred : Result Pred PredTextErr → Result Pred PredFault → Type 0
ReadsPred (Ok p) read = read ≡ Ok p
ReadsPred (Err (err.Text fault)) read = read ≡ Err fault
ReadsPred (Err err.NoMemory) read = ⊤
