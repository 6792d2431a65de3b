-- What may stand at a place of the text of a predicate, and where a token leads: `(and P P)`, `(or P P)`, `(not P)` and
-- `(CMP OFF SIZE NUMBER)`. This project's own.
use Rattle.std.specs.Prelude.{◌≡◌, ℕ, ◌+◌, ◌^◌, ◌-◌, List, [], ◌∷◌, ◌||◌, nat_lt, if◌then◌else◌, codes, bytes_eq, Option, Some, None, Result, Ok, Err, ⊤}
use Rattle.script_words.specs.Words.{number_in}
use Rattle.predicates.specs.declared.pred.PredCond.{PredCond}
use Rattle.predicates.specs.declared.pred.Pred.{Pred, Cmp}
use Rattle.predicates.specs.declared.pred.Pred.TheVariants as pred
use Rattle.pred_text.specs.declared.fault.PredKind.{PredKind}
use Rattle.pred_text.specs.declared.fault.PredKind.TheVariants as kind
use Rattle.pred_text.specs.declared.opens.Join.{Join}
use Rattle.pred_text.specs.declared.opens.Join.TheVariants as join
use Rattle.pred_text.specs.declared.opens.Open.{Open}
use Rattle.pred_text.specs.declared.opens.Open.TheVariants as part
use Rattle.pred_text.specs.declared.place.Next.{Next}
use Rattle.pred_text.specs.declared.place.Next.TheVariants as next
use Rattle.pred_text.specs.declared.place.Place.{Place}
use Rattle.pred_text.specs.declared.steps.StepErr.{StepErr}
use Rattle.pred_text.specs.declared.steps.StepErr.TheVariants as step_err
use Rattle.pred_text.specs.Words.{is_open, is_shut, cond_of}

-- the innermost connective was taken off
abbrev pub Popped : List Open → List Open → Option Open → Type 0
Popped [] after popped = (after ≡ []) × (popped ≡ None)
Popped (first ∷ rest) after popped = (after ≡ rest) × (popped ≡ Some first)

abbrev pub place : ℕ → List Open → Next → Place
place nodes opens wanted = record { nodes = nodes; opens = opens; next = wanted }

abbrev pub joined : Join → Pred → Pred → Pred
joined join.And a b = pred.And a b
joined join.Or a b = pred.Or a b

-- ---- where a token leads, by what may stand

-- a predicate: `(`, of at most 200
unfoldable pub at_predicate : ℕ → List Open → List ℕ → Result Place PredKind
at_predicate nodes opens word =
    if is_open word then (if nat_lt nodes 200 then Ok (place (nodes + 1) opens next.Word) else Err kind.Nodes)
    else Err kind.Form

abbrev pub at_comparison : ℕ → List Open → Option PredCond → Result Place PredKind
at_comparison nodes opens None = Err kind.Form
at_comparison nodes opens (Some cond) = Ok (place nodes opens (next.Offset cond))

-- the word of a connective or of a comparison
unfoldable pub at_word : ℕ → List Open → List ℕ → Result Place PredKind
at_word nodes opens word =
    if bytes_eq word (codes "and") then Ok (place nodes (part.First join.And ∷ opens) next.Predicate)
    else if bytes_eq word (codes "or") then Ok (place nodes (part.First join.Or ∷ opens) next.Predicate)
    else if bytes_eq word (codes "not") then Ok (place nodes (part.Not ∷ opens) next.Predicate)
    else at_comparison nodes opens (cond_of word)

abbrev pub read_number : Option ℕ → Result ℕ PredKind
read_number None = Err kind.Number
read_number (Some n) = Ok n

-- a number up to a greatest one
unfoldable pub number : ℕ → List ℕ → Result ℕ PredKind
number most word = if is_open word || is_shut word then Err kind.Form else read_number (number_in 0 most word)

-- a number was read, and this is wanted next
abbrev pub with_number : ℕ → List Open → (ℕ → Next) → Result ℕ PredKind → Result Place PredKind
with_number nodes opens wanted (Ok n) = Ok (place nodes opens (wanted n))
with_number nodes opens wanted (Err kind) = Err kind

-- a predicate was read: the whole one, or a part of the innermost connective, which was taken off
abbrev pub closed_in : ℕ → List Open → Option Open → Pred → Place
closed_in nodes opens None p = place nodes opens (next.End p)
closed_in nodes opens (Some (part.First j)) p = place nodes (part.Second j p ∷ opens) next.Predicate
closed_in nodes opens (Some (part.Second j a)) p = place nodes opens (next.Close (joined j a p))
closed_in nodes opens (Some part.Not) p = place nodes opens (next.Close (pred.Not p))

abbrev pub closed : ℕ → List Open → Pred → Place
closed nodes [] p = closed_in nodes [] None p
closed nodes (first ∷ rest) p = closed_in nodes rest (Some first) p

abbrev pub at_close : ℕ → List Open → Pred → List ℕ → Result Place PredKind
at_close nodes opens p word = if is_shut word then Ok (closed nodes opens p) else Err kind.Form

-- a token at a place
abbrev pub step_at : ℕ → List Open → Next → List ℕ → Result Place PredKind
step_at nodes opens next.Predicate word = at_predicate nodes opens word
step_at nodes opens next.Word word = at_word nodes opens word
step_at nodes opens (next.Offset cond) word = with_number nodes opens (λ off. next.Size cond off) (number (2 ^ 32 - 1) word)
step_at nodes opens (next.Size cond off) word = with_number nodes opens (λ size. next.Value cond off size) (number (2 ^ 32 - 1) word)
step_at nodes opens (next.Value cond off size) word =
    with_number nodes opens (λ value. next.Close (Cmp cond off size value)) (number (2 ^ 64 - 1) word)
step_at nodes opens (next.Close p) word = at_close nodes opens p word
step_at nodes opens (next.End p) word = Err kind.Form

abbrev pub step : Place → List ℕ → Result Place PredKind
step place word = step_at place.nodes place.opens place.next word

-- what a function answered is where a token leads, unless memory ran out
abbrev pub Steps : Result Place StepErr → Result Place PredKind → Type 0
Steps (Ok later) leads = leads ≡ Ok later
Steps (Err (step_err.Kind kind)) leads = leads ≡ Err kind
Steps (Err step_err.NoMemory) leads = ⊤
