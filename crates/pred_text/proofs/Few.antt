-- A predicate that was read has as many nodes as began, which are at most 200.
use Rattle.std.proofs.Common.{◌≡◌, ℕ, ◌+◌, ◌≤◌, List, [], ◌∷◌, Bool, true, false, Option, Some, None, Ok, Err, refl, ap, arith, ◌-◌, ◌^◌, length}
use Rattle.std.proofs.lemmas.Bool.Decides.{nat_tests}
use Rattle.std.specs.Prelude.{Result, IfOk, nat_lt, if◌then◌else◌, codes, bytes_eq}
use Rattle.predicates.proofs.NodeLaws.{nodes-and, nodes-or, nodes-not}
use Rattle.predicates.specs.declared.pred.PredCond.{PredCond}
use Rattle.predicates.specs.declared.pred.Pred.{Pred, Cmp}
use Rattle.predicates.specs.declared.pred.Pred.TheVariants as pred
use Rattle.predicates.specs.Nodes.{nodes}
use Rattle.pred_text.specs.declared.fault.PredFault.{PredFault}
use Rattle.pred_text.specs.declared.fault.PredKind.{PredKind}
use Rattle.pred_text.specs.declared.fault.PredKind.TheVariants as kind
use Rattle.pred_text.specs.declared.fault.PredTextErr.{PredTextErr}
use Rattle.pred_text.specs.declared.opens.Join.{Join}
use Rattle.pred_text.specs.declared.opens.Join.TheVariants as join
use Rattle.pred_text.specs.declared.opens.Open.{Open}
use Rattle.pred_text.specs.declared.opens.Open.TheVariants as part
use Rattle.pred_text.specs.declared.place.Next.{Next}
use Rattle.pred_text.specs.declared.place.Next.TheVariants as next
use Rattle.pred_text.specs.declared.place.Place.{Place}
use Rattle.pred_text.specs.Words.{Token, tokens, is_open, is_shut, cond_of}
use Rattle.pred_text.specs.Places.{place, joined, at_predicate, at_comparison, at_word, number, with_number, closed, at_close, step_at, step}
use Rattle.pred_text.specs.Reading.{ended, on_step, reads, start, read_pred, ReadsPred}

-- the nodes that began in what is open, and in what may stand next
abbrev opened : List Open → ℕ
opened [] = 0
opened (part.First j ∷ opens) = 1 + opened opens
opened (part.Second j a ∷ opens) = 1 + nodes a + opened opens
opened (part.Not ∷ opens) = 1 + opened opens

abbrev wanted : Next → ℕ
wanted next.Predicate = 0
wanted (next.Close p) = nodes p
wanted (next.End p) = nodes p
wanted _ = 1

-- they are those that began, at most 200
record IsCounted (p : Place) : Type 0 where
  all : wanted p.next + opened p.opens ≡ p.nodes
  few : p.nodes ≤ 200

abbrev IfPlace : Result Place PredKind → Type 0
IfPlace (Ok p) = IsCounted p
IfPlace (Err kind) = Unit {0}

join_nodes : (j : Join) (a b : Pred) → nodes (joined j a b) ≡ 1 + nodes a + nodes b
join_nodes join.And a b = let e = nodes-and a b in omega (arith, e)
join_nodes join.Or a b = let e = nodes-or a b in omega (arith, e)

not_nodes : (a : Pred) → nodes (pred.Not a) ≡ 1 + nodes a
not_nodes a = let e = nodes-not a in omega (arith, e)

-- ---- a step

predicate_counted : (n : ℕ) (opens : List Open) (word : List ℕ) → opened opens ≡ n → IfPlace (at_predicate n opens word)
unfolding at_predicate
predicate_counted n opens word all = by (is_open word) (nat_lt n 200) refl
  where
    by : (b c : Bool) → nat_lt n 200 ≡ c → IfPlace (if b then (if c then Ok (place (n + 1) opens next.Word) else Err kind.Nodes) else Err kind.Form)
    by true true is = record { all = omega (arith, all); few = grind (arith, nat_tests) }
    by true false is = tt
    by false c is = tt

comparison_counted : (n : ℕ) (opens : List Open) (cond : Option PredCond) → 1 + opened opens ≡ n → n ≤ 200 → IfPlace (at_comparison n opens cond)
comparison_counted n opens None all few = tt
comparison_counted n opens (Some cond) all few = record { all = all; few = few }

word_counted : (n : ℕ) (opens : List Open) (word : List ℕ) → 1 + opened opens ≡ n → n ≤ 200 → IfPlace (at_word n opens word)
unfolding at_word
word_counted n opens word all few = by (bytes_eq word (codes "and")) (bytes_eq word (codes "or")) (bytes_eq word (codes "not"))
  where
    by : (a b c : Bool) → IfPlace (if a then Ok (place n (part.First join.And ∷ opens) next.Predicate) else if b then Ok (place n (part.First join.Or ∷ opens) next.Predicate) else if c then Ok (place n (part.Not ∷ opens) next.Predicate) else at_comparison n opens (cond_of word))
    by true b c = record { all = omega (arith, all); few = few }
    by false true c = record { all = omega (arith, all); few = few }
    by false false true = record { all = omega (arith, all); few = few }
    by false false false = comparison_counted n opens (cond_of word) all few

number_counted : (n : ℕ) (opens : List Open) (then_wanted : ℕ → Next) (read : Result ℕ PredKind) → ((k : ℕ) → wanted (then_wanted k) ≡ 1) → 1 + opened opens ≡ n → n ≤ 200 → IfPlace (with_number n opens then_wanted read)
number_counted n opens then_wanted (Ok k) one all few = let e = one k in record { all = omega (arith, e, all); few = few }
number_counted n opens then_wanted (Err kind) one all few = tt

closed_counted : (n : ℕ) (opens : List Open) (p : Pred) → nodes p + opened opens ≡ n → n ≤ 200 → IsCounted (closed n opens p)
closed_counted n [] p all few = record { all = all; few = few }
closed_counted n (part.First j ∷ rest) p all few = record { all = omega (arith, all); few = few }
closed_counted n (part.Second j a ∷ rest) p all few = let e = join_nodes j a p in record { all = omega (arith, all, e); few = few }
closed_counted n (part.Not ∷ rest) p all few = let e = not_nodes p in record { all = omega (arith, all, e); few = few }

close_counted : (n : ℕ) (opens : List Open) (p : Pred) (word : List ℕ) → nodes p + opened opens ≡ n → n ≤ 200 → IfPlace (at_close n opens p word)
close_counted n opens p word all few = by (is_shut word)
  where
    by : (b : Bool) → IfPlace (if b then Ok (closed n opens p) else Err kind.Form)
    by true = closed_counted n opens p all few
    by false = tt

step_counted : (n : ℕ) (opens : List Open) (then_wanted : Next) (word : List ℕ) → wanted then_wanted + opened opens ≡ n → n ≤ 200 → IfPlace (step_at n opens then_wanted word)
step_counted n opens next.Predicate word all few = predicate_counted n opens word (omega (arith, all))
step_counted n opens next.Word word all few = word_counted n opens word all few
step_counted n opens (next.Offset cond) word all few = number_counted n opens (λ off. next.Size cond off) (number (2 ^ 32 - 1) word) (λ k. refl) all few
step_counted n opens (next.Size cond off) word all few = number_counted n opens (λ size. next.Value cond off size) (number (2 ^ 32 - 1) word) (λ k. refl) all few
step_counted n opens (next.Value cond off size) word all few = number_counted n opens (λ value. next.Close (Cmp cond off size value)) (number (2 ^ 64 - 1) word) (λ k. refl) all few
step_counted n opens (next.Close p) word all few = close_counted n opens p word all few
step_counted n opens (next.End p) word all few = tt

-- ---- the whole text

pred_once : (p q : Pred) → ◌≡◌ {A = Result Pred PredFault} (Ok p) (Ok q) → p ≡ q
pred_once p q is = cc

ended_counted : (size n : ℕ) (opens : List Open) (then_wanted : Next) (q : Pred) → wanted then_wanted + opened opens ≡ n → n ≤ 200 → ended size then_wanted ≡ Ok q → nodes q ≤ 200
ended_counted size n opens (next.End p) q all few is =
    let e : nodes p ≡ nodes q = ap nodes (pred_once p q is) in omega (arith, all, few, e)
ended_counted size n opens next.Predicate q all few is = cc
ended_counted size n opens next.Word q all few is = cc
ended_counted size n opens (next.Offset cond) q all few is = cc
ended_counted size n opens (next.Size cond off) q all few is = cc
ended_counted size n opens (next.Value cond off size') q all few is = cc
ended_counted size n opens (next.Close p) q all few is = cc

step_on : (size at : ℕ) (ts : List Token) (q : Pred) (r : Result Place PredKind) → ((later : Place) → IsCounted later → reads size later ts ≡ Ok q → nodes q ≤ 200) → IfPlace r → on_step (λ later. reads size later ts) at r ≡ Ok q → nodes q ≤ 200
step_on size at ts q (Ok later) on counted is = on later counted is
step_on size at ts q (Err kind) on counted is = cc

reads_counted : (size : ℕ) (p : Place) (ts : List Token) (q : Pred) → IsCounted p → reads size p ts ≡ Ok q → nodes q ≤ 200
reads_counted size p [] q counted is = ended_counted size p.nodes p.opens p.next q counted.all counted.few is
reads_counted size p (t ∷ ts) q counted is =
    step_on size t.at ts q (step p t.word) (λ later. reads_counted size later ts q) (step_counted p.nodes p.opens p.next t.word counted.all counted.few) is

pub if_read : (text : List ℕ) (result : Result Pred PredTextErr) → ReadsPred result (read_pred text) → IfOk result (λ p. nodes p ≤ 200)
if_read text (Ok p) is = reads_counted (length text) start (tokens false 0 text) p (record { all = refl; few = omega arith }) is
if_read text (Err e) is = tt
