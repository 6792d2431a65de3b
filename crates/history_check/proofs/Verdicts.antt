-- The verdict is `Legal` exactly where the lines are a legal history that serves the lanes.
use Rattle.std.proofs.Common.{◌≡◌, inl, inr, ◌⊎◌, ℕ, ◌+◌, ◌≤◌, List, [], ◌∷◌, ◌++◌, length, map, Bool, true, false, Option, Some, None, ap, subst, ◌∙◌, sym, refl, append_assoc, append-nil}
use Rattle.std.specs.Prelude.{IsTrue, if◌then◌else◌}
use Rattle.plain_files.specs.declared.calls.Call.{Call}
use Rattle.plain_files.specs.declared.calls.Reply.{Reply}
use Rattle.plain_files.specs.declared.calls.Request.{Request}
use Rattle.plain_files.specs.Plain.{State, answer}
use Rattle.plain_files.specs.History.{Entry, is_excuse}
use Rattle.history_check.specs.declared.verdict.Verdict.{Verdict}
use Rattle.history_check.specs.declared.verdict.Verdict.TheVariants.{Legal, Differs, Order}
use Rattle.history_check.specs.Histories.{IsHistory}
use Rattle.history_check.specs.Replies.{is_same_reply}
use Rattle.history_check.specs.Verdicts.{Line, entry, lines_of, made_in, next_request, are_all_made, in_order, agrees, verdict}
use Rattle.history_check.specs.Held.{Moves}
use Rattle.history_check.proofs.Followed.{Follows, IsNext, no_entries, next_parts, one_more, all_served}
use Rattle.history_check.proofs.Same.{same_equal}

if_legal : (b : Bool) (n m calls : ℕ) → (if b then Legal n else Order m) ≡ Legal calls → b ≡ true
if_legal true n m calls is = refl
if_legal false n m calls is = cc

in_order_legal : (number : ℕ) (o : Option Request) (next : Request → Verdict) (calls : ℕ) → in_order number o next ≡ Legal calls → (r : Request) × (o ≡ Some r) × (next r ≡ Legal calls)
in_order_legal number None next calls is = cc
in_order_legal number (Some r) next calls is = (r, refl, is)

two_ways : (b c : Bool) (x y : Verdict) (number calls : ℕ) (expected : Reply) → (if b then x else if c then y else Differs number expected) ≡ Legal calls → ((b ≡ true) × (x ≡ Legal calls)) ⊎ ((c ≡ true) × (y ≡ Legal calls))
two_ways true c x y number calls expected is = inl (refl, is)
two_ways false true x y number calls expected is = inr (refl, is)
two_ways false false x y number calls expected is = cc

agrees_legal : (number : ℕ) (state : State) (call : Call) (reply : Reply) (next : State → Verdict) (calls : ℕ) → agrees number state call reply next ≡ Legal calls → (after : State) × Moves state call reply after × (next after ≡ Legal calls)
agrees_legal number state call reply next calls is =
    elim (two_ways (is_excuse reply) (is_same_reply reply (answer state call).reply) (next state) (next (answer state call).state) number calls (answer state call).reply is) [
      | inl w ↦ (state, inr (w.0, refl), w.1)
      | inr w ↦ ((answer state call).state, inl (same_equal reply (answer state call).reply w.0, refl), w.1)
    ]

-- what lines behind some entries are, where the verdict is `Legal`
record IsRest (lanes : List (List Request)) (first : State) (before : List Entry) (lines : List Line) : Type 0 where
  pub rest : List Entry
  pub last : State
  pub spelled : lines ≡ lines_of before rest
  pub follows : Follows lanes first (before ++ rest) last
  pub all : are_all_made lanes 0 (made_in (before ++ rest)) ≡ true

legal_rest : (lanes : List (List Request)) (first state : State) (before : List Entry) (lines : List Line) (calls : ℕ) → Follows lanes first before state → verdict lanes state before lines ≡ Legal calls → IsRest lanes first before lines
legal_rest lanes first state before [] calls follows is =
    let P : List Entry → Type 0 = λ h. Follows lanes first h state in
    let Q : List Entry → Type 0 = λ h. are_all_made lanes 0 (made_in h) ≡ true in
    let all : are_all_made lanes 0 (made_in before) ≡ true = if_legal (are_all_made lanes 0 (made_in before)) (length before) (length before + 1) calls is in
    record {
      rest = [];
      last = state;
      spelled = refl;
      follows = subst P (sym (append-nil before)) follows;
      all = subst Q (sym (append-nil before)) all;
    }
legal_rest lanes first state before (line ∷ lines) calls follows is =
    let found = in_order_legal (length before + 1) (next_request lanes (made_in before) line.0 line.1) (λ request. agrees (length before + 1) state request.call line.2 (λ after. verdict lanes after (before ++ entry line.0 request.call line.2 ∷ []) lines)) calls is in
    let moved = agrees_legal (length before + 1) state found.0.call line.2 (λ after. verdict lanes after (before ++ entry line.0 found.0.call line.2 ∷ []) lines) calls found.2 in
    let e : Entry = entry line.0 found.0.call line.2 in
    let next = next_parts lanes (made_in before) line.0 line.1 found.0 found.1 in
    let left = legal_rest lanes first moved.0 (before ++ e ∷ []) lines calls (one_more lanes first before state line.0 line.1 found.0 line.2 moved.0 follows next moved.1) moved.2 in
    let P : List Entry → Type 0 = λ h. Follows lanes first h left.last in
    let Q : List Entry → Type 0 = λ h. are_all_made lanes 0 (made_in h) ≡ true in
    let head : line ≡ (line.0, made_in before line.0 + 1, line.2) = ap (λ k. (line.0, k, line.2)) next.number in
    record {
      rest = e ∷ left.rest;
      last = left.last;
      spelled = ap (λ l. l ∷ lines) head ∙ ap (λ ls. (line.0, made_in before line.0 + 1, line.2) ∷ ls) left.spelled;
      follows = subst P (append_assoc before (e ∷ []) left.rest) left.follows;
      all = subst Q (append_assoc before (e ∷ []) left.rest) left.all;
    }

-- lines whose verdict is `Legal` are a history
pub legal_history : (lanes : List (List Request)) (first : State) (lines : List Line) (calls : ℕ) → verdict lanes first [] lines ≡ Legal calls → (last : State) × IsHistory lanes first lines last
legal_history lanes first lines calls is =
    let rest = legal_rest lanes first first [] lines calls (no_entries lanes first) is in (
      rest.last,
      record {
        history = rest.rest;
        spelled = rest.spelled;
        legal = rest.follows.legal;
        serves = all_served lanes first rest.rest rest.last rest.follows rest.all;
      },
    )
