-- The lines of a legal history that serves the lanes have the verdict `Legal`.
use Rattle.std.proofs.Common.{◌≡◌, inl, inr, ℕ, zero, suc, ◌+◌, ◌≤◌, List, [], ◌∷◌, ◌++◌, length, map, Bool, true, false, ◌&&◌, nat_eq, eqb, Option, Some, None, ap, subst, ◌∙◌, sym, refl, append_assoc, append-nil, arith}
use Rattle.std.specs.Prelude.{IsTrue, IfSome, slice_get, if◌then◌else◌}
use Rattle.std.specs.Option.{option_map}
use Rattle.std.proofs.lemmas.Bool.{eq-eqb, le-leb}
use Rattle.std.proofs.lemmas.Option.{slice_get-map}
use Rattle.std.proofs.lemmas.List.{length-map}
use Rattle.plain_files.specs.declared.calls.Call.{Call}
use Rattle.plain_files.specs.declared.calls.Reply.{Reply}
use Rattle.plain_files.specs.declared.calls.Request.{Request}
use Rattle.plain_files.specs.Plain.{State, answer}
use Rattle.plain_files.specs.History.{Entry, Legal as LegalHistory, Serves, calls_in, requests_of, is_excuse}
use Rattle.history_check.specs.declared.verdict.Verdict.{Verdict}
use Rattle.history_check.specs.declared.verdict.Verdict.TheVariants.{Legal, Differs, Order}
use Rattle.history_check.specs.Histories.{IsHistory}
use Rattle.history_check.specs.Replies.{is_same_reply}
use Rattle.history_check.specs.Verdicts.{Line, entry, lines_of, made_in, has_come, if_come, next_request, are_all_made, in_order, agrees, verdict}
use Rattle.history_check.proofs.Answers.{no_excuse}
use Rattle.history_check.proofs.Same.{equal_same}

both_true : (b c : Bool) → b ≡ true → c ≡ true → (b && c) ≡ true
both_true b c one two = rw (one, two) refl

all_made_from : (made : ℕ → ℕ) (lanes : List (List Request)) (n : ℕ) → ((i : ℕ) → made (n + i) ≡ length (requests_of lanes i)) → are_all_made lanes n made ≡ true
all_made_from made [] n whole = refl
all_made_from made (requests ∷ lanes) n whole =
    let here : made n ≡ made (n + 0) = ap made (omega arith) in
    both_true _ _ (eq-eqb (made n) (length requests) (here ∙ whole 0))
    (all_made_from made lanes (n + 1) (λ i. let there : made ((n + 1) + i) ≡ made (n + suc i) = ap made (omega arith) in there ∙ whole (suc i)))

if_cons : (b : Bool) (call : Call) (xs ys : List Call) → (if b then call ∷ (xs ++ ys) else xs ++ ys) ≡ (if b then call ∷ xs else xs) ++ ys
if_cons true call xs ys = refl
if_cons false call xs ys = refl

calls_in-append : (lane : ℕ) (a b : List Entry) → calls_in lane (a ++ b) ≡ calls_in lane a ++ calls_in lane b
calls_in-append lane [] b = refl
calls_in-append lane (e ∷ a) b =
    ap (λ t. if eqb e.lane lane then e.call ∷ t else t) (calls_in-append lane a b) ∙ if_cons (eqb e.lane lane) e.call (calls_in lane a) (calls_in lane b)

get_behind : {A : Type 0} → (xs ys : List A) (x : A) → slice_get (xs ++ x ∷ ys) (length xs) ≡ Some x
get_behind [] ys x = refl
get_behind (y ∷ xs) ys x = get_behind xs ys x

from_map : (o : Option Request) (call : Call) → option_map (λ r. r.call) o ≡ Some call → (r : Request) × (o ≡ Some r) × (r.call ≡ call)
from_map None call is = cc
from_map (Some r) call is = let same : r.call ≡ call = cc in (r, refl, same)

-- the request of an entry
request_of : (lanes : List (List Request)) (before rest : List Entry) (e : Entry) → Serves lanes (before ++ e ∷ rest) → (r : Request) × (slice_get (requests_of lanes e.lane) (made_in before e.lane) ≡ Some r) × (r.call ≡ e.call)
request_of lanes before rest e serves =
    let here : calls_in e.lane (e ∷ rest) ≡ e.call ∷ calls_in e.lane rest = ap (λ b. if b then e.call ∷ calls_in e.lane rest else calls_in e.lane rest) (eq-eqb e.lane e.lane refl) in
    let whole : map (λ r. r.call) (requests_of lanes e.lane) ≡ calls_in e.lane before ++ e.call ∷ calls_in e.lane rest =
    sym (serves.each e.lane) ∙ calls_in-append e.lane before (e ∷ rest) ∙ ap (λ t. calls_in e.lane before ++ t) here in
    from_map (slice_get (requests_of lanes e.lane) (made_in before e.lane)) e.call
    (sym (slice_get-map (λ (r : Request). r.call) (requests_of lanes e.lane) (made_in before e.lane))
    ∙ ap (λ cs. slice_get cs (made_in before e.lane)) whole
    ∙ get_behind (calls_in e.lane before) (calls_in e.lane rest) e.call)

come_true : (made : ℕ → ℕ) (awaits : Option (ℕ × ℕ)) → IfSome awaits (λ awaited. awaited.1 ≤ made awaited.0) → has_come made awaits ≡ true
come_true made None come = refl
come_true made (Some awaited) come = le-leb awaited.1 (made awaited.0) come

next_is : (lanes : List (List Request)) (made : ℕ → ℕ) (lane : ℕ) (r : Request) → slice_get (requests_of lanes lane) (made lane) ≡ Some r → has_come made r.awaits ≡ true → next_request lanes made lane (made lane + 1) ≡ Some r
next_is lanes made lane r there come =
    ap (λ b. if b then if_come made (slice_get (requests_of lanes lane) (made lane)) else None) (eq-eqb (made lane + 1) (made lane + 1) refl)
    ∙ ap (if_come made) there
    ∙ ap (λ b. if b then Some r else None) come

pub agrees_moved : (number : ℕ) (state : State) (call : Call) (reply : Reply) (next : State → Verdict) → reply ≡ (answer state call).reply → agrees number state call reply next ≡ next (answer state call).state
agrees_moved number state call reply next is =
    let fine : is_excuse reply ≡ false = ap is_excuse is ∙ no_excuse state call in
    let same : is_same_reply reply (answer state call).reply ≡ true = equal_same reply (answer state call).reply is in
    ap (λ b. if b then next state else if is_same_reply reply (answer state call).reply then next (answer state call).state else Differs number (answer state call).reply) fine
    ∙ ap (λ b. if b then next (answer state call).state else Differs number (answer state call).reply) same

pub agrees_stayed : (number : ℕ) (state : State) (call : Call) (reply : Reply) (next : State → Verdict) → is_excuse reply ≡ true → agrees number state call reply next ≡ next state
agrees_stayed number state call reply next is =
    ap (λ b. if b then next state else if is_same_reply reply (answer state call).reply then next (answer state call).state else Differs number (answer state call).reply) is

complete : (lanes : List (List Request)) (state last : State) (before rest : List Entry) → LegalHistory state rest last → Serves lanes (before ++ rest) → verdict lanes state before (lines_of before rest) ≡ Legal (length (before ++ rest))
complete lanes state last before [] legal serves =
    let P : List Entry → Type 0 = λ h. Serves lanes h in
    let served : Serves lanes before = subst P (append-nil before) serves in
    let whole : (i : ℕ) → made_in before (0 + i) ≡ length (requests_of lanes i) = λ i.
    let same : made_in before (0 + i) ≡ made_in before i = ap (made_in before) (omega arith) in
    same ∙ ap (λ cs. length cs) (served.each i) ∙ length-map (requests_of lanes i) (λ (r : Request). r.call) in
    ap (λ b. if b then Legal (length before) else Order (length before + 1)) (all_made_from (made_in before) lanes 0 whole)
    ∙ ap (λ h. Legal (length h)) (sym (append-nil before))
complete lanes state last before (e ∷ rest) legal serves =
    let found = request_of lanes before rest e serves in
    let come : has_come (made_in before) found.0.awaits ≡ true = come_true (made_in before) found.0.awaits (serves.waits before rest e found.0 refl found.1) in
    let number = length before + 1 in
    let go : Call → State → Verdict = λ call after. verdict lanes after (before ++ entry e.lane call e.reply ∷ []) (lines_of (before ++ e ∷ []) rest) in
    let P : List Entry → Type 0 = λ h. Serves lanes h in
    let served : Serves lanes ((before ++ e ∷ []) ++ rest) = subst P (sym (append_assoc before (e ∷ []) rest)) serves in
    let long : Legal (length ((before ++ e ∷ []) ++ rest)) ≡ Legal (length (before ++ e ∷ rest)) = ap (λ h. Legal (length h)) (append_assoc before (e ∷ []) rest) in
    ap (λ o. in_order number o (λ request. agrees number state request.call e.reply (go request.call))) (next_is lanes (made_in before) e.lane found.0 found.1 come)
    ∙ ap (λ call. agrees number state call e.reply (go call)) found.2
    ∙ elim legal [
      | inl w ↦ agrees_moved number state e.call e.reply (go e.call) w.0 ∙ complete lanes (answer state e.call).state last (before ++ e ∷ []) rest w.1 served ∙ long
      | inr w ↦ agrees_stayed number state e.call e.reply (go e.call) w.0 ∙ complete lanes state last (before ++ e ∷ []) rest w.1 served ∙ long
    ]

-- a history's lines have the verdict `Legal`
pub history_legal : (lanes : List (List Request)) (first last : State) (lines : List Line) → (h : IsHistory lanes first lines last) → (calls : ℕ) × (verdict lanes first [] lines ≡ Legal calls)
history_legal lanes first last lines h =
    (length h.history, ap (verdict lanes first []) h.spelled ∙ complete lanes first last [] h.history h.legal h.serves)
