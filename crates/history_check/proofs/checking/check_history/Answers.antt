use Rattle.std.proofs.Common.{◌≡◌, ◌<◌, ℕ, ◌+◌, List, [], length, map, replicate, Bool, true, false, Option, Some, None, ap, subst, ◌∙◌, sym, refl}
use Rattle.std.proofs.lemmas.List.{length-map, length-replicate}
use Rattle.plain_files.specs.declared.calls.Reply.{Reply}
use Rattle.plain_files.specs.declared.calls.Request.{Request}
use Rattle.script_words.specs.Lanes.{requests}
use Rattle.script_words.specs.declared.script.Lane.{Lane}
use Rattle.history_check.specs.declared.verdict.Verdict.TheVariants.{Legal, Order}
use Rattle.history_check.specs.Held.{count_of, IsHeld}
use Rattle.history_check.specs.Histories.{IsHistory}
use Rattle.history_check.specs.Verdicts.{Line, next_request, are_all_made, verdict}
use Rattle.history_check.proofs.Counts.{so_far_none, so_far_more, so_far_late, so_far_differs, so_far_next, so_far_legal, so_far_left, so_far_history, next_same}
use Rattle.history_check.proofs.checking.check_history.Goals as goal

-- how many counts there are
as_many : (script : List Lane) (lanes : List Lane) (counts : List ℕ) (n : ℕ) → lanes ≡ script → n ≡ length lanes → counts ≡ replicate n 0 → counts ≡ replicate (length (map (λ (l : Lane). l.requests) script)) 0
as_many script lanes counts n one two is =
    is ∙ ap (λ m. replicate m 0) (two ∙ ap (λ ls. length ls) one ∙ sym (length-map script (λ (l : Lane). l.requests)))

pub loop-i-init : goal.loop-i-init
loop-i-init c =
    let reqs = requests c.args.script.now in
    let none : c.in_ok-counts.counts.items ≡ replicate (length reqs) 0 = as_many c.args.script.now.lanes c.as_slice-lanes.result.now c.in_ok-counts.counts.items _ c.as_slice-lanes.ensures refl c.in_ok-counts.ensures in
    so_far_none reqs c.args.plain.now c.as_slice-line-items.result.now c.in_ok-counts.counts.items none (ap (λ cs. length cs) none ∙ length-replicate (length reqs) 0)

pub loop-i-preserved : goal.loop-i-preserved
loop-i-preserved c =
    let reqs = requests c.args.script.now in
    let some : next_request reqs (count_of c.loop-i.counts.items) c.line-item.result.0 c.line-item.result.1 ≡ Some c.in-Some.request.now =
    next_same _ reqs _ c.loop-i.counts.items _ _ _ (ap (map (λ (l : Lane). l.requests)) c.as_slice-lanes.ensures) c.deref.ensures.value c.in-Some.ensures.is in
    let P : Option Reply → Type 0 = λ o. IsHeld c.loop-i.plain c.in-Some.request.now.call c.line-item.result.2 c.held.new.plain o in
    so_far_more reqs c.args.plain.now c.loop-i.plain c.held.new.plain c.as_slice-line-items.result.now c.loop-i.counts.items c.count_one.new.counts.items c.loop-i.i c.line-item.result c.in-Some.request.now
    c.loop-i-test.true c.line-item.is c.loop-i.invariant some (subst P c.in_default-2.is c.in_ok-expected.ensures) c.count_one.ensures

pub returns-in_default-clause-exact : goal.returns-in_default-clause-exact
returns-in_default-clause-exact c =
    let reqs = requests c.args.script.now in
    let none : next_request reqs (count_of c.loop-i.counts.items) c.line-item.result.0 c.line-item.result.1 ≡ None =
    next_same _ reqs _ c.loop-i.counts.items _ _ _ (ap (map (λ (l : Lane). l.requests)) c.as_slice-lanes.ensures) c.deref.ensures.value c.in_default.ensures.is in
    so_far_late reqs c.args.plain.now c.loop-i.plain c.as_slice-line-items.result.now c.loop-i.counts.items c.loop-i.i c.line-item.result c.loop-i-test.true c.line-item.is c.loop-i.invariant none
    ∙ ap (verdict reqs c.args.plain.now []) c.as_slice-line-items.ensures

pub returns-in-Some-2-clause-exact : goal.returns-in-Some-2-clause-exact
returns-in-Some-2-clause-exact c =
    let reqs = requests c.args.script.now in
    let some : next_request reqs (count_of c.loop-i.counts.items) c.line-item.result.0 c.line-item.result.1 ≡ Some c.in-Some.request.now =
    next_same _ reqs _ c.loop-i.counts.items _ _ _ (ap (map (λ (l : Lane). l.requests)) c.as_slice-lanes.ensures) c.deref.ensures.value c.in-Some.ensures.is in
    let P : Option Reply → Type 0 = λ o. IsHeld c.loop-i.plain c.in-Some.request.now.call c.line-item.result.2 c.held.new.plain o in
    so_far_differs reqs c.args.plain.now c.loop-i.plain c.as_slice-line-items.result.now c.loop-i.counts.items c.loop-i.i c.line-item.result c.in-Some.request.now c.in-Some-2.expected
    c.loop-i-test.true c.line-item.is c.loop-i.invariant some (subst P c.in-Some-2.is c.in_ok-expected.ensures)
    ∙ ap (verdict reqs c.args.plain.now []) c.as_slice-line-items.ensures

pub count_one-requires-clause-within : goal.count_one-requires-clause-within
count_one-requires-clause-within c =
    let reqs = requests c.args.script.now in
    let some : next_request reqs (count_of c.loop-i.counts.items) c.line-item.result.0 c.line-item.result.1 ≡ Some c.in-Some.request.now =
    next_same _ reqs _ c.loop-i.counts.items _ _ _ (ap (map (λ (l : Lane). l.requests)) c.as_slice-lanes.ensures) c.deref.ensures.value c.in-Some.ensures.is in
    (so_far_next reqs c.args.plain.now c.loop-i.plain c.as_slice-line-items.result.now c.loop-i.counts.items c.loop-i.i c.line-item.result c.in-Some.request.now c.loop-i.invariant some).0

pub count_one-requires-clause-fits : goal.count_one-requires-clause-fits
count_one-requires-clause-fits c =
    let P : List ℕ → Type 0 = λ counts. count_of counts c.line-item.result.0 + 1 < 4294967296 in
    subst P c.deref.ensures.value (c.in-Some.ensures.small refl)

pub returns-then-are_all_made-clause-legal : goal.returns-then-are_all_made-clause-legal
returns-then-are_all_made-clause-legal c = λ yes.
    let reqs = requests c.args.script.now in
    let lines = c.as_slice-line-items.result.now in
    let all : are_all_made reqs 0 (count_of c.loop-i.counts.items) ≡ true =
    ap (λ (ls : List Lane). are_all_made (map (λ (l : Lane). l.requests) ls) 0 (count_of c.loop-i.counts.items)) (sym c.as_slice-lanes.ensures)
    ∙ ap (λ cs. are_all_made (map (λ (l : Lane). l.requests) c.as_slice-lanes.result.now) 0 (count_of cs)) (sym c.deref-2.ensures.value)
    ∙ sym c.if-are_all_made.ensures in
    let P : List Line → Type 0 = λ ls. IsHistory reqs c.args.plain.now ls c.loop-i.plain in
    subst P c.as_slice-line-items.ensures (so_far_history reqs c.args.plain.now c.loop-i.plain lines c.loop-i.counts.items c.loop-i.i c.loop-i-test.false c.loop-i.invariant all)

pub returns-then-are_all_made-clause-exact : goal.returns-then-are_all_made-clause-exact
returns-then-are_all_made-clause-exact c =
    let reqs = requests c.args.script.now in
    let lines = c.as_slice-line-items.result.now in
    let all : are_all_made reqs 0 (count_of c.loop-i.counts.items) ≡ true =
    ap (λ (ls : List Lane). are_all_made (map (λ (l : Lane). l.requests) ls) 0 (count_of c.loop-i.counts.items)) (sym c.as_slice-lanes.ensures)
    ∙ ap (λ cs. are_all_made (map (λ (l : Lane). l.requests) c.as_slice-lanes.result.now) 0 (count_of cs)) (sym c.deref-2.ensures.value)
    ∙ sym c.if-are_all_made.ensures in
    ap (λ n. Legal n) (c.len-calls.ensures ∙ ap (λ (ls : List Line). length ls) (sym c.as_slice-line-items.ensures))
    ∙ so_far_legal reqs c.args.plain.now c.loop-i.plain lines c.loop-i.counts.items c.loop-i.i c.loop-i.auto.i-end c.loop-i-test.false c.loop-i.invariant all
    ∙ ap (verdict reqs c.args.plain.now []) c.as_slice-line-items.ensures

pub returns-clause-exact : goal.returns-clause-exact
returns-clause-exact c =
    let reqs = requests c.args.script.now in
    let lines = c.as_slice-line-items.result.now in
    let left : are_all_made reqs 0 (count_of c.loop-i.counts.items) ≡ false =
    ap (λ (ls : List Lane). are_all_made (map (λ (l : Lane). l.requests) ls) 0 (count_of c.loop-i.counts.items)) (sym c.as_slice-lanes.ensures)
    ∙ ap (λ cs. are_all_made (map (λ (l : Lane). l.requests) c.as_slice-lanes.result.now) 0 (count_of cs)) (sym c.deref-2.ensures.value)
    ∙ sym c.if-are_all_made.ensures in
    ap (λ n. Order (n + 1)) (c.len-calls.ensures ∙ ap (λ (ls : List Line). length ls) (sym c.as_slice-line-items.ensures))
    ∙ so_far_left reqs c.args.plain.now c.loop-i.plain lines c.loop-i.counts.items c.loop-i.i c.loop-i.auto.i-end c.loop-i-test.false c.loop-i.invariant left
    ∙ ap (verdict reqs c.args.plain.now []) c.as_slice-line-items.ensures
