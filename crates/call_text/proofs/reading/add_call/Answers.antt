use Rattle.std.proofs.Common.{◌≡◌, ℕ, ap, ◌∙◌, arith}
use Rattle.script_words.specs.Lanes.{place_of}
use Rattle.call_text.specs.Awaits.{await_of, without_await}
use Rattle.call_text.proofs.Kept.{HasRoom-calls}
use Rattle.call_text.proofs.KeptSteps.{kept_call}
use Rattle.call_text.proofs.reading.add_call.Goals as goal

pub overflow_cast-number : goal.overflow_cast-number
overflow_cast-number c =
    let room = HasRoom-calls c.args.script.now.lanes.items c.args.script.now.order.items c.args.script.now.awaits.items c.requires.kept.0 in
    let few = room.few_calls c.args.name.now in
    let at : c.place_of-place.result ≡ place_of c.args.name.now 0 c.args.script.now.lanes.items = c.place_of-place.ensures.is ∙ ap (place_of c.args.name.now 0) c.deref.ensures.value in
    let count = ap (λ (p : ℕ × ℕ). p.1) at in
    omega (arith, count, few)

pub overflow_add-number : goal.overflow_add-number
overflow_add-number c =
    let room = HasRoom-calls c.args.script.now.lanes.items c.args.script.now.order.items c.args.script.now.awaits.items c.requires.kept.0 in
    let few = room.few_calls c.args.name.now in
    let at : c.place_of-place.result ≡ place_of c.args.name.now 0 c.args.script.now.lanes.items = c.place_of-place.ensures.is ∙ ap (place_of c.args.name.now 0) c.deref.ensures.value in
    let count = ap (λ (p : ℕ × ℕ). p.1) at in
    omega (arith, count, few)

pub returns-clause-kept : goal.returns-clause-kept
returns-clause-kept c =
    let lanes = c.args.script.now.lanes.items in
    let at : c.place_of-place.result ≡ place_of c.args.name.now 0 lanes = c.place_of-place.ensures.is ∙ ap (place_of c.args.name.now 0) c.deref.ensures.value in
    let waits : c.await_of.result ≡ await_of c.place_of-place.result.0 c.args.script.now.awaits.items = c.await_of.ensures ∙ ap (await_of c.place_of-place.result.0) c.deref-2.ensures.value in
    let left : c.in_ok-others.others.items ≡ without_await c.place_of-place.result.0 c.args.script.now.awaits.items = c.in_ok-others.ensures ∙ ap (without_await c.place_of-place.result.0) c.deref-3.ensures.value in
    (kept_call lanes _ c.args.script.now.order.items _ c.args.script.now.awaits.items _ c.args.name.now c.args.call c.await_of.result c.place_of-place.result c.requires.kept.0 c.requires.lane c.requires.few at waits c.in_ok-put_request.ensures.ok c.in_ok-push.ensures.items left, c.requires.kept.1)
