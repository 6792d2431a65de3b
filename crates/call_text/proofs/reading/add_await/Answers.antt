use Rattle.std.proofs.Common.{◌≡◌, ap, ◌∙◌}
use Rattle.script_words.specs.Lanes.{place_of}
use Rattle.call_text.proofs.KeptSteps.{kept_await}
use Rattle.call_text.proofs.reading.add_await.Goals as goal

pub returns-clause-kept : goal.returns-clause-kept
returns-clause-kept c =
    let at : c.place_of-place.result ≡ place_of c.args.name.now 0 c.args.script.now.lanes.items = c.place_of-place.ensures.is ∙ ap (place_of c.args.name.now 0) c.deref.ensures.value in
    (kept_await c.args.script.now.lanes.items _ c.args.script.now.order.items c.args.script.now.awaits.items _ c.args.name.now c.args.call c.place_of-place.result c.requires.kept.0 c.requires.lane c.requires.ended at c.in_ok-put_lane.ensures.ok c.in_ok-push.ensures.items, c.requires.kept.1)
