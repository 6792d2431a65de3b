use Rattle.std.proofs.Common.{◌<◌, length, arith, ap}
use Rattle.script_words.specs.declared.script.Lane.{Lane}
use Rattle.call_text.proofs.LanePlaces.{put_old}
use Rattle.call_text.proofs.lanes.put_request.Goals as goal

pub returns-then-at-len-clause-ok : goal.returns-then-at-len-clause-ok
returns-then-at-len-clause-ok c =
    let lanes = c.args.lanes.now.items in
    let within : c.args.place.0 < length lanes = omega (arith, c.args.lanes.now.ok.0, c.len.ensures, c.if-at-len.true) in
    put_old c.args.name.now lanes c.args.place c.args.request c.index_mut.result.now _ c.requires.place within c.index_mut.ensures.value (ap (λ rs. let l : Lane = record { name = c.index_mut.result.now.name; requests = rs } in l) c.in_ok-push.ensures.ok)
