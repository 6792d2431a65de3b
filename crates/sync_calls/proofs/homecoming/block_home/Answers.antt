use Rattle.std.proofs.Common.{◌+◌}
use Rattle.core_state.specs.declared.actor.Actor.TheVariants.{Lane}
use Rattle.core_state.specs.State.{ToFlush}
use Rattle.system_state.specs.Cores.{core_of}
use Rattle.desk_turns.proofs.Went.{if_err, went_turn}
use Rattle.quick_calls.proofs.FlushSteps.{wrote_hand}
use Rattle.sync_calls.specs.Writes.{BlockBack}
use Rattle.sync_calls.proofs.Homing.{block_back, rose_by}
use Rattle.sync_calls.proofs.homecoming.block_home.Goals as goal

pub turn_flush_in-requires-clause-own : goal.turn_flush_in-requires-clause-own
turn_flush_in-requires-clause-own g c = c.requires.own

pub turn_flush_in-requires-clause-closing : goal.turn_flush_in-requires-clause-closing
turn_flush_in-requires-clause-closing g c = λ e. absurd (cc)

pub turn_flush_in-requires-clause-errand : goal.turn_flush_in-requires-clause-errand
turn_flush_in-requires-clause-errand g c =
    let r = c.requires.errand in
    (c.write-good.result, wrote_hand g.D.Die.seen (g.K.Desk.opening c.args.desk.now) (g.K.Desk.view c.args.desk.now).seen (Lane c.args.lane) c.args.page.now r.1.0 c.write-good.result c.args.errand c.write-good.new.self r.1.1 c.write-good.ensures.same c.write-good.ensures.written)

pub returns-clause-did : goal.returns-clause-did
returns-clause-did g c = block_back g.D.Die.seen (g.K.Desk.opening c.args.desk.now) (g.K.Desk.view c.args.desk.now) (g.K.Desk.view c.turn_flush_in.new.desk) c.args.lane c.args.page.now c.write-good.result c.args.errand c.write-good.new.self c.write-good.ensures.same c.write-good.ensures.written c.in_ok-turn_flush_in.ensures.did

pub returns-clause-failed : goal.returns-clause-failed
returns-clause-failed g c = λ bad.
    let r = c.requires.errand in
    let o = g.K.Desk.opening c.args.desk.now in
    let v = g.K.Desk.view c.args.desk.now in
    let w = g.K.Desk.view c.turn_flush_in.new.desk in
    let t = block_back g.D.Die.seen o v w c.args.lane c.args.page.now c.write-good.result c.args.errand c.write-good.new.self c.write-good.ensures.same c.write-good.ensures.written c.in_ok-turn_flush_in.ensures.did in
    rose_by g.D.Die.seen o v w (Lane c.args.lane) (ToFlush c.args.errand.subject r.1.0 c.args.page.now) (o.value.sizes.meta + c.args.errand.subject) c.args.page.now c.write-good.result c.args.errand c.write-good.new.self r.1.1 c.write-good.ensures.same c.write-good.ensures.written
    (went_turn (core_of g.D.Die.seen) o v w (BlockBack c.args.lane c.args.errand c.write-good.result) t).seen bad

pub returns-in_err-turn_flush_in-clause-went : goal.returns-in_err-turn_flush_in-clause-went
returns-in_err-turn_flush_in-clause-went g c = if_err c.from_residual.result c.in_err-turn_flush_in.ensures.went
