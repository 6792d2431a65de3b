use Rattle.core_state.specs.declared.actor.Actor.TheVariants.{Lane}
use Rattle.core_state.specs.State.{ToMeta}
use Rattle.system_state.specs.Cores.{core_of}
use Rattle.desk_turns.proofs.Went.{if_err, went_turn}
use Rattle.quick_calls.proofs.Errands.{stored_hand}
use Rattle.sync_calls.specs.Writes.{PageBack}
use Rattle.sync_calls.proofs.Homing.{page_back, rose_by}
use Rattle.sync_calls.proofs.homecoming.page_home.Goals as goal

pub turn_meta_in-requires-clause-own : goal.turn_meta_in-requires-clause-own
turn_meta_in-requires-clause-own g c = c.requires.own

pub turn_meta_in-requires-clause-closing : goal.turn_meta_in-requires-clause-closing
turn_meta_in-requires-clause-closing g c = λ e. absurd (cc)

pub turn_meta_in-requires-clause-errand : goal.turn_meta_in-requires-clause-errand
turn_meta_in-requires-clause-errand g c =
    let r = c.requires.errand in
    (c.write-good.result, stored_hand g.D.Die.seen (g.K.Desk.opening c.args.desk.now) (g.K.Desk.view c.args.desk.now).seen (Lane c.args.lane) c.write-good.result c.args.page.now c.args.errand c.write-good.new.self r.1 c.write-good.ensures.same c.write-good.ensures.written)

pub returns-clause-did : goal.returns-clause-did
returns-clause-did g c = page_back g.D.Die.seen (g.K.Desk.opening c.args.desk.now) (g.K.Desk.view c.args.desk.now) (g.K.Desk.view c.turn_meta_in.new.desk) c.args.lane c.args.page.now c.write-good.result c.args.errand c.write-good.new.self c.write-good.ensures.same c.write-good.ensures.written c.in_ok-turn_meta_in.ensures.did

pub returns-clause-failed : goal.returns-clause-failed
returns-clause-failed g c = λ bad.
    let r = c.requires.errand in
    let o = g.K.Desk.opening c.args.desk.now in
    let v = g.K.Desk.view c.args.desk.now in
    let w = g.K.Desk.view c.turn_meta_in.new.desk in
    let t = page_back g.D.Die.seen o v w c.args.lane c.args.page.now c.write-good.result c.args.errand c.write-good.new.self c.write-good.ensures.same c.write-good.ensures.written c.in_ok-turn_meta_in.ensures.did in
    rose_by g.D.Die.seen o v w (Lane c.args.lane) (ToMeta c.args.errand.subject c.args.page.now) c.args.errand.subject c.args.page.now c.write-good.result c.args.errand c.write-good.new.self r.1 c.write-good.ensures.same c.write-good.ensures.written
    (went_turn (core_of g.D.Die.seen) o v w (PageBack c.args.lane c.args.errand c.write-good.result) t).seen bad

pub returns-in_err-turn_meta_in-clause-went : goal.returns-in_err-turn_meta_in-clause-went
returns-in_err-turn_meta_in-clause-went g c = if_err c.from_residual.result c.in_err-turn_meta_in.ensures.went
