use Rattle.system_state.specs.Cores.{core_of}
use Rattle.desk_turns.proofs.Went.{if_err, went_turn}
use Rattle.event_turns.proofs.Errands.{read_hand}
use Rattle.fill_steps.specs.Pages.{IsRead}
use Rattle.fill_steps.proofs.Homing.{read_back, rose_by}
use Rattle.fill_steps.proofs.home.fill_home.Goals as goal

pub turn_home-requires-clause-errand : goal.turn_home-requires-clause-errand
turn_home-requires-clause-errand g c =
    let r = c.requires.errand in
    (c.read-good.result, read_hand g.D.Die.seen (g.K.Desk.opening c.args.desk.now) (g.K.Desk.view c.args.desk.now).seen c.args.actor c.args.lane c.args.i c.read-good.result c.args.page.now c.read-good.new.into c.args.errand c.read-good.new.self r.1 c.read-good.ensures.same c.read-good.ensures.read)

pub returns-clause-did : goal.returns-clause-did
returns-clause-did g c = read_back g.D.Die.seen (g.K.Desk.opening c.args.desk.now) (g.K.Desk.view c.args.desk.now) (g.K.Desk.view c.turn_home.new.desk) c.args.actor c.args.lane c.args.i c.args.page.now c.read-good.new.into c.turn_home.new.page c.read-good.result c.args.errand c.read-good.new.self c.read-good.ensures.same c.read-good.ensures.read c.in_ok-turn_home.ensures.did

pub returns-clause-failed : goal.returns-clause-failed
returns-clause-failed g c = λ bad.
    let o = g.K.Desk.opening c.args.desk.now in
    let v = g.K.Desk.view c.args.desk.now in
    let w = g.K.Desk.view c.turn_home.new.desk in
    let t = read_back g.D.Die.seen o v w c.args.actor c.args.lane c.args.i c.args.page.now c.read-good.new.into c.turn_home.new.page c.read-good.result c.args.errand c.read-good.new.self c.read-good.ensures.same c.read-good.ensures.read c.in_ok-turn_home.ensures.did in
    rose_by g.D.Die.seen o v w c.args.actor c.args.lane c.args.i c.args.page.now c.read-good.new.into c.read-good.result c.args.errand c.read-good.new.self c.requires.errand.1 c.read-good.ensures.same c.read-good.ensures.read
    (went_turn (core_of g.D.Die.seen) o v w (IsRead c.args.actor c.args.lane c.args.i c.args.errand.number c.turn_home.new.page c.read-good.result) t).seen bad

pub returns-in_err-turn_home-clause-went : goal.returns-in_err-turn_home-clause-went
returns-in_err-turn_home-clause-went g c = if_err c.from_residual.result c.in_err-turn_home.ensures.went
