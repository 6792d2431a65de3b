use Rattle.std.proofs.Common.{refl}
use Rattle.system_state.specs.Cores.{core_of}
use Rattle.desk_turns.specs.Passing.{core_seen}
use Rattle.fill_steps.proofs.Stepping.{place_there, shared_page, step_does, step_left}
use Rattle.fill_steps.proofs.step.copy_into.Goals as goal

pub page_mut-page-requires : goal.page_mut-page-requires
page_mut-page-requires g c = place_there c.args.job.now c.args.i c.requires.gathering.suits.ready c.requires.within

pub copy_step-requires-clause-at : goal.copy_step-requires-clause-at
copy_step-requires-clause-at g c = shared_page (core_seen (core_of g.D.Die.seen) (g.K.Desk.opening c.args.desk.now) (g.K.Desk.view c.args.desk.now)) c.args.actor c.args.lane c.args.i c.args.job.now c.requires.gathering c.requires.within c.requires.mode

pub returns-clause-did : goal.returns-clause-did
returns-clause-did g c = step_does g.D.Die.seen (g.K.Desk.opening c.args.desk.now) (g.K.Desk.view c.args.desk.now) (g.K.Desk.view c.copy_step.new.desk) c.args.actor c.args.lane c.args.i c.args.job.now c.copy_step.new.page c.copy_step.result c.requires.gathering c.requires.within c.copy_step.ensures.did

pub returns-clause-same : goal.returns-clause-same
returns-clause-same g c = refl

pub returns-clause-left : goal.returns-clause-left
returns-clause-left g c = step_left g.D.Die.seen (g.K.Desk.opening c.args.desk.now) (g.K.Desk.view c.args.desk.now) (g.K.Desk.view c.copy_step.new.desk) c.args.actor c.args.lane c.args.i c.args.job.now c.copy_step.new.page c.copy_step.result c.requires.gathering c.requires.within c.copy_step.ensures.did
