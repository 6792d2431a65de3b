use Rattle.std.proofs.Common.{◌∙◌, refl, sym}
use Rattle.system_state.specs.Cores.{core_of}
use Rattle.desk_turns.specs.Passing.{core_seen}
use Rattle.fill_steps.proofs.Stepping.{low_first, passed_step, place_there, lent_page, step_does, step_left}
use Rattle.fill_steps.proofs.step.take_into.Goals as goal

pub page_mut-page-requires : goal.page_mut-page-requires
page_mut-page-requires g c = place_there c.args.job.now c.args.i c.requires.gathering.suits.ready c.requires.within

pub take_step-requires-clause-at : goal.take_step-requires-clause-at
take_step-requires-clause-at g c = lent_page (core_seen (core_of g.D.Die.seen) (g.K.Desk.opening c.args.desk.now) (g.K.Desk.view c.args.desk.now)) c.args.actor c.args.lane c.args.i c.args.job.now c.requires.gathering c.requires.within c.requires.mode (cc)

pub returns-clause-did : goal.returns-clause-did
returns-clause-did g c = step_does g.D.Die.seen (g.K.Desk.opening c.args.desk.now) (g.K.Desk.view c.args.desk.now) (g.K.Desk.view c.take_step.new.desk) c.args.actor c.args.lane c.args.i c.args.job.now c.take_step.new.page c.take_step.result c.requires.gathering c.requires.within c.take_step.ensures.did

pub returns-clause-same : goal.returns-clause-same
returns-clause-same g c = refl

pub gathers-requires : goal.gathers-requires
gathers-requires g c = low_first c.args.job.now c.requires.gathering.suits.ready c.requires.mode

pub returns-then-not-gathers-clause-did : goal.returns-then-not-gathers-clause-did
returns-then-not-gathers-clause-did g c = passed_step g.D.Die.seen (g.K.Desk.opening c.args.desk.now) (g.K.Desk.view c.args.desk.now) c.args.actor c.args.lane c.args.i c.args.job.now c.requires.gathering c.requires.within (sym c.gathers.ensures ∙ c.if-not-gathers.true)

pub returns-clause-left : goal.returns-clause-left
returns-clause-left g c = step_left g.D.Die.seen (g.K.Desk.opening c.args.desk.now) (g.K.Desk.view c.args.desk.now) (g.K.Desk.view c.take_step.new.desk) c.args.actor c.args.lane c.args.i c.args.job.now c.take_step.new.page c.take_step.result c.requires.gathering c.requires.within c.take_step.ensures.did
