use Rattle.std.proofs.Common.{refl, subst}
use Rattle.page_base.specs.Drive.{meta_pages}
use Rattle.system_state.specs.Cores.{core_of}
use Rattle.desk_turns.specs.Passing.{core_seen}
use Rattle.sync_calls.specs.Stages.{AtStage}
use Rattle.sync_calls.specs.declared.stages.Stage.TheVariants.{Idle, Flush, Store, Failed}
use Rattle.sync_calls.proofs.Stepping.{stage_told}
use Rattle.sync_calls.proofs.step.sync_step.Goals as goal

pub begin-requires-clause-at : goal.begin-requires-clause-at
begin-requires-clause-at g c =
    (subst (λ s. AtStage (g.K.Desk.view c.args.desk.now).alone (core_seen (core_of g.D.Die.seen) (g.K.Desk.opening c.args.desk.now) (g.K.Desk.view c.args.desk.now)) c.args.lane c.args.request.now c.args.count s) c.in-Idle.is c.requires.at)

pub write_block-requires-clause-at : goal.write_block-requires-clause-at
write_block-requires-clause-at g c =
    (c.args.request.now, (subst (λ s. AtStage (g.K.Desk.view c.args.desk.now).alone (core_seen (core_of g.D.Die.seen) (g.K.Desk.opening c.args.desk.now) (g.K.Desk.view c.args.desk.now)) c.args.lane c.args.request.now c.args.count s) c.in-Flush.is c.requires.at))

pub store-requires-clause-at : goal.store-requires-clause-at
store-requires-clause-at g c =
    (subst (λ s. AtStage (g.K.Desk.view c.args.desk.now).alone (core_seen (core_of g.D.Die.seen) (g.K.Desk.opening c.args.desk.now) (g.K.Desk.view c.args.desk.now)) c.args.lane c.args.request.now c.args.count s) c.in-Store.is c.requires.at)

pub fail-requires-clause-at : goal.fail-requires-clause-at
fail-requires-clause-at g c =
    (subst (λ s. AtStage (g.K.Desk.view c.args.desk.now).alone (core_seen (core_of g.D.Die.seen) (g.K.Desk.opening c.args.desk.now) (g.K.Desk.view c.args.desk.now)) c.args.lane c.args.request.now c.args.count s) c.in-Failed.is c.requires.at)

pub returns-in-Idle-clause-did : goal.returns-in-Idle-clause-did
returns-in-Idle-clause-did g c =
    stage_told g.D.Die.seen (g.K.Desk.opening c.args.desk.now) (g.K.Desk.view c.args.desk.now) (g.K.Desk.view c.begin.new.desk) c.args.lane c.args.request.now c.args.count (meta_pages (g.K.Desk.opening c.args.desk.now).value.sizes.blocks) c.args.stage Idle c.begin.result c.requires.count c.in-Idle.is c.begin.ensures.did

pub returns-in-Flush-clause-did : goal.returns-in-Flush-clause-did
returns-in-Flush-clause-did g c =
    stage_told g.D.Die.seen (g.K.Desk.opening c.args.desk.now) (g.K.Desk.view c.args.desk.now) (g.K.Desk.view c.write_block.new.desk) c.args.lane c.args.request.now c.args.count (meta_pages (g.K.Desk.opening c.args.desk.now).value.sizes.blocks) c.args.stage Flush c.write_block.result c.requires.count c.in-Flush.is (c.write_block.ensures.did c.args.request.now (subst (λ s. AtStage (g.K.Desk.view c.args.desk.now).alone (core_seen (core_of g.D.Die.seen) (g.K.Desk.opening c.args.desk.now) (g.K.Desk.view c.args.desk.now)) c.args.lane c.args.request.now c.args.count s) c.in-Flush.is c.requires.at))

pub returns-in-Store-clause-did : goal.returns-in-Store-clause-did
returns-in-Store-clause-did g c =
    stage_told g.D.Die.seen (g.K.Desk.opening c.args.desk.now) (g.K.Desk.view c.args.desk.now) (g.K.Desk.view c.store.new.desk) c.args.lane c.args.request.now c.args.count c.args.count c.args.stage (Store c.in-Store.number) c.store.result refl c.in-Store.is c.store.ensures.did

pub returns-in-Failed-clause-did : goal.returns-in-Failed-clause-did
returns-in-Failed-clause-did g c =
    stage_told g.D.Die.seen (g.K.Desk.opening c.args.desk.now) (g.K.Desk.view c.args.desk.now) (g.K.Desk.view c.fail.new.desk) c.args.lane c.args.request.now c.args.count (meta_pages (g.K.Desk.opening c.args.desk.now).value.sizes.blocks) c.args.stage Failed c.fail.result c.requires.count c.in-Failed.is c.fail.ensures.did

pub returns-in-Idle-clause-numbered : goal.returns-in-Idle-clause-numbered
returns-in-Idle-clause-numbered g c =
    λ n is. absurd (c.begin.ensures.open_still n is)

pub returns-in-Flush-clause-numbered : goal.returns-in-Flush-clause-numbered
returns-in-Flush-clause-numbered g c =
    λ n is. absurd (c.write_block.ensures.open_still n is)
