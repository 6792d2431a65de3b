use Rattle.std.proofs.Common.{◌<◌, ◌≤◌, false, refl, subst, arith}
use Rattle.std.specs.Result.{IsErr}
use Rattle.std.proofs.lemmas.Bool.Decides.{nat_tests}
use Rattle.page_base.specs.Drive.{meta_pages}
use Rattle.system_state.specs.Cores.{core_of}
use Rattle.desk_turns.specs.Passing.{core_seen}
use Rattle.sync_calls.specs.Stages.{AtStage}
use Rattle.sync_calls.specs.declared.stages.Stage.TheVariants.{Store}
use Rattle.sync_calls.proofs.Stepping.{stage_told, all_stored, replied, replied_worn, reply_told}
use Rattle.sync_calls.proofs.step.store.Goals as goal

pub write_page-requires-clause-at : goal.write_page-requires-clause-at
write_page-requires-clause-at g c =
    (c.args.request.now, (subst (λ k. AtStage (g.K.Desk.view c.args.desk.now).alone (core_seen (core_of g.D.Die.seen) (g.K.Desk.opening c.args.desk.now) (g.K.Desk.view c.args.desk.now)) c.args.lane c.args.request.now k (Store c.args.number)) c.requires.count c.requires.at))

pub write_page-requires-clause-below : goal.write_page-requires-clause-below
write_page-requires-clause-below g c =
    let l : c.args.number < c.args.count = grind (arith, nat_tests) in subst (λ k. c.args.number < k) c.requires.count l

pub returns-then-number-count-clause-did : goal.returns-then-number-count-clause-did
returns-then-number-count-clause-did g c =
    stage_told g.D.Die.seen (g.K.Desk.opening c.args.desk.now) (g.K.Desk.view c.args.desk.now) (g.K.Desk.view c.write_page.new.desk) c.args.lane c.args.request.now c.args.count (meta_pages (g.K.Desk.opening c.args.desk.now).value.sizes.blocks) (Store c.args.number) (Store c.args.number) c.write_page.result c.requires.count refl (c.write_page.ensures.did c.args.request.now (subst (λ k. AtStage (g.K.Desk.view c.args.desk.now).alone (core_seen (core_of g.D.Die.seen) (g.K.Desk.opening c.args.desk.now) (g.K.Desk.view c.args.desk.now)) c.args.lane c.args.request.now k (Store c.args.number)) c.requires.count c.requires.at))

pub returns-then-number-count-clause-numbered : goal.returns-then-number-count-clause-numbered
returns-then-number-count-clause-numbered g c =
    λ n is. absurd (c.write_page.ensures.open_still n is)

pub finish-requires-clause-at : goal.finish-requires-clause-at
finish-requires-clause-at g c =
    let least : c.args.count ≤ c.args.number = grind (arith, nat_tests) in
    let at = c.requires.at in
    record {
      none = at.0;
      number = c.args.number;
      call = at.1;
      all = λ e. all_stored g.D.Die.seen (g.K.Desk.opening c.args.desk.now) (g.K.Desk.view c.args.desk.now) c.args.number c.args.count at.2 least c.requires.count;
      clean = λ a e. at.3 a;
    }

pub returns-clause-did : goal.returns-clause-did
returns-clause-did g c =
    replied g.D.Die.seen (g.K.Desk.opening c.args.desk.now) (g.K.Desk.view c.args.desk.now) (g.K.Desk.view c.finish.new.desk) c.args.lane c.args.request.now c.args.count (Store c.args.number) false c.in_ok-numbered.numbered refl c.in_ok-numbered.ensures.did

pub returns-clause-numbered : goal.returns-clause-numbered
returns-clause-numbered g c =
    λ n is. c.in_ok-numbered.ensures.numbered n (reply_told c.in_ok-numbered.numbered n is)

pub returns-in_err-numbered-clause-did : goal.returns-in_err-numbered-clause-did
returns-in_err-numbered-clause-did g c =
    replied_worn g.D.Die.seen (g.K.Desk.opening c.args.desk.now) (g.K.Desk.view c.args.desk.now) (g.K.Desk.view c.finish.new.desk) c.args.lane c.args.request.now c.args.count (Store c.args.number) false c.in_err-numbered.field-0.0 c.from_residual.result c.from_residual.ensures.0 c.in_err-numbered.ensures.did

pub returns-in_err-numbered-clause-numbered : goal.returns-in_err-numbered-clause-numbered
returns-in_err-numbered-clause-numbered g c =
    λ n is. let e = c.from_residual.ensures.0 in let z = subst IsErr is e in absurd (cc)
