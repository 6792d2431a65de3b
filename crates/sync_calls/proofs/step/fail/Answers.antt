use Rattle.std.proofs.Common.{true, refl, subst}
use Rattle.std.specs.Result.{IsErr}
use Rattle.page_base.specs.Drive.{meta_pages}
use Rattle.sync_calls.specs.declared.stages.Stage.TheVariants.{Failed}
use Rattle.sync_calls.proofs.Stepping.{replied, replied_worn, reply_told}
use Rattle.sync_calls.proofs.step.fail.Goals as goal

pub finish-requires-clause-at : goal.finish-requires-clause-at
finish-requires-clause-at g c =
    let at = c.requires.at in
    record {
      none = at.0;
      number = at.1.0;
      call = at.1.1;
      all = λ e. absurd (cc);
      clean = λ a e. absurd (cc);
    }

pub returns-clause-did : goal.returns-clause-did
returns-clause-did g c =
    replied g.D.Die.seen (g.K.Desk.opening c.args.desk.now) (g.K.Desk.view c.args.desk.now) (g.K.Desk.view c.finish.new.desk) c.args.lane c.args.request.now (meta_pages (g.K.Desk.opening c.args.desk.now).value.sizes.blocks) Failed true c.in_ok-numbered.numbered refl c.in_ok-numbered.ensures.did

pub returns-clause-numbered : goal.returns-clause-numbered
returns-clause-numbered g c =
    λ n is. c.in_ok-numbered.ensures.numbered n (reply_told c.in_ok-numbered.numbered n is)

pub returns-in_err-numbered-clause-did : goal.returns-in_err-numbered-clause-did
returns-in_err-numbered-clause-did g c =
    replied_worn g.D.Die.seen (g.K.Desk.opening c.args.desk.now) (g.K.Desk.view c.args.desk.now) (g.K.Desk.view c.finish.new.desk) c.args.lane c.args.request.now (meta_pages (g.K.Desk.opening c.args.desk.now).value.sizes.blocks) Failed true c.in_err-numbered.field-0.0 c.from_residual.result c.from_residual.ensures.0 c.in_err-numbered.ensures.did

pub returns-in_err-numbered-clause-numbered : goal.returns-in_err-numbered-clause-numbered
returns-in_err-numbered-clause-numbered g c =
    λ n is. let e = c.from_residual.ensures.0 in let z = subst IsErr is e in absurd (cc)
