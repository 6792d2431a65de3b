use Rattle.std.proofs.Common.{ℕ, List, subst}
use Rattle.std.proofs.lemmas.Result.{err_from_is_err_and}
use Rattle.pred_text.specs.Reading.{read_pred}
use Rattle.stack_top.specs.Decided.{IsFinished}
use Rattle.stack_top.specs.Selecting.{compiled_text}
use Rattle.stack_top.specs.Works.{ends}
use Rattle.stack_top.proofs.Walks.{unread, finished}
use Rattle.stack_top.proofs.compiling.predc.Goals as goal

pub returns-in_err-text-clause-decided : goal.returns-in_err-text-clause-decided
returns-in_err-text-clause-decided g c =
    let p = err_from_is_err_and c.from_residual.result c.from_residual.ensures.1 in
    rw (p.1, p.2) (unread _ _ _ _ (λ text. ends (compiled_text c.args.out.now c.args.width.now (read_pred text))) _ c.in_err-text.ensures.err)

pub returns-clause-decided : goal.returns-clause-decided
returns-clause-decided g c =
    let P : List ℕ → Type 0 = λ text. IsFinished (compiled_text c.args.out.now c.args.width.now (read_pred text)) c.compiled_text.result in
    finished _ _ _ _ _ (λ text. compiled_text c.args.out.now c.args.width.now (read_pred text)) _ c.in_ok-text.ensures.ok (subst P c.deref.ensures.value c.compiled_text.ensures)
