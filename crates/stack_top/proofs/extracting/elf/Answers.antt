use Rattle.std.proofs.Common.{ℕ, List, subst}
use Rattle.std.proofs.lemmas.Result.{err_from_is_err_and}
use Rattle.stack_top.specs.Decided.{IsFinished}
use Rattle.stack_top.specs.Works.{ends}
use Rattle.elf_bpf.specs.Reading.{elf_code}
use Rattle.stack_top.specs.Extracting.{extracted}
use Rattle.stack_top.proofs.Walks.{unread, finished}
use Rattle.stack_top.proofs.extracting.elf.Goals as goal

pub returns-in_err-bytes-clause-decided : goal.returns-in_err-bytes-clause-decided
returns-in_err-bytes-clause-decided g c =
    let p = err_from_is_err_and c.from_residual.result c.from_residual.ensures.1 in
    rw (p.1, p.2) (unread _ _ _ _ (λ bytes. ends (extracted c.args.out.now (elf_code bytes c.args.section.now))) _ c.in_err-bytes.ensures.err)

pub returns-clause-decided : goal.returns-clause-decided
returns-clause-decided g c =
    let P : List ℕ → Type 0 = λ bytes. IsFinished (extracted c.args.out.now (elf_code bytes c.args.section.now)) c.extracted.result in
    finished _ _ _ _ _ (λ bytes. extracted c.args.out.now (elf_code bytes c.args.section.now)) _ c.in_ok-bytes.ensures.ok (subst P c.deref.ensures.value c.extracted.ensures)
