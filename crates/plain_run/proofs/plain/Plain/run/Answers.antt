use Rattle.std.proofs.Common.{◌≡◌, ℕ, List, subst}
use Rattle.std.specs.Prelude.{IfOk}
use Rattle.sbpf_insn.specs.declared.insn.Insn.{Insn}
use Rattle.sbpf_insn.specs.Machine as machine
use Rattle.plain_files.specs.Plain.{code_in, ended}
use Rattle.plain_run.proofs.plain.Plain.run.Goals as goal

pub returns-clause-given : goal.returns-clause-given
returns-clause-given c =
    let P : List Insn → Type 0 = λ code. IfOk c.run_flat.result (λ given. given ≡ ended (machine.run code (machine.shaped c.args.input c.args.output c.in_ok-param.param) c.args.fuel)) in
    let Q : List ℕ → Type 0 = λ param. IfOk c.run_flat.result (λ given. given ≡ ended (machine.run (code_in c.args.self.now c.args.function.now) (machine.shaped c.args.input c.args.output param) c.args.fuel)) in
    subst Q c.in_ok-param.ensures (subst P c.code.ensures c.run_flat.ensures.given)
