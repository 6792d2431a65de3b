use Rattle.std.proofs.Common.{ℕ, List, ap, ◌∙◌, length}
use Rattle.sbpf_insn.specs.Machine as machine
use Rattle.sbpf_exec.specs.Buffers.{region_bytes}
use Rattle.plain_files.specs.Plain.{ended}
use Rattle.plain_run.proofs.Flat.{flat_run}
use Rattle.plain_run.proofs.running.run_flat.Goals as goal

pub returns-clause-given : goal.returns-clause-given
returns-clause-given c =
    let size = λ (b : List ℕ). length b in
    let flat = flat_run c.code.result.now.insns c.args.fuel c.args.input c.args.output c.args.param c.in-Ok.regions c.shape.new.self c.run-outcome.new.regions c.run-outcome.result c.flat_bytes.result c.reply_of.result (length c.as_slice-in_len.result.now) (length c.as_slice-out_len.result.now) (ap size c.as_slice-in_len.ensures) (ap size c.as_slice-out_len.ensures) c.in-Ok.ensures.input c.in-Ok.ensures.output c.in-Ok.ensures.param c.shape.ensures.regions c.shape.ensures.output c.run-outcome.ensures.within c.run-outcome.ensures.outcome (c.flat_bytes.ensures ∙ ap region_bytes c.into_parts-output.ensures.output) c.reply_of.ensures in
    flat ∙ ap (λ code. ended (machine.run code (machine.shaped c.args.input c.args.output c.args.param) c.args.fuel)) c.code.ensures.code
