use Rattle.std.proofs.Common.{ap, ◌∙◌, List}
use Rattle.sbpf_insn.specs.declared.insn.Insn.{Insn}
use Rattle.sbpf_exec.specs.Buffers.{region_bytes}
use Rattle.chunk_scan.specs.Replies.{as_reply}
use Rattle.chunk_scan.specs.Scan.{piece_reply}
use Rattle.chunk_scan.proofs.Runs.{run_replies}
use Rattle.chunk_scan.proofs.run.reply_on.Goals as goal

pub returns : goal.returns
returns c =
    let told = run_replies c.code.result.now.insns c.args.fuel c.args.cap c.args.piece.now c.args.param.now c.in-Ok.regions c.run-outcome.new.regions c.run-outcome.result c.flat_bytes.result (as_reply c.reply_of.result)
    c.in-Ok.ensures.regions c.in-Ok.ensures.output c.run-outcome.ensures.within c.run-outcome.ensures.outcome (c.flat_bytes.ensures ∙ ap region_bytes c.into_parts-output.ensures.output) c.reply_of.ensures in
    told ∙ ap (λ (code : List Insn). piece_reply code c.args.fuel c.args.cap c.args.param.now c.args.piece.now) c.code.ensures.code
