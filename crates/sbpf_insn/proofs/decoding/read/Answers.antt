use Rattle.std.proofs.Common.{◌≡◌, ◌+◌, ◌<◌, length, arith, sym, Ok}
use Rattle.sbpf_insn.specs.Cells.{slots}
use Rattle.sbpf_insn.specs.Spelled.{Found}
use Rattle.sbpf_insn.specs.Decoded.{insn_at, slots_of}
use Rattle.sbpf_insn.proofs.CellLaws.{slots_grown}
use Rattle.sbpf_insn.proofs.Loop.{goes_on_some, fails_some, ends}
use Rattle.sbpf_insn.proofs.decoding.read.Goals as goal

pub loop-rest-preserved : goal.loop-rest-preserved
loop-rest-preserved c =
    let some : 0 < length c.loop-rest.rest.now = grind (arith, c.is_empty.ensures, c.if-is_empty.false) in
    let at : insn_at c.loop-rest.rest.now ≡ Ok c.in-Ok.insn = sym c.in-Ok.ensures.exact in
    let found : Found c.loop-rest.rest.now c.in-Ok.insn = c.in-Ok.ensures.found in
    let grew : slots c.push.new.self.insns ≡ slots c.loop-rest.code.insns + slots_of c.in-Ok.insn = rw c.in_ok-push-in-Ok.ensures.ok (slots_grown c.loop-rest.code.insns c.in-Ok.insn) in
    record {
      reads = goes_on_some c.args.bytes.now c.loop-rest.code.insns _ c.loop-rest.rest.now _ c.in-Ok.insn some at found.long c.in_ok-push-in-Ok.ensures.ok (rw (← c.slot_count.ensures) c.split_at.ensures.back) c.loop-rest.invariant.reads;
      all = omega (arith, grew, c.split_at.ensures.back_len, c.slot_count.ensures);
    }

pub returns-in-Err-clause-exact : goal.returns-in-Err-clause-exact
returns-in-Err-clause-exact c =
    let some : 0 < length c.loop-rest.rest.now = grind (arith, c.is_empty.ensures, c.if-is_empty.false) in
    rw c.slots-slot.ensures.count (fails_some c.args.bytes.now c.loop-rest.code.insns c.loop-rest.rest.now c.in-Err.kind some (sym c.in-Err.ensures.exact) c.loop-rest.invariant.reads)

pub returns-then-is_empty-clause-exact : goal.returns-then-is_empty-clause-exact
returns-then-is_empty-clause-exact c =
    let none : length c.loop-rest.rest.now ≡ 0 = grind (arith, c.is_empty.ensures, c.if-is_empty.true) in
    ends c.args.bytes.now c.loop-rest.code.insns c.loop-rest.rest.now c.loop-rest.invariant.reads.0 none c.loop-rest.invariant.reads.1
