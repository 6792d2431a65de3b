use Rattle.std.proofs.Common.{◌≡◌, ℕ, ◌+◌, ◌-◌, ◌<◌, ◌≤◌, ◌%◌, ◌^◌, subst, arith}
use Rattle.sbpf_insn.specs.Cells.{slots}
use Rattle.sbpf_insn.specs.Machine.{Goes, step}
use Rattle.sbpf_exec.specs.Steps.{state}
use Rattle.sbpf_exec.specs.Parts.{machine_regions}
use Rattle.sbpf_exec.proofs.Confined.{writes_twice}
use Rattle.sbpf_exec.proofs.InsideLaws.{goes_within}
use Rattle.sbpf_exec.proofs.Runs.{reach_more}
use Rattle.sbpf_exec.proofs.quick.quick_run.Goals as goal
use Rattle.sbpf_exec.proofs.quick.quick_run.Goals.{then-fuel-gt-MOST, else-fuel-gt-MOST}

pub loop-slot-preserved-in-Next : goal.loop-slot-preserved-in-Next
loop-slot-preserved-in-Next c =
    let slot = c.loop-slot.slot in
    let credit = c.loop-slot.credit in
    let most = c.if-fuel-gt-MOST.most in
    let code = c.args.code.now.insns in
    let m = state c.args.cpu.now c.args.first (machine_regions c.args.regions.now) in
    let mid = state c.loop-slot.cpu slot (machine_regions c.loop-slot.regions) in
    let lt : slot < slots code = goes_within code mid _ c.in-Next.ensures.next in
    let on : (slot + 1) % 2 ^ 32 ≡ slot + 1 = omega (arith, lt, c.slots-end.ensures.count) in
    let goes = subst (λ (n : ℕ). step code mid ≡ Goes (state c.code_step.new.cpu n (machine_regions c.code_step.new.regions))) on c.in-Next.ensures.next in
    let more : most - (credit - (slot + 1)) ≡ most - (credit - slot) + 1 = omega (arith, c.loop-slot.invariant.here, c.loop-slot.invariant.enough, c.loop-slot.invariant.within) in
    record {
      here = omega (arith, lt, c.slots-end.ensures.count);
      enough = c.loop-slot.invariant.enough;
      within = omega (arith, c.loop-slot.invariant.within);
      reaches = reach_more (most - (credit - slot)) (most - (credit - (slot + 1))) code m mid _ more c.loop-slot.invariant.reaches goes;
      writes = writes_twice _ _ _ c.loop-slot.invariant.writes c.in-Next.ensures.within;
      shaped = c.in-Next.ensures.shaped;
    }

pub returns-then-end-to-clause-reaches : goal.returns-then-end-to-clause-reaches
returns-then-end-to-clause-reaches c =
    let slot = c.loop-slot.slot in
    let credit = c.loop-slot.credit in
    let most = c.if-fuel-gt-MOST.most in
    let code = c.args.code.now.insns in
    let m = state c.args.cpu.now c.args.first (machine_regions c.args.regions.now) in
    let mid = state c.loop-slot.cpu slot (machine_regions c.loop-slot.regions) in
    let more : most - (credit - slot - 1) ≡ most - (credit - slot) + 1 = omega (arith, c.loop-slot.invariant.here, c.loop-slot.invariant.enough, c.loop-slot.invariant.within) in
    reach_more (most - (credit - slot)) (most - (credit - slot - 1)) code m mid _ more c.loop-slot.invariant.reaches c.in-To.ensures.next

pub returns-then-end-to-clause-some_left : goal.returns-then-end-to-clause-some_left
returns-then-end-to-clause-some_left c =
    let mid = state c.loop-slot.cpu c.loop-slot.slot (machine_regions c.loop-slot.regions) in
    let lt : c.loop-slot.slot < slots c.args.code.now.insns = goes_within c.args.code.now.insns mid _ c.in-To.ensures.next in
    let bound : c.if-fuel-gt-MOST.most ≤ c.args.fuel = elim c.if-fuel-gt-MOST.branch [
      | then-fuel-gt-MOST w ↦ omega (arith, w.most-is, w.if-fuel-gt-MOST.true)
      | else-fuel-gt-MOST w ↦ omega (arith, w.most-is)
    ] in
    λ some. omega (arith, lt, bound, c.slots-end.ensures.count, c.loop-slot.invariant.enough, c.loop-slot.invariant.within)

pub loop-slot-preserved : goal.loop-slot-preserved
loop-slot-preserved c =
    let slot = c.loop-slot.slot in
    let credit = c.loop-slot.credit in
    let most = c.if-fuel-gt-MOST.most in
    let to = c.in-To.to in
    let code = c.args.code.now.insns in
    let m = state c.args.cpu.now c.args.first (machine_regions c.args.regions.now) in
    let mid = state c.loop-slot.cpu slot (machine_regions c.loop-slot.regions) in
    let more : most - (credit - slot - 1 + to - to) ≡ most - (credit - slot) + 1 = omega (arith, c.loop-slot.invariant.here, c.loop-slot.invariant.enough, c.loop-slot.invariant.within) in
    record {
      here = omega (arith, c.if-end-to.false);
      enough = omega (arith, c.if-credit-end-2.false);
      within = omega (arith, c.loop-slot.invariant.within);
      reaches = reach_more (most - (credit - slot)) (most - (credit - slot - 1 + to - to)) code m mid _ more c.loop-slot.invariant.reaches c.in-To.ensures.next;
      writes = writes_twice _ _ _ c.loop-slot.invariant.writes c.in-To.ensures.within;
      shaped = c.in-To.ensures.shaped;
    }
