use Rattle.std.proofs.Common.{◌≡◌, ◌-◌, ◌<◌, arith, refl, sym, ap, ◌∙◌}
use Rattle.sbpf_insn.specs.Machine as machine
use Rattle.sbpf_exec.specs.Steps.{state}
use Rattle.sbpf_exec.specs.Parts.{machine_regions}
use Rattle.sbpf_exec.proofs.Runs.{step_left, spent, reach_left}
use Rattle.sbpf_exec.proofs.Confined.{writes_nothing, writes_twice}
use Rattle.sbpf_exec.proofs.InsideLaws.{accepted_stays}
use Rattle.sbpf_exec.proofs.interpreter.run_over.Goals as goal

pub loop-left-init : goal.loop-left-init
loop-left-init c =
    let none : c.args.fuel - c.args.fuel ≡ 0 = omega arith in
    record {
      within = omega arith;
      same = rw (none, c.start-cpu.ensures) refl;
      writes = writes_nothing c.args.regions.now c.requires.shaped;
      shaped = c.requires.shaped;
    }

pub loop-left-preserved : goal.loop-left-preserved
loop-left-preserved c =
    let steps = c.quick_run-reached.result.steps in
    let left = c.loop-left.left - steps in
    let m = state c.loop-left.cpu c.loop-left.slot (machine_regions c.loop-left.regions) in
    let mid = state c.quick_run-reached.new.cpu c.quick_run-reached.result.slot (machine_regions c.quick_run-reached.new.regions) in
    let fewer : steps < c.loop-left.left = c.quick_run-reached.ensures.some_left c.loop-left-test.true in
    let same = sym c.loop-left.invariant.same ∙ reach_left steps c.loop-left.left c.args.fuel c.args.code.now.insns m mid c.loop-left.invariant.within (omega arith) c.quick_run-reached.ensures.reaches in
    let on = step_left c.args.fuel left c.args.code.now.insns mid _ (omega arith) (omega arith) c.in-Goes.ensures.next in
    record {
      within = omega arith;
      same = sym (same ∙ on);
      writes = writes_twice _ _ _ (writes_twice _ _ _ c.loop-left.invariant.writes c.quick_run-reached.ensures.within) c.in-Goes.ensures.within;
      shaped = c.in-Goes.ensures.shaped;
    }

pub returns-in-Done-clause-outcome : goal.returns-in-Done-clause-outcome
returns-in-Done-clause-outcome c =
    let steps = c.quick_run-reached.result.steps in
    let left = c.loop-left.left - steps in
    let m = state c.loop-left.cpu c.loop-left.slot (machine_regions c.loop-left.regions) in
    let mid = state c.quick_run-reached.new.cpu c.quick_run-reached.result.slot (machine_regions c.quick_run-reached.new.regions) in
    let fewer : steps < c.loop-left.left = c.quick_run-reached.ensures.some_left c.loop-left-test.true in
    let same = sym c.loop-left.invariant.same ∙ reach_left steps c.loop-left.left c.args.fuel c.args.code.now.insns m mid c.loop-left.invariant.within (omega arith) c.quick_run-reached.ensures.reaches in
    let on = step_left c.args.fuel left c.args.code.now.insns mid _ (omega arith) (omega arith) c.in-Done.ensures.next in
    same ∙ on ∙ ap (λ (r : machine.Regions). machine.Ended c.in-Done.r0 r.output (c.args.fuel - (left - 1))) (sym c.in-Done.ensures.kept)

pub returns-in-Access-clause-outcome : goal.returns-in-Access-clause-outcome
returns-in-Access-clause-outcome c =
    let steps = c.quick_run-reached.result.steps in
    let left = c.loop-left.left - steps in
    let m = state c.loop-left.cpu c.loop-left.slot (machine_regions c.loop-left.regions) in
    let mid = state c.quick_run-reached.new.cpu c.quick_run-reached.result.slot (machine_regions c.quick_run-reached.new.regions) in
    let fewer : steps < c.loop-left.left = c.quick_run-reached.ensures.some_left c.loop-left-test.true in
    let same = sym c.loop-left.invariant.same ∙ reach_left steps c.loop-left.left c.args.fuel c.args.code.now.insns m mid c.loop-left.invariant.within (omega arith) c.quick_run-reached.ensures.reaches in
    let on = step_left c.args.fuel left c.args.code.now.insns mid _ (omega arith) (omega arith) c.in-Access.ensures.next in
    same ∙ on

pub returns-in-Depth-clause-outcome : goal.returns-in-Depth-clause-outcome
returns-in-Depth-clause-outcome c =
    let steps = c.quick_run-reached.result.steps in
    let left = c.loop-left.left - steps in
    let m = state c.loop-left.cpu c.loop-left.slot (machine_regions c.loop-left.regions) in
    let mid = state c.quick_run-reached.new.cpu c.quick_run-reached.result.slot (machine_regions c.quick_run-reached.new.regions) in
    let fewer : steps < c.loop-left.left = c.quick_run-reached.ensures.some_left c.loop-left-test.true in
    let same = sym c.loop-left.invariant.same ∙ reach_left steps c.loop-left.left c.args.fuel c.args.code.now.insns m mid c.loop-left.invariant.within (omega arith) c.quick_run-reached.ensures.reaches in
    let on = step_left c.args.fuel left c.args.code.now.insns mid _ (omega arith) (omega arith) c.in-Depth.ensures.next in
    same ∙ on

pub returns-clause-outcome : goal.returns-clause-outcome
returns-clause-outcome c =
    let m = state c.loop-left.cpu c.loop-left.slot (machine_regions c.loop-left.regions) in
    sym c.loop-left.invariant.same ∙ spent c.loop-left.left _ c.args.code.now.insns m c.loop-left-test.false

pub returns-in-Done-clause-within : goal.returns-in-Done-clause-within
returns-in-Done-clause-within c = writes_twice _ _ _ (writes_twice _ _ _ c.loop-left.invariant.writes c.quick_run-reached.ensures.within) c.in-Done.ensures.within

pub returns-in-Access-clause-within : goal.returns-in-Access-clause-within
returns-in-Access-clause-within c = writes_twice _ _ _ (writes_twice _ _ _ c.loop-left.invariant.writes c.quick_run-reached.ensures.within) c.in-Access.ensures.within

pub returns-in-Depth-clause-within : goal.returns-in-Depth-clause-within
returns-in-Depth-clause-within c = writes_twice _ _ _ (writes_twice _ _ _ c.loop-left.invariant.writes c.quick_run-reached.ensures.within) c.in-Depth.ensures.within

pub returns-in-Done-clause-inside : goal.returns-in-Done-clause-inside
returns-in-Done-clause-inside c = λ ok. accepted_stays c.args.fuel c.args.code.now.insns (machine_regions c.args.regions.now) ok

pub returns-in-Access-clause-inside : goal.returns-in-Access-clause-inside
returns-in-Access-clause-inside c = λ ok. accepted_stays c.args.fuel c.args.code.now.insns (machine_regions c.args.regions.now) ok

pub returns-in-Depth-clause-inside : goal.returns-in-Depth-clause-inside
returns-in-Depth-clause-inside c = λ ok. accepted_stays c.args.fuel c.args.code.now.insns (machine_regions c.args.regions.now) ok

pub returns-clause-inside : goal.returns-clause-inside
returns-clause-inside c = λ ok. accepted_stays c.args.fuel c.args.code.now.insns (machine_regions c.args.regions.now) ok
