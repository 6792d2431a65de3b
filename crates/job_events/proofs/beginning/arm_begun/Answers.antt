use Rattle.std.proofs.Common.{sym, ap, ◌∙◌, List}
use Rattle.system_state.specs.declared.state.Function.{Function}
use Rattle.core_state.specs.Reach as core_reach
use Rattle.job_events.specs.Armed.{code_row}
use Rattle.job_events.proofs.Arming.{row_is, prepared_so, is_short, reach_now, low_now, lambda_found, code_fits, job_is}
use Rattle.job_events.proofs.beginning.arm_begun.Goals as goal

pub arm-requires-clause-prepared : goal.arm-requires-clause-prepared
arm-requires-clause-prepared g c =
    let is = row_is g.D.Die.seen c.args.state.now c.args.lane c.args.job.now c.index.result.now c.in-Some.call c.requires.standing c.requires.begun c.index.ensures c.in-Some.is in
    prepared_so g.D.Die.seen c.args.state.now c.args.lane c.args.job.now c.in-Some.call c.requires.standing c.requires.begun is

pub arm-requires-clause-short : goal.arm-requires-clause-short
arm-requires-clause-short g c =
    let is = row_is g.D.Die.seen c.args.state.now c.args.lane c.args.job.now c.index.result.now c.in-Some.call c.requires.standing c.requires.begun c.index.ensures c.in-Some.is in
    is_short g.D.Die.seen c.args.state.now c.args.lane c.args.job.now c.in-Some.call c.requires.standing c.requires.begun is

pub arm-requires-clause-reach : goal.arm-requires-clause-reach
arm-requires-clause-reach g c =
    let is = row_is g.D.Die.seen c.args.state.now c.args.lane c.args.job.now c.index.result.now c.in-Some.call c.requires.standing c.requires.begun c.index.ensures c.in-Some.is in
    reach_now g.D.Die.seen c.args.state.now c.args.lane c.args.job.now c.in-Some.call c.requires.standing c.requires.begun is ∙ ap (core_reach.reach_of c.args.job.now.request.call) (sym c.len_for-len.ensures.value)

pub arm-requires-clause-low : goal.arm-requires-clause-low
arm-requires-clause-low g c =
    let is = row_is g.D.Die.seen c.args.state.now c.args.lane c.args.job.now c.index.result.now c.in-Some.call c.requires.standing c.requires.begun c.index.ensures c.in-Some.is in
    low_now g.D.Die.seen c.args.state.now c.args.lane c.args.job.now c.in-Some.call c.requires.standing c.requires.begun is

pub arm-requires-clause-lambda : goal.arm-requires-clause-lambda
arm-requires-clause-lambda g c =
    let is = row_is g.D.Die.seen c.args.state.now c.args.lane c.args.job.now c.index.result.now c.in-Some.call c.requires.standing c.requires.begun c.index.ensures c.in-Some.is in
    lambda_found g.D.Die.seen c.args.state.now c.args.lane c.args.job.now c.in-Some.call c.requires.standing c.requires.begun is c.code_for-code.result c.len_for-len.result
    (c.code_for-code.ensures ∙ ap (λ (fs : List Function). code_row fs c.args.job.now.request.call) c.deref.ensures.value) c.len_for-len.ensures.value

pub arm-requires-clause-code : goal.arm-requires-clause-code
arm-requires-clause-code g c =
    let is = row_is g.D.Die.seen c.args.state.now c.args.lane c.args.job.now c.index.result.now c.in-Some.call c.requires.standing c.requires.begun c.index.ensures c.in-Some.is in
    code_fits g.D.Die.seen c.args.state.now c.args.lane c.args.job.now c.in-Some.call c.requires.standing c.requires.begun is c.code_for-code.result c.len_for-len.result
    (c.code_for-code.ensures ∙ ap (λ (fs : List Function). code_row fs c.args.job.now.request.call) c.deref.ensures.value) c.len_for-len.ensures.value

pub returns : goal.returns
returns g c =
    let is = row_is g.D.Die.seen c.args.state.now c.args.lane c.args.job.now c.index.result.now c.in-Some.call c.requires.standing c.requires.begun c.index.ensures c.in-Some.is in
    record {
      job = job_is g.D.Die.seen c.args.state.now c.args.lane c.args.job.now c.in-Some.call c.requires.standing c.requires.begun is c.code_for-code.result c.len_for-len.result
          (c.code_for-code.ensures ∙ ap (λ (fs : List Function). code_row fs c.args.job.now.request.call) c.deref.ensures.value) c.len_for-len.ensures.value c.arm.new.self c.arm.ensures.fresh c.arm.ensures.suits;
    }
