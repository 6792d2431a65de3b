use Rattle.std.proofs.Common.{◌≡◌, true, refl, sym, subst}
use Rattle.turn_cell.specs.Desks.{view_alone, opening_alone}
use Rattle.plain_files.specs.declared.calls.Request.{Request}
use Rattle.core_state.specs.Reach.{is_lambda}
use Rattle.core_solo.specs.Alone.{IsAlone}
use Rattle.system_state.specs.Cores.{core_of}
use Rattle.desk_turns.specs.Passing.{core_seen}
use Rattle.data_calls.specs.Books.{opening_in}
use Rattle.data_calls.proofs.Whole.{self_prepared, numbered_as}
use Rattle.data_calls.specs.Finishing.{AreOfCall}
use Rattle.lambda_calls.proofs.Whole.{takes_served, lambda_prepared, lambda_skipped}
use Rattle.lambda_calls.proofs.lambda.lambda_call_alone.Goals as goal

pub prepared_lambda_alone-requires-clause-prepared : goal.prepared_lambda_alone-requires-clause-prepared
prepared_lambda_alone-requires-clause-prepared g c =
    self_prepared c.args.request.now c.in-Ok.prepared.job c.in-Ok.ensures

pub prepared_lambda_alone-requires-clause-lambda : goal.prepared_lambda_alone-requires-clause-lambda
prepared_lambda_alone-requires-clause-lambda g c =
    subst (λ (r : Request). is_lambda r.call ≡ true) (sym c.in-Ok.ensures.request_is) c.requires.lambda

pub prepared_lambda_alone-requires-clause-alone : goal.prepared_lambda_alone-requires-clause-alone
prepared_lambda_alone-requires-clause-alone g c =
    subst (λ (r : Request). IsAlone (core_seen (core_of g.D.Die.seen) (opening_alone opening_in c.args.alone.now) (view_alone c.args.alone.now)) c.args.lane r) (sym c.in-Ok.ensures.request_is) c.requires.alone

pub skip_call_alone-requires-clause-awaited : goal.skip_call_alone-requires-clause-awaited
skip_call_alone-requires-clause-awaited g c =
    c.requires.alone.awaited

pub returns-in-Ok-clause-did : goal.returns-in-Ok-clause-did
returns-in-Ok-clause-did g c =
    lambda_prepared g.D.Die.seen (AreOfCall c.args.lane) (opening_alone opening_in c.args.alone.now) (view_alone c.args.alone.now) (view_alone c.prepared_lambda_alone.new.alone) c.args.lane c.in-Ok.prepared.job.request c.args.request.now c.prepared_lambda_alone.result c.in-Ok.ensures.request_is c.prepared_lambda_alone.ensures.did

pub returns-in-Ok-clause-numbered : goal.returns-in-Ok-clause-numbered
returns-in-Ok-clause-numbered g c =
    λ n is. numbered_as g.D.Die.seen (opening_alone opening_in c.args.alone.now) (opening_alone opening_in c.args.alone.now) (view_alone c.prepared_lambda_alone.new.alone) c.args.lane c.in-Ok.prepared.job.request c.args.request.now n refl c.in-Ok.ensures.request_is (c.prepared_lambda_alone.ensures.numbered n is)

pub returns-in-Err-clause-did : goal.returns-in-Err-clause-did
returns-in-Err-clause-did g c =
    lambda_skipped g.D.Die.seen (AreOfCall c.args.lane) (opening_alone opening_in c.args.alone.now) (view_alone c.args.alone.now) (view_alone c.skip_call_alone.new.alone) c.args.lane c.args.request.now c.skip_call_alone.result (takes_served c.args.lane) c.skip_call_alone.ensures.did

pub skip_call_alone-requires-clause-hands : goal.skip_call_alone-requires-clause-hands
skip_call_alone-requires-clause-hands g c =
    c.requires.lane.none

pub skip_call_alone-requires-clause-idle : goal.skip_call_alone-requires-clause-idle
skip_call_alone-requires-clause-idle g c =
    c.requires.lane.idle
