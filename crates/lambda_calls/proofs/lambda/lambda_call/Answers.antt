use Rattle.std.proofs.Common.{◌≡◌, true, refl, sym, subst}
use Rattle.turn_cell.specs.Passes.{opening_of, view}
use Rattle.plain_files.specs.declared.calls.Request.{Request}
use Rattle.core_state.specs.declared.actor.Actor.TheVariants.{Lane}
use Rattle.core_state.specs.Reach.{is_lambda}
use Rattle.desk_turns.specs.Making.{AreOf}
use Rattle.data_calls.specs.Books.{opening_in}
use Rattle.data_calls.proofs.Whole.{self_prepared, numbered_as}
use Rattle.lambda_calls.proofs.Whole.{takes_own, lambda_prepared, lambda_skipped}
use Rattle.lambda_calls.proofs.lambda.lambda_call.Goals as goal

pub prepared_lambda-requires-clause-prepared : goal.prepared_lambda-requires-clause-prepared
prepared_lambda-requires-clause-prepared g c =
    self_prepared c.args.request.now c.in-Ok.prepared.job c.in-Ok.ensures

pub prepared_lambda-requires-clause-lambda : goal.prepared_lambda-requires-clause-lambda
prepared_lambda-requires-clause-lambda g c =
    subst (λ (r : Request). is_lambda r.call ≡ true) (sym c.in-Ok.ensures.request_is) c.requires.lambda

pub returns-in-Ok-clause-did : goal.returns-in-Ok-clause-did
returns-in-Ok-clause-did g c =
    lambda_prepared g.D.Die.seen (AreOf (Lane c.args.lane)) (opening_of opening_in c.args.desk.now.turn.now) (view c.args.desk.now.pass) (view c.prepared_lambda.new.desk.pass) c.args.lane c.in-Ok.prepared.job.request c.args.request.now c.prepared_lambda.result c.in-Ok.ensures.request_is c.prepared_lambda.ensures.did

pub returns-in-Ok-clause-numbered : goal.returns-in-Ok-clause-numbered
returns-in-Ok-clause-numbered g c =
    λ n is. numbered_as g.D.Die.seen (opening_of opening_in c.args.desk.now.turn.now) (opening_of opening_in c.args.desk.now.turn.now) (view c.prepared_lambda.new.desk.pass) c.args.lane c.in-Ok.prepared.job.request c.args.request.now n refl c.in-Ok.ensures.request_is (c.prepared_lambda.ensures.numbered n is)

pub returns-in-Err-clause-did : goal.returns-in-Err-clause-did
returns-in-Err-clause-did g c =
    lambda_skipped g.D.Die.seen (AreOf (Lane c.args.lane)) (opening_of opening_in c.args.desk.now.turn.now) (view c.args.desk.now.pass) (view c.skip_call.new.desk.pass) c.args.lane c.args.request.now c.skip_call.result (takes_own c.args.lane) c.skip_call.ensures.did

pub skip_call-requires-clause-hands : goal.skip_call-requires-clause-hands
skip_call-requires-clause-hands g c =
    c.requires.lane.none

pub skip_call-requires-clause-idle : goal.skip_call-requires-clause-idle
skip_call-requires-clause-idle g c =
    c.requires.lane.idle
