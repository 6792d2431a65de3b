use Rattle.lambda_calls.proofs.Whole.{writel_runs}
use Rattle.lambda_calls.proofs.kinds.write_lambda.Goals as goal

pub lambda_call-requires-clause-lambda : goal.lambda_call-requires-clause-lambda
lambda_call-requires-clause-lambda g c =
    writel_runs c.args.request.now.call c.requires.kind
