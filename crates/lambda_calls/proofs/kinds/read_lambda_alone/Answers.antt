use Rattle.lambda_calls.proofs.Whole.{readl_runs}
use Rattle.lambda_calls.proofs.kinds.read_lambda_alone.Goals as goal

pub lambda_call_alone-requires-clause-lambda : goal.lambda_call_alone-requires-clause-lambda
lambda_call_alone-requires-clause-lambda g c =
    readl_runs c.args.request.now.call c.requires.kind
