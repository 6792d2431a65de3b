use Rattle.std.proofs.Common.{subst}
use Rattle.turn_cell.specs.Passes.{opening_of, view}
use Rattle.dispatcher.specs.declared.side.Side.{Side}
use Rattle.system_state.specs.Cores.{core_of}
use Rattle.desk_turns.specs.Passing.{core_seen}
use Rattle.data_calls.specs.Books.{opening_in}
use Rattle.data_calls.specs.Finishing.{IsBegunAt}
use Rattle.lambda_calls.proofs.lambda.finish_at.Goals as goal

pub finish_at_host-requires-clause-begun : goal.finish_at_host-requires-clause-begun
finish_at_host-requires-clause-begun g c =
    subst (λ (s : Side). IsBegunAt s (core_seen (core_of g.D.Die.seen) (opening_of opening_in c.args.desk.now.turn.now) (view c.args.desk.now.pass)) c.args.lane c.args.job) c.in-Host.is c.requires.begun

pub finish_at_drive-requires-clause-begun : goal.finish_at_drive-requires-clause-begun
finish_at_drive-requires-clause-begun g c =
    subst (λ (s : Side). IsBegunAt s (core_seen (core_of g.D.Die.seen) (opening_of opening_in c.args.desk.now.turn.now) (view c.args.desk.now.pass)) c.args.lane c.args.job) c.in-Drive.is c.requires.begun
