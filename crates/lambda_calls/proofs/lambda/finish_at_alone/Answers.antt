use Rattle.std.proofs.Common.{subst}
use Rattle.turn_cell.specs.Desks.{view_alone, opening_alone}
use Rattle.dispatcher.specs.declared.side.Side.{Side}
use Rattle.system_state.specs.Cores.{core_of}
use Rattle.desk_turns.specs.Passing.{core_seen}
use Rattle.data_calls.specs.Books.{opening_in}
use Rattle.data_calls.specs.Finishing.{IsBegunAt}
use Rattle.lambda_calls.proofs.Whole.{own_says}
use Rattle.lambda_calls.proofs.lambda.finish_at_alone.Goals as goal

pub finish_at_host_alone-requires-clause-begun : goal.finish_at_host_alone-requires-clause-begun
finish_at_host_alone-requires-clause-begun g c =
    subst (λ (s : Side). IsBegunAt s (core_seen (core_of g.D.Die.seen) (opening_alone opening_in c.args.alone.now) (view_alone c.args.alone.now)) c.args.lane c.args.job) c.in-Host.is c.requires.begun

pub finish_at_drive_alone-requires-clause-begun : goal.finish_at_drive_alone-requires-clause-begun
finish_at_drive_alone-requires-clause-begun g c =
    subst (λ (s : Side). IsBegunAt s (core_seen (core_of g.D.Die.seen) (opening_alone opening_in c.args.alone.now) (view_alone c.args.alone.now)) c.args.lane c.args.job) c.in-Drive.is c.requires.begun

pub returns-in-Host-clause-did : goal.returns-in-Host-clause-did
returns-in-Host-clause-did g c =
    own_says g.D.Die.seen (opening_alone opening_in c.args.alone.now) (view_alone c.args.alone.now) (view_alone c.finish_at_host_alone.new.alone) c.args.lane c.args.job.request c.finish_at_host_alone.result c.finish_at_host_alone.ensures.did
