use Rattle.std.proofs.Common.{map, string_bytes}
use Rattle.command_words.specs.Commands.{scan_command}
use Rattle.stack_top.specs.Moments.{edge}
use Rattle.stack_top.proofs.Causes.{scan_wanting}
use Rattle.stack_top.proofs.top_scan.scan_answered.Goals as goal

pub returns-in-Err-clause-cause : goal.returns-in-Err-clause-cause
returns-in-Err-clause-cause g c =
    scan_wanting (scan_command (map string_bytes c.args.words.now))
    (edge (g.R.Room.names c.args.room.now) (g.R.Room.faults c.args.room.now) (g.O.Sink.written c.args.out.now) (g.O.Sink.faults c.args.out.now))
    c.in-Err.ensures.err
