use Rattle.std.proofs.Common.{Some, map, string_bytes, ap, sym, ◌∙◌}
use Rattle.command_words.specs.Commands.{command_of}
use Rattle.stack_top.specs.Moments.{edge}
use Rattle.stack_top.proofs.Causes.{main_wanting}
use Rattle.stack_top.proofs.Crews.{crew_is_few}
use Rattle.stack_top.proofs.top_main.answered_all.Goals as goal

pub returns-in-Err-clause-cause : goal.returns-in-Err-clause-cause
returns-in-Err-clause-cause g c =
    main_wanting (command_of (map string_bytes c.args.words.now))
    (edge (g.R.Room.names c.args.room.now) (g.R.Room.faults c.args.room.now) (g.O.Sink.written c.args.out.now) (g.O.Sink.faults c.args.out.now))
    c.in-Err.ensures.err

pub run_served-requires : goal.run_served-requires
run_served-requires g c =
    let is = c.in-Ok-Some-Run in
    (c.type_bounds.sync-W, (c.type_bounds.sync-G, crew_is_few (map string_bytes c.args.words.now) is.asked (sym is.ensures.ok ∙ is.field-0-is ∙ ap Some is.field-0-0-is)))
