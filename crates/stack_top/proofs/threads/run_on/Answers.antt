use Rattle.std.proofs.Common.{ℕ, subst}
use Rattle.std.specs.Prelude.{Err}
use Rattle.std.proofs.lemmas.Result.{err_from_is_err_and}
use Rattle.plain_image.specs.Opened.{opened}
use Rattle.script_words.specs.declared.script.Script.{Script}
use Rattle.stack_top.specs.Acts.{name_of}
use Rattle.stack_top.specs.Decided.{GoesOn}
use Rattle.stack_top.specs.Scripts.{reads_script}
use Rattle.stack_top.specs.Works.{Work, ends, runs_at_once_on}
use Rattle.stack_top.proofs.Walks.{over_dies, after, at_finish}
use Rattle.stack_top.proofs.threads.run_on.Goals as goal

pub returns-in_err-calls-clause-decided : goal.returns-in_err-calls-clause-decided
returns-in_err-calls-clause-decided g c =
    let p = err_from_is_err_and c.from_residual.result c.from_residual.ensures.1 in
    λ bytes mounts drive.
    let next : Script → Work = λ calls. ends (runs_at_once_on (opened bytes c.args.image.drive) calls (name_of c.args.asked.now.out) c.args.asked.now.setup) in
    rw (p.1, p.2)
    (
    over_dies (g.R.Room.names c.args.room.now) (g.R.Room.faults c.args.room.now) (g.R.Room.faults c.read_named_script.new.room) c.args.asked.now.setup.dies c.dies-dies.result c.args.image.drive.geometry.dies c.args.asked.now.script next
    (Err c.in_err-calls.field-0.0) c.dies-dies.ensures.value (c.in_err-calls.ensures.err next)
    )

pub returns-clause-decided : goal.returns-clause-decided
returns-clause-decided g c = λ bytes mounts drive.
    let next : Script → Work = λ calls. ends (runs_at_once_on (opened bytes c.args.image.drive) calls (name_of c.args.asked.now.out) c.args.asked.now.setup) in
    let On : ℕ → Type 0 = λ dies. GoesOn (g.R.Room.names c.args.room.now) (reads_script c.args.asked.now.setup.dies dies c.args.asked.now.script next) (next c.in_ok-calls.calls) in
    after (g.R.Room.names c.args.room.now) (g.R.Room.faults c.args.room.now) (g.R.Room.faults c.read_named_script.new.room) (g.R.Room.faults c.read_named_script.new.room) _ _ c.ran_at_once.result
    (subst On c.dies-dies.ensures.value (c.in_ok-calls.ensures.ok next))
    c.read_named_script.ensures.later
    (
    at_finish (g.R.Room.names c.args.room.now) (g.R.Room.faults c.read_named_script.new.room) (g.R.Room.faults c.read_named_script.new.room)
    (runs_at_once_on (opened bytes c.args.image.drive) c.in_ok-calls.calls (name_of c.args.asked.now.out) c.args.asked.now.setup) c.ran_at_once.result (c.ran_at_once.ensures bytes mounts drive)
    )
