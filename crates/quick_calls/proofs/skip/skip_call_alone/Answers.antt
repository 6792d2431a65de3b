use Rattle.std.proofs.Common.{refl, inl}
use Rattle.turn_cell.specs.Desks.{view_alone, opening_alone}
use Rattle.system_state.specs.Cores.{core_of}
use Rattle.desk_turns.specs.Passing.{core_seen}
use Rattle.call_turns.specs.Books.{opening_in}
use Rattle.quick_calls.proofs.Ending.{waited_none, skip_on, skip_worn, skip_alone}
use Rattle.quick_calls.proofs.skip.skip_call_alone.Goals as goal

pub turn_skip-requires-clause-acts : goal.turn_skip-requires-clause-acts
turn_skip-requires-clause-acts g c =
    inl c.requires.free.2.0

pub returns-in_err-answer-clause-did : goal.returns-in_err-answer-clause-did
returns-in_err-answer-clause-did g c =
    skip_worn g.D.Die.seen ((core_seen (core_of g.D.Die.seen) (opening_alone opening_in c.args.alone.now) (view_alone c.args.alone.now)).lanes c.args.lane).mark (opening_alone opening_in c.args.alone.now) (view_alone c.args.alone.now) (view_alone c.args.alone.now) (view_alone c.turn_skip.new.desk) c.args.lane c.args.request.now c.from_residual.result c.from_residual.ensures.0 (waited_none g.D.Die.seen ((core_seen (core_of g.D.Die.seen) (opening_alone opening_in c.args.alone.now) (view_alone c.args.alone.now)).lanes c.args.lane).mark (opening_alone opening_in c.args.alone.now) (view_alone c.args.alone.now) c.args.lane (record { idle = c.requires.idle; mark = refl; none = c.requires.hands })) c.in_err-answer.ensures.went

pub returns-clause-did : goal.returns-clause-did
returns-clause-did g c =
    skip_on g.D.Die.seen ((core_seen (core_of g.D.Die.seen) (opening_alone opening_in c.args.alone.now) (view_alone c.args.alone.now)).lanes c.args.lane).mark (opening_alone opening_in c.args.alone.now) (opening_alone opening_in c.args.alone.now) (view_alone c.args.alone.now) (view_alone c.args.alone.now) (view_alone c.turn_skip.new.desk) c.args.lane c.args.request.now c.in_ok-answer.answer c.in-Ok.numbered refl c.in-Ok.is (inl c.requires.free.2.0) (waited_none g.D.Die.seen ((core_seen (core_of g.D.Die.seen) (opening_alone opening_in c.args.alone.now) (view_alone c.args.alone.now)).lanes c.args.lane).mark (opening_alone opening_in c.args.alone.now) (view_alone c.args.alone.now) c.args.lane (record { idle = c.requires.idle; mark = refl; none = c.requires.hands })) c.in_ok-answer.ensures.did

pub unreachable-requires : goal.unreachable-requires
unreachable-requires g c =
    skip_alone g.D.Die.seen (opening_alone opening_in c.args.alone.now) (view_alone c.args.alone.now) (view_alone c.turn_skip.new.desk) c.args.lane c.args.request.now c.in_ok-answer.answer c.in-Err.field-0 c.requires.free.2.0 c.requires.awaited c.in-Err.is c.in_ok-answer.ensures.did
