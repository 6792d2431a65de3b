use Rattle.std.proofs.Common.{false, refl, inl}
use Rattle.turn_cell.specs.Desks.{view_alone, opening_alone}
use Rattle.call_turns.specs.Books.{opening_in}
use Rattle.quick_calls.proofs.Ending.{waited_none, quick_on, quick_worn, quick_alone}
use Rattle.quick_calls.proofs.quick.quick_call_alone.Goals as goal

pub turn_quick-requires-clause-acts : goal.turn_quick-requires-clause-acts
turn_quick-requires-clause-acts g c =
    inl c.requires.free.2.0

pub turn_quick-requires-clause-hands : goal.turn_quick-requires-clause-hands
turn_quick-requires-clause-hands g c =
    c.requires.lane.none

pub turn_quick-requires-clause-idle : goal.turn_quick-requires-clause-idle
turn_quick-requires-clause-idle g c =
    c.requires.lane.idle

pub turn_quick-requires-clause-unmarked : goal.turn_quick-requires-clause-unmarked
turn_quick-requires-clause-unmarked g c =
    c.requires.lane.mark

pub returns-in_err-answer-clause-did : goal.returns-in_err-answer-clause-did
returns-in_err-answer-clause-did g c =
    quick_worn g.D.Die.seen (opening_alone opening_in c.args.alone.now) (view_alone c.args.alone.now) (view_alone c.args.alone.now) (view_alone c.turn_quick.new.desk) c.args.lane c.args.request.now c.from_residual.result c.from_residual.ensures.0 (waited_none g.D.Die.seen false (opening_alone opening_in c.args.alone.now) (view_alone c.args.alone.now) c.args.lane c.requires.lane) c.in_err-answer.ensures.went

pub returns-clause-did : goal.returns-clause-did
returns-clause-did g c =
    quick_on g.D.Die.seen (opening_alone opening_in c.args.alone.now) (opening_alone opening_in c.args.alone.now) (view_alone c.args.alone.now) (view_alone c.args.alone.now) (view_alone c.turn_quick.new.desk) c.args.lane c.args.request.now c.args.loading.now c.turn_quick.new.loading c.in_ok-answer.answer c.in-Ok.numbered refl c.in-Ok.is (inl c.requires.free.2.0) (waited_none g.D.Die.seen false (opening_alone opening_in c.args.alone.now) (view_alone c.args.alone.now) c.args.lane c.requires.lane) c.in_ok-answer.ensures.did

pub unreachable-requires : goal.unreachable-requires
unreachable-requires g c =
    quick_alone g.D.Die.seen (opening_alone opening_in c.args.alone.now) (view_alone c.args.alone.now) (view_alone c.turn_quick.new.desk) c.args.lane c.args.request.now c.args.loading.now c.turn_quick.new.loading c.in_ok-answer.answer c.in-Err.field-0 c.requires.free.2.0 c.requires.alone c.requires.lane c.in-Err.is c.in_ok-answer.ensures.did
