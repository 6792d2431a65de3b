-- What comes of a call that is to begin. This project's own.
use Rattle.std.specs.Prelude.{◌≡◌, ℕ, ◌+◌, Option, Some, None, Result, Ok, Err}
use Rattle.dispatcher.specs.declared.side.Side.{Side}
use Rattle.plain_files.specs.declared.calls.Numbered.{Numbered}
use Rattle.plain_files.specs.declared.calls.Reply.{Reply}
use Rattle.plain_files.specs.declared.calls.Request.{Request}
use Rattle.plain_files.specs.Plain.{early}
use Rattle.core_state.specs.declared.event.Event.{Event}
use Rattle.core_state.specs.declared.event.Event.TheVariants.{Quick, Begin}
use Rattle.core_state.specs.State.{Core}
use Rattle.core_state.specs.PlainOf.{plain}
use Rattle.system_state.specs.declared.not_yet.NotYet.{NotYet}
use Rattle.system_lanes.specs.Waiting.{awaited_still}
use Rattle.system_begin.specs.declared.attempt.Begun.{Begun}
use Rattle.system_begin.specs.declared.attempt.Begun.TheVariants.{Ended, Started}
use Rattle.system_begin.specs.Begun.{begin_waits, side_of, claim_at_side}

-- it waits, is refused, or begins at a side with so many pages
pub data Way : Type 0 where
  Waits : (why : NotYet) → Way
  Refused : (reply : Reply) → Way
  Begins : (side : Side) (span : ℕ) → Way

-- The first of what is in its way: the call that it awaits, a refusal, the least clash or else missing room.
abbrev pub way_by : Option NotYet → Option Reply → Option NotYet → Side → ℕ → Way
way_by (Some awaited) refusal waits side span = Waits awaited
way_by None (Some reply) waits side span = Refused reply
way_by None None (Some y) side span = Waits y
way_by None None None side span = Begins side span

abbrev pub begin_way : Core → Request → Way
begin_way c request =
    way_by (awaited_still c.lanes request.awaits) (early (plain c) request.call) (begin_waits c (claim_at_side c request)) (side_of c request) (claim_at_side c request).reach.pages

-- the way that an answer tells
abbrev pub way_of : Result Begun NotYet → Way
way_of (Err y) = Waits y
way_of (Ok (Ended n)) = Refused n.reply
way_of (Ok (Started side span)) = Begins side span

-- the event that was made
abbrev pub begin_event : ℕ → Request → Begun → Event
begin_event lane request (Ended n) = Quick lane request n.reply
begin_event lane request (Started side span) = Begin lane request side

-- a call that has ended has the number after the last one; one that begins draws none
abbrev pub IsNext : ℕ → Begun → Type 0
IsNext last (Ended n) = n.number ≡ last + 1
IsNext last (Started side span) = Unit {0}
