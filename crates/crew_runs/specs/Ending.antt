-- How the first pass ends a run, once the passes of all actors are joined to it. This project's own.
use Rattle.std.specs.Prelude.{◌≡◌, ◌<◌, ◌^◌, Bool, false, List, [], length, Result, Ok, Err}
use Rattle.std.specs.declared.snapshot.Snapshot.{Snapshot}
use Rattle.turn_cell.specs.declared.pass.Worn.{Worn}
use Rattle.turn_cell.specs.declared.view.View.{View}
use Rattle.flash_die.specs.Dies.{DieView}
use Rattle.core_state.specs.declared.actor.Actor.TheVariants.{Closer}
use Rattle.core_state.specs.declared.event.Event.{Event}
use Rattle.core_state.specs.Happens.{HoldsNone}
use Rattle.core_closing.specs.Kept.{MaySettle}
use Rattle.system_state.specs.Cores.{core_of}
use Rattle.system_state.specs.declared.state.State.{State}
use Rattle.desk_turns.specs.Passing.{core_seen}
use Rattle.settling.specs.Steps.{EndsInFailure}
use Rattle.settling.specs.declared.last_sync.Settled.{Settled}
use Rattle.solo_runs.specs.Run.{EndsAs}

-- what the first pass knows, of a turn that began at 0 and has other passes, while it has made no entry
pub record IsFirst {O : Type 0} (v : View O Event) : Type 0 where
  pub shared : v.alone ≡ false
  pub number : v.number ≡ 0
  pub first : v.first ≡ 0
  pub own : v.own ≡ []

module _ {D J : Type 0} (seen : D → DieView) where
  -- The system was seen closing. What was known before is less than all the events that a turn counts. The last sync may begin, and nothing of
  -- it was made.
  pub record SeesClosing (o : Snapshot (State D J)) (v w : View (Snapshot (State D J)) Event) : Type 0 where
    pub room : length v.seen < 2 ^ 62
    pub ready : MaySettle (core_seen (core_of seen) o w)
    pub closer : (core_seen (core_of seen) o w).closer ≡ 0
    pub unfailed : EndsInFailure w.seen → ⊥

  -- The run ended so, with a last sync where it was asked for, and the closer holds no die. What was known before is less than all the events that
  -- a turn counts.
  pub record HasClosed (o : Snapshot (State D J)) (v w : View (Snapshot (State D J)) Event) (settles : Bool) (settled : Settled) (es : List Event) : Type 0 where
    pub room : length v.seen < 2 ^ 62
    pub none : HoldsNone (core_seen (core_of seen) o w) Closer
    pub ends : EndsAs seen o w settles settled

  -- what the end of a run answers, and its events
  abbrev pub CloseSays : Snapshot (State D J) → View (Snapshot (State D J)) Event → View (Snapshot (State D J)) Event → Bool → Result Settled Worn → List Event → Type 0
  CloseSays o v w settles (Ok s) es = HasClosed o v w settles s es
  CloseSays o v w settles (Err x) es = Unit {0}
