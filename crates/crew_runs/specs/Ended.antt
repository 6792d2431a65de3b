-- What a run of a crew leaves. This project's own.
use Rattle.std.specs.Prelude.{◌≡◌, ◌↔◌, ◌^◌, ℕ, Bool, false, List, length, None}
use Rattle.turn_cell.specs.declared.book.Entry.{Entry}
use Rattle.turn_cell.specs.Events.{events_of}
use Rattle.plain_files.specs.declared.calls.Request.{Request}
use Rattle.plain_files.specs.History.{Serves}
use Rattle.flash_die.specs.Dies.{DieView}
use Rattle.core_state.specs.declared.event.Event.{Event}
use Rattle.core_state.specs.Happens.{IsClosing}
use Rattle.core_state.specs.History.{calls_of}
use Rattle.core_solo.specs.Stored.{IsAllStored}
use Rattle.system_state.specs.Jobs.{JobView}
use Rattle.system_state.specs.Cores.{core_of}
use Rattle.system_state.specs.Settled.{Settled as IsAllSettled}
use Rattle.system_state.specs.Stands.{Stands}
use Rattle.system_state.specs.declared.state.State.{State}
use Rattle.system_metas.specs.Encode.{encode}
use Rattle.crew_history.specs.Begun.{AreBegun}
use Rattle.settling.specs.Steps.{EndsInFailure}
use Rattle.settling.specs.declared.last_sync.Settled.{Settled}
use Rattle.settling.specs.declared.last_sync.Settled.TheVariants.{NotAsked, Done, Failed}
use Rattle.lane_logs.specs.Logs.{AreLogs}
use Rattle.lane_logs.specs.declared.logs.LaneLog.{LaneLog}

module _ {D J : Type 0} (seen : D → DieView) (suits : J → JobView → Type 0) where
  -- A run of these lanes came to its end, from state s to state t by this history. Each lane ended its calls in their order and left, the logs tell
  -- their replies, and all dies are at home. It tells how the last sync ended.
  pub record HasRunLanes (lanes : List (List Request)) (settles : Bool) (s t : State D J) (h : List (Entry Event)) (told : List LaneLog) (ending : Settled) : Type 0 where
    pub stands : Stands seen suits t s h
    pub serves : Serves lanes (calls_of (events_of h))
    pub logs : AreLogs (length lanes) s.last (calls_of (events_of h)) told
    pub left : IsClosing (core_of seen t)
    pub home : (die : ℕ) → ((core_of seen t).dies die).out ≡ None
    pub asked : (ending ≡ NotAsked) ↔ (settles ≡ false)
    pub failed : (ending ≡ Failed) ↔ EndsInFailure h
    pub stored : ending ≡ Done → IsAllStored encode (core_of seen t)
    pub settled : ending ≡ Done → IsAllSettled seen t

  -- The turn has made all the events that it counts, from state s on: some state stands for the history, in which each lane made the first of its
  -- calls.
  pub record IsWornOut (lanes : List (List Request)) (s : State D J) (h : List (Entry Event)) : Type 0 where
    pub state : State D J
    pub stands : Stands seen suits state s h
    pub count : length h ≡ 2 ^ 62
    pub begun : AreBegun lanes (calls_of (events_of h))
