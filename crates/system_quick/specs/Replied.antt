-- What a reply leaves of the state. This project's own.
use Rattle.std.specs.Prelude.{◌≡◌, ℕ, ◌+◌, ◌-◌, ◌%◌, ◌^◌, ◌≤◌, List, [], ◌∷◌, ◌++◌, Some, None, set, slice_get}
use Rattle.flash_die.specs.Dies.{DieView}
use Rattle.turn_cell.specs.declared.book.Entry.{Entry}
use Rattle.turn_cell.specs.History.{entry}
use Rattle.plain_files.specs.declared.calls.Numbered.{Numbered}
use Rattle.plain_files.specs.declared.calls.Request.{Request}
use Rattle.plain_files.specs.Plain.{early, answer}
use Rattle.core_state.specs.declared.actor.Actor.TheVariants.{Lane}
use Rattle.core_state.specs.declared.event.Event.{Event}
use Rattle.core_state.specs.declared.event.Event.TheVariants.{Quick}
use Rattle.core_state.specs.PlainOf.{plain}
use Rattle.core_state.specs.LaneEvents.{IsReady}
use Rattle.core_state.specs.Happens.{HoldsNone}
use Rattle.system_state.specs.Jobs.{JobView}
use Rattle.system_state.specs.Cores.{core_of}
use Rattle.system_state.specs.Made.{Made}
use Rattle.system_state.specs.Stands.{IsStanding, Stands}
use Rattle.system_state.specs.Noted.{told_more}
use Rattle.system_state.specs.declared.lanes.Lane.{Lane as Row}
use Rattle.system_state.specs.declared.state.State.{State}
use Rattle.system_begin.specs.Landed.{row_replied}

-- the lane's call has its reply and the next number, and the event was made; all else is as it was
pub record IsReplied {D J : Type 0} (lane : ℕ) (e : Event) (s t : State D J) : Type 0 where
  pub rest : t ≡ record s { lanes = t.lanes; last = s.last + 1; told = t.told; made = (s.made + 1) % 2 ^ 64 }
  pub lanes : (row : Row) → slice_get s.lanes.items lane ≡ Some row → t.lanes.items ≡ set s.lanes.items lane (row_replied row)
  pub notes : t.told.value ≡ told_more s.told.value e

module _ {D J : Type 0} (seen : D → DieView) (suits : J → JobView → Type 0) where
  -- the lane may answer a call that nothing refuses early
  pub record Asked (s : State D J) (lane : ℕ) (request : Request) : Type 0 where
    pub standing : IsStanding seen suits s
    pub hands : HoldsNone (core_of seen s) (Lane lane)
    pub ready : IsReady (core_of seen s) lane request
    pub not_early : early (plain (core_of seen s)) request.call ≡ None
    pub last : s.last ≤ 2 ^ 64 - 3

  -- the call has the reply of the plain machine and the next number, as one event
  pub record IsAnswered (s : State D J) (lane : ℕ) (request : Request) (x : Numbered) (t : State D J) : Type 0 where
    pub number : x.number ≡ s.last + 1
    pub reply : x.reply ≡ (answer (plain (core_of seen s)) request.call).reply
    pub made : Made seen suits s (Quick lane request x.reply) t
    pub stands : (o : State D J) (h : List (Entry Event)) (n : ℕ) → Stands seen suits s o h → Stands seen suits t o (h ++ entry n (Quick lane request x.reply) ∷ [])
