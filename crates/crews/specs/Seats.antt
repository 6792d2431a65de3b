-- What clauses read of a desk of one pass among others, and what they ask of its turn's opening. This project's own.
use Rattle.std.specs.Prelude.{◌≡◌, ◌<◌, ℕ, false, None}
use Rattle.std.specs.declared.snapshot.Snapshot.{Snapshot}
use Rattle.atomic_table.specs.Seated.{TableId}
use Rattle.turn_cell.specs.declared.view.View.{View}
use Rattle.turn_cell.specs.declared.seated.Seated.{Seated}
use Rattle.turn_cell.specs.Desks.{IsFreeAt}
use Rattle.turn_cell.specs.Passes.{opening_of, view}
use Rattle.core_state.specs.declared.event.Event.{Event}
use Rattle.core_state.specs.State.{Outside, Core}
use Rattle.core_state.specs.declared.actor.Actor.TheVariants.{Lane}
use Rattle.core_state.specs.Coherent.{Coherent}
use Rattle.core_state.specs.Happens.{HoldsNone}
use Rattle.system_state.specs.declared.state.State.{State}
use Rattle.page_steps.specs.Books.{opening_in}
use Rattle.page_steps.specs.SystemOf.{System}

module _ {D J R : Type 0} where
  -- what the desk's pass knows
  abbrev pub view_at : Seated (System D J) R (Snapshot (State D J)) Event → View (Snapshot (State D J)) Event
  view_at s = view s.pass

  -- the opening of its turn
  abbrev pub opening_at : Seated (System D J) R (Snapshot (State D J)) Event → Snapshot (State D J)
  opening_at s = opening_of opening_in s.turn.now

  -- which turn it is
  abbrev pub table_at : Seated (System D J) R (Snapshot (State D J)) Event → TableId
  table_at s = s.pass.seat.table_id

  -- its pass isn't holding
  abbrev pub IsFreeSeat : Seated (System D J) R (Snapshot (State D J)) Event → Type 0
  IsFreeSeat s = IsFreeAt opening_in s.turn.now s.pass

-- No lane has entered, no call is in flight, all dies are at home, and the closer has written nothing.
pub record IsUntouched (c : Core) : Type 0 where
  pub coherent : Coherent c
  pub outside : (lane : ℕ) → lane < c.shape.lanes → (c.lanes lane).stage ≡ Outside
  pub unmarked : (lane : ℕ) → (c.lanes lane).mark ≡ false
  pub ended : (lane : ℕ) → (c.lanes lane).ended ≡ 0
  pub idle : (lane : ℕ) → c.calls lane ≡ None
  pub home : (die : ℕ) → (c.dies die).out ≡ None
  pub closer : c.closer ≡ 0

-- the lane hasn't entered, has no call and no mark, and holds no die
pub record IsOutside (c : Core) (lane : ℕ) : Type 0 where
  pub within : lane < c.shape.lanes
  pub outside : (c.lanes lane).stage ≡ Outside
  pub idle : c.calls lane ≡ None
  pub unmarked : (c.lanes lane).mark ≡ false
  pub none : HoldsNone c (Lane lane)
