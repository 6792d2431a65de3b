-- Histories whose die events fail as the dies' plans say. This project's own.
use Rattle.std.specs.Prelude.{◌≡◌, ℕ, ◌+◌, ◌<◌, ◌≤◌, ◌==◌, not, ◌&&◌, if◌then◌else◌, List, [], ◌∷◌, Option, Some, None, is_some, IfSome}
use Rattle.index_lists.specs.Words.{one_if}
use Rattle.flash_die.specs.Dies.{PlanView, DieView}
use Rattle.core_state.specs.State.{Page}
use Rattle.core_state.specs.declared.event.Event.{Event}
use Rattle.core_state.specs.declared.event.Event.TheVariants.{FlushIn, MetaIn}
use Rattle.core_state.specs.History.{DiePlan, write_of, IsPlannedFrom, failures}
use Rattle.system_state.specs.Stands.{failing}
use Rattle.system_state.specs.Slots.{die_at}
use Rattle.system_state.specs.declared.state.State.{State}

-- Each read of each die failed exactly where the die's plan lists the number of that read, and each write where it lists that of the write.
-- They are counted on from those that the plan says the die had made.
abbrev pub FailAsPlanned : (ℕ → PlanView) → List Event → Type 0
FailAsPlanned plans events = (d : ℕ) → IsPlannedFrom d (failing (plans d)) (plans d).reads (plans d).writes events

-- the page that a failed write left, of an event that brings this die home from one
abbrev pub spoilt_by : ℕ → Event → Option Page
spoilt_by d (FlushIn actor die good left) = if die == d && not good then Some left else None
spoilt_by d (MetaIn actor die good left) = if die == d && not good then Some left else None
spoilt_by d _ = None

-- by the number of the write, of a die that has made so many writes before
abbrev pub LeavesFrom : ℕ → (ℕ → Page) → ℕ → List Event → Type 0
LeavesFrom d left writes [] = Unit {0}
LeavesFrom d left writes (e ∷ es) =
    IfSome (spoilt_by d e) (λ page. page ≡ left (writes + 1)) × LeavesFrom d left (writes + one_if (is_some (write_of d e))) es

-- each write that failed left the page that `left` has for its die and its number
abbrev pub LeaveAsTold : (ℕ → ℕ → Page) → (ℕ → PlanView) → List Event → Type 0
LeaveAsTold left plans events = (d : ℕ) → LeavesFrom d (left d) (plans d).writes events

-- the plan of a die that has made no call
abbrev pub unused : DiePlan → PlanView
unused plan = record { reads = 0; writes = 0; failing_reads = plan.reads; failing_writes = plan.writes }

-- no more die events failed than so many
abbrev pub FailAtMost : ℕ → List Event → Type 0
FailAtMost most events = failures events ≤ most

-- the plan lists no number
pub record ListsNone (plan : PlanView) : Type 0 where
  pub reads : plan.failing_reads ≡ []
  pub writes : plan.failing_writes ≡ []

-- so many of the die's calls may still fail, by the bound that it tells
pub record MayFail (die : DieView) (calls : ℕ) : Type 0 where
  pub most : ℕ
  pub told : die.most ≡ Some most
  pub few : most ≤ die.faults + calls

module _ {D J : Type 0} (seen : D → DieView) where
  -- each die of the state tells this plan
  abbrev pub TellPlans : State D J → (ℕ → PlanView) → Type 0
  TellPlans s plans = (d : ℕ) → d < s.sizes.dies → (die_at seen s.rack.slots.items d).plan ≡ Some (plans d)

  -- and bounds its further failures by this number
  abbrev pub BoundFailures : State D J → (ℕ → ℕ) → Type 0
  BoundFailures s calls = (d : ℕ) → d < s.sizes.dies → MayFail (die_at seen s.rack.slots.items d) (calls d)
