-- A run of one thread that fails as planned. This project's own.
use Rattle.std.specs.Prelude.{◌≡◌, ℕ, Bool, false, List, map}
use Rattle.flash_die.specs.Dies.{PlanView}
use Rattle.core_state.specs.declared.event.Event.{Event}
use Rattle.core_state.specs.State.{Page, Core}
use Rattle.core_state.specs.Happens.{after_all}
use Rattle.core_solo.specs.Solo.{Script, SoloRun}
use Rattle.core_solo.specs.Served.{starved_of}
use Rattle.core_plans.specs.Failing.{FailAsPlanned, LeaveAsTold}

-- A whole run is there whose die events fail as the plans say, and whose failed writes leave what is told. Each of its calls, one for each line,
-- found memory.
pub record RunsAsPlanned (encode : Core → ℕ → Page) (plans : ℕ → PlanView) (left : ℕ → ℕ → Page) (c0 : Core) (script : Script) (last : Bool) : Type 0 where
  pub events : List Event
  pub run : SoloRun encode c0 script last events (after_all c0 events)
  pub planned : FailAsPlanned plans events
  pub leaves : LeaveAsTold left plans events
  pub fed : starved_of events ≡ map (λ (line : ℕ × ℕ). false) script.order
