-- A call that was cut short in the run of one thread. This project's own.
use Rattle.std.specs.Prelude.{◌≡◌, ℕ, ◌≤◌, List, length, ◌++◌}
use Rattle.plain_files.specs.declared.calls.Request.{Request}
use Rattle.core_state.specs.declared.event.Event.{Event}
use Rattle.core_state.specs.State.{Page, Core}
use Rattle.core_state.specs.Happens.{CoreRun, after_all}
use Rattle.core_solo.specs.Solo.{Steps, IsStep}

-- Steps of the lane's call from core c, and at most one event more: what the call has made when a worn turn cut it short.
pub record IsCutOff (encode : Core → ℕ → Page) (c : Core) (lane : ℕ) (request : Request) (es : List Event) : Type 0 where
  pub most : List Event
  pub rest : List Event
  pub are : es ≡ most ++ rest
  pub short : length rest ≤ 1
  pub steps : Steps (IsStep encode lane request) c most
  pub run : CoreRun c most (after_all c most)
