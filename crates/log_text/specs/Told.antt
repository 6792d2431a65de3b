-- What the lanes of a run were told. This project's own.
use Rattle.std.specs.Prelude.{ℕ, ◌<◌, ◌^◌, List, length}
use Rattle.std.specs.List.{AllByRecursion}
use Rattle.plain_files.specs.History.{Entry}
use Rattle.lane_logs.specs.declared.logs.LaneLog.{LaneLog}
use Rattle.lane_logs.specs.Logs.{AreLogs}

-- Logs of a run with these calls, numbered from 1: each call is one of a lane that has a log, and 32 bits number them.
pub record IsTold (lanes : ℕ) (calls : List Entry) (logs : List LaneLog) : Type 0 where
  pub are : AreLogs lanes 0 calls logs
  pub known : AllByRecursion (λ e. e.lane < lanes) calls
  pub few : length calls < 2 ^ 32
