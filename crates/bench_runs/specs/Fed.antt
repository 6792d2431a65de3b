-- Logs in which no call found no memory. This project's own.
use Rattle.std.specs.Prelude.{Bool, List, not}
use Rattle.std.specs.List.{list_all}
use Rattle.plain_files.specs.declared.calls.Numbered.{Numbered}
use Rattle.plain_files.specs.History.{is_no_memory}
use Rattle.lane_logs.specs.declared.logs.LaneLog.{LaneLog}

-- the call found memory
abbrev pub had_memory : Numbered → Bool
had_memory n = not (is_no_memory n.reply)

-- each call of the lane did
abbrev pub is_fed : LaneLog → Bool
is_fed log = list_all had_memory log.entries.items

-- each call of each lane did
abbrev pub are_fed : List LaneLog → Bool
are_fed logs = list_all is_fed logs
