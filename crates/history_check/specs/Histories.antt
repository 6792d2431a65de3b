-- Which transcripts are legal histories of a script's calls. This project's own.
use Rattle.std.specs.Prelude.{◌≡◌, ℕ, List, []}
use Rattle.plain_files.specs.declared.calls.Request.{Request}
use Rattle.plain_files.specs.History.{Entry, Legal, Serves}
use Rattle.plain_files.specs.Plain.{State}
use Rattle.history_check.specs.Verdicts.{Line, lines_of}

-- The lines are those of a history that is legal from one state to another and serves the lanes.
pub record IsHistory (lanes : List (List Request)) (first : State) (lines : List Line) (last : State) : Type 0 where
  pub history : List Entry
  pub spelled : lines ≡ lines_of [] history
  pub legal : Legal first history last
  pub serves : Serves lanes history
