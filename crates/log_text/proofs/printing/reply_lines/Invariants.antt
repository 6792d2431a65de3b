use Rattle.std.proofs.Common.{◌≡◌, List, [], length, take, string_bytes}
use Rattle.plain_files.specs.History.{Entry}
use Rattle.script_words.specs.Lanes.{names}
use Rattle.transcript_text.specs.Print.{entry_lines}
use Rattle.log_text.specs.Told.{IsTold}
use Rattle.log_text.proofs.printing.reply_lines.Given as goal

abbrev pub invariant-loop-i : goal.invariant-loop-i
invariant-loop-i l = (calls : List Entry) → IsTold (length l.script.lanes) calls l.logs → string_bytes l.text ≡ entry_lines (names l.script) [] (take l.i calls)
