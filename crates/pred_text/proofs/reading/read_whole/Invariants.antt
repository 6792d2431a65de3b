use Rattle.std.proofs.Common.{◌≡◌, length, drop}
use Rattle.pred_text.specs.Words.{tokens}
use Rattle.pred_text.specs.Reading.{reads, read_pred}
use Rattle.pred_text.proofs.reading.read_whole.Given as goal

abbrev pub invariant-loop-at : goal.invariant-loop-at
invariant-loop-at l = reads (length l.text) l.place (tokens l.in_run l.at (drop l.at l.text)) ≡ read_pred l.fn.text
