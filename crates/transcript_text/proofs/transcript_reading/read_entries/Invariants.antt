use Rattle.std.proofs.Common.{◌≡◌, ◌+◌, [], map, drop}
use Rattle.transcript_text.specs.Transcripts.{read_entries}
use Rattle.transcript_text.proofs.transcript_reading.read_entries.Given as goal

abbrev pub invariant-loop-i : goal.invariant-loop-i
invariant-loop-i l = read_entries l.lanes (l.i + 1) l.entries (map (λ x. x.now) (drop l.i l.lines)) ≡ read_entries l.lanes 1 [] (map (λ x. x.now) l.lines)
