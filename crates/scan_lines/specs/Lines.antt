-- What `scan` prints, and when it prints nothing. This project's own.
use Rattle.std.specs.Prelude.{◌≡◌, ℕ, ◌+◌, Bool, true, false, List, [], ◌∷◌, ◌++◌, length, codes, decimal, Result, Ok, Err}
use Rattle.sbpf_insn.specs.declared.insn.Insn.{Insn}
use Rattle.plain_files.specs.declared.calls.Reply.{Reply}
use Rattle.transcript_text.specs.Print.{reply_text}
use Rattle.chunk_scan.specs.Pieces.{is_within_limits}
use Rattle.chunk_scan.specs.Scan.{scan}
use Rattle.scan_lines.specs.declared.scanning.LinesErr.{LinesErr}
use Rattle.scan_lines.specs.declared.scanning.LinesErr.TheVariants.{Limit, NoMemory}

-- the number of a piece, and its reply
abbrev pub piece_line : ℕ → Reply → List ℕ
piece_line piece reply = (decimal piece ++ codes " ") ++ reply_text reply ++ codes "\n"

-- the lines of replies, the first of them that of piece i
abbrev pub lines_from : ℕ → List Reply → List ℕ
lines_from i [] = []
lines_from i (reply ∷ replies) = piece_line i reply ++ lines_from (i + 1) replies

-- how many pieces there are
abbrev pub chunks_line : ℕ → List ℕ
chunks_line count = codes "chunks " ++ decimal count ++ codes "\n"

-- a line for each piece, numbered from 0, and how many there are
abbrev pub scan_lines : List Reply → List ℕ
scan_lines replies = lines_from 0 replies ++ chunks_line (length replies)

-- Within the limits on pieces and outputs the lines are those of the scan; else there are none. Want of memory comes only within the limits.
abbrev pub Scans : Result (List ℕ) LinesErr → List Insn → List ℕ → ℕ → ℕ → ℕ → List ℕ → Type 0
Scans (Ok text) code input chunk fuel cap param = (is_within_limits chunk (length input) cap ≡ true) × (text ≡ scan_lines (scan code input chunk fuel cap param))
Scans (Err Limit) code input chunk fuel cap param = is_within_limits chunk (length input) cap ≡ false
Scans (Err NoMemory) code input chunk fuel cap param = is_within_limits chunk (length input) cap ≡ true
