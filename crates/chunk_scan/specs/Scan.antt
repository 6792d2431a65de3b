-- What a scan answers: one function is run on each piece of an input, and the replies are those of `readl`. This project's own.
use Rattle.std.specs.Prelude.{ℕ, List, map, replicate, Result, Ok, Err}
use Rattle.sbpf_insn.specs.declared.insn.Insn.{Insn}
use Rattle.sbpf_insn.specs.Machine as machine
use Rattle.plain_files.specs.declared.calls.Reply.{Reply}
use Rattle.plain_files.specs.Plain.{RunEnd, ended, first_bytes}
use Rattle.chunk_scan.specs.Pieces.{pieces}

-- the first r0 bytes of the output, where it has so many; a trap or spent fuel is the reply itself
abbrev pub reply_to_end : ℕ → Result RunEnd Reply → Reply
reply_to_end cap (Ok end) = first_bytes cap end
reply_to_end cap (Err stop) = stop

-- the reply to a run on one piece, with `cap` zeros as its output
abbrev pub piece_reply : List Insn → ℕ → ℕ → List ℕ → List ℕ → Reply
piece_reply code fuel cap param piece =
    reply_to_end cap (ended (machine.run code (machine.shaped piece (replicate cap 0) param) fuel))

-- the replies to the runs on all pieces, in order
abbrev pub scan : List Insn → List ℕ → ℕ → ℕ → ℕ → List ℕ → List Reply
scan code input size fuel cap param = map (piece_reply code fuel cap param) (pieces size input)
