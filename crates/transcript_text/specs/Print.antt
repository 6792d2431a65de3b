-- The text of a transcript. Its form is this project's own.
use Rattle.std.specs.Prelude.{ℕ, ◌+◌, List, [], ◌∷◌, ◌++◌, length, slice_get, unwrap_or, false, codes, decimal}
use Rattle.hex.specs.Hex.{encode_lower}
use Rattle.std.specs.Fmt.{digits}
use Rattle.sbpf_insn.specs.declared.fault.InsnKind.{InsnKind}
use Rattle.sbpf_insn.specs.declared.fault.InsnKind.TheVariants as insn_kind
use Rattle.sbpf_insn.specs.declared.fault.VerifyKind.{VerifyKind}
use Rattle.sbpf_insn.specs.declared.fault.VerifyKind.TheVariants as verify_kind
use Rattle.plain_files.specs.declared.calls.CodeKind.{CodeKind}
use Rattle.plain_files.specs.declared.calls.CodeKind.TheVariants.{Insn, Verify}
use Rattle.plain_files.specs.declared.calls.Reply.{Reply}
use Rattle.plain_files.specs.declared.calls.Reply.TheVariants.{Id, Len, Val, At, DataBytes, Res, Done, TrapAccess, TrapDepth, TrapOutLen, Spent, BadName, Exists, Full, NoFile, NoFn, TooLong, AppendOnly, TooBig, NoSpace, FnFull, BadCode, Fault, NoMemory}
use Rattle.plain_files.specs.History.{Entry, calls_in}

-- bytes in hexadecimal, `-` for none
abbrev pub bytes_text : List ℕ → List ℕ
bytes_text [] = codes "-"
bytes_text (b ∷ bs) = encode_lower (b ∷ bs)

-- the word of a code's fault
abbrev pub insn_word : InsnKind → List ℕ
insn_word insn_kind.Truncated = codes "truncated"
insn_word insn_kind.Refused = codes "refused"
insn_word insn_kind.Opcode = codes "opcode"
insn_word insn_kind.Register = codes "register"
insn_word insn_kind.Field = codes "field"
insn_word insn_kind.Wide = codes "wide"

abbrev pub verify_word : VerifyKind → List ℕ
verify_word verify_kind.Empty = codes "empty"
verify_word verify_kind.TooLong = codes "toolong"
verify_word verify_kind.Writer10 = codes "writer10"
verify_word verify_kind.Jump = codes "jump"
verify_word verify_kind.Middle = codes "middle"
verify_word verify_kind.CallTarget = codes "calltarget"
verify_word verify_kind.FallsOff = codes "fallsoff"

abbrev pub kind_word : CodeKind → List ℕ
kind_word (Insn kind) = insn_word kind
kind_word (Verify kind) = verify_word kind

-- an address: `0x` and lower-case hexadecimal digits
abbrev pub address_text : ℕ → List ℕ
address_text address = codes "0x" ++ digits 16 false address

-- the text of a reply
abbrev pub reply_text : Reply → List ℕ
reply_text (Id id) = codes "id " ++ decimal id
reply_text (Len len) = codes "len " ++ decimal len
reply_text (Val r0) = codes "val " ++ decimal r0
reply_text (At off) = codes "at " ++ decimal off
reply_text (DataBytes bytes) = codes "data " ++ bytes_text bytes
reply_text (Res bytes) = codes "res " ++ bytes_text bytes
reply_text Done = codes "ok"
reply_text (TrapAccess address size slot) =
    (codes "trap access " ++ address_text address) ++ (codes " " ++ decimal size) ++ (codes " " ++ decimal slot)
reply_text (TrapDepth slot) = codes "trap depth " ++ decimal slot
reply_text (TrapOutLen r0) = codes "trap outlen " ++ decimal r0
reply_text Spent = codes "spent"
reply_text BadName = codes "badname"
reply_text Exists = codes "exists"
reply_text Full = codes "full"
reply_text NoFile = codes "nofile"
reply_text NoFn = codes "nofn"
reply_text TooLong = codes "toolong"
reply_text AppendOnly = codes "appendonly"
reply_text TooBig = codes "toobig"
reply_text NoSpace = codes "nospace"
reply_text FnFull = codes "fnfull"
reply_text (BadCode kind slot) = codes "badcode " ++ kind_word kind ++ codes " " ++ decimal slot
reply_text Fault = codes "fault"
reply_text NoMemory = codes "nomemory"

-- `#N LANE.K REPLY` and the line's end
abbrev pub reply_line : ℕ → List ℕ → ℕ → Reply → List ℕ
reply_line number lane k reply =
    codes "#" ++ decimal number ++ codes " " ++ lane ++ codes "." ++ decimal k ++ codes " " ++ reply_text reply ++ codes "\n"

-- calls begun at the host and at the drive, fills, and flushes with meta pages
pub record Counts : Type 0 where
  pub host : ℕ
  pub drive : ℕ
  pub reads : ℕ
  pub writes : ℕ

-- nothing was done
abbrev pub no_counts : Counts
no_counts = record { host = 0; drive = 0; reads = 0; writes = 0 }

-- the last line
abbrev pub places_line : Counts → List ℕ
places_line c =
    (codes "places host=" ++ decimal c.host)
    ++ (codes " drive=" ++ decimal c.drive)
    ++ (codes " reads=" ++ decimal c.reads)
    ++ (codes " writes=" ++ decimal c.writes) ++ codes "\n"

-- the lines of some entries that stand behind others: a number from 1, and in each lane a number from 1
abbrev pub entry_lines : List (List ℕ) → List Entry → List Entry → List ℕ
entry_lines names before [] = []
entry_lines names before (e ∷ rest) =
    reply_line (length before + 1) (unwrap_or (slice_get names e.lane) []) (length (calls_in e.lane before) + 1) e.reply
    ++ entry_lines names (before ++ e ∷ []) rest

-- the transcript of a history, whose lanes have these names
abbrev pub print : List (List ℕ) → List Entry → Counts → List ℕ
print names h counts = entry_lines names [] h ++ places_line counts
