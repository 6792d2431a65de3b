-- The plain machine: files as lists of bytes, functions as lists of instructions, and what each call answers. It is this
-- project's own, except for instructions and their runs, which are those of RFC 9669 in this project's profile.
use Rattle.std.specs.Prelude.{ℕ, ◌+◌, ◌-◌, ◌^◌, List, [], ◌∷◌, ◌++◌, length, take, replicate, sum_by, Bool, true, false, not, ◌||◌, nat_lt, nat_le, bytes_eq, if◌then◌else◌, Option, Some, None, is_some, is_none, unwrap_or, Result, Ok, Err}
use Rattle.std.specs.List.{find}
use Rattle.name_table.specs.Name.{is_name}
use Rattle.page_base.specs.Bytes.{Pages, Cut, Put}
use Rattle.sbpf_insn.specs.declared.insn.Insn.{Insn}
use Rattle.sbpf_insn.specs.declared.fault.InsnFault.{InsnFault}
use Rattle.sbpf_insn.specs.declared.fault.VerifyFault.{VerifyFault}
use Rattle.sbpf_insn.specs.Decoded.{decoded}
use Rattle.sbpf_insn.specs.Refusal.{refusal}
use Rattle.sbpf_insn.specs.Machine as machine
use Rattle.plain_files.specs.declared.calls.Call.{Call}
use Rattle.plain_files.specs.declared.calls.Call.TheVariants.{Create, OpenFile, Stat, Remove, Read, Write, Append, Trunc, Seal, Load, Unload, Readl, Writel, Sync}
use Rattle.plain_files.specs.declared.calls.Reply.{Reply}
use Rattle.plain_files.specs.declared.calls.Reply.TheVariants.{Id, Len, Val, At, DataBytes, Res, Done, TrapAccess, TrapDepth, TrapOutLen, Spent, BadName, Exists, Full, NoFile, NoFn, TooLong, AppendOnly, TooBig, NoSpace, FnFull, BadCode}
use Rattle.plain_files.specs.declared.calls.CodeKind.TheVariants as kind
use Rattle.plain_files.specs.declared.calls.PlainFile.{PlainFile}
use Rattle.plain_files.specs.Lists.{with_changed, without}
use Rattle.plain_files.specs.Steps.{◌>>=◌, refuse}

-- ---- the state

-- a loaded function: its name and its accepted code
pub record Function : Type 0 where
  pub name : List ℕ
  pub code : List Insn

-- the files by rising id, the id that comes next, the functions, and how many data blocks there are
pub record State : Type 0 where
  pub files : List PlainFile
  pub next : ℕ
  pub functions : List Function
  pub capacity : ℕ

-- a reply, and the state after it
pub record Answered : Type 0 where
  pub reply : Reply
  pub state : State

-- whether a file has the name
abbrev pub is_file : List ℕ → PlainFile → Bool
is_file name file = bytes_eq file.name name

-- whether a function has the name
abbrev pub is_function : List ℕ → Function → Bool
is_function name function = bytes_eq function.name name

-- the file of a name
abbrev pub file_of : List ℕ → List PlainFile → Option PlainFile
file_of name files = find (is_file name) files

-- the function of a name
abbrev pub function_of : List ℕ → List Function → Option Function
function_of name functions = find (is_function name) functions

-- the file of a name that is there; an empty one where it is not, of which no call answers
abbrev pub file_in : State → List ℕ → PlainFile
file_in s name = unwrap_or (file_of name s.files) (record { id = 0; name = name; bytes = []; sealed = false })

-- the bytes of a file that is there
abbrev pub bytes_in : State → List ℕ → List ℕ
bytes_in s name = (file_in s name).bytes

-- the code of a function that is there
abbrev pub code_in : State → List ℕ → List Insn
code_in s name = (unwrap_or (function_of name s.functions) (record { name = name; code = [] })).code

-- how many pages all files fill
abbrev pub pages_of : List PlainFile → ℕ
pages_of files = sum_by (λ file. Pages (length file.bytes)) files

-- ---- the refusals that come before anything is run or stored, in their order

-- a length, capacity or number of bytes above 262,144
abbrev pub is_long : ℕ → Bool
is_long bytes = nat_lt 262144 bytes

-- a parameter above 4,096 bytes, or fuel above 2^32
abbrev pub is_run_long : List ℕ → ℕ → Bool
is_run_long param fuel = nat_lt 4096 (length param) || nat_lt (2 ^ 32) fuel

-- a number of the call is above its limit; `trunc` has none
abbrev pub is_too_long : Call → Bool
is_too_long (Read name off len) = is_long len
is_too_long (Write name off bytes) = is_long (length bytes)
is_too_long (Append name bytes) = is_long (length bytes)
is_too_long (Readl file off len function fuel cap param) = is_long len || is_long cap || is_run_long param fuel
is_too_long (Writel file off len function fuel param input) = is_long len || is_long (length input) || is_run_long param fuel
is_too_long _ = false

-- no file has the name
abbrev pub has_no_file : State → List ℕ → Bool
has_no_file s name = is_none (file_of name s.files)

-- the call asks for a file that is not there
abbrev pub lacks_file : State → Call → Bool
lacks_file s (OpenFile name) = has_no_file s name
lacks_file s (Stat name) = has_no_file s name
lacks_file s (Remove name) = has_no_file s name
lacks_file s (Read name off len) = has_no_file s name
lacks_file s (Write name off bytes) = has_no_file s name
lacks_file s (Append name bytes) = has_no_file s name
lacks_file s (Trunc name len) = has_no_file s name
lacks_file s (Seal name) = has_no_file s name
lacks_file s (Readl file off len function fuel cap param) = has_no_file s file
lacks_file s (Writel file off len function fuel param input) = has_no_file s file
lacks_file s _ = false

-- no function has the name
abbrev pub has_no_function : State → List ℕ → Bool
has_no_function s name = is_none (function_of name s.functions)

-- the call asks for a function that is not there
abbrev pub lacks_function : State → Call → Bool
lacks_function s (Unload name) = has_no_function s name
lacks_function s (Readl file off len function fuel cap param) = has_no_function s function
lacks_function s (Writel file off len function fuel param input) = has_no_function s function
lacks_function s _ = false

-- the call would change bytes of a sealed file, be it by none
abbrev pub is_append_only : State → Call → Bool
is_append_only s (Write name off bytes) = (file_in s name).sealed
is_append_only s (Trunc name len) = (file_in s name).sealed
is_append_only s (Writel file off len function fuel param input) = (file_in s file).sealed
is_append_only s _ = false

-- where the bytes that the call puts into its file end, be they none
abbrev pub end_of : State → Call → ℕ
end_of s (Write name off bytes) = off + length bytes
end_of s (Append name bytes) = length (bytes_in s name) + length bytes
end_of s (Trunc name len) = len
end_of s (Writel file off len function fuel param input) = off + len
end_of s _ = 0

-- the first of these that holds; none of them needs a run or a change
abbrev pub early : State → Call → Option Reply
early s call =
    if is_too_long call then Some TooLong
    else if lacks_file s call then Some NoFile
    else if lacks_function s call then Some NoFn
    else if is_append_only s call then Some AppendOnly
    else if nat_lt (2 ^ 28) (end_of s call) then Some TooBig
    else None

-- ---- what a call does where none of them holds

-- a reply that leaves the state
abbrev pub reply_alone : State → Reply → Answered
reply_alone s reply = record { reply = reply; state = s }

-- the call is done, and these are the files now
abbrev pub done_with_files : State → List PlainFile → Answered
done_with_files s files = record { reply = Done; state = record s { files = files } }

-- the call is done, and these are the functions now
abbrev pub done_with_functions : State → List Function → Answered
done_with_functions s functions = record { reply = Done; state = record s { functions = functions } }

-- there are 4,096 files, or the next id is 2^32 - 1
abbrev pub is_full : State → Bool
is_full s = nat_le 4096 (length s.files) || nat_le (2 ^ 32 - 1) s.next

-- the state with a new empty file, which is not sealed
abbrev pub with_file : State → List ℕ → State
with_file s name = record s {
  files = s.files ++ record { id = s.next; name = name; bytes = []; sealed = false } ∷ [];
  next = s.next + 1;
}

-- the state in which the file of a name has these bytes
abbrev pub with_content : State → List ℕ → List ℕ → State
with_content s name bytes = record s { files = with_changed (is_file name) (λ file. record file { bytes = bytes }) s.files }

-- the files, of which the one of the name is sealed
abbrev pub with_sealed : List ℕ → List PlainFile → List PlainFile
with_sealed name files = with_changed (is_file name) (λ file. record file { sealed = true }) files

-- the files fill more pages than there are blocks
abbrev pub is_overfull : State → Bool
is_overfull s = nat_lt s.capacity (pages_of s.files)

-- the file takes these bytes, where all files then fit
abbrev pub stored : State → List ℕ → List ℕ → Reply → Result Answered Reply
stored s name bytes reply = do
  _ ← refuse (is_overfull (with_content s name bytes)) NoSpace
  Ok (record { reply = reply; state = with_content s name bytes })

-- the bytes cut, or lengthened with zeros, to a length
abbrev pub with_length : List ℕ → ℕ → List ℕ
with_length bytes len = take len bytes ++ replicate (len - length bytes) 0

-- the reply to code that is not accepted: the kind and the slot of its first fault
abbrev pub spelled_code : Result (List Insn) InsnFault → Result (List Insn) Reply
spelled_code (Ok code) = Ok code
spelled_code (Err fault) = Err (BadCode (kind.Insn fault.kind) fault.slot)

abbrev pub unless_refused : List Insn → Option VerifyFault → Result (List Insn) Reply
unless_refused code None = Ok code
unless_refused code (Some fault) = Err (BadCode (kind.Verify fault.kind) fault.slot)

-- the accepted code that the bytes spell, or that reply
abbrev pub accepted_code : List ℕ → Result (List Insn) Reply
accepted_code bytes = do
  code ← spelled_code (decoded bytes)
  unless_refused code (refusal code)

-- what a function gave: r0, and the bytes of its output
pub record RunEnd : Type 0 where
  pub r0 : ℕ
  pub output : List ℕ

-- a run that ended; a trap or spent fuel is the reply
abbrev pub ended : machine.Outcome → Result RunEnd Reply
ended (machine.Ended r0 output used) = Ok (record { r0 = r0; output = output })
ended (machine.AccessTrap address size slot used) = Err (TrapAccess address size slot)
ended (machine.DepthTrap slot used) = Err (TrapDepth slot)
ended machine.Spent = Err Spent

-- what the function gives on an input, an output as it is at first, and a parameter
abbrev pub run_of : State → List ℕ → ℕ → List ℕ → List ℕ → List ℕ → Result RunEnd Reply
run_of s function fuel input output param =
    ended (machine.run (code_in s function) (machine.shaped input output param) fuel)

-- the first r0 bytes of the output, where it has so many
abbrev pub first_bytes : ℕ → RunEnd → Reply
first_bytes cap end = if nat_lt cap end.r0 then TrapOutLen end.r0 else Res (take end.r0 end.output)

-- What a call does where none of the early refusals holds. The refusals that are left stand in their order.
abbrev pub effect : State → Call → Result Answered Reply
effect s (Create name) = do
  _ ← refuse (not (is_name name)) BadName
  _ ← refuse (is_some (file_of name s.files)) Exists
  _ ← refuse (is_full s) Full
  Ok (record { reply = Id s.next; state = with_file s name })
effect s (OpenFile name) = Ok (reply_alone s (Id (file_in s name).id))
effect s (Stat name) = Ok (reply_alone s (Len (length (bytes_in s name))))
effect s (Remove name) = Ok (done_with_files s (without (is_file name) s.files))
effect s (Read name off len) = Ok (reply_alone s (DataBytes (Cut (bytes_in s name) off len)))
effect s (Write name off bytes) = stored s name (Put (bytes_in s name) off bytes) Done
effect s (Append name bytes) =
    stored s name (Put (bytes_in s name) (length (bytes_in s name)) bytes) (At (length (bytes_in s name)))
effect s (Trunc name len) = stored s name (with_length (bytes_in s name) len) Done
effect s (Seal name) = Ok (done_with_files s (with_sealed name s.files))
effect s (Load name bytes) = do
  _ ← refuse (not (is_name name)) BadName
  code ← accepted_code bytes
  _ ← refuse (is_some (function_of name s.functions)) Exists
  _ ← refuse (nat_le 64 (length s.functions)) FnFull
  Ok (done_with_functions s (s.functions ++ record { name = name; code = code } ∷ []))
effect s (Unload name) = Ok (done_with_functions s (without (is_function name) s.functions))
effect s (Readl file off len function fuel cap param) = do
  end ← run_of s function fuel (Cut (bytes_in s file) off len) (replicate cap 0) param
  Ok (reply_alone s (first_bytes cap end))
effect s (Writel file off len function fuel param input) = do
  end ← run_of s function fuel input (with_length (Cut (bytes_in s file) off len) len) param
  stored s file (Put (bytes_in s file) off end.output) (Val end.r0)
effect s Sync = Ok (reply_alone s Done)

-- ---- the answer

-- a refusal changes nothing
abbrev pub or_refusal : State → Result Answered Reply → Answered
or_refusal s (Ok answered) = answered
or_refusal s (Err refusal) = reply_alone s refusal

abbrev pub answer_after : Option Reply → State → Call → Answered
answer_after (Some refusal) s call = reply_alone s refusal
answer_after None s call = or_refusal s (effect s call)

-- the reply to a call, and the state after it
abbrev pub answer : State → Call → Answered
answer s call = answer_after (early s call) s call
