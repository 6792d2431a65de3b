-- When two replies are the same. This project's own.
use Rattle.std.specs.Prelude.{ℕ, Bool, ◌&&◌, nat_eq, bytes_eq, List, [], ◌∷◌, slice_index}
use Rattle.plain_files.specs.declared.calls.CodeKind.{CodeKind}
use Rattle.plain_files.specs.declared.calls.CodeKind.TheVariants as code
use Rattle.plain_files.specs.declared.calls.Reply.{Reply}
use Rattle.plain_files.specs.declared.calls.Reply.TheVariants.{Id, Len, Val, At, DataBytes, Res, Done, TrapAccess, TrapDepth, TrapOutLen, Spent, BadName, Exists, Full, NoFile, NoFn, TooLong, AppendOnly, TooBig, NoSpace, FnFull, BadCode, Fault, NoMemory}
use Rattle.sbpf_insn.specs.declared.fault.InsnKind.TheVariants as insn
use Rattle.sbpf_insn.specs.declared.fault.VerifyKind.TheVariants as verify

-- the number of a code's kind of fault
abbrev pub kind_number : CodeKind → ℕ
kind_number (code.Insn insn.Truncated) = 0
kind_number (code.Insn insn.Refused) = 1
kind_number (code.Insn insn.Opcode) = 2
kind_number (code.Insn insn.Register) = 3
kind_number (code.Insn insn.Field) = 4
kind_number (code.Insn insn.Wide) = 5
kind_number (code.Verify verify.Empty) = 6
kind_number (code.Verify verify.TooLong) = 7
kind_number (code.Verify verify.Writer10) = 8
kind_number (code.Verify verify.Jump) = 9
kind_number (code.Verify verify.Middle) = 10
kind_number (code.Verify verify.CallTarget) = 11
kind_number (code.Verify verify.FallsOff) = 12

-- the number of a reply's form, and the numbers in it
abbrev pub numbers_of : Reply → List ℕ
numbers_of (Id id) = 0 ∷ id ∷ 0 ∷ 0 ∷ []
numbers_of (Len len) = 1 ∷ len ∷ 0 ∷ 0 ∷ []
numbers_of (Val r0) = 2 ∷ r0 ∷ 0 ∷ 0 ∷ []
numbers_of (At off) = 3 ∷ off ∷ 0 ∷ 0 ∷ []
numbers_of (DataBytes bytes) = 4 ∷ 0 ∷ 0 ∷ 0 ∷ []
numbers_of (Res bytes) = 5 ∷ 0 ∷ 0 ∷ 0 ∷ []
numbers_of Done = 6 ∷ 0 ∷ 0 ∷ 0 ∷ []
numbers_of (TrapAccess address size slot) = 7 ∷ address ∷ size ∷ slot ∷ []
numbers_of (TrapDepth slot) = 8 ∷ slot ∷ 0 ∷ 0 ∷ []
numbers_of (TrapOutLen r0) = 9 ∷ r0 ∷ 0 ∷ 0 ∷ []
numbers_of Spent = 10 ∷ 0 ∷ 0 ∷ 0 ∷ []
numbers_of BadName = 11 ∷ 0 ∷ 0 ∷ 0 ∷ []
numbers_of Exists = 12 ∷ 0 ∷ 0 ∷ 0 ∷ []
numbers_of Full = 13 ∷ 0 ∷ 0 ∷ 0 ∷ []
numbers_of NoFile = 14 ∷ 0 ∷ 0 ∷ 0 ∷ []
numbers_of NoFn = 15 ∷ 0 ∷ 0 ∷ 0 ∷ []
numbers_of TooLong = 16 ∷ 0 ∷ 0 ∷ 0 ∷ []
numbers_of AppendOnly = 17 ∷ 0 ∷ 0 ∷ 0 ∷ []
numbers_of TooBig = 18 ∷ 0 ∷ 0 ∷ 0 ∷ []
numbers_of NoSpace = 19 ∷ 0 ∷ 0 ∷ 0 ∷ []
numbers_of FnFull = 20 ∷ 0 ∷ 0 ∷ 0 ∷ []
numbers_of (BadCode kind slot) = 21 ∷ (kind_number kind) ∷ slot ∷ 0 ∷ []
numbers_of Fault = 22 ∷ 0 ∷ 0 ∷ 0 ∷ []
numbers_of NoMemory = 23 ∷ 0 ∷ 0 ∷ 0 ∷ []

-- the bytes in it
abbrev pub bytes_of : Reply → List ℕ
bytes_of (DataBytes bytes) = bytes
bytes_of (Res bytes) = bytes
bytes_of _ = []

-- two replies have one form and the same values
abbrev pub is_same_reply : Reply → Reply → Bool
is_same_reply a b =
    nat_eq (slice_index (numbers_of a) 0) (slice_index (numbers_of b) 0)
    && (nat_eq (slice_index (numbers_of a) 1) (slice_index (numbers_of b) 1)
    && (nat_eq (slice_index (numbers_of a) 2) (slice_index (numbers_of b) 2)
    && (nat_eq (slice_index (numbers_of a) 3) (slice_index (numbers_of b) 3)
    && bytes_eq (bytes_of a) (bytes_of b))))
