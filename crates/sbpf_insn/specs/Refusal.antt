-- Why code may not be run: the first fault. This project's own order: no slots; more than 4,096 slots,
-- told at slot 4096; then slot by slot, and at one slot r10 written, a jump out of the code, a jump to
-- the second slot of a wide load, a local call to either, and the last instruction any other than an end.
use Rattle.std.specs.Prelude.{ℕ, zero, suc, ◌+◌, ℤ, ◌&&◌, not, nat_eq, nat_lt, List, Option, Some, None, if◌then◌else◌}
use Rattle.sbpf_insn.specs.declared.insn.Insn.{Insn}
use Rattle.sbpf_insn.specs.declared.fault.VerifyKind.{VerifyKind}
use Rattle.sbpf_insn.specs.declared.fault.VerifyKind.TheVariants as kind
use Rattle.sbpf_insn.specs.declared.fault.VerifyFault.{VerifyFault}
use Rattle.sbpf_insn.specs.Decoded.{slots_of}
use Rattle.sbpf_insn.specs.Cells.{slots, at_slot}
use Rattle.sbpf_insn.specs.Accepted.{writes_r10, jump_of, call_of, is_end, is_within, is_first, destination}

abbrev pub jump_fault : List Insn → ℕ → Option ℤ → Option VerifyKind
jump_fault code slot None = None
jump_fault code slot (Some k) =
    if not (is_within code (destination slot k)) then Some kind.Jump
    else if not (is_first code (destination slot k)) then Some kind.Middle
    else None

abbrev pub call_fault : List Insn → ℕ → Option ℤ → Option VerifyKind
call_fault code slot None = None
call_fault code slot (Some k) = if is_first code (destination slot k) then None else Some kind.CallTarget

abbrev pub end_fault : List Insn → ℕ → Insn → Option VerifyKind
end_fault code slot i = if nat_eq (slot + slots_of i) (slots code) && not (is_end i) then Some kind.FallsOff else None

abbrev pub or_else : Option VerifyKind → Option VerifyKind → Option VerifyKind
or_else None b = b
or_else (Some k) b = Some k

-- the first fault of an instruction at a slot
abbrev pub fault_at : List Insn → ℕ → Insn → Option VerifyKind
fault_at code slot i =
    if writes_r10 i then Some kind.Writer10
    else or_else (jump_fault code slot (jump_of i)) (or_else (call_fault code slot (call_of i)) (end_fault code slot i))

abbrev pub fault_in : List Insn → ℕ → Option Insn → Option VerifyKind
fault_in code slot None = None
fault_in code slot (Some i) = fault_at code slot i

abbrev pub first_of : Option VerifyKind → ℕ → Option VerifyFault → Option VerifyFault
first_of None slot rest = rest
first_of (Some k) slot rest = Some (record { slot = slot; kind = k })

-- the first fault of n slots from here on
unfoldable pub fault_from : List Insn → ℕ → ℕ → Option VerifyFault
fault_from code slot zero = None
fault_from code slot (suc n) = first_of (fault_in code slot (at_slot code slot)) slot (fault_from code (slot + 1) n)

-- the first fault, or None for accepted code
abbrev pub refusal : List Insn → Option VerifyFault
refusal code =
    if nat_eq (slots code) 0 then Some (record { slot = 0; kind = kind.Empty })
    else if nat_lt 4096 (slots code) then Some (record { slot = 4096; kind = kind.TooLong })
    else fault_from code 0 (slots code)
