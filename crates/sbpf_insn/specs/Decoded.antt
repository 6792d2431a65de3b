-- The code that bytes spell, or the first fault: the fields of RFC 9669, the order of faults this
-- project's own. Slots are read in rising order, and within an instruction the faults come in this order:
-- `Truncated` (fewer than 8 bytes are left), `Refused` (ABS and IND), `Opcode` (the table has none),
-- `Register` (a nibble that is a register is above 10), `Refused` (loads of maps, calls of helpers),
-- `Field` (another field isn't as the table says), `Truncated` (the second slot of a wide load is
-- missing), `Wide` (the first four bytes of the second slot aren't zero).
use Rattle.std.specs.Prelude.{◌≡◌, ℕ, zero, suc, ◌+◌, ◌*◌, ◌/◌, ◌%◌, ◌^◌, Bool, true, false, not, ◌&&◌, ◌||◌, nat_eq, nat_le, nat_lt, List, [], ◌∷◌, length, drop, slice_index, Option, Some, None, Result, Ok, Err, if◌then◌else◌}
use Rattle.std.specs.Int.{w16, w32, from_le_bytes, cast_signed}
use Rattle.std.specs.List.{list_any}
use Rattle.sbpf_insn.specs.declared.insn.Reg.{Reg}
use Rattle.sbpf_insn.specs.declared.insn.Src.TheVariants as src
use Rattle.sbpf_insn.specs.declared.insn.AluOp.{AluOp}
use Rattle.sbpf_insn.specs.declared.insn.AluOp.TheVariants as alu
use Rattle.sbpf_insn.specs.declared.insn.AtomicOp.{AtomicOp}
use Rattle.sbpf_insn.specs.declared.insn.AtomicOp.TheVariants as atomic
use Rattle.sbpf_insn.specs.declared.insn.Insn.{Insn}
use Rattle.sbpf_insn.specs.declared.insn.Insn.TheVariants as insn
use Rattle.sbpf_insn.specs.declared.slot.Slot.{Slot}
use Rattle.sbpf_insn.specs.declared.form.Form.{Form}
use Rattle.sbpf_insn.specs.declared.form.Form.TheVariants as form
use Rattle.sbpf_insn.specs.declared.fault.InsnKind.{InsnKind}
use Rattle.sbpf_insn.specs.declared.fault.InsnKind.TheVariants as kind
use Rattle.sbpf_insn.specs.declared.fault.InsnFault.{InsnFault}
use Rattle.sbpf_insn.specs.declared.decoding.DecodeErr.{DecodeErr}
use Rattle.sbpf_insn.specs.declared.decoding.DecodeErr.TheVariants as err
use Rattle.sbpf_insn.specs.Opcodes.{form_at}
use Rattle.sbpf_insn.specs.Program.{Program}

-- the fields of the first eight bytes
unfoldable pub slot_at : List ℕ → Slot
slot_at b = record {
  opcode = slice_index b 0;
  dst = slice_index b 1 % 16;
  src = slice_index b 1 / 16;
  offset = from_le_bytes w16 (slice_index b 2 ∷ slice_index b 3 ∷ []);
  imm = from_le_bytes w32 (slice_index b 4 ∷ slice_index b 5 ∷ slice_index b 6 ∷ slice_index b 7 ∷ []);
}

-- ABS and IND of RFC 9669, section 5.5
abbrev pub packet_modes : List ℕ
packet_modes = 0x20 ∷ 0x28 ∷ 0x30 ∷ 0x38 ∷ 0x40 ∷ 0x48 ∷ 0x50 ∷ 0x58 ∷ []

unfoldable pub is_packet_mode : ℕ → Bool
is_packet_mode opcode = list_any (λ n. nat_eq n opcode) packet_modes

-- whether the low nibble is a register
abbrev pub uses_dst : Form → Bool
uses_dst form.Ja = false
uses_dst form.JaFar = false
uses_dst form.Call = false
uses_dst form.Exit = false
uses_dst _ = true

-- whether the high nibble is a register
abbrev pub uses_src : Form → Bool
uses_src (form.Alu wide op reg) = reg
uses_src (form.Jump wide c reg) = reg
uses_src (form.Load s) = true
uses_src (form.LoadSx s) = true
uses_src (form.StoreReg s) = true
uses_src (form.Atomic wide) = true
uses_src _ = false

-- loads of maps and variables (RFC 9669, section 5.4), and calls of helpers (section 4.3.1)
abbrev pub is_refused_src : Form → ℕ → Bool
is_refused_src form.LoadWide n = nat_le 1 n && nat_le n 6
is_refused_src form.Call n = nat_eq n 0 || nat_eq n 2
is_refused_src _ n = false

-- ---- an instruction by its fields, or None where one of them isn't as the table says

abbrev pub reg : ℕ → Reg
reg n = record { n = n }

abbrev pub when : Bool → Insn → Option Insn
when b i = if b then Some i else None

abbrev pub when_some : {X : Type 0} → Option X → (X → Insn) → Option Insn
when_some None f = None
when_some (Some x) f = Some (f x)

-- the offset 1 makes a division signed
abbrev pub op_with : AluOp → ℕ → Option AluOp
op_with alu.Div offset = if nat_eq offset 0 then Some alu.Div else if nat_eq offset 1 then Some alu.Sdiv else None
op_with alu.Mod offset = if nat_eq offset 0 then Some alu.Mod else if nat_eq offset 1 then Some alu.Smod else None
op_with op offset = if nat_eq offset 0 then Some op else None

abbrev pub is_move_width : Bool → ℕ → Bool
is_move_width wide n = nat_eq n 8 || (nat_eq n 16 || (wide && nat_eq n 32))

abbrev pub atomic_op : ℕ → Option (AtomicOp × Bool)
atomic_op imm =
    if nat_eq imm 0x00 then Some (atomic.Add, false)
    else if nat_eq imm 0x01 then Some (atomic.Add, true)
    else if nat_eq imm 0x40 then Some (atomic.Or, false)
    else if nat_eq imm 0x41 then Some (atomic.Or, true)
    else if nat_eq imm 0x50 then Some (atomic.And, false)
    else if nat_eq imm 0x51 then Some (atomic.And, true)
    else if nat_eq imm 0xa0 then Some (atomic.Xor, false)
    else if nat_eq imm 0xa1 then Some (atomic.Xor, true)
    else if nat_eq imm 0xe1 then Some (atomic.Xchg, true)
    else if nat_eq imm 0xf1 then Some (atomic.CmpXchg, true)
    else None

abbrev pub alu_built : Bool → AluOp → Bool → Slot → Option Insn
alu_built wide op false s =
    if nat_eq s.src 0
    then when_some (op_with op s.offset) (λ op. insn.Alu wide op (reg s.dst) (src.Imm (cast_signed w32 s.imm)))
    else None
alu_built wide alu.Mov true s =
    if nat_eq s.imm 0
    then (if nat_eq s.offset 0 then Some (insn.Alu wide alu.Mov (reg s.dst) (src.Reg (reg s.src)))
    else when (is_move_width wide s.offset) (insn.MovSx wide s.offset (reg s.dst) (reg s.src)))
    else None
alu_built wide op true s =
    if nat_eq s.imm 0
    then when_some (op_with op s.offset) (λ op. insn.Alu wide op (reg s.dst) (src.Reg (reg s.src)))
    else None

abbrev pub built : Form → Slot → Option Insn
built (form.Alu wide op r) s = alu_built wide op r s
built (form.Neg wide) s =
    when (nat_eq s.src 0 && (nat_eq s.offset 0 && nat_eq s.imm 0)) (insn.Neg wide (reg s.dst))
built (form.End o) s =
    when (nat_eq s.src 0 && (nat_eq s.offset 0 && (nat_eq s.imm 16 || (nat_eq s.imm 32 || nat_eq s.imm 64)))) (insn.End o s.imm (reg s.dst))
built form.Ja s =
    when (nat_eq s.dst 0 && (nat_eq s.src 0 && nat_eq s.imm 0)) (insn.Ja (cast_signed w16 s.offset))
built form.JaFar s =
    when (nat_eq s.dst 0 && (nat_eq s.src 0 && nat_eq s.offset 0)) (insn.JaFar (cast_signed w32 s.imm))
built (form.Jump wide c false) s =
    when (nat_eq s.src 0) (insn.Jump wide c (reg s.dst) (src.Imm (cast_signed w32 s.imm)) (cast_signed w16 s.offset))
built (form.Jump wide c true) s =
    when (nat_eq s.imm 0) (insn.Jump wide c (reg s.dst) (src.Reg (reg s.src)) (cast_signed w16 s.offset))
built form.Call s =
    when (nat_eq s.dst 0 && (nat_eq s.src 1 && nat_eq s.offset 0)) (insn.Call (cast_signed w32 s.imm))
built form.Exit s =
    when (nat_eq s.dst 0 && (nat_eq s.src 0 && (nat_eq s.offset 0 && nat_eq s.imm 0))) insn.Exit
built (form.Load size) s =
    when (nat_eq s.imm 0) (insn.Load size (reg s.dst) (reg s.src) (cast_signed w16 s.offset))
built (form.LoadSx size) s =
    when (nat_eq s.imm 0) (insn.LoadSx size (reg s.dst) (reg s.src) (cast_signed w16 s.offset))
built (form.StoreImm size) s =
    when (nat_eq s.src 0) (insn.StoreImm size (reg s.dst) (cast_signed w16 s.offset) (cast_signed w32 s.imm))
built (form.StoreReg size) s =
    when (nat_eq s.imm 0) (insn.StoreReg size (reg s.dst) (cast_signed w16 s.offset) (reg s.src))
built (form.Atomic wide) s =
    when_some (atomic_op s.imm) (λ o. insn.Atomic wide o.0 o.1 (reg s.dst) (cast_signed w16 s.offset) (reg s.src))
-- a wide load goes by `wide_load`
built form.LoadWide s = None

abbrev pub are_wide_fields : Slot → Bool
are_wide_fields s = nat_eq s.src 0 && nat_eq s.offset 0

-- the first four bytes of the second slot
abbrev pub are_zero : List ℕ → Bool
are_zero rest = nat_eq (slice_index rest 0) 0 && (nat_eq (slice_index rest 1) 0 && (nat_eq (slice_index rest 2) 0 && nat_eq (slice_index rest 3) 0))

abbrev pub high_half : List ℕ → ℕ
high_half rest = from_le_bytes w32 (slice_index rest 4 ∷ slice_index rest 5 ∷ slice_index rest 6 ∷ slice_index rest 7 ∷ [])

-- the first slot of a wide load, and the bytes after it
unfoldable pub wide_load : Slot → List ℕ → Result Insn InsnKind
wide_load s rest =
    if not (are_wide_fields s) then Err kind.Field
    else if nat_lt (length rest) 8 then Err kind.Truncated
    else if not (are_zero rest) then Err kind.Wide
    else Ok (insn.LoadWide (reg s.dst) (s.imm + 2 ^ 32 * high_half rest))

abbrev pub field_fault : Option Insn → Result Insn InsnKind
field_fault None = Err kind.Field
field_fault (Some i) = Ok i

abbrev pub by_fields : Form → Slot → List ℕ → Result Insn InsnKind
by_fields form.LoadWide s rest = wide_load s rest
by_fields f s rest = field_fault (built f s)

-- a nibble that is a register is above 10
abbrev pub has_no_register : Form → Slot → Bool
has_no_register f s = (uses_dst f && nat_lt 10 s.dst) || (uses_src f && nat_lt 10 s.src)

abbrev pub by_form : Option Form → Slot → List ℕ → Result Insn InsnKind
by_form None s rest = Err kind.Opcode
by_form (Some f) s rest =
    if has_no_register f s then Err kind.Register
    else if is_refused_src f s.src then Err kind.Refused
    else by_fields f s rest

-- the instruction at the front of the bytes, or its fault
unfoldable pub insn_at : List ℕ → Result Insn InsnKind
insn_at bytes =
    if nat_lt (length bytes) 8 then Err kind.Truncated
    else if is_packet_mode (slot_at bytes).opcode then Err kind.Refused
    else by_form (form_at (slot_at bytes).opcode) (slot_at bytes) (drop 8 bytes)

-- how many slots an instruction has
abbrev pub slots_of : Insn → ℕ
slots_of (insn.LoadWide dst value) = 2
slots_of _ = 1

abbrev pub then_code : Insn → Result (List Insn) InsnFault → Result (List Insn) InsnFault
then_code i (Ok code) = Ok (i ∷ code)
then_code i (Err f) = Err f

-- one instruction, and what follows it
abbrev pub decoded_step : Result Insn InsnKind → ℕ → (Insn → Result (List Insn) InsnFault) → Result (List Insn) InsnFault
decoded_step (Err k) slot next = Err (record { slot = slot; kind = k })
decoded_step (Ok i) slot next = then_code i (next i)

-- The code that the bytes from this slot on spell, or the first fault. The recursion is over n, which
-- is at least the number of bytes, so that it doesn't end it.
unfoldable pub decoded_from : ℕ → ℕ → List ℕ → Result (List Insn) InsnFault
decoded_from n slot [] = Ok []
decoded_from zero slot (b ∷ bytes) = Ok []
decoded_from (suc n) slot (b ∷ bytes) =
    decoded_step (insn_at (b ∷ bytes)) slot (λ i. decoded_from n (slot + slots_of i) (drop (8 * slots_of i) (b ∷ bytes)))

abbrev pub decoded : List ℕ → Result (List Insn) InsnFault
decoded bytes = decoded_from (length bytes) 0 bytes

-- what a function returned is what decoding gives, unless memory ran out
abbrev pub Gives : Result Program DecodeErr → Result (List Insn) InsnFault → Type 0
Gives (Ok code) read = read ≡ Ok code.insns
Gives (Err err.NoMemory) read = Unit {0}
Gives (Err (err.Insn f)) read = read ≡ Err f
