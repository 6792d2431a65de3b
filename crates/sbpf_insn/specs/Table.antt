-- The bytes of each instruction, after RFC 9669 in this project's profile: the fields of its slot
-- (section 3.1), and for the 64-bit immediate those of a second slot (sections 3.2 and 5.4).
use Rattle.std.specs.Prelude.{◌≡◌, ℕ, ◌+◌, ◌*◌, ◌/◌, ◌%◌, ◌^◌, ℤ, Bool, true, false, not, ◌&&◌, ◌||◌, nat_eq, nat_le, List, ◌∷◌, ◌++◌, if◌then◌else◌}
use Rattle.std.specs.Int.{w16, w32, to_le_bytes, cast_unsigned}
use Rattle.std.specs.List.{flat_map}
use Rattle.sbpf_insn.specs.declared.insn.Reg.{Reg}
use Rattle.sbpf_insn.specs.declared.insn.Src.{Src}
use Rattle.sbpf_insn.specs.declared.insn.Src.TheVariants as src
use Rattle.sbpf_insn.specs.declared.insn.AluOp.{AluOp}
use Rattle.sbpf_insn.specs.declared.insn.AluOp.TheVariants as alu
use Rattle.sbpf_insn.specs.declared.insn.Size.TheVariants as size
use Rattle.sbpf_insn.specs.declared.insn.AtomicOp.{AtomicOp}
use Rattle.sbpf_insn.specs.declared.insn.AtomicOp.TheVariants as atomic
use Rattle.sbpf_insn.specs.declared.insn.Insn.{Insn}
use Rattle.sbpf_insn.specs.declared.insn.Insn.TheVariants as insn
use Rattle.sbpf_insn.specs.declared.slot.Slot.{Slot}
use Rattle.sbpf_insn.specs.declared.form.Form.{Form}
use Rattle.sbpf_insn.specs.declared.form.Form.TheVariants as form
use Rattle.sbpf_insn.specs.Opcodes.{opcode_of}

-- ---- spelling

-- A slot's eight bytes: opcode, registers (dst in the low nibble, src in the high one), offset and
-- imm, both little-endian.
abbrev pub slot_bytes : Slot → List ℕ
slot_bytes s = s.opcode ∷ (s.dst + 16 * s.src) ∷ (to_le_bytes w16 s.offset ++ to_le_bytes w32 s.imm)

abbrev pub slot : Form → ℕ → ℕ → ℕ → ℕ → Slot
slot f dst src offset imm = record { opcode = opcode_of f; dst = dst; src = src; offset = offset; imm = imm }

-- the bits of an offset and of an imm
abbrev pub o16 : ℤ → ℕ
o16 z = cast_unsigned w16 z

abbrev pub i32 : ℤ → ℕ
i32 z = cast_unsigned w32 z

-- the offset tells signed division from unsigned
abbrev pub alu_offset : AluOp → ℕ
alu_offset alu.Sdiv = 1
alu_offset alu.Smod = 1
alu_offset _ = 0

-- Sdiv has the row of Div, and Smod that of Mod
abbrev pub row_op : AluOp → AluOp
row_op alu.Sdiv = alu.Div
row_op alu.Smod = alu.Mod
row_op op = op

abbrev pub fetch_bit : Bool → ℕ
fetch_bit fetch = if fetch then 0x01 else 0x00

-- the imm of an atomic operation, RFC 9669 section 5.3
abbrev pub atomic_imm : AtomicOp → Bool → ℕ
atomic_imm atomic.Add fetch = 0x00 + fetch_bit fetch
atomic_imm atomic.Or fetch = 0x40 + fetch_bit fetch
atomic_imm atomic.And fetch = 0x50 + fetch_bit fetch
atomic_imm atomic.Xor fetch = 0xa0 + fetch_bit fetch
atomic_imm atomic.Xchg fetch = 0xe1
atomic_imm atomic.CmpXchg fetch = 0xf1

-- The fields of the first slot: form, dst, src, offset, imm. A field that an instruction doesn't use
-- is zero.
abbrev pub slot_of : Insn → Slot
slot_of (insn.Alu wide op dst (src.Imm k)) = slot (form.Alu wide (row_op op) false) dst.n 0 (alu_offset op) (i32 k)
slot_of (insn.Alu wide op dst (src.Reg r)) = slot (form.Alu wide (row_op op) true) dst.n r.n (alu_offset op) 0
slot_of (insn.MovSx wide width dst r) = slot (form.Alu wide alu.Mov true) dst.n r.n width 0
slot_of (insn.Neg wide dst) = slot (form.Neg wide) dst.n 0 0 0
slot_of (insn.End o width dst) = slot (form.End o) dst.n 0 0 width
slot_of (insn.Ja offset) = slot form.Ja 0 0 (o16 offset) 0
slot_of (insn.JaFar offset) = slot form.JaFar 0 0 0 (i32 offset)
slot_of (insn.Jump wide c dst (src.Imm k) offset) = slot (form.Jump wide c false) dst.n 0 (o16 offset) (i32 k)
slot_of (insn.Jump wide c dst (src.Reg r) offset) = slot (form.Jump wide c true) dst.n r.n (o16 offset) 0
slot_of (insn.Call offset) = slot form.Call 0 1 0 (i32 offset)
slot_of insn.Exit = slot form.Exit 0 0 0 0
slot_of (insn.Load s dst base offset) = slot (form.Load s) dst.n base.n (o16 offset) 0
slot_of (insn.LoadSx s dst base offset) = slot (form.LoadSx s) dst.n base.n (o16 offset) 0
slot_of (insn.StoreImm s base offset imm) = slot (form.StoreImm s) base.n 0 (o16 offset) (i32 imm)
slot_of (insn.StoreReg s base offset r) = slot (form.StoreReg s) base.n r.n (o16 offset) 0
slot_of (insn.Atomic wide op fetch base offset r) = slot (form.Atomic wide) base.n r.n (o16 offset) (atomic_imm op fetch)
slot_of (insn.LoadWide dst value) = slot form.LoadWide dst.n 0 0 (value % 2 ^ 32)

-- The bytes of an instruction: those of its slot, and for a wide load those of a second slot, which
-- is zero but for its imm, the high half.
abbrev pub spelling : Insn → List ℕ
spelling (insn.LoadWide dst value) = slot_bytes (slot_of (insn.LoadWide dst value)) ++ (0 ∷ 0 ∷ 0 ∷ 0 ∷ to_le_bytes w32 (value / 2 ^ 32))
spelling i = slot_bytes (slot_of i)

-- the bytes are those of the code's instructions, one after the other
abbrev pub Spells : List ℕ → List Insn → Type 0
Spells bytes code = bytes ≡ flat_map spelling code

-- ---- what has a spelling: the widths and registers of the table, so that each has exactly one

abbrev pub is_reg : Reg → Bool
is_reg r = nat_le r.n 10

abbrev pub is_src : Src → Bool
is_src (src.Imm k) = true
is_src (src.Reg r) = is_reg r

abbrev pub is_exchange : AtomicOp → Bool
is_exchange atomic.Xchg = true
is_exchange atomic.CmpXchg = true
is_exchange _ = false

-- the registers are r0 to r10, the widths are those of the table, and an exchange fetches
abbrev pub is_well_formed : Insn → Bool
is_well_formed (insn.Alu wide op dst s) = is_reg dst && is_src s
is_well_formed (insn.MovSx wide width dst r) = is_reg dst && (is_reg r && (nat_eq width 8 || (nat_eq width 16 || (wide && nat_eq width 32))))
is_well_formed (insn.Neg wide dst) = is_reg dst
is_well_formed (insn.End o width dst) = is_reg dst && (nat_eq width 16 || (nat_eq width 32 || nat_eq width 64))
is_well_formed (insn.Ja offset) = true
is_well_formed (insn.JaFar offset) = true
is_well_formed (insn.Jump wide c dst s offset) = is_reg dst && is_src s
is_well_formed (insn.Call offset) = true
is_well_formed insn.Exit = true
is_well_formed (insn.Load s dst base offset) = is_reg dst && is_reg base
is_well_formed (insn.LoadSx size.Dw dst base offset) = false
is_well_formed (insn.LoadSx s dst base offset) = is_reg dst && is_reg base
is_well_formed (insn.StoreImm s base offset imm) = is_reg base
is_well_formed (insn.StoreReg s base offset r) = is_reg base && is_reg r
is_well_formed (insn.Atomic wide op fetch base offset r) = is_reg base && (is_reg r && (fetch || not (is_exchange op)))
is_well_formed (insn.LoadWide dst value) = is_reg dst
