-- The table of opcodes: one row for each form of instruction, after RFC 9669 in this project's
-- profile. The sections of the RFC stand beside the rows. An opcode that has no row is refused.
use Rattle.std.specs.Prelude.{ℕ, ◌+◌, ◌*◌, Bool, true, false, nat_eq, List, [], ◌∷◌, ◌++◌, Option, if◌then◌else◌}
use Rattle.std.specs.List.{find, flat_map}
use Rattle.sbpf_insn.specs.declared.insn.AluOp.{AluOp}
use Rattle.sbpf_insn.specs.declared.insn.AluOp.TheVariants as alu
use Rattle.sbpf_insn.specs.declared.insn.Cond.{Cond}
use Rattle.sbpf_insn.specs.declared.insn.Cond.TheVariants as cond
use Rattle.sbpf_insn.specs.declared.insn.Size.{Size}
use Rattle.sbpf_insn.specs.declared.insn.Size.TheVariants as size
use Rattle.sbpf_insn.specs.declared.insn.Order.TheVariants as order
use Rattle.sbpf_insn.specs.declared.form.Form.{Form}
use Rattle.sbpf_insn.specs.declared.form.Form.TheVariants as form

-- The codes of arithmetic, RFC 9669 section 4.1. SDIV and SMOD share the codes of DIV and MOD, and
-- MOVSX has that of MOV: their offset tells them apart.
abbrev pub alu_code : AluOp → ℕ
alu_code alu.Add = 0x0
alu_code alu.Sub = 0x1
alu_code alu.Mul = 0x2
alu_code alu.Div = 0x3
alu_code alu.Sdiv = 0x3
alu_code alu.Or = 0x4
alu_code alu.And = 0x5
alu_code alu.Lsh = 0x6
alu_code alu.Rsh = 0x7
alu_code alu.Mod = 0x9
alu_code alu.Smod = 0x9
alu_code alu.Xor = 0xa
alu_code alu.Mov = 0xb
alu_code alu.Arsh = 0xc

-- the codes of conditional jumps, RFC 9669 section 4.3
abbrev pub cond_code : Cond → ℕ
cond_code cond.Jeq = 0x1
cond_code cond.Jgt = 0x2
cond_code cond.Jge = 0x3
cond_code cond.Jset = 0x4
cond_code cond.Jne = 0x5
cond_code cond.Jsgt = 0x6
cond_code cond.Jsge = 0x7
cond_code cond.Jlt = 0xa
cond_code cond.Jle = 0xb
cond_code cond.Jslt = 0xc
cond_code cond.Jsle = 0xd

-- the bits of an opcode that say how wide an access is, RFC 9669 section 5
abbrev pub size_bits : Size → ℕ
size_bits size.W = 0x00
size_bits size.H = 0x08
size_bits size.B = 0x10
size_bits size.Dw = 0x18

-- the classes ALU64 and ALU, RFC 9669 section 3.3
abbrev pub alu_class : Bool → ℕ
alu_class wide = if wide then 7 else 4

-- the classes JMP and JMP32, RFC 9669 section 3.3
abbrev pub jump_class : Bool → ℕ
jump_class wide = if wide then 5 else 6

-- the source bit, RFC 9669 section 4: K takes the imm as second operand, X takes a register
abbrev pub register_bit : Bool → ℕ
register_bit reg = if reg then 0x08 else 0x00

-- The rows.
abbrev pub opcode_of : Form → ℕ
-- ADD SUB MUL DIV SDIV OR AND LSH RSH MOD SMOD XOR MOV MOVSX ARSH: section 4.1
opcode_of (form.Alu wide op reg) = alu_code op * 16 + register_bit reg + alu_class wide
-- NEG: section 4.1
opcode_of (form.Neg wide) = 0x80 + alu_class wide
-- END to little endian (ALU, source bit 0), to big endian (ALU, source bit 1), swap (ALU64): section 4.2
opcode_of (form.End order.Little) = 0xd4
opcode_of (form.End order.Big) = 0xdc
opcode_of (form.End order.Swap) = 0xd7
-- JA by the offset (JMP), JA by the imm (JMP32): section 4.3
opcode_of form.Ja = 0x05
opcode_of form.JaFar = 0x06
-- JEQ JGT JGE JSET JNE JSGT JSGE JLT JLE JSLT JSLE: section 4.3
opcode_of (form.Jump wide c reg) = cond_code c * 16 + register_bit reg + jump_class wide
-- CALL of a program-local function: section 4.3.2
opcode_of form.Call = 0x85
-- EXIT: section 4.3
opcode_of form.Exit = 0x95
-- LDX with mode MEM: section 5.1
opcode_of (form.Load s) = 0x61 + size_bits s
-- LDX with mode MEMSX: section 5.2
opcode_of (form.LoadSx s) = 0x81 + size_bits s
-- ST with mode MEM: section 5.1
opcode_of (form.StoreImm s) = 0x62 + size_bits s
-- STX with mode MEM: section 5.1
opcode_of (form.StoreReg s) = 0x63 + size_bits s
-- STX with mode ATOMIC, of 64 and of 32 bits: section 5.3
opcode_of (form.Atomic wide) = if wide then 0xdb else 0xc3
-- LD with mode IMM, the 64-bit immediate: section 5.4
opcode_of form.LoadWide = 0x18

-- ---- which forms have a row

abbrev pub both : List Bool
both = false ∷ true ∷ []

-- signed division shares the rows of Div and Mod
abbrev pub alu_ops : List AluOp
alu_ops = alu.Add ∷ alu.Sub ∷ alu.Mul ∷ alu.Div ∷ alu.Or ∷ alu.And ∷ alu.Lsh ∷ alu.Rsh ∷ alu.Mod ∷ alu.Xor ∷ alu.Mov ∷ alu.Arsh ∷ []

abbrev pub conds : List Cond
conds = cond.Jeq ∷ cond.Jgt ∷ cond.Jge ∷ cond.Jset ∷ cond.Jne ∷ cond.Jsgt ∷ cond.Jsge ∷ cond.Jlt ∷ cond.Jle ∷ cond.Jslt ∷ cond.Jsle ∷ []

abbrev pub sizes : List Size
sizes = size.W ∷ size.H ∷ size.B ∷ size.Dw ∷ []

abbrev pub each : {X : Type 0} → List X → (X → Form) → List Form
each [] f = []
each (x ∷ xs) f = f x ∷ each xs f

-- every row; of the loads with sign extension there is none of 64 bits
abbrev pub forms : List Form
forms =
    flat_map (λ wide. flat_map (λ reg. each alu_ops (λ op. form.Alu wide op reg)) both) both
    ++ each both form.Neg
    ++ each (order.Little ∷ order.Big ∷ order.Swap ∷ []) form.End
    ++ form.Ja ∷ form.JaFar ∷ form.Call ∷ form.Exit ∷ form.LoadWide ∷ []
    ++ flat_map (λ wide. flat_map (λ reg. each conds (λ c. form.Jump wide c reg)) both) both
    ++ each sizes form.Load
    ++ each (size.W ∷ size.H ∷ size.B ∷ []) form.LoadSx
    ++ each sizes form.StoreImm
    ++ each sizes form.StoreReg
    ++ each both form.Atomic

-- the row of an opcode, or None where the table has none
unfoldable pub form_at : ℕ → Option Form
form_at opcode = find (λ f. nat_eq (opcode_of f) opcode) forms
