-- The rows of the table by the bits of their opcodes, class by class, as the decoder finds them. No
-- reader need believe this: it is proved to agree with the table.
use Rattle.std.specs.Prelude.{ℕ, ◌/◌, ◌%◌, Bool, true, false, ◌&&◌, nat_eq, nat_lt, Option, Some, None, if◌then◌else◌}
use Rattle.std.specs.List.{find}
use Rattle.sbpf_insn.specs.declared.insn.AluOp.{AluOp}
use Rattle.sbpf_insn.specs.declared.insn.Cond.{Cond}
use Rattle.sbpf_insn.specs.declared.insn.Size.{Size}
use Rattle.sbpf_insn.specs.declared.insn.Size.TheVariants as size
use Rattle.sbpf_insn.specs.declared.insn.Order.TheVariants as order
use Rattle.sbpf_insn.specs.declared.form.Form.{Form}
use Rattle.sbpf_insn.specs.declared.form.Form.TheVariants as form
use Rattle.sbpf_insn.specs.Opcodes.{alu_code, cond_code, alu_ops, conds}

unfoldable pub op_of_code : ℕ → Option AluOp
op_of_code code = find (λ op. nat_eq (alu_code op) code) alu_ops

unfoldable pub cond_of_code : ℕ → Option Cond
cond_of_code code = find (λ c. nat_eq (cond_code c) code) conds

-- 0 to 3
abbrev pub size_of_code : ℕ → Size
size_of_code n = if nat_eq n 0 then size.W else if nat_eq n 1 then size.H else if nat_eq n 2 then size.B else size.Dw

-- NEG and END
abbrev pub unary_of_bits : Bool → ℕ → Option Form
unary_of_bits wide opcode =
    if nat_eq (opcode / 8) 0x10 then Some (form.Neg wide)
    else if nat_eq opcode 0xd4 then Some (form.End order.Little)
    else if nat_eq opcode 0xdc then Some (form.End order.Big)
    else if nat_eq opcode 0xd7 then Some (form.End order.Swap)
    else None

abbrev pub alu_or : Bool → ℕ → Option AluOp → Option Form
alu_or wide opcode None = unary_of_bits wide opcode
alu_or wide opcode (Some op) = Some (form.Alu wide op (nat_eq (opcode / 8 % 2) 1))

abbrev pub alu_of_bits : Bool → ℕ → Option Form
alu_of_bits wide opcode = alu_or wide opcode (op_of_code (opcode / 16))

-- JA, CALL and EXIT
abbrev pub transfer_of_bits : ℕ → Option Form
transfer_of_bits opcode =
    if nat_eq opcode 0x05 then Some form.Ja
    else if nat_eq opcode 0x06 then Some form.JaFar
    else if nat_eq opcode 0x85 then Some form.Call
    else if nat_eq opcode 0x95 then Some form.Exit
    else None

abbrev pub jump_or : Bool → ℕ → Option Cond → Option Form
jump_or wide opcode None = transfer_of_bits opcode
jump_or wide opcode (Some c) = Some (form.Jump wide c (nat_eq (opcode / 8 % 2) 1))

abbrev pub jump_of_bits : Bool → ℕ → Option Form
jump_of_bits wide opcode = jump_or wide opcode (cond_of_code (opcode / 16))

abbrev pub load_of_bits : ℕ → Option Form
load_of_bits opcode =
    if nat_eq (opcode / 32) 3 then Some (form.Load (size_of_code (opcode / 8 % 4)))
    else if nat_eq (opcode / 32) 4 && nat_lt (opcode / 8 % 4) 3 then Some (form.LoadSx (size_of_code (opcode / 8 % 4)))
    else None

abbrev pub store_imm_of_bits : ℕ → Option Form
store_imm_of_bits opcode = if nat_eq (opcode / 32) 3 then Some (form.StoreImm (size_of_code (opcode / 8 % 4))) else None

abbrev pub store_of_bits : ℕ → Option Form
store_of_bits opcode =
    if nat_eq (opcode / 32) 3 then Some (form.StoreReg (size_of_code (opcode / 8 % 4)))
    else if nat_eq opcode 0xc3 then Some (form.Atomic false)
    else if nat_eq opcode 0xdb then Some (form.Atomic true)
    else None

abbrev pub form_of_class : ℕ → ℕ → Option Form
form_of_class class opcode =
    if nat_eq class 0 then (if nat_eq opcode 0x18 then Some form.LoadWide else None)
    else if nat_eq class 1 then load_of_bits opcode
    else if nat_eq class 2 then store_imm_of_bits opcode
    else if nat_eq class 3 then store_of_bits opcode
    else if nat_eq class 4 then alu_of_bits false opcode
    else if nat_eq class 5 then jump_of_bits true opcode
    else if nat_eq class 6 then jump_of_bits false opcode
    else alu_of_bits true opcode

unfoldable pub form_of_bits : ℕ → Option Form
form_of_bits opcode = form_of_class (opcode % 8) opcode
