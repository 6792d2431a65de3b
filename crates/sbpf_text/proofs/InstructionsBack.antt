-- An instruction read back from its line.
use Rattle.std.proofs.Common.{◌≡◌, ℕ, ◌^◌, ◌≤◌, List, [], ◌∷◌, map, Bool, true, false, not, refl, arith}
use Rattle.std.specs.Prelude.{ℤ, decimal, nat_lt, nat_eq, ◌&&◌, ◌||◌, Ok}
use Rattle.std.specs.Fmt.{signed_decimal}
use Rattle.std.specs.List.{list_all}
use Rattle.sbpf_insn.specs.declared.insn.Reg.{Reg}
use Rattle.sbpf_insn.specs.declared.insn.Src.{Src}
use Rattle.sbpf_insn.specs.declared.insn.Src.TheVariants as src
use Rattle.sbpf_insn.specs.declared.insn.Size.{Size}
use Rattle.sbpf_insn.specs.declared.insn.Size.TheVariants as size
use Rattle.sbpf_insn.specs.declared.insn.Insn.{Insn}
use Rattle.sbpf_insn.specs.declared.insn.Insn.TheVariants as insn
use Rattle.sbpf_insn.specs.Table.{is_reg, is_src, is_well_formed, is_exchange}
use Rattle.sbpf_text.specs.Mnemonics.{is_mnemonic}
use Rattle.sbpf_text.specs.Instructions.{one_register, two_registers, register_value, register_wide, register_address, address_number_of, address_number, address_register_of, address_register, one_target, register_value_target_of, register_value_target, no_operands, insn_of}
use Rattle.sbpf_insn.specs.Ranges.{fits_half, fits16, fits32, src_fits, fits_fields}
use Rattle.sbpf_text.specs.Print.{register_text, offset_text, address_text, operand_text, source_operand, mnemonic_of, operands_of}
use Rattle.sbpf_text.proofs.OperandsBack.{register_back, number_back, wide_back, offset_back, wide_form, number_form, value_form, value_back, target_form, target_back, address_back, operand_fits}

-- ---- operands by their places

one_back : (d : Reg) → is_reg d ≡ true → one_register (register_text d ∷ []) ≡ Ok d
unfolding one_register
one_back d h = register_back d h

two_back : (d s : Reg) → is_reg d ≡ true → is_reg s ≡ true → two_registers (register_text d ∷ register_text s ∷ []) ≡ Ok (d, s)
unfolding two_registers
two_back d s h k = rw (register_back d h, register_back s k) refl

register_value_back : (d : Reg) (s : Src) → is_reg d ≡ true → is_src s ≡ true → src_fits s ≡ true → register_value (register_text d ∷ operand_text (source_operand s) ∷ []) ≡ Ok (d, s)
unfolding register_value
register_value_back d s h k f = rw (value_form s f, register_back d h, value_back s k f) refl

register_wide_back : (d : Reg) (n : ℕ) → is_reg d ≡ true → nat_lt n (2 ^ 64) ≡ true → register_wide (register_text d ∷ decimal n ∷ []) ≡ Ok (d, n)
unfolding register_wide
register_wide_back d n h k = rw (wide_form n k, register_back d h, wide_back n k) refl

register_address_back : (d b : Reg) (z : ℤ) → is_reg d ≡ true → is_reg b ≡ true → fits16 z ≡ true → register_address (register_text d ∷ address_text b z ∷ []) ≡ Ok (d, b, z)
unfolding register_address
register_address_back d b z h k f = let a = address_back b z k in rw (a.form, a.front, a.back, register_back d h, register_back b k, offset_back z f) refl

address_number_back : (b : Reg) (z k : ℤ) → is_reg b ≡ true → fits16 z ≡ true → fits32 k ≡ true → address_number (address_text b z ∷ signed_decimal k ∷ []) ≡ Ok (b, z, k)
unfolding address_number address_number_of
address_number_back b z k h f g = let a = address_back b z h in let n = number_form k g in rw (a.form, n.0, a.front, a.back, register_back b h, offset_back z f, number_back k g) refl

address_register_back : (b : Reg) (z : ℤ) (s : Reg) → is_reg b ≡ true → fits16 z ≡ true → is_reg s ≡ true → address_register (address_text b z ∷ register_text s ∷ []) ≡ Ok (b, z, s)
unfolding address_register address_register_of
address_register_back b z s h f k = let a = address_back b z h in rw (a.form, a.front, a.back, register_back b h, register_back s k, offset_back z f) refl

one_target_back : (half : ℕ) (labels : List (List ℕ × ℕ)) (slot : ℕ) (settled : Bool) (z : ℤ) → half ≤ 2 ^ 63 → fits_half half z ≡ true → one_target half labels slot settled (offset_text z ∷ []) ≡ Ok z
unfolding one_target
one_target_back half labels slot settled z small f = rw (target_form z) (target_back half labels slot settled z small f)

jump_back : (labels : List (List ℕ × ℕ)) (slot : ℕ) (settled : Bool) (d : Reg) (s : Src) (z : ℤ) → is_reg d ≡ true → is_src s ≡ true → src_fits s ≡ true → fits16 z ≡ true → register_value_target labels slot settled (register_text d ∷ operand_text (source_operand s) ∷ offset_text z ∷ []) ≡ Ok (d, s, z)
unfolding register_value_target register_value_target_of
jump_back labels slot settled d s z h k f g = rw (value_form s f, target_form z, register_back d h, value_back s k f, target_back (2 ^ 15) labels slot settled z (omega arith) g) refl

exit_back : no_operands [] ≡ Ok insn.Exit
unfolding no_operands
exit_back = refl

-- ---- instructions

left : (a b : Bool) → (a && b) ≡ true → a ≡ true
left true b h = refl
left false b h = absurd cc

right : (a b : Bool) → (a && b) ≡ true → b ≡ true
right true b h = h
right false b h = absurd cc

load_sx_regs : (s : Size) (d b : Reg) (z : ℤ) → is_well_formed (insn.LoadSx s d b z) ≡ true → (is_reg d && is_reg b) ≡ true
load_sx_regs size.B d b z h = h
load_sx_regs size.H d b z h = h
load_sx_regs size.W d b z h = h
load_sx_regs size.Dw d b z h = absurd cc

pub insn_back : (labels : List (List ℕ × ℕ)) (slot : ℕ) (settled : Bool) (i : Insn) → is_well_formed i ≡ true → fits_fields i ≡ true → insn_of labels slot settled (mnemonic_of i) (map operand_text (operands_of i)) ≡ Ok i
unfolding insn_of
insn_back labels slot settled (insn.Alu wide op d s) h f = rw (register_value_back d s (left (is_reg d) (is_src s) h) (right (is_reg d) (is_src s) h) f) refl
insn_back labels slot settled (insn.MovSx wide bits d s) h f = rw (two_back d s (left (is_reg d) (is_reg s && (nat_eq bits 8 || (nat_eq bits 16 || (wide && nat_eq bits 32)))) h) (left (is_reg s) (nat_eq bits 8 || (nat_eq bits 16 || (wide && nat_eq bits 32))) (right (is_reg d) (is_reg s && (nat_eq bits 8 || (nat_eq bits 16 || (wide && nat_eq bits 32)))) h))) refl
insn_back labels slot settled (insn.Neg wide d) h f = rw (one_back d h) refl
insn_back labels slot settled (insn.End o bits d) h f = rw (one_back d (left (is_reg d) (nat_eq bits 16 || (nat_eq bits 32 || nat_eq bits 64)) h)) refl
insn_back labels slot settled (insn.Ja z) h f = rw (one_target_back (2 ^ 15) labels slot settled z (omega arith) f) refl
insn_back labels slot settled (insn.JaFar z) h f = rw (one_target_back (2 ^ 31) labels slot settled z (omega arith) f) refl
insn_back labels slot settled (insn.Jump wide c d s z) h f = rw (jump_back labels slot settled d s z (left (is_reg d) (is_src s) h) (right (is_reg d) (is_src s) h) (left (src_fits s) (fits16 z) f) (right (src_fits s) (fits16 z) f)) refl
insn_back labels slot settled (insn.Call z) h f = rw (one_target_back (2 ^ 31) labels slot settled z (omega arith) f) refl
insn_back labels slot settled insn.Exit h f = exit_back
insn_back labels slot settled (insn.Load s d b z) h f = rw (register_address_back d b z (left (is_reg d) (is_reg b) h) (right (is_reg d) (is_reg b) h) f) refl
insn_back labels slot settled (insn.LoadSx s d b z) h f = let r = load_sx_regs s d b z h in rw (register_address_back d b z (left (is_reg d) (is_reg b) r) (right (is_reg d) (is_reg b) r) f) refl
insn_back labels slot settled (insn.StoreImm s b z k) h f = rw (address_number_back b z k h (left (fits16 z) (fits32 k) f) (right (fits16 z) (fits32 k) f)) refl
insn_back labels slot settled (insn.StoreReg s b z r) h f = rw (address_register_back b z r (left (is_reg b) (is_reg r) h) f (right (is_reg b) (is_reg r) h)) refl
insn_back labels slot settled (insn.Atomic wide op fetch b z r) h f = rw (address_register_back b z r (left (is_reg b) (is_reg r && (fetch || not (is_exchange op))) h) f (left (is_reg r) (fetch || not (is_exchange op)) (right (is_reg b) (is_reg r && (fetch || not (is_exchange op))) h))) refl
insn_back labels slot settled (insn.LoadWide d n) h f = rw (register_wide_back d n h f) refl

-- the mnemonic is one of the table
pub mnemonic_good : (i : Insn) → is_well_formed i ≡ true → is_mnemonic (mnemonic_of i) ≡ true
mnemonic_good (insn.Alu wide op d s) h = refl
mnemonic_good (insn.MovSx wide bits d s) h = right (is_reg s) (nat_eq bits 8 || (nat_eq bits 16 || (wide && nat_eq bits 32))) (right (is_reg d) (is_reg s && (nat_eq bits 8 || (nat_eq bits 16 || (wide && nat_eq bits 32)))) h)
mnemonic_good (insn.Neg wide d) h = refl
mnemonic_good (insn.End o bits d) h = right (is_reg d) (nat_eq bits 16 || (nat_eq bits 32 || nat_eq bits 64)) h
mnemonic_good (insn.Ja z) h = refl
mnemonic_good (insn.JaFar z) h = refl
mnemonic_good (insn.Jump wide c d s z) h = refl
mnemonic_good (insn.Call z) h = refl
mnemonic_good insn.Exit h = refl
mnemonic_good (insn.Load s d b z) h = refl
mnemonic_good (insn.LoadSx size.B d b z) h = refl
mnemonic_good (insn.LoadSx size.H d b z) h = refl
mnemonic_good (insn.LoadSx size.W d b z) h = refl
mnemonic_good (insn.LoadSx size.Dw d b z) h = absurd cc
mnemonic_good (insn.StoreImm s b z k) h = refl
mnemonic_good (insn.StoreReg s b z r) h = refl
mnemonic_good (insn.Atomic wide op fetch b z r) h = right (is_reg r) (fetch || not (is_exchange op)) (right (is_reg b) (is_reg r && (fetch || not (is_exchange op))) h)
mnemonic_good (insn.LoadWide d n) h = refl

src_good : (s : Src) → is_src s ≡ true → src_fits s ≡ true → operand_fits (source_operand s) ≡ true
src_good (src.Imm k) h f = f
src_good (src.Reg r) h f = h

-- all operands fit
pub operands_good : (i : Insn) → is_well_formed i ≡ true → fits_fields i ≡ true → list_all operand_fits (operands_of i) ≡ true
operands_good (insn.Alu wide op d s) h f = let p = src_good s (right (is_reg d) (is_src s) h) f in grind arith
operands_good (insn.MovSx wide bits d s) h f = grind arith
operands_good (insn.Neg wide d) h f = grind arith
operands_good (insn.End o bits d) h f = grind arith
operands_good (insn.Ja z) h f = grind arith
operands_good (insn.JaFar z) h f = grind arith
operands_good (insn.Jump wide c d s z) h f = let p = src_good s (right (is_reg d) (is_src s) h) (left (src_fits s) (fits16 z) f) in grind arith
operands_good (insn.Call z) h f = grind arith
operands_good insn.Exit h f = refl
operands_good (insn.Load s d b z) h f = grind arith
operands_good (insn.LoadSx s d b z) h f = let r = load_sx_regs s d b z h in grind arith
operands_good (insn.StoreImm s b z k) h f = grind arith
operands_good (insn.StoreReg s b z r) h f = grind arith
operands_good (insn.Atomic wide op fetch b z r) h f = grind arith
operands_good (insn.LoadWide d n) h f = grind arith
