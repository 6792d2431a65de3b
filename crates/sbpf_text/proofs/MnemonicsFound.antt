-- Each mnemonic is found by its word.
use Rattle.std.proofs.Common.{◌≡◌, ℕ, Bool, true, false, refl, Some, arith, sym, subst}
use Rattle.std.specs.Prelude.{nat_eq, ◌&&◌, ◌||◌}
use Rattle.std.proofs.lemmas.Bool.Decides.{nat_tests}
use Rattle.sbpf_insn.specs.declared.insn.AluOp.{AluOp}
use Rattle.sbpf_insn.specs.declared.insn.AluOp.TheVariants as alu
use Rattle.sbpf_insn.specs.declared.insn.Cond.{Cond}
use Rattle.sbpf_insn.specs.declared.insn.Cond.TheVariants as cond
use Rattle.sbpf_insn.specs.declared.insn.Size.{Size}
use Rattle.sbpf_insn.specs.declared.insn.Size.TheVariants as size
use Rattle.sbpf_insn.specs.declared.insn.AtomicOp.{AtomicOp}
use Rattle.sbpf_insn.specs.declared.insn.AtomicOp.TheVariants as atomic
use Rattle.sbpf_insn.specs.declared.insn.Order.{Order}
use Rattle.sbpf_insn.specs.declared.insn.Order.TheVariants as order
use Rattle.sbpf_text.specs.declared.mnemonic.Mnemonic.{Mnemonic}
use Rattle.sbpf_text.specs.declared.mnemonic.Mnemonic.TheVariants as mnemonic
use Rattle.sbpf_text.specs.Mnemonics.{mnemonic_spelled, word_of, is_mnemonic}

abbrev pub IsFound : Mnemonic → Type 0
IsFound r = mnemonic_spelled (word_of r) ≡ Some r

alu_found : (wide : Bool) (op : AluOp) → IsFound (mnemonic.Alu wide op)
unfolding mnemonic_spelled
alu_found true alu.Add = refl
alu_found true alu.Sub = refl
alu_found true alu.Mul = refl
alu_found true alu.Div = refl
alu_found true alu.Sdiv = refl
alu_found true alu.Or = refl
alu_found true alu.And = refl
alu_found true alu.Lsh = refl
alu_found true alu.Rsh = refl
alu_found true alu.Mod = refl
alu_found true alu.Smod = refl
alu_found true alu.Xor = refl
alu_found true alu.Mov = refl
alu_found true alu.Arsh = refl
alu_found false alu.Add = refl
alu_found false alu.Sub = refl
alu_found false alu.Mul = refl
alu_found false alu.Div = refl
alu_found false alu.Sdiv = refl
alu_found false alu.Or = refl
alu_found false alu.And = refl
alu_found false alu.Lsh = refl
alu_found false alu.Rsh = refl
alu_found false alu.Mod = refl
alu_found false alu.Smod = refl
alu_found false alu.Xor = refl
alu_found false alu.Mov = refl
alu_found false alu.Arsh = refl

jump_found : (wide : Bool) (c : Cond) → IsFound (mnemonic.Jump wide c)
unfolding mnemonic_spelled
jump_found true cond.Jeq = refl
jump_found true cond.Jgt = refl
jump_found true cond.Jge = refl
jump_found true cond.Jset = refl
jump_found true cond.Jne = refl
jump_found true cond.Jsgt = refl
jump_found true cond.Jsge = refl
jump_found true cond.Jlt = refl
jump_found true cond.Jle = refl
jump_found true cond.Jslt = refl
jump_found true cond.Jsle = refl
jump_found false cond.Jeq = refl
jump_found false cond.Jgt = refl
jump_found false cond.Jge = refl
jump_found false cond.Jset = refl
jump_found false cond.Jne = refl
jump_found false cond.Jsgt = refl
jump_found false cond.Jsge = refl
jump_found false cond.Jlt = refl
jump_found false cond.Jle = refl
jump_found false cond.Jslt = refl
jump_found false cond.Jsle = refl

load_found : (s : Size) → IsFound (mnemonic.Load s)
unfolding mnemonic_spelled
load_found size.B = refl
load_found size.H = refl
load_found size.W = refl
load_found size.Dw = refl

store_imm_found : (s : Size) → IsFound (mnemonic.StoreImm s)
unfolding mnemonic_spelled
store_imm_found size.B = refl
store_imm_found size.H = refl
store_imm_found size.W = refl
store_imm_found size.Dw = refl

store_reg_found : (s : Size) → IsFound (mnemonic.StoreReg s)
unfolding mnemonic_spelled
store_reg_found size.B = refl
store_reg_found size.H = refl
store_reg_found size.W = refl
store_reg_found size.Dw = refl

load_sx_found : (s : Size) → is_mnemonic (mnemonic.LoadSx s) ≡ true → IsFound (mnemonic.LoadSx s)
unfolding mnemonic_spelled
load_sx_found size.B h = refl
load_sx_found size.H h = refl
load_sx_found size.W h = refl
load_sx_found size.Dw h = absurd cc

atomic_found : (wide : Bool) (op : AtomicOp) (fetch : Bool) → is_mnemonic (mnemonic.Atomic wide op fetch) ≡ true → IsFound (mnemonic.Atomic wide op fetch)
unfolding mnemonic_spelled
atomic_found true atomic.Add true h = refl
atomic_found true atomic.Add false h = refl
atomic_found true atomic.Or true h = refl
atomic_found true atomic.Or false h = refl
atomic_found true atomic.And true h = refl
atomic_found true atomic.And false h = refl
atomic_found true atomic.Xor true h = refl
atomic_found true atomic.Xor false h = refl
atomic_found true atomic.Xchg true h = refl
atomic_found true atomic.Xchg false h = absurd cc
atomic_found true atomic.CmpXchg true h = refl
atomic_found true atomic.CmpXchg false h = absurd cc
atomic_found false atomic.Add true h = refl
atomic_found false atomic.Add false h = refl
atomic_found false atomic.Or true h = refl
atomic_found false atomic.Or false h = refl
atomic_found false atomic.And true h = refl
atomic_found false atomic.And false h = refl
atomic_found false atomic.Xor true h = refl
atomic_found false atomic.Xor false h = refl
atomic_found false atomic.Xchg true h = refl
atomic_found false atomic.Xchg false h = absurd cc
atomic_found false atomic.CmpXchg true h = refl
atomic_found false atomic.CmpXchg false h = absurd cc

neg_found : (wide : Bool) → IsFound (mnemonic.Neg wide)
unfolding mnemonic_spelled
neg_found true = refl
neg_found false = refl

same_bits : (a b : ℕ) → nat_eq a b ≡ true → a ≡ b
same_bits a b h = grind (arith, nat_tests)

movsx_at : (wide : Bool) (bits : ℕ) (x y z : Bool) → nat_eq bits 8 ≡ x → nat_eq bits 16 ≡ y → nat_eq bits 32 ≡ z → (x || (y || (wide && z))) ≡ true → IsFound (mnemonic.MovSx wide bits)
unfolding mnemonic_spelled
movsx_at true bits true y z e f g h = subst (λ (k : ℕ). IsFound (mnemonic.MovSx true k)) (sym (same_bits bits 8 e)) refl
movsx_at false bits true y z e f g h = subst (λ (k : ℕ). IsFound (mnemonic.MovSx false k)) (sym (same_bits bits 8 e)) refl
movsx_at true bits false true z e f g h = subst (λ (k : ℕ). IsFound (mnemonic.MovSx true k)) (sym (same_bits bits 16 f)) refl
movsx_at false bits false true z e f g h = subst (λ (k : ℕ). IsFound (mnemonic.MovSx false k)) (sym (same_bits bits 16 f)) refl
movsx_at true bits false false true e f g h = subst (λ (k : ℕ). IsFound (mnemonic.MovSx true k)) (sym (same_bits bits 32 g)) refl
movsx_at true bits false false false e f g h = absurd cc
movsx_at false bits false false z e f g h = absurd cc

end_at : (o : Order) (bits : ℕ) (x y z : Bool) → nat_eq bits 16 ≡ x → nat_eq bits 32 ≡ y → nat_eq bits 64 ≡ z → (x || (y || z)) ≡ true → IsFound (mnemonic.End o bits)
unfolding mnemonic_spelled
end_at order.Little bits true y z e f g h = subst (λ (k : ℕ). IsFound (mnemonic.End order.Little k)) (sym (same_bits bits 16 e)) refl
end_at order.Little bits false true z e f g h = subst (λ (k : ℕ). IsFound (mnemonic.End order.Little k)) (sym (same_bits bits 32 f)) refl
end_at order.Little bits false false true e f g h = subst (λ (k : ℕ). IsFound (mnemonic.End order.Little k)) (sym (same_bits bits 64 g)) refl
end_at order.Little bits false false false e f g h = absurd cc
end_at order.Big bits true y z e f g h = subst (λ (k : ℕ). IsFound (mnemonic.End order.Big k)) (sym (same_bits bits 16 e)) refl
end_at order.Big bits false true z e f g h = subst (λ (k : ℕ). IsFound (mnemonic.End order.Big k)) (sym (same_bits bits 32 f)) refl
end_at order.Big bits false false true e f g h = subst (λ (k : ℕ). IsFound (mnemonic.End order.Big k)) (sym (same_bits bits 64 g)) refl
end_at order.Big bits false false false e f g h = absurd cc
end_at order.Swap bits true y z e f g h = subst (λ (k : ℕ). IsFound (mnemonic.End order.Swap k)) (sym (same_bits bits 16 e)) refl
end_at order.Swap bits false true z e f g h = subst (λ (k : ℕ). IsFound (mnemonic.End order.Swap k)) (sym (same_bits bits 32 f)) refl
end_at order.Swap bits false false true e f g h = subst (λ (k : ℕ). IsFound (mnemonic.End order.Swap k)) (sym (same_bits bits 64 g)) refl
end_at order.Swap bits false false false e f g h = absurd cc

pub found_again : (r : Mnemonic) → is_mnemonic r ≡ true → IsFound r
unfolding mnemonic_spelled
found_again (mnemonic.Alu wide op) h = alu_found wide op
found_again (mnemonic.Neg wide) h = neg_found wide
found_again (mnemonic.MovSx wide bits) h = movsx_at wide bits (nat_eq bits 8) (nat_eq bits 16) (nat_eq bits 32) refl refl refl h
found_again (mnemonic.End o bits) h = end_at o bits (nat_eq bits 16) (nat_eq bits 32) (nat_eq bits 64) refl refl refl h
found_again mnemonic.Ja h = refl
found_again mnemonic.JaFar h = refl
found_again (mnemonic.Jump wide c) h = jump_found wide c
found_again mnemonic.Call h = refl
found_again mnemonic.Exit h = refl
found_again (mnemonic.Load s) h = load_found s
found_again (mnemonic.LoadSx s) h = load_sx_found s h
found_again (mnemonic.StoreImm s) h = store_imm_found s
found_again (mnemonic.StoreReg s) h = store_reg_found s
found_again (mnemonic.Atomic wide op fetch) h = atomic_found wide op fetch h
found_again mnemonic.LoadWide h = refl
