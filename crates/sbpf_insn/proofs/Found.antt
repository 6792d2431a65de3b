-- An instruction that is found is spelled by its bytes.
use Rattle.std.proofs.Common.{◌≡◌, ℕ, zero, suc, ◌+◌, ◌*◌, ◌/◌, ◌%◌, ◌^◌, ◌<◌, ◌≤◌, Bool, true, false, cond, nat_eq, List, [], ◌∷◌, ◌++◌, Option, Some, None, Result, Ok, Err, refl, sym, ap, subst, ◌∙◌, arith, inl, inr, ◌⊎◌, length, drop, get_or, append_assoc}
use Rattle.std.specs.Prelude.{◌||◌, nat_lt, not, IfOk}
use Rattle.std.specs.Int.{w16, w32, cast_signed, cast_unsigned, to_le_bytes, from_le_bytes}
use Rattle.std.specs.List.{find, list_all}
use Rattle.std.proofs.lemmas.Nat.{le_bytes_2, le_bytes_4}
use Rattle.std.proofs.Math.Dec.{lit<}
use Rattle.std.proofs.lemmas.List.{length-drop, drop-drop}
use Rattle.std.proofs.lemmas.Int.{of_z-to_z}
use Rattle.std.proofs.lemmas.Bool.{eqb-true}
use Rattle.std.proofs.lemmas.Bool.Decides.{nat_tests}
use Rattle.sbpf_insn.specs.declared.insn.AluOp.{AluOp}
use Rattle.sbpf_insn.specs.declared.insn.AluOp.TheVariants as alu
use Rattle.sbpf_insn.specs.declared.insn.Order.TheVariants as order
use Rattle.sbpf_insn.specs.declared.insn.Size.TheVariants as size
use Rattle.sbpf_insn.specs.declared.insn.Insn.{Insn}
use Rattle.sbpf_insn.specs.declared.insn.Insn.TheVariants as insn
use Rattle.sbpf_insn.specs.declared.fault.InsnKind.{InsnKind}
use Rattle.sbpf_insn.specs.declared.fault.InsnKind.TheVariants as kind
use Rattle.sbpf_insn.specs.declared.slot.Slot.{Slot}
use Rattle.sbpf_insn.specs.declared.form.Form.{Form}
use Rattle.sbpf_insn.specs.declared.form.Form.TheVariants as form
use Rattle.sbpf_insn.specs.declared.insn.AtomicOp.{AtomicOp}
use Rattle.sbpf_insn.specs.Opcodes.{opcode_of, forms, form_at}
use Rattle.sbpf_insn.specs.Table.{slot, slot_of, slot_bytes, spelling, is_well_formed, row_op, alu_offset, atomic_imm, is_exchange}
use Rattle.sbpf_insn.specs.Spelled.{Found}
use Rattle.sbpf_insn.proofs.Rows.{is_row, is_row_op, and_left, and_right}
use Rattle.sbpf_insn.specs.Decoded.{slot_at, insn_at, by_fields, by_form, field_fault, wide_load, slots_of, are_wide_fields, are_zero, high_half, has_no_register, is_refused_src, is_packet_mode, built, when, when_some, op_with, atomic_op, alu_built, uses_dst, uses_src, reg}

-- an instruction and the slot that it came from
pub record Fits (s : Slot) : Type 0 where
  pub dst : s.dst < 16
  pub src : s.src < 16
  pub offset : s.offset < 2 ^ 16
  pub imm : s.imm < 2 ^ 32

-- what is known once the registers were tested
pub record HasRegisters (f : Form) (s : Slot) : Type 0 where
  pub dst : uses_dst f ≡ true → s.dst ≤ 10
  pub src : uses_src f ≡ true → s.src ≤ 10

pub record Comes (i : Insn) (s : Slot) : Type 0 where
  pub one : slots_of i ≡ 1
  pub same : slot_of i ≡ s
  pub formed : is_well_formed i ≡ true

chosen : {A : Type 0} (b : Bool) (x y z : A) → cond b x y ≡ z → ((b ≡ true) × (x ≡ z)) ⊎ ((b ≡ false) × (y ≡ z))
chosen true x y z e = inl (refl, e)
chosen false x y z e = inr (refl, e)

some_is : (x y : Insn) → Some x ≡ Some y → x ≡ y
some_is x y e = cc

abbrev ok : Insn → Result Insn InsnKind
ok x = Ok x

when_is : (b : Bool) (x i : Insn) → when b x ≡ Some i → (b ≡ true) × (x ≡ i)
when_is true x i e = (refl, cc)
when_is false x i e = absurd cc

when_some_is : {X : Type 0} (o : Option X) (f : X → Insn) (i : Insn) → when_some o f ≡ Some i → (x : X) × (o ≡ Some x) × (f x ≡ i)
when_some_is None f i e = absurd cc
when_some_is (Some x) f i e = (x, refl, cc)

guard_is : (b : Bool) (o : Option Insn) (i : Insn) → cond b o None ≡ Some i → (b ≡ true) × (o ≡ Some i)
guard_is true o i e = (refl, e)
guard_is false o i e = absurd cc

-- the row and the offset of an operation that was found
op_with_is : (op : AluOp) (offset : ℕ) (x : AluOp) → is_row_op op ≡ true → op_with op offset ≡ Some x → (row_op x ≡ op) × (alu_offset x ≡ offset)
op_with_is alu.Sdiv offset x r e = absurd cc
op_with_is alu.Smod offset x r e = absurd cc
op_with_is op offset x r e = grind (arith, nat_tests, e)

-- the imm of an atomic operation that was found
atomic_is : (imm : ℕ) (x : AtomicOp × Bool) → atomic_op imm ≡ Some x → (atomic_imm x.0 x.1 ≡ imm) × ((x.1 || not (is_exchange x.0)) ≡ true)
atomic_is imm x e = grind (arith, nat_tests, e)

alu_comes : (wide : Bool) (op : AluOp) (r : Bool) (s : Slot) (i : Insn) → is_row_op op ≡ true → opcode_of (form.Alu wide op r) ≡ s.opcode → Fits s → HasRegisters (form.Alu wide op r) s → alu_built wide op r s ≡ Some i → Comes i s
alu_comes wide op false s i row o fits regs e =
    let g = guard_is (nat_eq s.src 0) _ i e in
    let w = when_some_is (op_with op s.offset) _ i g.1 in
    let same = op_with_is op s.offset w.0 row w.1 in
    let zero_src : s.src ≡ 0 = eqb-true s.src 0 g.0 in
    let low = regs.dst refl in
    let im : cast_unsigned w32 (cast_signed w32 s.imm) ≡ s.imm = of_z-to_z w32 s.imm fits.imm in
    subst (λ (j : Insn). Comes j s) w.2 (record { one = refl; same = grind arith; formed = grind (arith, nat_tests) })
alu_comes wide alu.Mov true s i row o fits regs e =
    let g = guard_is (nat_eq s.imm 0) _ i e in
    let zero_imm : s.imm ≡ 0 = eqb-true s.imm 0 g.0 in
    let low = regs.dst refl in
    let high = regs.src refl in
    elim (chosen (nat_eq s.offset 0) _ _ _ g.1) [
      | inl p ↦
          let zero_offset : s.offset ≡ 0 = eqb-true s.offset 0 p.0 in
          subst (λ (j : Insn). Comes j s) (some_is _ _ p.1) (record { one = refl; same = grind arith; formed = grind (arith, nat_tests) })
      | inr p ↦
          let w = when_is _ _ i p.1 in
          subst (λ (j : Insn). Comes j s) w.1 (record { one = refl; same = grind arith; formed = grind (arith, nat_tests, w.0) })
    ]
alu_comes wide op true s i row o fits regs e =
    let g = guard_is (nat_eq s.imm 0) _ i e in
    let w = when_some_is (op_with op s.offset) _ i g.1 in
    let same = op_with_is op s.offset w.0 row w.1 in
    let zero_imm : s.imm ≡ 0 = eqb-true s.imm 0 g.0 in
    let low = regs.dst refl in
    let high = regs.src refl in
    subst (λ (j : Insn). Comes j s) w.2 (record { one = refl; same = grind arith; formed = grind (arith, nat_tests) })

pub built_comes : (f : Form) (s : Slot) (i : Insn) → is_row f ≡ true → opcode_of f ≡ s.opcode → Fits s → HasRegisters f s → built f s ≡ Some i → Comes i s
built_comes (form.Alu wide op r) s i row o fits regs e = alu_comes wide op r s i row o fits regs e
built_comes (form.Neg wide) s i row o fits regs e =
    let g = when_is _ _ i e in
    let all : (s.src ≡ 0) × (s.offset ≡ 0) × (s.imm ≡ 0) = grind (arith, nat_tests, g.0) in
    let low = regs.dst refl in
    let off : cast_unsigned w16 (cast_signed w16 s.offset) ≡ s.offset = of_z-to_z w16 s.offset fits.offset in
    let im : cast_unsigned w32 (cast_signed w32 s.imm) ≡ s.imm = of_z-to_z w32 s.imm fits.imm in
    subst (λ (j : Insn). Comes j s) g.1 (record { one = refl; same = grind arith; formed = grind (arith, nat_tests) })
built_comes (form.End order.Little) s i row o fits regs e =
    let g = when_is _ _ i e in
    let all : (s.src ≡ 0) × (s.offset ≡ 0) = grind (arith, nat_tests, g.0) in
    let low = regs.dst refl in
    let off : cast_unsigned w16 (cast_signed w16 s.offset) ≡ s.offset = of_z-to_z w16 s.offset fits.offset in
    let im : cast_unsigned w32 (cast_signed w32 s.imm) ≡ s.imm = of_z-to_z w32 s.imm fits.imm in
    subst (λ (j : Insn). Comes j s) g.1 (record { one = refl; same = grind arith; formed = grind (arith, nat_tests) })
built_comes (form.End order.Big) s i row o fits regs e =
    let g = when_is _ _ i e in
    let all : (s.src ≡ 0) × (s.offset ≡ 0) = grind (arith, nat_tests, g.0) in
    let low = regs.dst refl in
    let off : cast_unsigned w16 (cast_signed w16 s.offset) ≡ s.offset = of_z-to_z w16 s.offset fits.offset in
    let im : cast_unsigned w32 (cast_signed w32 s.imm) ≡ s.imm = of_z-to_z w32 s.imm fits.imm in
    subst (λ (j : Insn). Comes j s) g.1 (record { one = refl; same = grind arith; formed = grind (arith, nat_tests) })
built_comes (form.End order.Swap) s i row o fits regs e =
    let g = when_is _ _ i e in
    let all : (s.src ≡ 0) × (s.offset ≡ 0) = grind (arith, nat_tests, g.0) in
    let low = regs.dst refl in
    let off : cast_unsigned w16 (cast_signed w16 s.offset) ≡ s.offset = of_z-to_z w16 s.offset fits.offset in
    let im : cast_unsigned w32 (cast_signed w32 s.imm) ≡ s.imm = of_z-to_z w32 s.imm fits.imm in
    subst (λ (j : Insn). Comes j s) g.1 (record { one = refl; same = grind arith; formed = grind (arith, nat_tests) })
built_comes (form.Ja) s i row o fits regs e =
    let g = when_is _ _ i e in
    let all : (s.dst ≡ 0) × (s.src ≡ 0) × (s.imm ≡ 0) = grind (arith, nat_tests, g.0) in
    let off : cast_unsigned w16 (cast_signed w16 s.offset) ≡ s.offset = of_z-to_z w16 s.offset fits.offset in
    let im : cast_unsigned w32 (cast_signed w32 s.imm) ≡ s.imm = of_z-to_z w32 s.imm fits.imm in
    subst (λ (j : Insn). Comes j s) g.1 (record { one = refl; same = grind arith; formed = grind (arith, nat_tests) })
built_comes (form.JaFar) s i row o fits regs e =
    let g = when_is _ _ i e in
    let all : (s.dst ≡ 0) × (s.src ≡ 0) × (s.offset ≡ 0) = grind (arith, nat_tests, g.0) in
    let off : cast_unsigned w16 (cast_signed w16 s.offset) ≡ s.offset = of_z-to_z w16 s.offset fits.offset in
    let im : cast_unsigned w32 (cast_signed w32 s.imm) ≡ s.imm = of_z-to_z w32 s.imm fits.imm in
    subst (λ (j : Insn). Comes j s) g.1 (record { one = refl; same = grind arith; formed = grind (arith, nat_tests) })
built_comes (form.Jump wide c false) s i row o fits regs e =
    let g = when_is _ _ i e in
    let all : s.src ≡ 0 = grind (arith, nat_tests, g.0) in
    let low = regs.dst refl in
    let off : cast_unsigned w16 (cast_signed w16 s.offset) ≡ s.offset = of_z-to_z w16 s.offset fits.offset in
    let im : cast_unsigned w32 (cast_signed w32 s.imm) ≡ s.imm = of_z-to_z w32 s.imm fits.imm in
    subst (λ (j : Insn). Comes j s) g.1 (record { one = refl; same = grind arith; formed = grind (arith, nat_tests) })
built_comes (form.Jump wide c true) s i row o fits regs e =
    let g = when_is _ _ i e in
    let all : s.imm ≡ 0 = grind (arith, nat_tests, g.0) in
    let low = regs.dst refl in
    let high = regs.src refl in
    let off : cast_unsigned w16 (cast_signed w16 s.offset) ≡ s.offset = of_z-to_z w16 s.offset fits.offset in
    let im : cast_unsigned w32 (cast_signed w32 s.imm) ≡ s.imm = of_z-to_z w32 s.imm fits.imm in
    subst (λ (j : Insn). Comes j s) g.1 (record { one = refl; same = grind arith; formed = grind (arith, nat_tests) })
built_comes (form.Call) s i row o fits regs e =
    let g = when_is _ _ i e in
    let all : (s.dst ≡ 0) × (s.src ≡ 1) × (s.offset ≡ 0) = grind (arith, nat_tests, g.0) in
    let off : cast_unsigned w16 (cast_signed w16 s.offset) ≡ s.offset = of_z-to_z w16 s.offset fits.offset in
    let im : cast_unsigned w32 (cast_signed w32 s.imm) ≡ s.imm = of_z-to_z w32 s.imm fits.imm in
    subst (λ (j : Insn). Comes j s) g.1 (record { one = refl; same = grind arith; formed = grind (arith, nat_tests) })
built_comes (form.Exit) s i row o fits regs e =
    let g = when_is _ _ i e in
    let all : (s.dst ≡ 0) × (s.src ≡ 0) × (s.offset ≡ 0) × (s.imm ≡ 0) = grind (arith, nat_tests, g.0) in
    let off : cast_unsigned w16 (cast_signed w16 s.offset) ≡ s.offset = of_z-to_z w16 s.offset fits.offset in
    let im : cast_unsigned w32 (cast_signed w32 s.imm) ≡ s.imm = of_z-to_z w32 s.imm fits.imm in
    subst (λ (j : Insn). Comes j s) g.1 (record { one = refl; same = grind arith; formed = grind (arith, nat_tests) })
built_comes (form.Load size) s i row o fits regs e =
    let g = when_is _ _ i e in
    let all : s.imm ≡ 0 = grind (arith, nat_tests, g.0) in
    let low = regs.dst refl in
    let high = regs.src refl in
    let off : cast_unsigned w16 (cast_signed w16 s.offset) ≡ s.offset = of_z-to_z w16 s.offset fits.offset in
    let im : cast_unsigned w32 (cast_signed w32 s.imm) ≡ s.imm = of_z-to_z w32 s.imm fits.imm in
    subst (λ (j : Insn). Comes j s) g.1 (record { one = refl; same = grind arith; formed = grind (arith, nat_tests) })
built_comes (form.LoadSx size.B) s i row o fits regs e =
    let g = when_is _ _ i e in
    let all : s.imm ≡ 0 = grind (arith, nat_tests, g.0) in
    let low = regs.dst refl in
    let high = regs.src refl in
    let off : cast_unsigned w16 (cast_signed w16 s.offset) ≡ s.offset = of_z-to_z w16 s.offset fits.offset in
    let im : cast_unsigned w32 (cast_signed w32 s.imm) ≡ s.imm = of_z-to_z w32 s.imm fits.imm in
    subst (λ (j : Insn). Comes j s) g.1 (record { one = refl; same = grind arith; formed = grind (arith, nat_tests) })
built_comes (form.LoadSx size.H) s i row o fits regs e =
    let g = when_is _ _ i e in
    let all : s.imm ≡ 0 = grind (arith, nat_tests, g.0) in
    let low = regs.dst refl in
    let high = regs.src refl in
    let off : cast_unsigned w16 (cast_signed w16 s.offset) ≡ s.offset = of_z-to_z w16 s.offset fits.offset in
    let im : cast_unsigned w32 (cast_signed w32 s.imm) ≡ s.imm = of_z-to_z w32 s.imm fits.imm in
    subst (λ (j : Insn). Comes j s) g.1 (record { one = refl; same = grind arith; formed = grind (arith, nat_tests) })
built_comes (form.LoadSx size.W) s i row o fits regs e =
    let g = when_is _ _ i e in
    let all : s.imm ≡ 0 = grind (arith, nat_tests, g.0) in
    let low = regs.dst refl in
    let high = regs.src refl in
    let off : cast_unsigned w16 (cast_signed w16 s.offset) ≡ s.offset = of_z-to_z w16 s.offset fits.offset in
    let im : cast_unsigned w32 (cast_signed w32 s.imm) ≡ s.imm = of_z-to_z w32 s.imm fits.imm in
    subst (λ (j : Insn). Comes j s) g.1 (record { one = refl; same = grind arith; formed = grind (arith, nat_tests) })
built_comes (form.LoadSx size.Dw) s i row o fits regs e = absurd cc
built_comes (form.StoreImm size) s i row o fits regs e =
    let g = when_is _ _ i e in
    let all : s.src ≡ 0 = grind (arith, nat_tests, g.0) in
    let low = regs.dst refl in
    let off : cast_unsigned w16 (cast_signed w16 s.offset) ≡ s.offset = of_z-to_z w16 s.offset fits.offset in
    let im : cast_unsigned w32 (cast_signed w32 s.imm) ≡ s.imm = of_z-to_z w32 s.imm fits.imm in
    subst (λ (j : Insn). Comes j s) g.1 (record { one = refl; same = grind arith; formed = grind (arith, nat_tests) })
built_comes (form.StoreReg size) s i row o fits regs e =
    let g = when_is _ _ i e in
    let all : s.imm ≡ 0 = grind (arith, nat_tests, g.0) in
    let low = regs.dst refl in
    let high = regs.src refl in
    let off : cast_unsigned w16 (cast_signed w16 s.offset) ≡ s.offset = of_z-to_z w16 s.offset fits.offset in
    let im : cast_unsigned w32 (cast_signed w32 s.imm) ≡ s.imm = of_z-to_z w32 s.imm fits.imm in
    subst (λ (j : Insn). Comes j s) g.1 (record { one = refl; same = grind arith; formed = grind (arith, nat_tests) })
built_comes (form.Atomic wide) s i row o fits regs e =
    let g = when_some_is (atomic_op s.imm) _ i e in
    let a = atomic_is s.imm g.0 g.1 in
    let low = regs.dst refl in
    let high = regs.src refl in
    let off : cast_unsigned w16 (cast_signed w16 s.offset) ≡ s.offset = of_z-to_z w16 s.offset fits.offset in
    subst (λ (j : Insn). Comes j s) g.2 (record { one = refl; same = grind arith; formed = grind (arith, nat_tests) })
built_comes form.LoadWide s i row o fits regs e = absurd cc

-- ---- the row

pub find_both : {X : Type 0} (p q : X → Bool) (xs : List X) (x : X) → list_all q xs ≡ true → find p xs ≡ Some x → (p x ≡ true) × (q x ≡ true)
find_both p q [] x a e = absurd cc
find_both p q (y ∷ ys) x a e =
    elim (chosen (p y) (Some y) (find p ys) (Some x) e) [
      | inl h ↦ let same : y ≡ x = cc in (rw (← same) h.0, rw (← same) (and_left (q y) (list_all q ys) a))
      | inr h ↦ find_both p q ys x (and_right (q y) (list_all q ys) a) h.1
    ]

all_rows : list_all is_row forms ≡ true
all_rows = refl

pub row_found : (opcode : ℕ) (f : Form) → form_at opcode ≡ Some f → (opcode_of f ≡ opcode) × (is_row f ≡ true)
unfolding form_at
row_found opcode f e =
    let h = find_both (λ g. nat_eq (opcode_of g) opcode) is_row forms f all_rows e in
    (eqb-true (opcode_of f) opcode h.0, h.1)

-- ---- eight bytes

abbrev pub IsBytes : List ℕ → Type 0
IsBytes bytes = (i : ℕ) → get_or bytes i 0 < 256

tail_bytes : (b : ℕ) (bytes : List ℕ) → IsBytes (b ∷ bytes) → IsBytes bytes
tail_bytes b bytes h i = h (suc i)

pair_bytes : (a b : ℕ) → a < 256 → b < 256 → IsBytes (a ∷ b ∷ [])
pair_bytes a b p q zero = p
pair_bytes a b p q (suc zero) = q
pair_bytes a b p q (suc (suc i)) = lit< tt

four_bytes : (a b c d : ℕ) → a < 256 → b < 256 → c < 256 → d < 256 → IsBytes (a ∷ b ∷ c ∷ d ∷ [])
four_bytes a b c d p q r s zero = p
four_bytes a b c d p q r s (suc zero) = q
four_bytes a b c d p q r s (suc (suc zero)) = r
four_bytes a b c d p q r s (suc (suc (suc zero))) = s
four_bytes a b c d p q r s (suc (suc (suc (suc i)))) = lit< tt

pub record FirstSlot (bytes : List ℕ) : Type 0 where
  pub back : slot_bytes (slot_at bytes) ++ drop 8 bytes ≡ bytes
  pub fits : Fits (slot_at bytes)
  pub rest : IsBytes (drop 8 bytes)

join : (a x b : ℕ) (p p' q q' rest : List ℕ) → x ≡ b → p ≡ p' → q ≡ q' → (a ∷ x ∷ (p ++ q)) ++ rest ≡ (a ∷ b ∷ (p' ++ q')) ++ rest
join a x b p p' q q' rest e f g = cc

first_of_eight : (a b c d e f g h : ℕ) (rest : List ℕ) → IsBytes (a ∷ b ∷ c ∷ d ∷ e ∷ f ∷ g ∷ h ∷ rest) → FirstSlot (a ∷ b ∷ c ∷ d ∷ e ∷ f ∷ g ∷ h ∷ rest)
unfolding slot_at
first_of_eight a b c d e f g h rest all =
    let b0 = all 0 in
    let b1 = all 1 in
    let b2 = all 2 in
    let b3 = all 3 in
    let b4 = all 4 in
    let b5 = all 5 in
    let b6 = all 6 in
    let b7 = all 7 in
    let nibbles : b % 16 + 16 * (b / 16) ≡ b = omega arith in
    let two : to_le_bytes w16 (from_le_bytes w16 (c ∷ d ∷ [])) ≡ c ∷ d ∷ [] = le_bytes_2 (c ∷ d ∷ []) _ refl (pair_bytes c d b2 b3) refl in
    let four : to_le_bytes w32 (from_le_bytes w32 (e ∷ f ∷ g ∷ h ∷ [])) ≡ e ∷ f ∷ g ∷ h ∷ [] = le_bytes_4 (e ∷ f ∷ g ∷ h ∷ []) _ refl (four_bytes e f g h b4 b5 b6 b7) refl in
    record {
      back = join a (b % 16 + 16 * (b / 16)) b (to_le_bytes w16 (from_le_bytes w16 (c ∷ d ∷ []))) (c ∷ d ∷ []) (to_le_bytes w32 (from_le_bytes w32 (e ∷ f ∷ g ∷ h ∷ []))) (e ∷ f ∷ g ∷ h ∷ []) rest nibbles two four;
      fits = record { dst = omega arith; src = omega arith; offset = omega arith; imm = omega arith };
      rest = λ i. all (suc (suc (suc (suc (suc (suc (suc (suc i))))))));
    }

first_slot : (bytes : List ℕ) → nat_lt (length bytes) 8 ≡ false → IsBytes bytes → FirstSlot bytes
first_slot [] e all = absurd cc
first_slot (a ∷ []) e all = absurd cc
first_slot (a ∷ b ∷ []) e all = absurd cc
first_slot (a ∷ b ∷ c ∷ []) e all = absurd cc
first_slot (a ∷ b ∷ c ∷ d ∷ []) e all = absurd cc
first_slot (a ∷ b ∷ c ∷ d ∷ x ∷ []) e all = absurd cc
first_slot (a ∷ b ∷ c ∷ d ∷ x ∷ f ∷ []) e all = absurd cc
first_slot (a ∷ b ∷ c ∷ d ∷ x ∷ f ∷ g ∷ []) e all = absurd cc
first_slot (a ∷ b ∷ c ∷ d ∷ x ∷ f ∷ g ∷ h ∷ rest) e all = first_of_eight a b c d x f g h rest all

-- ---- the second slot

pub record WideFound (i : Insn) (s : Slot) (rest : List ℕ) : Type 0 where
  pub spelled : spelling i ++ drop 8 rest ≡ slot_bytes s ++ rest
  pub formed : is_well_formed i ≡ true
  pub two : slots_of i ≡ 2
  pub long : 8 ≤ length rest

err_guard : {A : Type 0} (b : Bool) (k : InsnKind) (y : Result A InsnKind) (x : A) → cond b (Err k) y ≡ Ok x → (b ≡ false) × (y ≡ Ok x)
err_guard true k y x e = absurd cc
err_guard false k y x e = (refl, e)

ok_is : (x y : Insn) → ok x ≡ ok y → x ≡ y
ok_is x y e = cc

wide_bytes : (s : Slot) (high a b c d : ℕ) (four rest : List ℕ) → a ≡ 0 → b ≡ 0 → c ≡ 0 → d ≡ 0 → opcode_of form.LoadWide ≡ s.opcode → s.src ≡ 0 → s.offset ≡ 0 → Fits s → to_le_bytes w32 high ≡ four → spelling (insn.LoadWide (reg s.dst) (s.imm + 2 ^ 32 * high)) ++ rest ≡ slot_bytes s ++ (a ∷ b ∷ c ∷ d ∷ (four ++ rest))
wide_bytes s high a b c d four rest a0 b0 c0 d0 o src0 offset0 fits e =
    let low : (s.imm + 2 ^ 32 * high) % 2 ^ 32 ≡ s.imm = omega (arith, fits.imm) in
    let up : (s.imm + 2 ^ 32 * high) / 2 ^ 32 ≡ high = omega (arith, fits.imm) in
    let same : slot form.LoadWide s.dst 0 0 ((s.imm + 2 ^ 32 * high) % 2 ^ 32) ≡ s = grind arith in
    let second : to_le_bytes w32 ((s.imm + 2 ^ 32 * high) / 2 ^ 32) ≡ four = ap (to_le_bytes w32) up ∙ e in
    parts (slot_bytes (slot form.LoadWide s.dst 0 0 ((s.imm + 2 ^ 32 * high) % 2 ^ 32))) (slot_bytes s) (to_le_bytes w32 ((s.imm + 2 ^ 32 * high) / 2 ^ 32)) four a b c d rest (ap slot_bytes same) second a0 b0 c0 d0
  where
    parts : (x y p q : List ℕ) (a b c d : ℕ) (rest : List ℕ) → x ≡ y → p ≡ q → a ≡ 0 → b ≡ 0 → c ≡ 0 → d ≡ 0 → (x ++ (0 ∷ 0 ∷ 0 ∷ 0 ∷ p)) ++ rest ≡ y ++ (a ∷ b ∷ c ∷ d ∷ (q ++ rest))
    parts x y p q a b c d rest xy pq a0 b0 c0 d0 = append_assoc x (0 ∷ 0 ∷ 0 ∷ 0 ∷ p) rest ∙ cc

wide_of_eight : (s : Slot) (a b c d e f g h : ℕ) (rest : List ℕ) → a ≡ 0 → b ≡ 0 → c ≡ 0 → d ≡ 0 → opcode_of form.LoadWide ≡ s.opcode → s.src ≡ 0 → s.offset ≡ 0 → Fits s → s.dst ≤ 10 → IsBytes (a ∷ b ∷ c ∷ d ∷ e ∷ f ∷ g ∷ h ∷ rest) → WideFound (insn.LoadWide (reg s.dst) (s.imm + 2 ^ 32 * from_le_bytes w32 (e ∷ f ∷ g ∷ h ∷ []))) s (a ∷ b ∷ c ∷ d ∷ e ∷ f ∷ g ∷ h ∷ rest)
wide_of_eight s a b c d e f g h rest a0 b0 c0 d0 o src0 offset0 fits low all =
    let b4 = all 4 in
    let b5 = all 5 in
    let b6 = all 6 in
    let b7 = all 7 in
    let four : to_le_bytes w32 (from_le_bytes w32 (e ∷ f ∷ g ∷ h ∷ [])) ≡ e ∷ f ∷ g ∷ h ∷ [] = le_bytes_4 (e ∷ f ∷ g ∷ h ∷ []) _ refl (four_bytes e f g h b4 b5 b6 b7) refl in
    record { spelled = wide_bytes s (from_le_bytes w32 (e ∷ f ∷ g ∷ h ∷ [])) a b c d (e ∷ f ∷ g ∷ h ∷ []) rest a0 b0 c0 d0 o src0 offset0 fits four; formed = grind (arith, nat_tests); two = refl; long = omega arith }

wide_found : (s : Slot) (rest : List ℕ) (i : Insn) → opcode_of form.LoadWide ≡ s.opcode → Fits s → s.dst ≤ 10 → IsBytes rest → wide_load s rest ≡ Ok i → WideFound i s rest
unfolding wide_load
wide_found s rest i o fits low all e =
    let last : Result Insn InsnKind = Ok (insn.LoadWide (reg s.dst) (s.imm + 2 ^ 32 * high_half rest)) in
    let g = err_guard (not (are_wide_fields s)) kind.Field (cond (nat_lt (length rest) 8) (Err kind.Truncated) (cond (not (are_zero rest)) (Err kind.Wide) last)) i e in
    let h = err_guard (nat_lt (length rest) 8) kind.Truncated (cond (not (are_zero rest)) (Err kind.Wide) last) i g.1 in
    let k = err_guard (not (are_zero rest)) kind.Wide last i h.1 in
    let zeros : (s.src ≡ 0) × (s.offset ≡ 0) = grind (arith, nat_tests, g.0) in
    at_eight s rest i o fits low all zeros h.0 k.0 (ok_is _ _ k.1)
  where
    at_eight : (s : Slot) (rest : List ℕ) (i : Insn) → opcode_of form.LoadWide ≡ s.opcode → Fits s → s.dst ≤ 10 → IsBytes rest → (s.src ≡ 0) × (s.offset ≡ 0) → nat_lt (length rest) 8 ≡ false → not (are_zero rest) ≡ false → insn.LoadWide (reg s.dst) (s.imm + 2 ^ 32 * high_half rest) ≡ i → WideFound i s rest
    at_eight s [] i o fits low all z l k e = absurd cc
    at_eight s (_ ∷ []) i o fits low all z l k e = absurd cc
    at_eight s (_ ∷ _ ∷ []) i o fits low all z l k e = absurd cc
    at_eight s (_ ∷ _ ∷ _ ∷ []) i o fits low all z l k e = absurd cc
    at_eight s (_ ∷ _ ∷ _ ∷ _ ∷ []) i o fits low all z l k e = absurd cc
    at_eight s (_ ∷ _ ∷ _ ∷ _ ∷ _ ∷ []) i o fits low all z l k e = absurd cc
    at_eight s (_ ∷ _ ∷ _ ∷ _ ∷ _ ∷ _ ∷ []) i o fits low all z l k e = absurd cc
    at_eight s (_ ∷ _ ∷ _ ∷ _ ∷ _ ∷ _ ∷ _ ∷ []) i o fits low all z l k e = absurd cc
    at_eight s (a ∷ b ∷ c ∷ d ∷ x ∷ f ∷ g ∷ h ∷ rest) i o fits low all z l k e =
        let zeros : (a ≡ 0) × (b ≡ 0) × (c ≡ 0) × (d ≡ 0) = grind (arith, nat_tests, k) in
        subst (λ (j : Insn). WideFound j s (a ∷ b ∷ c ∷ d ∷ x ∷ f ∷ g ∷ h ∷ rest)) e (wide_of_eight s a b c d x f g h rest zeros.0 zeros.1 zeros.2 zeros.3 o z.0 z.1 fits low all)

-- ---- an instruction

field_is : (o : Option Insn) (i : Insn) → field_fault o ≡ Ok i → o ≡ Some i
field_is None i e = absurd cc
field_is (Some x) i e = cc

narrow : (i : Insn) → slots_of i ≡ 1 → spelling i ≡ slot_bytes (slot_of i)
narrow (insn.LoadWide dst value) e = absurd cc
narrow _ e = refl

which_load : (f : Form) (s : Slot) (rest : List ℕ) → (f ≡ form.LoadWide) ⊎ (by_fields f s rest ≡ field_fault (built f s))
which_load form.LoadWide s rest = inl refl
which_load _ s rest = inr refl

form_found : (bytes : List ℕ) (s : Slot) (first : FirstSlot bytes) → s ≡ slot_at bytes → 8 ≤ length bytes → (o : Option Form) (i : Insn) → form_at s.opcode ≡ o → by_form o s (drop 8 bytes) ≡ Ok i → Found bytes i
form_found bytes s first is long None i at e = absurd cc
form_found bytes s first is long (Some f) i at e =
    let row = row_found s.opcode f at in
    let rest = drop 8 bytes in
    let g = err_guard (has_no_register f s) kind.Register (cond (is_refused_src f s.src) (Err kind.Refused) (by_fields f s rest)) i e in
    let h = err_guard (is_refused_src f s.src) kind.Refused (by_fields f s rest) i g.1 in
    let regs : HasRegisters f s = record { dst = λ u. grind (arith, nat_tests, g.0, u); src = λ u. grind (arith, nat_tests, g.0, u) } in
    let fits : Fits s = rw is first.fits in
    let back : slot_bytes s ++ drop 8 bytes ≡ bytes = rw is first.back in
    elim (which_load f s rest) [
      | inl wide ↦
          let w = wide_found s rest i (rw wide at row.0) fits (regs.dst (rw wide refl)) first.rest (rw wide at h.1) in
          record { spelled = rw w.two (ap (λ (t : List ℕ). spelling i ++ t) (sym (drop-drop 8 8 bytes)) ∙ w.spelled ∙ back); formed = w.formed; long = rw w.two (omega (arith, w.long, length-drop 8 bytes)) }
      | inr other ↦
          let b = field_is (built f s) i (sym other ∙ h.1) in
          let comes = built_comes f s i row.1 row.0 fits regs b in
          record { spelled = rw (comes.one, narrow i comes.one, comes.same) back; formed = comes.formed; long = rw comes.one long }
    ]

pub found : (bytes : List ℕ) (i : Insn) → IsBytes bytes → insn_at bytes ≡ Ok i → Found bytes i
unfolding insn_at
found bytes i all e =
    let last = by_form (form_at (slot_at bytes).opcode) (slot_at bytes) (drop 8 bytes) in
    let g = err_guard (nat_lt (length bytes) 8) kind.Truncated (cond (is_packet_mode (slot_at bytes).opcode) (Err kind.Refused) last) i e in
    let h = err_guard (is_packet_mode (slot_at bytes).opcode) kind.Refused last i g.1 in
    form_found bytes (slot_at bytes) (first_slot bytes g.0 all) refl (grind (arith, nat_tests, g.0)) (form_at (slot_at bytes).opcode) i refl h.1

pub found_result : (bytes : List ℕ) (r : Result Insn InsnKind) → r ≡ insn_at bytes → IsBytes bytes → IfOk r (λ i. Found bytes i)
found_result bytes (Ok i) e all = found bytes i all (sym e)
found_result bytes (Err k) e all = tt
