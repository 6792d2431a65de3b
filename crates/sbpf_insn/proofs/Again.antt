-- What an instruction is spelled as is read as that instruction.
use Rattle.std.proofs.Common.{◌≡◌, ℕ, ◌+◌, ◌*◌, ◌/◌, ◌%◌, ◌^◌, ◌<◌, ◌≤◌, Bool, true, false, nat_eq, List, ◌∷◌, ◌++◌, Option, Some, None, Ok, refl, ap, arith, length, append_assoc}
use Rattle.std.specs.Prelude.{◌&&◌, ◌||◌, ℤ, pos, negsuc, nat_lt, not, is_none, FitsSigned}
use Rattle.std.specs.Int.{w16, w32, cast_signed, cast_unsigned, to_le_bytes, from_le_bytes}
use Rattle.std.proofs.lemmas.Nat.{from_le_bytes-to_le_bytes_2, from_le_bytes-to_le_bytes_4}
use Rattle.std.proofs.lemmas.Int.{to_z-of_z, ints}
use Rattle.std.proofs.lemmas.Bool.Decides.{nat_tests}
use Rattle.std.proofs.Math.Dec.{lit<}
use Rattle.sbpf_insn.specs.declared.insn.Reg.{Reg}
use Rattle.sbpf_insn.specs.declared.insn.Src.TheVariants as src
use Rattle.sbpf_insn.specs.declared.insn.Insn.{Insn}
use Rattle.sbpf_insn.specs.declared.insn.Insn.TheVariants as insn
use Rattle.sbpf_insn.specs.declared.insn.Src.{Src}
use Rattle.sbpf_insn.specs.declared.insn.Order.{Order}
use Rattle.sbpf_insn.specs.declared.insn.AluOp.{AluOp}
use Rattle.sbpf_insn.specs.declared.insn.AluOp.TheVariants as alu
use Rattle.sbpf_insn.specs.declared.insn.AtomicOp.{AtomicOp}
use Rattle.sbpf_insn.specs.declared.insn.AtomicOp.TheVariants as atomic
use Rattle.sbpf_insn.specs.declared.insn.Cond.{Cond}
use Rattle.sbpf_insn.specs.declared.insn.Size.{Size}
use Rattle.sbpf_insn.specs.declared.insn.Size.TheVariants as size
use Rattle.sbpf_insn.specs.Ranges.{fits16, fits32, src_fits, fits_fields}
use Rattle.sbpf_insn.specs.declared.slot.Slot.{Slot}
use Rattle.sbpf_insn.specs.declared.form.Form.{Form}
use Rattle.sbpf_insn.specs.declared.form.Form.TheVariants as form
use Rattle.sbpf_insn.specs.Opcodes.{forms, opcode_of, form_at}
use Rattle.sbpf_insn.specs.Table.{slot, slot_of, slot_bytes, spelling, is_well_formed, is_reg, is_src, is_exchange, row_op, alu_offset, atomic_imm, o16, i32}
use Rattle.sbpf_insn.specs.Decoded.{slot_at, insn_at, by_form, by_fields, alu_built, op_with, atomic_op, wide_load, field_fault, is_move_width, is_packet_mode, has_no_register, is_refused_src}
use Rattle.std.specs.List.{list_all}
use Rattle.sbpf_insn.proofs.Found.{find_both}
use Rattle.sbpf_insn.proofs.Rows.{is_row, is_row_op, form_at-opcode, all_below, from_test, and_left, and_right}

-- the fields of a slot fit their places
pub record Packs (s : Slot) : Type 0 where
  pub opcode : s.opcode < 256
  pub dst : s.dst < 16
  pub src : s.src < 16
  pub offset : s.offset < 2 ^ 16
  pub imm : s.imm < 2 ^ 32

abbrev slot_with : ℕ → ℕ → ℕ → ℕ → ℕ → Slot
slot_with o d r a m = record { opcode = o; dst = d; src = r; offset = a; imm = m }

slot_again : (s : Slot) (rest : List ℕ) → Packs s → slot_at (slot_bytes s ++ rest) ≡ s
unfolding slot_at
slot_again s rest packs =
    let low : (s.dst + 16 * s.src) % 16 ≡ s.dst = omega (arith, packs.dst) in
    let high : (s.dst + 16 * s.src) / 16 ≡ s.src = omega (arith, packs.dst) in
    let two : from_le_bytes w16 (to_le_bytes w16 s.offset) ≡ s.offset = from_le_bytes-to_le_bytes_2 s.offset packs.offset in
    let four : from_le_bytes w32 (to_le_bytes w32 s.imm) ≡ s.imm = from_le_bytes-to_le_bytes_4 s.imm packs.imm in
    same s.opcode _ s.dst _ s.src _ s.offset _ s.imm low high two four
  where
    same : (o d d2 r r2 a a2 m m2 : ℕ) → d ≡ d2 → r ≡ r2 → a ≡ a2 → m ≡ m2 → slot_with o d r a m ≡ slot_with o d2 r2 a2 m2
    same o d d2 r r2 a a2 m m2 p q s t = cc

-- no row has the opcode of a packet mode
abbrev not_packet : ℕ → Bool
not_packet o = not (is_packet_mode o) || is_none (form_at o)

no_packet : all_below not_packet 256 ≡ true
unfolding form_at is_packet_mode
no_packet = refl

row_no_packet : (o : ℕ) (f : Form) → o < 256 → form_at o ≡ Some f → is_packet_mode o ≡ false
row_no_packet o f lt e = apart (is_packet_mode o) (form_at o) f e (from_test not_packet 256 o lt no_packet)
  where
    apart : (b : Bool) (o : Option Form) (f : Form) → o ≡ Some f → (not b || is_none o) ≡ true → b ≡ false
    apart false o f e t = refl
    apart true None f e t = absurd cc
    apart true (Some g) f e t = absurd cc

by_slot : (f : Form) (s : Slot) (rest : List ℕ) (i : Insn) → Packs s → form_at s.opcode ≡ Some f → by_form (Some f) s rest ≡ Ok i → insn_at (slot_bytes s ++ rest) ≡ Ok i
unfolding insn_at
by_slot f s rest i packs at e =
    let same = slot_again s rest packs in
    let long : nat_lt (length (slot_bytes s ++ rest)) 8 ≡ false = grind (arith, nat_tests) in
    rw (long, same, row_no_packet s.opcode f packs.opcode at, at) e

below_11 : (n : ℕ) → n ≤ 10 → nat_lt 10 n ≡ false
below_11 n le = grind (arith, nat_tests)

bits16 : (z : _) → FitsSigned w16 z → cast_unsigned w16 z < 2 ^ 16
bits16 z fits = omega (arith, ints)

bits32 : (z : _) → FitsSigned w32 z → cast_unsigned w32 z < 2 ^ 32
bits32 z fits = omega (arith, ints)

opcode_small : (f : Form) → is_row f ≡ true → opcode_of f < 256
unfolding form_at
opcode_small f row =
    let small : list_all (λ g. nat_lt (opcode_of g) 256) forms ≡ true = refl in
    let at = form_at-opcode f row in
    grind (arith, nat_tests, (find_both (λ g. nat_eq (opcode_of g) (opcode_of f)) (λ g. nat_lt (opcode_of g) 256) forms f small at).1)

-- ---- the numbers of an instruction, to bits and back

fits16_is : (z : ℤ) → fits16 z ≡ true → FitsSigned w16 z
fits16_is (pos n) e = grind (arith, ints, nat_tests, e)
fits16_is (negsuc n) e = grind (arith, ints, nat_tests, e)

fits32_is : (z : ℤ) → fits32 z ≡ true → FitsSigned w32 z
fits32_is (pos n) e = grind (arith, ints, nat_tests, e)
fits32_is (negsuc n) e = grind (arith, ints, nat_tests, e)

back16 : (z : ℤ) → fits16 z ≡ true → cast_signed w16 (o16 z) ≡ z
back16 z e = to_z-of_z w16 z (fits16_is z e)

back32 : (z : ℤ) → fits32 z ≡ true → cast_signed w32 (i32 z) ≡ z
back32 z e = to_z-of_z w32 z (fits32_is z e)

small16 : (z : ℤ) → fits16 z ≡ true → o16 z < 2 ^ 16
small16 z e = bits16 z (fits16_is z e)

small32 : (z : ℤ) → fits32 z ≡ true → i32 z < 2 ^ 32
small32 z e = bits32 z (fits32_is z e)

reg_low : (r : Reg) → is_reg r ≡ true → nat_lt 10 r.n ≡ false
reg_low r e = grind (arith, nat_tests, e)

reg_small : (r : Reg) → is_reg r ≡ true → r.n < 16
reg_small r e = grind (arith, nat_tests, e)

-- ---- operations

op_again : (op : AluOp) → op_with (row_op op) (alu_offset op) ≡ Some op
op_again alu.Add = refl
op_again _ = refl

row_is : (op : AluOp) → is_row_op (row_op op) ≡ true
row_is alu.Add = refl
row_is _ = refl

offset_small : (op : AluOp) → alu_offset op < 2 ^ 16
offset_small alu.Sdiv = lit< tt
offset_small alu.Smod = lit< tt
offset_small _ = lit< tt

alu_reg_again : (wide : Bool) (op : AluOp) (dst r : Reg) → alu_built wide (row_op op) true (slot (form.Alu wide (row_op op) true) dst.n r.n (alu_offset op) 0) ≡ Some (insn.Alu wide op dst (src.Reg r))
alu_reg_again wide alu.Add dst r = refl
alu_reg_again wide _ dst r = refl

atomic_again : (op : AtomicOp) (fetch : Bool) → (fetch || not (is_exchange op)) ≡ true → atomic_op (atomic_imm op fetch) ≡ Some (op, fetch)
atomic_again atomic.Add true e = refl
atomic_again atomic.Add false e = refl
atomic_again atomic.Or true e = refl
atomic_again atomic.Or false e = refl
atomic_again atomic.And true e = refl
atomic_again atomic.And false e = refl
atomic_again atomic.Xor true e = refl
atomic_again atomic.Xor false e = refl
atomic_again atomic.Xchg true e = refl
atomic_again atomic.Xchg false e = absurd cc
atomic_again atomic.CmpXchg true e = refl
atomic_again atomic.CmpXchg false e = absurd cc

atomic_small : (op : AtomicOp) (fetch : Bool) → atomic_imm op fetch < 2 ^ 32
atomic_small op true = elim op as (λ o. atomic_imm o true < 2 ^ 32) [ atomic.Add ↦ lit< tt | _ ↦ lit< tt ]
atomic_small op false = elim op as (λ o. atomic_imm o false < 2 ^ 32) [ atomic.Add ↦ lit< tt | _ ↦ lit< tt ]

-- ---- instruction by instruction

-- a form whose registers and fields are as the table says
by_parts : (f : Form) (s : Slot) (rest : List ℕ) (i : Insn) → is_row f ≡ true → opcode_of f ≡ s.opcode → s.dst < 16 → s.src < 16 → s.offset < 2 ^ 16 → s.imm < 2 ^ 32 → has_no_register f s ≡ false → is_refused_src f s.src ≡ false → by_fields f s rest ≡ Ok i → insn_at (slot_bytes s ++ rest) ≡ Ok i
by_parts f s rest i row same dst src offset imm low kept e =
    let small : s.opcode < 256 = rw (← same) (opcode_small f row) in
    let packs : Packs s = record { opcode = small; dst = dst; src = src; offset = offset; imm = imm } in
    by_slot f s rest i packs (rw (← same) (form_at-opcode f row)) (rw (low, kept) e)

alu_again : (wide : Bool) (op : AluOp) (dst : Reg) (s : Src) (rest : List ℕ) → is_reg dst ≡ true → is_src s ≡ true → src_fits s ≡ true → insn_at (spelling (insn.Alu wide op dst s) ++ rest) ≡ Ok (insn.Alu wide op dst s)
alu_again wide op dst (src.Imm k) rest d s fit =
    let form = form.Alu wide (row_op op) false in
    by_parts form (slot_of (insn.Alu wide op dst (src.Imm k))) rest (insn.Alu wide op dst (src.Imm k)) (row_is op) refl (reg_small dst d) (lit< tt) (offset_small op) (small32 k fit) (rw (reg_low dst d) refl) refl (rw (op_again op, back32 k fit) refl)
alu_again wide op dst (src.Reg r) rest d s fit =
    let form = form.Alu wide (row_op op) true in
    by_parts form (slot_of (insn.Alu wide op dst (src.Reg r))) rest (insn.Alu wide op dst (src.Reg r)) (row_is op) refl (reg_small dst d) (reg_small r s) (offset_small op) (lit< tt) (rw (reg_low dst d, reg_low r s) refl) refl (ap field_fault (alu_reg_again wide op dst r))

jump_again : (wide : Bool) (c : Cond) (dst : Reg) (s : Src) (offset : ℤ) (rest : List ℕ) → is_reg dst ≡ true → is_src s ≡ true → src_fits s ≡ true → fits16 offset ≡ true → insn_at (spelling (insn.Jump wide c dst s offset) ++ rest) ≡ Ok (insn.Jump wide c dst s offset)
jump_again wide c dst (src.Imm k) offset rest d s fit near =
    by_parts (form.Jump wide c false) (slot_of (insn.Jump wide c dst (src.Imm k) offset)) rest (insn.Jump wide c dst (src.Imm k) offset) refl refl (reg_small dst d) (lit< tt) (small16 offset near) (small32 k fit) (rw (reg_low dst d) refl) refl (rw (back16 offset near, back32 k fit) refl)
jump_again wide c dst (src.Reg r) offset rest d s fit near =
    by_parts (form.Jump wide c true) (slot_of (insn.Jump wide c dst (src.Reg r) offset)) rest (insn.Jump wide c dst (src.Reg r) offset) refl refl (reg_small dst d) (reg_small r s) (small16 offset near) (lit< tt) (rw (reg_low dst d, reg_low r s) refl) refl (rw (back16 offset near) refl)

movsx_again : (wide : Bool) (width : ℕ) (dst r : Reg) (rest : List ℕ) → is_reg dst ≡ true → is_reg r ≡ true → is_move_width wide width ≡ true → insn_at (spelling (insn.MovSx wide width dst r) ++ rest) ≡ Ok (insn.MovSx wide width dst r)
movsx_again wide width dst r rest d s w =
    let some : nat_eq width 0 ≡ false = grind (arith, nat_tests, w) in
    let small : width < 2 ^ 16 = grind (arith, nat_tests, w) in
    by_parts (form.Alu wide alu.Mov true) (slot_of (insn.MovSx wide width dst r)) rest (insn.MovSx wide width dst r) refl refl (reg_small dst d) (reg_small r s) small (lit< tt) (rw (reg_low dst d, reg_low r s) refl) refl (rw (some, w) refl)

neg_again : (wide : Bool) (dst : Reg) (rest : List ℕ) → is_reg dst ≡ true → insn_at (spelling (insn.Neg wide dst) ++ rest) ≡ Ok (insn.Neg wide dst)
neg_again wide dst rest d =
    by_parts (form.Neg wide) (slot_of (insn.Neg wide dst)) rest (insn.Neg wide dst) refl refl (reg_small dst d) (lit< tt) (lit< tt) (lit< tt) (rw (reg_low dst d) refl) refl refl

abbrev is_end_width : ℕ → Bool
is_end_width n = nat_eq n 16 || (nat_eq n 32 || nat_eq n 64)

end_again : (o : Order) (width : ℕ) (dst : Reg) (rest : List ℕ) → is_reg dst ≡ true → is_end_width width ≡ true → insn_at (spelling (insn.End o width dst) ++ rest) ≡ Ok (insn.End o width dst)
end_again o width dst rest d w =
    let small : width < 2 ^ 32 = grind (arith, nat_tests, w) in
    by_parts (form.End o) (slot_of (insn.End o width dst)) rest (insn.End o width dst) refl refl (reg_small dst d) (lit< tt) (lit< tt) small (rw (reg_low dst d) refl) refl (rw w refl)

ja_again : (offset : ℤ) (rest : List ℕ) → fits16 offset ≡ true → insn_at (spelling (insn.Ja offset) ++ rest) ≡ Ok (insn.Ja offset)
ja_again offset rest near =
    by_parts form.Ja (slot_of (insn.Ja offset)) rest (insn.Ja offset) refl refl (lit< tt) (lit< tt) (small16 offset near) (lit< tt) refl refl (rw (back16 offset near) refl)

ja_far_again : (offset : ℤ) (rest : List ℕ) → fits32 offset ≡ true → insn_at (spelling (insn.JaFar offset) ++ rest) ≡ Ok (insn.JaFar offset)
ja_far_again offset rest far =
    by_parts form.JaFar (slot_of (insn.JaFar offset)) rest (insn.JaFar offset) refl refl (lit< tt) (lit< tt) (lit< tt) (small32 offset far) refl refl (rw (back32 offset far) refl)

call_again : (offset : ℤ) (rest : List ℕ) → fits32 offset ≡ true → insn_at (spelling (insn.Call offset) ++ rest) ≡ Ok (insn.Call offset)
call_again offset rest far =
    by_parts form.Call (slot_of (insn.Call offset)) rest (insn.Call offset) refl refl (lit< tt) (lit< tt) (lit< tt) (small32 offset far) refl refl (rw (back32 offset far) refl)

exit_again : (rest : List ℕ) → insn_at (spelling insn.Exit ++ rest) ≡ Ok insn.Exit
exit_again rest = by_parts form.Exit (slot_of insn.Exit) rest insn.Exit refl refl (lit< tt) (lit< tt) (lit< tt) (lit< tt) refl refl refl

load_again : (size : Size) (dst base : Reg) (offset : ℤ) (rest : List ℕ) → is_reg dst ≡ true → is_reg base ≡ true → fits16 offset ≡ true → insn_at (spelling (insn.Load size dst base offset) ++ rest) ≡ Ok (insn.Load size dst base offset)
load_again size dst base offset rest d b near =
    by_parts (form.Load size) (slot_of (insn.Load size dst base offset)) rest (insn.Load size dst base offset) refl refl (reg_small dst d) (reg_small base b) (small16 offset near) (lit< tt) (rw (reg_low dst d, reg_low base b) refl) refl (rw (back16 offset near) refl)

load_sx_again : (size : Size) (dst base : Reg) (offset : ℤ) (rest : List ℕ) → is_row (form.LoadSx size) ≡ true → is_reg dst ≡ true → is_reg base ≡ true → fits16 offset ≡ true → insn_at (spelling (insn.LoadSx size dst base offset) ++ rest) ≡ Ok (insn.LoadSx size dst base offset)
load_sx_again size dst base offset rest row d b near =
    by_parts (form.LoadSx size) (slot_of (insn.LoadSx size dst base offset)) rest (insn.LoadSx size dst base offset) row refl (reg_small dst d) (reg_small base b) (small16 offset near) (lit< tt) (rw (reg_low dst d, reg_low base b) refl) refl (rw (back16 offset near) refl)

store_imm_again : (size : Size) (base : Reg) (offset k : ℤ) (rest : List ℕ) → is_reg base ≡ true → fits16 offset ≡ true → fits32 k ≡ true → insn_at (spelling (insn.StoreImm size base offset k) ++ rest) ≡ Ok (insn.StoreImm size base offset k)
store_imm_again size base offset k rest b near fit =
    by_parts (form.StoreImm size) (slot_of (insn.StoreImm size base offset k)) rest (insn.StoreImm size base offset k) refl refl (reg_small base b) (lit< tt) (small16 offset near) (small32 k fit) (rw (reg_low base b) refl) refl (rw (back16 offset near, back32 k fit) refl)

store_reg_again : (size : Size) (base : Reg) (offset : ℤ) (r : Reg) (rest : List ℕ) → is_reg base ≡ true → is_reg r ≡ true → fits16 offset ≡ true → insn_at (spelling (insn.StoreReg size base offset r) ++ rest) ≡ Ok (insn.StoreReg size base offset r)
store_reg_again size base offset r rest b s near =
    by_parts (form.StoreReg size) (slot_of (insn.StoreReg size base offset r)) rest (insn.StoreReg size base offset r) refl refl (reg_small base b) (reg_small r s) (small16 offset near) (lit< tt) (rw (reg_low base b, reg_low r s) refl) refl (rw (back16 offset near) refl)

atomic_insn_again : (wide : Bool) (op : AtomicOp) (fetch : Bool) (base : Reg) (offset : ℤ) (r : Reg) (rest : List ℕ) → is_reg base ≡ true → is_reg r ≡ true → (fetch || not (is_exchange op)) ≡ true → fits16 offset ≡ true → insn_at (spelling (insn.Atomic wide op fetch base offset r) ++ rest) ≡ Ok (insn.Atomic wide op fetch base offset r)
atomic_insn_again wide op fetch base offset r rest b s kind near =
    by_parts (form.Atomic wide) (slot_of (insn.Atomic wide op fetch base offset r)) rest (insn.Atomic wide op fetch base offset r) refl refl (reg_small base b) (reg_small r s) (small16 offset near) (atomic_small op fetch) (rw (reg_low base b, reg_low r s) refl) refl (rw (atomic_again op fetch kind, back16 offset near) refl)

wide_load_again : (dst : Reg) (value : ℕ) (rest : List ℕ) → is_reg dst ≡ true → nat_lt value (2 ^ 64) ≡ true → insn_at (spelling (insn.LoadWide dst value) ++ rest) ≡ Ok (insn.LoadWide dst value)
unfolding wide_load
wide_load_again dst value rest d fit =
    let less : value < 2 ^ 64 = grind (arith, nat_tests, fit) in
    let low : value % 2 ^ 32 < 2 ^ 32 = omega arith in
    let high : value / 2 ^ 32 < 2 ^ 32 = omega arith in
    let whole : value % 2 ^ 32 + 2 ^ 32 * (value / 2 ^ 32) ≡ value = omega arith in
    let four : from_le_bytes w32 (to_le_bytes w32 (value / 2 ^ 32)) ≡ value / 2 ^ 32 = from_le_bytes-to_le_bytes_4 (value / 2 ^ 32) high in
    let second : List ℕ = 0 ∷ 0 ∷ 0 ∷ 0 ∷ to_le_bytes w32 (value / 2 ^ 32) in
    let there : nat_lt (length (second ++ rest)) 8 ≡ false = grind (arith, nat_tests) in
    let one : insn_at (slot_bytes (slot_of (insn.LoadWide dst value)) ++ (second ++ rest)) ≡ Ok (insn.LoadWide dst value) =
    by_parts form.LoadWide (slot_of (insn.LoadWide dst value)) (second ++ rest) (insn.LoadWide dst value) refl refl (reg_small dst d) (lit< tt) (lit< tt) low (rw (reg_low dst d) refl) refl (rw (there, four, whole) refl) in
    rw (append_assoc (slot_bytes (slot_of (insn.LoadWide dst value))) second rest) one

pub insn_again : (i : Insn) (rest : List ℕ) → is_well_formed i ≡ true → fits_fields i ≡ true → insn_at (spelling i ++ rest) ≡ Ok i
insn_again (insn.Alu wide op dst s) rest e f = alu_again wide op dst s rest (and_left (is_reg dst) (is_src s) e) (and_right (is_reg dst) (is_src s) e) f
insn_again (insn.MovSx wide width dst r) rest e f =
    let t = and_right (is_reg dst) (is_reg r && is_move_width wide width) e in
    movsx_again wide width dst r rest (and_left (is_reg dst) (is_reg r && is_move_width wide width) e) (and_left (is_reg r) (is_move_width wide width) t) (and_right (is_reg r) (is_move_width wide width) t)
insn_again (insn.Neg wide dst) rest e f = neg_again wide dst rest e
insn_again (insn.End o width dst) rest e f = end_again o width dst rest (and_left (is_reg dst) (is_end_width width) e) (and_right (is_reg dst) (is_end_width width) e)
insn_again (insn.Ja offset) rest e f = ja_again offset rest f
insn_again (insn.JaFar offset) rest e f = ja_far_again offset rest f
insn_again (insn.Jump wide c dst s offset) rest e f = jump_again wide c dst s offset rest (and_left (is_reg dst) (is_src s) e) (and_right (is_reg dst) (is_src s) e) (and_left (src_fits s) (fits16 offset) f) (and_right (src_fits s) (fits16 offset) f)
insn_again (insn.Call offset) rest e f = call_again offset rest f
insn_again insn.Exit rest e f = exit_again rest
insn_again (insn.Load s dst base offset) rest e f = load_again s dst base offset rest (and_left (is_reg dst) (is_reg base) e) (and_right (is_reg dst) (is_reg base) e) f
insn_again (insn.LoadSx size.Dw dst base offset) rest e f = absurd cc
insn_again (insn.LoadSx size.B dst base offset) rest e f = load_sx_again size.B dst base offset rest refl (and_left (is_reg dst) (is_reg base) e) (and_right (is_reg dst) (is_reg base) e) f
insn_again (insn.LoadSx size.H dst base offset) rest e f = load_sx_again size.H dst base offset rest refl (and_left (is_reg dst) (is_reg base) e) (and_right (is_reg dst) (is_reg base) e) f
insn_again (insn.LoadSx size.W dst base offset) rest e f = load_sx_again size.W dst base offset rest refl (and_left (is_reg dst) (is_reg base) e) (and_right (is_reg dst) (is_reg base) e) f
insn_again (insn.StoreImm s base offset k) rest e f = store_imm_again s base offset k rest e (and_left (fits16 offset) (fits32 k) f) (and_right (fits16 offset) (fits32 k) f)
insn_again (insn.StoreReg s base offset r) rest e f = store_reg_again s base offset r rest (and_left (is_reg base) (is_reg r) e) (and_right (is_reg base) (is_reg r) e) f
insn_again (insn.Atomic wide op fetch base offset r) rest e f =
    let t = and_right (is_reg base) (is_reg r && (fetch || not (is_exchange op))) e in
    atomic_insn_again wide op fetch base offset r rest (and_left (is_reg base) (is_reg r && (fetch || not (is_exchange op))) e) (and_left (is_reg r) (fetch || not (is_exchange op)) t) (and_right (is_reg r) (fetch || not (is_exchange op)) t) f
insn_again (insn.LoadWide dst value) rest e f = wide_load_again dst value rest e f
