-- What each instruction of a predicate's code does, step by step.
use Rattle.std.proofs.Common.{◌≡◌, ℕ, suc, ◌+◌, ◌-◌, ◌*◌, ◌%◌, ◌^◌, ◌<◌, ◌≤◌, ℤ, pos, negsuc, Bool, true, false, List, [], ◌∷◌, length, Option, Some, None, refl, sym, ap, ◌∙◌, arith}
use Rattle.std.specs.Prelude.{if◌then◌else◌}
use Rattle.sbpf_insn.specs.declared.insn.Insn.{Insn}
use Rattle.sbpf_insn.specs.declared.insn.Insn.TheVariants as insn
use Rattle.sbpf_insn.specs.declared.insn.Src.TheVariants as src
use Rattle.sbpf_insn.specs.declared.insn.Size.{Size}
use Rattle.sbpf_insn.specs.declared.insn.Size.TheVariants as size
use Rattle.sbpf_insn.specs.declared.insn.AluOp.TheVariants as op
use Rattle.sbpf_insn.specs.declared.insn.Cond.{Cond}
use Rattle.sbpf_insn.specs.declared.insn.Cond.TheVariants as test
use Rattle.sbpf_insn.specs.Cells.{at_slot}
use Rattle.sbpf_insn.specs.Machine.{State, Regions, Next, Goes, Done, step, step_at, act, load, store, loaded, stored, holds}
use Rattle.sbpf_exec.specs.Steps.{Reaches}
use Rattle.sbpf_exec.proofs.Runs.{reach_none, reach_more}
use Rattle.predicates.specs.declared.pred.PredCond.{PredCond}
use Rattle.predicates.specs.declared.pred.PredCond.TheVariants as is
use Rattle.predicates.specs.Select as select
use Rattle.pred_compile.specs.Generated.{written, context, field, value, place, rest, end, count, cond_of}

-- The registers of the code: r1 and r10 stay, r4 and r5 are not used.
abbrev pub held : (r0 r2 r3 r6 r7 r8 r9 : ℕ) → List ℕ
held r0 r2 r3 r6 r7 r8 r9 = r0 ∷ 0x100000000 ∷ r2 ∷ r3 ∷ 0 ∷ 0 ∷ r6 ∷ r7 ∷ r8 ∷ r9 ∷ 0x500000200 ∷ []

abbrev pub state : Regions → (s r0 r2 r3 r6 r7 r8 r9 : ℕ) → State
state m s r0 r2 r3 r6 r7 r8 r9 = record { registers = held r0 r2 r3 r6 r7 r8 r9; slot = s; frames = []; regions = m }

-- an instruction that goes on is one step
pub one : (code : List Insn) (m next : State) (i : Insn) → at_slot code m.slot ≡ Some i → act i m ≡ Goes next → Reaches 1 code m next
unfolding step
one code m next i at goes = reach_more 0 1 code m m next refl (reach_none 0 code m refl) (ap (λ (o : Option Insn). step_at o m) at ∙ goes)

module _ (m : Regions) (s r0 r2 r3 r6 r7 r8 r9 : ℕ) where
  abbrev here : State
  here = state m s r0 r2 r3 r6 r7 r8 r9

  -- ---- loads

  pub load_field : (size : Size) (off v : ℕ) → s < 2 ^ 31 → load m 0x500000200 ((r6 + off) % 2 ^ 64) size ≡ Some v → act (insn.Load size field place (pos off)) here ≡ Goes (state m (s + 1) r0 v r3 r6 r7 r8 r9)
  load_field size off v small e =
      let t : (s + 1) % 2 ^ 32 ≡ s + 1 = omega arith in
      ap (λ (o : Option ℕ). loaded here field ((r6 + off) % 2 ^ 64) size (λ x. x) o) e ∙ ap (λ (k : ℕ). Goes (state m k r0 v r3 r6 r7 r8 r9)) t

  pub load_place : (v : ℕ) → s < 2 ^ 31 → load m 0x500000200 0x100000000 size.Dw ≡ Some v → act (insn.Load size.Dw place context (pos 0)) here ≡ Goes (state m (s + 1) r0 r2 r3 v r7 r8 r9)
  load_place v small e =
      let t : (s + 1) % 2 ^ 32 ≡ s + 1 = omega arith in
      ap (λ (o : Option ℕ). loaded here place 0x100000000 size.Dw (λ x. x) o) e ∙ ap (λ (k : ℕ). Goes (state m k r0 r2 r3 v r7 r8 r9)) t

  pub load_rest : (v : ℕ) → s < 2 ^ 31 → load m 0x500000200 0x100000008 size.Dw ≡ Some v → act (insn.Load size.Dw rest context (pos 8)) here ≡ Goes (state m (s + 1) r0 r2 r3 r6 v r8 r9)
  load_rest v small e =
      let t : (s + 1) % 2 ^ 32 ≡ s + 1 = omega arith in
      ap (λ (o : Option ℕ). loaded here rest 0x100000008 size.Dw (λ x. x) o) e ∙ ap (λ (k : ℕ). Goes (state m k r0 r2 r3 r6 v r8 r9)) t

  pub load_end : (v : ℕ) → s < 2 ^ 31 → load m 0x500000200 0x100000010 size.Dw ≡ Some v → act (insn.Load size.Dw end context (pos 16)) here ≡ Goes (state m (s + 1) r0 r2 r3 r6 r7 v r9)
  load_end v small e =
      let t : (s + 1) % 2 ^ 32 ≡ s + 1 = omega arith in
      ap (λ (o : Option ℕ). loaded here end 0x100000010 size.Dw (λ x. x) o) e ∙ ap (λ (k : ℕ). Goes (state m k r0 r2 r3 r6 r7 v r9)) t

  pub load_value : (v : ℕ) → s < 2 ^ 31 → act (insn.LoadWide value v) here ≡ Goes (state m (s + 2) r0 r2 v r6 r7 r8 r9)
  load_value v small =
      let t : (s + 2) % 2 ^ 32 ≡ s + 2 = omega arith in
      ap (λ (k : ℕ). Goes (state m k r0 r2 v r6 r7 r8 r9)) t

  -- ---- a store

  pub store_count : (m' : Regions) → s < 2 ^ 31 → store m 0x500000200 ((r8 + 0) % 2 ^ 64) size.W r9 ≡ Some m' → act (insn.StoreReg size.W end (pos 0) count) here ≡ Goes (state m' (s + 1) r0 r2 r3 r6 r7 r8 r9)
  store_count m' small e =
      let t : (s + 1) % 2 ^ 32 ≡ s + 1 = omega arith in
      ap (λ (o : Option Regions). stored here ((r8 + 0) % 2 ^ 64) size.W o) e ∙ ap (λ (k : ℕ). Goes (state m' k r0 r2 r3 r6 r7 r8 r9)) t

  -- ---- sums and a difference

  pub add_written : (n : ℕ) → s < 2 ^ 31 → r0 + n < 2 ^ 64 → act (insn.Alu true op.Add written (src.Imm (pos n))) here ≡ Goes (state m (s + 1) (r0 + n) r2 r3 r6 r7 r8 r9)
  add_written n small fits =
      let t : (s + 1) % 2 ^ 32 ≡ s + 1 = omega arith in
      let v : (r0 + n) % 2 ^ 64 ≡ r0 + n = omega arith in
      ap (λ (k : ℕ). Goes (state m k ((r0 + n) % 2 ^ 64) r2 r3 r6 r7 r8 r9)) t ∙ ap (λ (x : ℕ). Goes (state m (s + 1) x r2 r3 r6 r7 r8 r9)) v

  pub add_place : (n : ℕ) → s < 2 ^ 31 → r6 + n < 2 ^ 64 → act (insn.Alu true op.Add place (src.Imm (pos n))) here ≡ Goes (state m (s + 1) r0 r2 r3 (r6 + n) r7 r8 r9)
  add_place n small fits =
      let t : (s + 1) % 2 ^ 32 ≡ s + 1 = omega arith in
      let v : (r6 + n) % 2 ^ 64 ≡ r6 + n = omega arith in
      ap (λ (k : ℕ). Goes (state m k r0 r2 r3 ((r6 + n) % 2 ^ 64) r7 r8 r9)) t ∙ ap (λ (x : ℕ). Goes (state m (s + 1) r0 r2 r3 x r7 r8 r9)) v

  pub add_end : (n : ℕ) → s < 2 ^ 31 → r8 + n < 2 ^ 64 → act (insn.Alu true op.Add end (src.Imm (pos n))) here ≡ Goes (state m (s + 1) r0 r2 r3 r6 r7 (r8 + n) r9)
  add_end n small fits =
      let t : (s + 1) % 2 ^ 32 ≡ s + 1 = omega arith in
      let v : (r8 + n) % 2 ^ 64 ≡ r8 + n = omega arith in
      ap (λ (k : ℕ). Goes (state m k r0 r2 r3 r6 r7 ((r8 + n) % 2 ^ 64) r9)) t ∙ ap (λ (x : ℕ). Goes (state m (s + 1) r0 r2 r3 r6 r7 x r9)) v

  pub add_count : (n : ℕ) → s < 2 ^ 31 → r9 + n < 2 ^ 64 → act (insn.Alu true op.Add count (src.Imm (pos n))) here ≡ Goes (state m (s + 1) r0 r2 r3 r6 r7 r8 (r9 + n))
  add_count n small fits =
      let t : (s + 1) % 2 ^ 32 ≡ s + 1 = omega arith in
      let v : (r9 + n) % 2 ^ 64 ≡ r9 + n = omega arith in
      ap (λ (k : ℕ). Goes (state m k r0 r2 r3 r6 r7 r8 ((r9 + n) % 2 ^ 64))) t ∙ ap (λ (x : ℕ). Goes (state m (s + 1) r0 r2 r3 r6 r7 r8 x)) v

  pub sub_rest : (n : ℕ) → s < 2 ^ 31 → n ≤ r7 → r7 < 2 ^ 64 → act (insn.Alu true op.Sub rest (src.Imm (pos n))) here ≡ Goes (state m (s + 1) r0 r2 r3 r6 (r7 - n) r8 r9)
  sub_rest n small le fits =
      let t : (s + 1) % 2 ^ 32 ≡ s + 1 = omega arith in
      let v : (r7 + (2 ^ 64 - n)) % 2 ^ 64 ≡ r7 - n = omega arith in
      ap (λ (k : ℕ). Goes (state m k r0 r2 r3 r6 ((r7 + (2 ^ 64 - n)) % 2 ^ 64) r8 r9)) t ∙ ap (λ (x : ℕ). Goes (state m (s + 1) r0 r2 r3 r6 x r8 r9)) v

  -- ---- jumps

  pub go_forward : (n : ℕ) → s < 2 ^ 31 → n < 2 ^ 31 → act (insn.Ja (pos n)) here ≡ Goes (state m (s + 1 + n) r0 r2 r3 r6 r7 r8 r9)
  go_forward n small short =
      let t : (s + 1 + n) % 2 ^ 32 ≡ s + 1 + n = omega arith in
      ap (λ (k : ℕ). Goes (state m k r0 r2 r3 r6 r7 r8 r9)) t

  pub go_back : (n to : ℕ) → s < 2 ^ 31 → s + 1 ≡ to + suc n → act (insn.Ja (negsuc n)) here ≡ Goes (state m to r0 r2 r3 r6 r7 r8 r9)
  go_back n to small e =
      let t : (s + 1 + (2 ^ 32 - suc n)) % 2 ^ 32 ≡ to = omega arith in
      ap (λ (k : ℕ). Goes (state m k r0 r2 r3 r6 r7 r8 r9)) t

  -- a taken jump goes n slots on, another to the next slot
  abbrev to_of : Bool → ℕ → ℕ
  to_of taken n = if taken then s + 1 + n else s + 1

  jumped_to : (taken : Bool) (n : ℕ) → s < 2 ^ 31 → n < 2 ^ 31 → (if taken then (s + 1 + n) % 2 ^ 32 else (s + 1) % 2 ^ 32) ≡ to_of taken n
  jumped_to true n small short = omega arith
  jumped_to false n small short = omega arith

  same_test : (c : PredCond) (a b : ℕ) → holds true (cond_of c) a b ≡ select.holds c a b
  same_test is.Eq a b = refl
  same_test is.Ne a b = refl
  same_test is.Gt a b = refl
  same_test is.Ge a b = refl
  same_test is.Lt a b = refl
  same_test is.Le a b = refl

  pub compare_field : (c : PredCond) (n : ℕ) (taken : Bool) → s < 2 ^ 31 → n < 2 ^ 31 → select.holds c r2 r3 ≡ taken → act (insn.Jump true (cond_of c) field (src.Reg value) (pos n)) here ≡ Goes (state m (to_of taken n) r0 r2 r3 r6 r7 r8 r9)
  compare_field c n taken small short e =
      ap (λ (b : Bool). Goes (state m (if b then (s + 1 + n) % 2 ^ 32 else (s + 1) % 2 ^ 32) r0 r2 r3 r6 r7 r8 r9)) (same_test c r2 r3 ∙ e)
      ∙ ap (λ (k : ℕ). Goes (state m k r0 r2 r3 r6 r7 r8 r9)) (jumped_to taken n small short)

  pub compare_number : (c : PredCond) (v n : ℕ) (taken : Bool) → s < 2 ^ 31 → n < 2 ^ 31 → select.holds c r2 v ≡ taken → act (insn.Jump true (cond_of c) field (src.Imm (pos v)) (pos n)) here ≡ Goes (state m (to_of taken n) r0 r2 r3 r6 r7 r8 r9)
  compare_number c v n taken small short e =
      ap (λ (b : Bool). Goes (state m (if b then (s + 1 + n) % 2 ^ 32 else (s + 1) % 2 ^ 32) r0 r2 r3 r6 r7 r8 r9)) (same_test c r2 v ∙ e)
      ∙ ap (λ (k : ℕ). Goes (state m k r0 r2 r3 r6 r7 r8 r9)) (jumped_to taken n small short)

  pub compare_rest : (w n : ℕ) (taken : Bool) → s < 2 ^ 31 → n < 2 ^ 31 → select.holds is.Lt r7 w ≡ taken → act (insn.Jump true test.Jlt rest (src.Imm (pos w)) (pos n)) here ≡ Goes (state m (to_of taken n) r0 r2 r3 r6 r7 r8 r9)
  compare_rest w n taken small short e =
      ap (λ (b : Bool). Goes (state m (if b then (s + 1 + n) % 2 ^ 32 else (s + 1) % 2 ^ 32) r0 r2 r3 r6 r7 r8 r9)) e
      ∙ ap (λ (k : ℕ). Goes (state m k r0 r2 r3 r6 r7 r8 r9)) (jumped_to taken n small short)
