-- Runs of a predicate's code: a comparison, a predicate, a record, all records, and the whole.
use Rattle.std.proofs.Common.{◌≡◌, ℕ, zero, suc, ◌+◌, ◌-◌, ◌*◌, ◌/◌, ◌%◌, ◌^◌, ◌<◌, ◌≤◌, ℤ, pos, negsuc, Bool, true, false, cond, List, [], ◌∷◌, ◌++◌, length, take, drop, Option, Some, None, refl, sym, ap, ◌∙◌, arith, subst, length-append, append_assoc, zero-add}
use Rattle.std.proofs.Math.Nat.{div-mul-le_self, div-le_self, mod-eq-sub-div-mul, mul-le-mul_left, mul-le-mul_right}
use Rattle.std.specs.Prelude.{slice_index, not, ◌&&◌, ◌||◌, nat_lt, if◌then◌else◌}
use Rattle.std.specs.List.{list_all, filter, range_with_len}
use Rattle.std.proofs.lemmas.Bool.Decides.{nat_tests}
use Rattle.std.proofs.lemmas.List.{append-nil}
use Rattle.sbpf_insn.specs.declared.insn.Insn.{Insn}
use Rattle.sbpf_insn.specs.declared.insn.Insn.TheVariants as insn
use Rattle.sbpf_insn.specs.declared.insn.Size.TheVariants as size
use Rattle.sbpf_insn.specs.Decoded.{slots_of}
use Rattle.sbpf_insn.specs.Cells.{slots, at_slot}
use Rattle.sbpf_insn.specs.Machine.{State, Regions, Next, Goes, Done, Outcome, Ended, step, step_at, after, run_from, run, start, shaped, load, store, leave, Frame}
use Rattle.sbpf_exec.specs.Steps.{Reaches}
use Rattle.sbpf_exec.proofs.Runs.{reach_none, reach_both}
use Rattle.predicates.specs.declared.pred.PredCond.{PredCond}
use Rattle.predicates.specs.declared.pred.PredCond.TheVariants as is
use Rattle.predicates.specs.declared.pred.Pred.{Pred, Cmp, And', Or', Not', more_of-Pred, end_of-Pred}
use Rattle.predicates.specs.Nodes.{preorder, nodes}
use Rattle.predicates.specs.Fields.{is_sound, is_field, fields_fit}
use Rattle.predicates.specs.Select as select
use Rattle.predicates.specs.Select.{field, satisfies, records, record_at, is_selected}
use Rattle.predicates.proofs.FieldLaws.{both_all}
use Rattle.pred_compile.specs.Generated.{is_short, slots_where, code_slots, cond_of, size_of, cmp_where, pred_code, opening, record_test, taking, going_on, ending}
use Rattle.pred_compile.specs.Promise.{EndsWith, listed, enough_fuel}
use Rattle.pred_compile.proofs.Places.{HasAt, has_front, has_moved}
use Rattle.pred_compile.proofs.Lands.{Parts, second_at, slots-pred_code}
use Rattle.pred_compile.proofs.Moves as moves
use Rattle.pred_compile.proofs.Moves.{state, one}
use Rattle.pred_compile.proofs.Memory.{lent, output_with, length-output_with, field_loaded, input_loaded, length_loaded, output_loaded, count_stored}

-- ---- so many steps or fewer, to a state that is known but for r2 and r3

pub record Gets (code : List Insn) (limit : ℕ) (m : State) (goal : ℕ → ℕ → State) : Type 0 where
  pub steps : ℕ
  pub r2 : ℕ
  pub r3 : ℕ
  pub within : steps ≤ limit
  pub reach : Reaches steps code m (goal r2 r3)

gets : (code : List Insn) (limit n r2 r3 : ℕ) (m : State) (goal : ℕ → ℕ → State) → n ≤ limit → Reaches n code m (goal r2 r3) → Gets code limit m goal
gets code limit n r2 r3 m goal le reach = record { steps = n; r2 = r2; r3 = r3; within = le; reach = reach }

gets_then : (code : List Insn) (k l limit : ℕ) (m : State) (g h : ℕ → ℕ → State) → k + l ≤ limit → Gets code k m g → ((r2 r3 : ℕ) → Gets code l (g r2 r3) h) → Gets code limit m h
gets_then code k l limit m g h le x f =
    let y = f x.r2 x.r3 in
    record {
      steps = x.steps + y.steps;
      r2 = y.r2;
      r3 = y.r3;
      within = omega (arith, x.within, y.within);
      reach = reach_both x.steps y.steps (x.steps + y.steps) code m (g x.r2 x.r3) (h y.r2 y.r3) refl x.reach y.reach;
    }

gets_wider : (code : List Insn) (k l : ℕ) (m : State) (g : ℕ → ℕ → State) → k ≤ l → Gets code k m g → Gets code l m g
gets_wider code k l m g le x = gets code l x.steps x.r2 x.r3 m g (omega (arith, x.within)) x.reach

gets_as : (code : List Insn) (l : ℕ) (m : State) (g h : ℕ → ℕ → State) → ((r2 r3 : ℕ) → g r2 r3 ≡ h r2 r3) → Gets code l m g → Gets code l m h
gets_as code l m g h same x =
    gets code l x.steps x.r2 x.r3 m h x.within (subst (λ (t : State). Reaches x.steps code m t) (same x.r2 x.r3) x.reach)

two_steps : (code : List Insn) (a b c : State) → Reaches 1 code a b → Reaches 1 code b c → Reaches 2 code a c
two_steps code a b c x y = reach_both 1 1 2 code a b c refl x y

three_steps : (code : List Insn) (a b c d : State) → Reaches 1 code a b → Reaches 1 code b c → Reaches 1 code c d → Reaches 3 code a d
three_steps code a b c d x y z = reach_both 2 1 3 code a c d refl (two_steps code a b c x y) z

four_steps : (code : List Insn) (a b c d e : State) → Reaches 1 code a b → Reaches 1 code b c → Reaches 1 code c d → Reaches 1 code d e → Reaches 4 code a e
four_steps code a b c d e w x y z = reach_both 3 1 4 code a d e refl (three_steps code a b c d w x y) z

-- ---- a predicate over one record, which begins at a place of the input

-- where control goes from the end of a predicate's code
abbrev to_of : Bool → ℕ → ℕ → ℕ → ℕ
to_of sat e t f = if sat then e + t else e + f

module _ (code : List Insn) (m : Regions) (w : ℕ) (bytes : List ℕ) (r0 r6 r7 r8 r9 : ℕ) where
  abbrev at : ℕ → ℕ → ℕ → State
  at s r2 r3 = state m s r0 r2 r3 r6 r7 r8 r9

  abbrev Leads : ℕ → ℕ → ℕ → Type 0
  Leads limit s to = (r2 r3 : ℕ) → Gets code limit (at s r2 r3) (at to)

  leads_to : (limit s to to2 : ℕ) → to ≡ to2 → Leads limit s to → Leads limit s to2
  leads_to limit s to to2 e x = subst (Leads limit s) e x

  and_leads : (x y : Bool) (k l limit s e d n t f : ℕ) → k + l ≤ limit → e ≡ d → Leads k s (to_of x e 0 (n + f)) → Leads l d (to_of y (d + n) t f) → Leads limit s (to_of (x && y) (d + n) t f)
  and_leads true y k l limit s e d n t f le same a b = λ r2 r3.
      let go : e + 0 ≡ d = omega (arith, same) in
      gets_then code k l limit (at s r2 r3) (at d) (at (to_of y (d + n) t f)) le (leads_to k s (e + 0) d go a r2 r3) b
  and_leads false y k l limit s e d n t f le same a b = λ r2 r3.
      let go : e + (n + f) ≡ d + n + f = omega (arith, same) in
      gets_wider code k limit (at s r2 r3) (at (d + n + f)) (omega (arith, le)) (leads_to k s (e + (n + f)) (d + n + f) go a r2 r3)

  or_leads : (x y : Bool) (k l limit s e d n t f : ℕ) → k + l ≤ limit → e ≡ d → Leads k s (to_of x e (n + t) 0) → Leads l d (to_of y (d + n) t f) → Leads limit s (to_of (x || y) (d + n) t f)
  or_leads true y k l limit s e d n t f le same a b = λ r2 r3.
      let go : e + (n + t) ≡ d + n + t = omega (arith, same) in
      gets_wider code k limit (at s r2 r3) (at (d + n + t)) (omega (arith, le)) (leads_to k s (e + (n + t)) (d + n + t) go a r2 r3)
  or_leads false y k l limit s e d n t f le same a b = λ r2 r3.
      let go : e + 0 ≡ d = omega (arith, same) in
      gets_then code k l limit (at s r2 r3) (at d) (at (to_of y (d + n) t f)) le (leads_to k s (e + 0) d go a r2 r3) b

  not_leads : (x : Bool) (k limit s e t f : ℕ) → k ≤ limit → Leads k s (to_of x e f t) → Leads limit s (to_of (not x) e t f)
  not_leads true k limit s e t f le a = λ r2 r3. gets_wider code k limit (at s r2 r3) (at (e + f)) le (a r2 r3)
  not_leads false k limit s e t f le a = λ r2 r3. gets_wider code k limit (at s r2 r3) (at (e + t)) le (a r2 r3)

  -- what the record's fields load
  abbrev Loads : Type 0
  Loads = (off n : ℕ) → is_field w off n ≡ true → load m 0x500000200 ((r6 + off) % 2 ^ 64) (size_of n) ≡ Some (field bytes off n)

  cmp_leads : Loads → (short : Bool) (c : PredCond) (off n v s t f : ℕ) (sat : Bool) → HasAt code s (cmp_where short c off n v t f) → is_field w off n ≡ true → select.holds c (field bytes off n) v ≡ sat → s + slots_where short + t < 2 ^ 30 → s + slots_where short + f < 2 ^ 30 → Leads 4 s (to_of sat (s + slots_where short) t f)
  cmp_leads loads true c off n v s t f true has is holds ht hf = λ r2 r3.
      let x = field bytes off n in
      let one1 : Reaches 1 code (at s r2 r3) (at (s + 1) x r3) = one code _ _ _ has.0 (moves.load_field m s r0 r2 r3 r6 r7 r8 r9 (size_of n) off x (omega arith) (loads off n is)) in
      let one2 : Reaches 1 code (at (s + 1) x r3) (at (s + 1 + 1 + (t + 1)) x r3) = one code _ _ _ has.1.0 (moves.compare_number m (s + 1) r0 x r3 r6 r7 r8 r9 c v (t + 1) true (omega arith) (omega arith) holds) in
      let e : s + 1 + 1 + (t + 1) ≡ s + 3 + t = omega arith in
      gets code 4 2 x r3 (at s r2 r3) (at (s + 3 + t)) (omega arith) (subst (λ (k : ℕ). Reaches 2 code (at s r2 r3) (at k x r3)) e (two_steps code _ _ _ one1 one2))
  cmp_leads loads true c off n v s t f false has is holds ht hf = λ r2 r3.
      let x = field bytes off n in
      let one1 : Reaches 1 code (at s r2 r3) (at (s + 1) x r3) = one code _ _ _ has.0 (moves.load_field m s r0 r2 r3 r6 r7 r8 r9 (size_of n) off x (omega arith) (loads off n is)) in
      let one2 : Reaches 1 code (at (s + 1) x r3) (at (s + 1 + 1) x r3) = one code _ _ _ has.1.0 (moves.compare_number m (s + 1) r0 x r3 r6 r7 r8 r9 c v (t + 1) false (omega arith) (omega arith) holds) in
      let one3 : Reaches 1 code (at (s + 1 + 1) x r3) (at (s + 1 + 1 + 1 + f) x r3) = one code _ _ _ has.1.1.0 (moves.go_forward m (s + 1 + 1) r0 x r3 r6 r7 r8 r9 f (omega arith) (omega arith)) in
      let e : s + 1 + 1 + 1 + f ≡ s + 3 + f = omega arith in
      gets code 4 3 x r3 (at s r2 r3) (at (s + 3 + f)) (omega arith) (subst (λ (k : ℕ). Reaches 3 code (at s r2 r3) (at k x r3)) e (three_steps code _ _ _ _ one1 one2 one3))
  cmp_leads loads false c off n v s t f true has is holds ht hf = λ r2 r3.
      let x = field bytes off n in
      let one1 : Reaches 1 code (at s r2 r3) (at (s + 1) x r3) = one code _ _ _ has.0 (moves.load_field m s r0 r2 r3 r6 r7 r8 r9 (size_of n) off x (omega arith) (loads off n is)) in
      let one2 : Reaches 1 code (at (s + 1) x r3) (at (s + 1 + 2) x v) = one code _ _ _ has.1.0 (moves.load_value m (s + 1) r0 x r3 r6 r7 r8 r9 v (omega arith)) in
      let one3 : Reaches 1 code (at (s + 1 + 2) x v) (at (s + 1 + 2 + 1 + (t + 1)) x v) = one code _ _ _ has.1.1.0 (moves.compare_field m (s + 1 + 2) r0 x v r6 r7 r8 r9 c (t + 1) true (omega arith) (omega arith) holds) in
      let e : s + 1 + 2 + 1 + (t + 1) ≡ s + 5 + t = omega arith in
      gets code 4 3 x v (at s r2 r3) (at (s + 5 + t)) (omega arith) (subst (λ (k : ℕ). Reaches 3 code (at s r2 r3) (at k x v)) e (three_steps code _ _ _ _ one1 one2 one3))
  cmp_leads loads false c off n v s t f false has is holds ht hf = λ r2 r3.
      let x = field bytes off n in
      let one1 : Reaches 1 code (at s r2 r3) (at (s + 1) x r3) = one code _ _ _ has.0 (moves.load_field m s r0 r2 r3 r6 r7 r8 r9 (size_of n) off x (omega arith) (loads off n is)) in
      let one2 : Reaches 1 code (at (s + 1) x r3) (at (s + 1 + 2) x v) = one code _ _ _ has.1.0 (moves.load_value m (s + 1) r0 x r3 r6 r7 r8 r9 v (omega arith)) in
      let one3 : Reaches 1 code (at (s + 1 + 2) x v) (at (s + 1 + 2 + 1) x v) = one code _ _ _ has.1.1.0 (moves.compare_field m (s + 1 + 2) r0 x v r6 r7 r8 r9 c (t + 1) false (omega arith) (omega arith) holds) in
      let one4 : Reaches 1 code (at (s + 1 + 2 + 1) x v) (at (s + 1 + 2 + 1 + 1 + f) x v) = one code _ _ _ has.1.1.1.0 (moves.go_forward m (s + 1 + 2 + 1) r0 x v r6 r7 r8 r9 f (omega arith) (omega arith)) in
      let e : s + 1 + 2 + 1 + 1 + f ≡ s + 5 + f = omega arith in
      gets code 4 4 x v (at s r2 r3) (at (s + 5 + f)) (omega arith) (subst (λ (k : ℕ). Reaches 4 code (at s r2 r3) (at k x v)) e (four_steps code _ _ _ _ _ one1 one2 one3 one4))

  left_true : (x y : Bool) → (x && y) ≡ true → x ≡ true
  left_true true y e = refl
  left_true false y e = absurd cc

  leads_from : (limit s n k : ℕ) (sat : Bool) (t f : ℕ) → s + n ≡ k → Leads limit s (to_of sat (s + n) t f) → Leads limit s (to_of sat k t f)
  leads_from limit s n k sat t f e x = subst (λ (j : ℕ). Leads limit s (to_of sat j t f)) e x

  pred_leads : Loads → (p : Pred) (s t f : ℕ) → HasAt code s (pred_code p t f) → fields_fit p w ≡ true → s + code_slots p + t < 2 ^ 30 → s + code_slots p + f < 2 ^ 30 → Leads (4 * nodes p) s (to_of (satisfies p bytes) (s + code_slots p) t f)
  pred_leads loads (Cmp c off n v) s t f has fit ht hf = cmp_leads loads (is_short v) c off n v s t f (select.holds c (field bytes off n) v) has (left_true (is_field w off n) true fit) refl ht hf
  pred_leads loads (And' z (more_of-Pred a end_of-Pred) z' (more_of-Pred b end_of-Pred)) s t f has fit ht hf =
      let na = code_slots a in
      let nb = code_slots b in
      let ca = pred_code a 0 (nb + f) in
      let cb = pred_code b t f in
      let two = both_all w a b fit in
      let xa = pred_leads loads a s 0 (nb + f) (has_front code s ca cb has) two.0 (omega (arith, ht)) (omega (arith, hf)) in
      let xb = pred_leads loads b (s + na) t f (second_at code s na ca cb (slots-pred_code a 0 (nb + f)) has) two.1 (omega (arith, ht)) (omega (arith, hf)) in
      let e : s + na + nb ≡ s + (na + nb) = omega arith in
      let more = length-append (preorder a) (preorder b) in
      subst (λ (j : ℕ). Leads (4 * suc (length (preorder a ++ preorder b))) s (to_of (satisfies a bytes && satisfies b bytes) j t f)) e
      (and_leads (satisfies a bytes) (satisfies b bytes) (4 * nodes a) (4 * nodes b) (4 * suc (length (preorder a ++ preorder b))) s (s + na) (s + na) nb t f (omega (arith, more)) refl xa xb)
  pred_leads loads (Or' z (more_of-Pred a end_of-Pred) z' (more_of-Pred b end_of-Pred)) s t f has fit ht hf =
      let na = code_slots a in
      let nb = code_slots b in
      let ca = pred_code a (nb + t) 0 in
      let cb = pred_code b t f in
      let two = both_all w a b fit in
      let xa = pred_leads loads a s (nb + t) 0 (has_front code s ca cb has) two.0 (omega (arith, ht)) (omega (arith, hf)) in
      let xb = pred_leads loads b (s + na) t f (second_at code s na ca cb (slots-pred_code a (nb + t) 0) has) two.1 (omega (arith, ht)) (omega (arith, hf)) in
      let e : s + na + nb ≡ s + (na + nb) = omega arith in
      let more = length-append (preorder a) (preorder b) in
      subst (λ (j : ℕ). Leads (4 * suc (length (preorder a ++ preorder b))) s (to_of (satisfies a bytes || satisfies b bytes) j t f)) e
      (or_leads (satisfies a bytes) (satisfies b bytes) (4 * nodes a) (4 * nodes b) (4 * suc (length (preorder a ++ preorder b))) s (s + na) (s + na) nb t f (omega (arith, more)) refl xa xb)
  pred_leads loads (Not' z (more_of-Pred a end_of-Pred)) s t f has fit ht hf =
      not_leads (satisfies a bytes) (4 * nodes a) (4 * suc (length (preorder a))) s (s + code_slots a) t f (omega arith) (pred_leads loads a s f t has fit hf ht)

-- ---- the parts around the predicate

opens : (code : List Insn) (input output now : List ℕ) → length input ≤ 2 ^ 32 → length now ≤ 2 ^ 32 → HasAt code 0 opening → Reaches 3 code (state (lent input output now) 0 0 0 0 0 0 0 0) (state (lent input output now) 3 0 0 0 0x200000000 (length input) 0x300000000 0)
opens code input output now a b has =
    let m = lent input output now in
    three_steps code _ _ _ _
    (one code _ _ _ has.0 (moves.load_place m 0 0 0 0 0 0 0 0 0x200000000 (omega arith) (input_loaded input output now a b)))
    (one code _ _ _ has.1.0 (moves.load_rest m 1 0 0 0 0x200000000 0 0 0 (length input) (omega arith) (length_loaded input output now a b)))
    (one code _ _ _ has.1.1.0 (moves.load_end m 2 0 0 0 0x200000000 (length input) 0 0 0x300000000 (omega arith) (output_loaded input output now a b)))

takes : (code : List Insn) (m m2 : Regions) (n r0 r2 r3 r6 r7 r8 r9 : ℕ) → HasAt code (4 + n) taking → n < 2 ^ 20 → r0 + 4 < 2 ^ 64 → r8 + 4 < 2 ^ 64 → store m 0x500000200 ((r8 + 0) % 2 ^ 64) size.W r9 ≡ Some m2 → Reaches 3 code (state m (4 + n) r0 r2 r3 r6 r7 r8 r9) (state m2 (7 + n) (r0 + 4) r2 r3 r6 r7 (r8 + 4) r9)
takes code m m2 n r0 r2 r3 r6 r7 r8 r9 has small f0 f8 stored =
    let e : 4 + n + 1 + 1 + 1 ≡ 7 + n = omega arith in
    subst (λ (s : ℕ). Reaches 3 code (state m (4 + n) r0 r2 r3 r6 r7 r8 r9) (state m2 s (r0 + 4) r2 r3 r6 r7 (r8 + 4) r9)) e
    (three_steps code _ _ _ _
    (one code _ _ _ has.0 (moves.store_count m (4 + n) r0 r2 r3 r6 r7 r8 r9 m2 (omega arith) stored))
    (one code _ _ _ has.1.0 (moves.add_end m2 (4 + n + 1) r0 r2 r3 r6 r7 r8 r9 4 (omega arith) f8))
    (one code _ _ _ has.1.1.0 (moves.add_written m2 (4 + n + 1 + 1) r0 r2 r3 r6 r7 (r8 + 4) r9 4 (omega arith) f0)))

goes_on : (code : List Insn) (m : Regions) (n w r0 r2 r3 r6 r7 r8 r9 : ℕ) → HasAt code (7 + n) (going_on n w) → n < 2 ^ 20 → r9 + 1 < 2 ^ 64 → r6 + w < 2 ^ 64 → w ≤ r7 → r7 < 2 ^ 64 → Reaches 4 code (state m (7 + n) r0 r2 r3 r6 r7 r8 r9) (state m 3 r0 r2 r3 (r6 + w) (r7 - w) r8 (r9 + 1))
goes_on code m n w r0 r2 r3 r6 r7 r8 r9 has small f9 f6 le f7 =
    four_steps code _ _ _ _ _
    (one code _ _ _ has.0 (moves.add_count m (7 + n) r0 r2 r3 r6 r7 r8 r9 1 (omega arith) f9))
    (one code _ _ _ has.1.0 (moves.add_place m (7 + n + 1) r0 r2 r3 r6 r7 r8 (r9 + 1) w (omega arith) f6))
    (one code _ _ _ has.1.1.0 (moves.sub_rest m (7 + n + 1 + 1) r0 r2 r3 (r6 + w) r7 r8 (r9 + 1) w (omega arith) le f7))
    (one code _ _ _ has.1.1.1.0 (moves.go_back m (7 + n + 1 + 1 + 1) r0 r2 r3 (r6 + w) (r7 - w) r8 (r9 + 1) (n + 7) 3 (omega arith) (omega arith)))

-- ---- records

-- what holds of a whole run
pub record Setting (code : List Insn) (p : Pred) (w : ℕ) (input output : List ℕ) : Type 0 where
  pub has : Parts code p w (code_slots p)
  pub short_code : code_slots p ≤ 1000
  pub fit : fields_fit p w ≡ true
  pub some : 1 ≤ w
  pub short : w ≤ 4096
  pub input_short : length input ≤ 2 ^ 32
  pub output_short : length output ≤ 2 ^ 32
  pub room : 4 * records w input ≤ length output

-- before the record of number i, where those in `done` are selected so far; it begins at a place of the input
abbrev pub before : List ℕ → List ℕ → List ℕ → (i at r2 r3 : ℕ) → State
before input output done i at r2 r3 =
    state (lent input output (output_with done output)) 3 (4 * length done) r2 r3 (0x200000000 + at) (length input - at) (0x300000000 + 4 * length done) i

after_one : List ℕ → ℕ → Bool → List ℕ
after_one done i sat = if sat then done ++ i ∷ [] else done

-- the way from the end of the predicate's code to the next record
lists : (code : List Insn) (p : Pred) (w : ℕ) (input output done : List ℕ) (i at r2 r3 : ℕ) → Setting code p w input output → at + w ≤ length input → 4 * length done + 4 ≤ length output → i < 2 ^ 32 → Reaches 7 code (state (lent input output (output_with done output)) (4 + code_slots p) (4 * length done) r2 r3 (0x200000000 + at) (length input - at) (0x300000000 + 4 * length done) i) (before input output (done ++ i ∷ []) (i + 1) (at + w) r2 r3)
lists code p w input output done i at r2 r3 ok fits room small =
    let n = code_slots p in
    let m = lent input output (output_with done output) in
    let m2 = lent input output (output_with (done ++ i ∷ []) output) in
    let k = 4 * length done in
    let more : k + 4 ≡ 4 * length (done ++ i ∷ []) = omega (arith, length-append done (i ∷ [])) in
    let far : 0x300000000 + k + 4 ≡ 0x300000000 + 4 * length (done ++ i ∷ []) = omega (arith, more) in
    let place : 0x200000000 + at + w ≡ 0x200000000 + (at + w) = omega arith in
    let left : length input - at - w ≡ length input - (at + w) = omega arith in
    let first = takes code m m2 n k r2 r3 (0x200000000 + at) (length input - at) (0x300000000 + k) i ok.has.takes (omega (arith, ok.short_code)) (omega (arith, room, ok.output_short)) (omega (arith, room, ok.output_short)) (count_stored input output done i ok.input_short ok.output_short room small) in
    let second = goes_on code m2 n w (k + 4) r2 r3 (0x200000000 + at) (length input - at) (0x300000000 + k + 4) i ok.has.goes (omega (arith, ok.short_code)) (omega arith) (omega (arith, fits, ok.input_short)) (omega (arith, fits)) (omega (arith, ok.input_short)) in
    let all = reach_both 3 4 7 code _ _ _ refl first second in
    let same : state m2 3 (k + 4) r2 r3 (0x200000000 + at + w) (length input - at - w) (0x300000000 + k + 4) (i + 1) ≡ before input output (done ++ i ∷ []) (i + 1) (at + w) r2 r3 = rw (more, far, place, left) refl in
    subst (λ (s : State). Reaches 7 code (state m (4 + n) k r2 r3 (0x200000000 + at) (length input - at) (0x300000000 + k) i) s) same all

passes : (code : List Insn) (p : Pred) (w : ℕ) (input output done : List ℕ) (i at r2 r3 : ℕ) → Setting code p w input output → at + w ≤ length input → i < 2 ^ 32 → Reaches 4 code (state (lent input output (output_with done output)) (7 + code_slots p) (4 * length done) r2 r3 (0x200000000 + at) (length input - at) (0x300000000 + 4 * length done) i) (before input output done (i + 1) (at + w) r2 r3)
passes code p w input output done i at r2 r3 ok fits small =
    let n = code_slots p in
    let m = lent input output (output_with done output) in
    let k = 4 * length done in
    let place : 0x200000000 + at + w ≡ 0x200000000 + (at + w) = omega arith in
    let left : length input - at - w ≡ length input - (at + w) = omega arith in
    let all = goes_on code m n w k r2 r3 (0x200000000 + at) (length input - at) (0x300000000 + k) i ok.has.goes (omega (arith, ok.short_code)) (omega arith) (omega (arith, fits, ok.input_short)) (omega (arith, fits)) (omega (arith, ok.input_short)) in
    let same : state m 3 k r2 r3 (0x200000000 + at + w) (length input - at - w) (0x300000000 + k) (i + 1) ≡ before input output done (i + 1) (at + w) r2 r3 = rw (place, left) refl in
    subst (λ (s : State). Reaches 4 code (state m (7 + n) k r2 r3 (0x200000000 + at) (length input - at) (0x300000000 + k) i) s) same all

-- a record, from its predicate's code on
ends_record : (code : List Insn) (p : Pred) (w : ℕ) (input output done : List ℕ) (i at : ℕ) (sat : Bool) → Setting code p w input output → at + w ≤ length input → 4 * length done + 4 ≤ length output → i < 2 ^ 32 → (r2 r3 : ℕ) → Gets code 7 (state (lent input output (output_with done output)) (to_of sat (4 + code_slots p) 0 3) (4 * length done) r2 r3 (0x200000000 + at) (length input - at) (0x300000000 + 4 * length done) i) (before input output (if sat then done ++ i ∷ [] else done) (i + 1) (at + w))
ends_record code p w input output done i at true ok fits room small r2 r3 =
    let m = lent input output (output_with done output) in
    let e : 4 + code_slots p ≡ 4 + code_slots p + 0 = omega arith in
    gets code 7 7 r2 r3 _ _ (omega arith) (subst (λ (s : ℕ). Reaches 7 code (state m s (4 * length done) r2 r3 (0x200000000 + at) (length input - at) (0x300000000 + 4 * length done) i) (before input output (done ++ i ∷ []) (i + 1) (at + w) r2 r3)) e (lists code p w input output done i at r2 r3 ok fits room small))
ends_record code p w input output done i at false ok fits room small r2 r3 =
    let m = lent input output (output_with done output) in
    let e : 7 + code_slots p ≡ 4 + code_slots p + 3 = omega arith in
    gets code 7 4 r2 r3 _ _ (omega arith) (subst (λ (s : ℕ). Reaches 4 code (state m s (4 * length done) r2 r3 (0x200000000 + at) (length input - at) (0x300000000 + 4 * length done) i) (before input output done (i + 1) (at + w) r2 r3)) e (passes code p w input output done i at r2 r3 ok fits small))

turn : (code : List Insn) (p : Pred) (w : ℕ) (input output done : List ℕ) (i at : ℕ) → Setting code p w input output → at + w ≤ length input → 4 * length done + 4 ≤ length output → i < 2 ^ 32 → (r2 r3 : ℕ) → Gets code (8 + 4 * nodes p) (before input output done i at r2 r3) (before input output (if satisfies p (take w (drop at input)) then done ++ i ∷ [] else done) (i + 1) (at + w))
turn code p w input output done i at ok fits room small r2 r3 =
    let n = code_slots p in
    let now = output_with done output in
    let m = lent input output now in
    let k = 4 * length done in
    let bytes = take w (drop at input) in
    let sat = satisfies p bytes in
    let long = length-output_with done output (omega (arith, room)) in
    let on : select.holds is.Lt (length input - at) w ≡ false = grind (arith, nat_tests) in
    let tested : Reaches 1 code (before input output done i at r2 r3) (state m 4 k r2 r3 (0x200000000 + at) (length input - at) (0x300000000 + k) i) = one code _ _ _ ok.has.tests.0 (moves.compare_rest m 3 k r2 r3 (0x200000000 + at) (length input - at) (0x300000000 + k) i w (n + 7) false (omega arith) (omega (arith, ok.short_code)) on) in
    let judged = pred_leads code m w bytes k (0x200000000 + at) (length input - at) (0x300000000 + k) i (λ off size field'. field_loaded input output now w off size at ok.input_short (omega (arith, long, ok.output_short)) field' fits) p 4 0 3 ok.has.inner ok.fit (omega (arith, ok.short_code)) (omega (arith, ok.short_code)) in
    let g1 = λ (a : ℕ) (b : ℕ). state m 4 k a b (0x200000000 + at) (length input - at) (0x300000000 + k) i in
    let g2 = λ (a : ℕ) (b : ℕ). state m (to_of sat (4 + n) 0 3) k a b (0x200000000 + at) (length input - at) (0x300000000 + k) i in
    let goal = before input output (if sat then done ++ i ∷ [] else done) (i + 1) (at + w) in
    gets_then code 1 (7 + 4 * nodes p) (8 + 4 * nodes p) (before input output done i at r2 r3) g1 goal (omega arith) (gets code 1 1 r2 r3 _ g1 (omega arith) tested)
    (λ a b. gets_then code (4 * nodes p) 7 (7 + 4 * nodes p) (g1 a b) g2 goal (omega arith) (judged a b) (ends_record code p w input output done i at sat ok fits room small))

-- ---- all records

-- those of n numbers from i on that are selected
abbrev chosen : Pred → ℕ → List ℕ → ℕ → ℕ → List ℕ
chosen p w input i n = filter (is_selected p w input) (range_with_len i n)

one_chosen : (sat : Bool) (done rest : List ℕ) (i : ℕ) → (if sat then done ++ i ∷ [] else done) ++ rest ≡ done ++ cond sat (i ∷ rest) rest
one_chosen true done rest i = append_assoc done (i ∷ []) rest
one_chosen false done rest i = refl

one_longer : (sat : Bool) (done : List ℕ) (i : ℕ) → length (if sat then done ++ i ∷ [] else done) ≤ length done + 1
one_longer true done i = omega (arith, length-append done (i ∷ []))
one_longer false done i = omega arith

next_place : (i w : ℕ) → (i + 1) * w ≡ i * w + w
next_place i w = grind arith

more_turns : (n x : ℕ) → x + n * x ≤ suc n * x
more_turns n x = grind arith

-- a record with a number below the count lies in the input
in_input : (w len i : ℕ) → 1 ≤ w → i < len / w → i * w + w ≤ len
in_input w len i some lt =
    let a : (i + 1) * w ≤ len / w * w = mul-le-mul_right w (omega arith) in
    omega (arith, next_place i w, div-mul-le_self len w, a)

turns : (code : List Insn) (p : Pred) (w : ℕ) (input output : List ℕ) → Setting code p w input output → (n i at : ℕ) (done : List ℕ) → at ≡ i * w → i + n ≤ records w input → length done ≤ i → (r2 r3 : ℕ) → Gets code (n * (8 + 4 * nodes p)) (before input output done i at r2 r3) (before input output (done ++ chosen p w input i n) (i + n) ((i + n) * w))
turns code p w input output ok zero i at done place few short r2 r3 =
    let e1 : i + 0 ≡ i = omega arith in
    let e2 : done ++ [] ≡ done = append-nil done in
    let same : before input output done i at r2 r3 ≡ before input output (done ++ []) (i + 0) ((i + 0) * w) r2 r3 = rw (e1, e2, place) refl in
    let goal = before input output (done ++ []) (i + 0) ((i + 0) * w) in
    gets code (0 * (8 + 4 * nodes p)) 0 r2 r3 (before input output done i at r2 r3) goal (omega arith)
    (subst (λ (s : State). Reaches 0 code (before input output done i at r2 r3) s) same (reach_none 0 code (before input output done i at r2 r3) refl))
turns code p w input output ok (suc n) i at done place few short r2 r3 =
    let x = 8 + 4 * nodes p in
    let sat = satisfies p (take w (drop at input)) in
    let done2 : List ℕ = if sat then done ++ i ∷ [] else done in
    let later = chosen p w input (i + 1) n in
    let here : sat ≡ is_selected p w input i = ap (λ (k : ℕ). satisfies p (take w (drop k input))) place in
    let fits : at + w ≤ length input = omega (arith, place, in_input w (length input) i ok.some (omega (arith, few))) in
    let small : i < 2 ^ 32 = omega (arith, few, div-le_self (length input) w, ok.input_short) in
    let room : 4 * length done + 4 ≤ length output = omega (arith, few, short, ok.room) in
    let first = turn code p w input output done i at ok fits room small r2 r3 in
    let long : length done2 ≤ i + 1 = omega (arith, short, one_longer sat done i) in
    let place2 : at + w ≡ (i + 1) * w = omega (arith, place, next_place i w) in
    let few2 : i + 1 + n ≤ records w input = omega (arith, few) in
    let g = before input output done2 (i + 1) (at + w) in
    let h1 = before input output (done2 ++ later) (i + 1 + n) ((i + 1 + n) * w) in
    let h = before input output (done ++ chosen p w input i (suc n)) (i + suc n) ((i + suc n) * w) in
    let e : i + 1 + n ≡ i + suc n = omega arith in
    let l : done2 ++ later ≡ done ++ chosen p w input i (suc n) = one_chosen sat done later i ∙ ap (λ (b : Bool). done ++ cond b (i ∷ later) later) here in
    gets_as code (suc n * x) (before input output done i at r2 r3) h1 h (λ a b. rw (l, e) refl)
    (gets_then code x (n * x) (suc n * x) (before input output done i at r2 r3) g h1 (more_turns n x) first
    (λ a b. turns code p w input output ok n (i + 1) (at + w) done2 place2 few2 long a b))

-- ---- the whole run

exits : (l used : ℕ) (code : List Insn) (m : State) → at_slot code m.slot ≡ Some insn.Exit → m.frames ≡ [] → run_from (suc l) used code m ≡ Ended (slice_index m.registers 0) m.regions.output (used + 1)
unfolding run_from step
exits l used code m at none =
    ap (λ (o : Option Insn). after (step_at o m) m (used + 1) (run_from l (used + 1) code)) at
    ∙ ap (λ (frames : List Frame). after (leave m frames) m (used + 1) (run_from l (used + 1) code)) none

-- where fewer bytes are left than a record has
stops : (code : List Insn) (p : Pred) (w : ℕ) (input output done : List ℕ) (i at r2 r3 l used : ℕ) → Setting code p w input output → length input - at < w → run_from (suc (suc l)) used code (before input output done i at r2 r3) ≡ Ended (4 * length done) (output_with done output) (used + 1 + 1)
stops code p w input output done i at r2 r3 l used ok few =
    let n = code_slots p in
    let m = lent input output (output_with done output) in
    let k = 4 * length done in
    let out : select.holds is.Lt (length input - at) w ≡ true = grind (arith, nat_tests) in
    let left : Reaches 1 code (before input output done i at r2 r3) (state m (3 + 1 + (n + 7)) k r2 r3 (0x200000000 + at) (length input - at) (0x300000000 + k) i) = one code _ _ _ ok.has.tests.0 (moves.compare_rest m 3 k r2 r3 (0x200000000 + at) (length input - at) (0x300000000 + k) i w (n + 7) true (omega arith) (omega (arith, ok.short_code)) out) in
    let e : suc (suc l) ≡ suc l + 1 = omega arith in
    let slot : 11 + n ≡ 3 + 1 + (n + 7) = omega arith in
    ap (λ (f : ℕ). run_from f used code (before input output done i at r2 r3)) e
    ∙ left (suc l) used
    ∙ exits l (used + 1) code (state m (3 + 1 + (n + 7)) k r2 r3 (0x200000000 + at) (length input - at) (0x300000000 + k) i) (ap (at_slot code) (sym slot) ∙ ok.has.ends.0) refl

ends_with : (o : Outcome) (r0 used : ℕ) (output : List ℕ) → o ≡ Ended r0 output used → EndsWith o r0 output
ends_with o r0 used output e = subst (λ (x : Outcome). EndsWith x r0 output) (sym e) (refl, refl)

enough_is : (steps r n fuel : ℕ) → steps ≤ r * (8 + 4 * n) → 32 + r * (32 + 16 * n) ≤ fuel → steps + 5 ≤ fuel
enough_is steps r n fuel le enough =
    let a : r * (8 + 4 * n) ≤ r * (32 + 16 * n) = mul-le-mul_left r (omega arith) in
    omega (arith, a)

-- fewer bytes are left behind all records
rest_short : (w len : ℕ) → 1 ≤ w → len - len / w * w < w
rest_short w len some =
    let a = mod-eq-sub-div-mul len w in
    let b : len % w < w = omega arith in
    omega (arith, a, b)

pub promise : (code : List Insn) (p : Pred) (w : ℕ) (input output : List ℕ) (fuel : ℕ) → Setting code p w input output → enough_fuel p (records w input) ≤ fuel → EndsWith (run code (shaped input output []) fuel) (4 * length (select.select p w input)) (output_with (select.select p w input) output)
promise code p w input output fuel ok enough =
    let r = records w input in
    let sel = select.select p w input in
    let begin : State = start (shaped input output []) in
    let goal = before input output sel (0 + r) ((0 + r) * w) in
    let z : length input - 0 ≡ length input = omega arith in
    let same : state (lent input output output) 3 0 0 0 0x200000000 (length input) 0x300000000 0 ≡ before input output [] 0 0 0 0 = rw z refl in
    let first : Reaches 3 code begin (before input output [] 0 0 0 0) = subst (λ (s : State). Reaches 3 code begin s) same (opens code input output output ok.input_short ok.output_short ok.has.opens) in
    let zero-place : 0 ≡ 0 * w = omega arith in
    let loop = turns code p w input output ok r 0 0 [] zero-place (omega arith) (omega arith) 0 0 in
    let k = 3 + loop.steps in
    let whole : Reaches k code begin (goal loop.r2 loop.r3) = reach_both 3 loop.steps k code begin (before input output [] 0 0 0 0) (goal loop.r2 loop.r3) refl first loop.reach in
    let some : loop.steps + 5 ≤ fuel = enough_is loop.steps r (nodes p) fuel loop.within enough in
    let l = fuel - (k + 2) in
    let e : fuel ≡ suc (suc l) + k = omega (arith, some) in
    let at : (0 + r) * w ≡ r * w = ap (λ (n : ℕ). n * w) (zero-add r) in
    let few : length input - (0 + r) * w < w = omega (arith, at, rest_short w (length input) ok.some) in
    let all : run code (shaped input output []) fuel ≡ Ended (4 * length sel) (output_with sel output) (0 + k + 1 + 1) =
    ap (λ (f : ℕ). run_from f 0 code begin) e ∙ whole (suc (suc l)) 0 ∙ stops code p w input output sel (0 + r) ((0 + r) * w) loop.r2 loop.r3 l (0 + k) ok few in
    ends_with (run code (shaped input output []) fuel) (4 * length sel) (0 + k + 1 + 1) (output_with sel output) all
