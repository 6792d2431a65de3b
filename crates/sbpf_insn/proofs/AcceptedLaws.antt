-- Code is accepted exactly where it has no fault.
use Rattle.std.proofs.Common.{◌≡◌, ℕ, zero, suc, ◌+◌, ◌<◌, ◌≤◌, Bool, true, false, cond, nat_eq, List, [], ◌∷◌, Option, Some, None, refl, sym, ap, ◌∙◌, arith, length, inl, inr}
use Rattle.std.specs.Prelude.{ℤ, pos, negsuc, ◌&&◌, ◌↔◌, is_some, not, nat_lt, slice_get}
use Rattle.std.proofs.lemmas.Bool.{eq-eqb, cases_eq}
use Rattle.std.proofs.lemmas.Bool.Decides.{nat_tests}
use Rattle.sbpf_insn.specs.declared.insn.Insn.{Insn}
use Rattle.sbpf_insn.specs.declared.fault.VerifyKind.{VerifyKind}
use Rattle.sbpf_insn.specs.declared.fault.VerifyKind.TheVariants as kind
use Rattle.sbpf_insn.specs.declared.fault.VerifyFault.{VerifyFault}
use Rattle.sbpf_insn.specs.Decoded.{slots_of}
use Rattle.sbpf_insn.specs.Cells.{cells, slots, at_slot, flat}
use Rattle.sbpf_insn.specs.Accepted.{IsAccepted, jump_of, call_of, is_end, is_first, is_within, destination, writes_r10}
use Rattle.sbpf_insn.specs.Refusal.{refusal, fault_from, fault_in, fault_at, first_of, or_else, jump_fault, call_fault, end_fault}

first_none : (o : Option VerifyKind) (slot : ℕ) (rest : Option VerifyFault) → first_of o slot rest ≡ None → (o ≡ None) × (rest ≡ None)
first_none None slot rest e = (refl, e)
first_none (Some k) slot rest e = absurd cc

or_none : (a b : Option VerifyKind) → or_else a b ≡ None → (a ≡ None) × (b ≡ None)
or_none None b e = (refl, e)
or_none (Some k) b e = absurd cc

-- where there is no fault, no slot has one
no_fault : (code : List Insn) (slot n t : ℕ) → fault_from code slot n ≡ None → slot ≤ t → t < slot + n → fault_in code t (at_slot code t) ≡ None
unfolding fault_from
no_fault code slot zero t e le lt = absurd (omega arith)
no_fault code slot (suc n) t e le lt =
    let parts = first_none (fault_in code slot (at_slot code slot)) slot (fault_from code (slot + 1) n) e in
    elim (cases_eq t slot) [
      | inl same ↦ rw same parts.0
      | inr other ↦ no_fault code (slot + 1) n t parts.1 (omega arith) (omega arith)
    ]

within : {X : Type 0} (xs : List (Option X)) (k : ℕ) (x : X) → flat (slice_get xs k) ≡ Some x → k < length xs
within [] k x e = absurd cc
within (y ∷ xs) zero x e = omega arith
within (y ∷ xs) (suc k) x e = let h = within xs k x e in omega arith

guard_none : (b : Bool) (k : VerifyKind) (o : Option VerifyKind) → cond b (Some k) o ≡ None → (b ≡ false) × (o ≡ None)
guard_none true k o e = absurd cc
guard_none false k o e = (refl, e)

not_false : (b : Bool) → not b ≡ false → b ≡ true
not_false true e = refl
not_false false e = absurd cc

jump_lands : (code : List Insn) (slot : ℕ) (k : ℤ) → jump_fault code slot (Some k) ≡ None → is_first code (destination slot k) ≡ true
jump_lands code slot k e =
    let g = guard_none (not (is_within code (destination slot k))) kind.Jump (cond (not (is_first code (destination slot k))) (Some kind.Middle) None) e in
    let h = guard_none (not (is_first code (destination slot k))) kind.Middle None g.1 in
    not_false (is_first code (destination slot k)) h.0

abbrev no_kind : Option VerifyKind
no_kind = None

cond_none : (b : Bool) (k : VerifyKind) → cond b no_kind (Some k) ≡ no_kind → b ≡ true
cond_none true k e = refl
cond_none false k e = absurd cc

call_lands : (code : List Insn) (slot : ℕ) (k : ℤ) → call_fault code slot (Some k) ≡ None → is_first code (destination slot k) ≡ true
call_lands code slot k e = cond_none (is_first code (destination slot k)) kind.CallTarget e

pub record Parts (code : List Insn) (slot : ℕ) (i : Insn) : Type 0 where
  pub keeps : writes_r10 i ≡ false
  pub jump : jump_fault code slot (jump_of i) ≡ None
  pub call : call_fault code slot (call_of i) ≡ None
  pub end : end_fault code slot i ≡ None

parts_of : (code : List Insn) (slot : ℕ) (i : Insn) → fault_at code slot i ≡ None → Parts code slot i
parts_of code slot i e =
    let g = guard_none (writes_r10 i) kind.Writer10 (or_else (jump_fault code slot (jump_of i)) (or_else (call_fault code slot (call_of i)) (end_fault code slot i))) e in
    let a = or_none (jump_fault code slot (jump_of i)) (or_else (call_fault code slot (call_of i)) (end_fault code slot i)) g.1 in
    let b = or_none (call_fault code slot (call_of i)) (end_fault code slot i) a.1 in
    record { keeps = g.0; jump = a.0; call = b.0; end = b.1 }

at_parts : (code : List Insn) → fault_from code 0 (slots code) ≡ None → (slot : ℕ) (i : Insn) → at_slot code slot ≡ Some i → Parts code slot i
at_parts code e slot i at =
    let lt : slot < slots code = within (cells code) slot i at in
    parts_of code slot i (ap (fault_in code slot) (sym at) ∙ no_fault code 0 (slots code) slot e (omega arith) (omega arith))

end_is : (code : List Insn) (slot : ℕ) (i : Insn) → end_fault code slot i ≡ None → slot + slots_of i ≡ slots code → is_end i ≡ true
end_is code slot i e last =
    let g = guard_none (nat_eq (slot + slots_of i) (slots code) && not (is_end i)) kind.FallsOff None e in
    let t : nat_eq (slot + slots_of i) (slots code) ≡ true = eq-eqb (slot + slots_of i) (slots code) last in
    fine (nat_eq (slot + slots_of i) (slots code)) (is_end i) t g.0
  where
    fine : (a b : Bool) → a ≡ true → (a && not b) ≡ false → b ≡ true
    fine true b t e = not_false b e
    fine false b t e = absurd cc

-- code without a fault has 1 to 4,096 slots, and none of them a fault
pub record Clean (code : List Insn) : Type 0 where
  pub some : 1 ≤ slots code
  pub short : slots code ≤ 4096
  pub none : fault_from code 0 (slots code) ≡ None

fault_guard : (b : Bool) (f : VerifyFault) (o : Option VerifyFault) → cond b (Some f) o ≡ None → (b ≡ false) × (o ≡ None)
fault_guard true f o e = absurd cc
fault_guard false f o e = (refl, e)

clean : (code : List Insn) → refusal code ≡ None → Clean code
clean code e =
    let g = fault_guard (nat_eq (slots code) 0) (record { slot = 0; kind = kind.Empty }) (cond (nat_lt 4096 (slots code)) (Some (record { slot = 4096; kind = kind.TooLong })) (fault_from code 0 (slots code))) e in
    let h = fault_guard (nat_lt 4096 (slots code)) (record { slot = 4096; kind = kind.TooLong }) (fault_from code 0 (slots code)) g.1 in
    let n : ℕ = slots code in
    record { some = grind (arith, nat_tests, g.0); short = grind (arith, nat_tests, h.0); none = h.1 }

pub accepted : (code : List Insn) → refusal code ≡ None → IsAccepted code
accepted code e =
    let c = clean code e in
    record {
      some = c.some;
      short = c.short;
      jumps = λ slot i k at is. jump_lands code slot k (ap (jump_fault code slot) (sym is) ∙ (at_parts code c.none slot i at).jump);
      calls = λ slot i k at is. call_lands code slot k (ap (call_fault code slot) (sym is) ∙ (at_parts code c.none slot i at).call);
      keeps = λ slot i at. (at_parts code c.none slot i at).keeps;
      ends = λ slot i at last. end_is code slot i (at_parts code c.none slot i at).end last;
    }

-- ---- the other way

first_within : (code : List Insn) (to : ℤ) → is_first code to ≡ true → is_within code to ≡ true
first_within code (pos to) e =
    let lt : to < slots code = found_within (cells code) to e in
    grind (arith, nat_tests)
  where
    found_within : (xs : List (Option Insn)) (k : ℕ) → is_some (flat (slice_get xs k)) ≡ true → k < length xs
    found_within [] k e = absurd cc
    found_within (y ∷ xs) zero e = omega arith
    found_within (y ∷ xs) (suc k) e = let h = found_within xs k e in omega arith
first_within code (negsuc n) e = absurd cc

jump_fine : (code : List Insn) (slot : ℕ) (o : Option ℤ) → ((k : ℤ) → o ≡ Some k → is_first code (destination slot k) ≡ true) → jump_fault code slot o ≡ None
jump_fine code slot None lands = refl
jump_fine code slot (Some k) lands = let first = lands k refl in rw (first_within code (destination slot k) first, first) refl

call_fine : (code : List Insn) (slot : ℕ) (o : Option ℤ) → ((k : ℤ) → o ≡ Some k → is_first code (destination slot k) ≡ true) → call_fault code slot o ≡ None
call_fine code slot None lands = refl
call_fine code slot (Some k) lands = rw (lands k refl) refl

end_fine : (code : List Insn) (slot : ℕ) (i : Insn) → (slot + slots_of i ≡ slots code → is_end i ≡ true) → end_fault code slot i ≡ None
end_fine code slot i ends =
    elim (cases_eq (slot + slots_of i) (slots code)) [
      | inl same ↦ rw (ends same) (no_guard (nat_eq (slot + slots_of i) (slots code)))
      | inr other ↦ let t : nat_eq (slot + slots_of i) (slots code) ≡ false = grind (arith, nat_tests) in rw t refl
    ]
  where
    no_guard : (b : Bool) → cond (b && false) (Some kind.FallsOff) None ≡ None
    no_guard true = refl
    no_guard false = refl

none_at : (code : List Insn) (slot : ℕ) (i : Insn) → IsAccepted code → at_slot code slot ≡ Some i → fault_at code slot i ≡ None
none_at code slot i accepted at =
    rw (accepted.keeps slot i at, jump_fine code slot (jump_of i) (λ k is. accepted.jumps slot i k at is), call_fine code slot (call_of i) (λ k is. accepted.calls slot i k at is)) (end_fine code slot i (accepted.ends slot i at))

none_in : (code : List Insn) (slot : ℕ) (o : Option Insn) → IsAccepted code → at_slot code slot ≡ o → fault_in code slot o ≡ None
none_in code slot None accepted at = refl
none_in code slot (Some i) accepted at = none_at code slot i accepted at

none_from : (code : List Insn) (slot n : ℕ) → IsAccepted code → fault_from code slot n ≡ None
unfolding fault_from
none_from code slot zero accepted = refl
none_from code slot (suc n) accepted = rw (none_in code slot (at_slot code slot) accepted refl) (none_from code (slot + 1) n accepted)

pub no_refusal : (code : List Insn) → IsAccepted code → refusal code ≡ None
no_refusal code accepted =
    let some : nat_eq (slots code) 0 ≡ false = grind (arith, nat_tests, accepted.some) in
    let short : nat_lt 4096 (slots code) ≡ false = grind (arith, nat_tests, accepted.short) in
    rw (some, short) (none_from code 0 (slots code) accepted)

pub accepted_exactly : (code : List Insn) → IsAccepted code ↔ (refusal code ≡ None)
accepted_exactly code = (no_refusal code, accepted code)
