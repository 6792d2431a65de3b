-- Accepted code stays inside its slots.
use Rattle.std.proofs.Common.{◌≡◌, ℕ, zero, suc, ◌+◌, ◌-◌, ◌<◌, ◌≤◌, ◌%◌, ◌^◌, ℤ, pos, negsuc, Bool, true, false, List, [], ◌∷◌, ◌++◌, length, Option, Some, None, refl, sym, ap, ◌∙◌, arith, ◌⊎◌, inl, inr, cond, subst, length-append}
use Rattle.std.specs.Prelude.{is_some, slice_get, if◌then◌else◌}
use Rattle.std.proofs.lemmas.Bool.Decides.{nat_tests}
use Rattle.sbpf_insn.specs.declared.insn.Insn.{Insn}
use Rattle.sbpf_insn.specs.declared.insn.Insn.TheVariants as insn
use Rattle.sbpf_insn.specs.Decoded.{slots_of}
use Rattle.sbpf_insn.specs.Cells.{cells, cells_of, slots, flat, at_slot}
use Rattle.sbpf_insn.specs.Accepted.{IsAccepted, jump_of, is_end, is_first, destination}
use Rattle.sbpf_insn.specs.Machine.{State, Frame, Next, Goes, Done, Access, Depth, Regions, step, step_at, act, leave, target, after_slot, start, loaded, stored, exchanged, with_fetched, store, top, jumped}
use Rattle.sbpf_insn.specs.declared.insn.Reg.{Reg}
use Rattle.sbpf_insn.specs.declared.insn.Size.{Size}
use Rattle.sbpf_insn.proofs.CellLaws.{length-cells_of, flat_is}
use Rattle.std.proofs.lemmas.Option.{slice_get_within}
use Rattle.std.proofs.lemmas.Bool.{cases_lt}
use Rattle.sbpf_exec.specs.Inside.{OnGoes, StaysInside}

-- ---- cells

get_past : {X : Type 0} (xs ys : List X) (k : ℕ) → slice_get (xs ++ ys) (length xs + k) ≡ slice_get ys k
get_past [] ys k = ap (slice_get ys) (omega arith)
get_past (x ∷ xs) ys k = let e : length (x ∷ xs) + k ≡ suc (length xs + k) = omega arith in rw e (get_past xs ys k)

within : (code : List Insn) (s : ℕ) (i : Insn) → at_slot code s ≡ Some i → s < slots code
within code s i at = slice_get_within (cells code) s (Some i) (flat_is (slice_get (cells code) s) i at)

held : (o : Option Insn) → is_some o ≡ true → (i : Insn) × (o ≡ Some i)
held None e = absurd cc
held (Some i) e = (i, refl)

some_is : (o : Option Insn) (i : Insn) → o ≡ Some i → is_some o ≡ true
some_is o i e = ap is_some e

goes_some : (o : Option Insn) (m next : State) → step_at o m ≡ Goes next → (i : Insn) × (o ≡ Some i)
goes_some None m next goes = absurd cc
goes_some (Some i) m next goes = (i, refl)

-- where a step goes on, it is made inside the code
pub goes_within : (code : List Insn) (m next : State) → step code m ≡ Goes next → m.slot < slots code
unfolding step
goes_within code m next goes = let h = goes_some (at_slot code m.slot) m next goes in within code m.slot h.0 h.1

within_some : (code : List Insn) (s : ℕ) → is_some (at_slot code s) ≡ true → s < slots code
within_some code s e = let h = held (at_slot code s) e in within code s h.0 h.1

-- an instruction has one cell, or a wide load two, of which the second is empty
shape : (j : Insn) → ((slots_of j ≡ 1) × (cells_of j ≡ Some j ∷ [])) ⊎ ((slots_of j ≡ 2) × (cells_of j ≡ Some j ∷ None ∷ []))
shape (insn.LoadWide dst value) = inr (refl, refl)
shape j = inl (refl, refl)

slots_more : (j : Insn) (code : List Insn) → slots (j ∷ code) ≡ slots_of j + slots code
slots_more j code = length-append (cells_of j) (cells code) ∙ omega (arith, length-cells_of j)

at_past : (j : Insn) (code : List Insn) (s : ℕ) → at_slot (j ∷ code) (slots_of j + s) ≡ at_slot code s
at_past j code s = ap (λ (n : ℕ). flat (slice_get (cells_of j ++ cells code) (n + s))) (sym (length-cells_of j)) ∙ ap flat (get_past (cells_of j) (cells code) s)

at_first : (j : Insn) (code : List Insn) → at_slot (j ∷ code) 0 ≡ Some j
at_first j code = elim (shape j) [
  | inl one ↦ ap (λ (c : List (Option Insn)). flat (slice_get (c ++ cells code) 0)) one.1
  | inr two ↦ ap (λ (c : List (Option Insn)). flat (slice_get (c ++ cells code) 0)) two.1
]

at_inside : (j : Insn) (code : List Insn) (s : ℕ) (i : Insn) → s < slots_of j → at_slot (j ∷ code) s ≡ Some i → s ≡ 0
at_inside j code zero i lt at = refl
at_inside j code (suc zero) i lt at = elim (shape j) [
  | inl one ↦ absurd (omega (arith, one.0))
  | inr two ↦ let e : at_slot (j ∷ code) 1 ≡ None = ap (λ (c : List (Option Insn)). flat (slice_get (c ++ cells code) 1)) two.1 in absurd cc
]
at_inside j code (suc (suc s)) i lt at = elim (shape j) [ inl one ↦ absurd (omega (arith, one.0)) | inr two ↦ absurd (omega (arith, two.0)) ]

-- the slot after an instruction is the end, or another's first
abbrev IsAfter : List Insn → ℕ → Type 0
IsAfter code s = (s ≡ slots code) ⊎ (is_some (at_slot code s) ≡ true)

begins : (code : List Insn) → IsAfter code 0
begins [] = inl refl
begins (j ∷ code) = inr (some_is _ j (at_first j code))

moved : (j : Insn) (code : List Insn) (s t : ℕ) → t ≡ slots_of j + s → IsAfter code s → IsAfter (j ∷ code) t
moved j code s t e (inl end) = inl (omega (arith, slots_more j code, end, e))
moved j code s t e (inr first) = inr (ap (λ (n : ℕ). is_some (at_slot (j ∷ code) n)) e ∙ ap is_some (at_past j code s) ∙ first)

same_insn : (j i : Insn) (o : Option Insn) → o ≡ Some j → o ≡ Some i → j ≡ i
same_insn j i o e f = cc

after_is : (code : List Insn) (s : ℕ) (i : Insn) → at_slot code s ≡ Some i → IsAfter code (s + slots_of i)
after_is [] s i at = absurd cc
after_is (j ∷ code) s i at = elim (cases_lt s (slots_of j)) [
  | inl lt ↦
      let z : s ≡ 0 = at_inside j code s i lt at in
      let same : j ≡ i = same_insn j i (at_slot (j ∷ code) 0) (at_first j code) (ap (at_slot (j ∷ code)) (sym z) ∙ at) in
      let e : s + slots_of i ≡ slots_of j + 0 = omega (arith, z, ap slots_of same) in
      moved j code 0 (s + slots_of i) e (begins code)
  | inr le ↦
      let back : slots_of j + (s - slots_of j) ≡ s = omega arith in
      let at' : at_slot code (s - slots_of j) ≡ Some i = sym (at_past j code (s - slots_of j)) ∙ ap (at_slot (j ∷ code)) back ∙ at in
      let e : s + slots_of i ≡ slots_of j + (s - slots_of j + slots_of i) = omega arith in
      moved j code (s - slots_of j + slots_of i) (s + slots_of i) e (after_is code (s - slots_of j) i at')
]

-- ---- targets

cond_first : (code : List Insn) (b : Bool) (x y : ℕ) → is_first code (cond b (negsuc x) (pos y)) ≡ true → (b ≡ false) × (is_some (at_slot code y) ≡ true)
cond_first code true x y e = absurd cc
cond_first code false x y e = (refl, e)

-- a jump's target, as the machine counts it, is where the code's conditions say
pub target_is : (code : List Insn) (slot : ℕ) (k : ℤ) → slots code ≤ 4096 → slot < slots code → is_first code (destination slot k) ≡ true → is_some (at_slot code (target slot k)) ≡ true
target_is code slot (pos n) short here first =
    let lt : slot + 1 + n < slots code = within_some code (slot + 1 + n) first in
    let e : (slot + 1 + n) % 2 ^ 32 ≡ slot + 1 + n = omega arith in
    ap (λ (t : ℕ). is_some (at_slot code t)) e ∙ first
target_is code slot (negsuc n) short here first =
    let h = cond_first code _ _ _ first in
    let le : suc n ≤ slot + 1 = grind (arith, nat_tests, h.0) in
    let e : (slot + 1 + (2 ^ 32 - suc n)) % 2 ^ 32 ≡ slot + 1 - suc n = omega arith in
    ap (λ (t : ℕ). is_some (at_slot code t)) e ∙ h.1

-- ---- steps

-- every return slot is an instruction's first
abbrev AllFirst : List Insn → List Frame → Type 0
AllFirst code [] = Unit {0}
AllFirst code (f ∷ frames) = (is_some (at_slot code f.slot) ≡ true) × AllFirst code frames

-- the machine stands at an instruction, and will after each return
record Stands (code : List Insn) (m : State) : Type 0 where
  here : is_some (at_slot code m.slot) ≡ true
  frames : AllFirst code m.frames

next_is : (code : List Insn) (s : ℕ) (i : Insn) → IsAccepted code → at_slot code s ≡ Some i → is_end i ≡ false → is_some (at_slot code (after_slot s (slots_of i))) ≡ true
next_is code s i accepted at not_end =
    elim (after_is code s i at) [
      | inl end ↦ let yes' = accepted.ends s i at end in absurd cc
      | inr first ↦
          let lt : s + slots_of i < slots code = within_some code (s + slots_of i) first in
          let e : (s + slots_of i) % 2 ^ 32 ≡ s + slots_of i = omega (arith, accepted.short) in
          ap (λ (t : ℕ). is_some (at_slot code t)) e ∙ first
    ]

jumps_to : (code : List Insn) (s : ℕ) (i : Insn) (k : ℤ) → IsAccepted code → at_slot code s ≡ Some i → jump_of i ≡ Some k → is_some (at_slot code (target s k)) ≡ true
jumps_to code s i k accepted at is = target_is code s k accepted.short (within code s i at) (accepted.jumps s i k at is)

loaded_stands : (code : List Insn) (m : State) (dst : Reg) (a : ℕ) (s : Size) (f : ℕ → ℕ) (o : Option ℕ) → is_some (at_slot code (after_slot m.slot 1)) ≡ true → AllFirst code m.frames → OnGoes (loaded m dst a s f o) (Stands code)
loaded_stands code m dst a s f None next frames = tt
loaded_stands code m dst a s f (Some v) next frames = record { here = next; frames = frames }

stored_stands : (code : List Insn) (m : State) (a : ℕ) (s : Size) (o : Option Regions) → is_some (at_slot code (after_slot m.slot 1)) ≡ true → AllFirst code m.frames → OnGoes (stored m a s o) (Stands code)
stored_stands code m a s None next frames = tt
stored_stands code m a s (Some r) next frames = record { here = next; frames = frames }

exchanged_stands : (code : List Insn) (m : State) (a : ℕ) (s : Size) (new : ℕ → ℕ) (into : Option Reg) (o : Option ℕ) → is_some (at_slot code (after_slot m.slot 1)) ≡ true → AllFirst code m.frames → OnGoes (exchanged m a s new into o) (Stands code)
exchanged_stands code m a s new into None next frames = tt
exchanged_stands code m a s new into (Some old) next frames =
    stored_stands code (record m { registers = with_fetched m.registers into old }) a s (store m.regions (top m) a s (new old)) next frames

taken_stands : (code : List Insn) (m : State) (b : Bool) (s : ℕ) (k : ℤ) → is_some (at_slot code (after_slot s 1)) ≡ true → is_some (at_slot code (target s k)) ≡ true → is_some (at_slot code (jumped b s k)) ≡ true
taken_stands code m true s k next to = to
taken_stands code m false s k next to = next

called_stands : (code : List Insn) (m m2 : State) (b : Bool) → Stands code m2 → OnGoes (if b then Goes m2 else Depth) (Stands code)
called_stands code m m2 true stands = stands
called_stands code m m2 false stands = tt

left_stands : (code : List Insn) (m : State) (frames : List Frame) → AllFirst code frames → OnGoes (leave m frames) (Stands code)
left_stands code m [] all = tt
left_stands code m (f ∷ frames) all = record { here = all.0; frames = all.1 }

act_stands : (code : List Insn) (i : Insn) (m : State) → IsAccepted code → at_slot code m.slot ≡ Some i → AllFirst code m.frames → OnGoes (act i m) (Stands code)
act_stands code (insn.Alu wide o dst s) m ok at fr = record { here = next_is code m.slot _ ok at refl; frames = fr }
act_stands code (insn.MovSx wide width dst r) m ok at fr = record { here = next_is code m.slot _ ok at refl; frames = fr }
act_stands code (insn.Neg wide dst) m ok at fr = record { here = next_is code m.slot _ ok at refl; frames = fr }
act_stands code (insn.End o width dst) m ok at fr = record { here = next_is code m.slot _ ok at refl; frames = fr }
act_stands code (insn.Ja offset) m ok at fr = record { here = jumps_to code m.slot _ offset ok at refl; frames = fr }
act_stands code (insn.JaFar offset) m ok at fr = record { here = jumps_to code m.slot _ offset ok at refl; frames = fr }
act_stands code (insn.Jump wide c dst s offset) m ok at fr =
    record { here = taken_stands code m _ m.slot offset (next_is code m.slot _ ok at refl) (jumps_to code m.slot _ offset ok at refl); frames = fr }
act_stands code (insn.Call offset) m ok at fr =
    called_stands code m _ _ (record {
      here = target_is code m.slot offset ok.short (within code m.slot _ at) (ok.calls m.slot _ offset at refl);
      frames = (next_is code m.slot _ ok at refl, fr);
    })
act_stands code insn.Exit m ok at fr = left_stands code m m.frames fr
act_stands code (insn.Load s dst b offset) m ok at fr = loaded_stands code m dst _ s _ _ (next_is code m.slot _ ok at refl) fr
act_stands code (insn.LoadSx s dst b offset) m ok at fr = loaded_stands code m dst _ s _ _ (next_is code m.slot _ ok at refl) fr
act_stands code (insn.StoreImm s b offset imm) m ok at fr = stored_stands code m _ s _ (next_is code m.slot _ ok at refl) fr
act_stands code (insn.StoreReg s b offset r) m ok at fr = stored_stands code m _ s _ (next_is code m.slot _ ok at refl) fr
act_stands code (insn.Atomic wide o fetch b offset r) m ok at fr = exchanged_stands code m _ _ _ _ _ (next_is code m.slot _ ok at refl) fr
act_stands code (insn.LoadWide dst value) m ok at fr = record { here = next_is code m.slot _ ok at refl; frames = fr }

step_stands : (code : List Insn) (m : State) → IsAccepted code → Stands code m → OnGoes (step code m) (Stands code)
unfolding step
step_stands code m ok stands =
    let h = held (at_slot code m.slot) stands.here in
    let P : Option Insn → Type 0 = λ o. OnGoes (step_at o m) (Stands code) in
    subst P (sym h.1) (act_stands code h.0 m ok h.1 stands.frames)

-- ---- runs

goes_map : (next : Next) (P Q : State → Type 0) → OnGoes next P → ((m : State) → P m → Q m) → OnGoes next Q
goes_map (Goes m) P Q h f = f m h
goes_map (Done r0) P Q h f = tt
goes_map (Access a n) P Q h f = tt
goes_map Depth P Q h f = tt

stays : (n : ℕ) (code : List Insn) (m : State) → IsAccepted code → Stands code m → StaysInside n code m
unfolding StaysInside
stays zero code m ok stands = tt
stays (suc n) code m ok stands =
    (stands.here, goes_map (step code m) (Stands code) (StaysInside n code) (step_stands code m ok stands) (λ next h. stays n code next ok h))

-- accepted code stays inside from the start of a run on
pub accepted_stays : (n : ℕ) (code : List Insn) (r : Regions) → IsAccepted code → StaysInside n code (start r)
accepted_stays n code r ok =
    stays n code (start r) ok (record {
      here = elim (begins code) [ inl end ↦ absurd (omega (arith, ok.some, end)) | inr first ↦ first ];
      frames = tt;
    })
