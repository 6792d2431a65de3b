-- What functions learn from runs, row by row, and how much fuel a run uses.
use Rattle.std.proofs.Common.{◌≡◌, ℕ, zero, suc, ◌+◌, ◌<◌, ◌≤◌, ◌^◌, Bool, true, false, List, [], ◌∷◌, length, map, get_or, set, length-set, Option, Some, None, refl, sym, ap, ◌∙◌, subst, arith}
use Rattle.std.specs.Prelude.{◌||◌, nat_lt, bytes_eq, if◌then◌else◌}
use Rattle.std.proofs.lemmas.Bool.Decides.{nat_tests}
use Rattle.std.proofs.lemmas.List.Elements.{All-get_or, All-set}
use Rattle.dispatcher.specs.Costs.{Learn}
use Rattle.sbpf_insn.specs.declared.insn.Insn.{Insn}
use Rattle.sbpf_insn.specs.Machine as machine
use Rattle.sbpf_insn.specs.Cells.{slots}
use Rattle.plain_files.specs.declared.calls.Call.{Call}
use Rattle.plain_files.specs.declared.calls.Call.TheVariants.{Create, OpenFile, Stat, Remove, Read, Write, Append, Trunc, Seal, Load, Unload, Readl, Writel, Sync}
use Rattle.plain_files.specs.Plain.{State, is_long, is_run_long, early}
use Rattle.core_state.specs.State.{Function}
use Rattle.core_state.specs.Reach.{is_lambda, function_word}
use Rattle.core_state.specs.PlainOf.{outcome_of, used_of, fuel_of}
use Rattle.core_state.specs.Sides.{learnt}
use Rattle.system_state.specs.Cores.{function_of}
use Rattle.system_state.specs.Kept.{AreFunctions}
use Rattle.system_state.specs.declared.state.Function.{Function as Row}
use Rattle.system_blocks.proofs.Low.{not_long}
use Rattle.system_ends.specs.Landed.{taught}

-- ---- the first rows of a table changed

unfoldable pub first_changed : {A : Type 0} → ℕ → (A → A) → List A → List A
first_changed zero f xs = xs
first_changed (suc n) f [] = []
first_changed (suc n) f (x ∷ xs) = f x ∷ first_changed n f xs

pub changed-none : {A : Type 0} (f : A → A) (xs : List A) → first_changed 0 f xs ≡ xs
unfolding first_changed
changed-none f xs = refl

pub length-changed : {A : Type 0} (n : ℕ) (f : A → A) (xs : List A) → length (first_changed n f xs) ≡ length xs
unfolding first_changed
length-changed zero f xs = refl
length-changed (suc n) f [] = refl
length-changed (suc n) f (x ∷ xs) = ap suc (length-changed n f xs)

changed-next : {A : Type 0} (f : A → A) (xs : List A) (i : ℕ) (x y : A) → i < length xs → x ≡ get_or (first_changed i f xs) i x → y ≡ f x → set (first_changed i f xs) i y ≡ first_changed (suc i) f xs
unfolding first_changed
changed-next f [] i x y l e g = absurd (omega arith)
changed-next f (z ∷ zs) zero x y l e g = ap (λ w. w ∷ zs) (g ∙ ap f e)
changed-next f (z ∷ zs) (suc i) x y l e g = ap (λ w. f z ∷ w) (changed-next f zs i x y (omega arith) e g)

pub changed-more : {A : Type 0} (f : A → A) (xs : List A) (i : ℕ) (x y : A) → i < length xs → x ≡ get_or (first_changed i f xs) i x → y ≡ f x → set (first_changed i f xs) i y ≡ first_changed (i + 1) f xs
changed-more f xs i x y l e g = let s : suc i ≡ i + 1 = omega arith in changed-next f xs i x y l e g ∙ ap (λ (n : ℕ). first_changed n f xs) s

pub changed-all : {A : Type 0} (f : A → A) (xs : List A) → first_changed (length xs) f xs ≡ map f xs
unfolding first_changed
changed-all f [] = refl
changed-all f (x ∷ xs) = ap (λ w. f x ∷ w) (changed-all f xs)

-- ---- what the rows say

taught_learnt : (name : List ℕ) (used pages : ℕ) (f : Row) → function_of (taught name used pages f) ≡ learnt (Some name) used pages (function_of f)
taught_learnt name used pages f = go (bytes_eq name f.name)
  where
    go : (t : Bool) → function_of (if t then record f { profile = record { e = Learn f.profile.e used pages } } else f) ≡ record (function_of f) { e = if t then Learn f.profile.e used pages else f.profile.e }
    go true = refl
    go false = refl

pub all_taught : (name : List ℕ) (used pages : ℕ) (fs : List Row) → map function_of (map (taught name used pages) fs) ≡ map (learnt (Some name) used pages) (map function_of fs)
all_taught name used pages [] = refl
all_taught name used pages (f ∷ fs) = let a = taught_learnt name used pages f in let b = all_taught name used pages fs in λ i. a i ∷ b i

pub learns_none : (used n : ℕ) (fs : List Function) → map (learnt None used n) fs ≡ fs
learns_none used n [] = refl
learns_none used n (f ∷ fs) = ap (λ (gs : List Function). f ∷ gs) (learns_none used n fs)

same_slots : (name : List ℕ) (used pages : ℕ) (f : Row) → slots (taught name used pages f).code.insns ≡ slots f.code.insns
same_slots name used pages f = go (bytes_eq name f.name)
  where
    go : (t : Bool) → slots (if t then record f { profile = record { e = Learn f.profile.e used pages } } else f).code.insns ≡ slots f.code.insns
    go true = refl
    go false = refl

-- the table stays one of functions
pub functions_stay : (name : List ℕ) (used pages : ℕ) (fs : List Row) (i : ℕ) (x y : Row) → i < length fs → x ≡ get_or fs i x → y ≡ taught name used pages x → y.profile.e ≤ 2 ^ 32 → AreFunctions fs → AreFunctions (set fs i y)
functions_stay name used pages fs i x y l e g p k = record {
  count = let n = length-set fs i y in let m = k.count in omega arith;
  short =
      let was : slots x.code.insns ≤ 4096 = subst (λ (f : Row). slots f.code.insns ≤ 4096) (sym e) (All-get_or (λ (f : Row). slots f.code.insns ≤ 4096) fs i x l k.short) in
      let now : slots y.code.insns ≡ slots x.code.insns = ap (λ (f : Row). slots f.code.insns) g ∙ same_slots name used pages x in
      All-set (λ (f : Row). slots f.code.insns ≤ 4096) fs i y (omega arith) k.short;
  priced = All-set (λ (f : Row). f.profile.e ≤ 2 ^ 32) fs i y p k.priced;
}

pub row_priced : (fs : List Row) (i : ℕ) (x : Row) → i < length fs → x ≡ get_or fs i x → AreFunctions fs → x.profile.e ≤ 2 ^ 32
row_priced fs i x l e k = subst (λ (f : Row). f.profile.e ≤ 2 ^ 32) (sym e) (All-get_or (λ (f : Row). f.profile.e ≤ 2 ^ 32) fs i x l k.priced)

-- ---- fuel

-- a run uses no more fuel than it has
run_most : (n k : ℕ) (code : List Insn) (m : machine.State) → used_of (machine.run_from n k code m) (k + n) ≤ k + n
unfolding machine.run_from
run_most zero k code m = omega arith
run_most (suc n) k code m = go (machine.step code m) (λ w. run_most n (k + 1) code w)
  where
    go : (x : machine.Next) → ((w : machine.State) → used_of (machine.run_from n (k + 1) code w) (k + 1 + n) ≤ k + 1 + n) → used_of (machine.after x m (k + 1) (machine.run_from n (k + 1) code)) (k + suc n) ≤ k + suc n
    go (machine.Goes w) h = let e : k + 1 + n ≡ k + suc n = omega arith in subst (λ (j : ℕ). used_of (machine.run_from n (k + 1) code w) j ≤ j) e (h w)
    go (machine.Done r0) h = omega arith
    go (machine.Access a b) h = omega arith
    go machine.Depth h = omega arith

run_fits : (code : List Insn) (r : machine.Regions) (fuel : ℕ) → fuel ≤ 2 ^ 32 → used_of (machine.run code r fuel) fuel ≤ 2 ^ 32
run_fits code r fuel l =
    let m : used_of (machine.run code r fuel) (0 + fuel) ≤ 0 + fuel = run_most fuel 0 code (machine.start r) in
    let e : 0 + fuel ≡ fuel = omega arith in
    let w : used_of (machine.run code r fuel) fuel ≤ fuel = subst (λ (j : ℕ). used_of (machine.run code r fuel) j ≤ j) e m in
    omega arith

last_of : (a b d : Bool) → (a || b || d) ≡ false → d ≡ false
last_of true b d e = absurd (cc)
last_of false true d e = absurd (cc)
last_of false false d e = e

fuel_fits : (param : List ℕ) (fuel : ℕ) → is_run_long param fuel ≡ false → fuel ≤ 2 ^ 32
fuel_fits param fuel e = let w = right (nat_lt 4096 (length param)) (nat_lt (2 ^ 32) fuel) e in grind (arith, nat_tests)
  where
    right : (a b : Bool) → (a || b) ≡ false → b ≡ false
    right true b e = absurd (cc)
    right false b e = e

-- the function of a call that nothing refuses early uses at most 2^32
pub used_fits : (s : State) (call : Call) → early s call ≡ None → used_of (outcome_of s call) (fuel_of call) ≤ 2 ^ 32
used_fits s (Readl file off len function fuel cap param) e = run_fits _ _ fuel (fuel_fits param fuel (last_of (is_long len) (is_long cap) (is_run_long param fuel) (not_long s (Readl file off len function fuel cap param) e)))
used_fits s (Writel file off len function fuel param input) e = run_fits _ _ fuel (fuel_fits param fuel (last_of (is_long len) (is_long (length input)) (is_run_long param fuel) (not_long s (Writel file off len function fuel param input) e)))
used_fits s (Create name) e = omega arith
used_fits s (OpenFile name) e = omega arith
used_fits s (Stat name) e = omega arith
used_fits s (Remove name) e = omega arith
used_fits s (Read name off n) e = omega arith
used_fits s (Write name off bytes) e = omega arith
used_fits s (Append name bytes) e = omega arith
used_fits s (Trunc name n) e = omega arith
used_fits s (Seal name) e = omega arith
used_fits s (Load name bytes) e = omega arith
used_fits s (Unload name) e = omega arith
used_fits s Sync e = omega arith

-- ---- by the kind of the call

plain_word : (call : Call) → is_lambda call ≡ false → function_word call ≡ None
plain_word (Readl file off len function fuel cap param) e = absurd (cc)
plain_word (Writel file off len function fuel param input) e = absurd (cc)
plain_word (Create name) e = refl
plain_word (OpenFile name) e = refl
plain_word (Stat name) e = refl
plain_word (Remove name) e = refl
plain_word (Read name off n) e = refl
plain_word (Write name off bytes) e = refl
plain_word (Append name bytes) e = refl
plain_word (Trunc name n) e = refl
plain_word (Seal name) e = refl
plain_word (Load name bytes) e = refl
plain_word (Unload name) e = refl
plain_word Sync e = refl

-- where no function runs, what it would have used is nothing to any
pub learns_same : (call : Call) (used used2 n : ℕ) (fs : List Function) → (is_lambda call ≡ true → used ≡ used2) → map (learnt (function_word call) used n) fs ≡ map (learnt (function_word call) used2 n) fs
learns_same call used used2 n fs h = go (is_lambda call) refl
  where
    go : (t : Bool) → is_lambda call ≡ t → map (learnt (function_word call) used n) fs ≡ map (learnt (function_word call) used2 n) fs
    go true e = ap (λ (u : ℕ). map (learnt (function_word call) u n) fs) (h e)
    go false e =
        let w = plain_word call e in
        ap (λ (o : Option (List ℕ)). map (learnt o used n) fs) w ∙ (learns_none used n fs ∙ (sym (learns_none used2 n fs) ∙ ap (λ (o : Option (List ℕ)). map (learnt o used2 n) fs) (sym w)))

-- the fuel that a function used fits
pub some_fits : (s : State) (call : Call) (used : ℕ) (name : List ℕ) → early s call ≡ None → (is_lambda call ≡ true → used ≡ used_of (outcome_of s call) (fuel_of call)) → function_word call ≡ Some name → used ≤ 2 ^ 32
some_fits s call used name e h w = go (is_lambda call) refl
  where
    go : (t : Bool) → is_lambda call ≡ t → used ≤ 2 ^ 32
    go true k = let a = h k in let b = used_fits s call e in omega arith
    go false k = absurd (let z = plain_word call k in cc)
