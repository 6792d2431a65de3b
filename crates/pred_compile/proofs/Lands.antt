-- The code of a predicate is accepted: its jumps land on instructions, and it ends with EXIT.
use Rattle.std.proofs.Common.{◌≡◌, ℕ, suc, ◌+◌, ◌-◌, ◌*◌, ◌<◌, ◌≤◌, ℤ, pos, negsuc, Bool, true, false, List, [], ◌∷◌, ◌++◌, length, Option, Some, None, refl, sym, ap, ◌∙◌, arith, ◌⊎◌, inl, inr, subst, length-append}
use Rattle.std.specs.Prelude.{is_some, ◌&&◌, nat_lt}
use lib.IntN.{sub_ℕ}
use Rattle.std.specs.List.{list_all}
use Rattle.std.proofs.lemmas.Bool.Decides.{nat_tests}
use Rattle.std.proofs.lemmas.List.Folds.{list_all-append}
use Rattle.sbpf_insn.specs.declared.insn.Insn.{Insn}
use Rattle.sbpf_insn.specs.declared.insn.Insn.TheVariants as insn
use Rattle.sbpf_insn.specs.Decoded.{slots_of}
use Rattle.sbpf_insn.specs.Cells.{slots, at_slot}
use Rattle.sbpf_insn.specs.Table.{is_well_formed}
use Rattle.sbpf_insn.specs.Accepted.{IsAccepted, jump_of, call_of, writes_r10, is_end, is_first, destination}
use Rattle.predicates.specs.declared.pred.PredCond.{PredCond}
use Rattle.predicates.specs.declared.pred.Pred.{Pred, Cmp, And', Or', Not', more_of-Pred, end_of-Pred}
use Rattle.predicates.specs.Nodes.{preorder, nodes}
use Rattle.pred_compile.specs.Generated.{is_short, slots_where, code_slots, cmp_where, pred_code, opening, record_test, taking, going_on, ending, framed, pred_program}
use Rattle.pred_compile.proofs.Places.{HasAt, has_front, has_back, has_all, has_moved, AllAt, all_join, all_here, all_moved, slots_both}

-- ---- how long the code is

slots-cmp_where : (short : Bool) (c : PredCond) (off size v t f : ℕ) → slots (cmp_where short c off size v t f) ≡ slots_where short
slots-cmp_where true c off size v t f = refl
slots-cmp_where false c off size v t f = refl

pub slots-pred_code : (p : Pred) (t f : ℕ) → slots (pred_code p t f) ≡ code_slots p
slots-pred_code (Cmp c off size v) t f = slots-cmp_where (is_short v) c off size v t f
slots-pred_code (And' s (more_of-Pred a end_of-Pred) s' (more_of-Pred b end_of-Pred)) t f =
    slots_both (pred_code a 0 (code_slots b + f)) (pred_code b t f) ∙ omega (arith, slots-pred_code a 0 (code_slots b + f), slots-pred_code b t f)
slots-pred_code (Or' s (more_of-Pred a end_of-Pred) s' (more_of-Pred b end_of-Pred)) t f =
    slots_both (pred_code a (code_slots b + t) 0) (pred_code b t f) ∙ omega (arith, slots-pred_code a (code_slots b + t) 0, slots-pred_code b t f)
slots-pred_code (Not' s (more_of-Pred a end_of-Pred)) t f = slots-pred_code a f t

five_at_most : (short : Bool) → slots_where short ≤ 5
five_at_most true = omega arith
five_at_most false = omega arith

pub few_slots : (p : Pred) → code_slots p ≤ 5 * nodes p
few_slots (Cmp c off size v) = five_at_most (is_short v)
few_slots (And' s (more_of-Pred a end_of-Pred) s' (more_of-Pred b end_of-Pred)) = omega (arith, few_slots a, few_slots b, length-append (preorder a) (preorder b))
few_slots (Or' s (more_of-Pred a end_of-Pred) s' (more_of-Pred b end_of-Pred)) = omega (arith, few_slots a, few_slots b, length-append (preorder a) (preorder b))
few_slots (Not' s (more_of-Pred a end_of-Pred)) = omega (arith, few_slots a)

-- ---- each instruction is well formed

join : (a b : List Insn) → list_all is_well_formed a ≡ true → list_all is_well_formed b ≡ true → list_all is_well_formed (a ++ b) ≡ true
join a b x y = list_all-append is_well_formed a b ∙ rw (x, y) refl

formed-cmp_where : (short : Bool) (c : PredCond) (off size v t f : ℕ) → list_all is_well_formed (cmp_where short c off size v t f) ≡ true
formed-cmp_where true c off size v t f = refl
formed-cmp_where false c off size v t f = refl

pub formed-pred_code : (p : Pred) (t f : ℕ) → list_all is_well_formed (pred_code p t f) ≡ true
formed-pred_code (Cmp c off size v) t f = formed-cmp_where (is_short v) c off size v t f
formed-pred_code (And' s (more_of-Pred a end_of-Pred) s' (more_of-Pred b end_of-Pred)) t f =
    join (pred_code a 0 (code_slots b + f)) (pred_code b t f) (formed-pred_code a 0 (code_slots b + f)) (formed-pred_code b t f)
formed-pred_code (Or' s (more_of-Pred a end_of-Pred) s' (more_of-Pred b end_of-Pred)) t f =
    join (pred_code a (code_slots b + t) 0) (pred_code b t f) (formed-pred_code a (code_slots b + t) 0) (formed-pred_code b t f)
formed-pred_code (Not' s (more_of-Pred a end_of-Pred)) t f = formed-pred_code a f t

pub formed : (p : Pred) (w : ℕ) → list_all is_well_formed (pred_program p w) ≡ true
formed p w = join (pred_code p 0 3) (taking ++ (going_on (code_slots p) w ++ ending)) (formed-pred_code p 0 3) refl

-- ---- where jumps land

abbrev First : List Insn → ℕ → Type 0
First code s = is_some (at_slot code s) ≡ true

-- what accepted code asks of an instruction at a slot
record Good (code : List Insn) (s : ℕ) (i : Insn) : Type 0 where
  jumps : (k : ℤ) → jump_of i ≡ Some k → is_first code (destination s k) ≡ true
  calls : call_of i ≡ None
  keeps : writes_r10 i ≡ false
  ends : (is_end i ≡ true) ⊎ (s + slots_of i < slots code)

-- an instruction that neither jumps nor ends
plain : (code : List Insn) (s : ℕ) (i : Insn) → jump_of i ≡ None → call_of i ≡ None → writes_r10 i ≡ false → s + slots_of i < slots code → Good code s i
plain code s i none calls keeps within = record {
  jumps = λ k e. let no' : None ≡ Some k = sym none ∙ e in absurd cc;
  calls = calls;
  keeps = keeps;
  ends = inr within;
}

lands : (code : List Insn) (s d to : ℕ) (k : ℤ) → Some (pos d) ≡ Some k → s + 1 + d ≡ to → First code to → is_first code (destination s k) ≡ true
lands code s d to k is at first =
    let e : pos d ≡ k = cc in
    subst (λ (z : ℤ). is_first code (destination s z) ≡ true) e (ap (λ (n : ℕ). is_some (at_slot code n)) at ∙ first)

good_cmp : (code : List Insn) (short : Bool) (s t f : ℕ) (c : PredCond) (off size v : ℕ) → First code (s + slots_where short + t) → First code (s + slots_where short + f) → s + slots_where short < slots code → AllAt (Good code) s (cmp_where short c off size v t f)
good_cmp code true s t f c off size v to_true to_false within = (
  plain code s _ refl refl refl (omega arith),
  (
    record {
      jumps = λ k e. lands code (s + 1) (t + 1) (s + 3 + t) k e (omega arith) to_true;
      calls = refl;
      keeps = refl;
      ends = inr (omega arith);
    },
    (
      record {
        jumps = λ k e. lands code (s + 1 + 1) f (s + 3 + f) k e (omega arith) to_false;
        calls = refl;
        keeps = refl;
        ends = inl refl;
      },
      tt,
    ),
  ),
)
good_cmp code false s t f c off size v to_true to_false within = (
  plain code s _ refl refl refl (omega arith),
  (
    plain code (s + 1) _ refl refl refl (omega arith),
    (
      record {
        jumps = λ k e. lands code (s + 1 + 2) (t + 1) (s + 5 + t) k e (omega arith) to_true;
        calls = refl;
        keeps = refl;
        ends = inr (omega arith);
      },
      (
        record {
          jumps = λ k e. lands code (s + 1 + 2 + 1) f (s + 5 + f) k e (omega arith) to_false;
          calls = refl;
          keeps = refl;
          ends = inl refl;
        },
        tt,
      ),
    ),
  ),
)

first_of : (code : List Insn) (p : Pred) (s t f : ℕ) → HasAt code s (pred_code p t f) → First code s
first_of code (Cmp c off size v) s t f h = ap is_some h.0
first_of code (And' x (more_of-Pred a end_of-Pred) y (more_of-Pred b end_of-Pred)) s t f h = first_of code a s 0 (code_slots b + f) (has_front code s (pred_code a 0 (code_slots b + f)) (pred_code b t f) h)
first_of code (Or' x (more_of-Pred a end_of-Pred) y (more_of-Pred b end_of-Pred)) s t f h = first_of code a s (code_slots b + t) 0 (has_front code s (pred_code a (code_slots b + t) 0) (pred_code b t f) h)
first_of code (Not' x (more_of-Pred a end_of-Pred)) s t f h = first_of code a s f t h

first_at : (code : List Insn) (s t : ℕ) → s ≡ t → First code s → First code t
first_at code s t e h = subst (First code) e h

-- the second of two parts
pub second_at : (code : List Insn) (s n : ℕ) (a b : List Insn) → slots a ≡ n → HasAt code s (a ++ b) → HasAt code (s + n) b
second_at code s n a b e h = has_moved code (s + slots a) (s + n) b (ap (λ (k : ℕ). s + k) e) (has_back code s a b h)

good_pred : (code : List Insn) (p : Pred) (s t f : ℕ) → HasAt code s (pred_code p t f) → First code (s + code_slots p + t) → First code (s + code_slots p + f) → s + code_slots p < slots code → AllAt (Good code) s (pred_code p t f)
good_pred code (Cmp c off size v) s t f h to_true to_false within = good_cmp code (is_short v) s t f c off size v to_true to_false within
good_pred code (And' x (more_of-Pred a end_of-Pred) y (more_of-Pred b end_of-Pred)) s t f h to_true to_false within =
    let ca = pred_code a 0 (code_slots b + f) in
    let cb = pred_code b t f in
    let la = slots-pred_code a 0 (code_slots b + f) in
    let hb : HasAt code (s + code_slots a) cb = second_at code s (code_slots a) ca cb la h in
    let e0 : s + code_slots a ≡ s + code_slots a + 0 = omega arith in
    let e1 : s + (code_slots a + code_slots b) + f ≡ s + code_slots a + (code_slots b + f) = omega arith in
    let e2 : s + (code_slots a + code_slots b) + t ≡ s + code_slots a + code_slots b + t = omega arith in
    let e3 : s + (code_slots a + code_slots b) + f ≡ s + code_slots a + code_slots b + f = omega arith in
    all_join (Good code) s (s + code_slots a) ca cb (omega (arith, la))
    (good_pred code a s 0 (code_slots b + f) (has_front code s ca cb h) (first_at code _ _ e0 (first_of code b (s + code_slots a) t f hb)) (first_at code _ _ e1 to_false) (omega arith))
    (good_pred code b (s + code_slots a) t f hb (first_at code _ _ e2 to_true) (first_at code _ _ e3 to_false) (omega arith))
good_pred code (Or' x (more_of-Pred a end_of-Pred) y (more_of-Pred b end_of-Pred)) s t f h to_true to_false within =
    let ca = pred_code a (code_slots b + t) 0 in
    let cb = pred_code b t f in
    let la = slots-pred_code a (code_slots b + t) 0 in
    let hb : HasAt code (s + code_slots a) cb = second_at code s (code_slots a) ca cb la h in
    let e0 : s + code_slots a ≡ s + code_slots a + 0 = omega arith in
    let e1 : s + (code_slots a + code_slots b) + t ≡ s + code_slots a + (code_slots b + t) = omega arith in
    let e2 : s + (code_slots a + code_slots b) + t ≡ s + code_slots a + code_slots b + t = omega arith in
    let e3 : s + (code_slots a + code_slots b) + f ≡ s + code_slots a + code_slots b + f = omega arith in
    all_join (Good code) s (s + code_slots a) ca cb (omega (arith, la))
    (good_pred code a s (code_slots b + t) 0 (has_front code s ca cb h) (first_at code _ _ e1 to_true) (first_at code _ _ e0 (first_of code b (s + code_slots a) t f hb)) (omega arith))
    (good_pred code b (s + code_slots a) t f hb (first_at code _ _ e2 to_true) (first_at code _ _ e3 to_false) (omega arith))
good_pred code (Not' x (more_of-Pred a end_of-Pred)) s t f h to_true to_false within = good_pred code a s f t h to_false to_true within

-- ---- the whole program

-- where its parts stand, for a predicate of n slots
pub record Parts (code : List Insn) (p : Pred) (w n : ℕ) : Type 0 where
  pub opens : HasAt code 0 opening
  pub tests : HasAt code 3 (record_test n w)
  pub inner : HasAt code 4 (pred_code p 0 3)
  pub takes : HasAt code (4 + n) taking
  pub goes : HasAt code (7 + n) (going_on n w)
  pub ends : HasAt code (11 + n) ending

pub parts : (p : Pred) (w : ℕ) → Parts (pred_program p w) p w (code_slots p)
parts p w =
    let n = code_slots p in
    let code = pred_program p w in
    let inner = pred_code p 0 3 in
    let long = slots-pred_code p 0 3 in
    let last : List Insn = going_on n w ++ ending in
    let late : List Insn = taking ++ last in
    let later : List Insn = inner ++ late in
    let behind : List Insn = record_test n w ++ later in
    let all : HasAt code 0 code = has_all [] code in
    let h3 : HasAt code 3 behind = second_at code 0 3 opening behind refl all in
    let h4 : HasAt code 4 later = second_at code 3 1 (record_test n w) later refl h3 in
    let h5 : HasAt code (4 + n) late = second_at code 4 n inner late long h4 in
    let e7 : 4 + n + 3 ≡ 7 + n = omega arith in
    let h7 : HasAt code (7 + n) last = has_moved code (4 + n + 3) (7 + n) last e7 (second_at code (4 + n) 3 taking last refl h5) in
    let e11 : 7 + n + 4 ≡ 11 + n = omega arith in
    record {
      opens = has_front code 0 opening behind all;
      tests = has_front code 3 (record_test n w) later h3;
      inner = has_front code 4 inner late h4;
      takes = has_front code (4 + n) taking last h5;
      goes = has_front code (7 + n) (going_on n w) ending h7;
      ends = has_moved code (7 + n + 4) (11 + n) ending e11 (second_at code (7 + n) 4 (going_on n w) ending refl h7);
    }

pub slots-program : (p : Pred) (w : ℕ) → slots (pred_program p w) ≡ 12 + code_slots p
slots-program p w =
    let n = code_slots p in
    let inner = pred_code p 0 3 in
    let a : slots (going_on n w ++ ending) ≡ 5 = refl in
    let b : slots (taking ++ (going_on n w ++ ending)) ≡ 8 = refl in
    let c = slots_both inner (taking ++ (going_on n w ++ ending)) in
    let d = slots_both opening (record_test n w ++ (inner ++ (taking ++ (going_on n w ++ ending)))) in
    let e = slots_both (record_test n w) (inner ++ (taking ++ (going_on n w ++ ending))) in
    let f : slots opening ≡ 3 = refl in
    let g : slots (record_test n w) ≡ 1 = refl in
    omega (arith, b, c, d, e, f, g, slots-pred_code p 0 3)

three_back : (a b : ℕ) → a ≡ b + 3 → sub_ℕ a b ≡ pos 3
three_back a b e =
    let f : nat_lt a b ≡ false = grind (arith, nat_tests) in
    let d : a - b ≡ 3 = omega arith in
    rw (f, d) refl

back_to : (code : List Insn) (n : ℕ) (k : ℤ) → Some (negsuc (n + 7)) ≡ Some k → First code 3 → is_first code (destination (7 + n + 1 + 1 + 1) k) ≡ true
back_to code n k is first =
    let e : negsuc (n + 7) ≡ k = cc in
    let three : sub_ℕ (7 + n + 1 + 1 + 1 + 1) (suc (n + 7)) ≡ pos 3 = three_back (7 + n + 1 + 1 + 1 + 1) (suc (n + 7)) (omega arith) in
    subst (λ (z : ℤ). is_first code (destination (7 + n + 1 + 1 + 1) z) ≡ true) e (ap (λ (z : ℤ). is_first code z) three ∙ first)

good_program : (code : List Insn) (p : Pred) (w n : ℕ) → n ≡ code_slots p → slots code ≡ 12 + n → Parts code p w n → AllAt (Good code) 0 (framed n w (pred_code p 0 3))
good_program code p w n same long has =
    let inner = pred_code p 0 3 in
    let size : slots inner ≡ n = slots-pred_code p 0 3 ∙ sym same in
    let last : List Insn = going_on n w ++ ending in
    let late : List Insn = taking ++ last in
    let later : List Insn = inner ++ late in
    let behind : List Insn = record_test n w ++ later in
    let f3 : First code 3 = ap is_some has.tests.0 in
    let e4 : 4 + n + 0 ≡ 4 + n = omega arith in
    let e7 : 4 + n + 3 ≡ 7 + n = omega arith in
    let f4 : First code (4 + n + 0) = ap (λ (k : ℕ). is_some (at_slot code k)) e4 ∙ ap is_some has.takes.0 in
    let f7 : First code (4 + n + 3) = ap (λ (k : ℕ). is_some (at_slot code k)) e7 ∙ ap is_some has.goes.0 in
    let f11 : First code (11 + n) = ap is_some has.ends.0 in
    let g0 : AllAt (Good code) 0 opening = (plain code 0 _ refl refl refl (omega arith), (plain code 1 _ refl refl refl (omega arith), (plain code 2 _ refl refl refl (omega arith), tt))) in
    let g3 : AllAt (Good code) 3 (record_test n w) = (
      record {
        jumps = λ k e. lands code 3 (n + 7) (11 + n) k e (omega arith) f11;
        calls = refl;
        keeps = refl;
        ends = inr (omega arith);
      },
      tt,
    ) in
    let g4 : AllAt (Good code) 4 inner = good_pred code p 4 0 3 has.inner (subst (λ (k : ℕ). First code (4 + k + 0)) same f4) (subst (λ (k : ℕ). First code (4 + k + 3)) same f7) (omega (arith, same)) in
    let g5 : AllAt (Good code) (4 + n) taking = (plain code (4 + n) _ refl refl refl (omega arith), (plain code (4 + n + 1) _ refl refl refl (omega arith), (plain code (4 + n + 1 + 1) _ refl refl refl (omega arith), tt))) in
    let g7 : AllAt (Good code) (7 + n) (going_on n w) = (
      plain code (7 + n) _ refl refl refl (omega arith),
      (
        plain code (7 + n + 1) _ refl refl refl (omega arith),
        (
          plain code (7 + n + 1 + 1) _ refl refl refl (omega arith),
          (
            record {
              jumps = λ k e. back_to code n k e f3;
              calls = refl;
              keeps = refl;
              ends = inl refl;
            },
            tt,
          ),
        ),
      ),
    ) in
    let g11 : AllAt (Good code) (11 + n) ending = (
      record {
        jumps = λ k e. absurd cc;
        calls = refl;
        keeps = refl;
        ends = inl refl;
      },
      tt,
    ) in
    all_join (Good code) 0 3 opening behind refl g0
    (all_join (Good code) 3 4 (record_test n w) later refl g3
    (all_join (Good code) 4 (4 + n) inner late (omega (arith, size)) g4
    (all_join (Good code) (4 + n) (7 + n) taking last (let k : slots taking ≡ 3 = refl in omega (arith, k)) g5
    (all_join (Good code) (7 + n) (11 + n) (going_on n w) ending (let k : slots (going_on n w) ≡ 4 = refl in omega (arith, k)) g7 g11))))

accepted_if : (code : List Insn) → AllAt (Good code) 0 code → 1 ≤ slots code → slots code ≤ 4096 → IsAccepted code
accepted_if code all some short = record {
  some = some;
  short = short;
  jumps = λ s i k at is. (here s i at).jumps k is;
  calls = λ s i k at is. let no' : None ≡ Some k = sym ((here s i at).calls) ∙ is in absurd cc;
  keeps = λ s i at. (here s i at).keeps;
  ends = λ s i at last. not_behind s i (here s i at).ends last;
}
  where
    here : (s : ℕ) (i : Insn) → at_slot code s ≡ Some i → Good code s i
    here s i at = let e : 0 + s ≡ s = omega arith in subst (λ (k : ℕ). Good code k i) e (all_here (Good code) 0 s i code all at)

    not_behind : (s : ℕ) (i : Insn) → (is_end i ≡ true) ⊎ (s + slots_of i < slots code) → s + slots_of i ≡ slots code → is_end i ≡ true
    not_behind s i (inl yes') last = yes'
    not_behind s i (inr lt) last = absurd (omega (arith, lt, last))

pub program_accepted : (p : Pred) (w : ℕ) → nodes p ≤ 200 → IsAccepted (pred_program p w)
program_accepted p w few =
    let code = pred_program p w in
    let long = slots-program p w in
    accepted_if code (good_program code p w (code_slots p) refl long (parts p w)) (omega (arith, long)) (omega (arith, long, few_slots p, few))
