-- What the generator comes to at each connective.
use Rattle.std.proofs.Common.{◌≡◌, ℕ, ◌+◌, ◌<◌, ◌≤◌, ◌^◌, List, ◌++◌, take, drop, Result, Ok, Err, refl, sym, ap, ◌∙◌, append_assoc, arith}
use Rattle.std.specs.Prelude.{OnOk}
use Rattle.std.proofs.lemmas.List.{take-append-drop}
use Rattle.sbpf_insn.specs.declared.insn.Insn.{Insn}
use Rattle.sbpf_insn.specs.declared.insn.Insn.TheVariants as insn
use Rattle.sbpf_insn.specs.Decoded.{slots_of}
use Rattle.sbpf_insn.specs.Cells.{slots}
use Rattle.pred_compile.proofs.Places.{slots_both}
use Rattle.predicates.specs.declared.pred.Pred.{Pred}
use Rattle.predicates.specs.declared.pred.Pred.TheBlock as block
use Rattle.predicates.specs.declared.pred.Pred.TheVariants.{And, Or, Not}
use Rattle.pred_compile.specs.Generated.{code_slots, pred_code}
use denote.Hole.Carrier.{hidden}

pub slots-and : (a b : Pred) → code_slots (And a b) ≡ code_slots a + code_slots b
unfolding block.hidden-the_row-Pred-0 hidden
slots-and a b = refl

pub slots-or : (a b : Pred) → code_slots (Or a b) ≡ code_slots a + code_slots b
unfolding block.hidden-the_row-Pred-0 hidden
slots-or a b = refl

pub slots-not : (a : Pred) → code_slots (Not a) ≡ code_slots a
unfolding block.hidden-the_row-Pred-0 hidden
slots-not a = refl

pub code-and : (a b : Pred) (t f : ℕ) → pred_code (And a b) t f ≡ pred_code a 0 (code_slots b + f) ++ pred_code b t f
unfolding block.hidden-the_row-Pred-0 hidden
code-and a b t f = refl

pub code-or : (a b : Pred) (t f : ℕ) → pred_code (Or a b) t f ≡ pred_code a (code_slots b + t) 0 ++ pred_code b t f
unfolding block.hidden-the_row-Pred-0 hidden
code-or a b t f = refl

pub code-not : (a : Pred) (t f : ℕ) → pred_code (Not a) t f ≡ pred_code a f t
unfolding block.hidden-the_row-Pred-0 hidden
code-not a t f = refl

-- a part written behind another
pub two_parts : (x y z p a b : List Insn) → y ≡ x ++ a → z ≡ y ++ b → p ≡ a ++ b → z ≡ x ++ p
two_parts x y z p a b first second parts = second ∙ ap (λ (t : List Insn). t ++ b) first ∙ append_assoc x a b ∙ ap (λ (t : List Insn). x ++ t) (sym parts)

pub and_parts : (p a b ga gb : Pred) (r t f : ℕ) → p ≡ And a b → ga ≡ a → gb ≡ b → r ≡ code_slots b → pred_code p t f ≡ pred_code ga 0 (r + f) ++ pred_code gb t f
and_parts p a b ga gb r t f e ea eb er = rw (e, ea, eb, er) (code-and a b t f)

pub or_parts : (p a b ga gb : Pred) (r t f : ℕ) → p ≡ Or a b → ga ≡ a → gb ≡ b → r ≡ code_slots b → pred_code p t f ≡ pred_code ga (r + t) 0 ++ pred_code gb t f
or_parts p a b ga gb r t f e ea eb er = rw (e, ea, eb, er) (code-or a b t f)

pub not_part : (p a ga : Pred) (t f : ℕ) → p ≡ Not a → ga ≡ a → pred_code p t f ≡ pred_code ga f t
not_part p a ga t f e ea = rw (e, ea) (code-not a t f)

-- where a step was Ok
pub joined : {E : Type 0} (r : Result (Unit {0}) E) (x y z p a b : List Insn) → y ≡ x ++ a → p ≡ a ++ b → OnOk r (z ≡ y ++ b) → OnOk r (z ≡ x ++ p)
joined (Ok u) x y z p a b first parts second = two_parts x y z p a b first second parts
joined (Err e) x y z p a b first parts second = tt

pub renamed : {E : Type 0} (r : Result (Unit {0}) E) (x z p a : List Insn) → p ≡ a → OnOk r (z ≡ x ++ a) → OnOk r (z ≡ x ++ p)
renamed (Ok u) x z p a same all = all ∙ ap (λ (t : List Insn). x ++ t) (sym same)
renamed (Err e) x z p a same all = tt

-- ---- code made of a front of its instructions

two_slots : (i : Insn) → slots_of i ≤ 2
two_slots (insn.LoadWide dst value) = omega arith
two_slots _ = omega arith

pub room_left : (c xs : List Insn) (k : ℕ) (i : Insn) → c ≡ take k xs → slots xs ≤ 4096 → slots c + slots_of i < 2 ^ 32
room_left c xs k i e short =
    let whole : slots (take k xs ++ drop k xs) ≡ slots xs = ap slots (take-append-drop k xs) in
    omega (arith, ap slots e, whole, slots_both (take k xs) (drop k xs), two_slots i)
