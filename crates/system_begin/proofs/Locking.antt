-- A lock that is given back at once leaves the ranges as they were.
use Rattle.std.proofs.Common.{◌≡◌, ℕ, zero, suc, ◌+◌, ◌<◌, ◌≤◌, Bool, true, false, List, [], ◌∷◌, length, length-set, get_or, set, Option, Some, None, refl, sym, ap, ◌∙◌, arith}
use Rattle.std.specs.Prelude.{nat_lt, is_some, if◌then◌else◌}
use Rattle.std.proofs.lemmas.Bool.Decides.{nat_tests}
use Rattle.std.proofs.lemmas.List.{get_or-set_same}
use Rattle.range_locks.specs.declared.range.Range.{Range}
use Rattle.range_locks.specs.Held.{Ranged, held_by, with_held}
use Rattle.system_state.specs.declared.not_yet.NotYet.{NotYet}
use Rattle.system_state.specs.declared.not_yet.NotYet.TheVariants.{Conflict, NoRoom}
use Rattle.system_begin.specs.Begun.{waits_for}

pub found_some : (t : Bool) (o : Option ℕ) (l : ℕ) → t ≡ true → o ≡ Some l → (if t then o else None) ≡ Some l
found_some t o l e f = ap (λ (w : Bool). if w then o else None) e ∙ f

pub found_none : (t : Bool) (o : Option ℕ) → (t ≡ true → o ≡ None) → (if t then o else None) ≡ None
found_none true o f = f refl
found_none false o f = refl

above : (u f : ℕ) → f < u → nat_lt f u ≡ true
above u f l = grind (arith, nat_tests)

within : (u f : ℕ) → u ≤ f → nat_lt f u ≡ false
within u f l = grind (arith, nat_tests)

pub waits_room : (o : Option ℕ) (u n f : ℕ) → o ≡ None → f < u + n → waits_for o u n f ≡ Some (NoRoom u n)
waits_room o u n f e l = ap (λ (w : Option ℕ). waits_for w u n f) e ∙ ap (λ (t : Bool). if t then Some (NoRoom u n) else None) (above (u + n) f l)

pub waits_not : (o : Option ℕ) (u n f : ℕ) → o ≡ None → u + n ≤ f → waits_for o u n f ≡ None
waits_not o u n f e l = ap (λ (w : Option ℕ). waits_for w u n f) e ∙ ap (λ (t : Bool). if t then Some (NoRoom u n) else None) (within (u + n) f l)

twice : (xs : List (Option Range)) (l : ℕ) (o : Option Range) → get_or xs l None ≡ None → l < length xs → set (set xs l o) l None ≡ xs
twice [] l o e m = absurd (omega arith)
twice (x ∷ xs) zero o e m = ap (λ (y : Option Range). y ∷ xs) (sym e)
twice (x ∷ xs) (suc l) o e m = ap (λ (ys : List (Option Range)). x ∷ ys) (twice xs l o e (omega arith))

once : (xs : List (Option Range)) (l : ℕ) → get_or xs l None ≡ None → l < length xs → set xs l None ≡ xs
once [] l e m = absurd (omega arith)
once (x ∷ xs) zero e m = ap (λ (y : Option Range). y ∷ xs) (sym e)
once (x ∷ xs) (suc l) e m = ap (λ (ys : List (Option Range)). x ∷ ys) (once xs l e (omega arith))

pub given_back : (t : Bool) (s a b : Ranged) (l : ℕ) (r : Range) → a ≡ with_held s l (if t then Some r else None) → b ≡ (if t then with_held a l None else a) → held_by s l ≡ None → l < length s.held → b ≡ s
given_back true s a b l r e f n m = f ∙ (ap (λ (x : Ranged). with_held x l None) e ∙ ap (λ (xs : List (Option Range)). record s { held = xs }) (twice s.held l (Some r) n m))
given_back false s a b l r e f n m = f ∙ (e ∙ ap (λ (xs : List (Option Range)). record s { held = xs }) (once s.held l n m))

pub taken_lock : (t : Bool) (s a : Ranged) (l : ℕ) (r : Range) → a ≡ with_held s l (if t then Some r else None) → l < length s.held → t ≡ true → is_some (held_by a l) ≡ true
taken_lock t s a l r e m g =
    ap (λ (x : Ranged). is_some (held_by x l)) (e ∙ ap (λ (w : Bool). with_held s l (if w then Some r else None)) g)
    ∙ ap is_some (get_or-set_same s.held l (Some r) None m)

pub still_in : (s a : Ranged) (l : ℕ) (o : Option Range) → a ≡ with_held s l o → l < length s.held → l < length a.held
still_in s a l o e m = let z = ap (λ (x : Ranged). length x.held) e in let y = length-set s.held l o in omega arith
