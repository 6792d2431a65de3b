-- Two homecomings in one core, of one die, that fit the same plan, have one answer.
use Rattle.std.proofs.Common.{◌≡◌, ℕ, Bool, true, false, List, [], Option, Some, None, refl, sym, ap}
use Rattle.std.specs.Prelude.{is_some, IfSome}
use Rattle.core_state.specs.declared.event.Event.{Event}
use Rattle.core_state.specs.declared.event.Event.TheVariants.{FillIn, FlushIn, MetaIn}
use Rattle.core_state.specs.State.{Out, Core}
use Rattle.core_state.specs.Happens.{May, is_homecoming}
use Rattle.core_solo.specs.Served.{told_by}

-- from what a die comes home, and which die
abbrev pub way_of : Event → Option (Bool × ℕ)
way_of (FillIn actor die good) = Some (false, die)
way_of (FlushIn actor die good left) = Some (true, die)
way_of (MetaIn actor die good left) = Some (true, die)
way_of _ = None

-- where only one die can be out, two that come home come the same way
pub one_way : (c : Core) → ((d e : ℕ) (x y : Out) → (c.dies d).out ≡ Some x → (c.dies e).out ≡ Some y → (d ≡ e) × (x ≡ y)) → (e f : Event) → May c e → May c f → is_homecoming e ≡ true → is_homecoming f ≡ true → way_of e ≡ way_of f
one_way c one (FillIn a1 d1 g1) (FillIn a2 d2 g2) m n p q = ap (λ (d : ℕ). Some (false, d)) (one d1 d2 _ _ m.out n.out).0
one_way c one (FlushIn a1 d1 g1 l1) (FlushIn a2 d2 g2 l2) m n p q = ap (λ (d : ℕ). Some (true, d)) (one d1 d2 _ _ m.out n.out).0
one_way c one (FlushIn a1 d1 g1 l1) (MetaIn a2 d2 g2 l2) m n p q = ap (λ (d : ℕ). Some (true, d)) (one d1 d2 _ _ m.out n.out).0
one_way c one (MetaIn a1 d1 g1 l1) (FlushIn a2 d2 g2 l2) m n p q = ap (λ (d : ℕ). Some (true, d)) (one d1 d2 _ _ m.out n.out).0
one_way c one (MetaIn a1 d1 g1 l1) (MetaIn a2 d2 g2 l2) m n p q = ap (λ (d : ℕ). Some (true, d)) (one d1 d2 _ _ m.out n.out).0
one_way c one (FillIn a1 d1 g1) (FlushIn a2 d2 g2 l2) m n p q = absurd (let k = ap (λ (o : Out). o.errand) (one d1 d2 _ _ m.out n.out).1 in cc)
one_way c one (FillIn a1 d1 g1) (MetaIn a2 d2 g2 l2) m n p q = absurd (let k = ap (λ (o : Out). o.errand) (one d1 d2 _ _ m.out n.out).1 in cc)
one_way c one (FlushIn a1 d1 g1 l1) (FillIn a2 d2 g2) m n p q = absurd (let k = ap (λ (o : Out). o.errand) (one d1 d2 _ _ m.out n.out).1 in cc)
one_way c one (MetaIn a1 d1 g1 l1) (FillIn a2 d2 g2) m n p q = absurd (let k = ap (λ (o : Out). o.errand) (one d1 d2 _ _ m.out n.out).1 in cc)
one_way c one e f m n p q = absurd (cc)

-- a homecoming tells, and no other event does
pub tells : (e : Event) → is_some (told_by e) ≡ is_homecoming e
tells (FillIn actor die good) = refl
tells (FlushIn actor die good left) = refl
tells (MetaIn actor die good left) = refl
tells _ = refl

-- one answer for two events, which tell the same where both tell
pub one_answer : (x y : Option (Bool × List ℕ)) → (is_some x ≡ true → is_some y ≡ true → x ≡ y) → (a : Bool × List ℕ) × IfSome x (λ b. b ≡ a) × IfSome y (λ b. b ≡ a)
one_answer None None same = ((true, []), tt, tt)
one_answer None (Some y) same = (y, tt, refl)
one_answer (Some x) None same = (x, refl, tt)
one_answer (Some x) (Some y) same = (x, refl, (let e : Some y ≡ Some x = sym (same refl refl) in cc))
