-- Steps of the walks along a list.
use Rattle.std.proofs.Common.{◌≡◌, ℕ, ◌<◌, ◌≤◌, Bool, true, false, List, [], ◌∷◌, ◌++◌, length, get_or, Option, Some, None, refl, sym, ap, ◌∙◌, subst, ⊎_elim, inl, inr, arith}
use Rattle.std.specs.Prelude.{◌==◌, ◌≢◌, ◌⊎◌, ltb, min, max}
use Rattle.std.proofs.lemmas.Bool.Decides.{nat_tests}
use Rattle.index_lists.specs.Words.{count, first, after, before, IsOnce}
use Rattle.index_lists.specs.Lists.{Lists, list_at, with_list}
use Rattle.index_lists.proofs.Neighbours.{after-here, after-there, count-first, count-after}
use Rattle.index_lists.proofs.Counts.{same_or_not, count-nil, count-here, count-there, count-tail, not_same, once-tail, once-first, before-here, before-there}
use Rattle.range_locks.specs.declared.range.Range.{Range}
use Rattle.range_locks.specs.Held.{hits}
use Rattle.range_locks.specs.Walks.{lesser, one_such, least_in, rest_from, hit_at, first_page, from_at, is_ahead, place_for, inserted, IsRising}

-- what is left of the list
rest-none : (xs : List ℕ) → rest_from None xs ≡ []
unfolding rest_from
rest-none xs = refl

rest-nil : (o : Option ℕ) → rest_from o [] ≡ []
unfolding rest_from
rest-nil None = refl
rest-nil (Some b) = refl

rest-here : (b : ℕ) (xs : List ℕ) → rest_from (Some b) (b ∷ xs) ≡ b ∷ xs
unfolding rest_from
rest-here b xs = let s : (b == b) ≡ true = grind (arith, nat_tests) in rw s refl

rest-there : (b x : ℕ) (xs : List ℕ) → b ≢ x → rest_from (Some b) (x ∷ xs) ≡ rest_from (Some b) xs
unfolding rest_from
rest-there b x xs d = let s : (b == x) ≡ false = grind (arith, nat_tests) in rw s refl

rest-tail : (o : Option ℕ) (x : ℕ) (xs : List ℕ) → ((y : ℕ) → o ≡ Some y → y ≢ x) → rest_from o (x ∷ xs) ≡ rest_from o xs
rest-tail None x xs d = rest-none (x ∷ xs) ∙ sym (rest-none xs)
rest-tail (Some b) x xs d = rest-there b x xs (d b refl)

pub rest-first : (xs : List ℕ) → rest_from (first xs) xs ≡ xs
rest-first [] = rest-nil (first [])
rest-first (x ∷ xs) = rest-here x xs

rest_step_at : (b x : ℕ) (xs : List ℕ) → b ≡ x → IsOnce (x ∷ xs) → rest_from (Some b) (x ∷ xs) ≡ b ∷ rest_from (after b (x ∷ xs)) (x ∷ xs)
rest_step_at b x xs e o =
    subst (λ (w : ℕ). rest_from (Some w) (x ∷ xs) ≡ w ∷ rest_from (after w (x ∷ xs)) (x ∷ xs)) (sym e)
    (rest-here x xs ∙ ap (λ (t : List ℕ). x ∷ t) (sym (ap (λ (q : Option ℕ). rest_from q (x ∷ xs)) (after-here x xs) ∙ rest-tail (first xs) x xs (λ y f g. not_same x y xs (once-first x xs o) (count-first xs y f) (sym g)) ∙ rest-first xs)))

rest_step_there : (b x : ℕ) (xs : List ℕ) → b ≢ x → IsOnce (x ∷ xs) → rest_from (Some b) xs ≡ b ∷ rest_from (after b xs) xs → rest_from (Some b) (x ∷ xs) ≡ b ∷ rest_from (after b (x ∷ xs)) (x ∷ xs)
rest_step_there b x xs d o ih =
    rest-there b x xs d ∙ ih ∙ ap (λ (t : List ℕ). b ∷ t) (sym (ap (λ (q : Option ℕ). rest_from q (x ∷ xs)) (after-there b x xs d) ∙ rest-tail (after b xs) x xs (λ y f g. not_same x y xs (once-first x xs o) (count-after b xs y f) (sym g))))

pub rest_step : (b : ℕ) (xs : List ℕ) → IsOnce xs → 0 < count b xs → rest_from (Some b) xs ≡ b ∷ rest_from (after b xs) xs
rest_step b [] o k = absurd (omega (arith, count-nil b))
rest_step b (x ∷ xs) o k = ⊎_elim (λ (e : b ≡ x). rest_step_at b x xs e o) (λ (d : b ≢ x). rest_step_there b x xs d o (rest_step b xs (once-tail x xs o) (omega (arith, count-there b x xs d)))) (same_or_not b x)

-- the walk ends
pub shorter : (b : ℕ) (xs : List ℕ) (o : Option ℕ) → IsOnce xs → 0 < count b xs → o ≡ after b xs → length (rest_from o xs) < length (rest_from (Some b) xs)
shorter b xs o once k e = let r = ap length (rest_step b xs once k) in let f = ap (λ (q : Option ℕ). length (rest_from q xs)) e in omega arith

-- the lesser of several
pub lesser-none : (o : Option ℕ) → lesser o None ≡ o
lesser-none None = refl
lesser-none (Some a) = refl

min_assoc : (a b c : ℕ) → min (min a b) c ≡ min a (min b c)
min_assoc a b c = omega arith

pub lesser-assoc : (o p q : Option ℕ) → lesser (lesser o p) q ≡ lesser o (lesser p q)
lesser-assoc None p q = refl
lesser-assoc (Some a) None q = refl
lesser-assoc (Some a) (Some b) None = refl
lesser-assoc (Some a) (Some b) (Some c) = ap (λ (w : ℕ). Some w) (min_assoc a b c)

pub least_step : (t : ℕ → Bool) (b : ℕ) (xs : List ℕ) (least new o : Option ℕ) (whole : Option ℕ) → IsOnce xs → 0 < count b xs → lesser least (least_in t (rest_from (Some b) xs)) ≡ whole → new ≡ lesser least (one_such (t b) b) → o ≡ after b xs →
    lesser new (least_in t (rest_from o xs)) ≡ whole
unfolding least_in
least_step t b xs least new o whole once k h e f =
    ap (λ (w : Option ℕ). lesser w (least_in t (rest_from o xs))) e ∙ lesser-assoc least (one_such (t b) b) (least_in t (rest_from o xs))
    ∙ ap (λ (q : Option ℕ). lesser least (lesser (one_such (t b) b) (least_in t (rest_from q xs)))) f
    ∙ sym (ap (λ (ys : List ℕ). lesser least (least_in t ys)) (rest_step b xs once k)) ∙ h

pub least_start : (t : ℕ → Bool) (xs : List ℕ) (o : Option ℕ) → o ≡ first xs → lesser None (least_in t (rest_from o xs)) ≡ least_in t xs
least_start t xs o e = ap (λ (q : Option ℕ). least_in t (rest_from q xs)) e ∙ ap (least_in t) (rest-first xs)

pub least_end : (t : ℕ → Bool) (xs : List ℕ) (least whole o : Option ℕ) → lesser least (least_in t (rest_from o xs)) ≡ whole → o ≡ None → least ≡ whole
unfolding least_in
least_end t xs least whole o h e = sym (lesser-none least) ∙ sym (ap (λ (q : Option ℕ). lesser least (least_in t (rest_from q xs))) e ∙ ap (λ (ys : List ℕ). lesser least (least_in t ys)) (rest-none xs)) ∙ h

least_none_step : (t : ℕ → Bool) (x : ℕ) (xs : List ℕ) → t x ≡ false → least_in t xs ≡ None → lesser (one_such (t x) x) (least_in t xs) ≡ None
least_none_step t x xs e ih = ap (λ (b : Bool). lesser (one_such b x) (least_in t xs)) e ∙ ih

pub least_none : (t : ℕ → Bool) (xs : List ℕ) → ((y : ℕ) → 0 < count y xs → t y ≡ false) → least_in t xs ≡ None
unfolding least_in
least_none t [] h = refl
least_none t (x ∷ xs) h = least_none_step t x xs (h x (omega (arith, count-here x xs))) (least_none t xs (λ y k. h y (omega (arith, count-tail y x xs))))

-- what is behind b begins behind it
rising_at : (held : List (Option Range)) (b x y : ℕ) (xs : List ℕ) → IsRising held (x ∷ xs) → b ≡ x → 0 < count y (x ∷ xs) → from_at held b ≤ from_at held y
unfolding IsRising
rising_at held b x y xs r e k =
    ⊎_elim (λ (f : y ≡ x). let g = ap (from_at held) (e ∙ sym f) in omega arith)
    (λ (d : y ≢ x). let a = r.0 y (omega (arith, count-there y x xs d)) in let g = ap (from_at held) e in grind (arith, nat_tests)) (same_or_not y x)

rising_rest : (held : List (Option Range)) (x : ℕ) (xs : List ℕ) → IsRising held (x ∷ xs) → IsRising held xs
unfolding IsRising
rising_rest held x xs r = r.1

pub rising_behind : (held : List (Option Range)) (b y : ℕ) (xs : List ℕ) → IsRising held xs → 0 < count y (rest_from (Some b) xs) → from_at held b ≤ from_at held y
rising_behind held b y [] r k = let e = ap (count y) (rest-nil (Some b)) in absurd (omega (arith, count-nil y))
rising_behind held b y (x ∷ xs) r k =
    ⊎_elim (λ (e : b ≡ x). rising_at held b x y xs r e (subst (λ (t : List ℕ). 0 < count y t) (ap (λ (w : ℕ). rest_from (Some w) (x ∷ xs)) e ∙ rest-here x xs) k))
    (λ (d : b ≢ x). rising_behind held b y xs (rising_rest held x xs r) (subst (λ (t : List ℕ). 0 < count y t) (rest-there b x xs d) k)) (same_or_not b x)

-- a range that begins behind another one does not stand against it
pub behind_misses : (r : Range) (o : Option Range) → r.to ≤ first_page o → hits r o ≡ false
behind_misses r None l = refl
behind_misses r (Some o) l = let k : ltb (max o.from r.from) (min o.to r.to) ≡ false = grind (arith, nat_tests) in grind (arith, nat_tests)

pub least_stop : (r : Range) (held : List (Option Range)) (b : ℕ) (xs : List ℕ) (least whole : Option ℕ) → IsRising held xs → lesser least (least_in (hit_at r held) (rest_from (Some b) xs)) ≡ whole → r.to ≤ from_at held b → least ≡ whole
least_stop r held b xs least whole rise h l =
    sym (lesser-none least) ∙ sym (ap (lesser least) (least_none (hit_at r held) (rest_from (Some b) xs) (λ y k. behind_misses r (get_or held y None) (let m = rising_behind held b y xs rise k in omega arith)))) ∙ h

-- the place of a call
pub place_start : (held : List (Option Range)) (call : ℕ) (xs : List ℕ) (o : Option ℕ) → o ≡ first xs → place_for held call (rest_from o xs) ≡ place_for held call xs
place_start held call xs o e = ap (λ (q : Option ℕ). place_for held call (rest_from q xs)) e ∙ ap (place_for held call) (rest-first xs)

place-ahead : (held : List (Option Range)) (call b : ℕ) (ys : List ℕ) → is_ahead held call b ≡ true → place_for held call (b ∷ ys) ≡ Some b
unfolding place_for
place-ahead held call b ys e = rw e refl

place-behind : (held : List (Option Range)) (call b : ℕ) (ys : List ℕ) → is_ahead held call b ≡ false → place_for held call (b ∷ ys) ≡ place_for held call ys
unfolding place_for
place-behind held call b ys e = rw e refl

pub place_step : (held : List (Option Range)) (call b : ℕ) (xs : List ℕ) (o whole : Option ℕ) → IsOnce xs → 0 < count b xs → is_ahead held call b ≡ false → place_for held call (rest_from (Some b) xs) ≡ whole → o ≡ after b xs → place_for held call (rest_from o xs) ≡ whole
place_step held call b xs o whole once k e h f =
    ap (λ (q : Option ℕ). place_for held call (rest_from q xs)) f ∙ sym (ap (place_for held call) (rest_step b xs once k) ∙ place-behind held call b _ e) ∙ h

pub place_found : (held : List (Option Range)) (call b : ℕ) (xs : List ℕ) (whole : Option ℕ) → IsOnce xs → 0 < count b xs → is_ahead held call b ≡ true → place_for held call (rest_from (Some b) xs) ≡ whole → Some b ≡ whole
place_found held call b xs whole once k e h = sym (ap (place_for held call) (rest_step b xs once k) ∙ place-ahead held call b _ e) ∙ h

pub place_end : (held : List (Option Range)) (call : ℕ) (xs : List ℕ) (o whole : Option ℕ) → place_for held call (rest_from o xs) ≡ whole → o ≡ None → None ≡ whole
unfolding place_for
place_end held call xs o whole h e = sym (ap (λ (q : Option ℕ). place_for held call (rest_from q xs)) e ∙ ap (place_for held call) (rest-none xs)) ∙ h

-- an insertion before the place is one in order
inserted-ahead : (held : List (Option Range)) (call y : ℕ) (ys : List ℕ) → is_ahead held call y ≡ true → inserted held call (y ∷ ys) ≡ call ∷ y ∷ ys
unfolding inserted
inserted-ahead held call y ys e = rw e refl

inserted-behind : (held : List (Option Range)) (call y : ℕ) (ys : List ℕ) → is_ahead held call y ≡ false → inserted held call (y ∷ ys) ≡ y ∷ inserted held call ys
unfolding inserted
inserted-behind held call y ys e = rw e refl

inserted-nil : (held : List (Option Range)) (call : ℕ) → inserted held call [] ≡ call ∷ []
unfolding inserted
inserted-nil held call = refl

pub ahead_or_not : (b : Bool) → (b ≡ true) ⊎ (b ≡ false)
ahead_or_not true = inl refl
ahead_or_not false = inr refl

place-nil : (held : List (Option Range)) (call : ℕ) → place_for held call [] ≡ None
unfolding place_for
place-nil held call = refl

pub place_in : (held : List (Option Range)) (call : ℕ) (xs : List ℕ) (p : ℕ) → place_for held call xs ≡ Some p → 0 < count p xs
place_in held call [] p e = let n = place-nil held call in absurd cc
place_in held call (y ∷ ys) p e =
    ⊎_elim (λ (a : is_ahead held call y ≡ true). let f = place-ahead held call y ys a in let d : y ≡ p = cc in subst (λ (w : ℕ). 0 < count w (y ∷ ys)) d (omega (arith, count-here y ys)))
    (λ (a : is_ahead held call y ≡ false). let k = place_in held call ys p (sym (place-behind held call y ys a) ∙ e) in omega (arith, count-tail p y ys)) (ahead_or_not (is_ahead held call y))

pub before_place : (held : List (Option Range)) (call : ℕ) (xs : List ℕ) (p : ℕ) → IsOnce xs → place_for held call xs ≡ Some p → before p call xs ≡ inserted held call xs
before_place held call [] p o e = let n = place-nil held call in absurd cc
before_place held call (y ∷ ys) p o e =
    ⊎_elim (λ (a : is_ahead held call y ≡ true). let f = place-ahead held call y ys a in let d : p ≡ y = cc in ap (λ (w : ℕ). before w call (y ∷ ys)) d ∙ before-here y call ys ∙ sym (inserted-ahead held call y ys a))
    (λ (a : is_ahead held call y ≡ false).
    let f : place_for held call ys ≡ Some p = sym (place-behind held call y ys a) ∙ e in
    let k = place_in held call ys p f in
    let d : p ≢ y = λ g. not_same y p ys (once-first y ys o) k (sym g) in
    before-there p call y ys d ∙ ap (λ (t : List ℕ). y ∷ t) (before_place held call ys p (once-tail y ys o) f) ∙ sym (inserted-behind held call y ys a)) (ahead_or_not (is_ahead held call y))

pub last_place : (held : List (Option Range)) (call : ℕ) (xs : List ℕ) → place_for held call xs ≡ None → xs ++ call ∷ [] ≡ inserted held call xs
last_place held call [] e = sym (inserted-nil held call)
last_place held call (y ∷ ys) e =
    ⊎_elim (λ (a : is_ahead held call y ≡ true). let f = place-ahead held call y ys a in absurd cc)
    (λ (a : is_ahead held call y ≡ false). ap (λ (t : List ℕ). y ∷ t) (last_place held call ys (sym (place-behind held call y ys a) ∙ e)) ∙ sym (inserted-behind held call y ys a)) (ahead_or_not (is_ahead held call y))

-- the same steps at what the walk has reached
pub shorter_at : (b : ℕ) (xs : List ℕ) (at o : Option ℕ) → at ≡ Some b → IsOnce xs → 0 < count b xs → o ≡ after b xs → length (rest_from o xs) < length (rest_from at xs)
shorter_at b xs at o e once k f = subst (λ (q : Option ℕ). length (rest_from o xs) < length (rest_from q xs)) (sym e) (shorter b xs o once k f)

pub least_step_at : (t : ℕ → Bool) (b : ℕ) (xs : List ℕ) (at least new o : Option ℕ) (whole : Option ℕ) → at ≡ Some b → IsOnce xs → 0 < count b xs → lesser least (least_in t (rest_from at xs)) ≡ whole → new ≡ lesser least (one_such (t b) b) → o ≡ after b xs →
    lesser new (least_in t (rest_from o xs)) ≡ whole
least_step_at t b xs at least new o whole e once k h f g = least_step t b xs least new o whole once k (subst (λ (q : Option ℕ). lesser least (least_in t (rest_from q xs)) ≡ whole) e h) f g

pub least_stop_at : (r : Range) (held : List (Option Range)) (b : ℕ) (xs : List ℕ) (at least whole : Option ℕ) → at ≡ Some b → IsRising held xs → lesser least (least_in (hit_at r held) (rest_from at xs)) ≡ whole → r.to ≤ from_at held b → least ≡ whole
least_stop_at r held b xs at least whole e rise h l = least_stop r held b xs least whole rise (subst (λ (q : Option ℕ). lesser least (least_in (hit_at r held) (rest_from q xs)) ≡ whole) e h) l

pub place_step_at : (held : List (Option Range)) (call b : ℕ) (xs : List ℕ) (at o whole : Option ℕ) → at ≡ Some b → IsOnce xs → 0 < count b xs → is_ahead held call b ≡ false → place_for held call (rest_from at xs) ≡ whole → o ≡ after b xs → place_for held call (rest_from o xs) ≡ whole
place_step_at held call b xs at o whole e once k a h f = place_step held call b xs o whole once k a (subst (λ (q : Option ℕ). place_for held call (rest_from q xs) ≡ whole) e h) f

pub place_found_at : (held : List (Option Range)) (call b : ℕ) (xs : List ℕ) (at whole : Option ℕ) → at ≡ Some b → IsOnce xs → 0 < count b xs → is_ahead held call b ≡ true → place_for held call (rest_from at xs) ≡ whole → Some b ≡ whole
place_found_at held call b xs at whole e once k a h = place_found held call b xs whole once k a (subst (λ (q : Option ℕ). place_for held call (rest_from q xs) ≡ whole) e h)

pub none_left : (o : Option ℕ) → ((x : ℕ) → o ≡ Some x → ⊥) → o ≡ None
none_left None h = refl
none_left (Some x) h = absurd (h x refl)

pub insert_place : (s new : Lists) (i : ℕ) (held : List (Option Range)) (call p : ℕ) (o : Option ℕ) → IsOnce (list_at s i) → o ≡ place_for held call (list_at s i) → o ≡ Some p → new ≡ with_list s i (before p call (list_at s i)) → new ≡ with_list s i (inserted held call (list_at s i))
insert_place s new i held call p o once e f g = g ∙ ap (with_list s i) (before_place held call (list_at s i) p once (sym e ∙ f))

pub insert_last : (s new : Lists) (i : ℕ) (held : List (Option Range)) (call : ℕ) (o : Option ℕ) → o ≡ place_for held call (list_at s i) → o ≡ None → new ≡ with_list s i (list_at s i ++ call ∷ []) → new ≡ with_list s i (inserted held call (list_at s i))
insert_last s new i held call o e f g = g ∙ ap (with_list s i) (last_place held call (list_at s i) (sym e ∙ f))
