-- How many pages lie on a die, where pages are laid in rows of one page for each die.
use Rattle.std.proofs.Common.{◌≡◌, ℕ, zero, suc, ◌+◌, ◌-◌, ◌*◌, ◌/◌, ◌%◌, ◌<◌, ◌≤◌, refl, sym, ap, ◌∙◌, ⊎_elim, arith}
use Rattle.std.specs.Prelude.{◌==◌, ◌⊎◌, if◌then◌else◌, nat_lt}
use Rattle.std.proofs.lemmas.Bool.Decides.{nat_tests}
use Rattle.std.proofs.lemmas.Nat.{div-mul-add, mod-mul-add, div-add-mod', mod_below, le-div}
use Rattle.std.proofs.Math.Nat.{suc-mul, div-eq_of_lt, mod-eq_of_lt}
use Rattle.page_base.specs.Drive.{die_share}

-- with so many whole rows and so many pages of the next one
abbrev row_share : ℕ → ℕ → ℕ → ℕ
row_share rows pages die = if nat_lt die pages then rows + 1 else rows

-- the page after page t stands in the same row
same_row : (t d : ℕ) → 0 < d → t % d + 1 < d → (suc t / d ≡ t / d) × (suc t % d ≡ t % d + 1)
same_row t d p l =
    let e : suc t ≡ t / d * d + (t % d + 1) = omega (arith, div-add-mod' t d) in
    (ap (λ (n : ℕ). n / d) e ∙ div-mul-add (t / d) d (t % d + 1) l, ap (λ (n : ℕ). n % d) e ∙ mod-mul-add (t / d) d (t % d + 1) l)

-- or begins the next one
next_row : (t d : ℕ) → 0 < d → t % d + 1 ≡ d → (suc t / d ≡ t / d + 1) × (suc t % d ≡ 0)
next_row t d p l =
    let e : suc t ≡ suc (t / d) * d + 0 = omega (arith, div-add-mod' t d, suc-mul (t / d) d) in
    let q : suc t / d ≡ suc (t / d) = ap (λ (n : ℕ). n / d) e ∙ div-mul-add (suc (t / d)) d 0 p in
    (omega arith, ap (λ (n : ℕ). n % d) e ∙ mod-mul-add (suc (t / d)) d 0 p)

share_nil : (d die : ℕ) → die < d → die_share 0 d die ≡ row_share (0 / d) (0 % d) die
unfolding die_share
share_nil d die l =
    let p : 0 < d = omega arith in
    let q : 0 / d ≡ 0 = div-eq_of_lt p in
    let r : 0 % d ≡ 0 = mod-eq_of_lt p in
    grind (arith, nat_tests)

share_next : (t d die q r : ℕ) → die < d → r ≡ t % d → r < d → die_share t d die ≡ row_share q r die → die_share (suc t) d die ≡ (if r == die then row_share q r die + 1 else row_share q r die)
unfolding die_share
share_next t d die q r l e m h = grind (arith, nat_tests)

in_row : (q r die : ℕ) → (if r == die then row_share q r die + 1 else row_share q r die) ≡ row_share q (r + 1) die
in_row q r die = grind (arith, nat_tests)

row_full : (q d die : ℕ) → die < d → row_share q d die ≡ row_share (q + 1) 0 die
row_full q d die l = grind (arith, nat_tests)

share_rows : (t d die : ℕ) → die < d → die_share t d die ≡ row_share (t / d) (t % d) die
share_rows zero d die l = share_nil d die l
share_rows (suc t) d die l = step (share_rows t d die l) (mod_below t d (omega arith))
  where
    step : die_share t d die ≡ row_share (t / d) (t % d) die → t % d < d → die_share (suc t) d die ≡ row_share (suc t / d) (suc t % d) die
    step h m = share_next t d die (t / d) (t % d) l refl m h ∙ in_row (t / d) (t % d) die ∙ ⊎_elim same next cases
      where
        cases : (t % d + 1 < d) ⊎ (t % d + 1 ≡ d)
        cases = grind arith

        same : t % d + 1 < d → row_share (t / d) (t % d + 1) die ≡ row_share (suc t / d) (suc t % d) die
        same k = let e = same_row t d (omega arith) k in cc

        next : t % d + 1 ≡ d → row_share (t / d) (t % d + 1) die ≡ row_share (suc t / d) (suc t % d) die
        next k = let e = next_row t d (omega arith) k in ap (λ (n : ℕ). row_share (t / d) n die) k ∙ row_full (t / d) d die l ∙ cc

-- a die's share in closed form: the pages from its first on, in steps of the number of dies
pub die_share_closed : (total d die : ℕ) → die < d → die_share total d die ≡ (total + d - 1 - die) / d
die_share_closed t d die l = share_rows t d die l ∙ sym (⊎_elim inside beyond cases)
  where
    cases : (die < t % d) ⊎ (t % d ≤ die)
    cases = grind arith

    inside : die < t % d → (t + d - 1 - die) / d ≡ row_share (t / d) (t % d) die
    inside k =
        let e : t + d - 1 - die ≡ suc (t / d) * d + (t % d - 1 - die) = omega (arith, div-add-mod' t d, suc-mul (t / d) d) in
        let f : (t + d - 1 - die) / d ≡ suc (t / d) = ap (λ (n : ℕ). n / d) e ∙ div-mul-add (suc (t / d)) d (t % d - 1 - die) (omega (arith, mod_below t d (omega arith))) in
        grind (arith, nat_tests)

    beyond : t % d ≤ die → (t + d - 1 - die) / d ≡ row_share (t / d) (t % d) die
    beyond k =
        let e : t + d - 1 - die ≡ t / d * d + (t % d + d - 1 - die) = omega (arith, div-add-mod' t d) in
        let f : (t + d - 1 - die) / d ≡ t / d = ap (λ (n : ℕ). n / d) e ∙ div-mul-add (t / d) d (t % d + d - 1 - die) (omega arith) in
        grind (arith, nat_tests)

-- no page lies on a die that there isn't
pub die_share_none : (total d die : ℕ) → 0 < d → d ≤ die → die_share total d die ≡ 0
unfolding die_share
die_share_none zero d die p l = refl
die_share_none (suc t) d die p l = none (die_share_none t d die p l) (mod_below t d p)
  where
    none : die_share t d die ≡ 0 → t % d < d → (if t % d == die then die_share t d die + 1 else die_share t d die) ≡ 0
    none h m = grind (arith, nat_tests)

-- a page's place on its die is below that die's share
pub place_inside : (page total d : ℕ) → 0 < d → page < total → page / d < die_share total d (page % d)
place_inside page total d p l =
    let m = mod_below page d p in
    let k : (page / d + 1) * d ≤ total + d - 1 - page % d = omega (arith, div-add-mod' page d, suc-mul (page / d) d) in
    omega (arith, le-div (page / d + 1) (total + d - 1 - page % d) d p k, die_share_closed total d (page % d) m)
