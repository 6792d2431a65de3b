-- The additions of a whole history are those that its passes made.
use Rattle.std.proofs.Common.{◌≡◌, ℕ, ◌+◌, ◌≤◌, ◌%◌, ◌^◌, eqb, Bool, true, false, cond, List, [], ◌∷◌, sym, refl, ap, ◌∙◌, subst, ⊎_elim, arith, zero, suc, eq-eqb, ne_eqb}
use mathlib.Core.Logic.{dite}
use mathlib.Core.Option as opt
use mathlib.Core.Option.{some}
use native.Mathlib.Decide.{ℕ_discrete}
use lib.ListN.{get_elem?}
use Rattle.turn_cell.specs.declared.book.Entry.{Entry}
use Rattle.turn_cell.specs.declared.view.Joined.{Joined}
use Rattle.turn_cell.specs.declared.view.View.{View}
use Rattle.turn_cell.specs.Events.{events_of}
use Rattle.turn_cell.specs.History.{Has, times, entries_of}
use Rattle.turn_cell.specs.Rule.{numbers_of}
use Rattle.turn_cell.specs.Teams.{IsWhole}
use Rattle.turn_example.specs.Counting.{sum_of}
use Rattle.turn_example.specs.Shares.{joined_sum}
use Rattle.turn_example.specs.declared.counter.Add.{Add}
use Rattle.turn_example.specs.declared.counter.Start.{Start}

abbrev amount_at : List (Entry Add) → ℕ → ℕ
amount_at h n = sum_of (events_of (entries_of n h))

abbrev over : List ℕ → (ℕ → ℕ) → ℕ
over [] f = 0
over (n ∷ ns) f = f n + over ns f

over_add : (ns : List ℕ) (f g : ℕ → ℕ) → over ns (λ k. f k + g k) ≡ over ns f + over ns g
over_add [] f g = omega arith
over_add (n ∷ ns) f g = let i = over_add ns f g in omega arith

over_none : (ns : List ℕ) → over ns (λ _. 0) ≡ 0
over_none [] = refl
over_none (n ∷ ns) = let i = over_none ns in omega arith

over_same : (ns : List ℕ) (f g : ℕ → ℕ) → ((k : ℕ) → f k ≡ g k) → over ns f ≡ over ns g
over_same [] f g same = refl
over_same (n ∷ ns) f g same = λ i. same n i + over_same ns f g same i

missed : (x a : ℕ) (ns : List ℕ) → times x ns ≡ 0 → over ns (λ k. cond (eqb x k) a 0) ≡ 0
missed x a [] e = refl
missed x a (n ∷ ns) e = dite (ℕ_discrete x n)
    (λ is. let t = ap (λ b. cond b (times x ns + 1) (times x ns)) (sym (eq-eqb n x (sym is))) in absurd (omega arith))
    (λ not_it. let t : times x ns ≡ 0 = ap (λ b. cond b (times x ns + 1) (times x ns)) (sym (ne_eqb n x (λ q. not_it (sym q)))) ∙ e in
    let here : cond (eqb x n) a 0 ≡ 0 = ap (λ b. cond b a 0) (ne_eqb x n not_it) in let rest = missed x a ns t in omega arith)

hit : (x a : ℕ) (ns : List ℕ) → times x ns ≡ 1 → over ns (λ k. cond (eqb x k) a 0) ≡ a
hit x a [] e = absurd (omega arith)
hit x a (n ∷ ns) e = dite (ℕ_discrete x n)
    (λ is. let t : times x ns + 1 ≡ 1 = ap (λ b. cond b (times x ns + 1) (times x ns)) (sym (eq-eqb n x (sym is))) ∙ e in
    let here : cond (eqb x n) a 0 ≡ a = ap (λ b. cond b a 0) (eq-eqb x n is) in let rest = missed x a ns (omega arith) in omega arith)
    (λ not_it. let t : times x ns ≡ 1 = ap (λ b. cond b (times x ns + 1) (times x ns)) (sym (ne_eqb n x (λ q. not_it (sym q)))) ∙ e in
    let here : cond (eqb x n) a 0 ≡ 0 = ap (λ b. cond b a 0) (ne_eqb x n not_it) in let rest = hit x a ns t in omega arith)

by_number : (b : Bool) (x : Entry Add) (l : List (Entry Add)) → sum_of (events_of (cond b (x ∷ l) l)) ≡ cond b x.event.amount 0 + sum_of (events_of l)
by_number true x l = refl
by_number false x l = omega arith

-- where each entry's number stands once, the parts add up to the whole
parted : (ns : List ℕ) (h : List (Entry Add)) → ((e : Entry Add) → Has h e → times e.number ns ≡ 1) → over ns (amount_at h) ≡ sum_of (events_of h)
parted ns [] each = over_none ns
parted ns (x ∷ xs) each =
    let a = over_same ns (amount_at (x ∷ xs)) (λ k. cond (eqb x.number k) x.event.amount 0 + amount_at xs k) (λ k. by_number (eqb x.number k) x (entries_of k xs)) in
    let b = over_add ns (λ k. cond (eqb x.number k) x.event.amount 0) (amount_at xs) in
    let c = hit x.number x.event.amount ns (each x (0, refl)) in
    let d = parted ns xs (λ e has. each e (suc has.0, has.1)) in omega arith

made_by : (h : List (Entry Add)) (js : List (Joined Add)) → ((x : Joined Add) → Has js x → entries_of x.number h ≡ x.entries) → over (numbers_of js) (amount_at h) ≡ joined_sum js
made_by h [] each = refl
made_by h (x ∷ xs) each = λ i. sum_of (events_of (each x (0, refl) i)) + made_by h xs (λ y has. each y (suc has.0, has.1)) i

plus : (b : Bool) (t : ℕ) → 1 ≤ t → 1 ≤ cond b (t + 1) t
plus true t l = omega arith
plus false t l = l

stands : (ns : List ℕ) (i n : ℕ) → get_elem? ns i ≡ some n → 1 ≤ times n ns
stands [] i n e = absurd (opt.some-ne-none n (sym e))
stands (x ∷ xs) zero n e = subst (λ b. 1 ≤ cond b (times n xs + 1) (times n xs)) (sym (eq-eqb x n (opt.some-injective x n e))) (omega arith)
stands (x ∷ xs) (suc i) n e = plus (eqb x n) (times n xs) (stands xs i n e)

number_at : (js : List (Joined Add)) (i : ℕ) (x : Joined Add) → get_elem? js i ≡ some x → get_elem? (numbers_of js) i ≡ some x.number
number_at [] i x e = absurd (opt.some-ne-none x (sym e))
number_at (y ∷ ys) zero x e = ap (λ (z : Joined Add). some z.number) (opt.some-injective y x e)
number_at (y ∷ ys) (suc i) x e = number_at ys i x e

pub whole_sum : (v : View Start Add) → IsWhole v → sum_of (events_of v.seen) ≡ sum_of (events_of v.own) + joined_sum v.joined
whole_sum v w =
    let ns : List ℕ = 0 ∷ numbers_of v.joined in
    let once : (e : Entry Add) → Has v.seen e → times e.number (0 ∷ numbers_of v.joined) ≡ 1
    = λ e has. let few = w.once e.number in
    let some_one : 1 ≤ times e.number (0 ∷ numbers_of v.joined) = ⊎_elim (λ z. stands (0 ∷ numbers_of v.joined) 0 e.number (ap some (sym z)))
    (λ j. stands (0 ∷ numbers_of v.joined) (suc j.1.0) e.number (number_at v.joined j.1.0 j.0 j.1.1 ∙ ap some j.2)) (w.made e has) in omega arith in
    let a = parted (0 ∷ numbers_of v.joined) v.seen once in
    let b = made_by v.seen v.joined (λ x has. (w.joined x has).0) in
    let c = ap (λ h. sum_of (events_of h)) w.own in omega arith

pub total_of_whole : (v : View Start Add) (start sum total : ℕ) → IsWhole v → v.own ≡ [] → joined_sum v.joined ≡ sum → total ≡ (start + sum_of (events_of v.seen)) % 2 ^ 64 → total ≡ (start + sum) % 2 ^ 64
total_of_whole v start sum total w bare joined is = let a = whole_sum v w in let b = ap (λ h. sum_of (events_of h)) bare in is ∙ ap (λ z. (start + z) % 2 ^ 64) (omega arith)
