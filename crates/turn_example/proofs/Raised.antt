-- A pass raises a counter turn by turn.
use Rattle.std.proofs.Common.{◌≡◌, ℕ, ◌+◌, ◌≤◌, ◌<◌, ◌%◌, ◌^◌, List, [], ◌∷◌, ◌++◌, sym, ap, ◌∙◌, refl, subst, arith, append_assoc}
use mathlib.Core.List.{map-append}
use Rattle.std.proofs.lemmas.List.{append-nil}
use Rattle.turn_cell.specs.declared.book.Entry.{Entry}
use Rattle.turn_cell.specs.declared.view.View.{View}
use Rattle.turn_cell.specs.History.{entry}
use Rattle.turn_cell.specs.Events.{events_of}
use Rattle.turn_example.specs.Counting.{adding, sum_of, total_at}
use Rattle.turn_example.specs.Raising.{AreOnes, MadeOnes, SamePass, Raises}
use Rattle.turn_example.proofs.Counted.{sum_end}
use Rattle.turn_example.specs.declared.counter.Add.{Add}
use Rattle.turn_example.specs.declared.counter.Start.{Start}

ones_append : (n actor : ℕ) (xs ys : List (Entry Add)) → AreOnes n actor xs → AreOnes n actor ys → AreOnes n actor (xs ++ ys)
ones_append n actor [] ys a b = b
ones_append n actor (x ∷ xs) ys a b = (a.0, ones_append n actor xs ys a.1 b)

pub no_ones : (actor : ℕ) (v w : View Start Add) → w.own ≡ v.own → MadeOnes actor v w
no_ones actor v w e = ([], e ∙ sym (append-nil v.own), tt)

pub one_one : (actor : ℕ) (v w : View Start Add) → w.own ≡ v.own ++ entry v.number (adding actor 1) ∷ [] → MadeOnes actor v w
one_one actor v w e = (entry v.number (adding actor 1) ∷ [], e, (refl, tt))

pub ones_on : (actor : ℕ) (v u w : View Start Add) → SamePass v u → MadeOnes actor v u → MadeOnes actor u w → MadeOnes actor v w
ones_on actor v u w same a b = (a.0 ++ b.0, b.1 ∙ (ap (λ z. z ++ b.0) a.1 ∙ append_assoc v.own a.0 b.0), ones_append v.number actor a.0 b.0 a.2 (subst (λ z. AreOnes z actor b.0) same.0 b.2))

pub raises_on : (o : Start) (actor least : ℕ) (v u w : View Start Add) → SamePass v u → MadeOnes actor v u → least ≤ total_at o w.seen → MadeOnes actor u w → Raises o actor least v w
raises_on o actor least v u w same a high b = (high, ones_on actor v u w same a b)

up : (a s least : ℕ) → (a + s) % 2 ^ 64 < least → least < 2 ^ 64 → (a + (s + 1)) % 2 ^ 64 ≡ (a + s) % 2 ^ 64 + 1
up a s least l f = omega arith

-- where nothing was made between, one addition of 1 to a low total brings it nearer by 1
pub nearer : (o o' : Start) (v u w : View Start Add) (total least : ℕ) (e : Add) → o' ≡ o → u.seen ≡ v.seen → total ≡ total_at o' u.seen → total < least → least < 2 ^ 64 → e.amount ≡ 1 → w.seen ≡ u.seen ++ entry u.number e ∷ []
    → (total_at o v.seen < least) × (total_at o w.seen ≡ total_at o v.seen + 1)
nearer o o' v u w total least e same none_between is low fits amount end =
    let t : total ≡ total_at o v.seen = is ∙ (λ i. total_at (same i) (none_between i)) in
    let s : sum_of (events_of (u.seen ++ entry u.number e ∷ [])) ≡ sum_of (events_of u.seen) + e.amount = ap sum_of (map-append (λ (z : Entry Add). z.event) u.seen (entry u.number e ∷ [])) ∙ sum_end (events_of u.seen) e in
    let s' : sum_of (events_of w.seen) ≡ sum_of (events_of v.seen) + 1 = ap (λ h. sum_of (events_of h)) end ∙ (s ∙ (λ i. sum_of (events_of (none_between i)) + amount i)) in
    let l : total_at o v.seen < least = subst (λ z. z < least) t low in
    (l, ap (λ z. (o.total + z) % 2 ^ 64) s' ∙ up o.total (sum_of (events_of v.seen)) least l fits)
