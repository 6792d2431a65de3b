-- What a call in flight sees of its file's length stays, where another call changes the length within the pages that it locks.
use Rattle.std.proofs.Common.{◌≡◌, ℕ, ◌+◌, ◌-◌, ◌<◌, ◌≤◌, Bool, true, false, Some, None, refl, sym, ap, ◌∙◌, ⊎_elim, arith}
use Rattle.std.specs.Prelude.{◌≢◌, ◌/◌, ◌&&◌, ◌||◌, nat_lt, min, if◌then◌else◌}
use Rattle.std.proofs.lemmas.Bool.Decides.{nat_tests}
use Rattle.page_base.specs.Bytes.{Pages}
use Rattle.index_lists.proofs.Counts.{same_or_not}
use Rattle.core_quick.specs.State.{Reach, Claim}
use Rattle.core_quick.specs.Reach.{is_trunc, is_read, is_exclusive, lengthens}
use Rattle.core_quick.specs.Hold.{len_seen, readable_seen}
use Rattle.core_quick.proofs.Words.{less_or_not}
use Rattle.core_hold.proofs.Reaches.{Stretches, Apart, Tells, changed_at, came, went}

below_page : (len : ℕ) → Pages len ≤ 65536 → len / 4096 < 65537
below_page len l = omega arith

not_both : (t u : Bool) → (t ≡ true → u ≡ true → ⊥) → (t && u) ≡ false
not_both true true h = absurd (h refl refl)
not_both true false h = refl
not_both false u h = refl

neither : (t u : Bool) → t ≡ false → u ≡ false → (t || u) ≡ false
neither t u e f = cc

never : (t : Bool) → (t ≡ true → ⊥) → t ≡ false
never true h = absurd (h refl)
never false h = refl

test_less : (m n : ℕ) → nat_lt m n ≡ true → m < n
test_less m n e = grind (arith, nat_tests)

-- ---- the length of a file that is lengthened or cut

unseen_len : (claim : Claim) (len : ℕ) → (lengthens claim len || is_trunc claim.request.call) ≡ false → len_seen claim len ≡ None
unseen_len claim len e = ap (λ (t : Bool). if t then Some len else None) e

pub len_seen_same : (x : Reach) (claim : Claim) (len len2 : ℕ) → Stretches x len len2 → Pages len ≤ 65536 → Apart x claim.reach → Tells claim.request.call claim.reach len → len_seen claim len2 ≡ len_seen claim len
len_seen_same x claim len len2 s most apart tells = ⊎_elim (λ (e : len2 ≡ len). ap (len_seen claim) e) (λ (d : len2 ≢ len). unseen_len claim len2 (now d) ∙ sym (unseen_len claim len (before d))) (same_or_not len2 len)
  where
    whole : len2 ≢ len → is_trunc claim.request.call ≡ false
    whole d = never (is_trunc claim.request.call) (λ t. apart (len / 4096) (changed_at x len len2 s most d) (tells.cutting t (below_page len most)))

    stays : len2 ≢ len → is_exclusive claim.reach.mode ≡ true → len < claim.reach.end → ⊥
    stays d m l = apart (len / 4096) (changed_at x len len2 s most d) (tells.lengthening m l (below_page len most))

    before : len2 ≢ len → (lengthens claim len || is_trunc claim.request.call) ≡ false
    before d = neither (lengthens claim len) (is_trunc claim.request.call) (not_both (is_exclusive claim.reach.mode) (nat_lt len claim.reach.end) (λ m l. stays d m (test_less len claim.reach.end l))) (whole d)

    cut : len2 ≢ len → is_exclusive claim.reach.mode ≡ true → len2 < claim.reach.end → claim.reach.end ≤ len → ⊥
    cut d m l k =
        let q = claim.reach.end - 1 in
        let last : q + 1 ≡ claim.reach.end = omega arith in
        apart (q / 4096) (went x len len2 q s most (omega arith) (omega arith)) (tells.storing (whole d) m q last)

    now : len2 ≢ len → (lengthens claim len2 || is_trunc claim.request.call) ≡ false
    now d =
        neither (lengthens claim len2) (is_trunc claim.request.call)
        (not_both (is_exclusive claim.reach.mode) (nat_lt len2 claim.reach.end)
        (λ m l. ⊎_elim (λ (k : len < claim.reach.end). stays d m k) (λ (k : claim.reach.end ≤ len). cut d m (test_less len2 claim.reach.end l) k) (less_or_not len claim.reach.end)))
        (whole d)

-- ---- how much there is to read

abbrev readable : Reach → ℕ → ℕ
readable b len = min b.end len - b.begin

pub readable_same : (x : Reach) (claim : Claim) (len len2 : ℕ) → Stretches x len len2 → Pages len ≤ 65536 → Apart x claim.reach → Tells claim.request.call claim.reach len → readable_seen claim len2 ≡ readable_seen claim len
readable_same x claim len len2 s most apart tells = go (is_read claim.request.call) refl
  where
    conflict : is_read claim.request.call ≡ true → (q : ℕ) → claim.reach.begin ≤ q → q < claim.reach.end → q / 4096 < 65537 → (len ≤ q → q < len2 → ⊥) × (len2 ≤ q → q < len → ⊥)
    conflict r q low high small = (
      λ l k. apart (q / 4096) (came x len len2 q s l k) (tells.reading r q low high small),
      λ l k. apart (q / 4096) (went x len len2 q s most l k) (tells.reading r q low high small),
    )

    grown : is_read claim.request.call ≡ true → readable claim.reach len2 ≢ readable claim.reach len → len < len2 → ⊥
    grown r d l =
        let k = s.grows l in
        let small = k.2 in
        ⊎_elim
        (λ (b : claim.reach.begin < len). let f = conflict r len (omega arith) (omega arith) (omega arith) in f.0 (omega arith) l)
        (λ (b : len ≤ claim.reach.begin). let f = conflict r claim.reach.begin (omega arith) (omega arith) (omega arith) in f.0 b (omega arith)) (less_or_not claim.reach.begin len)

    shrunk : is_read claim.request.call ≡ true → readable claim.reach len2 ≢ readable claim.reach len → len2 ≤ len → ⊥
    shrunk r d l =
        ⊎_elim
        (λ (b : claim.reach.begin < len2). let f = conflict r len2 (omega arith) (omega arith) (omega arith) in f.1 (omega arith) (omega arith))
        (λ (b : len2 ≤ claim.reach.begin). let f = conflict r claim.reach.begin (omega arith) (omega arith) (omega arith) in f.1 b (omega arith)) (less_or_not claim.reach.begin len2)

    equal : is_read claim.request.call ≡ true → readable claim.reach len2 ≡ readable claim.reach len
    equal r = ⊎_elim (λ (e : readable claim.reach len2 ≡ readable claim.reach len). e)
        (λ (d : readable claim.reach len2 ≢ readable claim.reach len). absurd (⊎_elim (λ (l : len < len2). grown r d l) (λ (l : len2 ≤ len). shrunk r d l) (less_or_not len len2)))
        (same_or_not (readable claim.reach len2) (readable claim.reach len))

    go : (t : Bool) → is_read claim.request.call ≡ t → (if t then Some (readable claim.reach len2) else None) ≡ (if t then Some (readable claim.reach len) else None)
    go false e = refl
    go true e = ap (λ (n : ℕ). Some n) (equal e)
