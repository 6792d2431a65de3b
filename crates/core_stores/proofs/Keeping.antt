-- What each block and each order keeps, where a call that stores ends.
use Rattle.std.proofs.Common.{◌≡◌, ℕ, zero, suc, ◌+◌, ◌<◌, ◌≤◌, Bool, true, false, List, [], ◌∷◌, ◌++◌, length, Option, Some, None, refl, sym, ap, ◌∙◌, subst, inl, inr, ⊎_elim, arith, length-append}
use Rattle.std.specs.Prelude.{◌≢◌, ◌⊎◌, nat_lt, option_to_list, if◌then◌else◌}
use Rattle.std.proofs.lemmas.Bool.Decides.{nat_tests}
use Rattle.dispatcher.specs.declared.side.Side.{Side}
use Rattle.dispatcher.specs.declared.side.Side.TheVariants.{Host, Drive}
use Rattle.index_lists.specs.Words.{count, one_if, without}
use Rattle.index_lists.proofs.Counts.{length-without}
use Rattle.core_hold.specs.Words.{sum_to, listed_to, is_in, without_all, all_last, Lists}
use Rattle.core_hold.specs.State.{Page, Loan, Block}
use Rattle.core_hold.specs.Contents.{IsBlank, content}
use Rattle.core_hold.specs.Sound.{HasCopies, IsKept, IsInHand}
use Rattle.core_hold.specs.Dies.{IsFlush}
use Rattle.core_hold.specs.Resizing.{renewed, renewed_in}
use Rattle.core_hold.specs.EndEvent.{installed}
use Rattle.core_hold.proofs.Words.{nothing, same_some}
use Rattle.core_hold.proofs.Spans.{listed-none, listed-one}
use Rattle.core_hold.proofs.Released.{renewed_copies, renewed_kept, renewed_hand, renewed_flush, released_order, count-without_all_in, count-without_all_out}
use Rattle.core_ends.proofs.Returning.{all_last_order}
use Rattle.core_stores.proofs.Became.{Became, Kept, Renewed, Put}

-- ---- a block

pub put_content : (side : Side) (page : Page) (w : Block) → content (installed side page w) ≡ page
put_content Host page w = refl
put_content Drive page w = refl

put_copies : (side : Side) (page : Page) (w : Block) → length page ≡ 4096 → length w.flash ≡ 4096 → HasCopies (installed side page w)
put_copies Host page w l k = record { host = λ p f. sym (same_some (Some page) page p refl f); drive = λ p f. absurd (cc); lent = λ loan f. absurd (cc); whole = l; flash = k }
put_copies Drive page w l k = record { host = λ p f. absurd (cc); drive = λ p f. sym (same_some (Some page) page p refl f); lent = λ loan f. absurd (cc); whole = l; flash = k }

put_hand : (side : Side) (page : Page) (w : Block) → IsInHand (installed side page w)
put_hand Host page w e a = let k : Some page ≡ None = a.host in cc
put_hand Drive page w e a = let k : Some page ≡ None = a.drive in cc

put_flush : (side : Side) (page : Page) (x w : Block) (v : ℕ) (p : Page) → x.version ≤ w.version → IsFlush x v p → IsFlush (installed side page w) v p
put_flush side page x w v p l f = let o = f.older in record { whole = f.whole; older = omega arith; same = λ e. absurd (omega arith); newer = λ n c. absurd (cc) }

pub became_copies : (gone : List ℕ) (n : ℕ) (at : ℕ → Option ℕ) (page : ℕ → Page) (side : Side) (b : ℕ) (x y : Block) → ((i : ℕ) → length (page i) ≡ 4096) → HasCopies x → Became gone n at page side b x y → HasCopies y
became_copies gone n at page side b x y l h (Kept q m z) = subst HasCopies (sym q) h
became_copies gone n at page side b x y l h (Renewed q u m z) = subst HasCopies (sym q) (renewed_copies x u h)
became_copies gone n at page side b x y l h (Put i k a w q flash v z) = subst HasCopies (sym q) (put_copies side (page i) w (l i) (ap length flash ∙ h.flash))

pub became_kept : (gone : List ℕ) (n : ℕ) (at : ℕ → Option ℕ) (page : ℕ → Page) (side : Side) (b : ℕ) (x y : Block) → IsKept x → Became gone n at page side b x y → IsKept y
became_kept gone n at page side b x y h (Kept q m z) = subst IsKept (sym q) h
became_kept gone n at page side b x y h (Renewed q u m z) = subst IsKept (sym q) (renewed_kept x u)
became_kept gone n at page side b x y h (Put i k a w q flash v z) = subst IsKept (sym q) (record { written = λ e f. absurd (cc); unwritten = λ e f. absurd (cc) })

pub became_hand : (gone : List ℕ) (n : ℕ) (at : ℕ → Option ℕ) (page : ℕ → Page) (side : Side) (b : ℕ) (x y : Block) → IsInHand x → Became gone n at page side b x y → IsInHand y
became_hand gone n at page side b x y h (Kept q m z) = subst IsInHand (sym q) h
became_hand gone n at page side b x y h (Renewed q u m z) = subst IsInHand (sym q) (renewed_hand x)
became_hand gone n at page side b x y h (Put i k a w q flash v z) = subst IsInHand (sym q) (put_hand side (page i) w)

pub became_flush : (gone : List ℕ) (n : ℕ) (at : ℕ → Option ℕ) (page : ℕ → Page) (side : Side) (b : ℕ) (x y : Block) (v : ℕ) (p : Page) → IsFlush x v p → Became gone n at page side b x y → IsFlush y v p
became_flush gone n at page side b x y v p h (Kept q m z) = subst (λ (w : Block). IsFlush w v p) (sym q) h
became_flush gone n at page side b x y v p h (Renewed q u m z) = subst (λ (w : Block). IsFlush w v p) (sym q) (renewed_flush x v p h)
became_flush gone n at page side b x y v p h (Put i k a w q flash o z) = subst (λ (w : Block). IsFlush w v p) (sym q) (put_flush side (page i) x w v p o h)

-- one that is lent stays, and is none of the span
pub became_lent : (gone : List ℕ) (n : ℕ) (at : ℕ → Option ℕ) (page : ℕ → Page) (side : Side) (b : ℕ) (x y : Block) → Became gone n at page side b x y → (loan : Loan) → y.lent ≡ Some loan → (y ≡ x) × ((i : ℕ) → i < n → at i ≢ Some b)
became_lent gone n at page side b x y (Kept q m z) loan e = (q, m)
became_lent gone n at page side b x y (Renewed q u m z) loan e = absurd (nothing x.lent loan u (ap (λ (w : Block). w.lent) (sym q) ∙ e))
became_lent gone n at page side b x y (Put i k a w q flash v z) loan e = let f : None ≡ Some loan = ap (λ (w : Block). w.lent) (sym q) ∙ e in absurd (cc)

-- ---- orders

apart_from : (gone : List ℕ) (blocks : ℕ → Block) (b : ℕ) (test : Block → Bool) → (t : Bool) → is_in b gone ≡ t → test (renewed (blocks b)) ≡ false → (count b gone ≡ 0 → test (blocks b) ≡ false) → test (renewed_in gone blocks b) ≡ false
apart_from gone blocks b test true e r f = ap (λ (t : Bool). test (if t then renewed (blocks b) else blocks b)) e ∙ r
apart_from gone blocks b test false e r f = ap (λ (t : Bool). test (if t then renewed (blocks b) else blocks b)) e ∙ f (out (count b gone) e)
  where
    out : (n : ℕ) → nat_lt 0 n ≡ false → n ≡ 0
    out n e = grind (arith, nat_tests)

stays : (gone : List ℕ) (blocks : ℕ → Block) (b : ℕ) → count b gone ≡ 0 → renewed_in gone blocks b ≡ blocks b
stays gone blocks b z = ap (λ (k : ℕ). if nat_lt 0 k then renewed (blocks b) else blocks b) z

-- no two places of the span have one block
abbrev pub Alone : (ℕ → Option ℕ) → Type 0
Alone at = (i j b : ℕ) → at i ≡ Some b → at j ≡ Some b → i ≡ j

-- listed, and the test holds as of each block that goes in; or not, and it says what it said without those that go
placed : (gone : List ℕ) (n : ℕ) (at : ℕ → Option ℕ) (page : ℕ → Page) (side : Side) (blocks : ℕ → Block) (test : Block → Bool) (v : Bool) → Alone at → ((p : Page) (w : Block) → test (installed side p w) ≡ v) →
    ((x : Block) → test (renewed x) ≡ false) → ((x : Block) → IsBlank x → test x ≡ false) → (b : ℕ) (y : Block) → Became gone n at page side b (blocks b) y →
    (count b (listed_to n at) ≡ 1) × (test y ≡ v) ⊎ (count b (listed_to n at) ≡ 0) × (test y ≡ test (renewed_in gone blocks b))
placed gone n at page side blocks test v alone inn r k b y (Kept q m z) = inr (listed-none b n at m, ap test (q ∙ sym (stays gone blocks b z)))
placed gone n at page side blocks test v alone inn r k b y (Renewed q u m z) = inr (listed-none b n at m, ap test q ∙ (r (blocks b) ∙ sym (apart_from gone blocks b test (is_in b gone) refl (r (blocks b)) (λ e. k (blocks b) (z e)))))
placed gone n at page side blocks test v alone inn r k b y (Put i l a w q flash o z) = inl (listed-one b n i at l a (λ j f. alone j i b f a), ap test q ∙ inn (page i) w)

-- the order where the span goes last
pub order_last : (gone : List ℕ) (n : ℕ) (at : ℕ → Option ℕ) (page : ℕ → Page) (side : Side) (blocks blocks2 : ℕ → Block) (test : Block → Bool) → Alone at → ((p : Page) (w : Block) → test (installed side p w) ≡ true) →
    ((x : Block) → test (renewed x) ≡ false) → ((x : Block) → IsBlank x → test x ≡ false) → ((b : ℕ) → Became gone n at page side b (blocks b) (blocks2 b)) → (order : List ℕ) → Lists order (λ b. test (blocks b)) →
    Lists (all_last (listed_to n at) (without_all gone order)) (λ b. test (blocks2 b))
order_last gone n at page side blocks blocks2 test alone inn r k became order h =
    all_last_order (listed_to n at) (without_all gone order) (λ b. test (renewed_in gone blocks b)) (λ b. test (blocks2 b))
    (λ b. placed gone n at page side blocks test true alone inn r k b (blocks2 b) (became b)) (released_order gone order blocks test r h)

-- and one that it leaves
pub order_out : (gone : List ℕ) (n : ℕ) (at : ℕ → Option ℕ) (page : ℕ → Page) (side : Side) (blocks blocks2 : ℕ → Block) (test : Block → Bool) → Alone at → ((p : Page) (w : Block) → test (installed side p w) ≡ false) →
    ((x : Block) → test (renewed x) ≡ false) → ((x : Block) → IsBlank x → test x ≡ false) → ((b : ℕ) → Became gone n at page side b (blocks b) (blocks2 b)) → (order : List ℕ) → Lists order (λ b. test (blocks b)) →
    Lists (without_all (listed_to n at) (without_all gone order)) (λ b. test (blocks2 b))
order_out gone n at page side blocks blocks2 test alone inn r k became order h b = ⊎_elim
    (λ (l : (count b (listed_to n at) ≡ 1) × (test (blocks2 b) ≡ false)). let c = l.0 in count-without_all_in (listed_to n at) (without_all gone order) b (omega arith) ∙ sym (ap one_if l.1))
    (λ (l : (count b (listed_to n at) ≡ 0) × (test (blocks2 b) ≡ test (renewed_in gone blocks b))). count-without_all_out (listed_to n at) (without_all gone order) b l.0 ∙ (released_order gone order blocks test r h b ∙ sym (ap one_if l.1)))
    (placed gone n at page side blocks test false alone inn r k b (blocks2 b) (became b))

-- ---- frames

without_all_append : (cs bs xs : List ℕ) → without_all (cs ++ bs) xs ≡ without_all bs (without_all cs xs)
unfolding without_all
without_all_append [] bs xs = refl
without_all_append (a ∷ cs) bs xs = without_all_append cs bs (without a xs)

without_option : (o : Option ℕ) (ys : List ℕ) (wt : ℕ) → ((b : ℕ) → o ≡ Some b → wt ≡ 0 → count b ys ≡ 1) → length (without_all (option_to_list o) ys) + length (option_to_list o) ≤ length ys + wt
unfolding without_all
without_option None ys wt h = omega arith
without_option (Some b) ys zero h = let k = h b refl refl in let l = length-without b ys in omega arith
without_option (Some b) ys (suc w) h = let l = length-without b ys in omega arith

-- what goes in takes no more frames than the call has
pub room : (n : ℕ) (at : ℕ → Option ℕ) (weight : ℕ → ℕ) (xs : List ℕ) → Alone at → ((i b : ℕ) → i < n → at i ≡ Some b → weight i ≡ 0 → count b xs ≡ 1) → (k : ℕ) → k ≤ n →
    length (without_all (listed_to k at) xs) + length (listed_to k at) ≤ length xs + sum_to k weight
unfolding listed_to sum_to without_all
room n at weight xs alone h zero l = omega arith
room n at weight xs alone h (suc k) l =
    let ih = room n at weight xs alone h k (omega arith) in
    let e = ap length (without_all_append (listed_to k at) (option_to_list (at k)) xs) in
    let o = without_option (at k) (without_all (listed_to k at) xs) (weight k)
    (λ b a z. count-without_all_out (listed_to k at) xs b (listed-none b k at (λ p m f. let s = alone p k b f a in omega arith)) ∙ h k b (omega arith) a z) in
    omega (arith, length-append (listed_to k at) (option_to_list (at k)))
