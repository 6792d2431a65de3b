-- Lent pages go back to the call's side, and the call is no longer in flight.
use Rattle.std.proofs.Common.{◌≡◌, ℕ, zero, suc, ◌+◌, ◌<◌, ◌≤◌, Bool, true, false, List, [], ◌∷◌, length, Option, Some, None, refl, sym, ap, ◌∙◌, subst, ⊎_elim, arith, length-append}
use Rattle.std.specs.Prelude.{◌≢◌, ◌⊎◌, ◌==◌, is_some, if◌then◌else◌, option_to_list}
use Rattle.std.specs.List.{filter}
use Rattle.std.proofs.lemmas.Bool.Decides.{nat_tests}
use Rattle.dispatcher.specs.declared.side.Side.{Side}
use Rattle.dispatcher.specs.declared.side.Side.TheVariants.{Host, Drive}
use Rattle.core_quick.specs.Paired.{by_side}
use Rattle.index_lists.specs.Words.{count, one_if}
use Rattle.index_lists.proofs.Counts.{same_or_not, count-nil, count-here, count-there, count-append}
use Rattle.core_quick.specs.Words.{sum_to, listed_to, without_all, all_last, Lists}
use Rattle.core_quick.specs.State.{Page, Loan, Block, Places, Frame, NoFrame, Reserved, OnLoan, Flight, Core}
use Rattle.core_quick.specs.Contents.{copy_at, InNeitherCache, IsAway, content, span_block, has_copy}
use Rattle.core_quick.specs.Sound.{HasCopies, IsInHand}
use Rattle.core_quick.specs.Frames.{weight}
use Rattle.core_quick.specs.Coherent.{Coherent}
use Rattle.core_quick.specs.EndEvent.{is_on_loan, lent_at, back_from}
use Rattle.core_quick.proofs.Words.{nothing, same_some}
use Rattle.core_quick.proofs.Spans.{listed-none, listed-one}
use Rattle.core_quick.proofs.Blocks.{KeepsRest}
use Rattle.core_pages.proofs.Gathering.{GainsCopies}
use Rattle.core_quick.proofs.Released.{length-without_all, count-without_all_in, count-without_all_out}

-- ---- a block that goes back

-- the block with its page at the side
abbrev pub returned_block : Side → Page → Block → Block
returned_block side page x = record x { host = by_side side (Some page) x.host; drive = by_side side x.drive (Some page); lent = None }

-- what became of a block: it was lent to the lane and went back, or it is as it was
pub data Went (side : Side) (lane : ℕ) (x y : Block) : Type 0 where
  Back : (loan : Loan) → x.lent ≡ Some loan → loan.lane ≡ lane → y ≡ returned_block side loan.page x → Went side lane x y
  Stayed : ((loan : Loan) → x.lent ≡ Some loan → loan.lane ≢ lane) → y ≡ x → Went side lane x y

pub went : (side : Side) (lane : ℕ) (x : Block) → Went side lane x (back_from side lane x.lent x)
went side lane x = go x.lent refl
  where
    go : (o : Option Loan) → x.lent ≡ o → Went side lane x (back_from side lane o x)
    go None e = Stayed (λ loan f. absurd (nothing x.lent loan e f)) refl
    go (Some loan) e = at (loan.lane == lane) refl
      where
        at : (t : Bool) → (loan.lane == lane) ≡ t → Went side lane x (if t then returned_block side loan.page x else x)
        at true q = let s : loan.lane ≡ lane = grind (arith, nat_tests) in Back loan e s refl
        at false q = let d : loan.lane ≢ lane = grind (arith, nat_tests) in Stayed (λ l f. let k : l ≡ loan = same_some x.lent l loan f e in subst (λ (w : Loan). w.lane ≢ lane) (sym k) d) refl

-- its content stays
back_content : (side : Side) (x : Block) (loan : Loan) → x.lent ≡ Some loan → x.host ≡ None → x.drive ≡ None → content (returned_block side loan.page x) ≡ content x
back_content Host x loan e a b = grind arith
back_content Drive x loan e a b = grind arith

pub went_rest : (side : Side) (lane : ℕ) (x y : Block) → ((loan : Loan) → x.lent ≡ Some loan → InNeitherCache x) → Went side lane x y → KeepsRest x y
went_rest side lane x y alone (Back loan e l s) = subst (KeepsRest x) (sym s) (let n = alone loan e in record { content = back_content side x loan e n.host n.drive; flash = refl; clean = refl; written = refl; version = refl })
went_rest side lane x y alone (Stayed d s) = subst (KeepsRest x) (sym s) (record { content = refl; flash = refl; clean = refl; written = refl; version = refl })

back_copies : (side : Side) (x : Block) (loan : Loan) → x.lent ≡ Some loan → x.host ≡ None → x.drive ≡ None → HasCopies x → HasCopies (returned_block side loan.page x)
back_copies Host x loan e a b h =
    let same = back_content Host x loan e a b in
    record { host = λ p f. sym (same_some _ _ _ refl f) ∙ (h.lent loan e ∙ sym same); drive = λ p f. absurd (nothing x.drive p b f); lent = λ l f. absurd (cc); whole = ap length same ∙ h.whole; flash = h.flash }
back_copies Drive x loan e a b h =
    let same = back_content Drive x loan e a b in
    record { host = λ p f. absurd (nothing x.host p a f); drive = λ p f. sym (same_some _ _ _ refl f) ∙ (h.lent loan e ∙ sym same); lent = λ l f. absurd (cc); whole = ap length same ∙ h.whole; flash = h.flash }

pub went_copies : (side : Side) (lane : ℕ) (x y : Block) → ((loan : Loan) → x.lent ≡ Some loan → InNeitherCache x) → HasCopies x → Went side lane x y → HasCopies y
went_copies side lane x y alone h (Back loan e l s) = subst HasCopies (sym s) (let n = alone loan e in back_copies side x loan e n.host n.drive h)
went_copies side lane x y alone h (Stayed d s) = subst HasCopies (sym s) h

pub back_has : (side : Side) (page : Page) (x : Block) → has_copy (returned_block side page x) ≡ true
back_has Host page x = refl
back_has Drive page x = grind arith

away_none : (x : Block) → IsAway x → has_copy x ≡ true → ⊥
away_none x a t = let k = a.host in let d = a.drive in grind arith

pub went_hand : (side : Side) (lane : ℕ) (x y : Block) → IsInHand x → Went side lane x y → IsInHand y
went_hand side lane x y h (Back loan e l s) = subst IsInHand (sym s) (λ f away. away_none (returned_block side loan.page x) away (back_has side loan.page x))
went_hand side lane x y h (Stayed d s) = subst IsInHand (sym s) h

-- a block that is lent to another lane, is still
pub went_lent : (side : Side) (lane : ℕ) (x y : Block) → Went side lane x y → (loan : Loan) → y.lent ≡ Some loan → (loan.lane ≢ lane) × (x.lent ≡ Some loan) × (y ≡ x)
went_lent side lane x y (Back l e m s) loan f = let k : None ≡ Some loan = sym (ap (λ (w : Block). w.lent) s) ∙ f in absurd (cc)
went_lent side lane x y (Stayed d s) loan f = let k : x.lent ≡ Some loan = sym (ap (λ (w : Block). w.lent) s) ∙ f in (d loan k, k, s)

pub went_other : (side : Side) (lane : ℕ) (x y : Block) → Went side lane x y → (loan : Loan) → x.lent ≡ Some loan → loan.lane ≢ lane → y ≡ x
went_other side lane x y (Back l e m s) loan f d = let k : l ≡ loan = same_some x.lent l loan e f in absurd (d (ap (λ (w : Loan). w.lane) (sym k) ∙ m))
went_other side lane x y (Stayed g s) loan f d = s

pub went_unlent : (side : Side) (lane : ℕ) (x y : Block) → Went side lane x y → x.lent ≡ None → y ≡ x
went_unlent side lane x y (Back l e m s) n = absurd (nothing x.lent l n e)
went_unlent side lane x y (Stayed g s) n = s

back_more : (side at : Side) (page : Page) (x : Block) → is_some (copy_at at x) ≡ true → is_some (copy_at at (returned_block side page x)) ≡ true
back_more Host Host page x e = refl
back_more Host Drive page x e = e
back_more Drive Host page x e = e
back_more Drive Drive page x e = refl

pub went_gains : (side : Side) (lane : ℕ) (x y : Block) → Went side lane x y → GainsCopies x y
went_gains side lane x y (Back loan e l s) = subst (GainsCopies x) (sym s) (record { more = λ at t. back_more side at loan.page x t; blank = λ b. absurd (nothing x.lent loan b.away.lent e) })
went_gains side lane x y (Stayed d s) = subst (GainsCopies x) (sym s) (record { more = λ at t. t; blank = λ b. b })

-- ---- the list of the blocks that go back

-- a loan of the call, at a place of its span
lent_is : (places : Places) (call : Flight) (i b : ℕ) → call.frame i ≡ OnLoan → span_block places call.claim i ≡ Some b → lent_at places call i ≡ Some b
lent_is places call i b f at = ap (λ (g : Frame). if is_on_loan g then span_block places call.claim i else None) f ∙ at

lent_was : (places : Places) (call : Flight) (i b : ℕ) → lent_at places call i ≡ Some b → (call.frame i ≡ OnLoan) × (span_block places call.claim i ≡ Some b)
lent_was places call i b e = go (call.frame i) refl e
  where
    go : (f : Frame) → call.frame i ≡ f → (if is_on_loan f then span_block places call.claim i else None) ≡ Some b → (call.frame i ≡ OnLoan) × (span_block places call.claim i ≡ Some b)
    go NoFrame q e = absurd (cc)
    go Reserved q e = absurd (cc)
    go OnLoan q e = (q, e)

-- the blocks lent to the lane's call are listed once, and no others
pub back_listed : (c : Core) (lane : ℕ) (call : Flight) (b : ℕ) (loan : Loan) → Coherent c → c.calls lane ≡ Some call → (c.blocks b).lent ≡ Some loan → loan.lane ≡ lane → count b (listed_to call.claim.reach.pages (lent_at c.places call)) ≡ 1
back_listed c lane call b loan h e l s =
    let t = h.lent.held b loan l in
    let same : t.call ≡ call = same_some (c.calls lane) t.call call (ap c.calls (sym s) ∙ t.flies) e in
    let frame : call.frame t.i ≡ OnLoan = ap (λ (w : Flight). w.frame t.i) (sym same) ∙ t.frame in
    let block : span_block c.places call.claim t.i ≡ Some b = ap (λ (w : Flight). span_block c.places w.claim t.i) (sym same) ∙ t.block in
    let within : t.i < call.claim.reach.pages = subst (λ (w : Flight). t.i < w.claim.reach.pages) same t.within in
    listed-one b call.claim.reach.pages t.i (lent_at c.places call) within (lent_is c.places call t.i b frame block)
    (λ q f. let w = lent_was c.places call q b f in let p = (h.placed.have.apart _ _ _ _ b w.1 block).1 in omega arith)

pub back_unlisted : (c : Core) (lane : ℕ) (call : Flight) (b : ℕ) → Coherent c → c.calls lane ≡ Some call → ((loan : Loan) → (c.blocks b).lent ≡ Some loan → loan.lane ≢ lane) → count b (listed_to call.claim.reach.pages (lent_at c.places call)) ≡ 0
back_unlisted c lane call b h e d =
    listed-none b call.claim.reach.pages (lent_at c.places call) (λ p l f.
    let w = lent_was c.places call p b f in
    let o = h.lent.loans lane call e p l w.0 in
    let s : o.b ≡ b = same_some (span_block c.places call.claim p) o.b b o.block w.1 in
    d o.loan (ap (λ (k : ℕ). (c.blocks k).lent) (sym s) ∙ o.lent) o.lane_is)

-- and they take as many frames
weight_of : (places : Places) (call : Flight) (i : ℕ) → length (option_to_list (lent_at places call i)) ≤ weight (call.frame i)
weight_of places call i = go (call.frame i)
  where
    one : (o : Option ℕ) → length (option_to_list o) ≤ 1
    one None = omega arith
    one (Some x) = omega arith

    go : (f : Frame) → length (option_to_list (if is_on_loan f then span_block places call.claim i else None)) ≤ weight f
    go NoFrame = omega arith
    go Reserved = omega arith
    go OnLoan = one (span_block places call.claim i)

pub back_weight : (places : Places) (call : Flight) (n : ℕ) → length (listed_to n (lent_at places call)) ≤ sum_to n (λ i. weight (call.frame i))
unfolding listed_to sum_to
back_weight places call zero = omega arith
back_weight places call (suc n) = let k = back_weight places call n in let w = weight_of places call n in omega (arith, length-append (listed_to n (lent_at places call)) (option_to_list (lent_at places call n)))

-- ---- orders

-- an order where the listed blocks go last
pub all_last_order : (bs order : List ℕ) (test test2 : ℕ → Bool) → ((b : ℕ) → (count b bs ≡ 1) × (test2 b ≡ true) ⊎ (count b bs ≡ 0) × (test2 b ≡ test b)) → Lists order test → Lists (all_last bs order) test2
all_last_order bs order test test2 each h b = ⊎_elim
    (λ (l : (count b bs ≡ 1) × (test2 b ≡ true)). let k = l.0 in let z = count-without_all_in bs order b (omega arith) in let t = ap one_if l.1 in omega (arith, count-append b (without_all bs order) bs))
    (λ (l : (count b bs ≡ 0) × (test2 b ≡ test b)). let k = l.0 in let z = count-without_all_out bs order b k in let t = ap one_if l.1 in let o = h b in omega (arith, count-append b (without_all bs order) bs)) (each b)

pub length-all_last : (bs order : List ℕ) → length (all_last bs order) ≤ length order + length bs
length-all_last bs order = let k = length-without_all bs order in omega (arith, length-append (without_all bs order) bs)

pub count-filter : (test : ℕ → Bool) (xs : List ℕ) (b : ℕ) → count b (filter test xs) ≡ (if test b then count b xs else 0)
count-filter test [] b = go (test b)
  where
    go : (t : Bool) → count b [] ≡ (if t then count b [] else 0)
    go true = refl
    go false = count-nil b
count-filter test (x ∷ xs) b = ⊎_elim (λ (s : b ≡ x). same s (test x) refl (test b) refl (count-filter test xs b)) (λ (d : b ≢ x). other d (test x) (count-filter test xs b)) (same_or_not b x)
  where
    other : b ≢ x → (t : Bool) → count b (filter test xs) ≡ (if test b then count b xs else 0) → count b (if t then x ∷ filter test xs else filter test xs) ≡ (if test b then count b (x ∷ xs) else 0)
    other d true ih = count-there b x (filter test xs) d ∙ (ih ∙ ap (λ (n : ℕ). if test b then n else 0) (sym (count-there b x xs d)))
    other d false ih = ih ∙ ap (λ (n : ℕ). if test b then n else 0) (sym (count-there b x xs d))

    same : b ≡ x → (t : Bool) → test x ≡ t → (u : Bool) → test b ≡ u → count b (filter test xs) ≡ (if u then count b xs else 0) → count b (if t then x ∷ filter test xs else filter test xs) ≡ (if u then count b (x ∷ xs) else 0)
    same s t e u f ih = by t u (sym e ∙ (ap test (sym s) ∙ f)) ih
      where
        here : (ys : List ℕ) → count b (x ∷ ys) ≡ count b ys + 1
        here ys = ap (λ (k : ℕ). count b (k ∷ ys)) (sym s) ∙ count-here b ys

        by : (t u : Bool) → t ≡ u → count b (filter test xs) ≡ (if u then count b xs else 0) → count b (if t then x ∷ filter test xs else filter test xs) ≡ (if u then count b (x ∷ xs) else 0)
        by true true q ih = here (filter test xs) ∙ (ap (λ (n : ℕ). n + 1) ih ∙ sym (here xs))
        by false false q ih = ih
        by true false q ih = absurd (cc)
        by false true q ih = absurd (cc)
