-- What becomes of each block and each place, where a call that stores ends.
use Rattle.std.proofs.Common.{◌≡◌, ℕ, zero, suc, ◌+◌, ◌-◌, ◌<◌, ◌≤◌, Bool, true, false, List, ◌++◌, length, Option, Some, None, refl, sym, ap, ◌∙◌, subst, ⊎_elim, arith}
use Rattle.std.specs.Prelude.{◌≢◌, nat_lt, if◌then◌else◌}
use Rattle.std.specs.List.{slice_get}
use Rattle.std.proofs.lemmas.Bool.Decides.{nat_tests}
use Rattle.page_base.specs.Bytes.{Pages}
use Rattle.dispatcher.specs.declared.side.Side.{Side}
use Rattle.index_lists.specs.Words.{count}
use Rattle.index_lists.proofs.Counts.{same_or_not, count-append}
use Rattle.core_hold.specs.Plain.{State}
use Rattle.core_hold.specs.Words.{is_at, or_else, first_to, is_in}
use Rattle.core_hold.specs.State.{Page, Loan, Block, File, Places, Flight, Core}
use Rattle.core_hold.specs.Contents.{IsBlank, span_block}
use Rattle.core_hold.specs.PlainOf.{bytes_by_id, page_at}
use Rattle.core_hold.specs.Coherent.{Coherent}
use Rattle.core_hold.specs.Resizing.{blocks_between, new_places, renewed}
use Rattle.core_hold.specs.EndEvent.{installed, installed_at}
use Rattle.core_hold.proofs.Words.{same_some, low, high, is_low}
use Rattle.core_hold.proofs.Released.{listed_at, in_of, out_of}
use Rattle.core_hold.proofs.Moves.{not_fresh}
use Rattle.core_hold.proofs.Quicks.{other_place}
use Rattle.core_hold.proofs.Spanning.{own_place}
use Rattle.core_hold.proofs.Stores.{Spans}
use Rattle.core_stores.proofs.Free.{listed_there}
use Rattle.core_hold.proofs.Others.{IsStoring, still_has, fresh_of, places_of, moved_of, spanned_of}

-- ---- places

-- a place after it is one of before, or a new page's
pub data PlaceWas (places : Places) (id : ℕ) (fresh : List ℕ) (from to g p b : ℕ) : Type 0 where
  Old : places g p ≡ Some b → (g ≡ id → p < to) → PlaceWas places id fresh from to g p b
  New : g ≡ id → from ≤ p → p < to → slice_get fresh (p - from) ≡ Some b → PlaceWas places id fresh from to g p b

pub place_was : (places : Places) (id : ℕ) (fresh : List ℕ) (from to g p b : ℕ) → new_places places id fresh from to g p ≡ Some b → PlaceWas places id fresh from to g p b
place_was places id fresh from to g p b e = ⊎_elim own (λ (d : g ≢ id). Old (sym (other_place places id fresh from to g p d) ∙ e) (λ s. absurd (d s))) (same_or_not g id)
  where
    own : g ≡ id → PlaceWas places id fresh from to g p b
    own s = go (nat_lt p to) (nat_lt p from) refl refl (sym (own_place places id fresh from to p) ∙ (ap (λ (k : ℕ). new_places places id fresh from to k p) (sym s) ∙ e))
      where
        go : (t u : Bool) → nat_lt p to ≡ t → nat_lt p from ≡ u → (if t then (if u then places id p else slice_get fresh (p - from)) else None) ≡ Some b → PlaceWas places id fresh from to g p b
        go true true q r f = Old (ap (λ (k : ℕ). places k p) s ∙ f) (λ z. low p to q)
        go true false q r f = New s (high p from r) (low p to q) f
        go false u q r f = absurd (cc)

-- and a place that isn't cut off stays
pub place_stays : (places : Places) (id : ℕ) (fresh : List ℕ) (from to g p : ℕ) → (g ≡ id → (p < to) × (p < from)) → new_places places id fresh from to g p ≡ places g p
place_stays places id fresh from to g p h = ⊎_elim own (λ (d : g ≢ id). other_place places id fresh from to g p d) (same_or_not g id)
  where
    own : g ≡ id → new_places places id fresh from to g p ≡ places g p
    own s =
        let k = h s in
        ap (λ (k : ℕ). new_places places id fresh from to k p) s
        ∙ (own_place places id fresh from to p
        ∙ (go (nat_lt p to) (nat_lt p from) (is_low p to k.0) (is_low p from k.1) ∙ ap (λ (k : ℕ). places k p) (sym s)))
      where
        go : (t u : Bool) → t ≡ true → u ≡ true → (if t then (if u then places id p else slice_get fresh (p - from)) else None) ≡ places id p
        go true true q r = refl
        go true false q r = absurd (cc)
        go false u q r = absurd (cc)

-- ---- the search for a block in the span

pub data IsFirst (n : ℕ) (at : ℕ → Option ℕ) (b : ℕ) (o : Option ℕ) : Type 0 where
  Found : (i : ℕ) → i < n → at i ≡ Some b → o ≡ Some i → IsFirst n at b o
  Missing : ((i : ℕ) → i < n → at i ≢ Some b) → o ≡ None → IsFirst n at b o

at_is : (o : Option ℕ) (b : ℕ) → is_at o b ≡ true → o ≡ Some b
at_is None b e = absurd (cc)
at_is (Some x) b e = let s : x ≡ b = grind (arith, nat_tests) in ap Some s

at_not : (o : Option ℕ) (b : ℕ) → is_at o b ≡ false → o ≢ Some b
at_not None b e f = cc
at_not (Some x) b e f = let s : x ≡ b = same_some (Some x) x b refl f in absurd (grind (arith, nat_tests))

pub search : (n : ℕ) (at : ℕ → Option ℕ) (b : ℕ) → IsFirst n at b (first_to n (λ i. is_at (at i) b))
unfolding first_to
search zero at b = Missing (λ i l. absurd (omega arith)) refl
search (suc n) at b = go (first_to n (λ i. is_at (at i) b)) (is_at (at n) b) refl (search n at b)
  where
    go : (o : Option ℕ) (t : Bool) → is_at (at n) b ≡ t → IsFirst n at b o → IsFirst (suc n) at b (or_else o (if t then Some n else None))
    go o t e (Found i l a q) = Found i (omega arith) a (ap (λ (w : Option ℕ). or_else w (if t then Some n else None)) q)
    go o true e (Missing none q) = Found n (omega arith) (at_is (at n) b e) (ap (λ (w : Option ℕ). or_else w (Some n)) q)
    go o false e (Missing none q) = Missing (λ i l. ⊎_elim (λ (s : i ≡ n). subst (λ (k : ℕ). at k ≢ Some b) (sym s) (at_not (at n) b e)) (λ (d : i ≢ n). none i (omega arith)) (same_or_not i n)) (ap (λ (w : Option ℕ). or_else w None) q)

-- ---- blocks

-- a block stays, or is released or allocated outside the span, or is a page of the span
pub data Became (gone : List ℕ) (n : ℕ) (at : ℕ → Option ℕ) (page : ℕ → Page) (side : Side) (b : ℕ) (x y : Block) : Type 0 where
  Kept : y ≡ x → ((i : ℕ) → i < n → at i ≢ Some b) → count b gone ≡ 0 → Became gone n at page side b x y
  Renewed : y ≡ renewed x → x.lent ≡ None → ((i : ℕ) → i < n → at i ≢ Some b) → (count b gone ≡ 0 → IsBlank x) → Became gone n at page side b x y
  Put : (i : ℕ) → i < n → at i ≡ Some b → (w : Block) → y ≡ installed side (page i) w → w.flash ≡ x.flash → x.version ≤ w.version → count b gone ≡ 0 → Became gone n at page side b x y

-- what the call that ends tells besides
pub record IsEnding (c : Core) (lane : ℕ) (call : Flight) (f : File) (s2 : State) (to : ℕ) : Type 0 where
  pub storing : IsStoring c lane call f s2
  pub spans : Spans call.claim.reach f.len (length storing.stored.new)
  pub to_is : to ≡ Pages (length storing.stored.new)

pub fresh_blank : (c : Core) (id from to b : ℕ) → Coherent c → 0 < count b (fresh_of c id from to) → IsBlank (c.blocks b)
fresh_blank c id from to b h l = h.placed.free b (λ g p e. let z = not_fresh c.shape c.names c.places h.placed.have (to - from) g p b e in absurd (omega arith))

-- a page of the span stays in the file
pub span_low : (c : Core) (lane : ℕ) (call : Flight) (f : File) (s2 : State) (to : ℕ) → IsEnding c lane call f s2 to → (i : ℕ) → i < call.claim.reach.pages → call.claim.reach.first + i < to
span_low c lane call f s2 to g i l = let k = g.spans.within i l in let t = g.to_is in omega arith

abbrev pub gone_from : Core → File → ℕ → List ℕ
gone_from c f to = blocks_between c.places f.id to (Pages f.len)

gone_at : (c : Core) (f : File) (to b : ℕ) → 0 < count b (gone_from c f to) → (p : ℕ) × (to ≤ p) × (c.places f.id p ≡ Some b)
gone_at c f to b l = let k = listed_at b (Pages f.len - to) (λ j. c.places f.id (to + j)) l in (to + k.0, omega arith, k.2)

-- a block that still has a place isn't gone
pub placed_stays : (c : Core) (f : File) (to g p b : ℕ) → Coherent c → places_of c f.id (Pages f.len) to g p ≡ Some b → count b (gone_from c f to) ≡ 0
placed_stays c f to g p b h e = go (nat_lt 0 (count b (gone_from c f to))) refl
  where
    none : 0 < count b (gone_from c f to) → ⊥
    none l = by (place_was c.places f.id (fresh_of c f.id (Pages f.len) to) (Pages f.len) to g p b e)
      where
        by : PlaceWas c.places f.id (fresh_of c f.id (Pages f.len) to) (Pages f.len) to g p b → ⊥
        by (Old q r) =
            let k = gone_at c f to b l in
            let s = h.placed.have.apart g f.id p k.0 b q k.2 in
            let m = r s.0 in
            let t = s.1 in
            let u = k.1 in
            omega arith
        by (New s a d q) =
            let k = gone_at c f to b l in
            let z = not_fresh c.shape c.names c.places h.placed.have (to - Pages f.len) f.id k.0 b k.2 in
            let y = listed_there (fresh_of c f.id (Pages f.len) to) (p - Pages f.len) b q in
            omega arith

    go : (t : Bool) → nat_lt 0 (count b (gone_from c f to)) ≡ t → count b (gone_from c f to) ≡ 0
    go true q = absurd (none (in_of (count b (gone_from c f to)) q))
    go false q = out_of (count b (gone_from c f to)) q

gone_unlent : (c : Core) (lane : ℕ) (call : Flight) (f : File) (s2 : State) (to : ℕ) → Coherent c → IsEnding c lane call f s2 to → (b : ℕ) → 0 < count b (gone_from c f to) → (c.blocks b).lent ≡ None
gone_unlent c lane call f s2 to h g b l = go (c.blocks b).lent refl
  where
    lent : (loan : Loan) → (c.blocks b).lent ≡ Some loan → ⊥
    lent loan q =
        let t = h.lent.held b loan q in
        let k = gone_at c f to b l in
        let s = h.placed.have.apart t.call.claim.file f.id (t.call.claim.reach.first + t.i) k.0 b t.block k.2 in
        ⊎_elim
        (λ (own : loan.lane ≡ lane).
        let same : t.call ≡ call = same_some (c.calls lane) t.call call (ap c.calls (sym own) ∙ t.flies) g.storing.flies in
        let m : t.call.claim.reach.first + t.i < to = subst (λ (w : Flight). w.claim.reach.first + t.i < to) (sym same) (span_low c lane call f s2 to g t.i (subst (λ (w : Flight). t.i < w.claim.reach.pages) same t.within)) in
        let u = k.1 in
        let v = s.1 in
        omega arith)
        (λ (d : loan.lane ≢ lane).
        let still = still_has c lane call f s2 h g.storing loan.lane t.call d t.flies to g.to_is in
        let z = placed_stays c f to t.call.claim.file (t.call.claim.reach.first + t.i) b h (still.span t.i t.within ∙ t.block) in
        omega arith)
        (same_or_not loan.lane lane)

    go : (o : Option Loan) → (c.blocks b).lent ≡ o → o ≡ None
    go None q = refl
    go (Some loan) q = absurd (lent loan q)

abbrev pub span_at : Core → Flight → File → ℕ → ℕ → Option ℕ
span_at c call f to = span_block (places_of c f.id (Pages f.len) to) call.claim

abbrev pub span_page : Flight → State → ℕ → Page
span_page call s2 i = page_at (bytes_by_id s2 call.claim.file) (call.claim.reach.first + i)

pub became : (c : Core) (lane : ℕ) (call : Flight) (f : File) (s2 : State) (to : ℕ) → Coherent c → IsEnding c lane call f s2 to → (b : ℕ) →
    Became (gone_from c f to) call.claim.reach.pages (span_at c call f to) (span_page call s2) call.claim.side b (c.blocks b) (spanned_of c call f.id (Pages f.len) to s2 b)
became c lane call f s2 to h g b = go (first_to call.claim.reach.pages (λ i. is_at (span_at c call f to i) b)) (search call.claim.reach.pages (span_at c call f to) b)
  where
    gone : List ℕ
    gone = gone_from c f to

    fresh : List ℕ
    fresh = fresh_of c f.id (Pages f.len) to

    go : (o : Option ℕ) → IsFirst call.claim.reach.pages (span_at c call f to) b o → Became gone call.claim.reach.pages (span_at c call f to) (span_page call s2) call.claim.side b (c.blocks b) (installed_at call.claim.side (span_page call s2) o (moved_of c f.id (Pages f.len) to b))
    go o (Found i l a q) = subst (λ (w : Option ℕ). Became gone call.claim.reach.pages (span_at c call f to) (span_page call s2) call.claim.side b (c.blocks b) (installed_at call.claim.side (span_page call s2) w (moved_of c f.id (Pages f.len) to b))) (sym q)
        (Put i l a (moved_of c f.id (Pages f.len) to b) refl (flash (is_in b (gone ++ fresh))) (version (is_in b (gone ++ fresh))) (placed_stays c f to call.claim.file (call.claim.reach.first + i) b h a))
      where
        flash : (t : Bool) → (if t then renewed (c.blocks b) else c.blocks b).flash ≡ (c.blocks b).flash
        flash true = refl
        flash false = refl

        version : (t : Bool) → (c.blocks b).version ≤ (if t then renewed (c.blocks b) else c.blocks b).version
        version true = omega arith
        version false = omega arith
    go o (Missing none q) = subst (λ (w : Option ℕ). Became gone call.claim.reach.pages (span_at c call f to) (span_page call s2) call.claim.side b (c.blocks b) (installed_at call.claim.side (span_page call s2) w (moved_of c f.id (Pages f.len) to b))) (sym q) (by (is_in b (gone ++ fresh)) refl)
      where
        blank : is_in b (gone ++ fresh) ≡ true → count b gone ≡ 0 → IsBlank (c.blocks b)
        blank e z = let k = in_of (count b (gone ++ fresh)) e in fresh_blank c f.id (Pages f.len) to b h (omega (arith, count-append b gone fresh))

        unlent : is_in b (gone ++ fresh) ≡ true → (t : Bool) → nat_lt 0 (count b gone) ≡ t → (c.blocks b).lent ≡ None
        unlent e true u = gone_unlent c lane call f s2 to h g b (in_of (count b gone) u)
        unlent e false u = (blank e (out_of (count b gone) u)).away.lent

        by : (t : Bool) → is_in b (gone ++ fresh) ≡ t → Became gone call.claim.reach.pages (span_at c call f to) (span_page call s2) call.claim.side b (c.blocks b) (if t then renewed (c.blocks b) else c.blocks b)
        by true e = Renewed refl (unlent e (nat_lt 0 (count b gone)) refl) none (blank e)
        by false e = Kept refl none (let k = out_of (count b (gone ++ fresh)) e in omega (arith, count-append b gone fresh))
