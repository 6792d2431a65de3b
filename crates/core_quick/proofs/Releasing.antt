-- A core whose file loses its last pages, with the names that come with it.
use Rattle.std.proofs.Common.{◌≡◌, ℕ, ◌+◌, ◌-◌, ◌<◌, ◌≤◌, Bool, true, false, List, [], Option, Some, None, refl, sym, ap, ◌∙◌, subst, inl, inr, ⊎_elim, arith}
use Rattle.std.proofs.lemmas.Bool.Decides.{nat_tests}
use Rattle.std.specs.Prelude.{◌≢◌, ◌⊎◌, nat_lt, is_some}
use Rattle.index_lists.specs.Words.{count}
use Rattle.index_lists.proofs.Counts.{same_or_not}
use Rattle.core_lanes.specs.Plain.{State}
use Rattle.core_lanes.specs.Actor.{Actor}
use Rattle.core_lanes.specs.Words.{is_in, without_all}
use Rattle.core_lanes.specs.State.{Loan, Block, Names, Places, Flight, Errand, ToFill, ToFlush, ToMeta, Core}
use Rattle.core_lanes.specs.Contents.{InNeitherCache, IsAway, IsBlank, content, contents, page_of, span_block, is_unclean}
use Rattle.core_lanes.specs.PlainOf.{plain, names_like}
use Rattle.core_lanes.specs.Sound.{HasCopies, IsKept, IsInHand}
use Rattle.core_lanes.specs.Placed.{IsFree, AreNamed, HavePlaces, Tails}
use Rattle.core_lanes.specs.InFlight.{claims, IsLentTo, IsLoanOf, InFlight}
use Rattle.core_lanes.specs.Frames.{HasFrame, HasFrameFor}
use Rattle.core_lanes.specs.Dies.{IsFlush, IsErrand, Gathered}
use Rattle.core_lanes.specs.Coherent.{Coherent}
use Rattle.core_lanes.specs.Resizing.{blocks_between, new_places, renewed_in}
use Rattle.core_lanes.proofs.Words.{nothing}
use Rattle.core_quick.proofs.Seen.{FindAll, locked_names, in_flight_names, gathered_names}
use Rattle.core_quick.proofs.Released.{listed_at, listed_in, in_is, in_of, length-without_all, each_renewed, stays_out, renewed_copies, renewed_kept, renewed_hand, renewed_blank, renewed_flush, released_order, IsKeptPage, place_kept}

-- the blocks that go
abbrev pub gone_of : Core → ℕ → ℕ → ℕ → List ℕ
gone_of c id from to = blocks_between c.places id to from

-- the core without them
abbrev pub released : Core → ℕ → ℕ → ℕ → Names → Core
released c id from to names =
    let gone = gone_of c id from to in
    record c {
      places = new_places c.places id [] from to;
      blocks = renewed_in gone c.blocks;
      host_order = without_all gone c.host_order;
      drive_order = without_all gone c.drive_order;
      unclean = without_all gone c.unclean;
      names = names;
    }

-- no call in flight has one of the pages that go in its span
pub record IsReleasable (c : Core) (id from to : ℕ) : Type 0 where
  pub less : to ≤ from
  pub exact : (p : ℕ) → is_some (c.places id p) ≡ nat_lt p from
  pub idle : (lane : ℕ) (x : Flight) → c.calls lane ≡ Some x → (i : ℕ) → i < x.claim.reach.pages → IsKeptPage id to x.claim.file (x.claim.reach.first + i)

-- a block that goes has one of these pages
gone_at : (c : Core) (id from to b : ℕ) → is_in b (gone_of c id from to) ≡ true → (p : ℕ) × (to ≤ p) × (c.places id p ≡ Some b)
gone_at c id from to b e = let k = listed_at b (from - to) (λ j. c.places id (to + j)) (in_of (count b (gone_of c id from to)) e) in (to + k.0, omega arith, k.2)

-- and the block of a page that stays, stays
pub kept_out : (c : Core) (id from to f p b : ℕ) → Coherent c → IsKeptPage id to f p → c.places f p ≡ Some b → is_in b (gone_of c id from to) ≡ false
kept_out c id from to f p b h k at = go (is_in b (gone_of c id from to)) refl
  where
    go : (t : Bool) → is_in b (gone_of c id from to) ≡ t → t ≡ false
    go true e =
        let g = gone_at c id from to b e in
        let same = h.placed.have.apart f id p g.0 b at g.2 in
        ⊎_elim (λ (d : f ≢ id). absurd (d same.0)) (λ (m : p < to). let q = same.1 in let l = g.1 in absurd (omega arith)) k
    go false e = refl

pub page_kept : (c : Core) (id from to f p : ℕ) → Coherent c → to ≤ from → IsKeptPage id to f p → page_of (contents (renewed_in (gone_of c id from to) c.blocks)) (new_places c.places id [] from to f p) ≡ page_of (contents c.blocks) (c.places f p)
page_kept c id from to f p h l k = ap (page_of (contents (renewed_in (gone_of c id from to) c.blocks))) (place_kept c.places id from to f p l k) ∙ go (c.places f p) refl
  where
    go : (o : Option ℕ) → c.places f p ≡ o → page_of (contents (renewed_in (gone_of c id from to) c.blocks)) o ≡ page_of (contents c.blocks) o
    go None e = refl
    go (Some b) e = ap content (stays_out (gone_of c id from to) c.blocks b (kept_out c id from to f p b h k e))

pub released_keeps : (c : Core) (id from to : ℕ) (s2 : State) → IsReleasable c id from to → AreNamed (names_like s2 c.names) → HavePlaces c.shape (names_like s2 c.names) (new_places c.places id [] from to) →
    Tails (names_like s2 c.names) (new_places c.places id [] from to) (contents (renewed_in (gone_of c id from to) c.blocks)) → FindAll (claims c.calls) (plain c) s2 → plain (released c id from to (names_like s2 c.names)) ≡ s2 →
    Coherent c → Coherent (released c id from to (names_like s2 c.names))
released_keeps c id from to s2 r named have tails same moves h = record {
  placed = record { drive = h.placed.drive; have = have; free = free; named = named };
  copies = each_renewed (λ b w. HasCopies w) gone c.blocks (λ b e. renewed_copies (c.blocks b) (unlent b e) (h.copies b)) (λ b e. h.copies b);
  clean = each_renewed (λ b w. IsKept w) gone c.blocks (λ b e. renewed_kept (c.blocks b) (unlent b e)) (λ b e. h.clean b);
  unclean = each_renewed (λ b w. IsInHand w) gone c.blocks (λ b e. renewed_hand (c.blocks b)) (λ b e. h.unclean b);
  lent = record {
    alone = each_renewed (λ b w. (loan : Loan) → w.lent ≡ Some loan → InNeitherCache w) gone c.blocks (λ b e loan l. record { host = refl; drive = refl }) (λ b e. h.lent.alone b);
    held = each_renewed (λ b w. (loan : Loan) → w.lent ≡ Some loan → IsLentTo places2 c.calls b loan) gone c.blocks (λ b e loan l. absurd (nothing (c.blocks b).lent loan (unlent b e) l)) (λ b e loan l. still b loan (h.lent.held b loan l));
    loans = λ lane x e i l f. loan lane x e i l (h.lent.loans lane x e i l f);
  };
  locked = locked_names c.shape c.names c.places (contents c.blocks) s2 (claims c.calls) same h.locked;
  in_flight = subst (λ (s : State). InFlight (names_like s2 c.names) s c.calls) (sym moves) (in_flight_names c.shape c.names c.places (contents c.blocks) s2 c.calls same h.in_flight);
  tails = tails;
  frames = record {
    host = let k = length-without_all gone c.host_order in let o = h.frames.host in omega arith;
    drive = let k = length-without_all gone c.drive_order in let o = h.frames.drive in omega arith;
    each = λ lane x e i l. subst (λ (o : Option ℕ). HasFrameFor x.claim.reach.mode x.claim.side blocks2 o (x.frame i)) (sym (span_same lane x e i l)) (framed lane x e i l (span_block c.places x.claim i) refl (h.frames.each lane x e i l));
  };
  orders = record {
    ordered = record {
      host = released_order gone c.host_order c.blocks (λ w. is_some w.host) (λ x. refl) h.orders.ordered.host;
      drive = released_order gone c.drive_order c.blocks (λ w. is_some w.drive) (λ x. refl) h.orders.ordered.drive;
      unclean = released_order gone c.unclean c.blocks is_unclean (λ x. refl) h.orders.ordered.unclean;
    };
    queued = h.orders.queued;
  };
  dies = record { right = λ die out e. errand die out.holder out.errand (h.dies.right die out e); one_each = h.dies.one_each; in_turn = h.dies.in_turn };
  gathered = subst (λ (s : State). Gathered places2 (contents blocks2) s c.lanes c.calls) (sym moves)
      (gathered_names places2 (contents blocks2) (plain c) s2 c.lanes c.calls same (record {
        pages_are = λ lane x e i p l g. h.gathered.pages_are lane x e i p l g ∙ sym (page_kept c id from to x.claim.file (x.claim.reach.first + i) h r.less (r.idle lane x e i l));
        results = h.gathered.results;
      }));
}
  where
    gone : List ℕ
    gone = gone_of c id from to

    places2 : Places
    places2 = new_places c.places id [] from to

    blocks2 : ℕ → Block
    blocks2 = renewed_in gone c.blocks

    span_same : (lane : ℕ) (x : Flight) → c.calls lane ≡ Some x → (i : ℕ) → i < x.claim.reach.pages → span_block places2 x.claim i ≡ span_block c.places x.claim i
    span_same lane x e i l = place_kept c.places id from to x.claim.file (x.claim.reach.first + i) r.less (r.idle lane x e i l)

    block_out : (lane : ℕ) (x : Flight) → c.calls lane ≡ Some x → (i b : ℕ) → i < x.claim.reach.pages → span_block c.places x.claim i ≡ Some b → is_in b gone ≡ false
    block_out lane x e i b l at = kept_out c id from to x.claim.file (x.claim.reach.first + i) b h (r.idle lane x e i l) at

    unlent : (b : ℕ) → is_in b gone ≡ true → (c.blocks b).lent ≡ None
    unlent b e = go (c.blocks b).lent refl
      where
        go : (o : Option Loan) → (c.blocks b).lent ≡ o → o ≡ None
        go None q = refl
        go (Some loan) q = let t = h.lent.held b loan q in let n = block_out loan.lane t.call t.flies t.i b t.within t.block in absurd (cc)

    free : (b : ℕ) → IsFree places2 b → IsBlank (blocks2 b)
    free = each_renewed (λ b w. IsFree places2 b → IsBlank w) gone c.blocks (λ b e f. renewed_blank (c.blocks b) (unlent b e)) (λ b e f. h.placed.free b (λ g p at. was b e f g p at))
      where
        was : (b : ℕ) → is_in b gone ≡ false → IsFree places2 b → (g p : ℕ) → c.places g p ≡ Some b → ⊥
        was b e f g p at = ⊎_elim (λ (k : IsKeptPage id to g p). f g p (place_kept c.places id from to g p r.less k ∙ at)) (λ (n : (g ≡ id) × (to ≤ p)). gone_in b e g p at n.0 n.1) (cases g p)
          where
            cases : (g p : ℕ) → (IsKeptPage id to g p) ⊎ ((g ≡ id) × (to ≤ p))
            cases g p = ⊎_elim (λ (s : g ≡ id). ⊎_elim (λ (m : p < to). inl (inr m)) (λ (m : to ≤ p). inr (s, m)) (below p)) (λ (d : g ≢ id). inl (inl d)) (same_or_not g id)
              where
                below : (p : ℕ) → (p < to) ⊎ (to ≤ p)
                below p = grind arith

            of_test : (a b : ℕ) → nat_lt a b ≡ true → a < b
            of_test a b e = grind (arith, nat_tests)

            gone_in : (b : ℕ) → is_in b gone ≡ false → (g p : ℕ) → c.places g p ≡ Some b → g ≡ id → to ≤ p → ⊥
            gone_in b e g p at s m =
                let here : c.places id p ≡ Some b = ap (λ (k : ℕ). c.places k p) (sym s) ∙ at in
                let low : p < from = of_test p from (sym (r.exact p) ∙ ap is_some here) in
                let shift : to + (p - to) ≡ p = omega arith in
                let t : is_in b gone ≡ true = in_is (count b gone) (listed_in b (from - to) (p - to) (λ j. c.places id (to + j)) (omega arith) (ap (c.places id) shift ∙ here)) in
                cc

    still : (b : ℕ) (loan : Loan) → IsLentTo c.places c.calls b loan → IsLentTo places2 c.calls b loan
    still b loan t = record { call = t.call; flies = t.flies; mode = t.mode; i = t.i; within = t.within; block = span_same loan.lane t.call t.flies t.i t.within ∙ t.block; gathered = t.gathered; frame = t.frame }

    loan : (lane : ℕ) (x : Flight) → c.calls lane ≡ Some x → (i : ℕ) → i < x.claim.reach.pages → IsLoanOf c.places c.blocks lane x.claim i → IsLoanOf places2 blocks2 lane x.claim i
    loan lane x e i l o = record { b = o.b; loan = o.loan; block = span_same lane x e i l ∙ o.block; lent = ap (λ (w : Block). w.lent) (stays_out gone c.blocks o.b (block_out lane x e i o.b l o.block)) ∙ o.lent; lane_is = o.lane_is }

    framed : (lane : ℕ) (x : Flight) → c.calls lane ≡ Some x → (i : ℕ) → i < x.claim.reach.pages → (o : Option ℕ) → span_block c.places x.claim i ≡ o → HasFrameFor x.claim.reach.mode x.claim.side c.blocks o (x.frame i) → HasFrameFor x.claim.reach.mode x.claim.side blocks2 o (x.frame i)
    framed lane x e i l None at f = f
    framed lane x e i l (Some b) at f = subst (λ (w : Block). HasFrame x.claim.reach.mode x.claim.side w (x.frame i)) (sym (stays_out gone c.blocks b (block_out lane x e i b l at))) f

    errand : (die : ℕ) (holder : Actor) (errand : Errand) → IsErrand c.shape c.places c.blocks c.lanes c.calls die holder errand → IsErrand c.shape places2 blocks2 c.lanes c.calls die holder errand
    errand die holder (ToFill lane i) f =
        let out = stays_out gone c.blocks f.b (block_out lane f.call f.flies i f.b f.within f.block) in
        record {
          call = f.call;
          flies = f.flies;
          owns = f.owns;
          within = f.within;
          gathered = f.gathered;
          b = f.b;
          block = span_same lane f.call f.flies i f.within ∙ f.block;
          on_die = f.on_die;
          written = ap (λ (w : Block). w.written) out ∙ f.written;
          clean = ap (λ (w : Block). w.clean) out ∙ f.clean;
          away = subst IsAway (sym out) f.away;
        }
    errand die holder (ToFlush b v p) k = (k.0, k.1, each_renewed (λ b w. IsFlush (c.blocks b) v p → IsFlush w v p) gone c.blocks (λ b e f. renewed_flush (c.blocks b) v p f) (λ b e f. f) b k.2, k.3)
    errand die holder (ToMeta number bytes) k = k
