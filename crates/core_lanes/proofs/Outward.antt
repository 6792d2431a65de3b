-- A die goes out: DieOut and FlushOut.
use Rattle.std.proofs.Common.{◌≡◌, ℕ, ◌+◌, ◌<◌, Bool, true, false, Option, Some, None, refl, sym, ap, ◌∙◌, subst, inl, inr, ⊎_elim, arith}
use Rattle.std.specs.Prelude.{◌≢◌, ◌⊎◌, ◌&&◌, not, nat_lt, is_none}
use Rattle.std.proofs.lemmas.Bool.Decides.{nat_tests}
use Rattle.index_lists.proofs.Counts.{same_or_not}
use Rattle.core_lemmas.specs.Actor.{Actor}
use Rattle.core_lemmas.specs.Actor.TheVariants.{Lane, Worker, Flusher, Closer}
use Rattle.core_lemmas.specs.State.{Page, Shape, Loan, Block, Names, Places, Flight, Errand, ToFill, ToMeta, Out, Core}
use Rattle.core_lemmas.specs.Contents.{span_block, is_unclean, has_copy, IsAway, IsBlank}
use Rattle.core_lemmas.specs.Placed.{Placed}
use Rattle.core_lemmas.specs.InFlight.{IsLentTo}
use Rattle.core_lemmas.specs.Dies.{MaySync, MayFlush, IsErrand}
use Rattle.core_lemmas.specs.PlainOf.{plain}
use Rattle.core_lemmas.specs.Coherent.{Coherent}
use Rattle.core_lemmas.specs.DieEvents.{die_out, flush_of, sent, is_flushable, FlushesFor, MayWriteMeta, MayFill, MayMeta, MayFlushOut}
use Rattle.core_lemmas.specs.Happens.{HoldsNone}
use Rattle.core_lemmas.specs.Event.TheVariants.{DieOut}
use Rattle.core_lemmas.specs.Purpose.{Purpose}
use Rattle.core_lemmas.specs.Purpose.TheVariants.{Fill, Meta}
use Rattle.core_lanes.specs.Keeps.{Keeps}
use Rattle.core_lemmas.proofs.Words.{nothing, same_some}
use Rattle.core_lemmas.proofs.Dies.{dies_out}
use Rattle.core_lemmas.proofs.Spans.{only_span}
use Rattle.core_lemmas.proofs.Finds.{found_listed}

-- an errand that is right goes out
out_keeps : (c : Core) (actor : Actor) (die : ℕ) (errand : Errand) → Coherent c → HoldsNone c actor → IsErrand c.shape c.places c.blocks c.lanes c.calls die actor errand → Coherent (die_out c actor die errand)
out_keeps c actor die errand h free right = record {
  placed = h.placed;
  copies = h.copies;
  clean = h.clean;
  unclean = h.unclean;
  lent = h.lent;
  locked = h.locked;
  in_flight = h.in_flight;
  tails = h.tails;
  frames = h.frames;
  orders = h.orders;
  dies = dies_out c.shape c.places c.blocks c.lanes c.calls c.dies die (sent (c.dies die) actor errand) (record { holder = actor; errand = errand }) refl free right h.dies;
  gathered = h.gathered;
}

true_or_false : (t : Bool) → (t ≡ true) ⊎ (t ≡ false)
true_or_false true = inl refl
true_or_false false = inr refl

none_or_some : {A : Type 0} (o : Option A) → (o ≡ None) ⊎ ((x : A) × (o ≡ Some x))
none_or_some None = inl refl
none_or_some (Some x) = inr (x, refl)

-- the page of a call that is still to gather it is lent to nobody
pub not_lent : (c : Core) (lane i : ℕ) (call : Flight) (b : ℕ) → Coherent c → c.calls lane ≡ Some call → i < call.claim.reach.pages → call.gathered i ≡ None → span_block c.places call.claim i ≡ Some b → (c.blocks b).lent ≡ None
not_lent c lane i call b h e within missing at = ⊎_elim (λ n. n) (λ s. absurd (lent s.0 (h.lent.held b s.0 s.1))) (none_or_some (c.blocks b).lent)
  where
    lent : (loan : Loan) → IsLentTo c.places c.calls b loan → ⊥
    lent loan l = ⊎_elim
        (λ (same : loan.lane ≡ lane).
        let f : l.call ≡ call = same_some (c.calls lane) l.call call (ap c.calls (sym same) ∙ l.flies) e in
        let place : l.call.claim.reach.first + l.i ≡ call.claim.reach.first + i = (h.placed.have.apart _ _ _ _ b l.block at).1 in
        let first : l.call.claim.reach.first ≡ call.claim.reach.first = ap (λ (w : Flight). w.claim.reach.first) f in
        let index : l.i ≡ i = omega arith in
        nothing (call.gathered i) loan.page missing (ap (λ (w : Flight). w.gathered i) (sym f) ∙ (ap l.call.gathered (sym index) ∙ l.gathered)))
        (λ (d : loan.lane ≢ lane). only_span c.shape c.names c.places c.blocks (plain c) c.calls h.placed h.in_flight h.locked.apart loan.lane lane l.call call l.flies e d l.mode l.i i b l.within within l.block at)
        (same_or_not loan.lane lane)

pub fill_out_keeps : (c : Core) (actor : Actor) (die lane i : ℕ) → Coherent c → HoldsNone c actor → MayFill c actor die lane i → Coherent (die_out c actor die (ToFill lane i))
fill_out_keeps c actor die lane i h free may =
    let w = may.wants in
    let away : IsAway (c.blocks may.b) = record { host = may.nowhere.host; drive = may.nowhere.drive; lent = not_lent c lane i may.call may.b h w.flies w.within w.missing may.block } in
    out_keeps c actor die (ToFill lane i) h free (record {
      call = may.call;
      flies = w.flies;
      owns = w.owns;
      within = w.within;
      gathered = w.missing;
      b = may.b;
      block = may.block;
      on_die = may.on_die;
      written = may.written;
      clean = ⊎_elim (λ t. t) (λ f. absurd (h.unclean may.b f away)) (true_or_false (c.blocks may.b).clean);
      away = away;
    })

pub meta_out_keeps : (c : Core) (actor : Actor) (die number : ℕ) (bytes : Page) → Coherent c → HoldsNone c actor → MayMeta c actor die number bytes → Coherent (die_out c actor die (ToMeta number bytes))
meta_out_keeps c actor die number bytes h free may = out_keeps c actor die (ToMeta number bytes) h free (may.below, may.on_die, syncs actor may.writes)
  where
    syncs : (a : Actor) → MayWriteMeta c a number → MaySync c.calls a
    syncs (Lane l) m = m.0
    syncs (Worker w) m = absurd m
    syncs (Flusher f) m = absurd m
    syncs Closer m = tt

-- a block of the unclean order is unclean, and one of the drive's
unclean_is : (x : Block) → is_unclean x ≡ true → x.clean ≡ false
unclean_is x e = go x.clean e
  where
    go : (t : Bool) → (not t && has_copy x) ≡ true → t ≡ false
    go true f = absurd (cc)
    go false f = refl

pub block_within : (shape : Shape) (names : Names) (places : Places) (blocks : ℕ → Block) (b : ℕ) → Placed shape names places blocks → (IsBlank (blocks b) → ⊥) → b < shape.blocks
block_within shape names places blocks b h used = go (nat_lt b shape.blocks) refl
  where
    go : (t : Bool) → nat_lt b shape.blocks ≡ t → b < shape.blocks
    go true e = grind (arith, nat_tests)
    go false e = absurd (used (h.free b (λ id p at. let l = h.have.within id p b at in let k : (b < shape.blocks) → ⊥ = grind (arith, nat_tests) in k l)))

pub home_is : (o : Option Out) → is_none o ≡ true → o ≡ None
home_is None e = refl
home_is (Some x) e = absurd (cc)

pub flush_out_keeps : (c : Core) (actor : Actor) (die b : ℕ) → Coherent c → HoldsNone c actor → MayFlushOut c actor die b → Coherent (die_out c actor die (flush_of c b))
flush_out_keeps c actor die b h free may =
    let listed = found_listed (is_flushable c) c.unclean (λ j. is_unclean (c.blocks j)) b h.orders.ordered.unclean may.first in
    let unclean = unclean_is (c.blocks b) listed in
    out_keeps c actor die (flush_of c b) h free (
      block_within c.shape c.names c.places c.blocks b h.placed (λ blank. let k = blank.clean in cc),
      may.on_die,
      record { whole = (h.copies b).whole; older = omega arith; same = λ e. (unclean, refl); newer = λ n. absurd (n refl) },
      flushes actor may.acts,
    )
  where
    flushes : (a : Actor) → FlushesFor c a → MayFlush c.lanes c.calls a
    flushes (Lane l) m = m.0
    flushes (Worker w) m = tt
    flushes (Flusher f) m = tt
    flushes Closer m = tt

pub die_out_keeps : (actor : Actor) (die : ℕ) (purpose : Purpose) → Keeps (DieOut actor die purpose)
die_out_keeps actor die (Fill lane i) c c2 h s = subst Coherent (sym s.leaves) (fill_out_keeps c actor die lane i h (s.hands refl) s.may)
die_out_keeps actor die (Meta page bytes) c c2 h s = subst Coherent (sym s.leaves) (meta_out_keeps c actor die page bytes h (s.hands refl) s.may)
