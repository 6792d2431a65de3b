-- The turn in which the next write of the last sync goes out.
use Rattle.std.proofs.Common.{◌≡◌, ℕ, ◌+◌, ◌≤◌, Bool, true, false, List, [], ◌∷◌, ◌++◌, Some, None, refl, sym, ap, ◌∙◌, subst}
use Rattle.std.specs.declared.snapshot.Snapshot.{Snapshot}
use Rattle.page_base.specs.Drive.{meta_pages}
use Rattle.turn_cell.specs.declared.book.Entry.{Entry}
use Rattle.turn_cell.specs.declared.view.View.{View}
use Rattle.turn_cell.specs.Events.{events_of}
use Rattle.turn_cell.specs.History.{entry, entries_of}
use Rattle.turn_cell.specs.Steps.{Extends, seeing}
use Rattle.flash_die.specs.Dies.{DieView}
use Rattle.core_state.specs.declared.actor.Actor.TheVariants.{Closer}
use Rattle.core_state.specs.declared.event.Event.{Event}
use Rattle.core_state.specs.declared.event.Event.TheVariants.{DieOut, FlushOut}
use Rattle.core_state.specs.declared.event.Purpose.TheVariants.{Meta}
use Rattle.core_state.specs.State.{Page, Shape, Errand as Purpose, ToFlush, ToMeta, Core}
use Rattle.core_state.specs.Coherent.{Coherent}
use Rattle.core_state.specs.DieEvents.{flush_of}
use Rattle.core_state.specs.Hold.{hold}
use Rattle.core_state.specs.Happens.{HoldsNone, IsClosing, CoreRun}
use Rattle.core_closing.proofs.Shut.{closing_run}
use Rattle.system_state.specs.Jobs.{JobView}
use Rattle.system_state.specs.Cores.{core_of}
use Rattle.system_state.specs.Stands.{Stands}
use Rattle.system_state.specs.Errands.{IsFresh}
use Rattle.system_state.specs.declared.errand.Errand.{Errand}
use Rattle.system_state.specs.declared.state.State.{State}
use Rattle.desk_turns.specs.Passing.{IsItsOwn}
use Rattle.desk_turns.proofs.Later.{none_kept, keeps_held}
use Rattle.page_steps.specs.Flushing.{IsInHand}
use Rattle.page_steps.proofs.Taking.{DidAt, one_at, none_at}
use Rattle.page_steps.proofs.Errands.{sent_hand}
use Rattle.core_closing.specs.Kept.{MaySettle}
use Rattle.settling.specs.Next.{NextDid, NextSays}
use Rattle.settling.specs.declared.next.Next.{Next}
use Rattle.settling.specs.declared.next.Next.TheVariants.{Block, Meta as PageOut, Busy, Stored}

module _ {D J : Type 0} (seen : D → DieView) (suits : J → JobView → Type 0) where
  pub next_did : (page : Page) (s t : State D J) (p : Snapshot (State D J)) (u : View (Snapshot (State D J)) Event) (r : Next D) → Stands seen suits s p.value u.seen → NextDid seen suits s page r t → DidAt seen suits Closer t p u (NextSays page r (core_of seen s))
  next_did page s t p u (Block e) known d = one_at seen suits Closer t p u (FlushOut Closer e.number e.subject) (NextSays page (Block e) (core_of seen s)) refl (d.sent.stands p.value u.seen u.number known).0 (refl, d.next)
  next_did page s t p u (PageOut e) known d = one_at seen suits Closer t p u (DieOut Closer e.number (Meta e.subject page)) (NextSays page (PageOut e) (core_of seen s)) refl (d.sent.stands p.value u.seen u.number known).0 (refl, d.next)
  next_did page s t p u (Busy die) known d = none_at seen suits Closer s t p u (NextSays {D = D} page (Busy die) (core_of seen s)) known d.0 (refl, d.1)
  next_did page s t p u Stored known d = none_at seen suits Closer s t p u (NextSays {D = D} page Stored (core_of seen s)) known d.0 (refl, d.1)

  pub block_hand : (s t : State D J) (p q : Snapshot (State D J)) (u w : View (Snapshot (State D J)) Event) (page : Page) (r : Next D) (e : Errand D) → r ≡ Block e → p ≡ q → Stands seen suits s p.value u.seen → NextDid seen suits s page r t →
      ((h : List (Entry Event)) → Stands seen suits t p.value h → Extends u h → w ≡ seeing u false h (entries_of u.number h)) →
      IsFresh seen e × ((version : ℕ) × IsInHand seen q w.seen Closer (ToFlush e.subject version page) (q.value.sizes.meta + e.subject) e)
  block_hand s t p q u w page r e is same known did give =
      let d = subst (λ (x : Next D). NextDid seen suits s page x t) is did in
      let hand = sent_hand seen suits s t p q u w Closer (flush_of (core_of seen s) e.subject) (s.sizes.meta + e.subject) e (FlushOut Closer e.number e.subject) same refl refl d.sent.out (d.sent.stands p.value u.seen u.number known) give in
      let meta : s.sizes.meta + e.subject ≡ q.value.sizes.meta + e.subject = ap (λ z. z.meta + e.subject) (known.sizes ∙ ap (λ (x : Snapshot (State D J)). x.value.sizes) same) in (
        d.sent.out.fresh,
        (((core_of seen s).blocks e.subject).version, subst (λ (z : Purpose × ℕ). IsInHand seen q w.seen Closer z.0 z.1 e) (λ i. (d.page_is i, meta i)) hand),
      )

  pub page_hand : (s t : State D J) (p q : Snapshot (State D J)) (u w : View (Snapshot (State D J)) Event) (page : Page) (r : Next D) (e : Errand D) → r ≡ PageOut e → p ≡ q → Stands seen suits s p.value u.seen → NextDid seen suits s page r t →
      ((h : List (Entry Event)) → Stands seen suits t p.value h → Extends u h → w ≡ seeing u false h (entries_of u.number h)) →
      IsFresh seen e × IsInHand seen q w.seen Closer (ToMeta e.subject page) e.subject e
  page_hand s t p q u w page r e is same known did give =
      let d = subst (λ (x : Next D). NextDid seen suits s page x t) is did in (
        d.sent.out.fresh,
        sent_hand seen suits s t p q u w Closer (ToMeta e.subject page) e.subject e (DieOut Closer e.number (Meta e.subject page)) same refl refl d.sent.out (d.sent.stands p.value u.seen u.number known) give,
      )
