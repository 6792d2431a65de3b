-- MetaIn.
use Rattle.std.proofs.Common.{◌≡◌, ℕ, ◌+◌, Bool, true, false, Option, Some, None, refl, sym, ap, ◌∙◌, subst, ⊎_elim, arith}
use Rattle.std.specs.Prelude.{◌≢◌, ◌||◌, not}
use Rattle.dispatcher.specs.declared.side.Side.TheVariants.{Host, Drive}
use Rattle.dispatcher.specs.declared.side.Side.{Side}
use Rattle.index_lists.specs.Words.{put, one_if}
use Rattle.index_lists.proofs.Counts.{same_or_not}
use Rattle.core_lemmas.specs.Call.{Call}
use Rattle.core_lemmas.specs.Call.TheVariants.{Sync}
use Rattle.core_lemmas.specs.Actor.{Actor}
use Rattle.core_lemmas.specs.Actor.TheVariants.{Lane, Worker, Flusher, Closer}
use Rattle.core_lemmas.specs.State.{Page, Held, Queued, Flight, ToMeta, Out, DieState, Core}
use Rattle.core_lemmas.specs.Contents.{contents}
use Rattle.core_lemmas.specs.Reach.{is_sync, is_lambda}
use Rattle.core_lemmas.specs.PlainOf.{plain}
use Rattle.core_lemmas.specs.InFlight.{claim_of, Locked}
use Rattle.core_lemmas.specs.Frames.{is_queued}
use Rattle.core_lemmas.specs.Dies.{owner}
use Rattle.core_lemmas.specs.Coherent.{Coherent}
use Rattle.core_lemmas.specs.DieEvents.{home_written, marked_if, counted, written_page, stored_of, stored_by, stored, MayMetaIn}
use Rattle.core_lemmas.proofs.Words.{same_some, lists_same}
use Rattle.core_lemmas.proofs.Lanes.{queued_mark, gathered_mark, dies_mark}
use Rattle.core_lemmas.proofs.Calls.{claims_put, loans_call, used_call, has_frames_call, dies_call, in_flight_call, gathered_call, queued_call, is_queued_put, is_queued_here}
use Rattle.core_lemmas.proofs.Dies.{dies_home, home_free}

-- ---- a die comes home from a write, and nothing else changes but what no condition speaks of

pub home_keeps : (c : Core) (die : ℕ) (x : DieState) (meta : ℕ → Page) (closer : ℕ) → x.out ≡ None → Coherent c → Coherent (record c { dies = put c.dies die x; meta = meta; closer = closer })
home_keeps c die x meta closer none h = record {
  placed = h.placed;
  copies = h.copies;
  clean = h.clean;
  unclean = h.unclean;
  lent = h.lent;
  locked = h.locked;
  in_flight = h.in_flight;
  tails = h.tails;
  frames = h.frames;
  orders = h.orders;
  dies = dies_home c.shape c.places c.blocks c.lanes c.calls c.dies die x none h.dies;
  gathered = h.gathered;
}

-- ---- a lane is marked

or_false : (m f : Bool) → (m || f) ≡ false → m ≡ false
or_false true f e = absurd (cc)
or_false false f e = refl

pub marked_keeps : (c : Core) (lane : ℕ) (failed : Bool) → ((call : Flight) → c.calls lane ≡ Some call → call.phase ≢ Queued) → Coherent c → Coherent (record c { lanes = put c.lanes lane (marked_if failed (c.lanes lane)) })
marked_keeps c lane failed waits h =
    let x = marked_if failed (c.lanes lane) in
    record {
      placed = h.placed;
      copies = h.copies;
      clean = h.clean;
      unclean = h.unclean;
      lent = h.lent;
      locked = h.locked;
      in_flight = h.in_flight;
      tails = h.tails;
      frames = h.frames;
      orders = record { ordered = h.orders.ordered; queued = queued_mark c.queue c.lanes c.calls lane x waits h.orders.queued };
      dies = dies_mark c.shape c.places c.blocks c.lanes c.calls c.dies lane x refl h.dies;
      gathered = gathered_mark c.places (contents c.blocks) (plain c) c.lanes c.calls lane x (or_false (c.lanes lane).mark failed) h.gathered;
    }

-- ---- a `sync` counts the meta pages that it has written

lambda_no_sync : (call : Call) → is_lambda call ≡ true → is_sync call ≡ true → ⊥
lambda_no_sync Sync l s = cc
lambda_no_sync call l s = cc

no_drive : (side : Side) → (side ≡ Drive → ⊥) → side ≡ Host
no_drive Host n = refl
no_drive Drive n = absurd (n refl)

-- it is at the host, and held
pub sync_held : (c : Core) (lane : ℕ) (call : Flight) → Coherent c → c.calls lane ≡ Some call → is_sync call.claim.request.call ≡ true → call.phase ≡ Held
sync_held c lane call h e sync =
    let right = h.in_flight.right lane call.claim (ap claim_of e) in
    h.in_flight.host lane call e (no_drive call.claim.side (λ d. lambda_no_sync call.claim.request.call (right.drive d) sync))

abbrev counting : Flight → Bool → Flight
counting call good = record call { meta = call.meta + one_if good }

count_keeps : (c : Core) (lane : ℕ) (call : Flight) (good : Bool) → c.calls lane ≡ Some call → call.phase ≡ Held → ((die : ℕ) (out : Out) → (c.dies die).out ≡ Some out → out.holder ≢ Lane lane) → Coherent c → Coherent (record c { calls = put c.calls lane (Some (counting call good)) })
count_keeps c lane call good e held free h =
    let call2 = counting call good in
    record {
      placed = h.placed;
      copies = h.copies;
      clean = h.clean;
      unclean = h.unclean;
      lent = loans_call c.places c.calls c.blocks lane call call2 e refl (λ i l f. (f, refl)) (λ i l f. h.lent.loans lane call e i l f) h.lent;
      locked = subst (Locked c.names) (sym (claims_put c.calls lane call call2 e refl)) h.locked;
      in_flight = in_flight_call c.names (plain c) c.calls lane call call2 e refl (λ s. held) h.in_flight;
      tails = h.tails;
      frames = record {
        host = let k = used_call Host c.shape c.host_order c.calls lane call call2 e (h.dies.in_turn lane call e).0 in let o = h.frames.host in omega arith;
        drive = let k = used_call Drive c.shape c.drive_order c.calls lane call call2 e (h.dies.in_turn lane call e).0 in let o = h.frames.drive in omega arith;
        each = has_frames_call c.places c.calls c.blocks lane call2 (h.frames.each lane call e) h.frames.each;
      };
      orders = record {
        ordered = h.orders.ordered;
        queued = queued_call c.queue c.queue c.lanes c.calls lane call2
            (lists_same c.queue (λ l. is_queued (c.calls l)) (λ l. is_queued (put c.calls lane (Some call2) l))
            (λ j. ⊎_elim (λ (s : j ≡ lane). ap (λ (k : ℕ). is_queued (put c.calls lane (Some call2) k)) s ∙ (is_queued_here c.calls lane call2 ∙ (sym (ap is_queued e) ∙ ap (λ (k : ℕ). is_queued (c.calls k)) (sym s))))
            (λ (d : j ≢ lane). is_queued_put c.calls lane call2 j d) (same_or_not j lane)) h.orders.queued.lists)
            (λ s. absurd (cc)) (λ s. absurd (cc)) (λ w s. absurd (cc)) h.orders.queued;
      };
      dies = dies_call c.shape c.places c.blocks c.lanes c.calls c.dies lane call call2 e refl
          (λ die out o q. let p : Some (Lane lane) ≡ Some out.holder = ap (owner lane) (sym held) ∙ q in free die out o (same_some _ _ _ refl (sym p))) h.dies;
      gathered = gathered_call c.places (contents c.blocks) (plain c) c.lanes c.calls lane call2 (h.gathered.pages_are lane call e) (h.gathered.results lane call e) h.gathered;
    }

-- ---- MetaIn

counted_is : (o : Option Flight) (call : Flight) (good : Bool) → o ≡ Some call → counted good o ≡ Some (counting call good)
counted_is o call good e = ap (counted good) e

meta_in_of : (c : Core) (actor : Actor) (die : ℕ) (good : Bool) (left : Page) (number : ℕ) (bytes : Page) → Coherent c → (c.dies die).out ≡ Some (record { holder = actor; errand = ToMeta number bytes }) → Coherent (stored_of c actor die good left number bytes)
meta_in_of c (Lane lane) die good left number bytes h o =
    let right = h.dies.right die (record { holder = Lane lane; errand = ToMeta number bytes }) o in
    let s = right.2 in
    let held = sync_held c lane s.flight h s.flies s.sync in
    let home = home_keeps c die (home_written (c.dies die) good) (put c.meta number (written_page good bytes left)) c.closer refl h in
    let marked = marked_keeps _ lane (not good) (λ call e p. let k : s.flight ≡ call = same_some (c.calls lane) s.flight call s.flies e in let q = ap (λ (w : Flight). w.phase) k in cc) home in
    let done = count_keeps _ lane s.flight good s.flies held
    (home_free c.shape c.places c.blocks c.lanes c.calls c.dies die (home_written (c.dies die) good) (record { holder = Lane lane; errand = ToMeta number bytes }) o refl h.dies) marked in
    subst (λ (w : Option Flight). Coherent (record c { dies = put c.dies die (home_written (c.dies die) good); lanes = put c.lanes lane (marked_if (not good) (c.lanes lane)); meta = put c.meta number (written_page good bytes left); calls = put c.calls lane w }))
    (sym (counted_is (c.calls lane) s.flight good s.flies)) done
meta_in_of c (Worker w) die good left number bytes h o = home_keeps c die (home_written (c.dies die) good) (put c.meta number (written_page good bytes left)) c.closer refl h
meta_in_of c (Flusher f) die good left number bytes h o = home_keeps c die (home_written (c.dies die) good) (put c.meta number (written_page good bytes left)) c.closer refl h
meta_in_of c Closer die good left number bytes h o = home_keeps c die (home_written (c.dies die) good) (put c.meta number (written_page good bytes left)) (c.closer + one_if good) refl h

pub meta_in_keeps : (c : Core) (actor : Actor) (die : ℕ) (good : Bool) (left : Page) → Coherent c → MayMetaIn c actor die good left → Coherent (stored c actor die good left)
meta_in_keeps c actor die good left h may =
    subst (λ (o : Option Out). Coherent (stored_by c actor die good left o)) (sym may.out) (meta_in_of c actor die good left may.number may.bytes h may.out)
