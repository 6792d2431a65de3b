-- Dies in the hands of an actor, for a page of a span or of the meta data.
use Rattle.std.proofs.Common.{◌≡◌, ℕ, ◌+◌, ◌*◌, ◌<◌, Bool, false, List, [], ◌∷◌, ◌++◌, length, get_or, Option, Some, None, refl, sym, ap, ◌∙◌, subst, inr, arith}
use Rattle.std.specs.Prelude.{Result, Ok, IfOk, IfSome, is_some, ◌||◌}
use mathlib.Core.List.{map-append}
use Rattle.std.specs.declared.snapshot.Snapshot.{Snapshot}
use Rattle.turn_cell.specs.declared.book.Entry.{Entry}
use Rattle.turn_cell.specs.Events.{events_of}
use Rattle.turn_cell.specs.History.{entry, entries_of}
use Rattle.turn_cell.specs.Steps.{Extends, seeing}
use Rattle.flash_die.specs.Dies.{DieView, IsDie, WentRead}
use Rattle.core_state.specs.declared.actor.Actor.{Actor}
use Rattle.core_state.specs.declared.event.Event.{Event}
use Rattle.core_state.specs.declared.event.Event.TheVariants.{DieOut}
use Rattle.core_state.specs.declared.event.Purpose.TheVariants.{Fill, Meta}
use Rattle.core_state.specs.State.{Page, Flight, Errand as Purpose, ToFill, ToMeta, Core}
use Rattle.core_state.specs.Contents.{span_block}
use Rattle.core_state.specs.Dies.{IsFill}
use Rattle.core_state.specs.Coherent.{Coherent}
use Rattle.core_state.specs.Happens.{after}
use Rattle.core_state.specs.History.{read_of, write_of}
use Rattle.system_state.specs.Jobs.{JobView}
use Rattle.system_state.specs.Views.{IsTold, pages_or_none}
use Rattle.system_state.specs.Cores.{core_of}
use Rattle.system_state.specs.Slots.{die_at}
use Rattle.system_state.specs.Stands.{Stands, DieStands, tally, count_such, has_failed}
use Rattle.system_state.specs.Errands.{IsFresh, HasPages, HasRead, HasWritten, IsSameErrand, WentOut}
use Rattle.system_state.specs.Made.{Made}
use Rattle.system_state.specs.declared.errand.Errand.{Errand}
use Rattle.system_state.specs.declared.not_yet.NotYet.{NotYet}
use Rattle.system_state.specs.declared.state.State.{State}
use Rattle.system_state.proofs.Tallies.{count_such-append}
use Rattle.system_pages.specs.Back.{FillBack}
use Rattle.system_pages.specs.Events.{copy_event, take_event, HasLeft}
use Rattle.system_metas.specs.Coming.{MetaBack}
use Rattle.desk_turns.specs.Passing.{IsItsOwn, core_after, core_seen}
use Rattle.desk_turns.proofs.Turning.{is_after}
use Rattle.flushes.specs.Flushing.{IsInHand}
use Rattle.flushes.proofs.Hands.{out_hand, hand_kept, still_told}
use Rattle.flushes.proofs.Turning.{if_ok}
use Rattle.event_turns.specs.declared.metas.MetaOut.{MetaOut}
use Rattle.event_turns.specs.declared.metas.MetaOut.TheVariants.{Sent}
use Rattle.event_turns.specs.MetaTurns.{IsMetaSent, MetaDid, IsMetaWritten}
use Rattle.event_turns.specs.PageTurns.{block_at, IsFillInHand, IsFillRead}
use Rattle.event_turns.proofs.Taking.{Known, O, V, Found, stood, begun, coherent_seen, found_at}
use Rattle.event_turns.proofs.Keeping.{again, block_again, at_flight, own_flying}

-- an event that brings this die home neither from a read nor from a write leaves its tally
tally_more : (d : ℕ) (h : List Event) (e : Event) → read_of d e ≡ None → write_of d e ≡ None → tally d (h ++ e ∷ []) ≡ tally d h
unfolding count_such
tally_more d h e no_read no_write =
    let r = count_such-append (λ e. is_some (read_of d e)) h e in
    let w = count_such-append (λ e. is_some (write_of d e)) h e in
    let f = count_such-append (λ e. has_failed (read_of d e) || has_failed (write_of d e)) h e in
    let x : is_some (read_of d e) ≡ false = ap (λ (o : Option Bool). is_some o) no_read in
    let y : is_some (write_of d e) ≡ false = ap (λ (o : Option Bool). is_some o) no_write in
    let z : (has_failed (read_of d e) || has_failed (write_of d e)) ≡ false = λ i. has_failed (no_read i) || has_failed (no_write i) in
    let r2 : (tally d (h ++ e ∷ [])).reads ≡ (tally d h).reads = grind (arith) in
    let w2 : (tally d (h ++ e ∷ [])).writes ≡ (tally d h).writes = grind (arith) in
    let f2 : (tally d (h ++ e ∷ [])).failed ≡ (tally d h).failed = grind (arith) in
    λ i. record { reads = r2 i; writes = w2 i; failed = f2 i }

told_read : (old new : DieView) (at : ℕ) (good : Bool) (before page : Page) → WentRead old at good before page new → IsTold old → IsTold new
told_read old new at good before page r t =
    record {
      pages = t.pages;
      told = r.pages ∙ t.told;
      count = t.count ∙ sym r.counts.size;
      whole = λ k l. ap (λ (o : Option (List Page)). length (get_or (pages_or_none o) k [])) r.pages ∙ t.whole k (subst (λ (n : ℕ). k < n) r.counts.size l);
    }

pub copy_fills : {D : Type 0} → (a : Actor) (lane i : ℕ) (x : Errand D) → copy_event a lane i (Some x) ≡ DieOut a x.number (Fill lane i)
copy_fills a lane i x = refl

pub take_fills : {D : Type 0} → (a : Actor) (lane i : ℕ) (x : Errand D) → take_event a lane i (Some x) ≡ DieOut a x.number (Fill lane i)
take_fills a lane i x = refl

module _ {D J : Type 0} (seen : D → DieView) where
  -- the same errand after its die was used
  pub used_hand : (o : Snapshot (State D J)) (h : List (Entry Event)) (a : Actor) (purpose : Purpose) (page : ℕ) (e f : Errand D) → IsSameErrand e f → IsInHand seen o h a purpose page e → IsInHand seen o h a purpose page f
  used_hand o h a purpose page e f s p =
      record {
        out = subst (λ (n : ℕ). ((core_after (core_of seen) o h).dies n).out ≡ Some (record { holder = a; errand = purpose })) (sym s.number) p.out;
        pages = subst (λ (z : ℕ × Snapshot D). HasPages (core_after (core_of seen) o h) z.0 (seen z.1.value)) (λ i. (sym s.number i, sym s.left i)) p.pages;
        number = subst (λ (z : ℕ). z < o.value.sizes.dies) (sym s.number) p.number;
        place = subst (λ (z : ℕ × ℕ). page ≡ z.0 * o.value.sizes.dies + z.1) (λ i. (sym s.at i, sym s.number i)) p.place;
        stood = subst (λ (z : ℕ × Snapshot D). DieStands (die_at seen o.value.rack.slots.items z.0) (tally z.0 (events_of h)) (seen z.1.value)) (λ i. (sym s.number i, sym s.left i)) p.stood;
      }

  -- after its read
  pub read_hand : (o : Snapshot (State D J)) (h : List (Entry Event)) (a : Actor) (lane i : ℕ) (good : Bool) (before page : Page) (e f : Errand D) → IsFillInHand seen o h a lane i e → IsSameErrand e f → HasRead seen f good before page → IsFillRead seen o h a lane i good page f
  read_hand o h a lane i good before page e f p s r =
      record {
        before = before;
        fill = record {
          hand = subst (λ (n : ℕ). IsInHand seen o h a (ToFill lane i) (o.value.sizes.meta + n) f) (sym s.subject) (used_hand o h a (ToFill lane i) (o.value.sizes.meta + e.subject) e f s p.hand);
          block = p.block ∙ ap (λ (n : ℕ). Some n) (sym s.subject);
        };
        read = r;
      }

  -- after its write
  pub stored_hand : (o : Snapshot (State D J)) (h : List (Entry Event)) (a : Actor) (good : Bool) (bytes : Page) (e f : Errand D) → IsInHand seen o h a (ToMeta e.subject bytes) e.subject e → IsSameErrand e f → HasWritten seen f good bytes → IsMetaWritten seen o h a good f
  stored_hand o h a good bytes e f p s w =
      record {
        bytes = bytes;
        hand = subst (λ (n : ℕ). IsInHand seen o h a (ToMeta n bytes) n f) (sym s.subject) (used_hand o h a (ToMeta e.subject bytes) e.subject e f s p);
        wrote = w;
      }

module _ {D J : Type 0} (seen : D → DieView) (suits : J → JobView → Type 0) where
  -- ---- a die goes out

  pub sent_hand : (s t : State D J) (p q : O seen suits) (u w : V seen suits) (a : Actor) (purpose : Purpose) (page : ℕ) (e : Errand D) (ev : Event) → p ≡ q → read_of e.number ev ≡ None → write_of e.number ev ≡ None → WentOut seen a purpose page e t →
      (Known seen suits t p.value (u.seen ++ entry u.number ev ∷ []) × DieStands (die_at seen p.value.rack.slots.items e.number) (tally e.number (events_of u.seen)) (seen e.left.value)) →
      ((h : List (Entry Event)) → Known seen suits t p.value h → Extends u h → w ≡ seeing u false h (entries_of u.number h)) → IsInHand seen q w.seen a purpose page e
  sent_hand s t p q u w a purpose page e ev same no_read no_write went st give =
      let end = u.seen ++ entry u.number ev ∷ [] in
      let vis : w.seen ≡ end = ap (λ (z : V seen suits). z.seen) (give end st.0 (inr (ev, refl))) in
      let tallies : tally e.number (events_of end) ≡ tally e.number (events_of u.seen)
      = ap (tally e.number) (map-append (λ (z : Entry Event). z.event) u.seen (entry u.number ev ∷ [])) ∙ tally_more e.number (events_of u.seen) ev no_read no_write in
      let hand = out_hand seen suits s t p u.seen end a purpose page e st.0 went st.1 tallies in
      subst (λ (z : List (Entry Event) × Snapshot (State D J)). IsInHand seen z.1 z.0 a purpose page e) (λ i. (sym vis i, same i)) hand

  -- for a page of the meta data
  pub meta_hand : (s t : State D J) (p q : O seen suits) (u w : V seen suits) (a : Actor) (i : ℕ) (page : Page) (r : MetaOut D) (e : Errand D) → p ≡ q → Known seen suits s p.value u.seen → r ≡ Sent e → MetaDid seen suits s a i page r t →
      ((h : List (Entry Event)) → Known seen suits t p.value h → Extends u h → w ≡ seeing u false h (entries_of u.number h)) → IsFresh seen e × IsInHand seen q w.seen a (ToMeta e.subject page) e.subject e
  meta_hand s t p q u w a i page r e same known is d give =
      let m : IsMetaSent seen suits s a i page e t = subst (λ (z : MetaOut D). MetaDid seen suits s a i page z t) is d in (
        m.out.fresh,
        subst (λ (n : ℕ). IsInHand seen q w.seen a (ToMeta n page) n e) (sym m.subject)
            (sent_hand s t p q u w a (ToMeta i page) i e (DieOut a e.number (Meta i page)) same refl refl m.out (m.stands p.value u.seen u.number known) give),
      )

  -- for a page of a span
  pub fill_hand : (event : Option (Errand D) → Event) (s t : State D J) (p q : O seen suits) (u w : V seen suits) (a : Actor) (lane i : ℕ) (r : Result (Option (Errand D)) NotYet) (e : Errand D) → ((x : Errand D) → event (Some x) ≡ DieOut a x.number (Fill lane i)) → p ≡ q → Known seen suits s p.value u.seen → r ≡ Ok (Some e) →
      IfOk r (λ x. IfSome x (λ e. block_at (core_of seen s) lane i ≡ Some e.subject)) → IfOk r (λ x. IfSome x (λ e. WentOut seen a (ToFill lane i) (s.sizes.meta + e.subject) e t)) → IfOk r (λ x. Made seen suits s (event x) t) →
      IfOk r (λ x. (o : State D J) (h : List (Entry Event)) (n : ℕ) → Known seen suits s o h → Known seen suits t o (h ++ entry n (event x) ∷ []) × HasLeft seen o h x) →
      ((h : List (Entry Event)) → Known seen suits t p.value h → Extends u h → w ≡ seeing u false h (entries_of u.number h)) → IsFresh seen e × IsFillInHand seen q w.seen a lane i e
  fill_hand event s t p q u w a lane i r e fills same known is block out made stands give =
      let b = if_ok (λ x. IfSome x (λ e. block_at (core_of seen s) lane i ≡ Some e.subject)) r (Some e) is block in
      let went = if_ok (λ x. IfSome x (λ e. WentOut seen a (ToFill lane i) (s.sizes.meta + e.subject) e t)) r (Some e) is out in
      let m = if_ok (λ x. Made seen suits s (event x) t) r (Some e) is made in
      let st = if_ok (λ x. (o : State D J) (h : List (Entry Event)) (n : ℕ) → Known seen suits s o h → Known seen suits t o (h ++ entry n (event x) ∷ []) × HasLeft seen o h x) r (Some e) is stands p.value u.seen u.number known in
      let ev = DieOut a e.number (Fill lane i) in
      let st2 = subst (λ (z : Event). Known seen suits t p.value (u.seen ++ entry u.number z ∷ []) × DieStands (die_at seen p.value.rack.slots.items e.number) (tally e.number (events_of u.seen)) (seen e.left.value)) (fills e) st in
      let hand = sent_hand s t p q u w a (ToFill lane i) (s.sizes.meta + e.subject) e ev same refl refl went st2 give in
      let meta : s.sizes.meta + e.subject ≡ q.value.sizes.meta + e.subject = ap (λ z. z.meta + e.subject) (known.sizes ∙ ap (λ (x : O seen suits). x.value.sizes) same) in
      let end = u.seen ++ entry u.number ev ∷ [] in
      let vis : w.seen ≡ end = ap (λ (z : V seen suits). z.seen) (give end st2.0 (inr (ev, refl))) in
      let leaves : core_of seen t ≡ after (core_of seen s) ev = m.happens.leaves ∙ ap (after (core_of seen s)) (fills e) in
      let core : core_of seen t ≡ core_after (core_of seen) q w.seen
      = is_after (core_of seen) (Stands seen suits) (λ s o h k. k.run) (λ s o h k. k.coherent) t p end st2.0 ∙ (λ i. core_after (core_of seen) (same i) (sym vis i)) in (
        went.fresh,
        record {
          hand = subst (λ (n : ℕ). IsInHand seen q w.seen a (ToFill lane i) n e) meta hand;
          block = ap (λ (c : Core). block_at c lane i) (sym core ∙ leaves) ∙ b;
        },
      )

  -- ---- it is found again, and comes home

  pub meta_found : (s : State D J) (p q : O seen suits) (v u : V seen suits) (a : Actor) (good : Bool) (e : Errand D) → Found seen suits s p q v u a → IsItsOwn (core_seen (core_of seen) q v) a → IsMetaWritten seen q v.seen a good e → IsMetaWritten seen q u.seen a good e
  meta_found s p q v u a good e f own w =
      let k = found_at seen suits s p q v u a f own in
      record {
        bytes = w.bytes;
        hand = hand_kept seen suits s q v.seen u.seen a (ToMeta e.subject w.bytes) e.subject e (stood seen suits s p q v u a f) (begun seen suits s p q v u a f) k.0 k.1 w.hand;
        wrote = w.wrote;
      }

  pub meta_back : ((x : D) → IsDie (seen x)) → (s : State D J) (o : O seen suits) (g : List (Entry Event)) (a : Actor) (good : Bool) (e : Errand D) → Known seen suits s o.value g → IsMetaWritten seen o g a good e → MetaBack seen s a e
  meta_back sound s o g a good e k p =
      let at = is_after (core_of seen) (Stands seen suits) (λ s o h k. k.run) (λ s o h k. k.coherent) s o g k in
      record {
        page = e.subject;
        bytes = p.bytes;
        good = good;
        out = subst (λ (c : Core). (c.dies e.number).out ≡ Some (record { holder = a; errand = ToMeta e.subject p.bytes })) (sym at) p.hand.out;
        wrote = p.wrote;
        pages = subst (λ (c : Core). HasPages c e.number (seen e.left.value)) (sym at) p.hand.pages;
        told = still_told good (seen e.left.value) (seen e.die) e.at p.bytes (sound e.die) p.wrote.wrote p.hand.pages.told;
        number = subst (λ z. e.number < z.dies) (sym k.sizes) p.hand.number;
        place = p.hand.place ∙ ap (λ z. e.at * z.dies + e.number) (sym k.sizes);
      }

  -- the fill is for a call of the actor's
  fill_is : (q : O seen suits) (h : List (Entry Event)) (a : Actor) (lane i : ℕ) (e : Errand D) → Coherent (core_after (core_of seen) q h) → IsInHand seen q h a (ToFill lane i) (q.value.sizes.meta + e.subject) e →
      IsFill (core_after (core_of seen) q h).shape (core_after (core_of seen) q h).places (core_after (core_of seen) q h).blocks (core_after (core_of seen) q h).calls e.number a lane i
  fill_is q h a lane i e coherent p = coherent.dies.right e.number (record { holder = a; errand = ToFill lane i }) p.out

  pub fill_owns : (q : O seen suits) (h : List (Entry Event)) (a : Actor) (lane i : ℕ) (good : Bool) (page : Page) (e : Errand D) → Coherent (core_after (core_of seen) q h) → IsFillRead seen q h a lane i good page e → IsItsOwn (core_after (core_of seen) q h) a
  fill_owns q h a lane i good page e coherent p =
      let x = fill_is q h a lane i e coherent p.fill.hand in
      own_flying (core_after (core_of seen) q h) a lane x.call x.flies x.owns

  pub fill_found : (s : State D J) (p q : O seen suits) (v u : V seen suits) (a : Actor) (lane i : ℕ) (good : Bool) (page : Page) (e : Errand D) → Found seen suits s p q v u a → IsFillRead seen q v.seen a lane i good page e → IsFillRead seen q u.seen a lane i good page e
  fill_found s p q v u a lane i good page e f r =
      let before = coherent_seen seen suits s p q v u a f in
      let c = core_seen (core_of seen) q v in
      let x = fill_is q v.seen a lane i e before r.fill.hand in
      let k = found_at seen suits s p q v u a f (own_flying c a lane x.call x.flies x.owns) in
      let known = stood seen suits s p q v u a f in
      let g = again c (core_of seen s) a lane x.call k.0 x.flies x.owns in
      let at = is_after (core_of seen) (Stands seen suits) (λ s o h k. k.run) (λ s o h k. k.coherent) s q u.seen known in
      let here : block_at c lane i ≡ span_block c.places x.call.claim i = ap (λ (z : Flight). span_block c.places z.claim i) (at_flight c.calls lane x.call x.flies) in
      let there : block_at (core_of seen s) lane i ≡ span_block (core_of seen s).places g.call.claim i = ap (λ (z : Flight). span_block (core_of seen s).places z.claim i) (at_flight (core_of seen s).calls lane g.call g.flies) in
      let same : block_at (core_of seen s) lane i ≡ block_at c lane i = there ∙ (block_again c (core_of seen s) a lane x.call g i x.within ∙ sym here) in
      record {
        before = r.before;
        fill = record {
          hand = hand_kept seen suits s q v.seen u.seen a (ToFill lane i) (q.value.sizes.meta + e.subject) e known (begun seen suits s p q v u a f) k.0 k.1 r.fill.hand;
          block = ap (λ (z : Core). block_at z lane i) (sym at) ∙ (same ∙ r.fill.block);
        };
        read = r.read;
      }

  pub fill_back : (s : State D J) (o : O seen suits) (g : List (Entry Event)) (a : Actor) (lane i : ℕ) (good : Bool) (page : Page) (e : Errand D) → Known seen suits s o.value g → IsFillRead seen o g a lane i good page e → FillBack seen s a lane i e page
  fill_back s o g a lane i good page e k p =
      let at = is_after (core_of seen) (Stands seen suits) (λ s o h k. k.run) (λ s o h k. k.coherent) s o g k in
      record {
        before = p.before;
        good = good;
        out = subst (λ (c : Core). (c.dies e.number).out ≡ Some (record { holder = a; errand = ToFill lane i })) (sym at) p.fill.hand.out;
        block = ap (λ (c : Core). block_at c lane i) at ∙ p.fill.block;
        read = p.read;
        pages = subst (λ (c : Core). HasPages c e.number (seen e.left.value)) (sym at) p.fill.hand.pages;
        told = told_read (seen e.left.value) (seen e.die) e.at good p.before page p.read.read p.fill.hand.pages.told;
        number = subst (λ z. e.number < z.dies) (sym k.sizes) p.fill.hand.number;
        place = ap (λ z. z.meta + e.subject) k.sizes ∙ (p.fill.hand.place ∙ ap (λ z. e.at * z.dies + e.number) (sym k.sizes));
      }
