-- What each method did in a turn, by its answer.
use Rattle.std.proofs.Common.{◌≡◌, ℕ, ◌+◌, Bool, true, false, List, [], ◌∷◌, ◌++◌, Option, Some, None, refl, sym, subst, arith}
use Rattle.std.specs.Prelude.{zero, suc, ◌≢◌, ◌==◌, ◌&&◌, Result, Ok, Err, IfOk, IfErr, IfSome, is_some}
use Rattle.std.proofs.lemmas.Bool.Decides.{nat_tests}
use Rattle.std.specs.declared.snapshot.Snapshot.{Snapshot}
use Rattle.turn_cell.specs.declared.book.Entry.{Entry}
use Rattle.turn_cell.specs.declared.view.View.{View}
use Rattle.turn_cell.specs.Events.{events_of}
use Rattle.turn_cell.specs.History.{entry}
use Rattle.index_lists.specs.Words.{first}
use Rattle.plain_files.specs.declared.calls.Request.{Request}
use Rattle.plain_files.specs.declared.calls.Numbered.{Numbered}
use Rattle.flash_die.specs.Dies.{DieView}
use Rattle.core_state.specs.declared.actor.Actor.{Actor}
use Rattle.core_state.specs.declared.actor.Actor.TheVariants.{Lane, Worker}
use Rattle.core_state.specs.declared.event.Event.{Event}
use Rattle.core_state.specs.declared.event.Event.TheVariants.{Skip, DieOut, Fetch}
use Rattle.core_state.specs.declared.event.Purpose.TheVariants.{Meta}
use Rattle.core_state.specs.State.{Page, ToMeta}
use Rattle.core_state.specs.Contents.{contents, page_of, die_of_page}
use Rattle.core_state.specs.DieEvents.{is_home}
use Rattle.core_state.specs.PageEvents.{flight_at}
use Rattle.core_state.specs.Happens.{actor_of}
use Rattle.core_state.specs.History.{entry_of, calls_of}
use Rattle.turn_cell.specs.declared.pass.Worn.{Worn}
use Rattle.system_state.specs.Jobs.{JobView, view_of}
use Rattle.system_state.specs.Cores.{core_of}
use Rattle.system_state.specs.Slots.{die_at}
use Rattle.system_state.specs.Stands.{Stands, DieStands, tally}
use Rattle.system_state.specs.Errands.{WentOut}
use Rattle.system_metas.specs.Encode.{encode}
use Rattle.system_metas.specs.Going.{meta_out_event}
use Rattle.system_state.specs.declared.errand.Errand.{Errand}
use Rattle.system_state.specs.declared.not_yet.NotYet.{NotYet}
use Rattle.system_state.specs.declared.not_yet.NotYet.TheVariants.{DieBusy, QueueEmpty}
use Rattle.system_state.specs.declared.state.State.{State}
use Rattle.system_lanes.specs.Leaving.{have_left}
use Rattle.system_lanes.specs.Waiting.{awaited_still}
use Rattle.system_pages.specs.Ways.{way}
use Rattle.system_pages.specs.declared.ways.Way.TheVariants.{Busy as BusyWay}
use Rattle.system_pages.specs.Events.{copy_event, take_event, way_gone, HasLeft}
use Rattle.event_turns.specs.declared.metas.MetaOut.{MetaOut}
use Rattle.event_turns.specs.declared.metas.MetaOut.TheVariants.{Sent, Busy, Unclean}
use Rattle.desk_turns.specs.Passing.{Turn}
use Rattle.flushes.proofs.Turning.{if_ok}
use Rattle.event_turns.specs.Words.{IsNumbered}
use Rattle.event_turns.specs.LaneTurns.{SkipSays}
use Rattle.event_turns.specs.MetaTurns.{MetaSays, MetaDid, told}
use Rattle.event_turns.specs.PageTurns.{block_at, GatherSays}
use Rattle.event_turns.specs.JobTurns.{FetchSays}
use Rattle.event_turns.proofs.Taking.{DidAt, one_at, none_at}
use Rattle.event_turns.proofs.Numbering.{numbered}

pub copy_mine : {D : Type 0} → (a : Actor) (lane i : ℕ) (x : Option (Errand D)) → actor_of (copy_event a lane i x) ≡ a
copy_mine a lane i None = refl
copy_mine a lane i (Some e) = refl

pub take_mine : {D : Type 0} → (a : Actor) (lane i : ℕ) (x : Option (Errand D)) → actor_of (take_event a lane i x) ≡ a
take_mine a lane i None = refl
take_mine a lane i (Some e) = refl

-- whether it is the first page, and a block is unclean
none_first : (xs : List ℕ) → is_some (first xs) ≡ false → xs ≡ []
none_first [] e = refl
none_first (x ∷ xs) e = absurd (cc)

pub goes_first : (i : ℕ) (xs : List ℕ) → (i == 0 && is_some (first xs)) ≡ false → i ≡ 0 → xs ≡ []
goes_first zero xs e z = none_first xs e
goes_first (suc i) xs e z = absurd (cc)

both : (x y : Bool) → (x && y) ≡ true → (x ≡ true) × (y ≡ true)
both true y e = (refl, e)
both false y e = absurd (cc)

some_first : (xs : List ℕ) → is_some (first xs) ≡ true → xs ≢ []
some_first [] e = absurd (cc)
some_first (x ∷ xs) e = λ z. absurd (cc)

pub is_barred : (i : ℕ) (xs : List ℕ) → (i == 0 && is_some (first xs)) ≡ true → (i ≡ 0) × (xs ≢ [])
is_barred i xs e =
    let b = both (i == 0) (is_some (first xs)) e in
    let t = b.0 in
    let z : i ≡ 0 = grind (arith, nat_tests) in
    (z, some_first xs b.1)

module _ {D J : Type 0} (seen : D → DieView) (suits : J → JobView → Type 0) where
  abbrev Known : State D J → State D J → List (Entry Event) → Type 0
  Known s o h = Stands seen suits s o h

  abbrev V : Type 0
  V = View (Snapshot (State D J)) Event

  pub skip_did : (lane : ℕ) (request : Request) (fault : Bool) (s t : State D J) (p : Snapshot (State D J)) (u : V) (r : Result Numbered NotYet) → Known s p.value u.seen →
      IfOk r (λ x. x.number ≡ s.last + 1) → IfOk r (λ x. entry_of (Skip lane request fault) ≡ Some (record { lane = lane; call = request.call; reply = x.reply })) →
      IfOk r (λ x. (o : State D J) (h : List (Entry Event)) (n : ℕ) → Known s o h → Known t o (h ++ entry n (Skip lane request fault) ∷ [])) →
      IfErr r (λ y. awaited_still (core_of seen s).lanes request.awaits ≡ Some y) → IfErr r (λ y. t ≡ s) → DidAt seen suits (Lane lane) t p u (SkipSays lane request fault r (core_of seen s))
  skip_did lane request fault s t p u (Ok x) known number ends stands not_yet same =
      one_at seen suits (Lane lane) t p u (Skip lane request fault) (SkipSays lane request fault (Ok x) (core_of seen s)) refl (stands p.value u.seen u.number known) (refl, record { number = number; ends = ends })
  skip_did lane request fault s t p u (Err y) known number ends stands not_yet same =
      none_at seen suits (Lane lane) s t p u (SkipSays lane request fault (Err y) (core_of seen s)) known same (refl, not_yet)

  pub meta_did : (a : Actor) (i : ℕ) (page : Page) (s t : State D J) (p : Snapshot (State D J)) (u : V) (r : MetaOut D) → Known s p.value u.seen → MetaDid seen suits s a i page r t → DidAt seen suits a t p u (MetaSays a i page r (core_of seen s))
  meta_did a i page s t p u (Sent e) known d =
      one_at seen suits a t p u (DieOut a e.number (Meta i page)) (MetaSays a i page (Sent e) (core_of seen s)) refl (d.stands p.value u.seen u.number known).0 (refl, d.subject, d.bytes)
  meta_did a i page s t p u (Busy die) known d = none_at seen suits a s t p u (MetaSays {D = D} a i page (Busy die) (core_of seen s)) known d.0 (refl, d.1)
  meta_did a i page s t p u Unclean known d = none_at seen suits a s t p u (MetaSays {D = D} a i page Unclean (core_of seen s)) known d.0 (refl, d.1)

  -- a try for a page of the meta data, where it is not the first or no block is unclean
  pub tried_meta : (a : Actor) (i : ℕ) (page old : Page) (s t : State D J) (r : Result (Errand D) NotYet) → (i ≡ 0 → (core_of seen s).unclean ≡ []) → IfOk r (λ e. e.subject ≡ i) → IfOk r (λ e. page ≡ encode (core_of seen s) i) →
      IfOk r (λ e. WentOut seen a (ToMeta i page) i e t) →
      IfOk r (λ e. (o : State D J) (h : List (Entry Event)) (n : ℕ) → Known s o h → Known t o (h ++ entry n (meta_out_event a i page e) ∷ []) × DieStands (die_at seen o.rack.slots.items e.number) (tally e.number (events_of h)) (seen e.left.value)) →
      IfErr r (λ y. (is_home ((core_of seen s).dies (die_of_page (core_of seen s).shape i)) ≡ false) × (y ≡ DieBusy (die_of_page (core_of seen s).shape i))) → IfErr r (λ y. (t ≡ s) × (page ≡ old)) → MetaDid seen suits s a i page (told r) t
  tried_meta a i page old s t (Ok e) first_is subject bytes out stands not_yet same = record { subject = subject; bytes = bytes; out = out; stands = stands }
  tried_meta a i page old s t (Err y) first_is subject bytes out stands not_yet same =
      subst (λ (z : NotYet). MetaDid seen suits s a i page (told (Err z)) t) (sym not_yet.1) (same.0, record { die_is = refl; away = not_yet.0; first = first_is })

  pub gather_did : (event : Option (Errand D) → Event) (a : Actor) (lane i : ℕ) (before page : Page) (s t : State D J) (p : Snapshot (State D J)) (u : V) (r : Result (Option (Errand D)) NotYet) → ((x : Option (Errand D)) → actor_of (event x) ≡ a) → Known s p.value u.seen →
      IfOk r (λ x. way (core_of seen s) lane i ≡ way_gone x) → IfOk r (λ x. x ≡ None → page ≡ page_of (contents (core_of seen s).blocks) (block_at (core_of seen s) lane i)) →
      IfOk r (λ x. is_some x ≡ true → page ≡ before) → IfOk r (λ x. IfSome x (λ e. block_at (core_of seen s) lane i ≡ Some e.subject)) →
      IfOk r (λ x. (o : State D J) (h : List (Entry Event)) (n : ℕ) → Known s o h → Known t o (h ++ entry n (event x) ∷ []) × HasLeft seen o h x) →
      IfErr r (λ y. (d : ℕ) × (way (core_of seen s) lane i ≡ BusyWay d) × (y ≡ DieBusy d)) → IfErr r (λ y. (t ≡ s) × (page ≡ before)) →
      DidAt seen suits a t p u (GatherSays event lane i before page r (core_of seen s))
  gather_did event a lane i before page s t p u (Ok x) mine known gone page_is kept block stands not_yet same =
      one_at seen suits a t p u (event x) (GatherSays event lane i before page (Ok x) (core_of seen s)) (mine x) (stands p.value u.seen u.number known).0 (refl, record { way_is = gone; page_is = page_is; kept = kept; block = block })
  gather_did event a lane i before page s t p u (Err y) mine known gone page_is kept block stands not_yet same =
      none_at seen suits a s t p u (GatherSays event lane i before page (Err y) (core_of seen s)) known same.0 (refl, same.1, not_yet)

  pub fetch_did : (worker : ℕ) (s t : State D J) (p : Snapshot (State D J)) (u : V) (r : Result (ℕ × J) NotYet) → Known s p.value u.seen →
      IfOk r (λ x. first (core_of seen s).queue ≡ Some x.0) → IfOk r (λ x. suits x.1 (view_of (core_of seen s).names (flight_at (core_of seen s).calls x.0))) →
      IfOk r (λ x. (o : State D J) (h : List (Entry Event)) (n : ℕ) → Known s o h → Known t o (h ++ entry n (Fetch worker x.0) ∷ [])) →
      IfErr r (λ y. ((core_of seen s).queue ≡ []) × (y ≡ QueueEmpty (have_left (core_of seen s)))) → IfErr r (λ y. t ≡ s) → DidAt seen suits (Worker worker) t p u (FetchSays suits worker r (core_of seen s))
  fetch_did worker s t p u (Ok x) known first_is job stands not_yet same =
      one_at seen suits (Worker worker) t p u (Fetch worker x.0) (FetchSays suits worker (Ok x) (core_of seen s)) refl (stands p.value u.seen u.number known) (refl, first_is, job)
  fetch_did worker s t p u (Err y) known first_is job stands not_yet same =
      none_at seen suits (Worker worker) s t p u (FetchSays suits worker (Err y) (core_of seen s)) known same (refl, not_yet.0, not_yet.1)

  -- the number of a call that was skipped
  pub skip_numbered : (lane : ℕ) (request : Request) (fault : Bool) (o : Snapshot (State D J)) (v w : V) (r : Result (Result Numbered NotYet) Worn) (n : Numbered) → r ≡ Ok (Ok n) → IfOk r (λ x. Turn (core_of seen) o v w (SkipSays lane request fault x)) →
      IsNumbered o.value.last (calls_of (events_of w.seen)) n.number (record { lane = lane; call = request.call; reply = n.reply })
  skip_numbered lane request fault o v w r n is did =
      let t = if_ok (λ x. Turn (core_of seen) o v w (SkipSays lane request fault x)) r (Ok n) is did in
      numbered (core_of seen) o v w (SkipSays lane request fault (Ok n)) (Skip lane request fault) lane request.call n t t.says.0 t.says.1
