-- What a lane sees of its call stays under the events of others, whoever has the call.
use Rattle.std.proofs.Common.{◌≡◌, ℕ, Bool, true, false, List, [], ◌∷◌, Option, Some, None, refl, sym, ap, ◌∙◌, subst, ⊎_elim}
use Rattle.std.specs.Prelude.{◌≢◌, is_some}
use Rattle.std.specs.declared.snapshot.Snapshot.{Snapshot}
use Rattle.turn_cell.specs.declared.book.Entry.{Entry}
use Rattle.turn_cell.specs.Events.{events_of}
use Rattle.turn_cell.specs.History.{AreOthers}
use Rattle.index_lists.proofs.Counts.{same_or_not}
use Rattle.flash_die.specs.Dies.{DieView}
use Rattle.core_state.specs.declared.actor.Actor.{Actor}
use Rattle.core_state.specs.declared.actor.Actor.TheVariants.{Lane, Worker, Flusher, Closer}
use Rattle.core_state.specs.declared.event.Event.{Event}
use Rattle.core_state.specs.declared.event.Event.TheVariants.{Enter, Leave, Quick, Skip, Begin, Copy, Take, DieOut, FillIn, Submit, Fetch, Report, End, Evict, Demote, FlushOut, FlushIn, MetaIn}
use Rattle.core_state.specs.State.{Flight, Core}
use Rattle.core_state.specs.Contents.{contents}
use Rattle.core_state.specs.Coherent.{Coherent}
use Rattle.core_state.specs.Hold.{Hold, HeldLane, SeenCall, hold, is_held, lane_alone, seen_call}
use Rattle.core_state.specs.Happens.{CoreRun, Happens, actor_of, after}
use Rattle.core_hold.proofs.All.{each_holds}
use Rattle.system_state.specs.Jobs.{JobView}
use Rattle.system_state.specs.Cores.{core_of}
use Rattle.system_state.specs.declared.state.State.{State}
use Rattle.desk_turns.specs.Passing.{Acts, May, core_after, core_seen}
use Rattle.desk_turns.proofs.Holding.{acts_other}
use Rattle.desk_turns.proofs.Later.{seen_by_lane}
use Rattle.desk_turns.proofs.Shapes.{coherent_after}
use Rattle.desk_turns.proofs.Turning.{is_after}
use Rattle.event_turns.proofs.Taking.{Known, O, V, Found, stood, coherent_seen, more}

-- its dies, its row, and what it sees of its call
pub record StillSees (c c2 : Core) (a : Actor) : Type 0 where
  pub dies : (hold c2 a).dies ≡ (hold c a).dies
  pub lane : (hold c2 a).lane ≡ (hold c a).lane
  pub seen : (hold c2 a).seen ≡ (hold c a).seen

held_same : (c c2 : Core) (a : Actor) → hold c2 a ≡ hold c a → StillSees c c2 a
held_same c c2 a e = record { dies = ap (λ (x : Hold). x.dies) e; lane = ap (λ (x : Hold). x.lane) e; seen = ap (λ (x : Hold). x.seen) e }

sees_on : (c d e : Core) (a : Actor) → StillSees c d a → StillSees d e a → StillSees c e a
sees_on c d e a p q = record { dies = q.dies ∙ p.dies; lane = q.lane ∙ p.lane; seen = q.seen ∙ p.seen }

-- a report of a call
report_sees : (w l : ℕ) (c c2 : Core) (a : Actor) → Coherent c → Happens c (Report w l) c2 → a ≢ Worker w → StillSees c c2 a
report_sees w l c c2 (Lane m) h s n = ⊎_elim
    (λ (e : m ≡ l). let r = (each_holds (Report w l)).adds c c2 h s in
    subst (λ (k : ℕ). StillSees c c2 (Lane k)) (sym e) (record { dies = ap (λ (x : Hold). x.dies) r; lane = ap (λ (x : Hold). x.lane) r; seen = ap (λ (x : Hold). x.seen) r }))
    (λ (ne : m ≢ l). held_same c c2 (Lane m) ((each_holds (Report w l)).others c c2 (Lane m) h s n (λ e. ne (cc)))) (same_or_not m l)
report_sees w l c c2 (Worker x) h s n = held_same c c2 (Worker x) ((each_holds (Report w l)).others c c2 (Worker x) h s n (λ e. absurd (cc)))
report_sees w l c c2 (Flusher x) h s n = held_same c c2 (Flusher x) ((each_holds (Report w l)).others c c2 (Flusher x) h s n (λ e. absurd (cc)))
report_sees w l c c2 Closer h s n = held_same c c2 Closer ((each_holds (Report w l)).others c c2 Closer h s n (λ e. absurd (cc)))

-- any event of another actor
sees_event : (e : Event) (c c2 : Core) (a : Actor) → Coherent c → Happens c e c2 → a ≢ actor_of e → StillSees c c2 a
sees_event (Report worker lane) c c2 a h s n = report_sees worker lane c c2 a h s n
sees_event (Enter lane) c c2 a h s n = held_same c c2 a (each_holds (Enter lane) c c2 a h s n)
sees_event (Leave lane) c c2 a h s n = held_same c c2 a (each_holds (Leave lane) c c2 a h s n)
sees_event (Quick lane request reply) c c2 a h s n = held_same c c2 a (each_holds (Quick lane request reply) c c2 a h s n)
sees_event (Skip lane request fault) c c2 a h s n = held_same c c2 a (each_holds (Skip lane request fault) c c2 a h s n)
sees_event (Begin lane request side) c c2 a h s n = held_same c c2 a (each_holds (Begin lane request side) c c2 a h s n)
sees_event (Copy actor lane i) c c2 a h s n = held_same c c2 a (each_holds (Copy actor lane i) c c2 a h s n)
sees_event (Take actor lane i) c c2 a h s n = held_same c c2 a (each_holds (Take actor lane i) c c2 a h s n)
sees_event (DieOut actor die purpose) c c2 a h s n = held_same c c2 a (each_holds (DieOut actor die purpose) c c2 a h s n)
sees_event (FillIn actor die good) c c2 a h s n = held_same c c2 a (each_holds (FillIn actor die good) c c2 a h s n)
sees_event (Submit lane) c c2 a h s n = held_same c c2 a (each_holds (Submit lane) c c2 a h s n)
sees_event (Fetch worker lane) c c2 a h s n = held_same c c2 a (each_holds (Fetch worker lane) c c2 a h s n)
sees_event (End lane request reply) c c2 a h s n = held_same c c2 a (each_holds (End lane request reply) c c2 a h s n)
sees_event (Evict actor side block) c c2 a h s n = held_same c c2 a (each_holds (Evict actor side block) c c2 a h s n)
sees_event (Demote actor block) c c2 a h s n = held_same c c2 a (each_holds (Demote actor block) c c2 a h s n)
sees_event (FlushOut actor die block) c c2 a h s n = held_same c c2 a (each_holds (FlushOut actor die block) c c2 a h s n)
sees_event (FlushIn actor die good left) c c2 a h s n = held_same c c2 a (each_holds (FlushIn actor die good left) c c2 a h s n)
sees_event (MetaIn actor die good left) c c2 a h s n = held_same c c2 a (each_holds (MetaIn actor die good left) c c2 a h s n)

module _ {S : Type 0} (core : S → Core) where
  others_see : (o : Snapshot S) (n : ℕ) (a : Actor) (rest : List (Entry Event)) (c c2 : Core) → Acts (core o.value).shape.lanes n a → Coherent c → AreOthers (May core) o n rest → CoreRun c (events_of rest) c2 → StillSees c c2 a
  others_see o n a [] c c2 acts h r s = held_same c c2 a (ap (λ (z : Core). hold z a) s)
  others_see o n a (x ∷ xs) c c2 acts h r s =
      sees_on c (after c x.event) c2 a
      (sees_event x.event c (after c x.event) a h s.0 (acts_other (core o.value).shape.lanes n x.number a (actor_of x.event) acts r.1 (λ e. r.0 (sym e))))
      (others_see o n a xs (after c x.event) c2 acts (coherent_after x.event c (after c x.event) h s.0) r.2 s.1)

module _ {D J : Type 0} (seen : D → DieView) (suits : J → JobView → Type 0) where
  -- what the actor sees is found again in the book that its pass took, also where its call is in other hands
  pub sees_found : (s : State D J) (p q : O seen suits) (v u : V seen suits) (a : Actor) → Found seen suits s p q v u a → StillSees (core_seen (core_of seen) q v) (core_of seen s) a
  sees_found s p q v u a f = by v.alone refl
    where
      by : (t : Bool) → v.alone ≡ t → StillSees (core_seen (core_of seen) q v) (core_of seen s) a
      by true e =
          let at = is_after (core_of seen) (λ s o h. Known seen suits s o h) (λ s o h k. k.run) (λ s o h k. k.coherent) s q u.seen (stood seen suits s p q v u a f) in
          held_same (core_seen (core_of seen) q v) (core_of seen s) a (ap (λ (z : Core). hold z a) (at ∙ ap (core_after (core_of seen) q) (f.4 e)))
      by false e =
          let rest = f.2.0.1.0 in
          others_see (core_of seen) q v.number a rest (core_seen (core_of seen) q v) (core_of seen s) (⊎_elim (λ g. absurd (cc)) (λ p. p) f.5) (coherent_seen seen suits s p q v u a f) (f.3 rest f.2.0.1.1 e) (more seen suits s p q v u a f)

-- a lane's call in the other core: as the lane sees it
pub record SeenAgain (c c2 : Core) (lane : ℕ) (f : Flight) : Type 0 where
  pub call : Flight
  pub flies : c2.calls lane ≡ Some call
  pub seen : seen_call c2.names c2.places (contents c2.blocks) call ≡ seen_call c.names c.places (contents c.blocks) f

some_of : (o : Option Flight) → is_some o ≡ true → (g : Flight) × (o ≡ Some g)
some_of None e = absurd (cc)
some_of (Some g) e = (g, refl)

pub seen_again : (c c2 : Core) (lane : ℕ) (f : Flight) → StillSees c c2 (Lane lane) → c.calls lane ≡ Some f → SeenAgain c c2 lane f
seen_again c c2 lane f s flies =
    let row : lane_alone (c2.lanes lane) (c2.calls lane) ≡ lane_alone (c.lanes lane) (c.calls lane) = let z = s.lane in cc in
    let g = some_of (c2.calls lane) (ap (λ (x : HeldLane). x.in_flight) row ∙ ap is_some flies) in
    let both : Some (seen_call c2.names c2.places (contents c2.blocks) g.0) ≡ Some (seen_call c.names c.places (contents c.blocks) f)
    = sym (seen_by_lane c2.names c2.places (contents c2.blocks) lane (c2.calls lane) g.0 g.1) ∙ (ap (λ (x : ℕ → Option SeenCall). x lane) s.seen ∙ seen_by_lane c.names c.places (contents c.blocks) lane (c.calls lane) f flies) in
    record { call = g.0; flies = g.1; seen = cc }

-- a call that its lane has handed on isn't held before the lane ends it
pub still_away : (c c2 : Core) (lane : ℕ) (f : Flight) → (g : SeenAgain c c2 lane f) → is_held f.phase ≡ false → is_held g.call.phase ≡ false
still_away c c2 lane f g away = ap (λ (x : SeenCall). x.held) g.seen ∙ away
