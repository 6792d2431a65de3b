-- A run over a system: from the turn that was opened to the one that is closed.
use Rattle.std.proofs.Common.{◌≡◌, ℕ, Bool, true, false, List, [], ◌++◌, None, length, refl, sym, ap, ◌∙◌, subst, append_assoc, map}
use Rattle.std.specs.Prelude.{◌↔◌}
use Rattle.std.specs.declared.snapshot.Snapshot.{Snapshot}
use Rattle.turn_cell.specs.declared.book.Entry.{Entry}
use Rattle.turn_cell.specs.declared.view.View.{View}
use Rattle.turn_cell.specs.Events.{events_of}
use Rattle.turn_cell.specs.History.{entry}
use Rattle.turn_cell.specs.Rule.{first_view}
use Rattle.flash_die.specs.Dies.{DieView}
use Rattle.core_state.specs.declared.event.Event.{Event}
use Rattle.core_state.specs.State.{Core}
use Rattle.core_state.specs.Happens.{CoreRun, after_all}
use Rattle.core_state.proofs.Runs.{leads_to}
use Rattle.core_solo.specs.Solo.{Script, SoloLines, SoloRun, SoloEnd, enters, leaves}
use Rattle.core_solo.specs.Stored.{IsAllStored}
use Rattle.system_state.specs.Jobs.{JobView}
use Rattle.system_state.specs.Cores.{core_of}
use Rattle.system_state.specs.Stands.{Stands}
use Rattle.system_state.specs.declared.state.State.{State}
use Rattle.system_metas.specs.Encode.{encode}
use Rattle.desk_turns.specs.Passing.{core_seen, Does}
use Rattle.desk_turns.proofs.Turning.{events_more}
use Rattle.settling.specs.Steps.{EndsInFailure}
use Rattle.settling.specs.declared.last_sync.Settled.{Settled}
use Rattle.settling.specs.declared.last_sync.Settled.TheVariants.{NotAsked, Done, Failed}
use Rattle.solo_lanes.specs.Lanes.{AreHome}
use Rattle.solo_runs.specs.Run.{MayRun, EndsAs, HasRun}

module _ {D J : Type 0} (seen : D → DieView) where
  abbrev C : State D J → Core
  C = core_of seen

  -- ---- the run of one thread

  -- the core that is seen first is that of the state
  pub begins : (s : State D J) (o : Snapshot (State D J)) (v : View (Snapshot (State D J)) Event) → o ≡ record { marker = record {}; value = s } → v.seen ≡ [] → core_seen C o v ≡ C s
  begins s o v opened none = ap (λ (h : List (Entry Event)). after_all (C o.value) (events_of h)) none ∙ ap (λ (z : Snapshot (State D J)). C z.value) opened

  pub solo_run : (o : Snapshot (State D J)) (v w : View (Snapshot (State D J)) Event) (script : Script) (settles : Bool) (settled : Settled) (c d : Core) → v.alone ≡ true → v.seen ≡ [] → MayRun script c → core_seen C o v ≡ c →
      CoreRun c (events_of w.seen) d → Does v w (HasRun seen o v w script settles settled) → SoloRun encode c script settles (events_of w.seen) d
  solo_run o v w script settles settled c d a none m same run p =
      let h = p.says in
      let n = length script.lanes in
      let made : events_of w.seen ≡ p.events = ap events_of (p.went.alone a ∙ ap (λ (xs : List (Entry Event)). xs ++ map (entry v.number) p.events) none) ∙ events_more [] v.number p.events in
      let parts : p.events ≡ enters n ++ (h.lines ++ (leaves n ++ h.settling)) =
      h.parts ∙ (append_assoc (enters n) (h.lines ++ leaves n) h.settling ∙ ap (λ (xs : List Event). enters n ++ xs) (append_assoc h.lines (leaves n) h.settling)) in
      record {
        lines = h.lines;
        settling = h.settling;
        parts = made ∙ subst (λ (k : ℕ). p.events ≡ enters k ++ (h.lines ++ (leaves k ++ h.settling))) m.wide parts;
        calls = subst (λ (k : ℕ). SoloLines encode (after_all c (enters k)) script script.order h.lines) m.wide (subst (λ (b : Core). SoloLines encode (after_all b (enters n)) script script.order h.lines) same h.calls);
        ending = subst (λ (k : ℕ). SoloEnd encode settles (after_all c (enters k ++ (h.lines ++ leaves k))) h.settling) m.wide (subst (λ (b : Core). SoloEnd encode settles (after_all b (enters n ++ (h.lines ++ leaves n))) h.settling) same h.ending);
        run = run;
      }

  -- ---- how it ended

  pub asked : (o : Snapshot (State D J)) (w : View (Snapshot (State D J)) Event) (settles : Bool) (settled : Settled) → EndsAs seen o w settles settled → (settled ≡ NotAsked) ↔ (settles ≡ false)
  asked o w settles NotAsked e = (λ q. e.0, λ q. refl)
  asked o w settles Done e = (λ q. absurd (cc), λ q. let k = e.0 in absurd (cc))
  asked o w settles Failed e = (λ q. absurd (cc), λ q. let k = e.0 in absurd (cc))

  pub failed : (o : Snapshot (State D J)) (w : View (Snapshot (State D J)) Event) (settles : Bool) (settled : Settled) → EndsAs seen o w settles settled → (settled ≡ Failed) ↔ EndsInFailure w.seen
  failed o w settles NotAsked e = (λ q. absurd (cc), λ f. absurd (e.1 f))
  failed o w settles Done e = (λ q. absurd (cc), λ f. absurd (e.1 f))
  failed o w settles Failed e = (λ q. e.1, λ f. refl)

  pub stored : (o : Snapshot (State D J)) (w : View (Snapshot (State D J)) Event) (settles : Bool) (settled : Settled) → EndsAs seen o w settles settled → settled ≡ Done → IsAllStored encode (core_seen C o w)
  stored o w settles NotAsked e q = absurd (cc)
  stored o w settles Done e q = e.2
  stored o w settles Failed e q = absurd (cc)

  -- ---- all of it

  module _ (suits : J → JobView → Type 0) where
    -- what is left of a run that began with state s, of the state t and the view that are left
    pub record IsOver (s t : State D J) (x : View (Snapshot (State D J)) Event) (script : Script) (settles : Bool) (settled : Settled) : Type 0 where
      pub stands : Stands seen suits t s x.seen
      pub run : SoloRun encode (C s) script settles (events_of x.seen) (C t)
      pub idle : (lane : ℕ) → (C t).calls lane ≡ None
      pub home : AreHome (C t)
      pub asked : (settled ≡ NotAsked) ↔ (settles ≡ false)
      pub failed : (settled ≡ Failed) ↔ EndsInFailure x.seen
      pub stored : settled ≡ Done → IsAllStored encode (C t)

    pub over : (s t : State D J) (o q : Snapshot (State D J)) (v w x : View (Snapshot (State D J)) Event) (script : Script) (settles : Bool) (settled : Settled) → o ≡ record { marker = record {}; value = s } → v ≡ first_view true 0 (record { marker = record {}; value = s }) →
        q ≡ o → x ≡ w → MayRun script (C s) → Does v w (HasRun seen o v w script settles settled) → Stands seen suits t q.value w.seen → IsOver s t x script settles settled
    over s t o q v w x script settles settled opened first kept front m did left =
        let none : v.seen ≡ [] = ap (λ (z : View (Snapshot (State D J)) Event). z.seen) first in
        let alone : v.alone ≡ true = ap (λ (z : View (Snapshot (State D J)) Event). z.alone) first in
        let from : q.value ≡ s = ap (λ (z : Snapshot (State D J)). z.value) (kept ∙ opened) in
        let stands : Stands seen suits t s w.seen = subst (λ (z : State D J). Stands seen suits t z w.seen) from left in
        let same : C t ≡ core_seen C o w = leads_to (events_of w.seen) (C s) (C t) stands.run ∙ ap (λ (z : Snapshot (State D J)). after_all (C z.value) (events_of w.seen)) (sym opened) in
        let h = did.says in
        record {
          stands = subst (λ (z : View (Snapshot (State D J)) Event). Stands seen suits t s z.seen) (sym front) stands;
          run = subst (λ (z : View (Snapshot (State D J)) Event). SoloRun encode (C s) script settles (events_of z.seen) (C t)) (sym front)
              (solo_run o v w script settles settled (C s) (C t) alone none m (begins s o v opened none) stands.run did);
          idle = subst (λ (z : Core). (lane : ℕ) → z.calls lane ≡ None) (sym same) h.idle;
          home = subst AreHome (sym same) h.home;
          asked = asked o w settles settled h.ends;
          failed = subst (λ (z : View (Snapshot (State D J)) Event). (settled ≡ Failed) ↔ EndsInFailure z.seen) (sym front) (failed o w settles settled h.ends);
          stored = λ done. subst (IsAllStored encode) (sym same) (stored o w settles settled h.ends done);
        }
