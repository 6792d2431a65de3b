-- The requests that a lane ended in the whole history are those that its pass ended.
use Rattle.std.proofs.Common.{◌≡◌, ℕ, zero, suc, ◌+◌, ◌≤◌, Bool, false, List, [], ◌∷◌, ◌++◌, map, length, Option, Some, None, refl, sym, ap, ◌∙◌, subst, ⊎_elim, arith}
use mathlib.Core.List.{map-append}
use mathlib.Core.Logic.{dite}
use native.Mathlib.Decide.{ℕ_discrete}
use Rattle.std.specs.declared.snapshot.Snapshot.{Snapshot}
use Rattle.turn_cell.specs.declared.book.Entry as turn_cell
use Rattle.turn_cell.specs.declared.view.Joined.{Joined}
use Rattle.turn_cell.specs.declared.view.View.{View}
use Rattle.turn_cell.specs.Events.{events_of}
use Rattle.turn_cell.specs.History.{entry, entries_of, Has, AllMay, MayMake}
use Rattle.turn_cell.specs.Steps.{SeesAllowed}
use Rattle.turn_cell.specs.Teams.{IsWhole}
use Rattle.plain_files.specs.declared.calls.Numbered.{Numbered}
use Rattle.plain_files.specs.declared.calls.Request.{Request}
use Rattle.plain_files.specs.History.{Entry, requests_of, calls_in}
use Rattle.core_state.specs.declared.actor.Actor.{Actor}
use Rattle.core_state.specs.declared.actor.Actor.TheVariants.{Lane}
use Rattle.core_state.specs.declared.event.Event.{Event}
use Rattle.core_state.specs.State.{Core}
use Rattle.core_state.specs.Happens.{actor_of}
use Rattle.core_state.specs.History.{entry_of, and_then, calls_of}
use Rattle.desk_turns.specs.Making.{AreOf}
use Rattle.desk_turns.specs.Passing.{Acts, May}
use Rattle.desk_turns.proofs.Turning.{events_more}
use Rattle.lane_history.specs.Lanes.{requests_in, AreActed}
use Rattle.lane_history.proofs.Cuts.{calls_asked, skips, requests_by_lane}
use Rattle.crews.specs.Lanes.{AreLogged}
use Rattle.lane_logs.specs.Logs.{replies_to}
use Rattle.crew_history.proofs.Numbers.{AreIn, here, in_long, all_told, logged_more}

-- ---- calls

calls_append : (es fs : List Event) → calls_of (es ++ fs) ≡ calls_of es ++ calls_of fs
calls_append [] fs = refl
calls_append (e ∷ es) fs = go (entry_of e) (calls_append es fs)
  where
    go : (o : Option Entry) → calls_of (es ++ fs) ≡ calls_of es ++ calls_of fs → and_then o (calls_of (es ++ fs)) ≡ and_then o (calls_of es) ++ calls_of fs
    go None p = p
    go (Some x) p = ap (λ z. x ∷ z) p

same_lane : (k l : ℕ) → Lane k ≡ Lane l → k ≡ l
same_lane k l e = cc

-- a call that an event of a lane ends is the lane's
call_mine : (l : ℕ) (e : Event) (x : Entry) → actor_of e ≡ Lane l → entry_of e ≡ Some x → x.lane ≡ l
call_mine l e x of ends = dite (ℕ_discrete x.lane l)
    (λ same. same)
    (λ ne.
    let none : requests_in x.lane (e ∷ []) ≡ [] = skips x.lane e [] (λ s. ne (same_lane x.lane l (sym s ∙ of))) in
    let calls = ap length (calls_asked x.lane (e ∷ []) ∙ ap (map (λ (r : Request). r.call)) none) in
    let told = ap (λ (o : Option Entry). length (calls_in x.lane (and_then o []))) ends in
    let one = here x.lane x [] refl in
    absurd (omega arith))

-- the calls that a lane's events end are the lane's
calls_mine : (l : ℕ) (es : List Event) → AreOf (Lane l) es → AreIn l (calls_of es)
calls_mine l [] of = tt
calls_mine l (e ∷ es) of = go (entry_of e) refl (calls_mine l es of.1)
  where
    go : (o : Option Entry) → entry_of e ≡ o → AreIn l (calls_of es) → AreIn l (and_then o (calls_of es))
    go None ends rest = rest
    go (Some x) ends rest = (call_mine l e x of.0 ends, rest)

-- lanes past the last one end nothing
none_above : (count l : ℕ) (h : List (turn_cell.Entry Event)) → count ≤ l → AreActed count h → requests_in l (events_of h) ≡ []
none_above count l [] far acts = refl
none_above count l (x ∷ xs) far acts =
    skips l x.event (requests_in l (events_of xs)) (λ s. let p = (subst (λ (a : Actor). Acts count x.number a) s acts.0).1 in absurd (omega arith)) ∙ none_above count l xs far acts.1

pub none_past : (lanes : List (List Request)) (l : ℕ) → length lanes ≤ l → requests_of lanes l ≡ []
none_past [] l far = refl
none_past (x ∷ xs) zero far = absurd (omega arith)
none_past (x ∷ xs) (suc l) far = none_past xs l (omega arith)

module _ {S : Type 0} (core : S → Core) (o : Snapshot S) where
  abbrev V : Type 0
  V = View (Snapshot S) Event

  acted : (alone : Bool) (h : List (turn_cell.Entry Event)) → alone ≡ false → AllMay (MayMake (May core) alone o) h → AreActed (core o.value).shape.lanes h
  acted alone [] off all = tt
  acted alone (x ∷ xs) off all = (⊎_elim (λ e. absurd (cc)) (λ p. p) all.0, acted alone xs off all.1)

  -- what a lane past the last one ended
  pub ended_past : (v : V) (l : ℕ) → v.alone ≡ false → SeesAllowed (May core) o v → (core o.value).shape.lanes ≤ l → requests_in l (events_of v.seen) ≡ []
  ended_past v l off all far = none_above (core o.value).shape.lanes l v.seen far (acted v.alone v.seen off all)

  -- what a lane ended by its pass is all that it ended
  pub ended_all : (v : V) (l : ℕ) (x : Joined Event) (es : List Event) → v.alone ≡ false → SeesAllowed (May core) o v → IsWhole v → Has v.joined x → x.number ≡ l + 1 → x.entries ≡ map (entry (l + 1)) es →
      requests_in l (events_of v.seen) ≡ requests_in l es
  ended_all v l x es off all whole has number made =
      requests_by_lane (core o.value).shape.lanes l v.seen (acted v.alone v.seen off all)
      ∙ (ap (λ (n : ℕ). requests_in l (events_of (entries_of n v.seen))) (sym number)
      ∙ (ap (λ z. requests_in l (events_of z)) ((whole.joined x has).0 ∙ made) ∙ ap (requests_in l) (events_more [] (l + 1) es)))

  -- so its log has the replies to all its calls, with their numbers
  pub told_all : (last : ℕ) (v : V) (l : ℕ) (x : Joined Event) (log : List Numbered) (es : List Event) → v.alone ≡ false → SeesAllowed (May core) o v → IsWhole v → Has v.joined x → x.number ≡ l + 1 → x.entries ≡ map (entry (l + 1)) es →
      AreOf (Lane l) es → AreLogged last (calls_of (events_of x.seen)) last log (calls_of es) → log ≡ replies_to l last (calls_of (events_of v.seen))
  told_all last v l x log es off all whole has number made of logged =
      let late = (whole.joined x has).1 in
      let grown : calls_of (events_of v.seen) ≡ calls_of (events_of x.seen) ++ calls_of (events_of late.0)
      = ap (λ z. calls_of (events_of z)) late.1 ∙ (ap calls_of (map-append (λ (e : turn_cell.Entry Event). e.event) x.seen late.0) ∙ calls_append (events_of x.seen) (events_of late.0)) in
      let now : AreLogged last (calls_of (events_of v.seen)) last log (calls_of es)
      = subst (λ z. AreLogged last z last log (calls_of es)) (sym grown) (logged_more last last (calls_of (events_of x.seen)) (calls_of (events_of late.0)) log (calls_of es) logged) in
      let mine = calls_mine l es of in
      let same : calls_in l (calls_of (events_of v.seen)) ≡ calls_in l (calls_of es)
      = calls_asked l (events_of v.seen) ∙ (ap (map (λ (r : Request). r.call)) (ended_all v l x es off all whole has number made) ∙ sym (calls_asked l es)) in
      all_told l last (calls_of (events_of v.seen)) log (calls_of es) mine now (ap length same ∙ in_long l (calls_of es) mine)
