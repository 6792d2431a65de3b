-- What a turn did in which a call was to begin.
use Rattle.std.proofs.Common.{◌≡◌, ℕ, List, [], ◌∷◌, ◌++◌, refl, ap}
use Rattle.std.specs.Prelude.{Result, Ok, Err, IfOk, IfErr}
use Rattle.std.specs.declared.snapshot.Snapshot.{Snapshot}
use Rattle.turn_cell.specs.declared.book.Entry.{Entry}
use Rattle.turn_cell.specs.declared.view.View.{View}
use Rattle.turn_cell.specs.declared.pass.Worn.{Worn}
use Rattle.turn_cell.specs.Events.{events_of}
use Rattle.turn_cell.specs.History.{entry}
use Rattle.dispatcher.specs.declared.side.Side.{Side}
use Rattle.plain_files.specs.declared.calls.Numbered.{Numbered}
use Rattle.plain_files.specs.declared.calls.Request.{Request}
use Rattle.flash_die.specs.Dies.{DieView}
use Rattle.core_state.specs.declared.actor.Actor.TheVariants.{Lane}
use Rattle.core_state.specs.declared.event.Event.{Event}
use Rattle.core_state.specs.declared.event.Event.TheVariants.{Quick}
use Rattle.core_state.specs.Happens.{actor_of}
use Rattle.core_state.specs.History.{calls_of}
use Rattle.system_state.specs.Jobs.{JobView}
use Rattle.system_state.specs.Cores.{core_of}
use Rattle.system_state.specs.Stands.{Stands}
use Rattle.system_state.specs.declared.not_yet.NotYet.{NotYet}
use Rattle.system_state.specs.declared.not_yet.NotYet.TheVariants.{NoRoom}
use Rattle.system_state.specs.declared.state.State.{State}
use Rattle.page_steps.specs.BegunAnswer.{Begun}
use Rattle.page_steps.specs.BegunAnswer.TheVariants.{Ended, Started}
use Rattle.page_steps.specs.Begun.{side_of}
use Rattle.page_steps.specs.Ways.{begin_way, way_of, begin_event, IsNext}
use Rattle.desk_turns.specs.Passing.{Turn}
use Rattle.page_steps.proofs.FlushTurning.{if_ok}
use Rattle.page_steps.specs.Words.{IsNumbered}
use Rattle.page_steps.proofs.Taking.{DidAt, one_at, none_at}
use Rattle.page_steps.proofs.Numbering.{numbered}
use Rattle.call_turns.specs.Beginning.{BeginSays}

begin_mine : (lane : ℕ) (request : Request) (b : Begun) → actor_of (begin_event lane request b) ≡ Lane lane
begin_mine lane request (Ended n) = refl
begin_mine lane request (Started side span) = refl

module _ {D J : Type 0} (seen : D → DieView) (suits : J → JobView → Type 0) where
  abbrev Known : State D J → State D J → List (Entry Event) → Type 0
  Known s o h = Stands seen suits s o h

  abbrev V : Type 0
  V = View (Snapshot (State D J)) Event

  pub begin_did : (lane : ℕ) (request : Request) (picked : Side) (s t : State D J) (p : Snapshot (State D J)) (u : V) (r : Result Begun NotYet) → Known s p.value u.seen →
      way_of r ≡ begin_way (core_of seen s) request → IfOk r (λ x. IsNext s.last x) →
      IfOk r (λ x. (o : State D J) (h : List (Entry Event)) (n : ℕ) → Known s o h → Known t o (h ++ entry n (begin_event lane request x) ∷ [])) →
      ((used need : ℕ) → r ≡ Err (NoRoom used need) → picked ≡ side_of (core_of seen s) request) → IfErr r (λ y. t ≡ s) → DidAt seen suits (Lane lane) t p u (BeginSays lane request picked r (core_of seen s))
  begin_did lane request picked s t p u (Ok x) known way number stands room same =
      one_at seen suits (Lane lane) t p u (begin_event lane request x) (BeginSays lane request picked (Ok x) (core_of seen s)) (begin_mine lane request x) (stands p.value u.seen u.number known) (refl, way, number)
  begin_did lane request picked s t p u (Err y) known way number stands room same =
      none_at seen suits (Lane lane) s t p u (BeginSays lane request picked (Err y) (core_of seen s)) known same (refl, way, λ used need e. room used need (ap (λ (z : NotYet). Err z) e))

  -- the number of a call that was refused
  pub begin_numbered : (lane : ℕ) (request : Request) (picked : Side) (o : Snapshot (State D J)) (v w : V) (r : Result (Result Begun NotYet) Worn) (n : Numbered) → r ≡ Ok (Ok (Ended n)) → IfOk r (λ x. Turn (core_of seen) o v w (BeginSays lane request picked x)) →
      IsNumbered o.value.last (calls_of (events_of w.seen)) n.number (record { lane = lane; call = request.call; reply = n.reply })
  begin_numbered lane request picked o v w r n is did =
      let t = if_ok (λ x. Turn (core_of seen) o v w (BeginSays lane request picked x)) r (Ok (Ended n)) is did in
      numbered (core_of seen) o v w (BeginSays lane request picked (Ok (Ended n))) (Quick lane request n.reply) lane request.call n t t.says.0 (record { number = t.says.2; ends = refl })
