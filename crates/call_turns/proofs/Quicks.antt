-- What a turn did in which a call that needs no page was to be answered.
use Rattle.std.proofs.Common.{◌≡◌, ℕ, ◌+◌, List, [], ◌∷◌, ◌++◌, Some, None, refl}
use Rattle.std.specs.Prelude.{Result, Ok, Err, IfOk, IfErr}
use Rattle.std.specs.declared.snapshot.Snapshot.{Snapshot}
use Rattle.turn_cell.specs.declared.book.Entry.{Entry}
use Rattle.turn_cell.specs.declared.view.View.{View}
use Rattle.turn_cell.specs.declared.pass.Worn.{Worn}
use Rattle.turn_cell.specs.Events.{events_of}
use Rattle.turn_cell.specs.History.{entry}
use Rattle.plain_files.specs.declared.calls.Numbered.{Numbered}
use Rattle.plain_files.specs.declared.calls.Request.{Request}
use Rattle.flash_die.specs.Dies.{DieView}
use Rattle.core_state.specs.declared.actor.Actor.TheVariants.{Lane}
use Rattle.core_state.specs.declared.event.Event.{Event}
use Rattle.core_state.specs.declared.event.Event.TheVariants.{Quick}
use Rattle.core_state.specs.History.{calls_of}
use Rattle.system_state.specs.Jobs.{JobView}
use Rattle.system_state.specs.Cores.{core_of}
use Rattle.system_state.specs.Stands.{Stands}
use Rattle.system_state.specs.declared.not_yet.NotYet.{NotYet}
use Rattle.system_state.specs.declared.state.State.{State}
use Rattle.page_steps.specs.LoadingOf.{Loading}
use Rattle.page_steps.specs.QuickWaits.{quick_waits}
use Rattle.desk_turns.specs.Passing.{Turn}
use Rattle.page_steps.proofs.FlushTurning.{if_ok}
use Rattle.page_steps.specs.Words.{IsNumbered}
use Rattle.page_steps.proofs.Taking.{DidAt, one_at, none_at}
use Rattle.page_steps.proofs.Numbering.{numbered}
use Rattle.call_turns.specs.Quick.{QuickSays}

module _ {D J : Type 0} (seen : D → DieView) (suits : J → JobView → Type 0) where
  abbrev Known : State D J → State D J → List (Entry Event) → Type 0
  Known s o h = Stands seen suits s o h

  abbrev V : Type 0
  V = View (Snapshot (State D J)) Event

  pub quick_did : (lane : ℕ) (request : Request) (before after : Loading) (s t : State D J) (p : Snapshot (State D J)) (u : V) (r : Result Numbered NotYet) → Known s p.value u.seen →
      IfOk r (λ x. quick_waits (core_of seen s) request ≡ None) → IfOk r (λ x. x.number ≡ s.last + 1) →
      IfOk r (λ x. (o : State D J) (h : List (Entry Event)) (n : ℕ) → Known s o h → Known t o (h ++ entry n (Quick lane request x.reply) ∷ [])) →
      IfErr r (λ y. quick_waits (core_of seen s) request ≡ Some y) → IfErr r (λ y. (t ≡ s) × (after ≡ before)) → DidAt seen suits (Lane lane) t p u (QuickSays lane request before after r (core_of seen s))
  quick_did lane request before after s t p u (Ok x) known clear number stands not_yet same =
      one_at seen suits (Lane lane) t p u (Quick lane request x.reply) (QuickSays lane request before after (Ok x) (core_of seen s)) refl (stands p.value u.seen u.number known) (refl, clear, record { number = number; ends = refl })
  quick_did lane request before after s t p u (Err y) known clear number stands not_yet same =
      none_at seen suits (Lane lane) s t p u (QuickSays lane request before after (Err y) (core_of seen s)) known same.0 (refl, not_yet, same.1)

  pub quick_numbered : (lane : ℕ) (request : Request) (before after : Loading) (o : Snapshot (State D J)) (v w : V) (r : Result (Result Numbered NotYet) Worn) (n : Numbered) → r ≡ Ok (Ok n) → IfOk r (λ x. Turn (core_of seen) o v w (QuickSays lane request before after x)) →
      IsNumbered o.value.last (calls_of (events_of w.seen)) n.number (record { lane = lane; call = request.call; reply = n.reply })
  quick_numbered lane request before after o v w r n is did =
      let t = if_ok (λ x. Turn (core_of seen) o v w (QuickSays lane request before after x)) r (Ok n) is did in
      numbered (core_of seen) o v w (QuickSays lane request before after (Ok n)) (Quick lane request n.reply) lane request.call n t t.says.0 t.says.2
