-- Events for room, one of several.
use Rattle.std.proofs.Common.{◌≡◌, ℕ, Bool, true, false, List, [], ◌∷◌, ◌++◌, Option, Some, None, refl, sym, ap, ◌∙◌, subst, inl, inr, append-nil}
use Rattle.std.specs.Prelude.{◌<◌, nat_lt, option_map, if◌then◌else◌}
use Rattle.std.specs.List.{find}
use Rattle.std.proofs.Common.{arith}
use Rattle.std.proofs.lemmas.Bool.Decides.{nat_tests}
use Rattle.dispatcher.specs.declared.side.Side.{Side}
use Rattle.turn_cell.specs.declared.book.Entry.{Entry}
use Rattle.turn_cell.specs.History.{entry}
use Rattle.flash_die.specs.Dies.{DieView}
use Rattle.core_state.specs.declared.actor.Actor.{Actor}
use Rattle.core_state.specs.declared.event.Event.{Event}
use Rattle.core_state.specs.declared.event.Event.TheVariants.{Evict, Demote, FlushOut}
use Rattle.core_state.specs.State.{Core}
use Rattle.core_state.specs.Words.{or_else}
use Rattle.core_state.specs.Contents.{die_of}
use Rattle.core_state.specs.PageEvents.{order_at, is_spare, is_demotable}
use Rattle.core_state.specs.DieEvents.{is_flushable}
use Rattle.core_solo.specs.Solo.{evict_event, demote_event, flush_event}
use Rattle.system_pages.specs.Idle.{drive_used}
use Rattle.event_turns.specs.Flushing.{IsFirst}
use Rattle.system_state.specs.Jobs.{JobView}
use Rattle.system_state.specs.Stands.{Stands}
use Rattle.system_state.specs.declared.state.State.{State}
use Rattle.desk_turns.specs.Making.{AreFew, AreOf}
use Rattle.page_steps.specs.declared.room.Move.TheVariants.{Evicted, Demoted}
use Rattle.page_steps.specs.declared.room.Given.{Given}
use Rattle.page_steps.specs.declared.room.Given.TheVariants.{Moved, Sent, Nothing}
use Rattle.page_steps.specs.Room.{Gave, given_event, few}

module _ {D J : Type 0} (seen : D → DieView) (suits : J → JobView → Type 0) where
  pub gave_one : (s t : State D J) (e : Event) → ((o : State D J) (h : List (Entry Event)) (n : ℕ) → Stands seen suits s o h → Stands seen suits t o (h ++ entry n e ∷ [])) → Gave seen suits s (Some e) t
  gave_one s t e stands = record { makes = stands; same = λ z. absurd (cc) }

  pub gave_none : (s t : State D J) → t ≡ s → Gave seen suits s None t
  gave_none s t same =
      record {
        makes = λ o h n k. subst (λ (z : State D J). Stands seen suits z o (h ++ [])) (sym same) (subst (λ (z : List (Entry Event)). Stands seen suits s o z) (sym (append-nil h)) k);
        same = λ e. same;
      }

-- ---- the first of two

pub first_some : (x y : Option Event) (e : Event) → Some e ≡ x → Some e ≡ or_else x y
first_some x y e p = ap (λ z. or_else z y) p

pub first_none : (x y z : Option Event) → None ≡ x → z ≡ y → z ≡ or_else x y
first_none x y z p q = q ∙ ap (λ w. or_else w y) p

pub or_apart : (x y z : Option Event) → or_else (or_else x y) z ≡ or_else x (or_else y z)
or_apart None y z = refl
or_apart (Some e) y z = refl

-- ---- each event for room

lt_true : (x y : ℕ) → x < y → nat_lt x y ≡ true
lt_true x y l = grind (arith, nat_tests)

pub evict_some : (c : Core) (a : Actor) (side : Side) (b : ℕ) → find (is_spare c side) (order_at side c) ≡ Some b → Some (Evict a side b) ≡ evict_event c a side
evict_some c a side b first = sym (ap (λ (o : Option ℕ). option_map (λ b. Evict a side b) o) first)

pub evict_none : (c : Core) (a : Actor) (side : Side) → find (is_spare c side) (order_at side c) ≡ None → None ≡ evict_event c a side
evict_none c a side first = sym (ap (λ (o : Option ℕ). option_map (λ b. Evict a side b) o) first)

demote_if : Actor → Bool → Option ℕ → Option Event
demote_if a t o = if t then option_map (λ b. Demote a b) o else None

pub demote_some : (c : Core) (a : Actor) (b : ℕ) → find (is_demotable c) c.host_order ≡ Some b → drive_used c < c.shape.drive_frames → Some (Demote a b) ≡ demote_event c a
unfolding demote_if
demote_some c a b first room = sym (λ i. demote_if a (lt_true (drive_used c) c.shape.drive_frames room i) (first i))

none_if : (a : Actor) (t : Bool) (o : Option ℕ) → (t ≡ true → o ≡ None) → None ≡ demote_if a t o
unfolding demote_if
none_if a true o p = sym (ap (λ (x : Option ℕ). option_map (λ b. Demote a b) x) (p refl))
none_if a false o p = refl

pub demote_none : (c : Core) (a : Actor) → (nat_lt (drive_used c) c.shape.drive_frames ≡ true → find (is_demotable c) c.host_order ≡ None) → None ≡ demote_event c a
unfolding demote_if
demote_none c a p = none_if a (nat_lt (drive_used c) c.shape.drive_frames) (find (is_demotable c) c.host_order) p

pub flush_some : (c : Core) (a : Actor) (n b : ℕ) → IsFirst b c → die_of c.shape b ≡ n → Some (FlushOut a n b) ≡ flush_event c a
flush_some c a n b first on = (λ i. Some (FlushOut a (sym on i) b)) ∙ sym (ap (λ (o : Option ℕ). option_map (λ b. FlushOut a (die_of c.shape b) b) o) first)

pub flush_none : (c : Core) (a : Actor) → find (is_flushable c) c.unclean ≡ None → None ≡ flush_event c a
flush_none c a first = sym (ap (λ (o : Option ℕ). option_map (λ b. FlushOut a (die_of c.shape b) b) o) first)

-- ---- none or one

pub are_few : (o : Option Event) → AreFew (few o)
are_few None = inl refl
are_few (Some e) = inr (e, refl)

pub of_given : {D : Type 0} → (a : Actor) (r : Given D) → AreOf a (few (given_event a r))
of_given a (Moved (Evicted side block)) = (refl, tt)
of_given a (Moved (Demoted block)) = (refl, tt)
of_given a (Sent e) = (refl, tt)
of_given a Nothing = tt
