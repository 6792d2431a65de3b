-- What a whole run tells of its lanes, from the turn that began for it.
use Rattle.std.proofs.Common.{◌≡◌, ℕ, Bool, List, length, ap, ◌∙◌, subst}
use Rattle.std.specs.Prelude.{Result, Ok, Err, IfOk}
use Rattle.std.specs.declared.snapshot.Snapshot.{Snapshot}
use Rattle.turn_cell.specs.declared.turn.Turn.{Turn}
use Rattle.turn_cell.specs.Passes.{opening_of, view}
use Rattle.plain_files.specs.declared.calls.Request.{Request}
use Rattle.flash_die.specs.Dies.{DieView}
use Rattle.core_state.specs.declared.event.Event.{Event}
use Rattle.system_state.specs.Jobs.{JobView}
use Rattle.system_state.specs.Cores.{core_of}
use Rattle.system_state.specs.declared.state.State.{State}
use Rattle.page_steps.specs.Books.{opening_in}
use Rattle.page_steps.specs.SystemOf.{System}
use Rattle.crews.specs.Crews.{Each}
use Rattle.crews.specs.declared.post.Post.{Post}
use Rattle.lane_runs.specs.Seating.{IsNew}
use Rattle.solo_runs.specs.declared.run.Ran.{Ran}
use Rattle.crew_runs.specs.Ended.{HasRunLanes}
use Rattle.crew_runs.specs.declared.run.RunErr.{RunErr}

pub on_ok : {A E : Type 0} {P Q : A → Type 0} (r : Result A E) → ((x : A) → P x → Q x) → IfOk r P → IfOk r Q
on_ok (Ok x) f p = f x p
on_ok (Err e) f p = p

module _ {D J : Type 0} (seen : D → DieView) (suits : J → JobView → Type 0) where
  -- a run came to its end, where it did
  abbrev pub Ends : List (List Request) → Bool → State D J → Result (Ran D J) (RunErr D J) → Type 0
  Ends lanes settles s r = IfOk r (λ x. HasRunLanes seen suits lanes settles s x.system.state (view x.front.pass.value).seen x.logs.items x.settled)

  -- it did so from this opening, whatever lanes its posts are new for
  abbrev pub EndsFrom : ℕ → Bool → Turn (System D J) (Snapshot (State D J)) Event → List (Post D J) → Result (Ran D J) (RunErr D J) → Type 0
  EndsFrom count settles turn posts r = IfOk r
      (λ x. (all : List (List Request)) → length all ≡ count → (core_of seen (opening_of opening_in turn).value).shape.lanes ≡ count → Each (IsNew all turn) posts → HasRunLanes seen suits all settles (opening_of opening_in turn).value x.system.state (view x.front.pass.value).seen x.logs.items x.settled)

  pub wide_from : (count : ℕ) (turn : Turn (System D J) (Snapshot (State D J)) Event) (system : System D J) → opening_of opening_in turn ≡ opening_in system → (core_of seen system.state).shape.lanes ≡ count → (core_of seen (opening_of opening_in turn).value).shape.lanes ≡ count
  wide_from count turn system begins wide = ap (λ (z : Snapshot (State D J)). (core_of seen z.value).shape.lanes) begins ∙ wide

  pub ends : (lanes : List (List Request)) (count : ℕ) (settles : Bool) (turn : Turn (System D J) (Snapshot (State D J)) Event) (posts : List (Post D J)) (system : System D J) (r : Result (Ran D J) (RunErr D J)) → opening_of opening_in turn ≡ opening_in system → length lanes ≡ count → (core_of seen system.state).shape.lanes ≡ count →
      Each (IsNew lanes turn) posts → EndsFrom count settles turn posts r → Ends lanes settles system.state r
  ends lanes count settles turn posts system r begins many wide new = on_ok r
      (λ x p. subst (λ (z : Snapshot (State D J)). HasRunLanes seen suits lanes settles z.value x.system.state (view x.front.pass.value).seen x.logs.items x.settled) begins
      (p lanes many (wide_from count turn system begins wide) new))
