-- Each lane made the first of its calls.
use Rattle.std.proofs.Common.{◌≡◌, ℕ, ◌<◌, ◌≤◌, List, [], ◌++◌, map, length, sym, ap, ◌∙◌, ⊎_elim, arith}
use Rattle.std.proofs.lemmas.Bool.{cases_lt}
use mathlib.Core.List.{map-append}
use Rattle.std.specs.declared.snapshot.Snapshot.{Snapshot}
use Rattle.turn_cell.specs.declared.turn.Turn.{Turn}
use Rattle.turn_cell.specs.declared.view.View.{View}
use Rattle.turn_cell.specs.Events.{events_of}
use Rattle.turn_cell.specs.Passes.{opening_of}
use Rattle.plain_files.specs.declared.calls.Call.{Call}
use Rattle.plain_files.specs.declared.calls.Request.{Request}
use Rattle.plain_files.specs.History.{requests_of}
use Rattle.flash_die.specs.Dies.{DieView}
use Rattle.core_state.specs.declared.event.Event.{Event}
use Rattle.core_state.specs.History.{calls_of}
use Rattle.system_state.specs.Cores.{core_of}
use Rattle.system_state.specs.declared.state.State.{State}
use Rattle.lane_history.specs.Lanes.{requests_in}
use Rattle.lane_history.proofs.Cuts.{calls_asked}
use Rattle.page_steps.specs.Books.{opening_in}
use Rattle.page_steps.specs.SystemOf.{System}
use Rattle.crews.specs.declared.post.Post.{Post}
use Rattle.crew_history.specs.Begun.{AreBegun}
use Rattle.crew_history.specs.Worked.{HaveWorked}
use Rattle.crew_history.proofs.Lanes.{none_past, ended_past, ended_all}
use Rattle.crew_history.proofs.Posts.{lane_at, is_lane}

abbrev call_of : Request → Call
call_of r = r.call

module _ {D J : Type 0} (seen : D → DieView) (turn : Turn (System D J) (Snapshot (State D J)) Event) (lanes : List (List Request)) (posts : List (Post D J)) (v : View (Snapshot (State D J)) Event) where
  -- a lane ended the first of its requests
  begins : HaveWorked seen turn lanes posts v → (l : ℕ) → l < length lanes → (rest : List Request) × (requests_of lanes l ≡ requests_in l (events_of v.seen) ++ rest)
  begins h l low =
      let p = lane_at seen turn lanes posts v h l low in
      let is = is_lane seen turn lanes posts v l p low in
      let first = p.kept.worked.begun l is.0 in (
        first.0,
        sym is.1 ∙ (first.1 ∙ ap (λ z. z ++ first.0) (sym (ended_all (core_of seen) (opening_of opening_in turn) v l p.pass p.kept.events h.shared h.allowed h.whole p.has p.kept.number p.kept.made))),
      )

  -- a lane past the last one has no requests, and ended none
  begins_past : HaveWorked seen turn lanes posts v → (l : ℕ) → length lanes ≤ l → (rest : List Request) × (requests_of lanes l ≡ requests_in l (events_of v.seen) ++ rest)
  begins_past h l far =
      let wide = h.wide in
      ([], none_past lanes l far ∙ ap (λ (z : List Request). z ++ []) (sym (ended_past (core_of seen) (opening_of opening_in turn) v l h.shared h.allowed (omega arith))))

  pub crew_begins : HaveWorked seen turn lanes posts v → AreBegun lanes (calls_of (events_of v.seen))
  crew_begins h lane =
      let b = ⊎_elim (begins h lane) (begins_past h lane) (cases_lt lane (length lanes)) in (
        map call_of b.0,
        ap (map call_of) b.1
            ∙ (map-append call_of (requests_in lane (events_of v.seen)) b.0 ∙ ap (λ z. z ++ map call_of b.0) (sym (calls_asked lane (events_of v.seen)))),
      )
