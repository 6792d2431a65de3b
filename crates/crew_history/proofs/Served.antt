-- What the whole history of a crew's turn is.
use Rattle.std.proofs.Common.{◌≡◌, ℕ, ◌<◌, List, None, length, ap, ◌∙◌}
use Rattle.std.specs.Prelude.{slice_index_or}
use Rattle.std.specs.declared.snapshot.Snapshot.{Snapshot}
use Rattle.turn_cell.specs.declared.turn.Turn.{Turn}
use Rattle.turn_cell.specs.declared.view.View.{View}
use Rattle.turn_cell.specs.Events.{events_of}
use Rattle.turn_cell.specs.Passes.{opening_of}
use Rattle.plain_files.specs.declared.calls.Request.{Request}
use Rattle.plain_files.specs.History.{Serves}
use Rattle.flash_die.specs.Dies.{DieView}
use Rattle.core_state.specs.declared.actor.Actor.TheVariants.{Closer}
use Rattle.core_state.specs.declared.event.Event.{Event}
use Rattle.core_state.specs.Happens.{HoldsNone, IsClosing}
use Rattle.core_state.specs.History.{calls_of, AreAwaited}
use Rattle.core_history.proofs.Awaits.{calls_wait}
use Rattle.system_state.specs.Cores.{core_of}
use Rattle.system_state.specs.declared.state.State.{State}
use Rattle.desk_turns.specs.Passing.{core_seen}
use Rattle.lane_history.proofs.Joins.{run_serves}
use Rattle.lane_history.proofs.Closings.{all_home, closes}
use Rattle.page_steps.specs.Books.{opening_in}
use Rattle.page_steps.specs.SystemOf.{System}
use Rattle.crews.specs.declared.post.Post.{Post}
use Rattle.lane_logs.specs.Logs.{replies_to}
use Rattle.crew_history.specs.Worked.{HaveWorked, HaveEnded}
use Rattle.crew_history.proofs.Lanes.{told_all}
use Rattle.crew_history.proofs.Posts.{lane_at, run_of, are_done, are_actors, have_left}

module _ {D J : Type 0} (seen : D → DieView) (turn : Turn (System D J) (Snapshot (State D J)) Event) (lanes : List (List Request)) (posts : List (Post D J)) (v : View (Snapshot (State D J)) Event) where
  waits : HaveWorked seen turn lanes posts v → AreAwaited (events_of v.seen)
  waits h = calls_wait (core_of seen (opening_of opening_in turn).value) (core_seen (core_of seen) (opening_of opening_in turn) v) (events_of v.seen) h.untouched.idle
      (h.untouched.ended) h.run

  pub crew_serves : HaveWorked seen turn lanes posts v → HaveEnded v → Serves lanes (calls_of (events_of v.seen))
  crew_serves h ended = run_serves (core_of seen) (opening_of opening_in turn) v lanes h.shared h.wide h.whole h.allowed (waits h) (are_done seen turn lanes posts v h ended)

  pub crew_logs : HaveWorked seen turn lanes posts v → HaveEnded v → (lane : ℕ) (d : Post D J) → lane < length lanes →
      (slice_index_or posts lane d).log.items ≡ replies_to lane (opening_of opening_in turn).value.last (calls_of (events_of v.seen))
  crew_logs h ended lane d low =
      let p = lane_at seen turn lanes posts v h lane low in
      let run = run_of seen turn lanes posts v h ended lane p low in
      ap (λ (z : Post D J). z.log.items) (p.post_is d)
      ∙ told_all (core_of seen) (opening_of opening_in turn) (opening_of opening_in turn).value.last v lane p.pass p.post.log.items p.kept.events h.shared h.allowed h.whole p.has p.kept.number p.kept.made run.of run.logged

  pub crew_closes : HaveWorked seen turn lanes posts v → HaveEnded v → IsClosing (core_seen (core_of seen) (opening_of opening_in turn) v)
  crew_closes h ended = closes (core_of seen) (opening_of opening_in turn) v h.whole h.untouched.coherent h.run (have_left seen turn lanes posts v h ended)

  pub crew_home : HaveWorked seen turn lanes posts v → HaveEnded v → HoldsNone (core_seen (core_of seen) (opening_of opening_in turn) v) Closer →
      (die : ℕ) → ((core_seen (core_of seen) (opening_of opening_in turn) v).dies die).out ≡ None
  crew_home h ended none = all_home (core_of seen) (opening_of opening_in turn) v h.shared h.whole h.allowed h.untouched.home h.run (are_actors seen turn lanes posts v h ended) none
