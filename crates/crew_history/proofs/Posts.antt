-- The joined pass of each post, and the post of each joined pass.
use Rattle.std.proofs.Common.{◌≡◌, ℕ, ◌<◌, List, length, sym, ap, ◌∙◌, subst, map, arith}
use Rattle.std.specs.Prelude.{◌^◌, slice_index_or}
use Rattle.std.specs.declared.snapshot.Snapshot.{Snapshot}
use Rattle.turn_cell.specs.declared.turn.Turn.{Turn}
use Rattle.turn_cell.specs.declared.view.Joined.{Joined}
use Rattle.turn_cell.specs.declared.view.View.{View}
use Rattle.turn_cell.specs.History.{entry, entries_of, Has}
use Rattle.turn_cell.specs.Passes.{opening_of}
use Rattle.plain_files.specs.declared.calls.Request.{Request}
use Rattle.plain_files.specs.History.{requests_of}
use Rattle.flash_die.specs.Dies.{DieView}
use Rattle.core_state.specs.declared.actor.Actor.{Actor}
use Rattle.core_state.specs.declared.actor.Actor.TheVariants.{Lane, Worker, Flusher, Closer}
use Rattle.core_state.specs.declared.event.Event.{Event}
use Rattle.system_state.specs.Cores.{core_of}
use Rattle.system_state.specs.declared.state.State.{State}
use Rattle.lane_history.specs.Lanes.{AreDone}
use Rattle.lane_history.specs.Closings.{ActorDone, AreActors, HaveLeft}
use Rattle.page_steps.specs.Books.{opening_in}
use Rattle.page_steps.specs.SystemOf.{System}
use Rattle.crews.specs.Crews.{IsPlaced, IsKept}
use Rattle.crews.specs.Lanes.{HasRun}
use Rattle.crews.specs.declared.post.Post.{Post}
use Rattle.crew_history.specs.Worked.{HaveWorked, HaveEnded}
use Rattle.crew_history.proofs.Places.{at_place, place_of}

-- the post of a lane's place is the lane's
lane_placed : (lanes : List (List Request)) (k : ℕ) (a : Actor) (requests : List Request) → k < length lanes → IsPlaced lanes k a requests → (a ≡ Lane k) × (requests ≡ requests_of lanes k)
lane_placed lanes k (Lane l) requests low p = (ap (λ (z : ℕ). Lane z) (sym p.0), p.2 ∙ ap (requests_of lanes) (sym p.0))
lane_placed lanes k (Worker w) requests low p = absurd (omega arith)
lane_placed lanes k (Flusher f) requests low p = absurd (omega arith)
lane_placed lanes k Closer requests low p = absurd p

module _ {D J : Type 0} (seen : D → DieView) (turn : Turn (System D J) (Snapshot (State D J)) Event) (lanes : List (List Request)) (posts : List (Post D J)) (v : View (Snapshot (State D J)) Event) where
  -- a post, and the pass of it that was joined
  pub record PostAt (k : ℕ) : Type 0 where
    pub post : Post D J
    pub post_is : (d : Post D J) → slice_index_or posts k d ≡ post
    pub pass : Joined Event
    pub pass_is : (x : Joined Event) → slice_index_or v.joined k x ≡ pass
    pub has : Has v.joined pass
    pub placed : IsPlaced lanes k post.actor post.requests.items
    pub kept : IsKept seen turn k post pass

  pub post_at : HaveWorked seen turn lanes posts v → (k : ℕ) → k < length posts → PostAt k
  post_at h k low =
      let p = at_place posts k low in
      let count = h.count in
      let x = at_place v.joined k (omega arith) in
      record {
        post = p.item;
        post_is = p.is;
        pass = x.item;
        pass_is = x.is;
        has = (k, x.stands);
        placed = subst (λ (z : Post D J). IsPlaced lanes k z.actor z.requests.items) (p.is p.item) (h.placed k p.item low);
        kept = subst (λ (z : Post D J × Joined Event). IsKept seen turn k z.0 z.1) (λ i. (p.is p.item i, x.is x.item i)) (h.kept k p.item x.item low);
      }

  pub lane_at : HaveWorked seen turn lanes posts v → (l : ℕ) → l < length lanes → PostAt l
  lane_at h l low = let many = h.many in post_at h l (omega arith)

  pub is_lane : (l : ℕ) (p : PostAt l) → l < length lanes → (p.post.actor ≡ Lane l) × (p.post.requests.items ≡ requests_of lanes l)
  is_lane l p low = lane_placed lanes l p.post.actor p.post.requests.items low p.placed

  -- it had seen fewer events than a turn counts
  few_at : HaveWorked seen turn lanes posts v → HaveEnded v → (k : ℕ) (p : PostAt k) → k < length posts → length p.pass.seen < 2 ^ 62
  few_at h ended k p low =
      let count = h.count in
      subst (λ (x : Joined Event). length x.seen < 2 ^ 62) (p.pass_is p.pass) (ended k p.pass (omega arith))

  -- the run of a lane
  pub run_of : HaveWorked seen turn lanes posts v → HaveEnded v → (l : ℕ) (p : PostAt l) → l < length lanes →
      HasRun (core_of seen) (opening_of opening_in turn).value.last (opening_of opening_in turn) p.pass.seen l (requests_of lanes l) p.post.log.items p.kept.events
  run_of h ended l p low =
      let many = h.many in
      let is = is_lane l p low in
      subst (λ (rs : List Request). HasRun (core_of seen) (opening_of opening_in turn).value.last (opening_of opening_in turn) p.pass.seen l rs p.post.log.items p.kept.events) is.1
      ((p.kept.worked.ended (few_at h ended l p (omega arith))).lane l is.0)

  -- ---- what lane_history asks

  pub are_done : HaveWorked seen turn lanes posts v → HaveEnded v → AreDone lanes v
  are_done h ended l low =
      let p = lane_at h l low in
      let run = run_of h ended l p low in
      (p.pass, p.has, record { number = p.kept.number; events = p.kept.events; made = p.kept.made; ended = run.asked })

  actor_done : HaveWorked seen turn lanes posts v → HaveEnded v → (k : ℕ) (p : PostAt k) → k < length posts → ActorDone (core_of seen) (opening_of opening_in turn) p.post.actor p.pass
  actor_done h ended k p low =
      let e = p.kept.worked.ended (few_at h ended k p low) in
      let number = p.kept.number in
      record {
        events = p.kept.events;
        made = p.kept.made ∙ ap (λ (n : ℕ). map (entry n) p.kept.events) (sym number);
        of = p.kept.worked.of;
        seen = ap (λ (n : ℕ). entries_of n p.pass.seen) number ∙ (e.settled ∙ sym p.kept.made);
        none = e.none;
      }

  pub are_actors : HaveWorked seen turn lanes posts v → HaveEnded v → AreActors (core_of seen) (opening_of opening_in turn) v
  are_actors h ended x has =
      let at = place_of v.joined x has in
      let count = h.count in
      let within = at.within in
      let low : at.place < length posts = omega arith in
      let p = post_at h at.place low in
      let same : p.pass ≡ x = sym (p.pass_is x) ∙ at.is in
      (p.post.actor, subst (ActorDone (core_of seen) (opening_of opening_in turn) p.post.actor) same (actor_done h ended at.place p low))

  pub have_left : HaveWorked seen turn lanes posts v → HaveEnded v → HaveLeft (core_of seen) (opening_of opening_in turn) v
  have_left h ended l within =
      let wide = h.wide in
      let low : l < length lanes = omega arith in
      let p = lane_at h l low in
      (p.pass, p.has, (run_of h ended l p low).gone)
