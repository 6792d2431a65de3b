-- New posts work, and their passes are joined to the first one.
use Rattle.std.proofs.Common.{◌≡◌, ℕ, ◌+◌, ◌-◌, ◌<◌, List, [], ◌++◌, map, length, sym, ap, ◌∙◌, subst, arith}
use Rattle.std.specs.Prelude.{slice_index_or}
use Rattle.std.specs.declared.snapshot.Snapshot.{Snapshot}
use Rattle.turn_cell.proofs.Plain.{un_some}
use Rattle.turn_cell.specs.declared.pass.Pass.{Pass}
use Rattle.turn_cell.specs.declared.turn.Turn.{Turn}
use Rattle.turn_cell.specs.declared.view.Joined.{Joined}
use Rattle.turn_cell.specs.declared.view.View.{View}
use Rattle.turn_cell.specs.History.{entry}
use Rattle.turn_cell.specs.Passes.{opening_of, view}
use Rattle.plain_files.specs.declared.calls.Request.{Request}
use Rattle.plain_files.specs.declared.calls.Numbered.{Numbered}
use Rattle.flash_die.specs.Dies.{DieView}
use Rattle.core_state.specs.declared.actor.Actor.{Actor}
use Rattle.core_state.specs.declared.actor.Actor.TheVariants.{Lane, Worker, Flusher, Closer}
use Rattle.core_state.specs.declared.event.Event.{Event}
use Rattle.system_state.specs.Cores.{core_of}
use Rattle.system_state.specs.declared.state.State.{State}
use Rattle.desk_turns.specs.Passing.{Acts}
use Rattle.page_steps.specs.Books.{opening_in}
use Rattle.page_steps.specs.Words.{IsSmall}
use Rattle.page_steps.specs.SystemOf.{System}
use Rattle.crews.specs.Crews.{Each, IsPlaced, IsSamePost, IsServed, IsKept, IsGathering, numbers_from}
use Rattle.crews.specs.Posts.{HasWorked, IsReady, IsDone}
use Rattle.crews.specs.Seats.{IsUntouched}
use Rattle.crews.specs.declared.post.Post.{Post}
use Rattle.lane_runs.specs.Seating.{IsNew, IsSharing}

placed_acts : (lanes : List (List Request)) (k count n : ℕ) (a : Actor) (requests : List Request) → count ≡ length lanes → n ≡ k + 1 → IsPlaced lanes k a requests → Acts count n a
placed_acts lanes k count n (Lane l) requests is number p = let e = p.0 in let f = p.1 in (omega arith, omega arith)
placed_acts lanes k count n (Worker w) requests is number p = omega arith
placed_acts lanes k count n (Flusher f) requests is number p = omega arith
placed_acts lanes k count n Closer requests is number p = absurd p

module _ {D J : Type 0} (seen : D → DieView) (turn : Turn (System D J) (Snapshot (State D J)) Event) where
  abbrev P : Type 0
  P = Pass (System D J) (Snapshot (State D J)) Event

  abbrev V : Type 0
  V = View (Snapshot (State D J)) Event

  pub ready_one : (lanes : List (List Request)) (k : ℕ) (post : Post D J) → IsUntouched (core_of seen (opening_of opening_in turn).value) → IsSmall (opening_of opening_in turn).value →
      (core_of seen (opening_of opening_in turn).value).shape.lanes ≡ length lanes → IsNew lanes turn k post → IsReady seen turn post
  ready_one lanes k post untouched small count n =
      let number = n.number in
      record {
        pass = n.pass;
        is = n.is;
        free = n.free;
        untouched = untouched;
        small = small;
        acts = placed_acts lanes k (core_of seen (opening_of opening_in turn).value).shape.lanes (view n.pass).number post.actor post.requests.items count number n.placed;
        later = omega arith;
        saw = n.saw;
        made = n.made;
        first = n.first;
        few = n.few;
        empty = n.empty;
        room = n.room;
      }

  pub served_one : (lanes : List (List Request)) (k : ℕ) (old new : Post D J) → IsNew lanes turn k old → IsDone seen turn old new → IsServed seen turn k new
  served_one lanes k old new n d =
      let same : d.before ≡ n.pass = un_some (sym d.was ∙ n.is) in
      let number : (view d.before).number ≡ k + 1 = ap (λ (p : P). (view p).number) same ∙ n.number in
      let bare : (view d.before).own ≡ [] = ap (λ (p : P). (view p).own) same ∙ n.made in
      let o = opening_of opening_in turn in
      record {
        pass = d.after;
        is = d.is;
        free = d.free;
        number = ap (λ (v : V). v.number) d.went.pass ∙ number;
        events = d.events;
        made = d.went.own ∙ (λ i. bare i ++ map (entry (number i)) d.events);
        worked = subst (λ (z : ℕ × Actor × List Request). HasWorked (core_of seen) o.value.last o z.0 (view d.after).seen z.1 z.2 new.log.items d.events) (λ i. (number i, sym d.actor i, (sym d.requests i).items)) d.worked;
      }

  pub served_all : (lanes : List (List Request)) (olds news : List (Post D J)) → length news ≡ length olds → Each (IsNew lanes turn) olds →
      ((k : ℕ) (d : Post D J) → k < length olds → IsDone seen turn (slice_index_or olds k d) (slice_index_or news k d)) → Each (IsServed seen turn) news
  served_all lanes olds news long all done k d l = let m : k < length olds = omega arith in served_one lanes k (slice_index_or olds k d) (slice_index_or news k d) (all k d m) (done k d m)

  pub gathering : (posts : List (Post D J)) (n : ℕ) (root : P) → length posts ≡ n → IsSharing turn n root → IsGathering seen turn posts 0 root
  gathering posts n root long s =
      let e : n ≡ length posts - 0 = omega arith in
      record {
        free = s.free;
        number = s.number;
        own = s.own;
        first = s.first;
        split = s.split ∙ ap (numbers_from 1) e;
        count = ap length s.joined;
        kept = λ j d x below. absurd (omega arith);
        within = λ j x below. absurd (omega arith);
      }

  same_kept : (k : ℕ) (old new : Post D J) (x : Joined Event) → IsSamePost old new → IsKept seen turn k old x → IsKept seen turn k new x
  same_kept k old new x same p =
      let o = opening_of opening_in turn in
      record {
        number = p.number;
        events = p.events;
        made = p.made;
        worked = subst (λ (z : Actor × List Request × List Numbered). HasWorked (core_of seen) o.value.last o (k + 1) x.seen z.0 z.1 z.2 p.events) (λ i. (sym same.0 i, (sym same.1 i).items, (sym same.2 i).items)) p.worked;
      }

  pub gathered_same : (olds news : List (Post D J)) (root : P) → length news ≡ length olds → ((k : ℕ) (d : Post D J) → k < length olds → IsSamePost (slice_index_or olds k d) (slice_index_or news k d)) →
      IsGathering seen turn olds (length olds) root → IsGathering seen turn news (length news) root
  gathered_same olds news root long same g =
      subst (λ (n : ℕ). IsGathering seen turn news n root) (sym long)
      (record {
        free = g.free;
        number = g.number;
        own = g.own;
        first = g.first;
        split = g.split ∙ ap (λ (n : ℕ). numbers_from (length olds + 1) (n - length olds)) (sym long);
        count = g.count;
        kept = λ j d x below. same_kept j (slice_index_or olds j d) (slice_index_or news j d) (slice_index_or (view root).joined j x) (same j d below) (g.kept j d x below);
        within = g.within;
      })
