-- One pass more is split from the first one, for a post.
use Rattle.std.proofs.Common.{◌≡◌, ℕ, zero, suc, ◌+◌, ◌^◌, ◌<◌, ◌≤◌, List, [], ◌∷◌, ◌++◌, length, Some, refl, sym, ap, ◌∙◌, subst, arith, length-append, get_or-set_other}
use Rattle.std.specs.Prelude.{slice_index_or, slice_set, map, vec_capacity}
use mathlib.Core.Logic.{dite}
use native.Mathlib.Decide.{ℕ_discrete}
use Rattle.std.proofs.lemmas.List.{get_or_push, get_or_append_left, get_or_default}
use Rattle.std.specs.declared.snapshot.Snapshot.{Snapshot}
use Rattle.turn_cell.specs.declared.pass.Pass.{Pass}
use Rattle.turn_cell.specs.declared.turn.Turn.{Turn}
use Rattle.turn_cell.specs.declared.view.View.{View}
use Rattle.turn_cell.specs.Passes.{view, IsPassOf, IsFree}
use Rattle.turn_cell.specs.Teams.{left_of, right_of}
use Rattle.plain_files.specs.History.{requests_of}
use Rattle.plain_files.specs.declared.calls.Request.{Request}
use Rattle.core_state.specs.declared.actor.Actor.TheVariants.{Lane}
use Rattle.core_state.specs.declared.event.Event.{Event}
use Rattle.system_state.specs.declared.state.State.{State}
use Rattle.page_steps.specs.Books.{opening_in}
use Rattle.page_steps.specs.SystemOf.{System}
use Rattle.crews.specs.Crews.{Each, IsPlaced, numbers_from}
use Rattle.crews.specs.declared.post.Post.{Post}
use Rattle.lane_runs.specs.Seating.{IsNew, IsSharing}

numbers_more : (k n : ℕ) → numbers_from k n ++ (k + n) ∷ [] ≡ numbers_from k (suc n)
numbers_more k zero = let e : k + 0 ≡ k = omega arith in ap (λ (z : ℕ). z ∷ []) e
numbers_more k (suc n) =
    let e : k + suc n ≡ (k + 1) + n = omega arith in
    ap (λ z. k ∷ z) (ap (λ (z : ℕ). numbers_from (k + 1) n ++ z ∷ []) e ∙ numbers_more (k + 1) n)

next_number : (n : ℕ) → numbers_from 1 n ++ (n + 1) ∷ [] ≡ numbers_from 1 (n + 1)
next_number n =
    let e : n + 1 ≡ 1 + n = omega arith in
    let f : suc n ≡ n + 1 = omega arith in
    ap (λ (z : ℕ). numbers_from 1 n ++ z ∷ []) e ∙ (numbers_more 1 n ∙ ap (numbers_from 1) f)

-- the requests of a lane, of lists that are moved out one after the other
requests_at : {A : Type 0} (f : A → List Request) (xs : List A) (k : ℕ) (d : A) → k < length xs → requests_of (map f xs) k ≡ f (slice_index_or xs k d)
requests_at f [] k d l = absurd (omega arith)
requests_at f (x ∷ xs) zero d l = refl
requests_at f (x ∷ xs) (suc k) d l = requests_at f xs k d (omega arith)

pub mapped_long : {A : Type 0} (f : A → List Request) (xs : List A) → length (map f xs) ≡ length xs
mapped_long f [] = refl
mapped_long f (x ∷ xs) = let h = mapped_long f xs in omega arith

pub placed_lane : {A : Type 0} (f : A → List Request) (olds : List A) (k lane n : ℕ) (item moved : A) → k < length olds → slice_index_or olds k item ≡ item → moved ≡ item → n ≡ k → lane ≡ k → IsPlaced (map f olds) n (Lane lane) (f moved)
placed_lane f olds k lane n item moved low first is here same =
    let long = mapped_long f olds in
    (here ∙ sym same, omega arith, ap f (is ∙ sym first) ∙ sym (ap (requests_of (map f olds)) same ∙ requests_at f olds k item low))

-- from place k on they are as they were
abbrev pub IsUntouched : {A : Type 0} → List A → List A → ℕ → Type 0
IsUntouched {A} olds xs k = (j : ℕ) (d : A) → k ≤ j → j < length olds → slice_index_or xs j d ≡ slice_index_or olds j d

pub untouched_on : {A : Type 0} (olds xs : List A) (k : ℕ) (next : A) → IsUntouched olds xs k → IsUntouched olds (slice_set xs k next) (k + 1)
untouched_on olds xs k next all j d from l = get_or-set_other xs k j next d (λ e. absurd (omega arith)) ∙ all j d (omega arith) l

-- the one at place k is as it was at first
pub at_first : {A : Type 0} (olds xs : List A) (k : ℕ) (it : A) → k < length olds → k < length xs → IsUntouched olds xs k → (d : A) → slice_index_or olds k d ≡ slice_index_or xs k it
at_first olds xs k it l m all d = sym (all k d (omega arith) l) ∙ get_or_default xs k d it m

module _ {D J : Type 0} (turn : Turn (System D J) (Snapshot (State D J)) Event) where
  abbrev P : Type 0
  P = Pass (System D J) (Snapshot (State D J)) Event

  abbrev V : Type 0
  V = View (Snapshot (State D J)) Event

  pub shared_on : (n m : ℕ) (root root' : P) → m ≡ n + 1 → IsSharing turn n root → IsPassOf opening_in turn root' → IsFree root' → view root' ≡ left_of (view root) → IsSharing turn m root'
  shared_on n m root root' is s t f e =
      subst (λ (k : ℕ). IsSharing turn k root') (sym is)
      (record {
        free = (t, f, ap (λ (v : V). v.alone) e ∙ s.free.2);
        number = ap (λ (v : V). v.number) e ∙ s.number;
        saw = ap (λ (v : V). v.seen) e ∙ s.saw;
        own = ap (λ (v : V). v.own) e ∙ s.own;
        first = ap (λ (v : V). v.first) e ∙ s.first;
        joined = ap (λ (v : V). v.joined) e ∙ s.joined;
        passes = ap (λ (v : V). v.passes) e ∙ ap (λ k. k + 1) s.passes;
        split = ap (λ (v : V). v.split) e ∙ ((λ i. s.split i ++ s.passes i ∷ []) ∙ next_number n);
      })

  each_push : (Q : ℕ → Post D J → Type 0) (posts : List (Post D J)) (post : Post D J) → Each Q posts → Q (length posts) post → Each Q (posts ++ post ∷ [])
  each_push Q posts post all is k d l =
      let long = length-append posts (post ∷ []) in dite (ℕ_discrete k (length posts))
      (λ e. subst (λ (z : ℕ × Post D J). Q z.0 z.1) (λ i. (sym e i, sym (get_or_push posts post d k (sym e)) i)) is)
      (λ ne. let below : k < length posts = omega arith in subst (λ (z : Post D J). Q k z) (sym (get_or_append_left posts (post ∷ []) d k below)) (all k d below))

  pub seated : (lanes : List (List Request)) (posts posts' : List (Post D J)) (post : Post D J) (root pass : P) → posts' ≡ posts ++ post ∷ [] → IsSharing turn (length posts) root → IsPassOf opening_in turn pass → IsFree pass →
      view pass ≡ right_of (view root) → post.pass ≡ Some pass → IsPlaced lanes (length posts) post.actor post.requests.items → length post.requests.items < 2 ^ 32 → post.log.items ≡ [] →
      length post.requests.items ≤ vec_capacity post.log → Each (IsNew lanes turn) posts → Each (IsNew lanes turn) posts'
  seated lanes posts posts' post root pass is s t f e has placed few empty room all =
      subst (λ (ps : List (Post D J)). Each (IsNew lanes turn) ps) (sym is)
      (each_push (IsNew lanes turn) posts post all
      (record {
        placed = placed;
        pass = pass;
        is = has;
        free = (t, f, ap (λ (v : V). v.alone) e ∙ s.free.2);
        number = ap (λ (v : V). v.number) e ∙ s.passes;
        saw = ap (λ (v : V). v.seen) e ∙ s.saw;
        made = ap (λ (v : V). v.own) e;
        first = ap (λ (v : V). v.first) e ∙ s.first;
        few = few;
        empty = empty;
        room = room;
      }))
