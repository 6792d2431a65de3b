-- One pass more is joined.
use Rattle.std.proofs.Common.{◌≡◌, ℕ, zero, suc, ◌+◌, ◌-◌, ◌<◌, ◌≤◌, Bool, true, false, cond, List, [], ◌∷◌, ◌++◌, length, Some, refl, sym, ap, ◌∙◌, subst, arith, eq-eqb, ne_eqb, length-append, get_or-set_other, get_or-set_same}
use Rattle.std.specs.Prelude.{slice_index_or, nat_le, if◌then◌else◌}
use mathlib.Core.Logic.{dite}
use native.Mathlib.Decide.{ℕ_discrete}
use Rattle.std.proofs.lemmas.Bool.Decides.{nat_tests}
use Rattle.std.proofs.lemmas.List.{get_or_push, get_or_append_left, get_or_default}
use Rattle.std.specs.Prelude.{slice_set}
use Rattle.std.specs.declared.snapshot.Snapshot.{Snapshot}
use Rattle.turn_cell.specs.declared.book.Entry.{Entry}
use Rattle.turn_cell.specs.declared.pass.Pass.{Pass}
use Rattle.turn_cell.specs.declared.turn.Turn.{Turn}
use Rattle.turn_cell.specs.declared.view.Joined.{Joined}
use Rattle.turn_cell.specs.declared.view.View.{View}
use Rattle.turn_cell.specs.Passes.{view, IsPassOf, IsFree}
use Rattle.turn_cell.specs.Teams.{without, longer, joined_of, joined_to}
use Rattle.flash_die.specs.Dies.{DieView}
use Rattle.core_state.specs.declared.event.Event.{Event}
use Rattle.system_state.specs.declared.state.State.{State}
use Rattle.page_steps.specs.Books.{opening_in}
use Rattle.page_steps.specs.SystemOf.{System}
use Rattle.crews.specs.Crews.{numbers_from, HasPass, IsSamePost, IsServed, IsKept, IsGathering}
use Rattle.crews.specs.declared.post.Post.{Post}

-- ---- numbers

above : (n k m : ℕ) → n < k → without n (numbers_from k m) ≡ numbers_from k m
above n k zero l = refl
above n k (suc m) l =
    ap (λ (b : Bool). cond b (without n (numbers_from (k + 1) m)) (k ∷ without n (numbers_from (k + 1) m))) (ne_eqb k n (λ e. absurd (omega arith)))
    ∙ ap (λ z. k ∷ z) (above n (k + 1) m (omega arith))

first_out : (n m : ℕ) → without n (numbers_from n (suc m)) ≡ numbers_from (n + 1) m
first_out n m =
    ap (λ (b : Bool). cond b (without n (numbers_from (n + 1) m)) (n ∷ without n (numbers_from (n + 1) m))) (eq-eqb n n refl)
    ∙ above n (n + 1) m (omega arith)

next_out : (k len n : ℕ) → k < len → n ≡ k + 1 → without n (numbers_from (k + 1) (len - k)) ≡ numbers_from ((k + 1) + 1) (len - (k + 1))
next_out k len n l is =
    let e : len - k ≡ suc (len - (k + 1)) = omega arith in
    (λ i. without (is i) (numbers_from (k + 1) (e i))) ∙ first_out (k + 1) (len - (k + 1))

-- ---- what was seen

longer_left : (xs ys : List (Entry Event)) → length xs ≤ length (longer xs ys)
longer_left xs ys = by (nat_le (length ys) (length xs)) refl
  where
    by : (b : Bool) → nat_le (length ys) (length xs) ≡ b → length xs ≤ length (if b then xs else ys)
    by true e = omega arith
    by false e = grind (arith, nat_tests)

longer_right : (xs ys : List (Entry Event)) → length ys ≤ length (longer xs ys)
longer_right xs ys = by (nat_le (length ys) (length xs)) refl
  where
    by : (b : Bool) → nat_le (length ys) (length xs) ≡ b → length ys ≤ length (if b then xs else ys)
    by true e = grind (arith, nat_tests)
    by false e = omega arith

-- ---- one more

-- what holds of each so far and of the one that was put last
below_push : {A : Type 0} (P : ℕ → A → Type 0) (xs : List A) (x : A) (k j : ℕ) (d : A) → length xs ≡ k → ((i : ℕ) → i < k → P i (slice_index_or xs i d)) → P k x → j < k + 1 → P j (slice_index_or (xs ++ x ∷ []) j d)
below_push {A} P xs x k j d long all last l = dite (ℕ_discrete j k)
    (λ e. subst (λ (z : ℕ × A). P z.0 z.1) (λ i. (sym e i, sym (get_or_push xs x d j (long ∙ sym e)) i)) last)
    (λ ne. let below : j < k = omega arith in subst (λ (z : A). P j z) (sym (get_or_append_left xs (x ∷ []) d j (omega arith))) (all j below))

module _ {D J : Type 0} (seen : D → DieView) (turn : Turn (System D J) (Snapshot (State D J)) Event) where
  abbrev P : Type 0
  P = Pass (System D J) (Snapshot (State D J)) Event

  abbrev V : Type 0
  V = View (Snapshot (State D J)) Event

  pub has_pass : (k : ℕ) (post : Post D J) → IsServed seen turn k post → HasPass turn post
  has_pass k post s = let n = s.number in record { pass = s.pass; is = s.is; free = s.free; later = λ e. absurd (omega arith) }

  kept_of : (k : ℕ) (post : Post D J) → (s : IsServed seen turn k post) → IsKept seen turn k post (joined_of (view s.pass))
  kept_of k post s = record { number = s.number; events = s.events; made = s.made; worked = s.worked }

  pub gathered_on : (posts : List (Post D J)) (k : ℕ) (post : Post D J) (root root' : P) → IsGathering seen turn posts k root → k < length posts → ((d : Post D J) → slice_index_or posts k d ≡ post) → IsServed seen turn k post →
      (IsPassOf opening_in turn root' × IsFree root') → ((p : P) → post.pass ≡ Some p → view root' ≡ joined_to (view root) (view p)) → IsGathering seen turn posts (k + 1) root'
  gathered_on posts k post root root' g l at s free views =
      let e : view root' ≡ joined_to (view root) (view s.pass) = views s.pass s.is in
      let x : Joined Event = joined_of (view s.pass) in
      let joined : (view root').joined ≡ (view root).joined ++ x ∷ [] = ap (λ (v : V). v.joined) e in
      let long = length-append (view root).joined (x ∷ []) in
      let saw : (view root').seen ≡ longer (view root).seen (view s.pass).seen = ap (λ (v : V). v.seen) e in
      let count = g.count in
      record {
        free = (free.0, free.1, ap (λ (v : V). v.alone) e ∙ g.free.2);
        number = ap (λ (v : V). v.number) e ∙ g.number;
        own = ap (λ (v : V). v.own) e ∙ g.own;
        first = ap (λ (v : V). v.first) e ∙ g.first;
        split = ap (λ (v : V). v.split) e ∙ (ap (without (view s.pass).number) g.split ∙ next_out k (length posts) (view s.pass).number l s.number);
        count = ap length joined ∙ (long ∙ ap (λ n. n + 1) count);
        kept = λ j d y below.
            subst (λ (js : List (Joined Event)). IsKept seen turn j (slice_index_or posts j d) (slice_index_or js j y)) (sym joined)
            (below_push (λ i z. IsKept seen turn i (slice_index_or posts i d) z) (view root).joined x k j y count (λ i m. g.kept i d y m)
            (subst (λ (z : Post D J). IsKept seen turn k z x) (sym (at d)) (kept_of k post s)) below);
        within = λ j y below.
            subst (λ (z : List (Joined Event) × List (Entry Event)). length (slice_index_or z.0 j y).seen ≤ length z.1) (λ i. (sym joined i, sym saw i))
            (below_push (λ i (z : Joined Event). length z.seen ≤ length (longer (view root).seen (view s.pass).seen)) (view root).joined x k j y count
            (λ i m. let a = g.within i y m in let b = longer_left (view root).seen (view s.pass).seen in omega arith)
            (longer_right (view root).seen (view s.pass).seen) below);
      }

  abbrev pub IsUntouched : List (Post D J) → List (Post D J) → ℕ → Type 0
  IsUntouched olds posts k = (j : ℕ) (d : Post D J) → k ≤ j → j < length olds → slice_index_or posts j d ≡ slice_index_or olds j d

  abbrev pub AreSame : List (Post D J) → List (Post D J) → Type 0
  AreSame olds posts = (j : ℕ) (d : Post D J) → j < length olds → IsSamePost (slice_index_or olds j d) (slice_index_or posts j d)

  same_post_on : (a b c : Post D J) → IsSamePost a b → IsSamePost b c → IsSamePost a c
  same_post_on a b c p q = (q.0 ∙ p.0, q.1 ∙ p.1, q.2 ∙ p.2)

  pub untouched_on : (olds posts : List (Post D J)) (k : ℕ) (next : Post D J) → IsUntouched olds posts k → IsUntouched olds (slice_set posts k next) (k + 1)
  untouched_on olds posts k next all j d from l = get_or-set_other posts k j next d (λ e. absurd (omega arith)) ∙ all j d (omega arith) l

  pub same_on : (olds posts : List (Post D J)) (k : ℕ) (item next : Post D J) → k < length olds → length posts ≡ length olds → item ≡ slice_index_or posts k item → IsSamePost item next → AreSame olds posts → AreSame olds (slice_set posts k next)
  same_on olds posts k item next l long is same all j d m = dite (ℕ_discrete j k)
      (λ e. let within : k < length posts = omega arith in
      let here : slice_index_or posts j d ≡ item = (λ i. slice_index_or posts (e i) d) ∙ (get_or_default posts k d item within ∙ sym is) in
      let now : slice_index_or (slice_set posts k next) j d ≡ next = (λ i. slice_index_or (slice_set posts k next) (e i) d) ∙ get_or-set_same posts k next d within in
      subst (λ (z : Post D J). IsSamePost (slice_index_or olds j d) z) (sym now)
      (same_post_on (slice_index_or olds j d) item next (subst (λ (z : Post D J). IsSamePost (slice_index_or olds j d) z) here (all j d m)) same))
      (λ ne. subst (λ (z : Post D J). IsSamePost (slice_index_or olds j d) z) (sym (get_or-set_other posts k j next d ne)) (all j d m))

  pub item_at : (olds posts : List (Post D J)) (k : ℕ) (item : Post D J) → k < length olds → length posts ≡ length olds → item ≡ slice_index_or posts k item → IsUntouched olds posts k → (d : Post D J) → slice_index_or olds k d ≡ item
  item_at olds posts k item l long is all d = sym (all k d (omega arith) l) ∙ (get_or_default posts k d item (omega arith) ∙ sym is)

  pub gathered_all : (posts : List (Post D J)) (k : ℕ) (root : P) → k ≡ length posts → IsGathering seen turn posts k root → IsGathering seen turn posts (length posts) root
  gathered_all posts k root is g = subst (λ (n : ℕ). IsGathering seen turn posts n root) is g
