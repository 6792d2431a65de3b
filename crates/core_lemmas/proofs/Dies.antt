-- What a die that goes out or comes home keeps.
use Rattle.std.proofs.Common.{◌≡◌, ℕ, Option, Some, None, sym, ap, ◌∙◌, subst, inl, inr, ⊎_elim}
use Rattle.std.specs.Prelude.{◌≢◌, ◌⊎◌}
use Rattle.index_lists.specs.Words.{put}
use Rattle.index_lists.proofs.Counts.{same_or_not}
use Rattle.index_lists.proofs.Puts.{put-same, put-other}
use Rattle.core_state.specs.State.{Shape, Block, Places, LaneState, Flight, Out, DieState}
use Rattle.core_state.specs.Dies.{IsErrand, Dies}
use Rattle.core_lemmas.proofs.Words.{nothing, same_some}

-- what is out, after a change of one die: the die's own, or another's as it was
pub is_out : (dies : ℕ → DieState) (d : ℕ) (x : DieState) (e : ℕ) (out : Out) → (put dies d x e).out ≡ Some out → ((e ≡ d) × (x.out ≡ Some out)) ⊎ ((e ≢ d) × ((dies e).out ≡ Some out))
is_out dies d x e out o = ⊎_elim
    (λ (same : e ≡ d). inl (same, ap (λ (s : DieState). s.out) (sym (ap (put dies d x) same ∙ put-same dies d x)) ∙ o))
    (λ (n : e ≢ d). inr (n, ap (λ (s : DieState). s.out) (sym (put-other dies d x e n)) ∙ o)) (same_or_not e d)

-- it comes home
pub dies_home : (shape : Shape) (places : Places) (blocks : ℕ → Block) (lanes : ℕ → LaneState) (calls : ℕ → Option Flight) (dies : ℕ → DieState) (d : ℕ) (x : DieState) → x.out ≡ None →
    Dies shape places blocks lanes calls dies → Dies shape places blocks lanes calls (put dies d x)
dies_home shape places blocks lanes calls dies d x none h = record {
  right = λ e out o. ⊎_elim (λ u. absurd (nothing x.out out none u.1)) (λ u. h.right e out u.1) (is_out dies d x e out o);
  one_each = λ e f a b o p same. ⊎_elim (λ u. absurd (nothing x.out a none u.1)) (λ u. ⊎_elim (λ v. absurd (nothing x.out b none v.1)) (λ v. h.one_each e f a b u.1 v.1 same) (is_out dies d x f b p)) (is_out dies d x e a o);
  in_turn = h.in_turn;
}

-- it goes out to an actor that holds none
pub dies_out : (shape : Shape) (places : Places) (blocks : ℕ → Block) (lanes : ℕ → LaneState) (calls : ℕ → Option Flight) (dies : ℕ → DieState) (d : ℕ) (x : DieState) (out : Out) → x.out ≡ Some out →
    ((e : ℕ) (o : Out) → (dies e).out ≡ Some o → o.holder ≢ out.holder) → IsErrand shape places blocks lanes calls d out.holder out.errand →
    Dies shape places blocks lanes calls dies → Dies shape places blocks lanes calls (put dies d x)
dies_out shape places blocks lanes calls dies d x out is free new h = record {
  right = λ e o p. ⊎_elim
      (λ u. subst (λ (k : ℕ). IsErrand shape places blocks lanes calls k o.holder o.errand) (sym u.0) (subst (λ (k : Out). IsErrand shape places blocks lanes calls d k.holder k.errand) (same_some x.out out o is u.1) new))
      (λ u. h.right e o u.1) (is_out dies d x e o p);
  one_each = λ e f a b o p same. ⊎_elim
      (λ u. ⊎_elim (λ v. u.0 ∙ sym v.0) (λ v. absurd (free f b v.1 (sym same ∙ ap (λ (k : Out). k.holder) (same_some x.out a out u.1 is)))) (is_out dies d x f b p))
      (λ u. ⊎_elim (λ v. absurd (free e a u.1 (same ∙ ap (λ (k : Out). k.holder) (same_some x.out b out v.1 is)))) (λ v. h.one_each e f a b u.1 v.1 same) (is_out dies d x f b p))
      (is_out dies d x e a o);
  in_turn = h.in_turn;
}

-- after it came home from its holder, the holder holds none
pub home_free : (shape : Shape) (places : Places) (blocks : ℕ → Block) (lanes : ℕ → LaneState) (calls : ℕ → Option Flight) (dies : ℕ → DieState) (d : ℕ) (x : DieState) (out : Out) → (dies d).out ≡ Some out → x.out ≡ None →
    Dies shape places blocks lanes calls dies → (e : ℕ) (o : Out) → (put dies d x e).out ≡ Some o → o.holder ≢ out.holder
home_free shape places blocks lanes calls dies d x out is none h e o p same = ⊎_elim (λ u. nothing x.out o none u.1) (λ u. u.0 (h.one_each e d o out u.1 is same)) (is_out dies d x e o p)
