-- Marks of lanes.
use Rattle.std.proofs.Common.{◌≡◌, ℕ, ◌<◌, Bool, List, length, set, Option, Some, None, refl, sym, ap, ◌∙◌, arith, ⊎_elim}
use Rattle.std.specs.Prelude.{◌≢◌, ◌||◌, slice_get}
use Rattle.index_lists.specs.Words.{put}
use Rattle.index_lists.proofs.Counts.{same_or_not}
use Rattle.core_state.specs.declared.actor.Actor.{Actor}
use Rattle.core_state.specs.State.{LaneState, Flight, DieState}
use Rattle.core_state.specs.DieEvents.{marked_if, marked_by}
use Rattle.system_state.specs.Cores.{lane_of, lanes_of}
use Rattle.system_state.specs.Kept.{AreLanes, AreReported}
use Rattle.system_state.specs.declared.lanes.Lane.{Lane}
use Rattle.system_state.specs.declared.state.Sizes.{Sizes}
use Rattle.system_state.proofs.Flash.{lanes_put, slice_get-set_same, slice_get-set_other}
use Rattle.system_state.proofs.Keeping.{reported_dies, reported_lanes, marked_less}

pub marked_row : (lanes : List Lane) (l : ℕ) (old : Lane) (failed : Bool) → slice_get lanes l ≡ Some old → l < length lanes →
    lanes_of (set lanes l (record old { mark = old.mark || failed })) ≡ put (lanes_of lanes) l (marked_if failed (lanes_of lanes l))
marked_row lanes l old failed is m =
    lanes_put lanes l (record old { mark = old.mark || failed }) m ∙ ap (λ (o : Option Lane). put (lanes_of lanes) l (marked_if failed (lane_of o))) (sym is)

abbrev row_or : Option Lane → ℕ
row_or None = 0
row_or (Some r) = r.ended

-- no lane has ended more calls than it had
abbrev pub EndSame : List Lane → List Lane → Type 0
EndSame lanes new = (l : ℕ) (row : Lane) → slice_get new l ≡ Some row → (old : Lane) × (slice_get lanes l ≡ Some old) × (row.ended ≡ old.ended)

pub ended_row : (lanes : List Lane) (l : ℕ) (old new : Lane) → slice_get lanes l ≡ Some old → l < length lanes → new.ended ≡ old.ended → EndSame lanes (set lanes l new)
ended_row lanes l old new is m same j row e = ⊎_elim here there (same_or_not j l)
  where
    here : j ≡ l → (was : Lane) × (slice_get lanes j ≡ Some was) × (row.ended ≡ was.ended)
    here f =
        let n : Some new ≡ Some row = sym (slice_get-set_same lanes l new m) ∙ (ap (slice_get (set lanes l new)) (sym f) ∙ e) in
        let r : new.ended ≡ row.ended = ap row_or n in
        (old, ap (slice_get lanes) f ∙ is, sym r ∙ same)

    there : j ≢ l → (was : Lane) × (slice_get lanes j ≡ Some was) × (row.ended ≡ was.ended)
    there n = (row, sym (slice_get-set_other lanes l new j n) ∙ e, refl)

pub lanes_marked : (z : Sizes) (lanes new : List Lane) (last : ℕ) → length new ≡ length lanes → EndSame lanes new → AreLanes z lanes last → AreLanes z new last
lanes_marked z lanes new last count ended k = record {
  count = count ∙ k.count;
  ended = λ l row is. let old = ended l row is in let a = k.ended l old.0 old.1 in let b = old.2 in omega arith;
}

-- a die came home, whose failure marks the acting lane
pub reported_marked : (actor : Actor) (failed : Bool) (lanes new : ℕ → LaneState) (flights : ℕ → Option Flight) (dies : ℕ → DieState) (d : ℕ) (x : DieState) → new ≡ marked_by actor failed lanes → x.out ≡ None →
    AreReported lanes flights dies → AreReported new flights (put dies d x)
reported_marked actor failed lanes new flights dies d x is none k =
    reported_lanes lanes new flights (put dies d x) (λ l call e m. marked_less actor failed lanes l (sym (ap (λ (f : ℕ → LaneState). (f l).mark) is) ∙ m))
    (reported_dies lanes flights dies d x (λ lane call e r i holder o. let n = none in absurd (cc)) k)
