-- A rebuild, page by page.
use Rattle.std.proofs.Common.{◌≡◌, ◌≢◌, ℕ, suc, ◌+◌, ◌-◌, ◌<◌, ◌≤◌, Bool, true, false, List, [], ◌∷◌, length, get_or, set, Option, Some, None, refl, ap, sym, subst, ◌∙◌, ⊎_elim, inl, inr, arith}
use Rattle.std.specs.Prelude.{◌⊎◌}
use Rattle.std.proofs.lemmas.List.{get_or-set_same, get_or-set_other}
use Rattle.std.proofs.lemmas.List.Sums.{sum_by-cons}
use Rattle.std.proofs.lemmas.Bool.{cases_lt}
use Rattle.flash_die.specs.Dies.{DieView}
use Rattle.mirror_die.specs.Freshness.{is_on_first, is_on_second, alone, stale_of}
use Rattle.mirror_die.specs.Mirror.{MirrorView, IsMirror, seen_of}
use Rattle.mirror_die.specs.Rebuild.{Restores, Rebuilds, ended, stopped, went_on, fresh_at, IsRestored, LosesByFaults}
use Rattle.mirror_die.specs.declared.mirror.RebuildErr.{RebuildErr}
use Rattle.mirror_die.specs.declared.freshness.Fresh.{Fresh}
use Rattle.mirror_die.specs.declared.freshness.Fresh.TheVariants.{OnBoth}
use Rattle.mirror_die.proofs.Steps.{one_page}

-- the pages below this one are fresh on both copies, the others are marked as they were, and what is left to do is the rest of the whole
pub record IsRebuilding (initial : MirrorView) (page : ℕ) (before : List ℕ) (now : MirrorView) (buffer : List ℕ) : Type 0 where
  pub same : seen_of now ≡ seen_of initial
  pub done : (at : ℕ) → at < page → fresh_at now at ≡ OnBoth
  pub rest : (at : ℕ) → page ≤ at → fresh_at now at ≡ fresh_at initial at
  pub first_later : initial.first.faults ≤ now.first.faults
  pub second_later : initial.second.faults ≤ now.second.faults
  pub steps : (failed : Option RebuildErr) (after : List ℕ) (new : MirrorView) → Rebuilds (initial.first.size - page) page now failed buffer after new → Rebuilds initial.first.size 0 initial failed before after new

pub rebuilding_none : (mirror : MirrorView) (buffer : List ℕ) → IsRebuilding mirror 0 buffer mirror buffer
rebuilding_none mirror buffer = record {
  same = refl;
  done = λ at below. absurd (omega arith);
  rest = λ at above. refl;
  first_later = omega arith;
  second_later = omega arith;
  steps = λ failed after new rest. subst (λ (n : ℕ). Rebuilds n 0 mirror failed buffer after new) (omega arith) rest;
}

-- the marks after one more page
marks_more : (fresh now : List Fresh) (page at : ℕ) → page < length fresh → now ≡ set fresh page OnBoth → ((at ≡ page) × (get_or now at OnBoth ≡ OnBoth)) ⊎ ((at ≢ page) × (get_or now at OnBoth ≡ get_or fresh at OnBoth))
marks_more fresh now page at within is = ⊎_elim
    (λ (here : at ≡ page). inl (here, ap (λ (l : List Fresh). get_or l at OnBoth) is ∙ ap (λ (n : ℕ). get_or (set fresh page OnBoth) n OnBoth) here ∙ get_or-set_same fresh page OnBoth OnBoth within))
    (λ (apart : at ≢ page). inr (apart, ap (λ (l : List Fresh). get_or l at OnBoth) is ∙ get_or-set_other fresh page at OnBoth OnBoth apart))
    (one_page at page)

pub rebuilding_more : (initial : MirrorView) (page : ℕ) (before : List ℕ) (now : MirrorView) (buffer : List ℕ) (next : MirrorView) (left : List ℕ) → IsRebuilding initial page before now buffer → IsMirror now → page < initial.first.size → Restores (fresh_at now page) now page None buffer left next → IsRestored now page None next → IsRebuilding initial (page + 1) before next left
rebuilding_more initial page before now buffer next left is mirror within restores restored =
    let marks : next.fresh ≡ set now.fresh page OnBoth = restored.done refl in
    let size : now.first.size ≡ initial.first.size = ap (λ (d : DieView). d.size) is.same in
    let inside : page < length now.fresh = omega (arith, mirror.marks) in
    record {
      same = restored.same ∙ is.same;
      done = λ at below. ⊎_elim (λ here. here.1) (λ apart. apart.1 ∙ is.done at (grind (arith, apart.0))) (marks_more now.fresh next.fresh page at inside marks);
      rest = λ at above. ⊎_elim (λ here. absurd (omega (arith, here.0))) (λ apart. apart.1 ∙ is.rest at (omega arith)) (marks_more now.fresh next.fresh page at inside marks);
      first_later = omega (arith, is.first_later, restored.first_later);
      second_later = omega (arith, is.second_later, restored.second_later);
      steps = λ failed after new rest.
          let one : Rebuilds (initial.first.size - (page + 1)) (suc page) next failed left after new = subst (λ (n : ℕ). Rebuilds (initial.first.size - (page + 1)) n next failed left after new) (omega arith) rest in
          let all : Rebuilds (suc (initial.first.size - (page + 1))) page now failed buffer after new = went_on restores one in
          is.steps failed after new (subst (λ (n : ℕ). Rebuilds n page now failed buffer after new) (omega arith) all);
    }

-- the rebuild has gone to its end
pub rebuilt : (initial : MirrorView) (page : ℕ) (before : List ℕ) (now : MirrorView) (buffer : List ℕ) → IsRebuilding initial page before now buffer → initial.first.size ≤ page → Rebuilds initial.first.size 0 initial None before buffer now
rebuilt initial page before now buffer is all = is.steps None buffer now (subst (λ (n : ℕ). Rebuilds n page now None buffer buffer now) (omega arith) ended)

-- or has stopped
pub rebuild_stopped : (initial : MirrorView) (page : ℕ) (before : List ℕ) (now : MirrorView) (buffer : List ℕ) (copy : RebuildErr) (after : List ℕ) (new : MirrorView) → IsRebuilding initial page before now buffer → page < initial.first.size → Restores (fresh_at now page) now page (Some copy) buffer after new → Rebuilds initial.first.size 0 initial (Some copy) before after new
rebuild_stopped initial page before now buffer copy after new is within restores =
    let one : Rebuilds (suc (initial.first.size - (page + 1))) page now (Some copy) buffer after new = stopped restores in
    is.steps (Some copy) after new (subst (λ (n : ℕ). Rebuilds n page now (Some copy) buffer after new) (omega arith) one)

-- no page is stale where each is fresh on both copies
pub stale_of-none : (fresh : List Fresh) → ((at : ℕ) → at < length fresh → get_or fresh at OnBoth ≡ OnBoth) → stale_of fresh ≡ 0
stale_of-none [] all = refl
stale_of-none (f ∷ fresh) all =
    omega (arith, sum_by-cons alone f fresh, ap alone (all 0 (omega arith)), stale_of-none fresh (λ at below. all (suc at) (omega arith)))

-- a page is marked as it was, or on both copies
mark_kept : (initial : MirrorView) (page : ℕ) (before : List ℕ) (now : MirrorView) (buffer : List ℕ) (at : ℕ) → IsRebuilding initial page before now buffer → (fresh_at now at ≡ OnBoth) ⊎ (fresh_at now at ≡ fresh_at initial at)
mark_kept initial page before now buffer at is = ⊎_elim (λ (below : at < page). inl (is.done at below)) (λ (above : page ≤ at). inr (is.rest at above)) (cases_lt at page)

lost_none : (on : Fresh → Bool) (was now : Fresh) → on OnBoth ≡ true → on was ≡ true → on now ≡ false → (now ≡ OnBoth) ⊎ (now ≡ was) → ⊥
lost_none on was now both old lost kept = ⊎_elim (λ (e : now ≡ OnBoth). cc (ap on e)) (λ (e : now ≡ was). cc (ap on e)) kept

-- no page loses a copy in a rebuild, to its end or up to a failure
pub rebuilding_loses : (initial : MirrorView) (page : ℕ) (before : List ℕ) (now : MirrorView) (buffer : List ℕ) (new : MirrorView) → IsRebuilding initial page before now buffer → new.fresh ≡ now.fresh → LosesByFaults initial new
rebuilding_loses initial page before now buffer new is fresh = record {
  first = λ at was lost. absurd (lost_none is_on_first (fresh_at initial at) (fresh_at now at) refl was (ap (λ (l : List Fresh). is_on_first (get_or l at OnBoth)) (sym fresh) ∙ lost) (mark_kept initial page before now buffer at is));
  second = λ at was lost. absurd (lost_none is_on_second (fresh_at initial at) (fresh_at now at) refl was (ap (λ (l : List Fresh). is_on_second (get_or l at OnBoth)) (sym fresh) ∙ lost) (mark_kept initial page before now buffer at is));
}
