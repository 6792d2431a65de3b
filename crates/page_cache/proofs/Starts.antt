-- A pool as it is made.
use Rattle.std.proofs.Common.{◌≡◌, ℕ, zero, suc, ◌+◌, ◌<◌, ◌≤◌, ◌^◌, List, [], ◌∷◌, ◌++◌, length, map, replicate, None, refl, sym, ap, ◌∙◌, subst, ⊎_elim, arith, length-append}
use Rattle.std.proofs.lemmas.List.{length-replicate, get_or-replicate}
use Rattle.std.proofs.lemmas.Option.{slice_get_past}
use Rattle.std.specs.Prelude.{◌≢◌, slice_get}
use Rattle.index_lists.specs.Words.{count}
use Rattle.index_lists.specs.Lists.{Lists, list_at, with_list}
use Rattle.index_lists.proofs.Counts.{same_or_not, count-nil, count-push_same, count-push_other}
use Rattle.index_lists.proofs.Several.{list_at-same, list_at-other, length-with_list}
use Rattle.page_cache.specs.Pool.{entry, IsFrames, FreeBelow}
use Rattle.page_cache.proofs.Pools.{Becomes, as_cached, same_cached}

pub free_init : (frames : ℕ) (links : Lists) → links ≡ record { nodes = frames; lists = [] ∷ [] ∷ [] } → FreeBelow frames 0 links
free_init frames links e = subst (FreeBelow frames 0) (sym e) (record { nodes = refl; two = omega arith; none_used = refl; all = refl; each = λ f l. absurd (omega arith); no_other = λ f l. count-nil f })

pub free_step : (frames n : ℕ) (links links2 : Lists) → FreeBelow frames n links → links2 ≡ with_list links 1 (list_at links 1 ++ n ∷ []) → FreeBelow frames (n + 1) links2
free_step frames n links links2 h e = subst (FreeBelow frames (n + 1)) (sym e) done
  where
    here : list_at (with_list links 1 (list_at links 1 ++ n ∷ [])) 1 ≡ list_at links 1 ++ n ∷ []
    here = let t = h.two in list_at-same links 1 (list_at links 1 ++ n ∷ []) (omega arith)

    done : FreeBelow frames (n + 1) (with_list links 1 (list_at links 1 ++ n ∷ []))
    done = record {
      nodes = h.nodes;
      two = length-with_list links 1 (list_at links 1 ++ n ∷ []) ∙ h.two;
      none_used = list_at-other links 1 0 (list_at links 1 ++ n ∷ []) (λ e. absurd (omega arith)) ∙ h.none_used;
      all = let a = h.all in ap length here ∙ omega (arith, length-append (list_at links 1) (n ∷ []));
      each = λ f l. ap (count f) here ∙ ⊎_elim (λ (d : f ≡ n). subst (λ (w : ℕ). count w (list_at links 1 ++ n ∷ []) ≡ 1) (sym d) (let z = h.no_other n (omega arith) in omega (arith, count-push_same n (list_at links 1)))) (λ (d : f ≢ n). let z = h.each f (omega arith) in omega (arith, count-push_other f n (list_at links 1) d)) (same_or_not f n);
      no_other = λ f l. ap (count f) here ∙ (let z = h.no_other f (omega arith) in let d : f ≢ n = omega arith in omega (arith, count-push_other f n (list_at links 1) d));
    }

pub free_all : (frames n : ℕ) (links : Lists) → FreeBelow frames n links → n ≡ frames → FreeBelow frames frames links
free_all frames n links h e = subst (λ (m : ℕ). FreeBelow frames m links) e h

map-replicate : {A B : Type 0} (g : A → B) (n : ℕ) (x : A) → map g (replicate n x) ≡ replicate n (g x)
map-replicate g zero x = refl
map-replicate {A} {B} g (suc n) x = ap (λ (ys : List B). g x ∷ ys) (map-replicate g n x)

pub new_done : (pages : List (List ℕ)) (owners places : List ℕ) (links : Lists) (frames blocks none : ℕ) → length pages ≡ frames → frames ≤ 2 ^ 19 → 2 ^ 19 ≤ none → owners ≡ replicate frames 0 → places ≡ replicate blocks none → FreeBelow frames frames links →
    Becomes pages owners places links 0 (record { frames = frames; copies = replicate blocks None; order = [] })
unfolding as_cached
new_done pages owners places links frames blocks none lp small big o p h =
    let np : length places ≡ blocks = ap length p ∙ length-replicate blocks none in
    let away : (b : ℕ) → b < length places → entry places b ≡ none = λ b l. ap (λ (t : List ℕ). entry t b) p ∙ get_or-replicate blocks b none 0 (omega arith) in
    let a = h.all in
    let free = list_at links 1 in
    record {
      pool = record {
        nodes = h.nodes ∙ sym lp;
        two = h.two;
        frames = subst (λ (t : List ℕ). IsFrames pages owners places t free 0) (sym h.none_used) (record {
          small = omega arith;
          owners_len = ap length o ∙ length-replicate frames 0 ∙ sym lp;
          used_is = refl;
          full = omega arith;
          inside = λ f l. let e = h.each f (omega arith) in omega (arith, count-nil f);
          outside = λ f l. let e = h.no_other f (omega arith) in omega (arith, count-nil f);
          owned = λ f l. absurd (omega (arith, count-nil f));
          placed = λ f l. absurd (omega (arith, count-nil f));
          used_place = λ b l m. absurd (omega (arith, away b l));
          own_place = λ b l m. absurd (omega (arith, away b l));
        });
      };
      value = same_cached _ _ _ _ _ _ lp (ap (map (slice_get pages)) p ∙ map-replicate (slice_get pages) blocks none ∙ ap (replicate blocks) (slice_get_past pages none (omega arith))) (ap (map (entry owners)) h.none_used);
    }
