-- Dies of each kind that the pages of an image were dealt to, with the plans of a script's lines.
use Rattle.std.proofs.Common.{◌≡◌, ℕ, zero, suc, ◌+◌, ◌<◌, List, [], ◌∷◌, length, map, refl, sym, ap, ◌∙◌, subst, arith}
use Rattle.std.specs.Prelude.{Bool, true, false}
use Rattle.std.specs.List.{range_with_len}
use Rattle.std.proofs.lemmas.List.FromFn.{length-map-range_with_len}
use Rattle.flash_die.specs.declared.plan.Plan.{Plan}
use Rattle.flash_die.specs.Dies.{DieView}
use Rattle.flash_die.specs.Failures.{told_die}
use Rattle.mirror_die.specs.Mirror.{MirrorView, seen_of}
use Rattle.drive_array.specs.Reads as array
use Rattle.drive_array.specs.Shares.{start_plan, loaded_die, dies_of, loaded_of}
use Rattle.drive_array.specs.Mirrors.{mirror_of, beside}
use Rattle.drive_array.specs.Cut.{cuts}
use Rattle.drive_array.proofs.Cutting.{length-cuts}
use Rattle.script_words.specs.declared.script.FaultLine.{FaultLine}
use Rattle.command_words.specs.declared.options.DieKind.{DieKind}
use Rattle.command_words.specs.declared.options.DieKind.TheVariants.{Mem, Ftl, Mirror}
use Rattle.fault_lines.specs.Lines.{plan_for, plans}
use Rattle.core_state.specs.State.{Page}
use Rattle.core_plans.specs.Lines.{IsDieOf}
use Rattle.system_state.specs.Slots.{die_at}
use Rattle.system_state.specs.declared.dies.Slot.{Slot}
use Rattle.system_state.specs.declared.state.State.{State}
use Rattle.system_start.specs.Started.{at_home}
use Rattle.mounted_systems.specs.Dealt.{HasDies}
use Rattle.mounted_systems.proofs.Dealt.{seen_at}
use Rattle.drive_runs.specs.Making.{AreMade}

module _ (P : ℕ → DieView → Type 0) (f : ℕ → Plan) where
  pub memory_made : ((d : ℕ) (pages : List Page) → P d (told_die pages (start_plan (f d)))) → (lists : List (List Page)) (a n d : ℕ) → length lists ≡ n → d < n →
      P (a + d) (array.die_at (dies_of lists (map f (range_with_len a n))) d)
  memory_made each [] a n d e l = absurd (omega arith)
  memory_made each (x ∷ xs) a zero d e l = absurd (omega arith)
  memory_made each (x ∷ xs) a (suc n) zero e l = let k : a ≡ a + 0 = omega arith in subst (λ (i : ℕ). P i (told_die x (start_plan (f a)))) k (each a x)
  memory_made each (x ∷ xs) a (suc n) (suc d) e l =
      let k : a + 1 + d ≡ a + suc d = omega arith in
      subst (λ (i : ℕ). P i (array.die_at (dies_of xs (map f (range_with_len (a + 1) n))) d)) k (memory_made each xs (a + 1) n d (omega arith) (omega arith))

  pub flash_made : ((d : ℕ) (pages : List Page) → P d (loaded_die pages (f d))) → (lists : List (List Page)) (a n d : ℕ) → length lists ≡ n → d < n →
      P (a + d) (array.die_at (loaded_of lists (map f (range_with_len a n))) d)
  flash_made each [] a n d e l = absurd (omega arith)
  flash_made each (x ∷ xs) a zero d e l = absurd (omega arith)
  flash_made each (x ∷ xs) a (suc n) zero e l = let k : a ≡ a + 0 = omega arith in subst (λ (i : ℕ). P i (loaded_die x (f a))) k (each a x)
  flash_made each (x ∷ xs) a (suc n) (suc d) e l =
      let k : a + 1 + d ≡ a + suc d = omega arith in
      subst (λ (i : ℕ). P i (array.die_at (loaded_of xs (map f (range_with_len (a + 1) n))) d)) k (flash_made each xs (a + 1) n d (omega arith) (omega arith))

  module _ (g : ℕ → Plan) where
    abbrev mirror_with : List Page → Plan → Plan → MirrorView
    mirror_with pages first second = mirror_of (told_die pages (start_plan first)) (told_die pages (start_plan second))

    abbrev mirrors : List (List Page) → ℕ → ℕ → List MirrorView
    mirrors lists a n = beside mirror_of (dies_of lists (map f (range_with_len a n))) (dies_of lists (map g (range_with_len a n)))

    pub mirrors_made : ((d : ℕ) (pages : List Page) → P d (seen_of (mirror_with pages (f d) (g d)))) → (lists : List (List Page)) (a n d : ℕ) → length lists ≡ n → d < n →
        P (a + d) (array.die_at (map seen_of (mirrors lists a n)) d)
    mirrors_made each [] a n d e l = absurd (omega arith)
    mirrors_made each (x ∷ xs) a zero d e l = absurd (omega arith)
    mirrors_made each (x ∷ xs) a (suc n) zero e l = let k : a ≡ a + 0 = omega arith in subst (λ (i : ℕ). P i (seen_of (mirror_with x (f a) (g a)))) k (each a x)
    mirrors_made each (x ∷ xs) a (suc n) (suc d) e l =
        let k : a + 1 + d ≡ a + suc d = omega arith in
        subst (λ (i : ℕ). P i (array.die_at (map seen_of (mirrors xs (a + 1) n)) d)) k (mirrors_made each xs (a + 1) n d (omega arith) (omega arith))

-- ---- as many plans as dies

pub plans_count : (lines : List FaultLine) (copy : Bool) (dies : ℕ) → length (plans lines copy dies) ≡ dies
plans_count lines copy dies = length-map-range_with_len (plan_for lines copy) 0 dies

-- ---- the dies of a state

same_maps : {A B C : Type 0} (f : A → B) (g : B → C) (xs : List A) → map (λ x. g (f x)) xs ≡ map g (map f xs)
same_maps f g [] = refl
same_maps f g (x ∷ xs) = ap (λ (ys : List _). g (f x) ∷ ys) (same_maps f g xs)

-- these views are of dies of this kind
abbrev AreViews : DieKind → List FaultLine → ℕ → List DieView → Type 0
AreViews kind lines dies views = (d : ℕ) → d < dies → IsDieOf kind lines d (array.die_at views d)

at_zero : (P : ℕ → Type 0) (d : ℕ) → P (0 + d) → P d
at_zero P d p = let e : 0 + d ≡ d = omega arith in subst P e p

module _ (lines : List FaultLine) (pages : List Page) (dies : ℕ) where
  pub memory_views : ((d : ℕ) (pages : List Page) → IsDieOf Mem lines d (told_die pages (start_plan (plan_for lines false d)))) → AreViews Mem lines dies (dies_of (cuts pages dies) (plans lines false dies))
  memory_views each d l =
      at_zero (λ i. IsDieOf Mem lines i (array.die_at (dies_of (cuts pages dies) (plans lines false dies)) d)) d
      (memory_made (IsDieOf Mem lines) (plan_for lines false) each (cuts pages dies) 0 dies d (length-cuts pages dies) l)

  pub flash_views : ((d : ℕ) (pages : List Page) → IsDieOf Ftl lines d (loaded_die pages (plan_for lines false d))) → AreViews Ftl lines dies (loaded_of (cuts pages dies) (plans lines false dies))
  flash_views each d l =
      at_zero (λ i. IsDieOf Ftl lines i (array.die_at (loaded_of (cuts pages dies) (plans lines false dies)) d)) d
      (flash_made (IsDieOf Ftl lines) (plan_for lines false) each (cuts pages dies) 0 dies d (length-cuts pages dies) l)

  pub mirror_views : ((d : ℕ) (pages copied : List Page) → IsDieOf Mirror lines d (seen_of (mirror_of (told_die pages (start_plan (plan_for lines false d))) (told_die copied (start_plan (plan_for lines true d)))))) →
      AreViews Mirror lines dies (map seen_of (beside mirror_of (dies_of (cuts pages dies) (plans lines false dies)) (dies_of (cuts pages dies) (plans lines true dies))))
  mirror_views each d l =
      at_zero (λ i. IsDieOf Mirror lines i (array.die_at (map seen_of (beside mirror_of (dies_of (cuts pages dies) (plans lines false dies)) (dies_of (cuts pages dies) (plans lines true dies)))) d)) d
      (mirrors_made (IsDieOf Mirror lines) (plan_for lines false) (plan_for lines true) (λ d pages. each d pages pages) (cuts pages dies) 0 dies d (length-cuts pages dies) l)

module _ {D J : Type 0} (seen : D → DieView) (s : State D J) (kind : DieKind) (lines : List FaultLine) (dies : ℕ) (count : s.sizes.dies ≡ dies) where
  made_of : (own : List D) (views : List DieView) → s.rack.slots.items ≡ at_home own → map seen own ≡ views → AreViews kind lines dies views → AreMade seen kind lines s
  made_of own views home are each d l =
      subst (IsDieOf kind lines d)
      (sym (ap (λ (slots : List (Slot D)). die_at seen slots d) home ∙ (seen_at seen own d ∙ ap (λ (vs : List DieView). array.die_at vs d) are)))
      (each d (subst (λ (n : ℕ). d < n) count l))

  pub are_made : (views : List DieView) → HasDies seen s views → AreViews kind lines dies views → AreMade seen kind lines s
  are_made views h each = made_of h.dies views h.home h.are each

  -- by another view of each die
  pub are_made_by : {V : Type 0} (view : D → V) (tells : V → DieView) → ((die : D) → seen die ≡ tells (view die)) → (views : List V) → HasDies view s views → AreViews kind lines dies (map tells views) → AreMade seen kind lines s
  are_made_by view tells same views h each =
      made_of h.dies (map tells views) h.home (same_map h.dies ∙ (same_maps view tells h.dies ∙ ap (map tells) h.are)) each
    where
      same_map : (own : List D) → map seen own ≡ map (λ die. tells (view die)) own
      same_map [] = refl
      same_map (x ∷ xs) = ap (λ (v : DieView). v ∷ map seen xs) (same x) ∙ ap (λ (vs : List DieView). tells (view x) ∷ vs) (same_map xs)
