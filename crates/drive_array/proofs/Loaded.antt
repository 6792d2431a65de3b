-- Dies over raw flash, one more at the end.
use Rattle.std.proofs.Common.{◌≡◌, List, [], ◌∷◌, ◌++◌, refl, ap, sym, ◌∙◌}
use Rattle.std.specs.Prelude.{map}
use Rattle.flash_die.specs.Dies.{DieView}
use Rattle.drive_array.specs.Shares.{armed, loaded_die, loaded_of}
use Rattle.flash_raw.specs.Calls.{RawPlan}
use Rattle.std.proofs.lemmas.List.{map-append}
use Rattle.flash_die.specs.declared.plan.Plan.{Plan}
use Rattle.drive_array.specs.Parts.{pages_of, plan_of}
use Rattle.drive_array.specs.declared.share.Share.{Share}

loaded_of-push : (shares : List Share) (share : Share) → loaded_of (map (λ s. pages_of s) (shares ++ share ∷ [])) (map (λ s. plan_of s) (shares ++ share ∷ [])) ≡ loaded_of (map (λ s. pages_of s) shares) (map (λ s. plan_of s) shares) ++ loaded_die (pages_of share) (plan_of share) ∷ []
loaded_of-push [] share = refl
loaded_of-push (s ∷ shares) share = ap (λ (l : List DieView). loaded_die (pages_of s) (plan_of s) ∷ l) (loaded_of-push shares share)

pub loaded_more : (so_far now : List DieView) (made : DieView) (shares : List Share) (share : Share) → now ≡ so_far ++ made ∷ [] → so_far ≡ loaded_of (map (λ s. pages_of s) shares) (map (λ s. plan_of s) shares) → made ≡ loaded_die (pages_of share) (plan_of share) → now ≡ loaded_of (map (λ s. pages_of s) (shares ++ share ∷ [])) (map (λ s. plan_of s) (shares ++ share ∷ []))
loaded_more so_far now made shares share is before one =
    is ∙ ap (λ (l : List DieView). l ++ made ∷ []) before ∙ ap (λ (v : DieView). loaded_of (map (λ s. pages_of s) shares) (map (λ s. plan_of s) shares) ++ v ∷ []) one ∙ sym (loaded_of-push shares share)

pub armed_more : (so_far : List RawPlan) (plan : RawPlan) (shares : List Share) (share : Share) → so_far ≡ map (λ s. armed (plan_of s)) shares → plan ≡ armed (plan_of share) → so_far ++ plan ∷ [] ≡ map (λ s. armed (plan_of s)) (shares ++ share ∷ [])
armed_more so_far plan shares share before one =
    ap (λ (l : List RawPlan). l ++ plan ∷ []) before ∙ ap (λ (p : RawPlan). map (λ s. armed (plan_of s)) shares ++ p ∷ []) one ∙ sym (map-append (λ s. armed (plan_of s)) shares (share ∷ []))

armed_of : (shares : List Share) → map (λ s. armed (plan_of s)) shares ≡ map (λ p. armed p) (map (λ s. plan_of s) shares)
armed_of [] = refl
armed_of (share ∷ shares) = ap (λ (l : List RawPlan). armed (plan_of share) ∷ l) (armed_of shares)

pub armed_all : (plans : List RawPlan) (shares : List Share) (given : List Plan) → plans ≡ map (λ s. armed (plan_of s)) shares → map (λ s. plan_of s) shares ≡ given → plans ≡ map (λ p. armed p) given
armed_all plans shares given is same = is ∙ armed_of shares ∙ ap (map (λ p. armed p)) same
