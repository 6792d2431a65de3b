use Rattle.std.proofs.Common.{◌≡◌, ℕ, List, ap, ◌∙◌}
use Rattle.std.specs.Prelude.{map}
use Rattle.page_base.specs.Drive.{total_pages}
use Rattle.ftl_die.specs.Ftl.{view_of, raw_of}
use Rattle.flash_raw.specs.Memory.{plan_of as raw_plan_of}
use Rattle.drive_array.proofs.Loaded.{armed_all}
use Rattle.drive_array.specs.Cut.{cuts}
use Rattle.drive_array.specs.Parts.{pages_of, plan_of}
use Rattle.drive_array.specs.Reads.{HasShares, TellsPages}
use Rattle.drive_array.specs.Shares.{armed, loaded_of}
use Rattle.drive_array.proofs.Told.{loaded_share, loaded_tell, if_ok}
use Rattle.drive_array.proofs.over_ftl.spread_ftl.Goals as goal

pub returns-clause-shares : goal.returns-clause-shares
returns-clause-shares c =
    let pages = c.args.pages.items in
    let dies = c.args.geometry.dies in
    let shares = c.deal.new.shares.items in
    let made : loaded_of (map (λ s. pages_of s) shares) (map (λ s. plan_of s) shares) ≡ loaded_of (cuts pages dies) c.args.plans.items =
    ap (λ (l : List (List (List ℕ))). loaded_of l (map (λ s. plan_of s) shares)) (c.in_ok-deal.ensures.pages ∙ ap (cuts pages) c.dies.ensures.value) ∙ ap (loaded_of (cuts pages dies)) (c.in_ok-deal.ensures.plans ∙ c.in_ok-shares.ensures.plans) in
    if_ok c.into_ftl_dies.result
    (λ v. map (λ d. view_of d) v.items ≡ loaded_of (map (λ s. pages_of s) shares) (map (λ s. plan_of s) shares))
    (λ v. HasShares (map (λ d. view_of d) v.items) dies (total_pages c.args.geometry.blocks))
    (λ v is. loaded_share pages dies (total_pages c.args.geometry.blocks) c.args.plans.items (map (λ d. view_of d) v.items) c.requires.pages c.requires.plans (is ∙ made))
    c.into_ftl_dies.ensures.dies

pub returns-clause-told : goal.returns-clause-told
returns-clause-told c =
    let pages = c.args.pages.items in
    let dies = c.args.geometry.dies in
    let shares = c.deal.new.shares.items in
    let made : loaded_of (map (λ s. pages_of s) shares) (map (λ s. plan_of s) shares) ≡ loaded_of (cuts pages dies) c.args.plans.items =
    ap (λ (l : List (List (List ℕ))). loaded_of l (map (λ s. plan_of s) shares)) (c.in_ok-deal.ensures.pages ∙ ap (cuts pages) c.dies.ensures.value) ∙ ap (loaded_of (cuts pages dies)) (c.in_ok-deal.ensures.plans ∙ c.in_ok-shares.ensures.plans) in
    if_ok c.into_ftl_dies.result
    (λ v. map (λ d. view_of d) v.items ≡ loaded_of (map (λ s. pages_of s) shares) (map (λ s. plan_of s) shares))
    (λ v. TellsPages (map (λ d. view_of d) v.items) dies (cuts pages dies))
    (λ v is. loaded_tell pages dies c.args.plans.items (map (λ d. view_of d) v.items) c.requires.plans (is ∙ made))
    c.into_ftl_dies.ensures.dies

pub returns-clause-plans : goal.returns-clause-plans
returns-clause-plans c =
    let shares = c.deal.new.shares.items in
    if_ok c.into_ftl_dies.result
    (λ v. map (λ d. raw_plan_of (raw_of d)) v.items ≡ map (λ s. armed (plan_of s)) shares)
    (λ v. map (λ d. raw_plan_of (raw_of d)) v.items ≡ map (λ p. armed p) c.args.plans.items)
    (λ v is. armed_all (map (λ d. raw_plan_of (raw_of d)) v.items) shares c.args.plans.items is (c.in_ok-deal.ensures.plans ∙ c.in_ok-shares.ensures.plans))
    c.into_ftl_dies.ensures.plans
