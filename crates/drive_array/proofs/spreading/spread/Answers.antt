use Rattle.std.proofs.Common.{◌≡◌, ℕ, List, ap, ◌∙◌}
use Rattle.std.specs.Prelude.{map}
use Rattle.page_base.specs.Drive.{total_pages}
use Rattle.flash_die.specs.Memory.{view_of}
use Rattle.drive_array.specs.Cut.{cuts}
use Rattle.drive_array.specs.Parts.{pages_of, plan_of}
use Rattle.drive_array.specs.Reads.{HasShares, TellsPages}
use Rattle.drive_array.specs.Shares.{dies_of}
use Rattle.drive_array.proofs.Told.{dies_share, dies_tell, if_ok}
use Rattle.drive_array.proofs.spreading.spread.Goals as goal

pub returns-clause-shares : goal.returns-clause-shares
returns-clause-shares c =
    let pages = c.args.pages.items in
    let dies = c.args.geometry.dies in
    let shares = c.deal.new.shares.items in
    let made : dies_of (map (λ s. pages_of s) shares) (map (λ s. plan_of s) shares) ≡ dies_of (cuts pages dies) c.args.plans.items =
    ap (λ (l : List (List (List ℕ))). dies_of l (map (λ s. plan_of s) shares)) (c.in_ok-deal.ensures.pages ∙ ap (cuts pages) c.dies.ensures.value) ∙ ap (dies_of (cuts pages dies)) (c.in_ok-deal.ensures.plans ∙ c.in_ok-shares.ensures.plans) in
    if_ok c.into_dies.result
    (λ v. map (λ d. view_of d) v.items ≡ dies_of (map (λ s. pages_of s) shares) (map (λ s. plan_of s) shares))
    (λ v. HasShares (map (λ d. view_of d) v.items) dies (total_pages c.args.geometry.blocks))
    (λ v is. dies_share pages dies (total_pages c.args.geometry.blocks) c.args.plans.items (map (λ d. view_of d) v.items) c.requires.pages c.requires.plans (is ∙ made))
    c.into_dies.ensures

pub returns-clause-told : goal.returns-clause-told
returns-clause-told c =
    let pages = c.args.pages.items in
    let dies = c.args.geometry.dies in
    let shares = c.deal.new.shares.items in
    let made : dies_of (map (λ s. pages_of s) shares) (map (λ s. plan_of s) shares) ≡ dies_of (cuts pages dies) c.args.plans.items =
    ap (λ (l : List (List (List ℕ))). dies_of l (map (λ s. plan_of s) shares)) (c.in_ok-deal.ensures.pages ∙ ap (cuts pages) c.dies.ensures.value) ∙ ap (dies_of (cuts pages dies)) (c.in_ok-deal.ensures.plans ∙ c.in_ok-shares.ensures.plans) in
    if_ok c.into_dies.result
    (λ v. map (λ d. view_of d) v.items ≡ dies_of (map (λ s. pages_of s) shares) (map (λ s. plan_of s) shares))
    (λ v. TellsPages (map (λ d. view_of d) v.items) dies (cuts pages dies))
    (λ v is. dies_tell pages dies c.args.plans.items (map (λ d. view_of d) v.items) c.requires.plans (is ∙ made))
    c.into_dies.ensures
