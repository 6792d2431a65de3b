use Rattle.std.proofs.Common.{◌≡◌, List, ℕ, ap, subst, sym, ◌∙◌}
use Rattle.std.specs.Prelude.{map}
use Rattle.std.specs.List.{All}
use Rattle.flash_die.specs.Dies.{DieView}
use Rattle.flash_die.specs.Memory.{view_of}
use Rattle.flash_die.specs.declared.plan.Plan.{Plan}
use Rattle.page_base.specs.Drive.{total_pages}
use Rattle.mirror_die.specs.Mirror.{made_of, seen_of}
use Rattle.mirror_die.specs.Views.{view_of as mirror_view}
use Rattle.drive_array.specs.Cut.{cuts}
use Rattle.drive_array.specs.Mirrors.{ArePairs, IsShort, beside}
use Rattle.drive_array.specs.Reads.{HasShares, TellsPages}
use Rattle.drive_array.specs.Shares.{dies_of}
use Rattle.drive_array.proofs.Cutting.{length-cuts}
use Rattle.drive_array.proofs.Pairs.{twins_all}
use Rattle.drive_array.proofs.Told.{mirrors_share, mirrors_tell, if_ok}
use Rattle.drive_array.proofs.mirroring.spread_mirror.Goals as goal

pub mirror_all-requires : goal.mirror_all-requires
mirror_all-requires c =
    let pages = c.args.pages.items in
    let dies = c.args.geometry.dies in
    let short_plans : All (λ plan. IsShort plan) c.args.plans.items = subst (λ (l : List Plan). All (λ plan. IsShort plan) l) c.deref.ensures.value (c.are_short.ensures c.if-not-are_short.false) in
    let short_copies : All (λ plan. IsShort plan) c.args.copies.items = subst (λ (l : List Plan). All (λ plan. IsShort plan) l) c.deref-else-not-are_short.ensures.value (c.are_short-else-not-are_short.ensures c.if-not-are_short-2.false) in
    let twins = twins_all (cuts pages dies) c.args.plans.items c.args.copies.items short_plans short_copies (c.requires.plans ∙ sym (length-cuts pages dies)) (c.requires.copies ∙ sym (length-cuts pages dies)) in
    let same = c.in_ok-seconds.ensures.dies ∙ ap (λ (p : List (List ℕ)). dies_of (cuts p dies) c.args.copies.items) (c.in_ok-copied.ensures ∙ c.deref-2.ensures.value) in
    subst (λ (l : List DieView). ArePairs l (map (λ d. view_of d) c.in_ok-seconds.seconds.items)) (sym c.in_ok-firsts.ensures.dies) (subst (λ (l : List DieView). ArePairs (dies_of (cuts pages dies) c.args.plans.items) l) (sym same) twins)

pub returns-clause-shares : goal.returns-clause-shares
returns-clause-shares c =
    let pages = c.args.pages.items in
    let dies = c.args.geometry.dies in
    let firsts = map (λ d. view_of d) c.in_ok-firsts.firsts.items in
    let seconds = map (λ d. view_of d) c.in_ok-seconds.seconds.items in
    let same : seconds ≡ dies_of (cuts pages dies) c.args.copies.items = c.in_ok-seconds.ensures.dies ∙ ap (λ (p : List (List ℕ)). dies_of (cuts p dies) c.args.copies.items) (c.in_ok-copied.ensures ∙ c.deref-2.ensures.value) in
    let made : beside made_of firsts seconds ≡ beside made_of (dies_of (cuts pages dies) c.args.plans.items) (dies_of (cuts pages dies) c.args.copies.items) =
    ap (λ (l : List DieView). beside made_of l seconds) c.in_ok-firsts.ensures.dies ∙ ap (beside made_of (dies_of (cuts pages dies) c.args.plans.items)) same in
    if_ok c.mirror_all.result
    (λ v. map (λ d. seen_of (mirror_view d)) v.items ≡ beside made_of firsts seconds)
    (λ v. HasShares (map (λ d. seen_of (mirror_view d)) v.items) dies (total_pages c.args.geometry.blocks))
    (λ v is. mirrors_share pages dies (total_pages c.args.geometry.blocks) c.args.plans.items c.args.copies.items (map (λ d. seen_of (mirror_view d)) v.items) c.requires.pages c.requires.plans c.requires.copies (is ∙ made))
    c.mirror_all.ensures.seen

pub returns-clause-told : goal.returns-clause-told
returns-clause-told c =
    let pages = c.args.pages.items in
    let dies = c.args.geometry.dies in
    let firsts = map (λ d. view_of d) c.in_ok-firsts.firsts.items in
    let seconds = map (λ d. view_of d) c.in_ok-seconds.seconds.items in
    let same : seconds ≡ dies_of (cuts pages dies) c.args.copies.items = c.in_ok-seconds.ensures.dies ∙ ap (λ (p : List (List ℕ)). dies_of (cuts p dies) c.args.copies.items) (c.in_ok-copied.ensures ∙ c.deref-2.ensures.value) in
    let made : beside made_of firsts seconds ≡ beside made_of (dies_of (cuts pages dies) c.args.plans.items) (dies_of (cuts pages dies) c.args.copies.items) =
    ap (λ (l : List DieView). beside made_of l seconds) c.in_ok-firsts.ensures.dies ∙ ap (beside made_of (dies_of (cuts pages dies) c.args.plans.items)) same in
    if_ok c.mirror_all.result
    (λ v. map (λ d. seen_of (mirror_view d)) v.items ≡ beside made_of firsts seconds)
    (λ v. TellsPages (map (λ d. seen_of (mirror_view d)) v.items) dies (cuts pages dies))
    (λ v is. mirrors_tell pages dies c.args.plans.items c.args.copies.items (map (λ d. seen_of (mirror_view d)) v.items) c.requires.plans c.requires.copies (is ∙ made))
    c.mirror_all.ensures.seen
