use Rattle.std.proofs.Common.{[], ◌∷◌, ap, ◌∙◌}
use Rattle.std.specs.Prelude.{map}
use Rattle.std.proofs.lemmas.List.{map-append}
use Rattle.ftl_die.specs.Ftl.{view_of, raw_of}
use Rattle.flash_raw.specs.Memory.{plan_of as raw_plan_of}
use Rattle.drive_array.proofs.Loaded.{loaded_more, armed_more}
use Rattle.drive_array.proofs.over_ftl.into_ftl_dies.Goals as goal

pub loop-share-preserved : goal.loop-share-preserved
loop-share-preserved c =
    let dies = c.loop-share.dies.items in
    let last = c.in_ok-into_ftl.field-0 in (
      loaded_more (map (λ d. view_of d) dies) (map (λ d. view_of d) c.push.new.self.items) (view_of last) c.loop-share.yielded c.in-Some.share (ap (map (λ d. view_of d)) c.in_ok-push.ensures.items ∙ map-append (λ d. view_of d) dies (last ∷ [])) c.loop-share.invariant.0 c.in_ok-into_ftl.ensures.die,
      ap (map (λ d. raw_plan_of (raw_of d))) c.in_ok-push.ensures.items ∙ map-append (λ d. raw_plan_of (raw_of d)) dies (last ∷ []) ∙ armed_more (map (λ d. raw_plan_of (raw_of d)) dies) (raw_plan_of (raw_of last)) c.loop-share.yielded c.in-Some.share c.loop-share.invariant.1 c.in_ok-into_ftl.ensures.plan,
    )
