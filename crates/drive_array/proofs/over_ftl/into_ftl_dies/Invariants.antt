use Rattle.std.proofs.Common.{◌≡◌}
use Rattle.std.specs.Prelude.{map}
use Rattle.ftl_die.specs.Ftl.{view_of, raw_of}
use Rattle.flash_raw.specs.Memory.{plan_of as raw_plan_of}
use Rattle.drive_array.specs.Shares.{loaded_of, armed}
use Rattle.drive_array.specs.Parts.{pages_of, plan_of}
use Rattle.drive_array.proofs.over_ftl.into_ftl_dies.Given as goal

abbrev pub invariant-loop-share : goal.invariant-loop-share
invariant-loop-share l =
    (map (λ d. view_of d) l.dies.items ≡ loaded_of (map (λ s. pages_of s) l.yielded) (map (λ s. plan_of s) l.yielded))
    × (map (λ d. raw_plan_of (raw_of d)) l.dies.items ≡ map (λ s. armed (plan_of s)) l.yielded)
