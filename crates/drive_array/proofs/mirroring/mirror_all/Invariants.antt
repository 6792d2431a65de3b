use Rattle.std.proofs.Common.{◌≡◌}
use Rattle.std.specs.Prelude.{map}
use Rattle.flash_die.specs.Memory.{view_of as die_view}
use Rattle.mirror_die.specs.Mirror.{made_of, seen_of}
use Rattle.mirror_die.specs.Views.{view_of}
use Rattle.drive_array.specs.Mirrors.{mirror_of, beside}
use Rattle.drive_array.proofs.mirroring.mirror_all.Given as goal

abbrev pub invariant-loop-first : goal.invariant-loop-first
invariant-loop-first l =
    (map (λ die. view_of die) l.dies.items ≡ beside mirror_of (map (λ p. die_view p.0) l.yielded) (map (λ p. die_view p.1) l.yielded))
    × (map (λ die. seen_of (view_of die)) l.dies.items ≡ beside made_of (map (λ p. die_view p.0) l.yielded) (map (λ p. die_view p.1) l.yielded))
