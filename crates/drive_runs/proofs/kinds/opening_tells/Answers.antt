use Rattle.std.proofs.Common.{[], refl}
use Rattle.std.specs.Prelude.{get_or}
use Rattle.drive_runs.proofs.kinds.opening_tells.Goals as goal

pub returns : goal.returns
returns c = λ bytes pages lanes place m.
    c.opening_is_mounted.ensures.mounts bytes c.args.meta.now pages (λ p. get_or pages p []) lanes place c.look.ensures.table c.look.ensures.sound m (λ p l. refl)
