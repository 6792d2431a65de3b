-- Systems over which a run may begin, and their dies. This project's own.
use Rattle.std.specs.Prelude.{◌<◌, ℕ, List}
use Rattle.page_base.specs.Drive.{Drive}
use Rattle.flash_die.specs.Dies.{DieView}
use Rattle.script_words.specs.declared.script.FaultLine.{FaultLine}
use Rattle.command_words.specs.declared.options.DieKind.{DieKind}
use Rattle.core_state.specs.State.{Core}
use Rattle.core_plans.specs.Lines.{IsDieOf}
use Rattle.system_state.specs.Slots.{die_at}
use Rattle.system_state.specs.declared.state.State.{State}

-- the drive of a core
abbrev pub drive_in : Core → Drive
drive_in c = record { blocks = c.shape.blocks; dies = c.shape.dies }

module _ {D J : Type 0} (seen : D → DieView) where
  -- the dies of the state are of this kind, and have just been made with the plans of the lines
  abbrev pub AreMade : DieKind → List FaultLine → State D J → Type 0
  AreMade kind lines s = (d : ℕ) → d < s.sizes.dies → IsDieOf kind lines d (die_at seen s.rack.slots.items d)
