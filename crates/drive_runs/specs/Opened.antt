-- Systems of a drive that was just mounted. This project's own.
use Rattle.std.specs.Prelude.{◌≡◌, List, [], length}
use Rattle.flash_die.specs.Dies.{DieView}
use Rattle.flash_die.specs.Memory as memory
use Rattle.ftl_die.specs.Ftl as ftl
use Rattle.mirror_die.specs.Mirror.{seen_of}
use Rattle.mirror_die.specs.Views as mirror
use Rattle.image_format.specs.declared.meta.Meta.{Meta}
use Rattle.dispatcher.specs.declared.side.Place.{Place}
use Rattle.script_words.specs.declared.script.Script.{Script}
use Rattle.command_words.specs.declared.options.DieKind.{DieKind}
use Rattle.core_state.specs.State.{Page}
use Rattle.system_state.specs.Jobs.{JobView}
use Rattle.system_state.specs.Cores.{core_of}
use Rattle.system_state.specs.Stands.{Stands}
use Rattle.system_state.specs.declared.state.State.{State}
use Rattle.system_start.specs.Fresh.{no_places}
use Rattle.mounted_systems.specs.Dealt.{opening_of}
use Rattle.call_job.specs.Suits.{Suits}
use Rattle.drive_runs.specs.declared.kinds.Opened.{Opened}
use Rattle.drive_runs.specs.declared.kinds.Opened.TheVariants.{Memory, Flash, Mirrored}
use Rattle.drive_runs.specs.Making.{AreMade}

module _ {D J : Type 0} (seen : D → DieView) (suits : J → JobView → Type 0) where
  -- The system has made no event. Its drive is that of an image which mounts to these tables and pages, its dies are of this kind, with the plans of
  -- the script's lines, and it has a lane for each of the script's.
  pub record HasOpened (kind : DieKind) (meta : Meta) (pages : List Page) (script : Script) (place : Place) (s : State D J) : Type 0 where
    pub stands : Stands seen suits s s []
    pub core : core_of seen s ≡ opening_of meta pages (length script.lanes) place
    pub counts : s.places ≡ no_places
    pub made : AreMade seen kind script.faults s

-- over dies of whichever kind
abbrev pub AreOpened : DieKind → Meta → List Page → Script → Place → Opened → Type 0
AreOpened kind meta pages script place (Memory s) = HasOpened (λ die. memory.view_of die) Suits kind meta pages script place s
AreOpened kind meta pages script place (Flash s) = HasOpened (λ die. ftl.view_of die) Suits kind meta pages script place s
AreOpened kind meta pages script place (Mirrored s) = HasOpened (λ die. seen_of (mirror.view_of die)) Suits kind meta pages script place s
