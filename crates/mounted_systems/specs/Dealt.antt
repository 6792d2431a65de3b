-- Dies that have the pages of an image, and the core that a system over them opens with. This project's own.
use Rattle.std.specs.Prelude.{◌≡◌, ℕ, List, [], get_or, map}
use Rattle.image_format.specs.declared.meta.Meta.{Meta}
use Rattle.image_format.specs.Image.{read_image}
use Rattle.image_format.specs.Tables.{Mounts}
use Rattle.flash_die.specs.Dies.{DieView}
use Rattle.drive_array.specs.Cut.{cuts}
use Rattle.drive_array.specs.Reads.{AreDiesOf, TellsPages}
use Rattle.dispatcher.specs.declared.side.Place.{Place}
use Rattle.core_state.specs.State.{Page, Core}
use Rattle.core_state.specs.Opening.{opening_core}
use Rattle.system_state.specs.declared.state.State.{State}
use Rattle.system_start.specs.Started.{image_in, at_home}

-- some image mounts to these tables and pages
pub record AreMounted (meta : Meta) (pages : List Page) : Type 0 where
  pub bytes : List ℕ
  pub mounts : Mounts bytes meta pages (read_image bytes)

-- the opening core of a drive with these tables and pages
abbrev pub opening_of : Meta → List Page → ℕ → Place → Core
opening_of meta pages lanes place = opening_core (image_in meta (λ p. get_or pages p [])) lanes place

-- there is a die for each share of the pages, dealt in turn, and each tells its share
pub record HavePages (views : List DieView) (meta : Meta) (pages : List Page) : Type 0 where
  pub shares : AreDiesOf meta.geometry views
  pub told : TellsPages views meta.geometry.dies (cuts pages meta.geometry.dies)

module _ {D J V : Type 0} (view : D → V) where
  -- all dies of the state are at home, and this is told of each
  pub record HasDies (s : State D J) (views : List V) : Type 0 where
    pub dies : List D
    pub home : s.rack.slots.items ≡ at_home dies
    pub are : map view dies ≡ views
