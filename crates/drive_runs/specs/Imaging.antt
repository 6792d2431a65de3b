-- The image of a system behind a run. This project's own.
use Rattle.std.specs.Prelude.{◌≡◌, ℕ, List}
use Rattle.flash_die.specs.Dies.{DieView}
use Rattle.name_table.specs.Files.{IsTable}
use Rattle.extent_map.specs.Places.{IsSound}
use Rattle.system_state.specs.Cores.{core_of}
use Rattle.system_state.specs.Settled.{flash_bytes}
use Rattle.system_state.specs.declared.state.State.{State}
use Rattle.mounted_systems.specs.Gathered.{HasStopped, HasGiven}
use Rattle.settling.specs.declared.last_sync.Settled.{Settled}
use Rattle.settling.specs.declared.last_sync.Settled.TheVariants as settled
use Rattle.drive_runs.specs.declared.running.DriveImage.{DriveImage}
use Rattle.drive_runs.specs.declared.running.DriveImage.TheVariants as image

module _ {D J : Type 0} (seen : D → DieView) where
  -- the bytes are the pages of flash, and no read of them failed
  pub record HasImage (s : State D J) (bytes : List ℕ) : Type 0 where
    pub table : IsTable s.meta.names
    pub sound : IsSound s.meta.extents
    pub pages : bytes ≡ flash_bytes (core_of seen s)
    pub given : HasGiven seen s.meta.geometry s.rack.slots.items

  -- the dies were read: to the end, or to a read that failed
  abbrev pub HasGathered : State D J → DriveImage → Type 0
  HasGathered s image.NotAsked = ⊥
  HasGathered s (image.Whole bytes) = HasImage s bytes.items
  HasGathered s image.Lost = (die : ℕ) × HasStopped seen s.meta.geometry s.rack.slots.items die

  -- only behind a last sync that came to its end
  abbrev pub ImageSays : State D J → Settled → DriveImage → Type 0
  ImageSays s settled.NotAsked found = found ≡ image.NotAsked
  ImageSays s settled.Failed found = found ≡ image.Lost
  ImageSays s settled.Done found = HasGathered s found
