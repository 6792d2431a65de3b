-- Tables of meta data that a core has: what its image says of it. This project's own.
use Rattle.std.specs.Prelude.{◌≡◌, ℕ, ◌<◌, false, length, map, slice_index_or}
use Rattle.image_format.specs.declared.meta.Meta.{Meta}
use Rattle.core_state.specs.State.{Core}
use Rattle.system_state.specs.Cores.{file_of, places_of}

-- The core has the geometry, the files, the next id, the places and the written flags of these tables. Slots of files aren't a core's, and
-- its functions aren't an image's.
pub record HasTables (m : Meta) (c : Core) : Type 0 where
  pub blocks : c.shape.blocks ≡ m.geometry.blocks
  pub dies : c.shape.dies ≡ m.geometry.dies
  pub files : c.names.files ≡ map file_of m.names.files
  pub next : c.names.next ≡ m.names.next
  pub extents : m.extents.blocks ≡ m.geometry.blocks
  pub places : c.places ≡ places_of m.extents.placed
  pub count : length m.written ≡ m.geometry.blocks
  pub written : (b : ℕ) → b < m.geometry.blocks → (c.blocks b).written ≡ slice_index_or m.written b false
