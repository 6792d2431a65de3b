-- Bytes that are an image of a core. This project's own.
use Rattle.std.specs.Prelude.{◌≡◌, ℕ, List, Ok}
use Rattle.image_format.specs.Image as image_format
use Rattle.image_format.specs.Image.{read_image, mounted}
use Rattle.core_state.specs.State.{Core}
use Rattle.core_state.specs.PlainOf.{plain}
use Rattle.system_state.specs.Settled.{mounted_of}

-- the bytes are read as an image of this core's drive, which mounts to the files and the next id of its plain state
pub record IsImageOfCore (c : Core) (bytes : List ℕ) : Type 0 where
  pub image : image_format.Image
  pub read : read_image bytes ≡ Ok image
  pub blocks : image.header.blocks ≡ c.shape.blocks
  pub dies : image.header.dies ≡ c.shape.dies
  pub mounts : mounted image ≡ mounted_of (plain c)
