-- The form in which images are written. This project's own.
use Rattle.std.specs.Prelude.{◌≡◌, ℕ, List}
use Rattle.image_format.specs.declared.meta.Meta.{Meta}
use Rattle.image_format.specs.Numbers.{u32_at}
use Rattle.image_format.specs.Encoding.{image_bytes}
use Rattle.image_format.specs.Whole.{IsWhole}

-- The version field is 2, and the bytes are those of meta data and data blocks that are whole: of these `image_bytes` has the
-- extent entries as the maximal runs by file and page.
pub record IsSpelled (bytes : List ℕ) : Type 0 where
  pub version : u32_at bytes 4 ≡ 2
  pub meta : Meta
  pub blocks : List (List ℕ)
  pub whole : IsWhole meta blocks
  pub spelled : bytes ≡ image_bytes meta blocks
