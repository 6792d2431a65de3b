-- The ends of the files: a last block that is written has zeros past the file's length.
use Rattle.std.specs.Prelude.{ℕ, ◌*◌, ◌/◌, ◌%◌, List, [], ◌∷◌, take, drop, Bool, not, ◌&&◌, ◌==◌, Option, Some, None, Result, Ok, ⊤, slice_index}
use Rattle.std.specs.List.{find}
use Rattle.page_base.specs.Bytes.{Pages}
use Rattle.image_format.specs.declared.faults.ImageKind.TheVariants.{Tail}
use Rattle.image_format.specs.declared.faults.ImageFault.{ImageFault}
use Rattle.image_format.specs.Faults.{fault}
use Rattle.image_format.specs.Numbers.{part, are_zero}
use Rattle.image_format.specs.Records.{Stored}
use Rattle.image_format.specs.Bitmap.{is_set}

-- a file, and the blocks of its pages
pub record Share : Type 0 where
  pub file : Stored
  pub blocks : List ℕ

-- each file with its blocks, of the blocks of all files in order
abbrev pub shares : List Stored → List ℕ → List Share
shares [] blocks = []
shares (f ∷ fs) blocks = record { file = f; blocks = take (Pages f.len) blocks } ∷ shares fs (drop (Pages f.len) blocks)

-- the page of a data block
abbrev pub data_page : List ℕ → ℕ → List ℕ
data_page body b = part body (4096 * b) 4096

-- the last block of the file is written and has a byte past the file's length that isn't zero
abbrev pub has_tail : List ℕ → List ℕ → Share → Bool
has_tail bits body s =
    let last = slice_index s.blocks (s.file.len / 4096) in
    not (s.file.len % 4096 == 0) && (is_set bits last && not (are_zero (drop (s.file.len % 4096) (data_page body last))))

-- no file has such a tail
unfoldable pub tails : List ℕ → List ℕ → List Share → Result ⊤ ImageFault
tails bits body files = none_found (find (has_tail bits body) files)
  where
    none_found : Option Share → Result ⊤ ImageFault
    none_found None = Ok tt
    none_found (Some s) = fault Tail s.file.id
