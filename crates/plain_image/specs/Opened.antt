-- Images that are opened: what is handed on of them. This project's own.
use Rattle.std.specs.Prelude.{ℕ, List}
use Rattle.plain_image.specs.declared.drive.PlainDrive.{PlainDrive}

-- the bytes of an image, and the drive that it is of; its places and written flags, and its pages, are those that the bytes mount to
pub record Opened : Type 0 where
  pub bytes : List ℕ
  pub drive : PlainDrive

abbrev pub opened : List ℕ → PlainDrive → Opened
opened bytes drive = record { bytes = bytes; drive = drive }
