-- A drive as a plain machine: what the files of an image are for it, and which files and next id it has for an image.
use Rattle.std.specs.Prelude.{ℕ, List, [], map, Result, Ok}
use Rattle.image_format.specs.declared.faults.ImageFault.{ImageFault}
use Rattle.image_format.specs.Faults.{◌>>=◌}
use Rattle.image_format.specs.Image.{File, Mounted, Image, mounted, read_image}
use Rattle.plain_files.specs.declared.calls.PlainFile.{PlainFile}
use Rattle.plain_files.specs.Plain.{State}
use Rattle.plain_image.specs.declared.drive.PlainDrive.{PlainDrive}

-- a mounted file as one of the plain machine
abbrev pub plain_file : File → PlainFile
plain_file f = record { id = f.id; name = f.name; bytes = f.bytes; sealed = f.sealed }

-- the plain machine that begins with these files and this next id over so many data blocks; no function is loaded
abbrev pub machine_on : ℕ → Mounted → State
machine_on blocks m = record { files = map plain_file m.files; next = m.next; functions = []; capacity = blocks }

-- the drive that an image is of
abbrev pub drive_in : Image → PlainDrive
drive_in i = record { geometry = record { blocks = i.header.blocks; dies = i.header.dies }; plain = machine_on i.header.blocks (mounted i) }

-- the drive of the image that some bytes are, or their first fault
unfoldable pub drive_of : List ℕ → Result PlainDrive ImageFault
drive_of bytes = do
  i ← read_image bytes
  Ok (drive_in i)

-- the other way round: a file of the plain machine, and its files and next id, as they are mounted
abbrev pub mounted_file : PlainFile → File
mounted_file f = record { id = f.id; name = f.name; bytes = f.bytes; sealed = f.sealed }

abbrev pub mounted_as : State → Mounted
mounted_as s = record { files = map mounted_file s.files; next = s.next }

-- a machine of which the loaded functions are forgotten
abbrev pub without_functions : State → State
without_functions s = record s { functions = [] }
