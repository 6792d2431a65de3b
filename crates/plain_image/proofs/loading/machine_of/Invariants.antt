use Rattle.std.proofs.Common.{◌≡◌, ◌-◌, ◌++◌, [], length, take, map}
use Rattle.image_format.specs.Tables.{stored_files, pages_of}
use Rattle.image_format.specs.Whole.{stands_for}
use Rattle.plain_image.specs.Drives.{plain_file}
use Rattle.plain_image.specs.Tables.{stored_file, files_left}
use Rattle.plain_image.proofs.loading.machine_of.Given as goal

abbrev pub invariant-loop-file : goal.invariant-loop-file
invariant-loop-file l = record {
  listed : map stored_file l.plain.files ≡ take l.i (stored_files l.meta.names);
  value : l.plain.files ++ files_left l.meta l.body l.i l.before ≡ map plain_file (stands_for l.meta l.body).files;
  before : l.before ≡ pages_of (take l.i (stored_files l.meta.names));
  functions : l.plain.functions ≡ [];
  capacity : l.plain.capacity ≡ l.meta.geometry.blocks;
}

abbrev pub decreases-loop-file : goal.decreases-loop-file
decreases-loop-file l = length l.meta.names.files - l.i
