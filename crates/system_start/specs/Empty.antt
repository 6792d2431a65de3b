-- The tables of a drive without files. This project's own.
use Rattle.std.specs.Prelude.{false, [], replicate}
use Rattle.page_base.specs.Drive.{Drive}
use Rattle.image_format.specs.declared.meta.Meta.{Meta}

-- no block is written, and the next id is 1
abbrev pub empty_of : Drive → Meta
empty_of g = record { geometry = g; names = record { files = []; next = 1 }; extents = record { blocks = g.blocks; placed = [] }; written = replicate g.blocks false }
