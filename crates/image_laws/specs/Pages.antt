-- The pages of a drive in the order of its image: those of its meta data, and then its data blocks. This project's own, in format version 2.
use Rattle.std.specs.Prelude.{ℕ, List, drop, map}
use Rattle.std.specs.List.{flat_map, range_with_len}
use Rattle.page_base.specs.Drive.{meta_pages}
use Rattle.image_format.specs.declared.meta.Meta.{Meta}
use Rattle.image_format.specs.Encoding.{meta_page}

-- the bytes of pages, joined
abbrev pub bytes_of : List (List ℕ) → List ℕ
bytes_of pages = flat_map (λ page. page) pages

-- the pages that meta data has
abbrev pub encoded : Meta → List (List ℕ)
encoded m = map (meta_page m) (range_with_len 0 (meta_pages m.geometry.blocks))

-- of all pages of a drive, the data blocks: those behind the meta data
abbrev pub data_blocks : Meta → List (List ℕ) → List (List ℕ)
data_blocks m all = drop (meta_pages m.geometry.blocks) all
