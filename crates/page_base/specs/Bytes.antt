-- Bytes of files and pages. This project's own: a byte is a number below 256, and a page has 4,096 of them.
use Rattle.std.specs.Prelude.{ℕ, ◌+◌, ◌-◌, ◌/◌, ◌==◌, if◌then◌else◌, List, ◌++◌, length, take, drop, replicate}

-- how many pages so many bytes fill, the last one perhaps in part
abbrev pub Pages : ℕ → ℕ
Pages bytes = (bytes + 4095) / 4096

-- the bytes of a file from off up to the lower of off + len and the file's length; there may be none
abbrev pub Cut : List ℕ → ℕ → ℕ → List ℕ
Cut file off len = take len (drop off file)

-- the file with these bytes at off, and zeros where that leaves a gap; with no bytes the file as it is
abbrev pub Put : List ℕ → ℕ → List ℕ → List ℕ
Put file off bytes =
    if length bytes == 0 then file else take off file ++ replicate (off - length file) 0 ++ bytes ++ drop (off + length bytes) file

-- a page of zeros
unfoldable pub zero_page : List ℕ
zero_page = replicate 4096 0

-- the page with these bytes at a place where they fit
abbrev pub patched : List ℕ → ℕ → List ℕ → List ℕ
patched page at bytes = take at page ++ bytes ++ drop (at + length bytes) page

-- the page with zeros from a place on
abbrev pub cleared_from : List ℕ → ℕ → List ℕ
cleared_from page at = take at page ++ replicate (4096 - at) 0
