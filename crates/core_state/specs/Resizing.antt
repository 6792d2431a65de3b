-- How a file's blocks follow its length: the effect of Answer's new state on files, places and blocks. This project's own:
-- release and allocation of a block raise its version and clear its written flag, and allocation takes the lowest free blocks.
use Rattle.std.specs.Prelude.{ℕ, ◌+◌, ◌-◌, ◌==◌, nat_lt, Bool, true, false, not, if◌then◌else◌, List, ◌++◌, length, take, Option, Some, None}
use Rattle.std.specs.List.{filter, list_any, slice_get, range_with_len}
use Rattle.page_base.specs.Bytes.{Pages}
use Rattle.plain_files.specs.Plain.{State}
use Rattle.core_state.specs.Words.{is_at, any_to, listed_to, is_in, without_all}
use Rattle.core_state.specs.State.{Shape, Block, File, Places, Core}
use Rattle.core_state.specs.PlainOf.{bytes_by_id, names_like}

-- ---- which blocks

-- a page of one of the files has the block
abbrev pub is_placed : List File → Places → ℕ → Bool
is_placed files places b = list_any (λ (f : File). any_to (Pages f.len) (λ p. is_at (places f.id p) b)) files

-- the free blocks, the lowest first
abbrev pub free_blocks : Shape → List File → Places → List ℕ
free_blocks shape files places = filter (λ b. not (is_placed files places b)) (range_with_len 0 shape.blocks)

-- the blocks of a file's pages from one number of pages up to another
abbrev pub blocks_between : Places → ℕ → ℕ → ℕ → List ℕ
blocks_between places id from to = listed_to (to - from) (λ j. places id (from + j))

-- ---- the new places

-- page p of a file that has these blocks for new pages, which follow its old ones
abbrev pub page_between : (ℕ → Option ℕ) → List ℕ → ℕ → ℕ → ℕ → Option ℕ
page_between row fresh from to p =
    if nat_lt p to then (if nat_lt p from then row p else slice_get fresh (p - from)) else None

abbrev pub new_places : Places → ℕ → List ℕ → ℕ → ℕ → Places
new_places places id fresh from to = λ f p. if f == id then page_between (places id) fresh from to p else places f p

-- the block after its release or its allocation
abbrev pub renewed : Block → Block
renewed x = record x { host = None; drive = None; clean = true; written = false; version = x.version + 1 }

-- those are renewed
abbrev pub renewed_in : List ℕ → (ℕ → Block) → ℕ → Block
renewed_in changed blocks b = if is_in b changed then renewed (blocks b) else blocks b

-- with these blocks gone from a file, and these new ones at its end
abbrev pub exchanged : Core → ℕ → List ℕ → List ℕ → ℕ → ℕ → Core
exchanged c id gone fresh from to =
    record c {
      places = new_places c.places id fresh from to;
      blocks = renewed_in (gone ++ fresh) c.blocks;
      host_order = without_all gone c.host_order;
      drive_order = without_all gone c.drive_order;
      unclean = without_all gone c.unclean;
    }

-- the file of this id goes from one number of pages to another
abbrev pub resized : Core → ℕ → ℕ → ℕ → Core
resized c id from to =
    exchanged c id
    (blocks_between c.places id to from)
    (take (to - from) (free_blocks c.shape c.names.files c.places))
    from to

-- ---- what Answer's new state does

-- names, lengths and marks are those of the plain state, and the blocks of the file that a call is about follow its length; a file that is gone has none
abbrev pub follows : Core → Option File → State → Core
follows c None s = record c { names = names_like s c.names }
follows c (Some f) s =
    record (resized c f.id (Pages f.len) (Pages (length (bytes_by_id s f.id)))) { names = names_like s c.names }
