-- The core of a drive that was just mounted. This project's own.
use Rattle.std.specs.Prelude.{◌≡◌, ℕ, ◌+◌, Bool, true, false, if◌then◌else◌, nat_lt, List, [], length, None}
use Rattle.page_base.specs.Bytes.{zero_page}
use Rattle.page_base.specs.Drive.{IsDrive, meta_pages}
use Rattle.dispatcher.specs.declared.side.Place.{Place}
use Rattle.dispatcher.specs.declared.side.Place.TheVariants.{Auto}
use Rattle.core_state.specs.State.{Page, Shape, Block, File, Names, Places, LaneState, Outside, DieState, Core}
use Rattle.core_state.specs.Contents.{contents}
use Rattle.core_state.specs.Placed.{IsFree, AreNamed, HavePlaces, Tails}

-- what an image holds: its geometry, files, next id, blocks of files, which blocks are written, and all its pages in order
pub record Image : Type 0 where
  pub blocks : ℕ
  pub dies : ℕ
  pub files : List File
  pub next : ℕ
  pub places : Places
  pub written : ℕ → Bool
  pub pages : ℕ → Page

-- clean, without copy or loan, of version 0, with its page of the image
abbrev pub opening_block : Bool → Page → Block
opening_block written page = record { host = None; drive = None; flash = page; clean = true; written = written; version = 0; lent = None }

abbrev pub opening_blocks : Image → ℕ → Block
opening_blocks image b = opening_block (image.written b) (image.pages (meta_pages image.blocks + b))

abbrev pub opening_names : Image → Names
opening_names image = record { files = image.files; next = image.next; functions = [] }

-- 256 frames at the host and 128 in the drive
abbrev pub opening_shape : Image → ℕ → Place → Shape
opening_shape image lanes place =
    record { blocks = image.blocks; dies = image.dies; host_frames = 256; drive_frames = 128; lanes = lanes; place = place }

abbrev pub new_lane : LaneState
new_lane = record { stage = Outside; ended = 0; mark = false }

abbrev pub new_die : DieState
new_die = record { out = None; fills = 0; writes = 0; failed = 0 }

-- no lane is entered, all dies are at home, there are no copies and no functions, and all numbers are 0
abbrev pub opening_core : Image → ℕ → Place → Core
opening_core image lanes place =
    record {
      shape = opening_shape image lanes place;
      blocks = opening_blocks image;
      host_order = [];
      drive_order = [];
      unclean = [];
      meta = λ page. if nat_lt page (meta_pages image.blocks) then image.pages page else zero_page;
      names = opening_names image;
      places = image.places;
      lanes = λ lane. new_lane;
      calls = λ lane. None;
      dies = λ die. new_die;
      queue = [];
      closer = 0;
      last = 0;
    }

-- an image without a fault: what its format promises
pub record IsWhole (image : Image) : Type 0 where
  pub drive : IsDrive image.blocks image.dies
  pub have : HavePlaces (record { blocks = image.blocks; dies = image.dies; host_frames = 256; drive_frames = 128; lanes = 0; place = Auto }) (opening_names image) image.places
  pub named : AreNamed (opening_names image)
  pub free : (b : ℕ) → IsFree image.places b → image.written b ≡ false
  pub pages : (p : ℕ) → length (image.pages p) ≡ 4096
  pub tails : Tails (opening_names image) image.places (contents (opening_blocks image))
