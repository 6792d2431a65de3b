-- What a block has, and what lies where on the drive. This project's own: die p mod dies has image page p, data block b is
-- image page M + b.
use Rattle.std.specs.Prelude.{◌≡◌, ℕ, ◌+◌, ◌-◌, ◌*◌, ◌%◌, Bool, true, false, ◌&&◌, not, nat_lt, if◌then◌else◌, List, Option, Some, None, is_some}
use Rattle.page_base.specs.Bytes.{zero_page}
use Rattle.page_base.specs.Drive.{meta_pages, total_pages, die_share}
use Rattle.dispatcher.specs.declared.side.Side.{Side}
use Rattle.coherence.specs.Paired.{by_side}
use Rattle.coherence.specs.Changes.{page_or}
use Rattle.core_state.specs.Words.{from_fn}
use Rattle.core_state.specs.State.{Page, Shape, Loan, Block, Places, Claim}

-- the copy at a side
abbrev pub copy_at : Side → Block → Option Page
copy_at side x = by_side side x.host x.drive

-- the block with this copy at a side, or with none there
abbrev pub with_copy : Side → Option Page → Block → Block
with_copy side copy x = record x { host = by_side side copy x.host; drive = by_side side x.drive copy }

abbrev pub lent_page : Option Loan → Option Page
lent_page None = None
lent_page (Some loan) = Some loan.page

-- Content: the lent page, else the host copy, else the drive copy, else the flash page where the block is written, else zeros
abbrev pub content : Block → Page
content x = page_or (lent_page x.lent) (page_or x.host (page_or x.drive (if x.written then x.flash else zero_page)))

abbrev pub contents : (ℕ → Block) → ℕ → Page
contents blocks b = content (blocks b)

-- a page of a file without a block there is zeros
abbrev pub page_of : (ℕ → Page) → Option ℕ → Page
page_of pages None = zero_page
page_of pages (Some b) = pages b

-- the block of a page of a call's span
abbrev pub span_block : Places → Claim → ℕ → Option ℕ
span_block places claim i = places claim.file (claim.reach.first + i)

-- a side has a copy of the block
abbrev pub has_copy : Block → Bool
has_copy x = if is_some x.host then true else is_some x.drive

-- neither cache has one
pub record InNeitherCache (x : Block) : Type 0 where
  pub host : x.host ≡ None
  pub drive : x.drive ≡ None

-- neither a cache nor a call has the block's page
pub record IsAway (x : Block) : Type 0 where
  pub host : x.host ≡ None
  pub drive : x.drive ≡ None
  pub lent : x.lent ≡ None

-- nobody has the block's page, and it is zeros that flash does not have
pub record IsBlank (x : Block) : Type 0 where
  pub away : IsAway x
  pub clean : x.clean ≡ true
  pub written : x.written ≡ false

abbrev pub is_blank : Block → Bool
is_blank x = x.clean && not x.written && not (has_copy x) && not (is_some x.lent)

-- in the unclean order
abbrev pub is_unclean : Block → Bool
is_unclean x = not x.clean && has_copy x

-- flash must be read for it: written, and in neither cache
abbrev pub is_missing : Block → Bool
is_missing x = x.written && not (has_copy x)

-- ---- where pages lie

abbrev pub die_of_page : Shape → ℕ → ℕ
die_of_page shape page = page % shape.dies

-- the die of a data block
abbrev pub die_of : Shape → ℕ → ℕ
die_of shape b = die_of_page shape (meta_pages shape.blocks + b)

-- the bytes of an image page: meta data, then data blocks
abbrev pub image_page : Shape → (ℕ → Page) → (ℕ → Page) → ℕ → Page
image_page shape meta flash page =
    if nat_lt page (meta_pages shape.blocks) then meta page else flash (page - meta_pages shape.blocks)

-- the pages of a die, in order
abbrev pub die_pages : Shape → (ℕ → Page) → (ℕ → Page) → ℕ → List Page
die_pages shape meta flash die =
    from_fn (die_share (total_pages shape.blocks) shape.dies die) (λ k. image_page shape meta flash (k * shape.dies + die))

abbrev pub flashes : (ℕ → Block) → ℕ → Page
flashes blocks b = (blocks b).flash
