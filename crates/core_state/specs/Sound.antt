-- What holds of each block by itself: the conditions Copies, Clean and Unclean. This project's own.
use Rattle.std.specs.Prelude.{◌≡◌, true, false, length, Some}
use Rattle.page_base.specs.Bytes.{zero_page}
use Rattle.core_state.specs.State.{Page, Loan, Block}
use Rattle.core_state.specs.Contents.{IsAway, content}

-- every copy and lent page of a block is its content; pages have 4,096 bytes
pub record HasCopies (x : Block) : Type 0 where
  pub host : (p : Page) → x.host ≡ Some p → p ≡ content x
  pub drive : (p : Page) → x.drive ≡ Some p → p ≡ content x
  pub lent : (loan : Loan) → x.lent ≡ Some loan → loan.page ≡ content x
  pub whole : length (content x) ≡ 4096
  pub flash : length x.flash ≡ 4096

-- a clean block is written and its flash page is its content, or is unwritten and its content is zeros
pub record IsKept (x : Block) : Type 0 where
  pub written : x.clean ≡ true → x.written ≡ true → x.flash ≡ content x
  pub unwritten : x.clean ≡ true → x.written ≡ false → content x ≡ zero_page

-- an unclean block has a copy or is lent
abbrev pub IsInHand : Block → Type 0
IsInHand x = x.clean ≡ false → IsAway x → ⊥
