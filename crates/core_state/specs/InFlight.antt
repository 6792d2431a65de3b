-- The calls in flight, their locks and their loans: the conditions Lent, Locked and InFlight. This project's own.
use Rattle.std.specs.Prelude.{◌≡◌, ◌⊎◌, ◌≢◌, ℕ, ◌<◌, ◌≤◌, true, false, Option, Some, None, is_some}
use Rattle.dispatcher.specs.declared.side.Side.TheVariants.{Host, Drive}
use Rattle.plain_files.specs.Plain.{State, early}
use Rattle.core_state.specs.State.{Loan, Block, Names, Places, Shared, Exclusive, Reach, Claim, OnLoan, Held, Flight}
use Rattle.core_state.specs.Contents.{InNeitherCache, span_block}
use Rattle.core_state.specs.Reach.{is_lambda, is_data, is_sync, file_for, function_for, claim_for}

-- what Begin fixed, by lane
abbrev pub claim_of : Option Flight → Option Claim
claim_of None = None
claim_of (Some call) = Some call.claim

abbrev pub claims : (ℕ → Option Flight) → ℕ → Option Claim
claims calls lane = claim_of (calls lane)

-- ---- loans

-- the block is a page of the span of the lane's call, which has an exclusive range, and the page that it gathered there is the lent one
pub record IsLentTo (places : Places) (calls : ℕ → Option Flight) (b : ℕ) (loan : Loan) : Type 0 where
  pub call : Flight
  pub flies : calls loan.lane ≡ Some call
  pub mode : call.claim.reach.mode ≡ Exclusive
  pub i : ℕ
  pub within : i < call.claim.reach.pages
  pub block : span_block places call.claim i ≡ Some b
  pub gathered : call.gathered i ≡ Some loan.page
  pub frame : call.frame i ≡ OnLoan

-- and what a call has as a loan is a block lent to it
pub record IsLoanOf (places : Places) (blocks : ℕ → Block) (lane : ℕ) (claim : Claim) (i : ℕ) : Type 0 where
  pub b : ℕ
  pub loan : Loan
  pub block : span_block places claim i ≡ Some b
  pub lent : (blocks b).lent ≡ Some loan
  pub lane_is : loan.lane ≡ lane

pub record Lent (places : Places) (calls : ℕ → Option Flight) (blocks : ℕ → Block) : Type 0 where
  pub alone : (b : ℕ) (loan : Loan) → (blocks b).lent ≡ Some loan → InNeitherCache (blocks b)
  pub held : (b : ℕ) (loan : Loan) → (blocks b).lent ≡ Some loan → IsLentTo places calls b loan
  pub loans : (lane : ℕ) (call : Flight) → calls lane ≡ Some call → (i : ℕ) → i < call.claim.reach.pages →
      call.frame i ≡ OnLoan → IsLoanOf places blocks lane call.claim i

-- ---- locks

pub record InRange (reach : Reach) (page : ℕ) : Type 0 where
  pub low : reach.from ≤ page
  pub high : page < reach.to

-- two calls whose ranges in one file have a page in common are both shared
abbrev pub LocksApart : (ℕ → Option Claim) → Type 0
LocksApart held =
    (l m : ℕ) (a b : Claim) (page : ℕ) → held l ≡ Some a → held m ≡ Some b → l ≢ m → a.file ≡ b.file →
    InRange a.reach page → InRange b.reach page → (a.reach.mode ≡ Shared) × (b.reach.mode ≡ Shared)

-- the file and the function of a call are there; a `sync` has neither
pub record AreThere (names : Names) (claim : Claim) : Type 0 where
  pub file : is_sync claim.request.call ≡ false → is_some (file_for names.files claim.request.call) ≡ true
  pub function : is_lambda claim.request.call ≡ true → is_some (function_for names.functions claim.request.call) ≡ true

pub record Locked (names : Names) (held : ℕ → Option Claim) : Type 0 where
  pub apart : LocksApart held
  pub there : (lane : ℕ) (a : Claim) → held lane ≡ Some a → AreThere names a

-- ---- what was fixed at Begin is still so

-- It is a data call or a `sync`. File, span and range are those of the request in this state, and nothing refuses it early; only a call
-- with a function runs in the drive.
pub record IsRight (names : Names) (plain : State) (claim : Claim) : Type 0 where
  pub kind : (is_data claim.request.call ≡ true) ⊎ (is_sync claim.request.call ≡ true)
  pub same : claim ≡ claim_for names.files claim.request claim.side
  pub not_early : early plain claim.request.call ≡ None
  pub drive : claim.side ≡ Drive → is_lambda claim.request.call ≡ true

pub record InFlight (names : Names) (plain : State) (calls : ℕ → Option Flight) : Type 0 where
  pub right : (lane : ℕ) (a : Claim) → claims calls lane ≡ Some a → IsRight names plain a
  pub host : (lane : ℕ) (call : Flight) → calls lane ≡ Some call → call.claim.side ≡ Host → call.phase ≡ Held
