-- What a job is told of its call from one event to the next. This project's own.
use Rattle.std.specs.Prelude.{◌≡◌, ◌≢◌, ◌<◌, ℕ, List, Some}
use Rattle.system_state.specs.Jobs.{JobView}

-- the same of a call: its claim, the code of its function, how many bytes it reads, its phase, and its gathered pages
pub record TellsSame (old new : JobView) : Type 0 where
  pub claim : new.flight.claim ≡ old.flight.claim
  pub code : new.code ≡ old.code
  pub readable : new.readable ≡ old.readable
  pub phase : new.flight.phase ≡ old.flight.phase
  pub gathered : (i : ℕ) → i < old.flight.claim.reach.pages → new.flight.gathered i ≡ old.flight.gathered i

-- the same, and a page that was gathered at a place of its span
pub record TellsOneMore (old new : JobView) (i : ℕ) (page : List ℕ) : Type 0 where
  pub claim : new.flight.claim ≡ old.flight.claim
  pub code : new.code ≡ old.code
  pub readable : new.readable ≡ old.readable
  pub phase : new.flight.phase ≡ old.flight.phase
  pub here : new.flight.gathered i ≡ Some page
  pub others : (k : ℕ) → k < old.flight.claim.reach.pages → k ≢ i → new.flight.gathered k ≡ old.flight.gathered k
