-- Which block has which page of which file: the conditions Placed and Tails. This project's own.
use Rattle.std.specs.Prelude.{◌≡◌, ◌≢◌, ℕ, ◌+◌, ◌*◌, ◌<◌, ◌≤◌, nat_lt, get_or, Some, is_some}
use Rattle.std.specs.List.{Contains}
use Rattle.page_base.specs.Bytes.{Pages}
use Rattle.page_base.specs.Drive.{IsDrive}
use Rattle.core_state.specs.Words.{EachBehind}
use Rattle.core_state.specs.State.{Page, Shape, Block, File, Function, Names, Places}
use Rattle.core_state.specs.Contents.{IsBlank, page_of}

-- no page of a file has the block
abbrev pub IsFree : Places → ℕ → Type 0
IsFree places b = (id p : ℕ) → places id p ≢ Some b

-- files stand by rising id, so that ids are distinct
pub record AreNamed (names : Names) : Type 0 where
  pub ids : EachBehind (λ (f g : File). f.id < g.id) names.files
  pub names_apart : EachBehind (λ (f g : File). f.name ≢ g.name) names.files
  pub functions_apart : EachBehind (λ (f g : Function). f.name ≢ g.name) names.functions
  pub ids_below : (f : File) → Contains names.files f → f.id < names.next

-- each file has a block for exactly its pages below Pages(length), no block has two places, and blocks are those of the drive
pub record HavePlaces (shape : Shape) (names : Names) (places : Places) : Type 0 where
  pub exact : (f : File) → Contains names.files f → (p : ℕ) → is_some (places f.id p) ≡ nat_lt p (Pages f.len)
  pub owned : (id p b : ℕ) → places id p ≡ Some b → (f : File) × Contains names.files f × (f.id ≡ id)
  pub apart : (f g p q b : ℕ) → places f p ≡ Some b → places g q ≡ Some b → (f ≡ g) × (p ≡ q)
  pub within : (id p b : ℕ) → places id p ≡ Some b → b < shape.blocks

pub record Placed (shape : Shape) (names : Names) (places : Places) (blocks : ℕ → Block) : Type 0 where
  pub drive : IsDrive shape.blocks shape.dies
  pub have : HavePlaces shape names places
  pub free : (b : ℕ) → IsFree places b → IsBlank (blocks b)
  pub named : AreNamed names

-- bytes past a file's length are zeros
abbrev pub Tails : Names → Places → (ℕ → Page) → Type 0
Tails names places pages =
    (f : File) → Contains names.files f → (p j : ℕ) → j < 4096 → f.len ≤ 4096 * p + j → get_or (page_of pages (places f.id p)) j 0 ≡ 0
