-- A script that is being read, and what its reader knows.
use Rattle.std.specs.Prelude.{◌≡◌, ℕ, ◌≤◌, ◌<◌, List, [], ◌∷◌, length, bytes_eq, Some, None, IfSome, IsTrue, false}
use Rattle.std.specs.List.{IsDistinct}
use Rattle.script_words.specs.declared.script.Lane.{Lane}
use Rattle.call_text.specs.declared.building.Await.{Await}
use Rattle.call_text.specs.declared.building.Building.{Building}
use Rattle.call_text.specs.Blocks.{Block, block_of}
use Rattle.script_words.specs.Lanes.{place_of, has_lane}
use Rattle.script_words.specs.Words.{is_lane}
use Rattle.call_text.specs.Scripts.{Reading, is_lane_past_limit}
use Rattle.script_words.specs.Lanes.{requests_by_lane, lane_names}
use Rattle.call_text.specs.Order.{InOrder, Awaited, HasEnded}

-- what is read so far
abbrev pub seen : Building → Reading
seen b = record {
  lanes = b.lanes.items;
  order = b.order.items;
  faults = b.faults.items;
  awaits = b.awaits.items;
  blocks = b.blocks;
  bytes = b.bytes;
  block = b.block;
  name = b.name.items;
  text = b.text.items;
}

-- each of some awaits is for a call that has been made
abbrev pub AreFor : List (ℕ × ℕ) → List Await → Type 0
AreFor order [] = Unit {0}
AreFor order (await ∷ awaits) = HasEnded order await.call × AreFor order awaits

-- what holds of the calls that are read, and of the awaits whose calls are still to come
pub record AreCalls (lanes : List Lane) (order : List (ℕ × ℕ)) (awaits : List Await) : Type 0 where
  pub ordered : InOrder (requests_by_lane lanes) [] order
  pub awaited : Awaited (requests_by_lane lanes) [] order
  pub names : IsDistinct bytes_eq (lane_names lanes)
  pub pending : AreFor order awaits
  pub few_lanes : length lanes ≤ 32
  pub few_calls : length order ≤ 10000

-- the same of what is built so far
abbrev pub HasCalls : Building → Type 0
HasCalls b = AreCalls b.lanes.items b.order.items b.awaits.items

-- no block has the name of the open one
pub record IsNew (blocks : List Block) (name : List ℕ) : Type 0 where
  pub is : block_of name blocks ≡ None

abbrev pub HasNewBlock : Building → Type 0
HasNewBlock b = IfSome b.block (λ line. IsNew b.blocks b.name.items)

-- what the reader keeps
abbrev pub IsKept : Building → Type 0
IsKept b = HasCalls b × HasNewBlock b

-- so few lanes and calls that their numbers fit 32 bits
pub record HasRoom (lanes : List Lane) : Type 0 where
  pub few_lanes : length lanes ≤ 32
  pub few_calls : (name : List ℕ) → (place_of name 0 lanes).1 ≤ 10000

-- the lane may come, if it is new
pub record FitsLane (name : List ℕ) (lanes : List Lane) : Type 0 where
  pub few : has_lane name lanes ≡ false → length lanes < 32

-- the line of a well formed lane breaks no limit
abbrev pub FitsLine : Building → List ℕ → List (List ℕ) → Type 0
FitsLine b name rest = IsTrue (is_lane name) → is_lane_past_limit (seen b) (Some name) rest ≡ false
