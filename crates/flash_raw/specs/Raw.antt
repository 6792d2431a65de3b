-- What is told of raw flash, and what its calls make of that. This project's own.
use Rattle.std.specs.Prelude.{◌≡◌, ℕ, ◌+◌, ◌*◌, ◌/◌, ◌^◌, ◌<◌, ◌≤◌, Bool, true, false, List, ◌++◌, length, take, drop, replicate, get_or, set, Option, Some, None, is_some, IsTrue, IfSome}

-- each page, erased (None) or programmed with its bytes; how many erase blocks there are, how many calls have failed, and a number that these never pass
pub record RawView : Type 0 where
  pub pages : List (Option (List ℕ))
  pub blocks : ℕ
  pub faults : ℕ
  pub most : Option ℕ

-- what holds of all raw flash: 64 pages for each block, and a programmed page has 4,096 bytes
pub record IsRaw (raw : RawView) : Type 0 where
  pub whole : length raw.pages ≡ 64 * raw.blocks
  pub each_whole : (page : ℕ) (bytes : List ℕ) → get_or raw.pages page None ≡ Some bytes → length bytes ≡ 4096
  pub few : raw.blocks < 2 ^ 26
  pub bounded : IfSome raw.most (λ most. raw.faults ≤ most)

-- the page is there and programmed
abbrev pub IsProgrammed : List (Option (List ℕ)) → ℕ → Type 0
IsProgrammed pages page = IsTrue (is_some (get_or pages page None))

-- the page is the lowest erased page of its block
pub record IsNextErased (pages : List (Option (List ℕ))) (page : ℕ) : Type 0 where
  pub within : page < length pages
  pub erased : get_or pages page None ≡ None
  pub below : (lower : ℕ) → lower < page → lower / 64 ≡ page / 64 → IsProgrammed pages lower

-- the pages with those of one block erased
abbrev pub erased_block : List (Option (List ℕ)) → ℕ → List (Option (List ℕ))
erased_block pages block = take (64 * block) pages ++ replicate 64 None ++ drop (64 * block + 64) pages

-- no call changes the number of blocks nor the bound of the faults; these never fall, and rise where the call fails
pub record RawCounts (old : RawView) (good : Bool) (new : RawView) : Type 0 where
  pub blocks : new.blocks ≡ old.blocks
  pub most : new.most ≡ old.most
  pub later : old.faults ≤ new.faults
  pub failed : good ≡ false → old.faults < new.faults

-- a read, from the page's buffer as it was to what it is after
pub record RawRead (old : RawView) (page : ℕ) (good : Bool) (before after : List ℕ) (new : RawView) : Type 0 where
  pub counts : RawCounts old good new
  pub pages : new.pages ≡ old.pages
  pub ok : good ≡ true → get_or old.pages page None ≡ Some after
  pub err : good ≡ false → after ≡ before

-- a page was programmed with some bytes, and the others are the same
pub record ProgramsOnly (old : List (Option (List ℕ))) (page : ℕ) (new : List (Option (List ℕ))) : Type 0 where
  pub left : List ℕ
  pub same : new ≡ set old page (Some left)

-- the programming of a page with these bytes
pub record RawProgram (old : RawView) (page : ℕ) (good : Bool) (bytes : List ℕ) (new : RawView) : Type 0 where
  pub counts : RawCounts old good new
  pub ok : good ≡ true → new.pages ≡ set old.pages page (Some bytes)
  pub err : good ≡ false → ProgramsOnly old.pages page new.pages

-- the erasing of a block
pub record RawErase (old : RawView) (block : ℕ) (good : Bool) (new : RawView) : Type 0 where
  pub counts : RawCounts old good new
  pub ok : good ≡ true → new.pages ≡ erased_block old.pages block
  pub err : good ≡ false → new.pages ≡ old.pages
