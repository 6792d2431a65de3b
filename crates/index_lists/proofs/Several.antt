-- Several lists of which one changes.
use Rattle.std.proofs.Common.{◌≡◌, ℕ, ◌<◌, List, [], length, get_or-set_same, get_or-set_other}
use Rattle.std.proofs.lemmas.List.{length-set}
use Rattle.std.specs.Prelude.{◌≢◌}
use Rattle.index_lists.specs.Lists.{Lists, list_at, with_list}

pub list_at-same : (s : Lists) (i : ℕ) (xs : List ℕ) → i < length s.lists → list_at (with_list s i xs) i ≡ xs
list_at-same s i xs l = get_or-set_same s.lists i xs [] l

pub list_at-other : (s : Lists) (i j : ℕ) (xs : List ℕ) → j ≢ i → list_at (with_list s i xs) j ≡ list_at s j
list_at-other s i j xs d = get_or-set_other s.lists i j xs [] d

pub length-with_list : (s : Lists) (i : ℕ) (xs : List ℕ) → length (with_list s i xs).lists ≡ length s.lists
length-with_list s i xs = length-set s.lists i xs
