-- The index of names: the ids of files by a hash of their names. It is this project's own, and no caller sees it.
use Rattle.std.specs.Prelude.{ℕ, ◌+◌, ◌*◌, ◌%◌, ◌≤◌, ◌==◌, List, [], ◌∷◌, fold, filter, nat_lt, if◌then◌else◌}
use Rattle.name_table.specs.declared.index.Hashed.{Hashed}

-- the hash of a name: its bytes as the digits of a number to the base 31, modulo 2^32
unfoldable pub hash_of : List ℕ → ℕ
hash_of name = fold (λ hash byte. (hash * 31 + byte) % 4294967296) 0 name

abbrev pub entry : ℕ → ℕ → Hashed
entry hash id = record { hash = hash; id = id }

-- the entries, and for how many there is room
pub record Indexed : Type 0 where
  pub entries : List Hashed
  pub room : ℕ

-- the entries with a hash, in their order
abbrev pub of_hash : ℕ → List Hashed → List Hashed
of_hash hash entries = filter (λ e. e.hash == hash) entries

-- the entries without the first one of an id
abbrev pub without_id : ℕ → List Hashed → List Hashed
without_id id [] = []
without_id id (e ∷ es) = if e.id == id then es else e ∷ without_id id es

-- how many of the first entries have a lower hash
abbrev pub before : ℕ → List Hashed → ℕ
before hash [] = 0
before hash (e ∷ es) = if nat_lt e.hash hash then before hash es + 1 else 0

-- hashes never fall, from a lowest one on
abbrev pub RisesFrom : ℕ → List Hashed → Type 0
RisesFrom low [] = Unit {0}
RisesFrom low (e ∷ es) = (low ≤ e.hash) × RisesFrom e.hash es
