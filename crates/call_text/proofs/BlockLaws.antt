-- Blocks in a map.
use Rattle.std.proofs.Common.{◌≡◌, ℕ, List, [], ◌∷◌, ◌++◌, Bool, true, false, refl, ap, Some, None, cond, map}
use Rattle.std.specs.Map.{lookup}
use Rattle.std.specs.Cmp.Lexicographic.{pointwise}
use Rattle.std.specs.Bool.{nat_eq}
use Rattle.std.specs.Str.{bytes_eq}
use Rattle.indexmap.specs.IndexMap.{insert_entry}
use Rattle.call_text.specs.Blocks.{Block, block_of}

abbrev pub listed : {K : Type 0} → (K → List ℕ) → List (K × List ℕ) → List Block
listed text es = map (λ e. record { name = text e.0; code = e.1 }) es

pub same_lookup : {K : Type 0} (text : K → List ℕ) (name : List ℕ) (es : List (K × List ℕ)) → lookup (λ k. pointwise nat_eq name (text k)) es ≡ block_of name (listed text es)
same_lookup text name [] = refl
same_lookup text name (e ∷ es) = ap (cond (bytes_eq name (text e.0)) (Some e.1)) (same_lookup text name es)

put_one : {K : Type 0} (text : K → List ℕ) (k : K) (v : List ℕ) (e : K × List ℕ) (es : List (K × List ℕ)) (b : Bool) → bytes_eq (text k) (text e.0) ≡ b → cond b (Some e.1) (block_of (text k) (listed text es)) ≡ None → (block_of (text k) (listed text es) ≡ None → listed text (insert_entry (λ a c. pointwise nat_eq (text a) (text c)) es k v) ≡ listed text es ++ record { name = text k; code = v } ∷ []) → listed text (cond b ((e.0, v) ∷ es) (e ∷ insert_entry (λ a c. pointwise nat_eq (text a) (text c)) es k v)) ≡ record { name = text e.0; code = e.1 } ∷ (listed text es ++ record { name = text k; code = v } ∷ [])
put_one text k v e es true is new more = cc
put_one text k v e es false is new more = ap (λ r. record { name = text e.0; code = e.1 } ∷ r) (more new)

-- a new name comes last
pub put_last : {K : Type 0} (text : K → List ℕ) (k : K) (v : List ℕ) (es : List (K × List ℕ)) → block_of (text k) (listed text es) ≡ None → listed text (insert_entry (λ a b. pointwise nat_eq (text a) (text b)) es k v) ≡ listed text es ++ record { name = text k; code = v } ∷ []
put_last text k v [] new = refl
put_last text k v (e ∷ es) new = put_one text k v e es (bytes_eq (text k) (text e.0)) refl new (put_last text k v es)
