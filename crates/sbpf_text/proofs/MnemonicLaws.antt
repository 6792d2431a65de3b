-- The mnemonics.
use Rattle.std.proofs.Common.{◌≡◌, ℕ, List, [], ◌∷◌, Bool, true, refl, arith}
use Rattle.std.specs.Prelude.{IfSome, IsTrue, bytes_eq}
use Rattle.std.specs.List.{find, list_all}
use Rattle.sbpf_text.specs.Mnemonics.{mnemonics, word_of, is_mnemonic, mnemonic_spelled}

found_passes : {X : Type 0} (p q : X → Bool) (xs : List X) → list_all q xs ≡ true → IfSome (find p xs) (λ x. IsTrue (q x))
found_passes p q [] all = tt
found_passes p q (x ∷ xs) all = grind (arith, found_passes p q xs)

all_mnemonics : list_all is_mnemonic mnemonics ≡ true
all_mnemonics = refl

pub is_mnemonic_found : (word : List ℕ) → IfSome (mnemonic_spelled word) (λ r. IsTrue (is_mnemonic r))
unfolding mnemonic_spelled
is_mnemonic_found word = found_passes (λ r. bytes_eq (word_of r) word) is_mnemonic mnemonics all_mnemonics
