-- The name before a zero byte, read byte by byte.
use Rattle.std.proofs.Common.{◌≡◌, ℕ, nat_eq, List, [], ◌∷◌, length, take, refl, arith}
use Rattle.std.specs.Prelude.{◌&&◌, not, ◌==◌, nat_lt, bytes_eq, slice_index}
use Rattle.std.specs.List.{list_any}
use Rattle.std.proofs.lemmas.Bool.Decides.{nat_tests}
use Rattle.std.proofs.lemmas.Grind.{common_steps}
use Rattle.elf_bpf.specs.Sections.{is_zero, up_to_zero, is_name}

step_nil : (b : ℕ) (rest : List ℕ) → is_name [] (up_to_zero (b ∷ rest)) ≡ is_zero b
step_nil b rest = grind (arith, common_steps)

step_cons : (b c : ℕ) (rest name : List ℕ) → is_name (c ∷ name) (up_to_zero (b ∷ rest)) ≡ (not (is_zero b) && (nat_eq b c && is_name name (up_to_zero rest)))
step_cons b c rest name = grind (arith, common_steps)

-- the name is there exactly where its bytes are, none of them zero, with a zero byte behind them
pub begins : (rest name : List ℕ) → is_name name (up_to_zero rest) ≡ (nat_lt (length name) (length rest) && (slice_index rest (length name) == 0 && (bytes_eq (take (length name) rest) name && not (list_any is_zero name))))
begins [] [] = refl
begins [] (c ∷ name) = grind (arith, nat_tests, common_steps)
begins (b ∷ rest) [] = grind (arith, step_nil b rest, nat_tests, common_steps)
begins (b ∷ rest) (c ∷ name) = let later = begins rest name in grind (arith, step_cons b c rest name, nat_tests, common_steps)
