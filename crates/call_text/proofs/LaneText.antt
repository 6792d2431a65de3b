-- A lane's name is text.
use Rattle.std.proofs.Common.{◌≡◌, ℕ, zero, suc, ◌<◌, List, [], ◌∷◌, true, IsTrue, arith}
use Rattle.std.specs.List.{list_all}
use Rattle.std.specs.Str.{IsAscii, IsUtf8}
use Rattle.std.proofs.lemmas.Bool.Decides.{nat_tests}
use Rattle.std.proofs.lemmas.Str.{IsUtf8-from_ascii}
use Rattle.script_words.specs.Words.{is_lane_byte, is_lane}

below_128 : (b : ℕ) → is_lane_byte b ≡ true → b < 128
below_128 b h = grind (arith, nat_tests)

all_lane_bytes : (name : List ℕ) → IsTrue (is_lane name) → list_all is_lane_byte name ≡ true
all_lane_bytes name h = grind (arith, nat_tests)

first_of_all : (b : ℕ) (bs : List ℕ) → list_all is_lane_byte (b ∷ bs) ≡ true → is_lane_byte b ≡ true
first_of_all b bs h = grind (arith, nat_tests)

rest_of_all : (b : ℕ) (bs : List ℕ) → list_all is_lane_byte (b ∷ bs) ≡ true → list_all is_lane_byte bs ≡ true
rest_of_all b bs h = grind (arith, nat_tests)

all_below_128 : (bs : List ℕ) → list_all is_lane_byte bs ≡ true → IsAscii bs
all_below_128 [] h i = omega arith
all_below_128 (b ∷ bs) h zero = below_128 b (first_of_all b bs h)
all_below_128 (b ∷ bs) h (suc i) = all_below_128 bs (rest_of_all b bs h) i

pub IsUtf8-lane : (name : List ℕ) → IsTrue (is_lane name) → IsUtf8 name
IsUtf8-lane name h = IsUtf8-from_ascii name (all_below_128 name (all_lane_bytes name h))
