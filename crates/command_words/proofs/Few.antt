-- Fewer words than a key and its value.
use Rattle.std.proofs.Common.{◌≡◌, ℕ, ◌<◌, List, [], ◌∷◌, length, map, Bool, eqb, refl, arith}
use Rattle.std.specs.Prelude.{None}
use Rattle.command_words.specs.Options.{given, are_options}

-- none is given
pub none_given : {X : Type 0} (f : X → List ℕ) (key : List ℕ) (rest : List X) → length rest < 2 → None ≡ given key (map f rest)
none_given f key [] few = refl
none_given f key (x ∷ []) few = refl
none_given f key (x ∷ y ∷ rest) few = absurd (omega (arith, few))

-- they are options where there is no word
pub few_options : {X : Type 0} (f : X → List ℕ) (threads : Bool) (rest : List X) → length rest < 2 → eqb (length rest) 0 ≡ are_options threads (map f rest)
few_options f threads [] few = refl
few_options f threads (x ∷ []) few = refl
few_options f threads (x ∷ y ∷ rest) few = absurd (omega (arith, few))
