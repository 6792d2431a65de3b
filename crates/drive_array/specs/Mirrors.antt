-- Mirrors just made of two lists of dies. This project's own.
use Rattle.std.specs.Prelude.{◌≡◌, ◌<◌, ◌^◌, List, [], ◌∷◌, length, ⊤, replicate}
use Rattle.flash_die.specs.Dies.{DieView}
use Rattle.mirror_die.specs.Mirror.{MirrorView, AreEqual, TellsMost}
use Rattle.mirror_die.specs.declared.freshness.Fresh.TheVariants.{OnBoth}
use Rattle.flash_die.specs.declared.plan.Plan.{Plan}

-- a mirror of two dies, each page fresh on both
abbrev pub mirror_of : DieView → DieView → MirrorView
mirror_of first second = record { first = first; second = second; fresh = replicate first.size OnBoth; faults = 0 }

-- of each die and the one beside it
abbrev pub beside : {X : Type 0} → (DieView → DieView → X) → List DieView → List DieView → List X
beside make [] seconds = []
beside make (first ∷ firsts) [] = []
beside make (first ∷ firsts) (second ∷ seconds) = make first second ∷ beside make firsts seconds

-- what two dies need to be mirrored
pub record CanMirror (first second : DieView) : Type 0 where
  pub sizes : first.size ≡ second.size
  pub same : AreEqual first.pages second.pages
  pub first_most : TellsMost first
  pub second_most : TellsMost second

-- as many dies in one list as in the other, and each can be mirrored with the one beside it
abbrev pub ArePairs : List DieView → List DieView → Type 0
ArePairs [] [] = ⊤
ArePairs [] (second ∷ seconds) = ⊥
ArePairs (first ∷ firsts) [] = ⊥
ArePairs (first ∷ firsts) (second ∷ seconds) = CanMirror first second × ArePairs firsts seconds

-- a plan that lists few enough numbers to lie in memory
pub record IsShort (plan : Plan) : Type 0 where
  pub reads : length plan.reads < 2 ^ 62
  pub writes : length plan.writes < 2 ^ 62
