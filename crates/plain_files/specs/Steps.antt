-- Steps that may be refused, one after another: the `?` of definitions.
use Rattle.std.specs.Prelude.{Bool, if◌then◌else◌, Result, Ok, Err}

-- the next step, where the first gave a value to go on with
infixl 10 ◌>>=◌
abbrev pub ◌>>=◌ : {A B E : Type 0} → Result A E → (A → Result B E) → Result B E
(Ok x) >>= next = next x
(Err e) >>= next = Err e

-- stops with the refusal where the test holds
abbrev pub refuse : {E : Type 0} → Bool → E → Result (Unit {0}) E
refuse test refusal = if test then Err refusal else Ok tt
