-- The labels of a text: names, and the slots that they stand for. This project's own.
use Rattle.std.specs.Prelude.{ℕ, List, [], ◌∷◌, Option, Some, None, if◌then◌else◌, bytes_eq}

-- the slot that a name stands for, or None where no label has it
abbrev pub slot_of : List ℕ → List (List ℕ × ℕ) → Option ℕ
slot_of name [] = None
slot_of name (e ∷ es) = if bytes_eq name e.0 then Some e.1 else slot_of name es
