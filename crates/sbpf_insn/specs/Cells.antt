-- Code slot by slot: an instruction has one slot, a wide load two (RFC 9669, section 3.2).
use Rattle.std.specs.Prelude.{◌≡◌, ℕ, ◌<◌, ◌≤◌, ◌^◌, List, [], ◌∷◌, ◌++◌, length, Option, Some, None, slice_get}
use Rattle.sbpf_insn.specs.declared.insn.Insn.{Insn}
use Rattle.sbpf_insn.specs.declared.insn.Insn.TheVariants.{LoadWide}
use Rattle.sbpf_insn.specs.Program.{AreProper}

-- the slots of an instruction: it stands in its first
abbrev pub cells_of : Insn → List (Option Insn)
cells_of (LoadWide dst value) = Some (LoadWide dst value) ∷ None ∷ []
cells_of i = Some i ∷ []

-- slot by slot, the instruction that begins there, or None at a second slot
abbrev pub cells : List Insn → List (Option Insn)
cells [] = []
cells (i ∷ code) = cells_of i ++ cells code

abbrev pub slots : List Insn → ℕ
slots code = length (cells code)

abbrev pub flat : {X : Type 0} → Option (Option X) → Option X
flat None = None
flat (Some o) = o

-- the instruction that begins at a slot; None at a second slot or past the end
abbrev pub at_slot : List Insn → ℕ → Option Insn
at_slot code slot = flat (slice_get (cells code) slot)

-- the instructions of the slots
abbrev pub insns_of : List (Option Insn) → List Insn
insns_of [] = []
insns_of (None ∷ rest) = insns_of rest
insns_of (Some i ∷ rest) = i ∷ insns_of rest

-- one instruction, or none
abbrev pub insns : Option Insn → List Insn
insns None = []
insns (Some i) = i ∷ []

-- the slots are those of proper code, and slot numbers fit 32 bits
pub record IsCode (slots : List (Option Insn)) : Type 0 where
  pub laid : cells (insns_of slots) ≡ slots
  pub proper : AreProper (insns_of slots)
  pub short : length slots < 2 ^ 32

-- what `Code` keeps of its slots and its room, with `capacity` for so many slots
pub record Holds (slots : List (Option Insn)) (room capacity : ℕ) : Type 0 where
  pub code : IsCode slots
  pub held : room ≤ capacity
