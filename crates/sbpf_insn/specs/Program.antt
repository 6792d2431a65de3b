-- Code as contracts see it. This project's own.
use Rattle.std.specs.Prelude.{◌≡◌, ℕ, true, List}
use Rattle.std.specs.List.{list_all}
use Rattle.sbpf_insn.specs.declared.insn.Insn.{Insn}
use Rattle.sbpf_insn.specs.Table.{is_well_formed}
use Rattle.sbpf_insn.specs.Ranges.{fits_fields}

-- the instructions in order, and how many slots of other code can be copied over them without memory
pub record Program : Type 0 where
  pub insns : List Insn
  pub room : ℕ

-- each instruction is well formed, and its numbers fit its fields
pub record AreProper (insns : List Insn) : Type 0 where
  pub formed : list_all is_well_formed insns ≡ true
  pub fit : list_all fits_fields insns ≡ true
