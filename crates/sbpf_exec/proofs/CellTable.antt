-- A table of cells: a blank one mirrors any code, and one that mirrors still does with one cell more.
use Rattle.std.proofs.Common.{◌≡◌, ℕ, ◌+◌, ◌<◌, List, length, Option, Some, None, refl, sym, ap, ◌∙◌, arith, inl, inr, get_or}
use Rattle.std.proofs.Math.ListN.{set, replicate}
use Rattle.std.proofs.lemmas.List.{get_or-set_same, get_or-set_other, get_or-replicate, get_or_past, length-replicate}
use Rattle.std.proofs.lemmas.Bool.{cases_eq, cases_lt}
use Rattle.std.specs.Prelude.{IfSome, IsTrue}
use Rattle.sbpf_insn.specs.declared.insn.Insn.{Insn}
use Rattle.sbpf_insn.specs.Cells.{at_slot}
use Rattle.sbpf_insn.specs.Table.{is_well_formed}
use Rattle.sbpf_insn.specs.Machine.{State, Goes, step_at, step}
use Rattle.sbpf_exec.specs.Steps.{Reaches}
use Rattle.sbpf_exec.proofs.Runs.{reach_more}
use Rattle.sbpf_exec.specs.declared.cells.Cell.{Cell}
use Rattle.sbpf_exec.specs.declared.cells.Cell.TheVariants.{Other}
use Rattle.sbpf_exec.specs.FlatCells.{insn_of, is_formed, Stands, Mirrors}

blank_at : (n k : ℕ) → get_or (replicate n Other) k Other ≡ Other
blank_at n k = elim (cases_lt k n) [
  | inl lt ↦ get_or-replicate n k Other Other lt
  | inr le ↦ get_or_past (replicate n Other) k Other (omega (arith, length-replicate n Other))
]

stands_at : (c d : Cell) (begins : Option Insn) → c ≡ d → Stands (insn_of d) begins → Stands (insn_of c) begins
stands_at c d begins e stands = rw e stands

pub blank : (n : ℕ) (code : List Insn) → Mirrors (replicate n Other) code
blank n code = λ k. stands_at (get_or (replicate n Other) k Other) Other (at_slot code k) (blank_at n k) tt

pub stands_as : (o begins : Option Insn) (i : Insn) → IfSome o (λ j. j ≡ i) → begins ≡ Some i → IsTrue (is_well_formed i) → Stands o begins
stands_as None begins i is at formed = tt
stands_as (Some j) begins i is at formed = (at ∙ ap Some (sym is), rw is formed)

pub mirrors_more : (cells : List Cell) (code : List Insn) (slot : ℕ) (c : Cell) → Mirrors cells code → slot < length cells → Stands (insn_of c) (at_slot code slot) → Mirrors (set cells slot c) code
mirrors_more cells code slot c mirrors within stands = λ k. elim (cases_eq k slot) [
  | inl e ↦ rw e (stands_at (get_or (set cells slot c) slot Other) c (at_slot code slot) (get_or-set_same cells slot c Other within) stands)
  | inr ne ↦ stands_at (get_or (set cells slot c) k Other) (get_or cells k Other) (at_slot code k) (get_or-set_other cells slot k c Other ne) (mirrors k)
]

-- a cell that stands has a well-formed instruction
pub formed : (o begins : Option Insn) → Stands o begins → IsTrue (is_formed o)
formed None begins stands = refl
formed (Some i) begins stands = stands.1

-- where a cell that stands lets the run go on, the code does the same
pub goes_same : (o begins : Option Insn) (m next : State) → Stands o begins → step_at o m ≡ Goes next → step_at begins m ≡ Goes next
goes_same None begins m next stands goes = absurd cc
goes_same (Some i) begins m next stands goes = ap (λ (x : Option Insn). step_at x m) stands.0 ∙ goes

-- the same of a step of the code
pub step_goes : (o : Option Insn) (code : List Insn) (m next : State) → Stands o (at_slot code m.slot) → step_at o m ≡ Goes next → step code m ≡ Goes next
unfolding step
step_goes o code m next stands goes = goes_same o (at_slot code m.slot) m next stands goes

-- what was loaded is what a load gives
pub loaded_is : (o load : Option ℕ) → o ≡ load → IfSome o (λ v. load ≡ Some v)
loaded_is None load e = tt
loaded_is (Some v) load e = sym e

-- one step more, by a cell that stands
pub reach_cell : (o : Option Insn) (code : List Insn) (n k : ℕ) (m mid next : State) → Stands o (at_slot code mid.slot) → k ≡ n + 1 → Reaches n code m mid → step_at o mid ≡ Goes next → Reaches k code m next
unfolding step
reach_cell o code n k m mid next stands more reaches goes = reach_more n k code m mid next more reaches (goes_same o (at_slot code mid.slot) mid next stands goes)
