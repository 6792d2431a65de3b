-- What the code of a predicate does, and when there is none. This project's own.
use Rattle.std.specs.Prelude.{◌≡◌, ℕ, ◌+◌, ◌-◌, ◌*◌, ◌^◌, ◌<◌, ◌≤◌, min, List, [], ◌++◌, length, drop, Option, Some, None, Result, Ok, Err}
use Rattle.std.specs.Int.{w32, to_le_bytes}
use Rattle.std.specs.List.{flat_map}
use Rattle.sbpf_insn.specs.declared.insn.Insn.{Insn}
use Rattle.sbpf_insn.specs.Machine.{Outcome, Ended, AccessTrap, DepthTrap, Spent, run, shaped}
use Rattle.predicates.specs.declared.pred.Pred.{Pred}
use Rattle.predicates.specs.Nodes.{nodes}
use Rattle.predicates.specs.Fields.{field_fault}
use Rattle.predicates.specs.Select.{records, select}
use Rattle.pred_compile.specs.declared.compiling.PredErr.{PredErr}
use Rattle.pred_compile.specs.declared.compiling.PredErr.TheVariants as err

-- the run is done with r0, and the output has these bytes
abbrev pub EndsWith : Outcome → ℕ → List ℕ → Type 0
EndsWith (Ended r o used) r0 output = (r ≡ r0) × (o ≡ output)
EndsWith (AccessTrap address size slot used) r0 output = ⊥
EndsWith (DepthTrap slot used) r0 output = ⊥
EndsWith Spent r0 output = ⊥

-- numbers of 32 bits, low byte first
abbrev pub listed : List ℕ → List ℕ
listed numbers = flat_map (to_le_bytes w32) numbers

-- so much fuel is enough for so many records
abbrev pub enough_fuel : Pred → ℕ → ℕ
enough_fuel p count = 32 + count * (32 + 16 * nodes p)

-- Over any input, any output with room for a number of 32 bits for each record, an empty parameter and
-- enough fuel, the run of the code is done with r0 four times as many as records are selected. The output
-- begins with their numbers and is otherwise unchanged.
abbrev pub Selects : List Insn → Pred → ℕ → Type 0
Selects code p width =
    (input output : List ℕ) (fuel : ℕ)
    → length input ≤ 2 ^ 32 → length output ≤ 2 ^ 32
    → 4 * records width input ≤ length output
    → enough_fuel p (records width input) ≤ fuel
    → EndsWith (run code (shaped input output []) fuel)
    (4 * length (select p width input))
    (listed (select p width input) ++ drop (4 * length (select p width input)) output)

-- no more than 200 nodes, and a record of this width has all fields
pub record IsCompiled (p : Pred) (width : ℕ) : Type 0 where
  pub few : nodes p ≤ 200
  pub sound : field_fault p width ≡ None

-- When each answer comes. Want of memory comes only where there is code.
abbrev pub Compiles : Result (List Insn) PredErr → Pred → ℕ → Type 0
Compiles (Ok code) p width = IsCompiled p width × Selects code p width
Compiles (Err (err.Nodes count)) p width = (200 < nodes p) × (count ≡ min (nodes p) (2 ^ 64 - 1))
Compiles (Err (err.Field node)) p width = (nodes p ≤ 200) × (field_fault p width ≡ Some node)
Compiles (Err err.NoMemory) p width = IsCompiled p width
