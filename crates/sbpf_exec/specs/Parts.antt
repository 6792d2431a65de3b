-- The regions of a run: what they hold for a caller, and what the machine sees of them. This
-- project's own.
use Rattle.std.specs.Prelude.{◌≡◌, ℕ, ◌+◌, ◌-◌, ◌/◌, ◌%◌, ◌^◌, ◌≤◌, min, List, ◌++◌, length, take}
use Rattle.std.specs.Int.{w64, to_le_bytes}
use Rattle.sbpf_insn.specs.Machine as machine
use Rattle.sbpf_insn.specs.Machine.{base, Input, Output, Param, size_len}
use Rattle.sbpf_insn.specs.declared.insn.Size.{Size}
use Rattle.sbpf_exec.specs.declared.region.Region.{Region}
use Rattle.sbpf_exec.specs.declared.regions.Regions.{Regions}
use Rattle.sbpf_exec.specs.Buffers.{region_bytes, IsPlaced, DiffersWithin}

-- the buffers of input and output with their places, and the parameter
abbrev pub input_of : Regions → Region
input_of r = r.input

abbrev pub output_of : Regions → Region
output_of r = r.output

abbrev pub param_of : Regions → List ℕ
param_of r = r.param

-- the five regions as the machine's definitions have them: lists of bytes
abbrev pub machine_regions : Regions → machine.Regions
machine_regions r = record {
  context = r.context;
  input = take r.input_len (region_bytes r.input);
  output = take r.output_len (region_bytes r.output);
  param = r.param;
  stack = r.stack;
}

-- what the context holds: the base and the length of input, output and parameter
abbrev pub lengths_context : ℕ → ℕ → ℕ → List ℕ
lengths_context input output param =
    to_le_bytes w64 (base Input) ++ to_le_bytes w64 input
    ++ to_le_bytes w64 (base Output) ++ to_le_bytes w64 output
    ++ to_le_bytes w64 (base Param) ++ to_le_bytes w64 param

-- the lengths fit the buffers, no region is longer than 2 ^ 32 bytes, and context and stack have theirs
pub record IsShaped (r : Regions) : Type 0 where
  pub context : length r.context ≡ 48
  pub input : IsPlaced r.input r.input_len
  pub output : IsPlaced r.output r.output_len
  pub param : length r.param ≤ 2 ^ 32
  pub stack : length r.stack ≡ 4096

-- nothing differs but bytes of the output within its length, and of the stack
pub record WritesWithin (old new : Regions) : Type 0 where
  pub kept : new ≡ record old { output = new.output; stack = new.stack }
  pub output : DiffersWithin old.output_len old.output new.output

-- an access of this size lies wholly in the input, in the output, or in the stack below `top`
abbrev pub IsInInput : Regions → ℕ → Size → Type 0
IsInInput r address s = (address / 2 ^ 32 ≡ 2) × (address % 2 ^ 32 + size_len s ≤ r.input_len)

abbrev pub IsInOutput : Regions → ℕ → Size → Type 0
IsInOutput r address s = (address / 2 ^ 32 ≡ 3) × (address % 2 ^ 32 + size_len s ≤ r.output_len)

abbrev pub IsInStack : ℕ → ℕ → Size → Type 0
IsInStack top address s = (address / 2 ^ 32 ≡ 5) × (address % 2 ^ 32 + size_len s ≤ min 4096 (top - 0x500000000))
