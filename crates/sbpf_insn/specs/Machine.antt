-- The machine that runs code: a step of it, and a run. Instructions are those of RFC 9669; the
-- regions, the frames, the fuel and the traps are this project's own.
use Rattle.std.specs.Prelude.{ℕ, zero, suc, ◌+◌, ◌-◌, ◌*◌, ◌%◌, ◌^◌, ℤ, Bool, true, false, ◌&&◌, nat_le, nat_lt, List, [], ◌∷◌, ◌++◌, length, min, Option, Some, None, if◌then◌else◌, slice_index, slice_set, replicate}
use Rattle.std.specs.Int.{w16, w32, w64, cast_unsigned, to_le_bytes, from_le_bytes}
use Rattle.std.specs.List.{find}
use Rattle.sbpf_insn.specs.declared.insn.Reg.{Reg}
use Rattle.sbpf_insn.specs.declared.insn.Src.{Src}
use Rattle.sbpf_insn.specs.declared.insn.Src.TheVariants as src
use Rattle.sbpf_insn.specs.declared.insn.AtomicOp.{AtomicOp}
use Rattle.sbpf_insn.specs.declared.insn.AtomicOp.TheVariants as atomic
use Rattle.sbpf_insn.specs.declared.insn.Size.{Size}
use Rattle.sbpf_insn.specs.declared.insn.Size.TheVariants as size
use Rattle.sbpf_insn.specs.declared.insn.AluOp.TheVariants as op
use Rattle.sbpf_insn.specs.declared.insn.Insn.{Insn}
use Rattle.sbpf_insn.specs.declared.insn.Insn.TheVariants as insn
use Rattle.sbpf_insn.specs.Arithmetic.{alu64_of, alu32_of, movsx_of, swap_of, compare, extended, atomic_of}
use Rattle.sbpf_insn.specs.Cells.{at_slot}

-- ---- state

-- The bytes of the five regions. Only `output` and `stack` may be written.
pub record Regions : Type 0 where
  pub context : List ℕ
  pub input : List ℕ
  pub output : List ℕ
  pub param : List ℕ
  pub stack : List ℕ

-- what a call saves: r6 to r9, and the slot to return to
pub record Frame : Type 0 where
  pub r6 : ℕ
  pub r7 : ℕ
  pub r8 : ℕ
  pub r9 : ℕ
  pub slot : ℕ

-- eleven registers, the slot of the next instruction, and the saved frames, of which the last comes first
pub record State : Type 0 where
  pub registers : List ℕ
  pub slot : ℕ
  pub frames : List Frame
  pub regions : Regions

-- ---- memory

pub data Area : Type 0 where
  Context : Area
  Input : Area
  Output : Area
  Param : Area
  Stack : Area

abbrev pub base : Area → ℕ
base Context = 0x100000000
base Input = 0x200000000
base Output = 0x300000000
base Param = 0x400000000
base Stack = 0x500000000

abbrev pub area_bytes : Regions → Area → List ℕ
area_bytes r Context = r.context
area_bytes r Input = r.input
area_bytes r Output = r.output
area_bytes r Param = r.param
area_bytes r Stack = r.stack

-- how many bytes of an area may be used: of the stack those up to r10, which is `top`
abbrev pub area_len : Regions → ℕ → Area → ℕ
area_len r top Context = length r.context
area_len r top Input = length r.input
area_len r top Output = length r.output
area_len r top Param = length r.param
area_len r top Stack = min (length r.stack) (top - 0x500000000)

abbrev pub allows_write : Area → Bool
allows_write Output = true
allows_write Stack = true
allows_write _ = false

abbrev pub is_inside : Regions → ℕ → ℕ → ℕ → Area → Bool
is_inside r top address len a = nat_le (base a) address && nat_le (address + len) (base a + area_len r top a)

-- the area that an access lies in wholly, and that allows it
abbrev pub readable : Regions → ℕ → ℕ → ℕ → Option Area
readable r top address len = find (is_inside r top address len) (Context ∷ Input ∷ Output ∷ Param ∷ Stack ∷ [])

abbrev pub writable : Regions → ℕ → ℕ → ℕ → Option Area
writable r top address len = find (is_inside r top address len) (Output ∷ Stack ∷ [])

abbrev pub size_len : Size → ℕ
size_len size.B = 1
size_len size.H = 2
size_len size.W = 4
size_len size.Dw = 8

-- the number at a place, little-endian
abbrev pub number_at : Size → List ℕ → ℕ → ℕ
number_at size.B b i = slice_index b i
number_at size.H b i = from_le_bytes w16 (slice_index b i ∷ slice_index b (i + 1) ∷ [])
number_at size.W b i = from_le_bytes w32 (slice_index b i ∷ slice_index b (i + 1) ∷ slice_index b (i + 2) ∷ slice_index b (i + 3) ∷ [])
number_at size.Dw b i = from_le_bytes w64 (slice_index b i ∷ slice_index b (i + 1) ∷ slice_index b (i + 2) ∷ slice_index b (i + 3) ∷ slice_index b (i + 4) ∷ slice_index b (i + 5) ∷ slice_index b (i + 6) ∷ slice_index b (i + 7) ∷ [])

-- bytes written one after the other
abbrev pub put : List ℕ → ℕ → List ℕ → List ℕ
put b i [] = b
put b i (x ∷ xs) = put (slice_set b i x) (i + 1) xs

abbrev pub put_number : Size → List ℕ → ℕ → ℕ → List ℕ
put_number size.B b i v = slice_set b i (v % 2 ^ 8)
put_number size.H b i v = put b i (to_le_bytes w16 (v % 2 ^ 16))
put_number size.W b i v = put b i (to_le_bytes w32 (v % 2 ^ 32))
put_number size.Dw b i v = put b i (to_le_bytes w64 v)

abbrev pub with_area : Regions → Area → List ℕ → Regions
with_area r Context b = record r { context = b }
with_area r Input b = record r { input = b }
with_area r Output b = record r { output = b }
with_area r Param b = record r { param = b }
with_area r Stack b = record r { stack = b }

abbrev pub number_in : Regions → Size → ℕ → Option Area → Option ℕ
number_in r s address None = None
number_in r s address (Some a) = Some (number_at s (area_bytes r a) (address - base a))

abbrev pub put_in : Regions → Size → ℕ → ℕ → Option Area → Option Regions
put_in r s address v None = None
put_in r s address v (Some a) = Some (with_area r a (put_number s (area_bytes r a) (address - base a) v))

-- a load, and a store; None where it isn't allowed
unfoldable pub load : Regions → ℕ → ℕ → Size → Option ℕ
load r top address s = number_in r s address (readable r top address (size_len s))

unfoldable pub store : Regions → ℕ → ℕ → Size → ℕ → Option Regions
store r top address s v = put_in r s address v (writable r top address (size_len s))

-- the old value of an atomic operation, which has to lie where it may be written
unfoldable pub load_writable : Regions → ℕ → ℕ → Size → Option ℕ
load_writable r top address s = number_in r s address (writable r top address (size_len s))

-- ---- steps

-- What a step comes to: the machine goes on, it ends with r0, or it traps at an access that isn't
-- allowed or at a call too deep.
pub data Next : Type 0 where
  Goes : State → Next
  Done : ℕ → Next
  Access : (address size : ℕ) → Next
  Depth : Next

abbrev pub at : List ℕ → Reg → ℕ
at registers r = slice_index registers r.n

-- Slots are counted modulo 2 ^ 32; accepted code never comes near that.
abbrev pub after_slot : ℕ → ℕ → ℕ
after_slot slot n = (slot + n) % 2 ^ 32

-- on to the next instruction, with a register set
abbrev pub sets : State → Reg → ℕ → Next
sets m r v = Goes (record m { registers = slice_set m.registers r.n v; slot = after_slot m.slot 1 })

-- the slot at a distance k from the next one, slot + 1 + k
abbrev pub target : ℕ → ℤ → ℕ
target slot k = (slot + 1 + cast_unsigned w32 k) % 2 ^ 32

-- a base register and an offset, modulo 2 ^ 64
abbrev pub address : List ℕ → Reg → ℤ → ℕ
address registers r offset = (at registers r + cast_unsigned w64 offset) % 2 ^ 64

abbrev pub operand : List ℕ → Src → ℕ
operand registers (src.Imm k) = cast_unsigned w64 k
operand registers (src.Reg r) = at registers r

abbrev pub alu_of : Bool → Rattle.sbpf_insn.specs.declared.insn.AluOp.AluOp → ℕ → ℕ → ℕ
alu_of true o d s = alu64_of o d s
alu_of false o d s = alu32_of o d s

abbrev pub holds : Bool → Rattle.sbpf_insn.specs.declared.insn.Cond.Cond → ℕ → ℕ → Bool
holds true c a b = compare w64 c a b
holds false c a b = compare w32 c (a % 2 ^ 32) (b % 2 ^ 32)

abbrev pub neg_of : Bool → ℕ → ℕ
neg_of true d = alu64_of op.Sub 0 d
neg_of false d = alu32_of op.Sub 0 d

abbrev pub top : State → ℕ
top m = slice_index m.registers 10

abbrev pub jumped : Bool → ℕ → ℤ → ℕ
jumped taken slot k = if taken then target slot k else after_slot slot 1

abbrev pub loaded : State → Reg → ℕ → Size → (ℕ → ℕ) → Option ℕ → Next
loaded m dst a s f None = Access a (size_len s)
loaded m dst a s f (Some v) = sets m dst (f v)

abbrev pub stored : State → ℕ → Size → Option Regions → Next
stored m a s None = Access a (size_len s)
stored m a s (Some r) = Goes (record m { regions = r; slot = after_slot m.slot 1 })

abbrev pub size_width : Size → ℕ
size_width s = 8 * size_len s

abbrev pub load_step : State → Size → Reg → ℕ → (ℕ → ℕ) → Next
load_step m s dst a f = loaded m dst a s f (load m.regions (top m) a s)

abbrev pub store_step : State → Size → ℕ → ℕ → Next
store_step m s a v = stored m a s (store m.regions (top m) a s v)

-- a call saves r6 to r9 and moves r10 up by 512; there are at most seven saved frames
abbrev pub call : State → ℕ → Next
call m to =
    if nat_lt (length m.frames) 7
    then Goes (record {
      registers = slice_set m.registers 10 ((top m + 512) % 2 ^ 64);
      slot = to;
      frames = record { r6 = slice_index m.registers 6; r7 = slice_index m.registers 7; r8 = slice_index m.registers 8; r9 = slice_index m.registers 9; slot = after_slot m.slot 1 } ∷ m.frames;
      regions = m.regions;
    })
    else Depth

abbrev pub leave : State → List Frame → Next
leave m [] = Done (slice_index m.registers 0)
leave m (f ∷ frames) = Goes (record {
  registers = slice_set (slice_set (slice_set (slice_set (slice_set m.registers 6 f.r6) 7 f.r7) 8 f.r8) 9 f.r9) 10 ((top m + (2 ^ 64 - 512)) % 2 ^ 64);
  slot = f.slot;
  frames = frames;
  regions = m.regions;
})

-- the register that an old value goes into: r0 after compare-exchange, else the source where it is fetched
abbrev pub fetched_into : AtomicOp → Bool → Reg → Option Reg
fetched_into atomic.CmpXchg fetch r = Some (record { n = 0 })
fetched_into o fetch r = if fetch then Some r else None

abbrev pub with_fetched : List ℕ → Option Reg → ℕ → List ℕ
with_fetched registers None old = registers
with_fetched registers (Some r) old = slice_set registers r.n old

abbrev pub atomic_size : Bool → Size
atomic_size wide = if wide then size.Dw else size.W

-- the new value goes to memory, and the old one into a register
abbrev pub exchanged : State → ℕ → Size → (ℕ → ℕ) → Option Reg → Option ℕ → Next
exchanged m a s new into None = Access a (size_len s)
exchanged m a s new into (Some old) =
    stored (record m { registers = with_fetched m.registers into old }) a s (store m.regions (top m) a s (new old))

abbrev pub atomic_step : State → Size → ℕ → (ℕ → ℕ) → Option Reg → Next
atomic_step m s a new into = exchanged m a s new into (load_writable m.regions (top m) a s)

-- what each instruction does
abbrev pub act : Insn → State → Next
act (insn.Alu wide o dst s) m = sets m dst (alu_of wide o (at m.registers dst) (operand m.registers s))
act (insn.MovSx wide width dst r) m = sets m dst (movsx_of wide width (at m.registers r))
act (insn.Neg wide dst) m = sets m dst (neg_of wide (at m.registers dst))
act (insn.End o width dst) m = sets m dst (swap_of o width (at m.registers dst))
act (insn.Ja offset) m = Goes (record m { slot = target m.slot offset })
act (insn.JaFar offset) m = Goes (record m { slot = target m.slot offset })
act (insn.Jump wide c dst s offset) m =
    Goes (record m { slot = jumped (holds wide c (at m.registers dst) (operand m.registers s)) m.slot offset })
act (insn.Call offset) m = call m (target m.slot offset)
act insn.Exit m = leave m m.frames
act (insn.Load s dst b offset) m = load_step m s dst (address m.registers b offset) (λ v. v)
act (insn.LoadSx s dst b offset) m = load_step m s dst (address m.registers b offset) (extended (size_width s) 64)
act (insn.StoreImm s b offset imm) m = store_step m s (address m.registers b offset) (cast_unsigned w64 imm)
act (insn.StoreReg s b offset r) m = store_step m s (address m.registers b offset) (at m.registers r)
act (insn.Atomic wide o fetch b offset r) m =
    atomic_step m (atomic_size wide) (address m.registers b offset) (λ old. atomic_of wide o old (at m.registers r) (slice_index m.registers 0)) (fetched_into o fetch r)
act (insn.LoadWide dst value) m = Goes (record m { registers = slice_set m.registers dst.n value; slot = after_slot m.slot 2 })

-- one step; outside the code, where accepted code never comes, the machine is done
abbrev pub step_at : Option Insn → State → Next
step_at None m = Done (slice_index m.registers 0)
step_at (Some i) m = act i m

unfoldable pub step : List Insn → State → Next
step code m = step_at (at_slot code m.slot) m

-- ---- runs

-- The end of a run: with r0 and the output's bytes, at a trap with its slot, or for want of fuel.
pub data Outcome : Type 0 where
  Ended : (r0 : ℕ) (output : List ℕ) (used : ℕ) → Outcome
  AccessTrap : (address size slot used : ℕ) → Outcome
  DepthTrap : (slot used : ℕ) → Outcome
  Spent : Outcome

abbrev pub after : Next → State → ℕ → (State → Outcome) → Outcome
after (Goes m2) m used go = go m2
after (Done r0) m used go = Ended r0 m.regions.output used
after (Access a n) m used go = AccessTrap a n m.slot used
after Depth m used go = DepthTrap m.slot used

-- At most n more steps, where `used` were made. Each uses a unit of fuel, a wide load too, and one that
-- traps has used its own.
unfoldable pub run_from : ℕ → ℕ → List Insn → State → Outcome
run_from zero used code m = Spent
run_from (suc n) used code m = after (step code m) m (used + 1) (run_from n (used + 1) code)

-- The regions of a call: the context has the base and the length of input, output and parameter, and
-- the stack is zero.
abbrev pub context_of : List ℕ → List ℕ → List ℕ → List ℕ
context_of input output param =
    to_le_bytes w64 (base Input) ++ to_le_bytes w64 (length input)
    ++ to_le_bytes w64 (base Output) ++ to_le_bytes w64 (length output)
    ++ to_le_bytes w64 (base Param) ++ to_le_bytes w64 (length param)

abbrev pub shaped : List ℕ → List ℕ → List ℕ → Regions
shaped input output param = record {
  context = context_of input output param;
  input = input;
  output = output;
  param = param;
  stack = replicate 4096 0;
}

-- r1 points to the context and r10 to the end of the first frame of 512 bytes; all else is 0
abbrev pub start : Regions → State
start r = record {
  registers = 0 ∷ 0x100000000 ∷ 0 ∷ 0 ∷ 0 ∷ 0 ∷ 0 ∷ 0 ∷ 0 ∷ 0 ∷ 0x500000200 ∷ [];
  slot = 0;
  frames = [];
  regions = r;
}

-- a whole run with so much fuel
abbrev pub run : List Insn → Regions → ℕ → Outcome
run code r fuel = run_from fuel 0 code (start r)
