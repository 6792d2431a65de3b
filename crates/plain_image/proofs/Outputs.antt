-- A run keeps the length of its output.
use Rattle.std.proofs.Common.{◌≡◌, ℕ, zero, suc, ◌+◌, ◌-◌, List, [], ◌∷◌, length, Bool, true, false, cond, Option, Some, None, refl, subst}
use Rattle.std.specs.Prelude.{◌%◌, ◌^◌, nat_lt, slice_index, slice_set}
use Rattle.sbpf_insn.specs.declared.insn.Reg.{Reg}
use Rattle.sbpf_insn.specs.declared.insn.Size.{Size}
use Rattle.sbpf_insn.specs.declared.insn.Insn.{Insn}
use Rattle.sbpf_insn.specs.declared.insn.Insn.TheVariants as insn
use Rattle.sbpf_insn.specs.Cells.{at_slot}
use Rattle.sbpf_insn.specs.Machine.{Regions, Frame, State, Area, Context, Input, Output, Param, Stack, base, area_bytes, size_len, put_number, with_area, put_in, writable, load, store, load_writable, Next, Goes, Done, Access, Depth, address, top, after_slot, loaded, stored, call, target, leave, fetched_into, with_fetched, atomic_size, exchanged, act, step_at, step, Outcome, Ended, AccessTrap, DepthTrap, Spent, after, run_from, start, run}
use Rattle.sbpf_exec.proofs.Windows.{length-put_number}

-- where a step goes on, the output has so many bytes
abbrev Keeps : ℕ → Next → Type 0
Keeps k (Goes m) = length m.regions.output ≡ k
Keeps k (Done r0) = Unit {0}
Keeps k (Access a n) = Unit {0}
Keeps k Depth = Unit {0}

-- an output that a run ends with has so many bytes
abbrev pub EndsWith : ℕ → Outcome → Type 0
EndsWith k (Ended r0 output used) = length output ≡ k
EndsWith k (AccessTrap address size slot used) = Unit {0}
EndsWith k (DepthTrap slot used) = Unit {0}
EndsWith k Spent = Unit {0}

area_kept : (r : Regions) (s : Size) (a : Area) (i v : ℕ) → length (with_area r a (put_number s (area_bytes r a) i v)).output ≡ length r.output
area_kept r s Context i v = refl
area_kept r s Input i v = refl
area_kept r s Output i v = length-put_number s r.output i v
area_kept r s Param i v = refl
area_kept r s Stack i v = refl

loaded_kept : (m : State) (dst : Reg) (a : ℕ) (s : Size) (f : ℕ → ℕ) (o : Option ℕ) → Keeps (length m.regions.output) (loaded m dst a s f o)
loaded_kept m dst a s f None = tt
loaded_kept m dst a s f (Some v) = refl

put_kept : (m : State) (a : ℕ) (s : Size) (v : ℕ) (o : Option Area) → Keeps (length m.regions.output) (stored m a s (put_in m.regions s a v o))
put_kept m a s v None = tt
put_kept m a s v (Some area) = area_kept m.regions s area (a - base area) v

store_kept : (m : State) (registers : List ℕ) (top a : ℕ) (s : Size) (v : ℕ) → Keeps (length m.regions.output) (stored (record m { registers = registers }) a s (store m.regions top a s v))
unfolding store
store_kept m registers top a s v = put_kept (record m { registers = registers }) a s v (writable m.regions top a (size_len s))

exchanged_kept : (m : State) (a : ℕ) (s : Size) (new : ℕ → ℕ) (into : Option Reg) (o : Option ℕ) → Keeps (length m.regions.output) (exchanged m a s new into o)
exchanged_kept m a s new into None = tt
exchanged_kept m a s new into (Some old) = store_kept m (with_fetched m.registers into old) (top m) a s (new old)

leave_kept : (m : State) (frames : List Frame) → Keeps (length m.regions.output) (leave m frames)
leave_kept m [] = tt
leave_kept m (f ∷ frames) = refl

call_kept : (m : State) (to : ℕ) → Keeps (length m.regions.output) (call m to)
call_kept m to =
    let deeper : State = record {
      registers = slice_set m.registers 10 ((top m + 512) % 2 ^ 64);
      slot = to;
      frames = record { r6 = slice_index m.registers 6; r7 = slice_index m.registers 7; r8 = slice_index m.registers 8; r9 = slice_index m.registers 9; slot = after_slot m.slot 1 } ∷ m.frames;
      regions = m.regions;
    } in
    elim (nat_lt (length m.frames) 7) as (λ (b : Bool). Keeps (length m.regions.output) (cond b (Goes deeper) Depth)) [ true ↦ refl | false ↦ tt ]

act_kept : (i : Insn) (m : State) → Keeps (length m.regions.output) (act i m)
act_kept (insn.Alu wide o dst s) m = refl
act_kept (insn.MovSx wide width dst r) m = refl
act_kept (insn.Neg wide dst) m = refl
act_kept (insn.End o width dst) m = refl
act_kept (insn.Ja offset) m = refl
act_kept (insn.JaFar offset) m = refl
act_kept (insn.Jump wide c dst s offset) m = refl
act_kept (insn.Call offset) m = call_kept m (target m.slot offset)
act_kept insn.Exit m = leave_kept m m.frames
act_kept (insn.Load s dst b offset) m = loaded_kept m dst (address m.registers b offset) s _ (load m.regions (top m) (address m.registers b offset) s)
act_kept (insn.LoadSx s dst b offset) m = loaded_kept m dst (address m.registers b offset) s _ (load m.regions (top m) (address m.registers b offset) s)
act_kept (insn.StoreImm s b offset imm) m = store_kept m m.registers (top m) (address m.registers b offset) s _
act_kept (insn.StoreReg s b offset r) m = store_kept m m.registers (top m) (address m.registers b offset) s _
act_kept (insn.Atomic wide o fetch b offset r) m = exchanged_kept m (address m.registers b offset) (atomic_size wide) _ (fetched_into o fetch r) (load_writable m.regions (top m) (address m.registers b offset) (atomic_size wide))
act_kept (insn.LoadWide dst value) m = refl

at_kept : (o : Option Insn) (m : State) → Keeps (length m.regions.output) (step_at o m)
at_kept None m = tt
at_kept (Some i) m = act_kept i m

step_kept : (code : List Insn) (m : State) → Keeps (length m.regions.output) (step code m)
unfolding step
step_kept code m = at_kept (at_slot code m.slot) m

after_kept : (k : ℕ) (next : Next) (m : State) (used : ℕ) (go : State → Outcome) → length m.regions.output ≡ k → Keeps k next → ((n : State) → length n.regions.output ≡ k → EndsWith k (go n)) → EndsWith k (after next m used go)
after_kept k (Goes n) m used go is keeps goes = goes n keeps
after_kept k (Done r0) m used go is keeps goes = is
after_kept k (Access a n) m used go is keeps goes = tt
after_kept k Depth m used go is keeps goes = tt

from_kept : (n used : ℕ) (code : List Insn) (k : ℕ) (m : State) → length m.regions.output ≡ k → EndsWith k (run_from n used code m)
unfolding run_from
from_kept zero used code k m is = tt
from_kept (suc n) used code k m is = after_kept k (step code m) m (used + 1) (run_from n (used + 1) code) is (kept k is) (λ next same. from_kept n (used + 1) code k next same)
  where
    kept : (l : ℕ) → length m.regions.output ≡ l → Keeps l (step code m)
    kept l is = subst (λ x. Keeps x (step code m)) is (step_kept code m)

pub output_kept : (code : List Insn) (r : Regions) (fuel : ℕ) → EndsWith (length r.output) (run code r fuel)
output_kept code r fuel = from_kept fuel 0 code (length r.output) (start r) refl
