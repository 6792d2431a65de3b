-- A run leaves the length of its output.
use Rattle.std.proofs.Common.{◌≡◌, ℕ, zero, suc, ◌+◌, Bool, true, false, List, [], ◌∷◌, length, Option, Some, None, refl, sym, ap, ◌∙◌, subst, ◌-◌}
use Rattle.std.specs.Int.{w16, w32, w64, cast_unsigned, to_le_bytes}
use Rattle.sbpf_insn.specs.Arithmetic.{extended, atomic_of}
use Rattle.std.specs.Prelude.{slice_set, slice_index, ◌%◌, ◌^◌, if◌then◌else◌, nat_lt}
use Rattle.std.proofs.lemmas.List.{length-set}
use Rattle.sbpf_insn.specs.declared.insn.Size.{Size}
use Rattle.sbpf_insn.specs.declared.insn.Size.TheVariants as size
use Rattle.sbpf_insn.specs.declared.insn.Reg.{Reg}
use Rattle.sbpf_insn.specs.declared.insn.Insn.{Insn}
use Rattle.sbpf_insn.specs.declared.insn.Insn.TheVariants as insn
use Rattle.sbpf_insn.specs.Cells.{at_slot}
use Rattle.sbpf_insn.specs.Machine.{Regions, Frame, State, Area, Context, Input, Output, Param, Stack, base, area_bytes, put, put_number, with_area, put_in, load, store, load_writable, Next, Goes, Done, Access, Depth, top, at, after_slot, target, address, writable, size_len, size_width, atomic_size, fetched_into, with_fetched, loaded, stored, store_step, call, leave, exchanged, act, step_at, step, Outcome, Ended, after, run_from, start, run}

put_length : (xs b : List ℕ) (i : ℕ) → length (put b i xs) ≡ length b
put_length [] b i = refl
put_length (x ∷ xs) b i = put_length xs (slice_set b i x) (i + 1) ∙ length-set b i x

number_length : (s : Size) (b : List ℕ) (i v : ℕ) → length (put_number s b i v) ≡ length b
number_length size.B b i v = length-set b i (v % 2 ^ 8)
number_length size.H b i v = put_length (to_le_bytes w16 (v % 2 ^ 16)) b i
number_length size.W b i v = put_length (to_le_bytes w32 (v % 2 ^ 32)) b i
number_length size.Dw b i v = put_length (to_le_bytes w64 v) b i

area_length : (r : Regions) (a : Area) (b : List ℕ) → length b ≡ length (area_bytes r a) → length (with_area r a b).output ≡ length r.output
area_length r Context b e = refl
area_length r Input b e = refl
area_length r Output b e = e
area_length r Param b e = refl
area_length r Stack b e = refl

-- the machine that goes on has an output of this length
abbrev IsAsLong : ℕ → Next → Type 0
IsAsLong n (Goes m) = length m.regions.output ≡ n
IsAsLong n (Done r0) = Unit {0}
IsAsLong n (Access a k) = Unit {0}
IsAsLong n Depth = Unit {0}

stored_long : (m : State) (a : ℕ) (s : Size) (n : ℕ) (o : Option Regions) → ((r : Regions) → o ≡ Some r → length r.output ≡ n) → IsAsLong n (stored m a s o)
stored_long m a s n None h = tt
stored_long m a s n (Some r) h = h r refl

put_in_long : (r : Regions) (s : Size) (a v : ℕ) (o : Option Area) (r2 : Regions) → put_in r s a v o ≡ Some r2 → length r2.output ≡ length r.output
put_in_long r s a v None r2 e = absurd (cc)
put_in_long r s a v (Some area) r2 e =
    let same : with_area r area (put_number s (area_bytes r area) (a - base area) v) ≡ r2 = cc in
    sym (ap (λ (w : Regions). length w.output) same) ∙ area_length r area (put_number s (area_bytes r area) (a - base area) v) (number_length s (area_bytes r area) (a - base area) v)

store_long : (r : Regions) (t a : ℕ) (s : Size) (v : ℕ) (r2 : Regions) → store r t a s v ≡ Some r2 → length r2.output ≡ length r.output
unfolding store
store_long r t a s v r2 e = put_in_long r s a v (writable r t a (size_len s)) r2 e

loaded_long : (m : State) (dst : Reg) (a : ℕ) (s : Size) (f : ℕ → ℕ) (o : Option ℕ) → IsAsLong (length m.regions.output) (loaded m dst a s f o)
loaded_long m dst a s f None = tt
loaded_long m dst a s f (Some v) = refl

leave_long : (m : State) (frames : List Frame) → IsAsLong (length m.regions.output) (leave m frames)
leave_long m [] = tt
leave_long m (f ∷ fs) = refl

call_long : (m : State) (to : ℕ) → IsAsLong (length m.regions.output) (call m to)
call_long m to =
    go (nat_lt (length m.frames) 7) (record {
      registers = slice_set m.registers 10 ((top m + 512) % 2 ^ 64);
      slot = to;
      frames = record { r6 = slice_index m.registers 6; r7 = slice_index m.registers 7; r8 = slice_index m.registers 8; r9 = slice_index m.registers 9; slot = after_slot m.slot 1 } ∷ m.frames;
      regions = m.regions;
    }) refl
  where
    go : (t : Bool) (x : State) → x.regions ≡ m.regions → IsAsLong (length m.regions.output) (if t then Goes x else Depth)
    go true x e = ap (λ (r : Regions). length r.output) e
    go false x e = tt

exchanged_long : (m : State) (a : ℕ) (s : Size) (new : ℕ → ℕ) (into : Option Reg) (o : Option ℕ) → IsAsLong (length m.regions.output) (exchanged m a s new into o)
exchanged_long m a s new into None = tt
exchanged_long m a s new into (Some old) = stored_long (record m { registers = with_fetched m.registers into old }) a s (length m.regions.output) (store m.regions (top m) a s (new old)) (λ r e. store_long m.regions (top m) a s (new old) r e)

store_step_long : (m : State) (s : Size) (a v : ℕ) → IsAsLong (length m.regions.output) (store_step m s a v)
store_step_long m s a v = stored_long m a s (length m.regions.output) (store m.regions (top m) a s v) (λ r e. store_long m.regions (top m) a s v r e)

act_long : (i : Insn) (m : State) → IsAsLong (length m.regions.output) (act i m)
act_long (insn.Alu wide o dst s) m = refl
act_long (insn.MovSx wide width dst r) m = refl
act_long (insn.Neg wide dst) m = refl
act_long (insn.End o width dst) m = refl
act_long (insn.Ja offset) m = refl
act_long (insn.JaFar offset) m = refl
act_long (insn.Jump wide c dst s offset) m = refl
act_long (insn.Call offset) m = call_long m (target m.slot offset)
act_long insn.Exit m = leave_long m m.frames
act_long (insn.Load s dst b offset) m = loaded_long m dst (address m.registers b offset) s (λ v. v) (load m.regions (top m) (address m.registers b offset) s)
act_long (insn.LoadSx s dst b offset) m = loaded_long m dst (address m.registers b offset) s (extended (size_width s) 64) (load m.regions (top m) (address m.registers b offset) s)
act_long (insn.StoreImm s b offset imm) m = store_step_long m s (address m.registers b offset) (cast_unsigned w64 imm)
act_long (insn.StoreReg s b offset r) m = store_step_long m s (address m.registers b offset) (at m.registers r)
act_long (insn.Atomic wide o fetch b offset r) m =
    exchanged_long m (address m.registers b offset) (atomic_size wide) (λ old. atomic_of wide o old (at m.registers r) (slice_index m.registers 0)) (fetched_into o fetch r)
    (load_writable m.regions (top m) (address m.registers b offset) (atomic_size wide))
act_long (insn.LoadWide dst value) m = refl

step_long : (code : List Insn) (m : State) → IsAsLong (length m.regions.output) (step code m)
unfolding step
step_long code m = go (at_slot code m.slot)
  where
    go : (o : Option Insn) → IsAsLong (length m.regions.output) (step_at o m)
    go None = tt
    go (Some i) = act_long i m

-- an outcome with an output of this length, if with any
abbrev pub EndsAsLong : ℕ → Outcome → Type 0
EndsAsLong n (Ended r0 output used) = length output ≡ n
EndsAsLong n o = Unit {0}

after_long : (next : Next) (m : State) (used n : ℕ) (go : State → Outcome) → length m.regions.output ≡ n → IsAsLong n next → ((m2 : State) → length m2.regions.output ≡ n → EndsAsLong n (go m2)) → EndsAsLong n (after next m used go)
after_long (Goes m2) m used n go e l h = h m2 l
after_long (Done r0) m used n go e l h = e
after_long (Access a k) m used n go e l h = tt
after_long Depth m used n go e l h = tt

from_long : (fuel used : ℕ) (code : List Insn) (m : State) (n : ℕ) → length m.regions.output ≡ n → EndsAsLong n (run_from fuel used code m)
unfolding run_from
from_long zero used code m n e = tt
from_long (suc fuel) used code m n e =
    after_long (step code m) m (used + 1) n (run_from fuel (used + 1) code) e (subst (λ (k : ℕ). IsAsLong k (step code m)) e (step_long code m)) (λ m2 e2. from_long fuel (used + 1) code m2 n e2)

pub run_long : (code : List Insn) (r : Regions) (fuel : ℕ) → EndsAsLong (length r.output) (run code r fuel)
run_long code r fuel = from_long fuel 0 code (start r) (length r.output) refl
