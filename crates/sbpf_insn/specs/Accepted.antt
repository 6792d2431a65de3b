-- Code that may be run: the four conditions. This project's own.
use Rattle.std.specs.Prelude.{◌≡◌, ℕ, ◌+◌, ◌≤◌, ℤ, pos, negsuc, ◌+ℤ◌, Bool, true, false, ◌&&◌, nat_eq, nat_lt, List, Option, Some, None, is_some}
use Rattle.sbpf_insn.specs.declared.insn.Reg.{Reg}
use Rattle.sbpf_insn.specs.declared.insn.AtomicOp.{AtomicOp}
use Rattle.sbpf_insn.specs.declared.insn.AtomicOp.TheVariants as atomic
use Rattle.sbpf_insn.specs.declared.insn.Insn.{Insn}
use Rattle.sbpf_insn.specs.declared.insn.Insn.TheVariants as insn
use Rattle.sbpf_insn.specs.Decoded.{slots_of}
use Rattle.sbpf_insn.specs.Cells.{slots, at_slot}

abbrev pub is_r10 : Reg → Bool
is_r10 r = nat_eq r.n 10

-- a fetching atomic other than compare-exchange writes its source
abbrev pub fetches : AtomicOp → Bool → Bool
fetches atomic.CmpXchg fetch = false
fetches _ fetch = fetch

-- the instruction writes r10, the end of the frame
abbrev pub writes_r10 : Insn → Bool
writes_r10 (insn.Alu wide op dst src) = is_r10 dst
writes_r10 (insn.MovSx wide width dst src) = is_r10 dst
writes_r10 (insn.Neg wide dst) = is_r10 dst
writes_r10 (insn.End order width dst) = is_r10 dst
writes_r10 (insn.Load size dst base offset) = is_r10 dst
writes_r10 (insn.LoadSx size dst base offset) = is_r10 dst
writes_r10 (insn.LoadWide dst value) = is_r10 dst
writes_r10 (insn.Atomic wide op fetch base offset src) = fetches op fetch && is_r10 src
writes_r10 _ = false

-- the distance of a jump, and of a local call
abbrev pub jump_of : Insn → Option ℤ
jump_of (insn.Ja offset) = Some offset
jump_of (insn.JaFar offset) = Some offset
jump_of (insn.Jump wide c dst src offset) = Some offset
jump_of _ = None

abbrev pub call_of : Insn → Option ℤ
call_of (insn.Call offset) = Some offset
call_of _ = None

-- control doesn't go on behind EXIT and behind a jump that is always taken
abbrev pub is_end : Insn → Bool
is_end insn.Exit = true
is_end (insn.Ja offset) = true
is_end (insn.JaFar offset) = true
is_end _ = false

-- a target lies within the code's slots
abbrev pub is_within : List Insn → ℤ → Bool
is_within code (pos to) = nat_lt to (slots code)
is_within code (negsuc n) = false

-- a target is an instruction's first slot
abbrev pub is_first : List Insn → ℤ → Bool
is_first code (pos to) = is_some (at_slot code to)
is_first code (negsuc n) = false

-- where a jump by k from a slot goes: slot + 1 + k, which may be below zero
abbrev pub destination : ℕ → ℤ → ℤ
destination slot k = pos (slot + 1) +ℤ k

-- The four conditions: the code has 1 to 4,096 slots; every jump and every local call lands on the
-- first slot of an instruction; no instruction writes r10; control doesn't fall off behind the last one.
pub record IsAccepted (code : List Insn) : Type 0 where
  pub some : 1 ≤ slots code
  pub short : slots code ≤ 4096
  pub jumps : (slot : ℕ) (i : Insn) (k : ℤ) → at_slot code slot ≡ Some i → jump_of i ≡ Some k → is_first code (destination slot k) ≡ true
  pub calls : (slot : ℕ) (i : Insn) (k : ℤ) → at_slot code slot ≡ Some i → call_of i ≡ Some k → is_first code (destination slot k) ≡ true
  pub keeps : (slot : ℕ) (i : Insn) → at_slot code slot ≡ Some i → writes_r10 i ≡ false
  pub ends : (slot : ℕ) (i : Insn) → at_slot code slot ≡ Some i → slot + slots_of i ≡ slots code → is_end i ≡ true
