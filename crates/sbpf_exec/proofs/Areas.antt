-- Which region an address lies in: the one of its upper half.
use Rattle.std.proofs.Common.{◌≡◌, ◌≢◌, ℕ, ◌+◌, ◌-◌, ◌≤◌, ◌/◌, ◌%◌, ◌^◌, length, Some, None, arith}
use Rattle.std.specs.Prelude.{nat_le, min, if◌then◌else◌}
use Rattle.std.proofs.lemmas.Bool.Decides.{nat_tests}
use Rattle.sbpf_insn.specs.declared.insn.Size.{Size}
use Rattle.sbpf_insn.specs.Machine as machine
use Rattle.sbpf_insn.specs.Machine.{load, store, load_writable, readable, writable, number_in, put_in, is_inside, area_len, area_bytes, base, number_at, put_number, size_len}
use Rattle.sbpf_exec.proofs.PageLaws.{size_some}

-- no region that is found by its base is longer than 2 ^ 32 bytes
pub record AreShort (r : machine.Regions) : Type 0 where
  pub context : length r.context ≤ 2 ^ 32
  pub input : length r.input ≤ 2 ^ 32
  pub output : length r.output ≤ 2 ^ 32
  pub param : length r.param ≤ 2 ^ 32
  pub stack : length r.stack ≤ 2 ^ 32

pub load_context : (r : machine.Regions) (top address : ℕ) (s : Size) → AreShort r → address / 2 ^ 32 ≡ 1 → load r top address s ≡ (if nat_le (address % 2 ^ 32 + size_len s) (length r.context) then Some (number_at s r.context (address % 2 ^ 32)) else None)
unfolding load
load_context r top address s short area = let some = size_some s in grind (arith, nat_tests)

pub load_input : (r : machine.Regions) (top address : ℕ) (s : Size) → AreShort r → address / 2 ^ 32 ≡ 2 → load r top address s ≡ (if nat_le (address % 2 ^ 32 + size_len s) (length r.input) then Some (number_at s r.input (address % 2 ^ 32)) else None)
unfolding load
load_input r top address s short area = let some = size_some s in grind (arith, nat_tests)

pub load_output : (r : machine.Regions) (top address : ℕ) (s : Size) → AreShort r → address / 2 ^ 32 ≡ 3 → load r top address s ≡ (if nat_le (address % 2 ^ 32 + size_len s) (length r.output) then Some (number_at s r.output (address % 2 ^ 32)) else None)
unfolding load
load_output r top address s short area = let some = size_some s in grind (arith, nat_tests)

pub load_param : (r : machine.Regions) (top address : ℕ) (s : Size) → AreShort r → address / 2 ^ 32 ≡ 4 → load r top address s ≡ (if nat_le (address % 2 ^ 32 + size_len s) (length r.param) then Some (number_at s r.param (address % 2 ^ 32)) else None)
unfolding load
load_param r top address s short area = let some = size_some s in grind (arith, nat_tests)

pub load_stack : (r : machine.Regions) (top address : ℕ) (s : Size) → AreShort r → address / 2 ^ 32 ≡ 5 → load r top address s ≡ (if nat_le (address % 2 ^ 32 + size_len s) (min (length r.stack) (top - 0x500000000)) then Some (number_at s r.stack (address % 2 ^ 32)) else None)
unfolding load
load_stack r top address s short area = let some = size_some s in grind (arith, nat_tests)

pub load_nowhere : (r : machine.Regions) (top address : ℕ) (s : Size) → AreShort r → address / 2 ^ 32 ≢ 1 → address / 2 ^ 32 ≢ 2 → address / 2 ^ 32 ≢ 3 → address / 2 ^ 32 ≢ 4 → address / 2 ^ 32 ≢ 5 → load r top address s ≡ None
unfolding load
load_nowhere r top address s short a b c d e = let some = size_some s in grind (arith, nat_tests)

pub store_output : (r : machine.Regions) (top address v : ℕ) (s : Size) → AreShort r → address / 2 ^ 32 ≡ 3 → store r top address s v ≡ (if nat_le (address % 2 ^ 32 + size_len s) (length r.output) then Some (record r { output = put_number s r.output (address % 2 ^ 32) v }) else None)
unfolding store
store_output r top address v s short area = let some = size_some s in grind (arith, nat_tests)

pub store_stack : (r : machine.Regions) (top address v : ℕ) (s : Size) → AreShort r → address / 2 ^ 32 ≡ 5 → store r top address s v ≡ (if nat_le (address % 2 ^ 32 + size_len s) (min (length r.stack) (top - 0x500000000)) then Some (record r { stack = put_number s r.stack (address % 2 ^ 32) v }) else None)
unfolding store
store_stack r top address v s short area = let some = size_some s in grind (arith, nat_tests)

pub store_nowhere : (r : machine.Regions) (top address v : ℕ) (s : Size) → AreShort r → address / 2 ^ 32 ≢ 3 → address / 2 ^ 32 ≢ 5 → store r top address s v ≡ None
unfolding store
store_nowhere r top address v s short a b = let some = size_some s in grind (arith, nat_tests)

pub writable_output : (r : machine.Regions) (top address : ℕ) (s : Size) → AreShort r → address / 2 ^ 32 ≡ 3 → load_writable r top address s ≡ (if nat_le (address % 2 ^ 32 + size_len s) (length r.output) then Some (number_at s r.output (address % 2 ^ 32)) else None)
unfolding load_writable
writable_output r top address s short area = let some = size_some s in grind (arith, nat_tests)

pub writable_stack : (r : machine.Regions) (top address : ℕ) (s : Size) → AreShort r → address / 2 ^ 32 ≡ 5 → load_writable r top address s ≡ (if nat_le (address % 2 ^ 32 + size_len s) (min (length r.stack) (top - 0x500000000)) then Some (number_at s r.stack (address % 2 ^ 32)) else None)
unfolding load_writable
writable_stack r top address s short area = let some = size_some s in grind (arith, nat_tests)

pub writable_nowhere : (r : machine.Regions) (top address : ℕ) (s : Size) → AreShort r → address / 2 ^ 32 ≢ 3 → address / 2 ^ 32 ≢ 5 → load_writable r top address s ≡ None
unfolding load_writable
writable_nowhere r top address s short a b = let some = size_some s in grind (arith, nat_tests)
