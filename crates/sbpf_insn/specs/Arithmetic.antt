-- What arithmetic, moves, byte swaps, tests and atomic operations compute, on numbers: RFC 9669,
-- sections 4.1, 4.2, 4.3 and 5.3. This project's own readings are that the signed minimum divided by
-- -1 is the minimum with remainder 0, that JMP compares with the imm sign-extended, and that old
-- values of 32 bits are zero-extended by fetch and exchange too.
use Rattle.std.specs.Prelude.{ℕ, ◌+◌, ◌-◌, ◌*◌, ◌/◌, ◌%◌, ◌^◌, Bool, true, false, not, nat_eq, nat_lt, nat_le, int_lt, int_le, int_div, int_rem, bit_and, bit_or, bit_xor, if◌then◌else◌}
use Rattle.std.specs.Int.{Width, w16, w32, w64, cast_signed, cast_unsigned, int_shr, to_le_bytes, from_be_bytes}
use Rattle.sbpf_insn.specs.declared.insn.AluOp.{AluOp}
use mir.Val.{bits}
use Rattle.sbpf_insn.specs.declared.insn.AluOp.TheVariants as op
use Rattle.sbpf_insn.specs.declared.insn.Cond.{Cond}
use Rattle.sbpf_insn.specs.declared.insn.Cond.TheVariants as test
use Rattle.sbpf_insn.specs.declared.insn.AtomicOp.{AtomicOp}
use Rattle.sbpf_insn.specs.declared.insn.AtomicOp.TheVariants as atomic
use Rattle.sbpf_insn.specs.declared.insn.Order.{Order}
use Rattle.sbpf_insn.specs.declared.insn.Order.TheVariants as order

-- A number below 2 ^ bits w stands for an integer in two's complement: `cast_signed w` reads it so, and
-- `cast_unsigned w` is the way back. The quotient of the least integer and -1 comes out as the least integer.

-- The operators on numbers of a width (section 4.1). A quotient by zero is 0, and a remainder by zero
-- leaves the dividend. Signed division truncates towards zero. The count of a shift is taken modulo
-- the width, and ARSH keeps the sign.
abbrev pub alu : Width → AluOp → ℕ → ℕ → ℕ
alu w op.Add d s = (d + s) % 2 ^ bits w
alu w op.Sub d s = (d + (2 ^ bits w - s)) % 2 ^ bits w
alu w op.Mul d s = (d * s) % 2 ^ bits w
alu w op.Div d s = if nat_eq s 0 then 0 else d / s
alu w op.Sdiv d s = if nat_eq s 0 then 0 else cast_unsigned w (int_div (cast_signed w d) (cast_signed w s))
alu w op.Or d s = bit_or d s
alu w op.And d s = bit_and d s
alu w op.Lsh d s = (d * 2 ^ (s % bits w)) % 2 ^ bits w
alu w op.Rsh d s = d / 2 ^ (s % bits w)
alu w op.Mod d s = if nat_eq s 0 then d else d % s
alu w op.Smod d s = if nat_eq s 0 then d else cast_unsigned w (int_rem (cast_signed w d) (cast_signed w s))
alu w op.Xor d s = bit_xor d s
alu w op.Mov d s = s
alu w op.Arsh d s = cast_unsigned w (int_shr (cast_signed w d) (s % bits w))

abbrev pub alu64_of : AluOp → ℕ → ℕ → ℕ
alu64_of o d s = alu w64 o d s

-- on the low halves; the upper half of the outcome is zero
abbrev pub alu32_of : AluOp → ℕ → ℕ → ℕ
alu32_of o d s = alu w32 o (d % 2 ^ 32) (s % 2 ^ 32)

-- the low k bits of n as an integer, at the wider width of m bits: the sign is copied upwards
abbrev pub extended : ℕ → ℕ → ℕ → ℕ
extended k m n = if nat_lt (n % 2 ^ k) (2 ^ (k - 1)) then n % 2 ^ k else n % 2 ^ k + (2 ^ m - 2 ^ k)

-- MOVSX: the low k bits, sign-extended to 64 bits, or to 32 with the upper half zero
abbrev pub movsx_of : Bool → ℕ → ℕ → ℕ
movsx_of wide k n = extended k (if wide then 64 else 32) n

-- the low k bits with their bytes in the other order, for k of 16, 32 and 64 (section 4.2)
abbrev pub reversed : ℕ → ℕ → ℕ
reversed k n =
    if nat_eq k 16 then from_be_bytes w16 (to_le_bytes w16 (n % 2 ^ 16))
    else if nat_eq k 32 then from_be_bytes w32 (to_le_bytes w32 (n % 2 ^ 32))
    else from_be_bytes w64 (to_le_bytes w64 n)

-- this machine is little-endian: the low k bits, as they are or reversed
abbrev pub swap_of : Order → ℕ → ℕ → ℕ
swap_of order.Little k n = n % 2 ^ k
swap_of order.Big k n = reversed k n
swap_of order.Swap k n = reversed k n

-- the tests of conditional jumps (section 4.3)
abbrev pub compare : Width → Cond → ℕ → ℕ → Bool
compare w test.Jeq a b = nat_eq a b
compare w test.Jgt a b = nat_lt b a
compare w test.Jge a b = nat_le b a
compare w test.Jset a b = not (nat_eq (bit_and a b) 0)
compare w test.Jne a b = not (nat_eq a b)
compare w test.Jsgt a b = int_lt (cast_signed w b) (cast_signed w a)
compare w test.Jsge a b = int_le (cast_signed w b) (cast_signed w a)
compare w test.Jlt a b = nat_lt a b
compare w test.Jle a b = nat_le a b
compare w test.Jslt a b = int_lt (cast_signed w a) (cast_signed w b)
compare w test.Jsle a b = int_le (cast_signed w a) (cast_signed w b)

-- What an atomic operation puts in the place of the old value (section 5.3): compare-exchange puts the
-- operand s where the old value is the expected one, r0, and else leaves the old value.
abbrev pub atomic_in : Width → AtomicOp → ℕ → ℕ → ℕ → ℕ
atomic_in w atomic.Add old s expected = (old + s) % 2 ^ bits w
atomic_in w atomic.Or old s expected = bit_or old s
atomic_in w atomic.And old s expected = bit_and old s
atomic_in w atomic.Xor old s expected = bit_xor old s
atomic_in w atomic.Xchg old s expected = s
atomic_in w atomic.CmpXchg old s expected = if nat_eq old expected then s else old

-- on 64 bits, or on the low halves; an old value of 32 bits is below 2 ^ 32
abbrev pub atomic_of : Bool → AtomicOp → ℕ → ℕ → ℕ → ℕ
atomic_of true o old s expected = atomic_in w64 o old s expected
atomic_of false o old s expected = atomic_in w32 o (old % 2 ^ 32) (s % 2 ^ 32) (expected % 2 ^ 32)
