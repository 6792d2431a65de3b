-- Numbers that look random, each by the one before it: xorshift64 (Marsaglia, "Xorshift RNGs"), with its shifts 13, 7, 17.
use Rattle.std.specs.Prelude.{ℕ, zero, suc, ◌*◌, ◌/◌, ◌%◌, ◌^◌, ◌==◌, if◌then◌else◌, bit_xor}

-- a state and itself shifted, in 64 bits
abbrev pub with_left : ℕ → ℕ → ℕ
with_left x k = bit_xor x (x * 2 ^ k % 2 ^ 64)

abbrev pub with_right : ℕ → ℕ → ℕ
with_right x k = bit_xor x (x / 2 ^ k)

-- the state that follows, which is the value drawn
unfoldable pub next : ℕ → ℕ
next x = with_left (with_right (with_left x 13) 7) 17

-- the first state
abbrev pub first : ℕ → ℕ
first start = if start == 0 then 1 else start

-- the state behind so many draws
abbrev pub after : ℕ → ℕ → ℕ
after zero x = x
after (suc n) x = after n (next x)
