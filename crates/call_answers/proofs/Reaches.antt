-- The bytes of a call lie in its span.
use Rattle.std.proofs.Common.{◌≡◌, ℕ, ◌+◌, ◌-◌, ◌*◌, ◌<◌, ◌≤◌, Bool, true, false, refl, arith}
use Rattle.std.specs.Prelude.{◌==◌, ◌/◌, ◌%◌, nat_lt, min, if◌then◌else◌}
use Rattle.std.proofs.lemmas.Bool.Decides.{nat_tests}
use Rattle.page_base.specs.Bytes.{Pages}
use Rattle.core_state.specs.State.{Shared, Exclusive, Reach}
use Rattle.core_state.specs.Reach.{no_reach, read_reach, write_reach}

zero_of : (n : ℕ) → (n == 0) ≡ true → n ≡ 0
zero_of n e = grind (arith, nat_tests)

-- the pages of so many bytes from off on are in the span, the first one first
pub record Has (r : Reach) (off m : ℕ) : Type 0 where
  pub first : 0 < m → r.first ≡ off / 4096
  pub within : (i : ℕ) → i < m → (off + i) / 4096 - off / 4096 < r.pages

pub read_has : (off n len : ℕ) → Has (read_reach off n len) off (min n (len - off))
read_has off n len = go (n == 0) refl
  where
    go : (z : Bool) → (n == 0) ≡ z → Has (if z then no_reach else record { mode = Shared; from = off / 4096; to = min (Pages (off + n)) 65537; first = off / 4096; pages = min (Pages (off + n)) (Pages len) - off / 4096; begin = off; end = off + n }) off (min n (len - off))
    go true e = let z : n ≡ 0 = zero_of n e in record { first = λ l. absurd (omega arith); within = λ i l. absurd (omega arith) }
    go false e = record { first = λ l. refl; within = λ i l. omega arith }

pub read_long : (off n len : ℕ) → min (read_reach off n len).end len - (read_reach off n len).begin ≡ min n (len - off)
read_long off n len = go (n == 0) refl
  where
    r : Bool → Reach
    r z = if z then no_reach else record { mode = Shared; from = off / 4096; to = min (Pages (off + n)) 65537; first = off / 4096; pages = min (Pages (off + n)) (Pages len) - off / 4096; begin = off; end = off + n }

    go : (z : Bool) → (n == 0) ≡ z → min (r z).end len - (r z).begin ≡ min n (len - off)
    go true e = let z : n ≡ 0 = zero_of n e in omega arith
    go false e = omega arith

pub write_has : (off n len : ℕ) → Has (write_reach off n len) off n
write_has off n len = go (n == 0) refl
  where
    go : (z : Bool) → (n == 0) ≡ z → Has (if z then no_reach else record { mode = Exclusive; from = if nat_lt len (off + n) then min (off / 4096) (len / 4096) else off / 4096; to = Pages (off + n); first = off / 4096; pages = Pages (off + n) - off / 4096; begin = off; end = off + n }) off n
    go true e = let z : n ≡ 0 = zero_of n e in record { first = λ l. absurd (omega arith); within = λ i l. absurd (omega arith) }
    go false e = record { first = λ l. refl; within = λ i l. omega arith }

-- so they end with it
pub has_fits : (r : Reach) (off m : ℕ) → Has r off m → 0 < m → off % 4096 + m ≤ 4096 * r.pages
has_fits r off m h l = let k = h.within (m - 1) (omega arith) in omega arith
