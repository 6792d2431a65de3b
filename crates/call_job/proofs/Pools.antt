-- The buffers of a call: its pages are enough, and it has the rest.
use Rattle.std.proofs.Common.{◌≡◌, ℕ, ◌+◌, ◌-◌, ◌<◌, ◌≤◌, Bool, true, false, length, None, refl, ap, ◌∙◌, arith}
use Rattle.std.specs.Prelude.{◌==◌, ◌&&◌, ◌/◌, ◌%◌, ◌*◌, not, nat_lt, min, if◌then◌else◌}
use Rattle.std.proofs.lemmas.Bool.Decides.{nat_tests}
use Rattle.std.proofs.lemmas.List.{length-replicate}
use Rattle.page_base.specs.Bytes.{Pages}
use Rattle.plain_files.specs.declared.calls.Call.{Call}
use Rattle.plain_files.specs.declared.calls.Call.TheVariants.{Read, Write, Append, Trunc, Readl, Writel}
use Rattle.core_state.specs.State.{Shared, Exclusive, Reach}
use Rattle.core_state.specs.Reach.{no_reach, read_reach, write_reach, trunc_reach, reach_of}
use Rattle.call_job.specs.Buffers.{most_pages, pool_of, HasRest}
use Rattle.call_job.specs.Prepares.{second_of, flat_of, data_of, AreRegions, room_of}
use Rattle.call_job.specs.declared.job.Job.{Job}

pub rest_is : (job : Job) (call : Call) → length job.second.items ≡ second_of call → job.flat ≡ flat_of call → length job.data.items ≡ data_of call → AreRegions call job.regions → job.code.room ≡ room_of call → job.ran ≡ None → HasRest job call
rest_is job (Read name off n) second flat bytes regions room ran = bytes
rest_is job (Readl file off n function fuel cap param) second flat bytes regions room ran =
    (record { regions = regions; room = room }, ap length flat ∙ length-replicate {A = ℕ} cap 0, λ e. flat)
rest_is job (Writel file off n function fuel param input) second flat bytes regions room ran =
    (record { regions = regions; room = room }, flat, omega (arith, second), λ d. absurd (d ran))
rest_is job call second flat bytes regions room ran = tt

-- ---- spans are no longer than the pages that were taken

zero_of : (n : ℕ) → (n == 0) ≡ true → n ≡ 0
zero_of n e = grind (arith, nat_tests)

more_of : (n : ℕ) → (n == 0) ≡ false → 0 < n
more_of n e = grind (arith, nat_tests)

read_pool : (off n len : ℕ) → (read_reach off n len).pages ≤ most_pages n
read_pool off n len = go (n == 0) refl
  where
    go : (z : Bool) → (n == 0) ≡ z → (if z then no_reach else record { mode = Shared; from = off / 4096; to = min (Pages (off + n)) 65537; first = off / 4096; pages = min (Pages (off + n)) (Pages len) - off / 4096; begin = off; end = off + n }).pages ≤ (if z then 0 else (n + 4094) / 4096 + 1)
    go true e = omega arith
    go false e = let l = more_of n e in omega arith

pub write_pool : (off n len : ℕ) → (write_reach off n len).pages ≤ most_pages n
write_pool off n len = go (n == 0) refl
  where
    go : (z : Bool) → (n == 0) ≡ z → (if z then no_reach else record { mode = Exclusive; from = if nat_lt len (off + n) then min (off / 4096) (len / 4096) else off / 4096; to = Pages (off + n); first = off / 4096; pages = Pages (off + n) - off / 4096; begin = off; end = off + n }).pages ≤ (if z then 0 else (n + 4094) / 4096 + 1)
    go true e = omega arith
    go false e = let l = more_of n e in omega arith

trunc_pool : (n len : ℕ) → (trunc_reach n len).pages ≤ 1
trunc_pool n len = go (nat_lt n len && not (n % 4096 == 0))
  where
    go : (t : Bool) → (if t then 1 else 0) ≤ 1
    go true = omega arith
    go false = omega arith

pub pool_enough : (call : Call) (len : ℕ) → (reach_of call len).pages ≤ pool_of call
pool_enough (Read name off n) len = read_pool off n len
pool_enough (Write name off bytes) len = write_pool off (length bytes) len
pool_enough (Append name bytes) len = write_pool len (length bytes) len
pool_enough (Trunc name n) len = trunc_pool n len
pool_enough (Readl file off n function fuel cap param) len = read_pool off n len
pool_enough (Writel file off n function fuel param input) len = write_pool off n len
pool_enough call len = omega arith

-- ---- the bytes of a call lie in its span

-- the pages of so many bytes from off on are in the span, the first one first
pub record Has (r : Reach) (off m : ℕ) : Type 0 where
  pub first : 0 < m → r.first ≡ off / 4096
  pub within : (i : ℕ) → i < m → (off + i) / 4096 - off / 4096 < r.pages

pub read_has : (off n len : ℕ) → Has (read_reach off n len) off (min n (len - off))
read_has off n len = go (n == 0) refl
  where
    go : (z : Bool) → (n == 0) ≡ z → Has (if z then no_reach else record { mode = Shared; from = off / 4096; to = min (Pages (off + n)) 65537; first = off / 4096; pages = min (Pages (off + n)) (Pages len) - off / 4096; begin = off; end = off + n }) off (min n (len - off))
    go true e = let z : n ≡ 0 = zero_of n e in record { first = λ l. absurd (omega arith); within = λ i l. absurd (omega arith) }
    go false e = record { first = λ l. refl; within = λ i l. omega arith }

pub read_long : (off n len : ℕ) → min (read_reach off n len).end len - (read_reach off n len).begin ≡ min n (len - off)
read_long off n len = go (n == 0) refl
  where
    r : Bool → Reach
    r z = if z then no_reach else record { mode = Shared; from = off / 4096; to = min (Pages (off + n)) 65537; first = off / 4096; pages = min (Pages (off + n)) (Pages len) - off / 4096; begin = off; end = off + n }

    go : (z : Bool) → (n == 0) ≡ z → min (r z).end len - (r z).begin ≡ min n (len - off)
    go true e = let z : n ≡ 0 = zero_of n e in omega arith
    go false e = omega arith

pub write_has : (off n len : ℕ) → Has (write_reach off n len) off n
write_has off n len = go (n == 0) refl
  where
    go : (z : Bool) → (n == 0) ≡ z → Has (if z then no_reach else record { mode = Exclusive; from = if nat_lt len (off + n) then min (off / 4096) (len / 4096) else off / 4096; to = Pages (off + n); first = off / 4096; pages = Pages (off + n) - off / 4096; begin = off; end = off + n }) off n
    go true e = let z : n ≡ 0 = zero_of n e in record { first = λ l. absurd (omega arith); within = λ i l. absurd (omega arith) }
    go false e = record { first = λ l. refl; within = λ i l. omega arith }

-- so they end with it
pub has_fits : (r : Reach) (off m : ℕ) → Has r off m → 0 < m → off % 4096 + m ≤ 4096 * r.pages
has_fits r off m h l = let k = h.within (m - 1) (omega arith) in omega arith
