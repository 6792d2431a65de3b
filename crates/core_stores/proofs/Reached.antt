-- What a call in flight meets in its file stays, where another call changes the file's length within the pages that it locks.
use Rattle.std.proofs.Common.{◌≡◌, ℕ, ◌+◌, ◌-◌, ◌<◌, ◌≤◌, Bool, true, false, length, refl, sym, ap, ◌∙◌, ⊎_elim, arith}
use Rattle.std.specs.Prelude.{◌≢◌, ◌==◌, ◌/◌, nat_lt, min, if◌then◌else◌}
use Rattle.std.proofs.lemmas.Bool.Decides.{nat_tests}
use Rattle.page_base.specs.Bytes.{Pages}
use Rattle.index_lists.proofs.Counts.{same_or_not}
use Rattle.core_hold.specs.Call.{Call}
use Rattle.core_hold.specs.Call.TheVariants.{Create, OpenFile, Stat, Remove, Read, Write, Append, Trunc, Seal, Load, Unload, Readl, Writel, Sync}
use Rattle.core_hold.specs.State.{Shared, Exclusive, Reach}
use Rattle.core_hold.specs.Reach.{no_reach, read_reach, write_reach, trunc_reach, reach_of}
use Rattle.core_hold.specs.InFlight.{InRange}
use Rattle.core_hold.proofs.Words.{less_or_not}
use Rattle.core_hold.proofs.Reaches.{Stretches, Apart, changed_at, went}

test_is : (m n : ℕ) → m < n → nat_lt m n ≡ true
test_is m n l = grind (arith, nat_tests)

test_not : (m n : ℕ) → n ≤ m → nat_lt m n ≡ false
test_not m n l = grind (arith, nat_tests)

-- ---- reads

abbrev read_pages : ℕ → ℕ → ℕ → ℕ
read_pages off n len = min (Pages (off + n)) (Pages len) - off / 4096

abbrev read_with : ℕ → ℕ → ℕ → Reach
read_with off n pages = record { mode = Shared; from = off / 4096; to = min (Pages (off + n)) 65537; first = off / 4096; pages = pages; begin = off; end = off + n }

-- no page of the bytes asked for comes or goes
read_pages_same : (x : Reach) (off n len len2 : ℕ) → 0 < n → Stretches x len len2 → Pages len ≤ 65536 → Pages len2 ≤ 65536 → Apart x (read_with off n (read_pages off n len)) → read_pages off n len2 ≡ read_pages off n len
read_pages_same x off n len len2 pos s most most2 apart = ⊎_elim (λ (e : read_pages off n len2 ≡ read_pages off n len). e)
    (λ (d : read_pages off n len2 ≢ read_pages off n len). absurd (⊎_elim (λ (l : len < len2). grown d l) (λ (l : len2 ≤ len). shrunk d l) (less_or_not len len2)))
    (same_or_not (read_pages off n len2) (read_pages off n len))
  where
    meets : (p : ℕ) → off / 4096 ≤ p → p < Pages (off + n) → p < 65537 → InRange (read_with off n (read_pages off n len)) p
    meets p a b c = record { low = a; high = omega arith }

    grown : read_pages off n len2 ≢ read_pages off n len → len < len2 → ⊥
    grown d l =
        let k = s.grows l in
        let k0 = k.0 in
        let k1 = k.1 in
        ⊎_elim
        (λ (b : off / 4096 < Pages len). apart (Pages len) (record { low = omega arith; high = omega arith }) (meets (Pages len) (omega arith) (omega arith) (omega arith)))
        (λ (b : Pages len ≤ off / 4096). apart (off / 4096) (record { low = omega arith; high = omega arith }) (meets (off / 4096) (omega arith) (omega arith) (omega arith)))
        (less_or_not (off / 4096) (Pages len))

    shrunk : read_pages off n len2 ≢ read_pages off n len → len2 ≤ len → ⊥
    shrunk d l =
        let k = s.cuts (⊎_elim (λ (e : len2 ≡ len). absurd (d (ap (read_pages off n) e))) (λ (n : len2 ≢ len). omega arith) (same_or_not len2 len)) in
        let k0 = k.0 in
        let k1 = k.1 in
        ⊎_elim
        (λ (b : off / 4096 < Pages len2). apart (Pages len2) (record { low = omega arith; high = omega arith }) (meets (Pages len2) (omega arith) (omega arith) (omega arith)))
        (λ (b : Pages len2 ≤ off / 4096). apart (off / 4096) (record { low = omega arith; high = omega arith }) (meets (off / 4096) (omega arith) (omega arith) (omega arith)))
        (less_or_not (off / 4096) (Pages len2))

read_stays : (x : Reach) (off n len len2 : ℕ) → Stretches x len len2 → Pages len ≤ 65536 → Pages len2 ≤ 65536 → Apart x (read_reach off n len) → read_reach off n len2 ≡ read_reach off n len
read_stays x off n len len2 s most most2 = go (n == 0) refl
  where
    go : (z : Bool) → (n == 0) ≡ z → Apart x (if z then no_reach else read_with off n (read_pages off n len)) → (if z then no_reach else read_with off n (read_pages off n len2)) ≡ (if z then no_reach else read_with off n (read_pages off n len))
    go true e apart = refl
    go false e apart = let pos : 0 < n = grind (arith, nat_tests) in ap (read_with off n) (read_pages_same x off n len len2 pos s most most2 apart)

-- ---- writes

abbrev write_with : ℕ → ℕ → ℕ → Reach
write_with off n from = record { mode = Exclusive; from = from; to = Pages (off + n); first = off / 4096; pages = Pages (off + n) - off / 4096; begin = off; end = off + n }

abbrev write_from : ℕ → ℕ → ℕ → ℕ
write_from off n len = if nat_lt len (off + n) then min (off / 4096) (len / 4096) else off / 4096

from_past : (off n len : ℕ) → len < off + n → write_from off n len ≡ min (off / 4096) (len / 4096)
from_past off n len l = ap (λ (t : Bool). if t then min (off / 4096) (len / 4096) else off / 4096) (test_is len (off + n) l)

from_within : (off n len : ℕ) → off + n ≤ len → write_from off n len ≡ off / 4096
from_within off n len l = ap (λ (t : Bool). if t then min (off / 4096) (len / 4096) else off / 4096) (test_not len (off + n) l)

write_from_same : (x : Reach) (off n len len2 : ℕ) → 0 < n → Stretches x len len2 → Pages len ≤ 65536 → Apart x (write_with off n (write_from off n len)) → len2 ≢ len → write_from off n len2 ≡ write_from off n len
write_from_same x off n len len2 pos s most apart d = ⊎_elim
    (λ (l : len < off + n). absurd (let e = from_past off n len l in apart (len / 4096) (changed_at x len len2 s most d) (record { low = omega arith; high = omega arith })))
    (λ (l : off + n ≤ len).
    let e = from_within off n len l in
    ⊎_elim
    (λ (k : len2 < off + n). absurd (apart ((off + n - 1) / 4096) (went x len len2 (off + n - 1) s most (omega arith) (omega arith)) (record { low = omega arith; high = omega arith })))
    (λ (k : off + n ≤ len2). from_within off n len2 k ∙ sym e) (less_or_not len2 (off + n)))
    (less_or_not len (off + n))

write_stays : (x : Reach) (off n len len2 : ℕ) → Stretches x len len2 → Pages len ≤ 65536 → Apart x (write_reach off n len) → len2 ≢ len → write_reach off n len2 ≡ write_reach off n len
write_stays x off n len len2 s most = go (n == 0) refl
  where
    go : (z : Bool) → (n == 0) ≡ z → Apart x (if z then no_reach else write_with off n (write_from off n len)) → len2 ≢ len → (if z then no_reach else write_with off n (write_from off n len2)) ≡ (if z then no_reach else write_with off n (write_from off n len))
    go true e apart d = refl
    go false e apart d = let pos : 0 < n = grind (arith, nat_tests) in ap (write_with off n) (write_from_same x off n len len2 pos s most apart d)

append_stays : (x : Reach) (n len len2 : ℕ) → Stretches x len len2 → Pages len ≤ 65536 → Apart x (write_reach len n len) → len2 ≢ len → write_reach len2 n len2 ≡ write_reach len n len
append_stays x n len len2 s most = go (n == 0) refl
  where
    go : (z : Bool) → (n == 0) ≡ z → Apart x (if z then no_reach else write_with len n (write_from len n len)) → len2 ≢ len → (if z then no_reach else write_with len2 n (write_from len2 n len2)) ≡ (if z then no_reach else write_with len n (write_from len n len))
    go true e apart d = refl
    go false e apart d =
        let pos : 0 < n = grind (arith, nat_tests) in
        let f = from_past len n len (omega arith) in
        absurd (apart (len / 4096) (changed_at x len len2 s most d) (record { low = omega arith; high = omega arith }))

trunc_none : {P : Type 0} (x : Reach) (n len len2 : ℕ) → Stretches x len len2 → Pages len ≤ 65536 → Apart x (trunc_reach n len) → len2 ≢ len → P
trunc_none x n len len2 s most apart d = absurd (apart (len / 4096) (changed_at x len len2 s most d) (record { low = omega arith; high = omega arith }))

changed_reach : (x : Reach) (call : Call) (len len2 : ℕ) → Stretches x len len2 → Pages len ≤ 65536 → Pages len2 ≤ 65536 → Apart x (reach_of call len) → len2 ≢ len → reach_of call len2 ≡ reach_of call len
changed_reach x (Create name) len len2 s most most2 apart d = refl
changed_reach x (OpenFile name) len len2 s most most2 apart d = refl
changed_reach x (Stat name) len len2 s most most2 apart d = refl
changed_reach x (Remove name) len len2 s most most2 apart d = refl
changed_reach x (Read name off n) len len2 s most most2 apart d = read_stays x off n len len2 s most most2 apart
changed_reach x (Write name off bytes) len len2 s most most2 apart d = write_stays x off (length bytes) len len2 s most apart d
changed_reach x (Append name bytes) len len2 s most most2 apart d = append_stays x (length bytes) len len2 s most apart d
changed_reach x (Trunc name n) len len2 s most most2 apart d = trunc_none x n len len2 s most apart d
changed_reach x (Seal name) len len2 s most most2 apart d = refl
changed_reach x (Load name bytes) len len2 s most most2 apart d = refl
changed_reach x (Unload name) len len2 s most most2 apart d = refl
changed_reach x (Readl file off n function fuel cap param) len len2 s most most2 apart d = read_stays x off n len len2 s most most2 apart
changed_reach x (Writel file off n function fuel param input) len len2 s most most2 apart d = write_stays x off n len len2 s most apart d
changed_reach x Sync len len2 s most most2 apart d = refl

pub reach_same : (x : Reach) (call : Call) (len len2 : ℕ) → Stretches x len len2 → Pages len ≤ 65536 → Pages len2 ≤ 65536 → Apart x (reach_of call len) → reach_of call len2 ≡ reach_of call len
reach_same x call len len2 s most most2 apart = ⊎_elim (λ (e : len2 ≡ len). ap (reach_of call) e) (λ (d : len2 ≢ len). changed_reach x call len len2 s most most2 apart d) (same_or_not len2 len)

-- an append in flight that has bytes meets each change of the length
pub append_empty : (x : Reach) (n len len2 : ℕ) → Stretches x len len2 → Pages len ≤ 65536 → Apart x (write_reach len n len) → len2 ≢ len → n ≡ 0
append_empty x n len len2 s most = go (n == 0) refl
  where
    go : (z : Bool) → (n == 0) ≡ z → Apart x (if z then no_reach else write_with len n (write_from len n len)) → len2 ≢ len → n ≡ 0
    go true e apart d = grind (arith, nat_tests)
    go false e apart d =
        let pos : 0 < n = grind (arith, nat_tests) in
        let f = from_past len n len (omega arith) in
        absurd (apart (len / 4096) (changed_at x len len2 s most d) (record { low = omega arith; high = omega arith }))
