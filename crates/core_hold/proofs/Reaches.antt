-- What a call in flight reads off its file's length stays, where another call changes the length within the pages that it locks.
use Rattle.std.proofs.Common.{◌≡◌, ℕ, ◌+◌, ◌-◌, ◌<◌, ◌≤◌, Bool, true, false, length, refl, inl, inr, ⊎_elim, arith}
use Rattle.std.specs.Prelude.{◌≢◌, ◌⊎◌, ◌==◌, ◌/◌, nat_lt, min, if◌then◌else◌}
use Rattle.std.proofs.lemmas.Bool.Decides.{nat_tests}
use Rattle.page_base.specs.Bytes.{Pages}
use Rattle.core_quick.specs.Call.{Call}
use Rattle.core_quick.specs.Call.TheVariants.{Create, OpenFile, Stat, Remove, Read, Write, Append, Trunc, Seal, Load, Unload, Readl, Writel, Sync}
use Rattle.core_quick.specs.State.{Shared, Exclusive, Reach}
use Rattle.core_quick.specs.Reach.{is_trunc, is_read, is_exclusive, no_reach, read_reach, write_reach, trunc_reach, reach_of}
use Rattle.core_quick.specs.InFlight.{InRange}

-- a change of length lies within the locked pages
pub record Stretches (reach : Reach) (len len2 : ℕ) : Type 0 where
  pub grows : len < len2 → (reach.from ≤ len / 4096) × (Pages len2 ≤ reach.to) × (Pages len2 ≤ 65536)
  pub cuts : len2 < len → (reach.from ≤ len2 / 4096) × (65537 ≤ reach.to)

-- two ranges without a common page
abbrev pub Apart : Reach → Reach → Type 0
Apart x b = (p : ℕ) → InRange x p → InRange b p → ⊥

-- ---- pages

pub none_added : (x b : Reach) (len len2 p : ℕ) → Stretches x len len2 → Apart x b → InRange b p → Pages len ≤ p → p < Pages len2 → ⊥
none_added x b len len2 p s apart in_b low high =
    let more : len < len2 = omega arith in
    let k = s.grows more in
    let a = k.0 in
    let c = k.1 in
    apart p (record { low = omega arith; high = omega arith }) in_b

pub none_cut : (x b : Reach) (len len2 p : ℕ) → Stretches x len len2 → Pages len ≤ 65536 → Apart x b → InRange b p → Pages len2 ≤ p → p < Pages len → ⊥
none_cut x b len len2 p s most apart in_b low high =
    let less : len2 < len = omega arith in
    let k = s.cuts less in
    let a = k.0 in
    let c = k.1 in
    apart p (record { low = omega arith; high = omega arith }) in_b

-- the page of the old length is locked where the length changes, and so is one of bytes that come or go
pub changed_at : (x : Reach) (len len2 : ℕ) → Stretches x len len2 → Pages len ≤ 65536 → len2 ≢ len → InRange x (len / 4096)
changed_at x len len2 s most d = ⊎_elim
    (λ (l : len < len2). let k = s.grows l in let a = k.0 in let c = k.1 in record { low = omega arith; high = omega arith })
    (λ (l : len2 < len). let k = s.cuts l in let a = k.0 in let c = k.1 in record { low = omega arith; high = omega arith })
    (apart_ways len len2 d)
  where
    apart_ways : (m n : ℕ) → n ≢ m → (m < n) ⊎ (n < m)
    apart_ways m n d = go (nat_lt m n) refl
      where
        go : (t : Bool) → nat_lt m n ≡ t → (m < n) ⊎ (n < m)
        go true e = inl (grind (arith, nat_tests))
        go false e = inr (grind (arith, nat_tests))

pub came : (x : Reach) (len len2 q : ℕ) → Stretches x len len2 → len ≤ q → q < len2 → InRange x (q / 4096)
came x len len2 q s low high = let l : len < len2 = omega arith in let k = s.grows l in let a = k.0 in let c = k.1 in record { low = omega arith; high = omega arith }

pub went : (x : Reach) (len len2 q : ℕ) → Stretches x len len2 → Pages len ≤ 65536 → len2 ≤ q → q < len → InRange x (q / 4096)
went x len len2 q s most low high = let l : len2 < len = omega arith in let k = s.cuts l in let a = k.0 in let c = k.1 in record { low = omega arith; high = omega arith }

-- ---- what the reach of a call tells

-- of a call on a file of this length
pub record Tells (call : Call) (reach : Reach) (len : ℕ) : Type 0 where
  pub lengthening : is_exclusive reach.mode ≡ true → len < reach.end → len / 4096 < 65537 → InRange reach (len / 4096)
  pub storing : is_trunc call ≡ false → is_exclusive reach.mode ≡ true → (q : ℕ) → q + 1 ≡ reach.end → InRange reach (q / 4096)
  pub cutting : is_trunc call ≡ true → len / 4096 < 65537 → InRange reach (len / 4096)
  pub reading : is_read call ≡ true → (q : ℕ) → reach.begin ≤ q → q < reach.end → q / 4096 < 65537 → InRange reach (q / 4096)

nothing_told : (call : Call) (len : ℕ) → is_trunc call ≡ false → Tells call no_reach len
nothing_told call len t = record {
  lengthening = λ m l k. absurd (cc);
  storing = λ u m q e. absurd (cc);
  cutting = λ u l. absurd (cc);
  reading = λ r q l h k. absurd (omega arith);
}

read_told : (call : Call) (off n len : ℕ) → is_trunc call ≡ false → Tells call (read_reach off n len) len
read_told call off n len t = go (n == 0) refl
  where
    r : Bool → Reach
    r t = if t then no_reach else record { mode = Shared; from = off / 4096; to = min (Pages (off + n)) 65537; first = off / 4096; pages = min (Pages (off + n)) (Pages len) - off / 4096; begin = off; end = off + n }

    go : (z : Bool) → (n == 0) ≡ z → Tells call (r z) len
    go true e = nothing_told call len t
    go false e = record {
      lengthening = λ m l k. absurd (cc);
      storing = λ u m q f. absurd (cc);
      cutting = λ u l. absurd (cc);
      reading = λ w q l h k. record { low = omega arith; high = omega arith };
    }

write_told : (call : Call) (off n len : ℕ) → is_trunc call ≡ false → is_read call ≡ false → Tells call (write_reach off n len) len
write_told call off n len t w = go (n == 0) (nat_lt len (off + n)) refl refl
  where
    r : Bool → Bool → Reach
    r z u = if z then no_reach else record { mode = Exclusive; from = if u then min (off / 4096) (len / 4096) else off / 4096; to = Pages (off + n); first = off / 4096; pages = Pages (off + n) - off / 4096; begin = off; end = off + n }

    go : (z u : Bool) → (n == 0) ≡ z → nat_lt len (off + n) ≡ u → Tells call (r z u) len
    go true u e f = nothing_told call len t
    go false true e f = record {
      lengthening = λ m l k. record { low = omega arith; high = omega arith };
      storing = λ v m q g. let pos : 0 < n = grind (arith, nat_tests) in record { low = omega arith; high = omega arith };
      cutting = λ v l. absurd (cc);
      reading = λ v q l h k. absurd (cc);
    }
    go false false e f = record {
      lengthening = λ m l k. let none : (len < off + n) → ⊥ = grind (arith, nat_tests) in absurd (none l);
      storing = λ v m q g. let pos : 0 < n = grind (arith, nat_tests) in record { low = omega arith; high = omega arith };
      cutting = λ v l. absurd (cc);
      reading = λ v q l h k. absurd (cc);
    }

trunc_told : (call : Call) (n len : ℕ) → is_trunc call ≡ true → is_read call ≡ false → Tells call (trunc_reach n len) len
trunc_told call n len t w = record {
  lengthening = λ m l k. record { low = omega arith; high = omega arith };
  storing = λ v m q g. absurd (cc);
  cutting = λ v l. record { low = omega arith; high = omega arith };
  reading = λ v q l h k. absurd (cc);
}

pub told : (call : Call) (len : ℕ) → Tells call (reach_of call len) len
told (Create name) len = nothing_told (Create name) len refl
told (OpenFile name) len = nothing_told (OpenFile name) len refl
told (Stat name) len = nothing_told (Stat name) len refl
told (Remove name) len = nothing_told (Remove name) len refl
told (Read name off n) len = read_told (Read name off n) off n len refl
told (Write name off bytes) len = write_told (Write name off bytes) off (length bytes) len refl refl
told (Append name bytes) len = write_told (Append name bytes) len (length bytes) len refl refl
told (Trunc name n) len = trunc_told (Trunc name n) n len refl refl
told (Seal name) len = nothing_told (Seal name) len refl
told (Load name bytes) len = nothing_told (Load name bytes) len refl
told (Unload name) len = nothing_told (Unload name) len refl
told (Readl file off n function fuel cap param) len = read_told (Readl file off n function fuel cap param) off n len refl
told (Writel file off n function fuel param input) len = write_told (Writel file off n function fuel param input) off n len refl refl
told Sync len = nothing_told Sync len refl
