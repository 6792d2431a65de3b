-- That a span is low: its pages are those below 2^17, and where it has none it counts as beginning at 0.
use Rattle.std.proofs.Common.{◌≡◌, ℕ, zero, suc, ◌+◌, ◌-◌, ◌/◌, ◌<◌, ◌≤◌, ◌^◌, Bool, true, false, length, Option, Some, None, refl, sym, ap, subst, arith}
use Rattle.std.specs.Prelude.{◌==◌, nat_lt, min, if◌then◌else◌}
use Rattle.std.proofs.lemmas.Bool.Decides.{nat_tests}
use Rattle.page_base.specs.Bytes.{Pages}
use Rattle.plain_files.specs.declared.calls.Call.{Call}
use Rattle.plain_files.specs.declared.calls.Call.TheVariants.{Create, OpenFile, Stat, Remove, Read, Write, Append, Trunc, Seal, Load, Unload, Readl, Writel, Sync}
use Rattle.plain_files.specs.declared.calls.Reply.{Reply}
use Rattle.plain_files.specs.declared.calls.Reply.TheVariants.{TooLong}
use Rattle.plain_files.specs.Plain.{State, is_too_long, early}
use Rattle.core_state.specs.State.{Shape, Block, File, Names, Places, Shared, Exclusive, Reach, Claim, Flight, Core}
use Rattle.core_state.specs.PlainOf.{plain}
use Rattle.core_state.specs.Reach.{no_reach, reach_of, read_reach, write_reach, file_for, file_word, len_or_none}
use Rattle.core_state.specs.InFlight.{IsRight, claim_of}
use Rattle.core_state.specs.Placed.{Placed, HavePlaces}
use Rattle.core_state.specs.Coherent.{Coherent}
use Rattle.core_lemmas.proofs.Spans.{span_in, pages_fit, file_in}
use Rattle.core_hold.proofs.Stores.{end_fits}
use Rattle.system_blocks.specs.Sweeps.{sweep, Along}
use Rattle.system_blocks.specs.Spans.{start_of}

-- ---- the first of the early refusals

first_test : (t : Bool) (r : Option Reply) → (if t then Some TooLong else r) ≡ None → t ≡ false
first_test true r e = absurd (cc)
first_test false r e = refl

pub not_long : (s : State) (call : Call) → early s call ≡ None → is_too_long call ≡ false
not_long s call e = first_test (is_too_long call) _ e

-- ---- where ranges end

read_to : (off n len : ℕ) → (read_reach off n len).to ≤ 131072
read_to off n len = go (n == 0)
  where
    go : (t : Bool) → (if t then no_reach else record { mode = Shared; from = off / 4096; to = min (Pages (off + n)) 65537; first = off / 4096; pages = min (Pages (off + n)) (Pages len) - off / 4096; begin = off; end = off + n }).to ≤ 131072
    go true = omega arith
    go false = omega arith

write_to : (off n len : ℕ) → Pages (off + n) ≤ 131072 → (write_reach off n len).to ≤ 131072
write_to off n len l = go (n == 0)
  where
    go : (t : Bool) → (if t then no_reach else record { mode = Exclusive; from = if nat_lt len (off + n) then min (off / 4096) (len / 4096) else off / 4096; to = Pages (off + n); first = off / 4096; pages = Pages (off + n) - off / 4096; begin = off; end = off + n }).to ≤ 131072
    go true = omega arith
    go false = l

reach_to : (s : State) (call : Call) (len : ℕ) → early s call ≡ None → Pages len ≤ 65536 → (reach_of call len).to ≤ 131072
reach_to s (Read name off n) len e l = read_to off n len
reach_to s (Write name off bytes) len e l = write_to off (length bytes) len (let k : off + length bytes ≤ 268435456 = end_fits s (Write name off bytes) e in omega arith)
reach_to s (Append name bytes) len e l = write_to len (length bytes) len (let k : nat_lt 262144 (length bytes) ≡ false = not_long s (Append name bytes) e in let m : length bytes ≤ 262144 = grind (arith, nat_tests) in omega arith)
reach_to s (Trunc name n) len e l = omega arith
reach_to s (Readl file off n function fuel cap param) len e l = read_to off n len
reach_to s (Writel file off n function fuel param input) len e l = write_to off n len (let k : off + n ≤ 268435456 = end_fits s (Writel file off n function fuel param input) e in omega arith)
reach_to s (Create name) len e l = omega arith
reach_to s (OpenFile name) len e l = omega arith
reach_to s (Stat name) len e l = omega arith
reach_to s (Remove name) len e l = omega arith
reach_to s (Seal name) len e l = omega arith
reach_to s (Load name bytes) len e l = omega arith
reach_to s (Unload name) len e l = omega arith
reach_to s Sync len e l = omega arith

len_fits : (shape : Shape) (names : Names) (places : Places) → HavePlaces shape names places → shape.blocks ≤ 65536 → (call : Call) (o : Option File) → file_for names.files call ≡ o → Pages (len_or_none o) ≤ 65536
len_fits shape names places h most call None e = omega arith
len_fits shape names places h most call (Some f) e = let k = pages_fit shape names places h f (file_in names.files (file_word call) f e) in omega arith

-- ---- spans

-- a page of a span is low
pub span_low : (shape : Shape) (names : Names) (places : Places) (blocks : ℕ → Block) (s : State) (a : Claim) → Placed shape names places blocks → IsRight names s a → (i : ℕ) → i < a.reach.pages → a.reach.first + i < 131072
span_low shape names places blocks s a placed right i l =
    let found = file_for names.files a.request.call in
    let same : a.reach ≡ reach_of a.request.call (len_or_none found) = ap (λ (x : Claim). x.reach) right.same in
    let to : a.reach.to ≤ 131072 = subst (λ (r : Reach). r.to ≤ 131072) (sym same) (reach_to s a.request.call (len_or_none found) right.not_early (len_fits shape names places placed.have placed.drive.most_blocks a.request.call found refl)) in
    let high = (span_in shape names places blocks s a placed right i l).high in
    omega arith

-- and so are its first page and its end
pub start_low : (shape : Shape) (names : Names) (places : Places) (blocks : ℕ → Block) (s : State) (a : Claim) → Placed shape names places blocks → IsRight names s a → start_of a.reach.first a.reach.pages + a.reach.pages ≤ 131072
start_low shape names places blocks s a placed right = go (a.reach.pages == 0) refl
  where
    go : (t : Bool) → (a.reach.pages == 0) ≡ t → (if t then 0 else a.reach.first) + a.reach.pages ≤ 131072
    go true e = let z : a.reach.pages ≡ 0 = grind (arith, nat_tests) in omega arith
    go false e = let some : 0 < a.reach.pages = grind (arith, nat_tests) in let k = span_low shape names places blocks s a placed right (a.reach.pages - 1) (omega arith) in omega arith

module _ (c : Core) (lane : ℕ) (call : Flight) (h : Coherent c) (flies : c.calls lane ≡ Some call) where
  right : IsRight c.names (plain c) call.claim
  right = h.in_flight.right lane call.claim (ap claim_of flies)

  pub first_fits : 0 < call.claim.reach.pages → call.claim.reach.first < 2 ^ 32
  first_fits l = let k = span_low c.shape c.names c.places c.blocks (plain c) call.claim h.placed right 0 l in omega arith

  pub start_fits : start_of call.claim.reach.first call.claim.reach.pages + call.claim.reach.pages < 2 ^ 32
  start_fits = let k = start_low c.shape c.names c.places c.blocks (plain c) call.claim h.placed right in omega arith

-- ---- walks from there

first_same : (n first k i : ℕ) → k ≡ start_of first n → i < n → k ≡ first
first_same n first k i e l = go (n == 0) refl e
  where
    go : (t : Bool) → (n == 0) ≡ t → k ≡ (if t then 0 else first) → k ≡ first
    go true q w = absurd (let z : n ≡ 0 = grind (arith, nat_tests) in omega arith)
    go false q w = w

-- a walk along a span does the same from its start
pub sweep-start : {A : Type 0} (n first k : ℕ) (at : ℕ → ℕ → Option ℕ) (step : ℕ → ℕ → A → A) (x : A) → k ≡ start_of first n → sweep n (at k) step x ≡ sweep n (at first) step x
unfolding sweep
sweep-start zero first k at step x e = refl
sweep-start (suc n) first k at step x e = ap (λ (a : ℕ). sweep (suc n) (at a) step x) (first_same (suc n) first k n e (omega arith))

-- and needs the same
pub along-start : {A : Type 0} (n first k : ℕ) (at : ℕ → ℕ → Option ℕ) (step : ℕ → ℕ → A → A) (Needs : ℕ → A → Type 0) (x : A) → k ≡ start_of first n → Along n (at first) step Needs x → Along n (at k) step Needs x
along-start n first k at step Needs x e h i b l = subst (λ (a : ℕ). Along n (at a) step Needs x) (sym (first_same n first k i e l)) h i b l
