-- Where a lane's replies stand among all calls.
use Rattle.std.proofs.Common.{◌≡◌, ℕ, zero, suc, ◌+◌, ◌<◌, ◌≤◌, Bool, true, false, List, [], ◌∷◌, Option, Some, length, take, refl, sym, ap, ◌∙◌, subst, arith}
use Rattle.std.specs.Prelude.{◌==◌, nat_lt, if◌then◌else◌, slice_get}
use Rattle.std.specs.List.{AllByRecursion}
use Rattle.std.proofs.lemmas.Bool.Decides.{nat_tests}
use Rattle.std.proofs.lemmas.Option.{same_Some}
use Rattle.plain_files.specs.declared.calls.Numbered.{Numbered}
use Rattle.plain_files.specs.declared.calls.Call.{Call}
use Rattle.plain_files.specs.declared.calls.Reply.{Reply}
use Rattle.plain_files.specs.History.{Entry, calls_in}
use Rattle.lane_logs.specs.Logs.{replies_to}

abbrev pub reply_at : ℕ → Reply → Numbered
reply_at number reply = record { number = number; reply = reply }

-- ---- how many there are

-- the calls of the lanes below this one
abbrev pub calls_below : ℕ → List Entry → ℕ
calls_below lane [] = 0
calls_below lane (e ∷ calls) = if nat_lt e.lane lane then calls_below lane calls + 1 else calls_below lane calls

pub none_below : (calls : List Entry) → calls_below 0 calls ≡ 0
none_below [] = refl
none_below (e ∷ calls) = grind (arith, nat_tests, none_below calls)

pub below_more : (lane last : ℕ) (calls : List Entry) → calls_below (lane + 1) calls ≡ calls_below lane calls + length (replies_to lane last calls)
below_more lane last [] = refl
below_more lane last (e ∷ calls) = grind (arith, nat_tests, below_more lane (last + 1) calls)

pub below_all : (lanes : ℕ) (calls : List Entry) → AllByRecursion (λ e. e.lane < lanes) calls → calls_below lanes calls ≡ length calls
below_all lanes [] known = refl
below_all lanes (e ∷ calls) known =
    let k = below_all lanes calls known.1 in
    let t = known.0 in
    grind (arith, nat_tests)

pub below_few : (lane : ℕ) (calls : List Entry) → calls_below lane calls ≤ length calls
below_few lane [] = omega arith
below_few lane (e ∷ calls) = grind (arith, nat_tests, below_few lane calls)

pub replies_few : (lane last : ℕ) (calls : List Entry) → length (replies_to lane last calls) ≤ length calls
replies_few lane last [] = omega arith
replies_few lane last (e ∷ calls) = grind (arith, nat_tests, replies_few lane (last + 1) calls)

-- ---- which one it is

same_lane : (a b : ℕ) → a ≡ b → (a == b) ≡ true
same_lane a b e = grind (arith, nat_tests)

lane_same : (a b : ℕ) → (a == b) ≡ true → a ≡ b
lane_same a b e = grind (arith, nat_tests)

-- a call's reply stands in its lane's log at the place of the call in the lane
pub told_there : (last i : ℕ) (calls : List Entry) (e : Entry) → slice_get calls i ≡ Some e →
    slice_get (replies_to e.lane last calls) (length (calls_in e.lane (take i calls))) ≡ Some (reply_at (last + 1 + i) e.reply)
told_there last i [] e at = absurd (cc)
told_there last zero (x ∷ calls) e at =
    let is : x ≡ e = same_Some x e at in
    let t : (x.lane == e.lane) ≡ true = same_lane x.lane e.lane (ap (λ (z : Entry). z.lane) is) in
    let n : last + 1 ≡ last + 1 + 0 = omega arith in
    ap (λ (b : Bool). slice_get (if b then reply_at (last + 1) x.reply ∷ replies_to e.lane (last + 1) calls else replies_to e.lane (last + 1) calls) 0) t
    ∙ (ap (λ (z : Entry). Some (reply_at (last + 1) z.reply)) is ∙ ap (λ (k : ℕ). Some (reply_at k e.reply)) n)
told_there last (suc i) (x ∷ calls) e at =
    let n : last + 1 + 1 + i ≡ last + 1 + suc i = omega arith in
    one_behind (x.lane == e.lane) (reply_at (last + 1) x.reply) (replies_to e.lane (last + 1) calls) x.call (calls_in e.lane (take i calls)) (Some (reply_at (last + 1 + 1 + i) e.reply)) (told_there (last + 1) i calls e at)
    ∙ ap (λ (k : ℕ). Some (reply_at k e.reply)) n
  where
    one_behind : (b : Bool) (y : Numbered) (ys : List Numbered) (w : Call) (ws : List Call) (r : Option Numbered) → slice_get ys (length ws) ≡ r →
        slice_get (if b then y ∷ ys else ys) (length (if b then w ∷ ws else ws)) ≡ r
    one_behind true y ys w ws r k = k
    one_behind false y ys w ws r k = k

-- a reply of a lane's log belongs to this call
pub record IsReplyOf (l last k : ℕ) (calls : List Entry) (x : Numbered) : Type 0 where
  pub i : ℕ
  pub e : Entry
  pub at : slice_get calls i ≡ Some e
  pub lane : e.lane ≡ l
  pub number : x.number ≡ last + 1 + i
  pub before : length (calls_in l (take i calls)) ≡ k

one_later : (l last k m : ℕ) (y : Entry) (calls : List Entry) (x : Numbered) (b : Bool) → (y.lane == l) ≡ b → length (if b then y.call ∷ [] else []) + k ≡ m →
    IsReplyOf l (last + 1) k calls x → IsReplyOf l last m (y ∷ calls) x
one_later l last k m y calls x b t more r = record {
  i = suc r.i;
  e = r.e;
  at = r.at;
  lane = r.lane;
  number = let n = r.number in omega arith;
  before = ap (λ (c : Bool). length (if c then y.call ∷ calls_in l (take r.i calls) else calls_in l (take r.i calls))) t ∙ (longer b (calls_in l (take r.i calls)) ∙ (ap (λ (n : ℕ). length (if b then y.call ∷ [] else []) + n) r.before ∙ more));
}
  where
    longer : (c : Bool) (ws : List Call) → length (if c then y.call ∷ ws else ws) ≡ length (if c then y.call ∷ [] else []) + length ws
    longer true ws = omega arith
    longer false ws = omega arith

pub told_of : (l last k : ℕ) (calls : List Entry) (x : Numbered) → slice_get (replies_to l last calls) k ≡ Some x → IsReplyOf l last k calls x
told_of l last k [] x at = absurd (cc)
told_of l last k (y ∷ calls) x at = by_lane (λ m. told_of l (last + 1) m calls x) (y.lane == l) k refl at
  where
    by_lane : ((m : ℕ) → slice_get (replies_to l (last + 1) calls) m ≡ Some x → IsReplyOf l (last + 1) m calls x) → (b : Bool) (k : ℕ) → (y.lane == l) ≡ b → slice_get (if b then reply_at (last + 1) y.reply ∷ replies_to l (last + 1) calls else replies_to l (last + 1) calls) k ≡ Some x → IsReplyOf l last k (y ∷ calls) x
    by_lane ih true zero t there = record {
      i = 0;
      e = y;
      at = refl;
      lane = lane_same y.lane l t;
      number = ap (λ (z : Numbered). z.number) (sym (same_Some (reply_at (last + 1) y.reply) x there)) ∙ omega arith;
      before = refl;
    }
    by_lane ih true (suc k) t there = one_later l last k (suc k) y calls x true t (omega arith) (ih k there)
    by_lane ih false k t there = one_later l last k k y calls x false t (omega arith) (ih k there)

-- ---- what holds of all holds of each

pub each_of : (P : Entry → Type 0) (calls : List Entry) (i : ℕ) (e : Entry) → AllByRecursion P calls → slice_get calls i ≡ Some e → P e
each_of P [] i e all at = absurd (cc)
each_of P (x ∷ calls) zero e all at = subst P (cc) all.0
each_of P (x ∷ calls) (suc i) e all at = each_of P calls i e all.1 at
