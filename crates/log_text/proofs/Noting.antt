-- Places, noted one after the other.
use Rattle.std.proofs.Common.{◌≡◌, ℕ, zero, suc, ◌+◌, ◌-◌, ◌<◌, ◌≤◌, ◌^◌, List, [], ◌∷◌, Some, length, set, get_or, take, refl, sym, ap, ◌∙◌, subst, ⊎_elim, arith}
use Rattle.std.specs.Prelude.{◌≢◌, ◌⊎◌, slice_get}
use Rattle.std.proofs.lemmas.List.{length-set}
use Rattle.std.proofs.lemmas.Option.{slice_get_read, slice_get_within, same_Some}
use Rattle.plain_files.specs.declared.calls.Numbered.{Numbered}
use Rattle.plain_files.specs.History.{Entry, calls_in}
use Rattle.lane_logs.specs.declared.logs.LaneLog.{LaneLog}
use Rattle.lane_logs.specs.Logs.{replies_to}
use Rattle.log_text.specs.Told.{IsTold}
use Rattle.log_text.specs.Places.{place_behind, ArePlacesBelow, ArePlaces, IsLogOf, HasNoted}
use Rattle.log_text.proofs.Told.{reply_at, calls_below, below_more, below_all, below_few, replies_few, told_there, told_of, each_of}

-- ---- an element that is set

set_here : {X : Type 0} (xs : List X) (i : ℕ) (y : X) → i < length xs → slice_get (set xs i y) i ≡ Some y
set_here [] i y low = absurd (omega arith)
set_here (x ∷ xs) zero y low = refl
set_here (x ∷ xs) (suc i) y low = set_here xs i y (omega arith)

set_off : {X : Type 0} (xs : List X) (i j : ℕ) (y : X) → i ≢ j → slice_get (set xs j y) i ≡ slice_get xs i
set_off [] i j y other = refl
set_off (x ∷ xs) zero zero y other = absurd (other refl)
set_off (x ∷ xs) zero (suc j) y other = refl
set_off (x ∷ xs) (suc i) zero y other = refl
set_off (x ∷ xs) (suc i) (suc j) y other = set_off xs i j y (λ e. other (ap suc e))

same_or_not : (i j : ℕ) → (i ≡ j) ⊎ (i ≢ j)
same_or_not i j = grind arith

-- ---- how many replies there are

pub log_at : (lanes : ℕ) (calls : List Entry) (logs : List LaneLog) (i : ℕ) (log : LaneLog) → IsTold lanes calls logs → i < length logs → log ≡ get_or logs i log → IsLogOf calls log (length calls) × (log.lane ≡ i)
log_at lanes calls logs i log told low here =
    let at = slice_get_read logs (length logs) i log refl low here in
    let lane = told.are.lane i log at in
    (record { replies = told.are.replies i log at ∙ ap (λ (l : ℕ). replies_to l 0 calls) (sym lane); count = refl; few = told.few }, lane)

pub count_more : (lanes : ℕ) (calls : List Entry) (logs : List LaneLog) (i : ℕ) (log : LaneLog) → IsTold lanes calls logs → i < length logs → log ≡ get_or logs i log →
    (calls_below (i + 1) calls ≡ calls_below i calls + length log.entries.items) × (calls_below (i + 1) calls < 2 ^ 32)
count_more lanes calls logs i log told low here =
    let k = log_at lanes calls logs i log told low here in
    let same : length log.entries.items ≡ length (replies_to i 0 calls) = ap length (k.0.replies ∙ ap (λ (l : ℕ). replies_to l 0 calls) k.1) in
    let more = below_more i 0 calls in
    let few = below_few (i + 1) calls in
    let f = told.few in
    (omega arith, omega arith)

pub count_all : (lanes : ℕ) (calls : List Entry) (logs : List LaneLog) (i : ℕ) → IsTold lanes calls logs → i ≤ length logs → length logs ≤ i → calls_below i calls ≡ length calls
count_all lanes calls logs i told high low =
    let is : lanes ≡ i = let k = told.are.count in omega arith in
    ap (λ (n : ℕ). calls_below n calls) (sym is) ∙ below_all lanes calls told.known

-- ---- the places of one lane

read_reply : (calls : List Entry) (log : LaneLog) (many k : ℕ) (x : Numbered) → IsLogOf calls log many → k < length log.entries.items → x ≡ get_or log.entries.items k x →
    slice_get (replies_to log.lane 0 calls) k ≡ Some x
read_reply calls log many k x is low here = subst (λ (xs : List Numbered). slice_get xs k ≡ Some x) is.replies (slice_get_read log.entries.items (length log.entries.items) k x refl low here)

-- a number that is read is one of a call, and 32 bits hold it, and the next place too
pub record FitsWithin (many k number : ℕ) : Type 0 where
  pub from_one : 1 ≤ number
  pub within : number - 1 < many
  pub few : many < 2 ^ 32
  pub next : k + 1 < 2 ^ 32

pub number_fits : (calls : List Entry) (log : LaneLog) (many k : ℕ) (x : Numbered) → IsLogOf calls log many → k < length log.entries.items → x ≡ get_or log.entries.items k x → FitsWithin many k x.number
number_fits calls log many k x is low here =
    let r = told_of log.lane 0 k calls x (read_reply calls log many k x is low here) in
    let w = slice_get_within calls r.i r.e r.at in
    let n = r.number in
    let c = is.count in
    let f = is.few in
    let g = ap length is.replies in
    let s = replies_few log.lane 0 calls in
    record { from_one = omega arith; within = omega arith; few = omega arith; next = omega arith }

pub noted_none : (calls : List Entry) (lane : ℕ) (places : List (ℕ × ℕ)) → HasNoted lane 0 calls places places
noted_none calls lane places = record { count = refl; noted = λ i e at same low. absurd (omega arith); kept = λ i e at other. refl }

noted_here : (calls : List Entry) (lane k at r i : ℕ) (new : List (ℕ × ℕ)) (e : Entry) → at < length new → i ≡ at → r ≡ i → length (calls_in lane (take r calls)) ≡ k → e.lane ≡ lane →
    slice_get (set new at (lane, k + 1)) i ≡ Some (place_behind (take i calls) e)
noted_here calls lane k at r i new e low here is before same =
    let many : k ≡ length (calls_in e.lane (take i calls)) =
    sym before ∙ (ap (λ (m : ℕ). length (calls_in lane (take m calls))) is ∙ ap (λ (l : ℕ). length (calls_in l (take i calls))) (sym same)) in
    let place : (lane, k + 1) ≡ place_behind (take i calls) e = ap (λ (m : ℕ). (lane, m + 1)) many ∙ ap (λ (l : ℕ). (l, length (calls_in e.lane (take i calls)) + 1)) (sym same) in
    ap (λ (m : ℕ). slice_get (set new at (lane, k + 1)) m) here ∙ (set_here new at (lane, k + 1) low ∙ ap (λ (p : ℕ × ℕ). Some p) place)

pub noted_more : (calls : List Entry) (log : LaneLog) (k : ℕ) (x : Numbered) (old new : List (ℕ × ℕ)) → IsLogOf calls log (length old) → k < length log.entries.items → x ≡ get_or log.entries.items k x →
    HasNoted log.lane k calls old new → HasNoted log.lane (k + 1) calls old (set new (x.number - 1) (log.lane, k + 1))
noted_more calls log k x old new is low here has =
    let there = read_reply calls log (length old) k x is low here in
    let r = told_of log.lane 0 k calls x there in
    let n : x.number - 1 ≡ r.i = let m = r.number in omega arith in
    let w : x.number - 1 < length new = let a = slice_get_within calls r.i r.e r.at in let b = is.count in let c = has.count in omega arith in
    record {
      count = length-set new (x.number - 1) (log.lane, k + 1) ∙ has.count;
      noted = λ i e at same few. ⊎_elim
          (λ (s : i ≡ x.number - 1).
          noted_here calls log.lane k (x.number - 1) r.i i new e w s (sym (s ∙ n)) r.before same)
          (λ (d : i ≢ x.number - 1).
          let not : length (calls_in log.lane (take i calls)) ≢ k = λ q.
          let mine : slice_get (replies_to log.lane 0 calls) (length (calls_in log.lane (take i calls))) ≡ Some (reply_at (0 + 1 + i) e.reply) = subst (λ (l : ℕ). slice_get (replies_to l 0 calls) (length (calls_in l (take i calls))) ≡ Some (reply_at (0 + 1 + i) e.reply)) same (told_there 0 i calls e at) in
          let num = ap (λ (z : Numbered). z.number) (same_Some x (reply_at (0 + 1 + i) e.reply) (sym there ∙ (ap (λ (m : ℕ). slice_get (replies_to log.lane 0 calls) m) (sym q) ∙ mine))) in
          d (omega arith) in
          set_off new i (x.number - 1) (log.lane, k + 1) d ∙ has.noted i e at same (omega (arith, not))) (same_or_not i (x.number - 1));
      kept = λ i e at other.
          let d : i ≢ x.number - 1 = λ s.
          let j : r.i ≡ i = sym (s ∙ n) in
          let both : Some r.e ≡ Some e = sym r.at ∙ (ap (λ (m : ℕ). slice_get calls m) j ∙ at) in
          other (ap (λ (z : Entry). z.lane) (sym (same_Some r.e e both)) ∙ r.lane) in
          set_off new i (x.number - 1) (log.lane, k + 1) d ∙ has.kept i e at other;
    }

-- ---- the places of all lanes

pub below_none : (calls : List Entry) (places : List (ℕ × ℕ)) → length places ≡ length calls → ArePlacesBelow 0 calls places
below_none calls places long = record { count = long; each = λ i e at low. absurd (omega arith) }

pub below_next : (lanes : ℕ) (calls : List Entry) (logs : List LaneLog) (i : ℕ) (log : LaneLog) (old new : List (ℕ × ℕ)) → IsTold lanes calls logs → i < length logs → log ≡ get_or logs i log →
    ArePlacesBelow i calls old → HasNoted log.lane (length log.entries.items) calls old new → ArePlacesBelow (i + 1) calls new
below_next lanes calls logs i log old new told low here are has =
    let k = log_at lanes calls logs i log told low here in
    record {
      count = has.count ∙ are.count;
      each = λ j e at few. ⊎_elim
          (λ (s : e.lane ≡ i).
          let mine : e.lane ≡ log.lane = s ∙ sym k.1 in
          let there = subst (λ (l : ℕ). slice_get (replies_to l 0 calls) (length (calls_in l (take j calls))) ≡ Some (reply_at (0 + 1 + j) e.reply)) mine (told_there 0 j calls e at) in
          let w = slice_get_within (replies_to log.lane 0 calls) (length (calls_in log.lane (take j calls))) (reply_at (0 + 1 + j) e.reply) there in
          let g = ap length k.0.replies in
          has.noted j e at mine (omega arith))
          (λ (d : e.lane ≢ i).
          has.kept j e at (λ q. d (q ∙ k.1)) ∙ are.each j e at (omega (arith, d))) (same_or_not e.lane i);
    }

pub below_every : (lanes : ℕ) (calls : List Entry) (logs : List LaneLog) (i : ℕ) (places : List (ℕ × ℕ)) → IsTold lanes calls logs → length logs ≤ i → ArePlacesBelow i calls places → ArePlaces calls places
below_every lanes calls logs i places told high are = record {
  count = are.count;
  each = λ j e at. are.each j e at (let k = each_of (λ (x : Entry). x.lane < lanes) calls j e told.known at in let c = told.are.count in omega arith);
}
