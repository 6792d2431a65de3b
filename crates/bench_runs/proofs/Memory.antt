-- Calls of which the logs of the lanes tell that they found memory.
use Rattle.std.proofs.Common.{◌≡◌, ℕ, zero, suc, ◌+◌, ◌<◌, Bool, true, false, List, [], ◌∷◌, Some, length, refl, subst, arith}
use Rattle.std.specs.Prelude.{◌==◌, ◌&&◌, not, if◌then◌else◌, slice_get}
use Rattle.std.specs.List.{list_all, AllByRecursion}
use Rattle.std.proofs.lemmas.Bool.Decides.{nat_tests}
use Rattle.plain_files.specs.declared.calls.Numbered.{Numbered}
use Rattle.plain_files.specs.History.{Entry, is_no_memory}
use Rattle.core_solo.specs.Served.{AreFed}
use Rattle.lane_logs.specs.declared.logs.LaneLog.{LaneLog}
use Rattle.lane_logs.specs.Logs.{replies_to, AreLogs}
use Rattle.bench_runs.specs.Fed.{had_memory, is_fed, are_fed}

both : (a b : Bool) → (a && b) ≡ true → (a ≡ true) × (b ≡ true)
both true b e = (refl, e)
both false b e = absurd (cc)

-- this reply tells of memory
abbrev TellsFed : Numbered → Type 0
TellsFed n = is_no_memory n.reply ≡ false

each_fed : (ns : List Numbered) → list_all had_memory ns ≡ true → AllByRecursion TellsFed ns
each_fed [] e = tt
each_fed (n ∷ ns) e = let k = both (had_memory n) (list_all had_memory ns) e in (found (is_no_memory n.reply) k.0, each_fed ns k.1)
  where
    found : (t : Bool) → not t ≡ true → t ≡ false
    found true e = absurd (cc)
    found false e = refl

-- the log of a lane that has one
record LogAt (logs : List LaneLog) (l : ℕ) : Type 0 where
  pub log : LaneLog
  pub there : slice_get logs l ≡ Some log
  pub fed : is_fed log ≡ true

log_at : (logs : List LaneLog) (l : ℕ) → list_all is_fed logs ≡ true → l < length logs → LogAt logs l
log_at [] l e low = absurd (omega arith)
log_at (x ∷ xs) zero e low = record { log = x; there = refl; fed = (both (is_fed x) (list_all is_fed xs) e).0 }
log_at (x ∷ xs) (suc l) e low = let k = log_at xs l (both (is_fed x) (list_all is_fed xs) e).1 (omega arith) in record { log = k.log; there = k.there; fed = k.fed }

same_lane : (l : ℕ) → (l == l) ≡ true
same_lane l = grind (arith, nat_tests)

first_fed : (t : Bool) (n : Numbered) (ns : List Numbered) → t ≡ true → AllByRecursion TellsFed (if t then n ∷ ns else ns) → TellsFed n
first_fed true n ns is all = all.0
first_fed false n ns is all = absurd (cc)

rest_fed : (t : Bool) (n : Numbered) (ns : List Numbered) → AllByRecursion TellsFed (if t then n ∷ ns else ns) → AllByRecursion TellsFed ns
rest_fed true n ns all = all.1
rest_fed false n ns all = all

lanes_fed : (lanes last : ℕ) (calls : List Entry) → AllByRecursion (λ e. e.lane < lanes) calls → ((l : ℕ) → l < lanes → AllByRecursion TellsFed (replies_to l last calls)) → AreFed calls
lanes_fed lanes last [] known each = tt
lanes_fed lanes last (e ∷ es) known each =
    let n : Numbered = record { number = last + 1; reply = e.reply } in (
      first_fed (e.lane == e.lane) n (replies_to e.lane (last + 1) es) (same_lane e.lane) (each e.lane known.0),
      lanes_fed lanes (last + 1) es known.1 (λ l low. rest_fed (e.lane == l) n (replies_to l (last + 1) es) (each l low)),
    )

pub calls_fed : (lanes last : ℕ) (calls : List Entry) (logs : List LaneLog) → AllByRecursion (λ e. e.lane < lanes) calls → AreLogs lanes last calls logs → are_fed logs ≡ true → AreFed calls
calls_fed lanes last calls logs known are fed = lanes_fed lanes last calls known (λ l low.
    let count = are.count in
    let at = log_at logs l fed (omega arith) in
    subst (λ (ns : List Numbered). AllByRecursion TellsFed ns) (are.replies l at.log at.there) (each_fed at.log.entries.items at.fed))
