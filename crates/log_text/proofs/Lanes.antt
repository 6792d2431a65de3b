-- Calls that serve the requests of lanes are calls of these lanes.
use Rattle.std.proofs.Common.{◌≡◌, ℕ, ◌<◌, ◌≤◌, Bool, true, false, List, [], ◌∷◌, Option, length, map, ap, ◌∙◌, ⊎_elim, arith}
use Rattle.std.specs.Prelude.{◌⊎◌, ◌==◌, if◌then◌else◌, unwrap_or}
use Rattle.std.specs.List.{AllByRecursion}
use Rattle.std.proofs.lemmas.Bool.Decides.{nat_tests}
use Rattle.std.proofs.lemmas.List.{length-map}
use Rattle.std.proofs.lemmas.Option.{slice_get_past}
use Rattle.plain_files.specs.declared.calls.Call.{Call}
use Rattle.plain_files.specs.declared.calls.Request.{Request}
use Rattle.plain_files.specs.History.{Entry, Serves, calls_in}
use Rattle.script_words.specs.declared.script.Lane.{Lane}
use Rattle.script_words.specs.Lanes.{requests_by_lane}

below_or_not : (n l : ℕ) → (l < n) ⊎ (n ≤ l)
below_or_not n l = grind arith

same_lane : (l : ℕ) → (l == l) ≡ true
same_lane l = grind (arith, nat_tests)

all_known : (n : ℕ) (calls : List Entry) → ((l : ℕ) → n ≤ l → calls_in l calls ≡ []) → AllByRecursion (λ e. e.lane < n) calls
all_known n [] none = tt
all_known n (e ∷ calls) none = (
  ⊎_elim (λ (low : e.lane < n). low) (λ (high : n ≤ e.lane). absurd (some_call e.call (calls_in e.lane calls) (e.lane == e.lane) (same_lane e.lane) (none e.lane high))) (below_or_not n e.lane),
  all_known n calls (λ l high. none_more e.call (calls_in l calls) (e.lane == l) (none l high)),
)
  where
    some_call : (w : Call) (ws : List Call) (b : Bool) → b ≡ true → (if b then w ∷ ws else ws) ≡ [] → ⊥
    some_call w ws true t none = cc
    some_call w ws false t none = cc

    none_more : (w : Call) (ws : List Call) (b : Bool) → (if b then w ∷ ws else ws) ≡ [] → ws ≡ []
    none_more w ws true none = cc
    none_more w ws false none = none

pub lanes_are_there : (lanes : List Lane) (calls : List Entry) → Serves (requests_by_lane lanes) calls → AllByRecursion (λ e. e.lane < length lanes) calls
lanes_are_there lanes calls serves = all_known (length lanes) calls (λ l high.
    let long = length-map lanes (λ (z : Lane). z.requests) in
    let past = slice_get_past (requests_by_lane lanes) l (omega arith) in
    serves.each l ∙ ap (λ (o : Option (List Request)). map (λ r. r.call) (unwrap_or o [])) past)
