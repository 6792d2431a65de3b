-- Entries that were right so far, and the verdict on all.
use Rattle.std.proofs.Common.{◌≡◌, inl, inr, ℕ, zero, suc, ◌+◌, ◌≤◌, List, [], ◌∷◌, ◌++◌, length, map, take, drop, Bool, true, false, ◌&&◌, nat_eq, eqb, Option, Some, None, ap, subst, ◌∙◌, sym, refl, append_assoc, append-nil, arith}
use Rattle.std.specs.Prelude.{IsTrue, IfSome, slice_get, unwrap_or, if◌then◌else◌}
use Rattle.std.specs.Option.{option_map}
use Rattle.std.proofs.lemmas.Bool.{eqb-true, and_parts, leb-true}
use Rattle.std.proofs.lemmas.List.{take_all}
use Rattle.plain_files.specs.declared.calls.Call.{Call}
use Rattle.plain_files.specs.declared.calls.Reply.{Reply}
use Rattle.plain_files.specs.declared.calls.Request.{Request}
use Rattle.plain_files.specs.Plain.{State, answer}
use Rattle.plain_files.specs.History.{Entry, Legal, Serves, calls_in, requests_of, is_excuse}
use Rattle.history_check.specs.Verdicts.{Line, entry, lines_of, made_in, has_come, if_come, next_request, are_all_made}
use Rattle.history_check.proofs.Lists.{if_some, some_same, split_more}
use Rattle.history_check.specs.Held.{Moves}
use Rattle.history_check.proofs.Entries.{legal_push, calls_push, in_each, count_next}

-- These entries are legal up to a state; each lane's calls among them are the first of its requests, and each stands behind
-- what it awaits.
pub record Follows (lanes : List (List Request)) (first : State) (before : List Entry) (state : State) : Type 0 where
  pub legal : Legal first before state
  pub each : (lane : ℕ) → calls_in lane before ≡ map (λ r. r.call) (take (made_in before lane) (requests_of lanes lane))
  pub waits : (front rest : List Entry) (e : Entry) (r : Request) → before ≡ front ++ e ∷ rest →
      slice_get (requests_of lanes e.lane) (made_in front e.lane) ≡ Some r → IfSome r.awaits (λ awaited. awaited.1 ≤ made_in front awaited.0)

pub no_entries : (lanes : List (List Request)) (state : State) → Follows lanes state [] state
no_entries lanes state = record {
  legal = refl;
  each = λ lane. refl;
  waits = λ front rest e r is got. absurd (nothing_in front rest e is);
}
  where
    nothing_in : (front rest : List Entry) (e : Entry) → [] ≡ front ++ e ∷ rest → ⊥
    nothing_in [] rest e is = cc
    nothing_in (f ∷ front) rest e is = cc

-- what a next request is
come_parts : (made : ℕ → ℕ) (o : Option Request) (r : Request) → if_come made o ≡ Some r → (o ≡ Some r) × (has_come made r.awaits ≡ true)
come_parts made None r is = cc
come_parts made (Some q) r is =
    let w = if_some (has_come made q.awaits) (Some q) r is in
    let P : Request → Type 0 = λ x. has_come made x.awaits ≡ true in
    (w.1, subst P (some_same q r w.1) w.0)

pub record IsNext (lanes : List (List Request)) (made : ℕ → ℕ) (lane k : ℕ) (r : Request) : Type 0 where
  pub number : k ≡ made lane + 1
  pub there : slice_get (requests_of lanes lane) (made lane) ≡ Some r
  pub come : has_come made r.awaits ≡ true

pub next_parts : (lanes : List (List Request)) (made : ℕ → ℕ) (lane k : ℕ) (r : Request) → next_request lanes made lane k ≡ Some r → IsNext lanes made lane k r
next_parts lanes made lane k r is =
    let w = if_some (nat_eq k (made lane + 1)) (if_come made (slice_get (requests_of lanes lane) (made lane))) r is in
    let parts = come_parts made (slice_get (requests_of lanes lane) (made lane)) r w.1 in
    record { number = eqb-true k (made lane + 1) w.0; there = parts.0; come = parts.1 }

awaited_come : (made : ℕ → ℕ) (awaits : Option (ℕ × ℕ)) → has_come made awaits ≡ true → IfSome awaits (λ awaited. awaited.1 ≤ made awaited.0)
awaited_come made None come = tt
awaited_come made (Some awaited) come = leb-true awaited.1 (made awaited.0) come

-- how many calls of a lane were made, with an entry more
pub made_more : (before : List Entry) (e : Entry) (lane : ℕ) → made_in (before ++ e ∷ []) lane ≡ (if eqb e.lane lane then made_in before lane + 1 else made_in before lane)
made_more before e lane = ap (λ cs. length cs) (calls_push lane before e) ∙ count_next (eqb e.lane lane) (calls_in lane before) (made_in before lane) e.call refl

-- one entry more
pub one_more : (lanes : List (List Request)) (first : State) (before : List Entry) (state : State) (lane k : ℕ) (request : Request) (reply : Reply) (after : State) → Follows lanes first before state → IsNext lanes (made_in before) lane k request → Moves state request.call reply after → Follows lanes first (before ++ entry lane request.call reply ∷ []) after
one_more lanes first before state lane k request reply after follows next moves =
    let e : Entry = entry lane request.call reply in
    record {
      legal = legal_push first state after before e follows.legal moves;
      each = λ n.
          let P : ℕ → Type 0 = λ m. option_map (λ r. r.call) (slice_get (requests_of lanes m) (made_in before m)) ≡ Some request.call in
          calls_push n before e
          ∙ in_each (eqb lane n) (requests_of lanes n) (calls_in n before) (made_in before n) request.call
          (λ same. subst P (eqb-true lane n same) (ap (option_map (λ (r : Request). r.call)) next.there)) (follows.each n)
          ∙ ap (λ count. map (λ (r : Request). r.call) (take count (requests_of lanes n))) (sym (made_more before e n));
      waits = λ front rest x r is got.
          elim (split_more before front rest e x is) [
            | inl w ↦
                let Q : List Entry → Type 0 = λ f. slice_get (requests_of lanes lane) (made_in f lane) ≡ Some r in
                let R : Entry → Type 0 = λ y. slice_get (requests_of lanes y.lane) (made_in front y.lane) ≡ Some r in
                let here : slice_get (requests_of lanes lane) (made_in before lane) ≡ Some r = subst Q (sym w.0) (subst R (sym w.1) got) in
                let same : request ≡ r = some_same request r (sym next.there ∙ here) in
                let S : Request → Type 0 = λ q. IfSome q.awaits (λ awaited. awaited.1 ≤ made_in before awaited.0) in
                let T : List Entry → Type 0 = λ f. IfSome r.awaits (λ awaited. awaited.1 ≤ made_in f awaited.0) in
                subst T w.0 (subst S same (awaited_come (made_in before) request.awaits next.come))
            | inr w ↦ follows.waits front w.0 x r w.1 got
          ];
    }

all_made_at : (made : ℕ → ℕ) (lanes : List (List Request)) (n i : ℕ) → are_all_made lanes n made ≡ true → length (requests_of lanes i) ≤ made (n + i)
all_made_at made [] n i all = omega arith
all_made_at made (requests ∷ lanes) n zero all =
    let here : made n ≡ length requests = eqb-true (made n) (length requests) (and_parts (nat_eq (made n) (length requests)) (are_all_made lanes (n + 1) made) all).0 in
    let same : made (n + zero) ≡ made n = ap made (omega arith) in
    omega (arith, here, same)
all_made_at made (requests ∷ lanes) n (suc i) all =
    let rest : length (requests_of lanes i) ≤ made ((n + 1) + i) = all_made_at made lanes (n + 1) i (and_parts (nat_eq (made n) (length requests)) (are_all_made lanes (n + 1) made) all).1 in
    let same : made ((n + 1) + i) ≡ made (n + suc i) = ap made (omega arith) in
    omega (arith, rest, same)

-- all entries
pub all_served : (lanes : List (List Request)) (first : State) (before : List Entry) (state : State) → Follows lanes first before state → are_all_made lanes 0 (made_in before) ≡ true → Serves lanes before
all_served lanes first before state follows all = record {
  each = λ lane.
      let most : length (requests_of lanes lane) ≤ made_in before (0 + lane) = all_made_at (made_in before) lanes 0 lane all in
      let same : made_in before (0 + lane) ≡ made_in before lane = ap (made_in before) (omega arith) in
      let enough : length (requests_of lanes lane) ≤ made_in before lane = omega (arith, most, same) in
      follows.each lane ∙ ap (map (λ (r : Request). r.call)) (take_all (made_in before lane) (requests_of lanes lane) enough);
  waits = follows.waits;
}
