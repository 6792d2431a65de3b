-- The order of a script that was read is one in which a run may answer its lines.
use Rattle.std.proofs.Common.{◌≡◌, ℕ, zero, suc, ◌+◌, ◌-◌, ◌<◌, ◌≤◌, Bool, true, false, List, [], ◌∷◌, ◌++◌, length, Option, Some, None, refl, sym, ap, ◌∙◌, subst, arith, append_assoc}
use Rattle.std.specs.Prelude.{◌==◌, slice_get, if◌then◌else◌, IfSome}
use Rattle.std.proofs.lemmas.List.{append-nil, length-map}
use Rattle.index_lists.specs.Words.{one_if}
use Rattle.plain_files.specs.declared.calls.Request.{Request}
use Rattle.plain_files.specs.History.{Entry, requests_of}
use Rattle.script_words.specs.declared.script.Script.{Script as ScriptLines}
use Rattle.script_words.specs.Lanes.{requests}
use Rattle.call_text.specs.Order as text
use Rattle.call_text.specs.Order.{count_in, InOrder, HasEnded, Awaited, IsWithinLimits}
use Rattle.core_solo.specs.Solo.{Script}
use Rattle.core_solo.specs.Settling.{lines_of, IsInOrder}
use Rattle.core_solo.specs.Served.{FollowLines}
use Rattle.solo_runs.specs.Lines.{script_of, IsOrdered}
use Rattle.solo_runs.specs.Run.{IsRunnable}

one_more : (t : Bool) (n : ℕ) → one_if t + n ≡ (if t then n + 1 else n)
one_more true n = omega arith
one_more false n = omega arith

pub count_is : (lane : ℕ) (places : List (ℕ × ℕ)) → lines_of lane places ≡ count_in lane places
count_is lane [] = refl
count_is lane (p ∷ ps) = ap (λ (n : ℕ). one_if (p.0 == lane) + n) (count_is lane ps) ∙ one_more (p.0 == lane) (count_in lane ps)

-- ---- further on in the order

order_at : (lanes : List (List Request)) (seen before rest : List (ℕ × ℕ)) → InOrder lanes seen (before ++ rest) → InOrder lanes (seen ++ before) rest
order_at lanes seen [] rest h = subst (λ (xs : List (ℕ × ℕ)). InOrder lanes xs rest) (sym (append-nil seen)) h
order_at lanes seen (p ∷ ps) rest h = subst (λ (xs : List (ℕ × ℕ)). InOrder lanes xs rest) (append_assoc seen (p ∷ []) ps) (order_at lanes (seen ++ p ∷ []) ps rest h.2)

awaited_at : (lanes : List (List Request)) (seen before rest : List (ℕ × ℕ)) → Awaited lanes seen (before ++ rest) → Awaited lanes (seen ++ before) rest
awaited_at lanes seen [] rest h = subst (λ (xs : List (ℕ × ℕ)). Awaited lanes xs rest) (sym (append-nil seen)) h
awaited_at lanes seen (p ∷ ps) rest h = subst (λ (xs : List (ℕ × ℕ)). Awaited lanes xs rest) (append_assoc seen (p ∷ []) ps) (awaited_at lanes (seen ++ p ∷ []) ps rest h.1)

whole_at : (lanes : List (List Request)) (order : List (ℕ × ℕ)) → InOrder lanes [] order → (lane : ℕ) → count_in lane order ≡ length (requests_of lanes lane)
whole_at lanes order h = order_at lanes [] order [] (subst (λ (xs : List (ℕ × ℕ)). InOrder lanes [] xs) (sym (append-nil order)) h)

-- ---- one line

record HasRequest (requests : List Request) (n : ℕ) : Type 0 where
  request : Request
  there : slice_get requests n ≡ Some request

has_request : (requests : List Request) (n : ℕ) → n < length requests → HasRequest requests n
has_request [] n l = absurd (omega arith)
has_request (r ∷ rs) zero l = record { request = r; there = refl }
has_request (r ∷ rs) (suc n) l = let h = has_request rs n (omega arith) in record { request = h.request; there = h.there }

waits_at : (before : List (ℕ × ℕ)) (o : Option (ℕ × ℕ)) → IfSome o (HasEnded before) → IfSome o (λ awaited. awaited.1 ≤ lines_of awaited.0 before)
waits_at before None h = tt
waits_at before (Some a) h = subst (λ (n : ℕ). a.1 ≤ n) (sym (count_is a.0 before)) h.1

line_at : (s : Script) (before rest : List (ℕ × ℕ)) (line : ℕ × ℕ) → InOrder s.lanes before (line ∷ rest) → Awaited s.lanes before (line ∷ rest) → IsInOrder s before line
line_at s before rest line h w =
    let e = h.0 in
    let l = h.1 in
    let k : line.1 - 1 ≡ count_in line.0 before = omega arith in
    let has = has_request (requests_of s.lanes line.0) (line.1 - 1) (omega arith) in
    record {
      request = has.request;
      asks = has.there;
      waits = waits_at before has.request.awaits (w.0 has.request (ap (λ (n : ℕ). slice_get (requests_of s.lanes line.0) n) (sym k) ∙ has.there));
    }

-- ---- the script

pub ordered : (s : ScriptLines) → text.IsOrdered s → IsOrdered (script_of s)
ordered s h = record {
  whole = record {
    numbered = λ before rest line is. (at before rest line is).0 ∙ ap (λ (n : ℕ). n + 1) (sym (count_is line.0 before));
    whole = λ lane. count_is lane s.order ∙ whole_at (requests s) s.order h.order lane;
  };
  waits = λ before rest line is. line_at (script_of s) before rest line (at before rest line is) (waits before rest line is);
}
  where
    at : (before rest : List (ℕ × ℕ)) (line : ℕ × ℕ) → s.order ≡ before ++ line ∷ rest → InOrder (requests s) before (line ∷ rest)
    at before rest line is = order_at (requests s) [] before (line ∷ rest) (subst (λ (xs : List (ℕ × ℕ)). InOrder (requests s) [] xs) is h.order)

    waits : (before rest : List (ℕ × ℕ)) (line : ℕ × ℕ) → s.order ≡ before ++ line ∷ rest → Awaited (requests s) before (line ∷ rest)
    waits before rest line is = awaited_at (requests s) [] before (line ∷ rest) (subst (λ (xs : List (ℕ × ℕ)). Awaited (requests s) [] xs) is h.awaited)

pub same_count : (s : ScriptLines) → length (script_of s).lanes ≡ length s.lanes
same_count s = length-map s.lanes (λ lane. lane.requests)

pub runnable : (s : ScriptLines) → text.IsOrdered s → IsWithinLimits s → IsRunnable (script_of s)
runnable s h limits = record {
  ordered = ordered s h;
  few = limits.calls;
  lanes = subst (λ (n : ℕ). n ≤ 32) (sym (same_count s)) limits.lanes;
}

-- ---- calls of lines

pub follow_count : (script : Script) (lines : List (ℕ × ℕ)) (calls : List Entry) → FollowLines script lines calls → length calls ≡ length lines
follow_count script [] calls h = ap length h
follow_count script (line ∷ lines) calls h =
    let rest = follow_count script lines h.1 h.4 in
    let e = ap length h.2 in
    omega arith

-- ---- how many requests a lane has

count_most : (lane : ℕ) (places : List (ℕ × ℕ)) → count_in lane places ≤ length places
count_most lane [] = omega arith
count_most lane (p ∷ ps) =
    let rest = count_most lane ps in
    let e = one_more (p.0 == lane) (count_in lane ps) in
    let one = one_at_most (p.0 == lane) in
    omega arith
  where
    one_at_most : (t : Bool) → one_if t ≤ 1
    one_at_most true = omega arith
    one_at_most false = omega arith

pub lane_short : (s : ScriptLines) → text.IsOrdered s → IsWithinLimits s → (lane : ℕ) → length (requests_of (requests s) lane) ≤ 10000
lane_short s h limits lane =
    let e = whole_at (requests s) s.order h.order lane in
    let m = count_most lane s.order in
    let c = limits.calls in
    omega arith
