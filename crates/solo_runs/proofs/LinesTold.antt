-- Calls and lines: each lane has been told as many replies as lines were its own.
use Rattle.std.proofs.Common.{◌≡◌, ℕ, ◌+◌, ◌<◌, true, List, [], ◌∷◌, ◌++◌, length, refl, ap, arith, length-append}
use Rattle.std.specs.Prelude.{◌==◌, if◌then◌else◌}
use Rattle.std.proofs.lemmas.Bool.Decides.{nat_tests}
use Rattle.index_lists.specs.Words.{one_if}
use Rattle.plain_files.specs.History.{Entry}
use Rattle.core_solo.specs.Settling.{lines_of}
use Rattle.lane_logs.specs.Logs.{replies_to}
use Rattle.lane_logs.proofs.Logging.{one_of, one_long, replies_more}
use Rattle.solo_runs.specs.Lines.{AreCallsOf}

lines_more : (l : ℕ) (before : List (ℕ × ℕ)) (line : ℕ × ℕ) → lines_of l (before ++ line ∷ []) ≡ lines_of l before + one_if (line.0 == l)
lines_more l [] line = omega arith
lines_more l (x ∷ before) line = let k = lines_more l before line in omega arith

pub calls_next : (last : ℕ) (before : List (ℕ × ℕ)) (line : ℕ × ℕ) (calls : List Entry) (e : Entry) → e.lane ≡ line.0 → AreCallsOf last before calls → AreCallsOf last (before ++ line ∷ []) (calls ++ e ∷ [])
calls_next last before line calls e of are = record {
  many = let a = are.many in omega (arith, length-append calls (e ∷ []), length-append before (line ∷ []));
  each = λ l.
      let a = are.each l in
      let b = ap length (replies_more l last calls e) in
      let d = one_long l (last + length calls + 1) e in
      let g = ap (λ (k : ℕ). one_if (k == l)) of in
      let m = lines_more l before line in
      omega (arith, length-append (replies_to l last calls) (one_of l (last + length calls + 1) e));
}

-- the next line is of a lane that has been told less than it asks
lines_both : (l : ℕ) (xs ys : List (ℕ × ℕ)) → lines_of l (xs ++ ys) ≡ lines_of l xs + lines_of l ys
lines_both l [] ys = omega arith
lines_both l (x ∷ xs) ys = let k = lines_both l xs ys in omega arith

pub lines_left : (lane : ℕ) (before rest : List (ℕ × ℕ)) (line : ℕ × ℕ) → line.0 ≡ lane → lines_of lane before < lines_of lane (before ++ line ∷ rest)
lines_left lane before rest line same =
    let t : (line.0 == lane) ≡ true = grind (arith, nat_tests) in
    let o = ap one_if t in
    let k = lines_both lane before (line ∷ rest) in
    omega arith

pub no_calls : (last : ℕ) → AreCallsOf last [] []
no_calls last = record { many = refl; each = λ l. refl }
