use Rattle.std.proofs.Common.{◌≡◌, ℕ, ◌+◌, ◌<◌, [], ◌∷◌, ◌++◌, List, length, get_or, take, drop, refl, sym, ap, ◌∙◌, subst, arith}
use Rattle.turn_cell.specs.Desks.{view_alone, opening_alone}
use Rattle.turn_cell.specs.Events.{events_of}
use Rattle.plain_files.specs.History.{Entry}
use Rattle.core_state.specs.History.{calls_of}
use Rattle.system_state.specs.Cores.{core_of}
use Rattle.desk_turns.specs.Passing.{core_seen, Does}
use Rattle.settling.specs.Books.{opening_in}
use Rattle.settling.specs.Words.{IsSmall}
use Rattle.lane_logs.specs.Logs.{AreLogs}
use Rattle.solo_runs.specs.Lines.{script_of, IsBetween, AreCallsOf, HaveMade}
use Rattle.solo_runs.proofs.LinesTold.{no_calls}
use Rattle.solo_runs.proofs.Lining.{split_at, take_more, take_long, lines_none, lines_on, lines_worn, lines_done}
use Rattle.solo_runs.proofs.lines.run_lines.Goals as goal

pub loop-at-init : goal.loop-at-init
loop-at-init g c = (
  c.requires.free,
  (refl, refl),
  lines_none g.D.Die.seen (opening_alone opening_in c.args.alone.now) (view_alone c.args.alone.now) (script_of c.args.script.now) c.requires.between,
  subst (λ (xs : List Entry). AreLogs (length c.args.script.now.lanes) c.args.last xs c.args.logs.now.items) (sym c.requires.none) c.requires.logs,
  c.requires.room,
  subst (λ (xs : List Entry). AreCallsOf c.args.last [] xs) (sym c.requires.none) (no_calls c.args.last),
)

pub run_line-requires-clause-line : goal.run_line-requires-clause-line
run_line-requires-clause-line g c =
    let order = c.args.script.now.order in
    let at = c.loop-at.at in
    let low : at < length order = subst (λ (xs : List (ℕ × ℕ)). at < length xs) c.as_slice-order.ensures c.loop-at-test.true in
    split_at order at (0, 0) low ∙ ap (λ (xs : List (ℕ × ℕ)). take at order ++ get_or xs at (0, 0) ∷ drop (at + 1) order) (sym c.as_slice-order.ensures)

pub run_line-requires-clause-between : goal.run_line-requires-clause-between
run_line-requires-clause-between g c =
    let i = c.loop-at.invariant in
    subst (λ z. IsBetween (script_of c.args.script.now) (take c.loop-at.at c.args.script.now.order) (core_seen (core_of g.D.Die.seen) z (view_alone c.loop-at.alone))) (sym i.1.1) i.2.says.between

pub returns-in_err-run_line-clause-did : goal.returns-in_err-run_line-clause-did
returns-in_err-run_line-clause-did g c =
    let i = c.loop-at.invariant in
    let order = c.args.script.now.order in
    let at = c.loop-at.at in
    let test : at < length order = subst (λ (xs : List (ℕ × ℕ)). at < length xs) c.as_slice-order.ensures c.loop-at-test.true in
    let long = take_long order at (omega arith) in
    let low : length (take at order) < length order = omega arith in
    lines_worn g.D.Die.seen (opening_alone opening_in c.args.alone.now) (opening_alone opening_in c.loop-at.alone) (view_alone c.args.alone.now) (view_alone c.loop-at.alone) (view_alone c.run_line.new.alone) (script_of c.args.script.now) (take at order) (get_or c.as_slice-order.result.now at (0, 0)) c.in_err-run_line.field-0.0 c.from_residual.result c.from_residual.ensures.0 low c.requires.between i.2 c.in_err-run_line.ensures.did

pub loop-at-preserved : goal.loop-at-preserved
loop-at-preserved g c =
    let i = c.loop-at.invariant in
    let e = c.run_line.ensures in
    let s = c.args.script.now in
    let order = s.order in
    let at = c.loop-at.at in
    let o = opening_alone opening_in c.args.alone.now in
    let v = view_alone c.args.alone.now in
    let w = view_alone c.run_line.new.alone in
    let line = get_or c.as_slice-order.result.now at (0, 0) in
    let low : at < length order = subst (λ (xs : List (ℕ × ℕ)). at < length xs) c.as_slice-order.ensures c.loop-at-test.true in
    let more : take at order ++ line ∷ [] ≡ take (at + 1) order = ap (λ (xs : List (ℕ × ℕ)). take at order ++ get_or xs at (0, 0) ∷ []) c.as_slice-order.ensures ∙ sym (take_more order at (0, 0) low) in (
      e.free,
      (e.turn.0 ∙ i.1.0, e.turn.1 ∙ i.1.1),
      subst (λ (xs : List (ℕ × ℕ)). Does v w (HaveMade g.D.Die.seen o v w (script_of s) xs)) more
          (lines_on g.D.Die.seen o (opening_alone opening_in c.loop-at.alone) v (view_alone c.loop-at.alone) w (script_of s) (take at order) line i.1.1 i.2 c.in_ok-run_line.ensures.did),
      c.in_ok-run_line.ensures.logs,
      e.room,
      subst (λ (xs : List (ℕ × ℕ)). AreCallsOf c.args.last xs (calls_of (events_of w.seen))) more c.in_ok-run_line.ensures.told,
    )

pub returns-clause-did : goal.returns-clause-did
returns-clause-did g c =
    let i = c.loop-at.invariant in
    let order = c.args.script.now.order in
    let same = ap (λ (xs : List (ℕ × ℕ)). length xs) c.as_slice-order.ensures in
    let low = c.loop-at.auto.at-end in
    let past = c.loop-at-test.false in
    let all : c.loop-at.at ≡ length order = omega arith in
    lines_done g.D.Die.seen (opening_alone opening_in c.args.alone.now) (view_alone c.args.alone.now) (view_alone c.loop-at.alone) (script_of c.args.script.now) c.loop-at.at all i.2

pub returns-clause-logs : goal.returns-clause-logs
returns-clause-logs g c = c.loop-at.invariant.3

pub run_line-requires-clause-small : goal.run_line-requires-clause-small
run_line-requires-clause-small g c = subst (λ z. IsSmall z.value) (sym c.loop-at.invariant.1.1) c.requires.small
