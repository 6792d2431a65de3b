use Rattle.std.proofs.Common.{◌≡◌, ◌+◌, ◌≤◌, [], ◌∷◌, ◌++◌, List, length, get_or, take, drop, refl, sym, ap, ◌∙◌, subst, arith}
use Rattle.std.specs.Prelude.{◌-◌, Some}
use Rattle.turn_cell.specs.Desks.{view_alone, opening_alone}
use Rattle.turn_cell.specs.Events.{events_of}
use Rattle.plain_files.specs.declared.calls.Request.{Request}
use Rattle.plain_files.specs.History.{Entry}
use Rattle.script_words.specs.declared.script.Lane.{Lane}
use Rattle.core_state.specs.History.{calls_of}
use Rattle.core_solo.specs.Solo.{request_at}
use Rattle.settling.specs.Books.{opening_in}
use Rattle.lane_logs.specs.Logs.{AreLogs}
use Rattle.solo_runs.specs.Lines.{script_of, AreCallsOf}
use Rattle.solo_runs.proofs.Between.{asks_of_line}
use Rattle.solo_runs.proofs.LinesTold.{calls_next}
use Rattle.solo_runs.proofs.Lining.{line_lane, line_number, line_asks, calls_one, line_made, take_long}
use Rattle.solo_runs.proofs.lines.run_line.Goals as goal

pub returns-clause-did : goal.returns-clause-did
returns-clause-did g c =
    let s = c.args.script.now in
    let x = c.index-lanes-lane.result in
    let r = c.index-requests-number.result in
    let o = asks_of_line (script_of s) (take c.args.at s.order) (drop (c.args.at + 1) s.order) c.args.line c.requires.script c.requires.line in
    let here : x ≡ get_or s.lanes c.args.line.0 x = c.index-lanes-lane.is ∙ ap (λ (xs : List Lane). get_or xs c.args.line.0 x) c.as_slice-lanes.ensures in
    let list : c.as_slice-requests.result.now ≡ x.requests = c.as_slice-requests.ensures ∙ ap (λ (z : Lane). z.requests) (sym c.index-lanes-lane.is) in
    let is : r ≡ get_or x.requests (c.args.line.1 - 1) r = c.index-requests-number.is ∙ ap (λ (xs : List Request). get_or xs (c.args.line.1 - 1) r) list in
    let asks : request_at (script_of s) c.args.line ≡ Some r = line_asks s c.args.line x r (line_lane s c.args.line o.0 o.1) here (line_number s c.args.line o.0 x o.1 here) is in
    line_made g.D.Die.seen (opening_alone opening_in c.args.alone.now) (view_alone c.args.alone.now) (view_alone c.answer.new.alone) (script_of s) (take c.args.at s.order) c.args.line r c.in_ok-answered.answered asks c.requires.between c.in_ok-answered.ensures.did

pub returns-clause-logs : goal.returns-clause-logs
returns-clause-logs g c =
    let s = c.args.script.now in
    let o = opening_alone opening_in c.args.alone.now in
    let v = view_alone c.args.alone.now in
    let w = view_alone c.answer.new.alone in
    let r = c.index-requests-number.result in
    let calls = calls_of (events_of v.seen) in
    let low : c.args.at ≤ length s.order = omega arith in
    let long = take_long s.order c.args.at low in
    let many = c.requires.told.many in
    let number : c.args.last + c.args.at + 1 ≡ c.args.last + length calls + 1 = omega arith in
    subst (λ (xs : List Entry). AreLogs (length s.lanes) c.args.last xs c.note.new.logs.items) (sym (calls_one g.D.Die.seen o v w c.args.line.0 r c.in_ok-answered.answered c.requires.free.2.0 c.in_ok-answered.ensures.did))
    (c.note.ensures.logs (length s.lanes) c.args.last calls r.call number c.requires.logs)

pub returns-clause-told : goal.returns-clause-told
returns-clause-told g c =
    let s = c.args.script.now in
    let o = opening_alone opening_in c.args.alone.now in
    let v = view_alone c.args.alone.now in
    let w = view_alone c.answer.new.alone in
    let r = c.index-requests-number.result in
    let before = take c.args.at s.order in
    let entry : Entry = record { lane = c.args.line.0; call = r.call; reply = c.in_ok-answered.answered.reply } in
    subst (λ (xs : List Entry). AreCallsOf c.args.last (before ++ c.args.line ∷ []) xs) (sym (calls_one g.D.Die.seen o v w c.args.line.0 r c.in_ok-answered.answered c.requires.free.2.0 c.in_ok-answered.ensures.did))
    (calls_next c.args.last before c.args.line (calls_of (events_of v.seen)) entry refl c.requires.told)
