use Rattle.std.proofs.Common.{◌≡◌, ◌+◌, ◌≤◌, [], ◌∷◌, refl, sym, ap, ◌∙◌, subst, length, arith, length-append}
use Rattle.lane_logs.specs.declared.logs.LaneLog.{LaneLog}
use Rattle.lane_logs.specs.Logs.{AreLogs, HaveRoom}
use Rattle.script_words.specs.declared.script.Lane.{Lane}
use Rattle.script_words.specs.Lanes.{requests_by_lane}
use Rattle.lane_logs.proofs.Logging.{one_log_more, one_room_more}
use Rattle.lane_logs.proofs.logs.empty_logs.Goals as goal

pub loop-i-preserved : goal.loop-i-preserved
loop-i-preserved c =
    let i = c.loop-i.invariant in
    let new : LaneLog = record { lane = c.loop-i.i; entries = c.in_ok-entries.entries } in
    let is = c.push_reserved.ensures.items in
    let long : length c.push_reserved.new.self.items ≡ c.loop-i.i + 1 = ap length is ∙ omega (arith, length-append c.loop-i.logs.items (new ∷ [])) in (
      λ last. subst (λ xs. AreLogs (c.loop-i.i + 1) last [] xs) (sym is) (one_log_more c.loop-i.i last c.loop-i.logs.items new (i.0 last) refl c.in_ok-entries.ensures.items),
      subst (λ xs. HaveRoom (requests_by_lane c.args.lanes.now) xs) (sym is) (one_room_more c.args.lanes.now c.loop-i.i c.index-lanes-i.result c.loop-i.logs.items new (sym i.2) c.loop-i-test.true c.index-lanes-i.is (c.in_ok-entries.ensures.exact ∙ (c.len.ensures ∙ ap (λ (z : Lane). length z.requests) (sym c.index-lanes-i.is))) i.1),
      long,
      c.push_reserved.ensures.capacity ∙ i.3,
    )

pub returns-clause-logs : goal.returns-clause-logs
returns-clause-logs c = λ last.
    let low : c.loop-i.i ≤ length c.args.lanes.now = c.loop-i.auto.i-end in
    let all : c.loop-i.i ≡ length c.args.lanes.now = omega arith in
    subst (λ n. AreLogs n last [] c.loop-i.logs.items) all (c.loop-i.invariant.0 last)
