use Rattle.std.proofs.Common.{◌≡◌, ◌+◌, ◌-◌, List, ◌++◌, length, get_or, string_bytes, sym, ap, ◌∙◌, subst, arith}
use Rattle.std.specs.Prelude.{vec_len}
use Rattle.script_words.specs.declared.script.Lane.{Lane}
use Rattle.script_words.specs.Lanes.{names}
use Rattle.lane_logs.specs.declared.logs.LaneLog.{LaneLog}
use Rattle.transcript_text.specs.Print.{reply_line}
use Rattle.log_text.proofs.Lining.{call_read, reply_in, line_more, lines_all}
use Rattle.log_text.proofs.printing.reply_lines.Goals as goal

pub bounds-logs-lane : goal.bounds-logs-lane
bounds-logs-lane c =
    let lanes = length c.args.script.now.lanes in
    let calls = c.requires.told.0 in
    let told = c.requires.told.1 in
    let call = call_read lanes calls c.args.logs.now c.in_ok-places.places c.loop-i.i c.len-i-end.result c.index.result.now told (c.in_ok-places.ensures lanes calls told) c.loop-i-test.true c.len-i-end.ensures c.index.ensures in
    let count = told.are.count in
    let low = call.lane in
    omega arith

pub overflow_sub-k : goal.overflow_sub-k
overflow_sub-k c =
    let lanes = length c.args.script.now.lanes in
    let calls = c.requires.told.0 in
    let told = c.requires.told.1 in
    let call = call_read lanes calls c.args.logs.now c.in_ok-places.places c.loop-i.i c.len-i-end.result c.index.result.now told (c.in_ok-places.ensures lanes calls told) c.loop-i-test.true c.len-i-end.ensures c.index.ensures in
    (reply_in lanes calls c.args.logs.now c.loop-i.i c.index.result.now c.index-logs-lane.result told call c.index-logs-lane.is).0

pub index-entry-requires : goal.index-entry-requires
index-entry-requires c =
    let lanes = length c.args.script.now.lanes in
    let calls = c.requires.told.0 in
    let told = c.requires.told.1 in
    let log = c.index-logs-lane.result in
    let call = call_read lanes calls c.args.logs.now c.in_ok-places.places c.loop-i.i c.len-i-end.result c.index.result.now told (c.in_ok-places.ensures lanes calls told) c.loop-i-test.true c.len-i-end.ensures c.index.ensures in
    let within = (reply_in lanes calls c.args.logs.now c.loop-i.i c.index.result.now log told call c.index-logs-lane.is).2 in
    let same = ap (λ (z : LaneLog). vec_len z.entries) c.index-logs-lane.is in
    omega (arith, log.entries.ok.0)

pub bounds-lanes-lane : goal.bounds-lanes-lane
bounds-lanes-lane c =
    let lanes = length c.args.script.now.lanes in
    let calls = c.requires.told.0 in
    let told = c.requires.told.1 in
    let call = call_read lanes calls c.args.logs.now c.in_ok-places.places c.loop-i.i c.len-i-end.result c.index.result.now told (c.in_ok-places.ensures lanes calls told) c.loop-i-test.true c.len-i-end.ensures c.index.ensures in
    let low = call.lane in
    let same = ap length c.as_slice-lanes.ensures in
    omega arith

pub loop-i-preserved : goal.loop-i-preserved
loop-i-preserved c = λ calls told.
    let lanes = c.args.script.now.lanes in
    let log = c.index-logs-lane.result in
    let call = call_read (length lanes) calls c.args.logs.now c.in_ok-places.places c.loop-i.i c.len-i-end.result c.index.result.now told (c.in_ok-places.ensures (length lanes) calls told) c.loop-i-test.true c.len-i-end.ensures c.index.ensures in
    let read = subst (λ (z : LaneLog). c.index-entry.result.now ≡ get_or z.entries.items (c.index.result.now.1 - 1) c.index-entry.result.now) (sym c.index-logs-lane.is) c.index-entry.ensures in
    let named = subst (λ (xs : List Lane). c.index-lanes-lane.result ≡ get_or xs c.index.result.now.0 c.index-lanes-lane.result) c.as_slice-lanes.ensures c.index-lanes-lane.is in
    let grown = c.in_ok-push_str.ensures.bytes ∙ ap (λ b. string_bytes c.loop-i.text ++ b) (c.as_str.ensures ∙ (c.in_ok-line.ensures ∙ ap (λ (z : Lane). reply_line (c.loop-i.i + 1) z.name c.index.result.now.1 c.index-entry.result.now.reply) (sym c.index-lanes-lane.is))) in
    line_more lanes calls c.args.logs.now c.loop-i.i c.index.result.now log c.index-entry.result.now c.index-lanes-lane.result (string_bytes c.loop-i.text) (string_bytes c.push_str.new.self) told call
    c.index-logs-lane.is read named (c.loop-i.invariant calls told) grown

pub returns : goal.returns
returns c = record {
  lines = λ calls told.
      let lanes = length c.args.script.now.lanes in
      let t = c.loop-i-test.false in
      let e = c.len-i-end.ensures in
      lines_all (names c.args.script.now) calls c.in_ok-places.places.items c.loop-i.i (string_bytes c.loop-i.text) (c.in_ok-places.ensures lanes calls told) (omega (arith, c.in_ok-places.places.ok.0)) (c.loop-i.invariant calls told);
}
