use Rattle.std.proofs.Common.{sym, ap, ◌∙◌, arith}
use Rattle.std.specs.Prelude.{vec_len}
use Rattle.lane_logs.specs.declared.logs.LaneLog.{LaneLog}
use Rattle.log_text.proofs.Told.{none_below}
use Rattle.log_text.proofs.Noting.{count_more, count_all}
use Rattle.log_text.proofs.order.count_of.Goals as goal

pub loop-i-init : goal.loop-i-init
loop-i-init c = λ lanes calls told. sym (none_below calls)

pub loop-i-preserved : goal.loop-i-preserved
loop-i-preserved c = λ lanes calls told.
    let log = c.index-logs-i.result in
    let more = (count_more lanes calls c.args.logs.now c.loop-i.i log told c.loop-i-test.true c.index-logs-i.is).0 in
    let so_far = c.loop-i.invariant lanes calls told in
    let len = c.len-count.ensures ∙ ap (λ (z : LaneLog). vec_len z.entries) (sym c.index-logs-i.is) in
    omega (arith, log.entries.ok.0)

pub overflow_add-count : goal.overflow_add-count
overflow_add-count c =
    let log = c.index-logs-i.result in
    let calls = c.requires.1 in
    let told = c.requires.2 in
    let more = count_more c.requires.0 calls c.args.logs.now c.loop-i.i log told c.loop-i-test.true c.index-logs-i.is in
    let so_far = c.loop-i.invariant c.requires.0 calls told in
    let len = c.len-count.ensures ∙ ap (λ (z : LaneLog). vec_len z.entries) (sym c.index-logs-i.is) in
    let equal = more.0 in
    let few = more.1 in
    omega (arith, log.entries.ok.0)

pub returns : goal.returns
returns c = λ lanes calls told. c.loop-i.invariant lanes calls told ∙ count_all lanes calls c.args.logs.now c.loop-i.i told c.loop-i.auto.i-end c.loop-i-test.false
