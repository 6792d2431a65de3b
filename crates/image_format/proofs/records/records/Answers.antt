use Rattle.std.proofs.Common.{◌≡◌, ◌+◌, ◌-◌, suc, arith}
use Rattle.std.proofs.lemmas.Result.{err_from_is_err_and}
use Rattle.image_format.specs.Records.{records}
use Rattle.image_format.specs.Reading.{listing}
use Rattle.image_format.proofs.Listings.{goes_on, ends, is_done, one_less}
use Rattle.image_format.proofs.records.records.Goals as goal

pub returns-in_err-one_record-clause-value : goal.returns-in_err-one_record-clause-value
returns-in_err-one_record-clause-value c =
    let p = err_from_is_err_and c.from_residual.result c.from_residual.ensures.1 in
    let total = records c.args.l c.args.next c.args.l.records 4096 (listing c.args.so_far.now) c.args.bytes.now in
    let n : c.args.l.records - c.loop.counter ≡ suc (c.args.l.records - (c.loop.counter + 1)) = omega (arith, c.loop-test.true) in
    rw (p.1, p.2) (ends c.in_err-one_record.field-0.0 c.args.l c.args.next (c.args.l.records - c.loop.counter) c.loop.at (listing c.loop.so_far) c.loop.rest.now total _ n (rw (← c.split_at.ensures.front) c.in_err-one_record.ensures.value) c.loop.invariant.value)

pub loop-preserved : goal.loop-preserved
loop-preserved c =
    let total = records c.args.l c.args.next c.args.l.records 4096 (listing c.args.so_far.now) c.args.bytes.now in
    let n : c.args.l.records - c.loop.counter ≡ suc (c.args.l.records - (c.loop.counter + 1)) = omega (arith, c.loop-test.true) in
    let left = one_less (c.args.l.records) c.loop.counter c.args.l.size c.loop-test.true in
    record {
      rest = omega (arith, c.split_at.ensures.back_len, c.loop.invariant.rest, left.0);
      at = omega (arith, c.loop.invariant.at, left.1);
      room = omega (arith, c.in_ok-one_record.ensures.room, c.loop.invariant.room);
      below = c.in_ok-one_record.ensures.below c.loop.invariant.below;
      ids = c.in_ok-one_record.ensures.ids;
      value = rw c.split_at.ensures.back (goes_on c.args.l c.args.next (c.args.l.records - c.loop.counter) c.loop.at (listing c.loop.so_far) (listing c.one_record.new.so_far) c.loop.rest.now total _ n (rw (← c.split_at.ensures.front) c.in_ok-one_record.ensures.value) c.loop.invariant.value);
    }

pub returns-clause-value : goal.returns-clause-value
returns-clause-value c = is_done c.args.l c.args.next (c.args.l.records - c.loop.counter) c.loop.at (listing c.loop.so_far) c.loop.rest.now _ (omega (arith, c.loop-test.false)) c.loop.invariant.value
