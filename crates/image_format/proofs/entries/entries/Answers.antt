use Rattle.std.proofs.Common.{◌≡◌, ◌+◌, ◌-◌, suc, take, Ok, subst, ◌∙◌, arith}
use Rattle.std.proofs.lemmas.Result.{err_from_is_err_and}
use Rattle.image_format.specs.Faults.{Fails}
use Rattle.image_format.specs.Entries.{one_entry, entries}
use Rattle.image_format.specs.Tables.{stored_files}
use Rattle.image_format.specs.Reading.{cover}
use Rattle.image_format.proofs.Entered.{goes_on, ends, is_done}
use Rattle.image_format.proofs.entries.entries.Goals as goal

pub returns-in_err-one_entry-clause-value : goal.returns-in_err-one_entry-clause-value
returns-in_err-one_entry-clause-value c =
    let p = err_from_is_err_and c.from_residual.result c.from_residual.ensures.1 in
    let files = stored_files c.args.names.now in
    let blocks = c.args.so_far.now.map.blocks in
    let e = c.in_err-one_entry.field-0.0 in
    let total = entries blocks files c.args.count c.args.start (cover c.args.so_far.now) c.args.bytes.now in
    let n : c.args.count - c.loop.counter ≡ suc (c.args.count - (c.loop.counter + 1)) = omega (arith, c.loop-test.true) in
    let one : Fails e (one_entry blocks files c.loop.at (cover c.loop.so_far) (take 16 c.loop.rest.now)) = subst (λ b. Fails e (one_entry b files c.loop.at (cover c.loop.so_far) (take 16 c.loop.rest.now))) c.loop.invariant.blocks (rw (← c.split_at.ensures.front) c.in_err-one_entry.ensures.value) in
    rw (p.1, p.2) (ends e blocks files (c.args.count - c.loop.counter) c.loop.at (cover c.loop.so_far) c.loop.rest.now total _ n one c.loop.invariant.value)

pub loop-preserved : goal.loop-preserved
loop-preserved c =
    let files = stored_files c.args.names.now in
    let blocks = c.args.so_far.now.map.blocks in
    let total = entries blocks files c.args.count c.args.start (cover c.args.so_far.now) c.args.bytes.now in
    let n : c.args.count - c.loop.counter ≡ suc (c.args.count - (c.loop.counter + 1)) = omega (arith, c.loop-test.true) in
    let one : one_entry blocks files c.loop.at (cover c.loop.so_far) (take 16 c.loop.rest.now) ≡ Ok (cover c.one_entry.new.so_far) = subst (λ b. one_entry b files c.loop.at (cover c.loop.so_far) (take 16 c.loop.rest.now) ≡ Ok (cover c.one_entry.new.so_far)) c.loop.invariant.blocks (rw (← c.split_at.ensures.front) c.in_ok-one_entry.ensures.value) in
    record {
      rest = omega (arith, c.split_at.ensures.back_len, c.loop.invariant.rest, n);
      at = omega (arith, c.loop.invariant.at);
      placed = c.in_ok-one_entry.ensures.placed;
      blocks = c.in_ok-one_entry.ensures.blocks ∙ c.loop.invariant.blocks;
      value = rw c.split_at.ensures.back (goes_on blocks files (c.args.count - c.loop.counter) c.loop.at (cover c.loop.so_far) (cover c.one_entry.new.so_far) c.loop.rest.now total _ n one c.loop.invariant.value);
    }

pub returns-clause-value : goal.returns-clause-value
returns-clause-value c = is_done c.args.so_far.now.map.blocks (stored_files c.args.names.now) (c.args.count - c.loop.counter) c.loop.at (cover c.loop.so_far) c.loop.rest.now _ (omega (arith, c.loop-test.false)) c.loop.invariant.value
