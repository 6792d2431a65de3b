use Rattle.name_table.proofs.Classes.{place_here, place_later, any_later, none_left}
use Rattle.name_table.proofs.index.place_of.Goals as goal

pub returns-then-entry-id-clause-gone : goal.returns-then-entry-id-clause-gone
returns-then-entry-id-clause-gone c = place_here c.args.id c.args.entries.now c.loop-i.i _ c.loop-i-test.true c.if-entry-id.true c.loop-i.invariant.rest

pub loop-i-preserved : goal.loop-i-preserved
loop-i-preserved c =
    record {
      any = any_later c.args.id c.args.entries.now c.loop-i.i _ c.loop-i-test.true c.if-entry-id.false c.loop-i.invariant.any;
      rest = place_later c.args.id c.args.entries.now c.loop-i.i _ c.loop-i-test.true c.if-entry-id.false c.loop-i.invariant.rest;
    }

pub returns : goal.returns
returns c = absurd (none_left c.args.id c.args.entries.now c.loop-i.i c.loop-i-test.false c.loop-i.invariant.any)
