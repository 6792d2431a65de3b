use Rattle.ftl_die.proofs.Went.{fresh_view}
use Rattle.ftl_die.proofs.Wholeness.{fresh_whole, fresh_spared}
use Rattle.ftl_die.proofs.ftl_die.FtlDie.new.Goals as goal

pub invariant_of-result-clause-each_whole : goal.invariant_of-result-clause-each_whole
invariant_of-result-clause-each_whole g c = fresh_whole (g.R.RawFlash.seen c.args.raw) c.in-Ok-Ok.slots.items c.args.pages c.in-Ok-Ok.layout.places.items (c.in-Ok-Ok.ensures.places)

pub invariant_of-result-clause-spared : goal.invariant_of-result-clause-spared
invariant_of-result-clause-spared g c = fresh_spared c.args.pages _ c.in-Ok-Ok.layout.places.items c.in-Ok-Ok.layout.owners.items (c.in-Ok-Ok.ensures.places) (c.in-Ok-Ok.ensures.owners)

pub returns-clause-ok : goal.returns-clause-ok
returns-clause-ok g c = fresh_view (g.R.RawFlash.seen c.args.raw) c.in-Ok-Ok.slots.items c.args.pages c.in-Ok-Ok.layout.places.items (c.in-Ok-Ok.ensures.places)
