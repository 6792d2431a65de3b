use Rattle.std.proofs.lemmas.List.{set-set}
use Rattle.ftl_die.specs.declared.place.Place.TheVariants.{Unwritten, Held}
use Rattle.ftl_die.proofs.layout.Layout.hold.Goals as goal

pub returns-clause-places : goal.returns-clause-places
returns-clause-places c = rw c.release.ensures.places (set-set c.args.self.now.places.items c.args.page Unwritten (Held c.args.slot))
