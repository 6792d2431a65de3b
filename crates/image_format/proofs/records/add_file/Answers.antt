use Rattle.std.proofs.Common.{ap, sym, ◌∙◌}
use Rattle.image_format.specs.Reading.{with_file}
use Rattle.image_format.proofs.Listings.{placed_there, len_set, len_there, seal_set}
use Rattle.image_format.proofs.records.add_file.Goals as goal

pub set_len-requires-clause-there : goal.set_len-requires-clause-there
set_len-requires-clause-there c = placed_there c.args.id c.args.name c.args.names.now c.place.new.self c.requires.above c.place.ensures

pub seal-requires : goal.seal-requires
seal-requires c =
    let len = len_set c.args.id c.args.name c.args.len c.args.names.now c.place.new.self c.set_len.new.self c.requires.above c.place.ensures c.set_len.ensures in
    len_there c.args.id c.args.name c.args.len c.args.names.now c.set_len.new.self c.requires.above len

pub returns-then-sealed : goal.returns-then-sealed
returns-then-sealed c =
    let len = len_set c.args.id c.args.name c.args.len c.args.names.now c.place.new.self c.set_len.new.self c.requires.above c.place.ensures c.set_len.ensures in
    seal_set c.args.id c.args.name c.args.len c.args.names.now c.set_len.new.self c.seal.new.self c.requires.above len c.seal.ensures ∙ ap (with_file c.args.names.now c.args.id c.args.name c.args.len) (sym c.if-sealed.true)

pub returns-else-sealed : goal.returns-else-sealed
returns-else-sealed c =
    len_set c.args.id c.args.name c.args.len c.args.names.now c.place.new.self c.set_len.new.self c.requires.above c.place.ensures c.set_len.ensures ∙ ap (with_file c.args.names.now c.args.id c.args.name c.args.len) (sym c.if-sealed.false)
