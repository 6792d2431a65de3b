use Rattle.std.proofs.Common.{◌≡◌, arith}
use Rattle.edge_io.specs.Memory.{place}
use Rattle.edge_io.proofs.Entries.{entries-set, entries-push}
use Rattle.edge_io.proofs.mem_room.put_entry.Goals as goal

pub returns-then-place-len-clause-ok : goal.returns-then-place-len-clause-ok
returns-then-place-len-clause-ok c =
    entries-set c.args.files.now.items c.args.name.now c.args.bytes.now c.place_of-place.result c.index_mut.result.now (c.index_mut.result.now.0, c.new-copy.result)
    (grind arith) (omega arith) (grind arith)

pub returns-clause-ok : goal.returns-clause-ok
returns-clause-ok c =
    let here : c.place_of-place.result ≡ place c.args.files.now.items c.args.name.now = grind arith in
    entries-push c.args.files.now.items c.push.new.self.items c.args.name.now c.args.bytes.now
    (omega (arith, here)) (grind arith)
