use Rattle.std.proofs.Common.{◌<◌, Ok, sym, ap, ◌∙◌}
use Rattle.core_state.specs.State.{Core}
use Rattle.core_state.specs.PlainOf.{plain}
use Rattle.core_state.specs.Opening.{Image, opening_core}
use Rattle.system_state.specs.Settled.{mounted_of}
use Rattle.system_start.specs.Started.{pages_of}
use Rattle.mounted_systems.proofs.Dealt.{on_ok, count, some_told, sizes, page_is, image_is}
use Rattle.mounted_systems.proofs.opening.open_over.Goals as goal

pub start-requires-clause-drive : goal.start-requires-clause-drive
start-requires-clause-drive g c =
    let pages = c.requires.image.0 in
    let m = c.requires.image.1 in
    let h = c.requires.image.2 in
    let full = c.mounted_is_whole.ensures.count m.bytes c.args.meta pages m.mounts in
    let some : 0 < c.args.meta.geometry.dies = c.look.ensures.drive.some_dies in
    c.mounted_images_may_start.ensures c.args.dies.items m.bytes c.args.meta pages m.mounts
    (count g.D.Die.seen c.args.dies.items c.args.meta pages some full h)
    (some_told g.D.Die.seen c.args.dies.items c.args.meta pages some full h)
    (sizes g.D.Die.seen c.args.dies.items c.args.meta pages some full h)
    (page_is g.D.Die.seen c.args.dies.items c.args.meta pages some full h c.image_page_lies_on_its_die.ensures)

pub returns-clause-core : goal.returns-clause-core
returns-clause-core g c = on_ok c.start.result
    (λ s is pages m h.
    let full = c.mounted_is_whole.ensures.count m.bytes c.args.meta pages m.mounts in
    let some : 0 < c.args.meta.geometry.dies = c.look.ensures.drive.some_dies in
    is ∙ ap (λ (image : Image). opening_core image c.args.options.lanes c.args.options.place)
    (image_is g.D.Die.seen c.args.dies.items c.args.meta pages some full h c.image_page_lies_on_its_die.ensures))
    c.start.ensures.core

pub returns-clause-mounts : goal.returns-clause-mounts
returns-clause-mounts g c = on_ok c.start.result
    (λ s is pages bytes m h.
    let full = c.mounted_is_whole.ensures.count bytes c.args.meta pages m in
    let some : 0 < c.args.meta.geometry.dies = c.look.ensures.drive.some_dies in
    let same = page_is g.D.Die.seen c.args.dies.items c.args.meta pages some full h c.image_page_lies_on_its_die.ensures in
    c.opening_is_mounted.ensures.mounts bytes c.args.meta pages (pages_of g.D.Die.seen c.args.dies.items) c.args.options.lanes c.args.options.place
    c.look.ensures.table c.look.ensures.sound m same
    ∙ ap (λ (k : Core). Ok (mounted_of (plain k))) (sym is))
    c.start.ensures.core
