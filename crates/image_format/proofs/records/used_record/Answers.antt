use Rattle.std.proofs.Common.{◌<◌, ◌+◌, arith}
use Rattle.image_format.proofs.Listings.{below_less, with_below, with_ids}
use Rattle.image_format.proofs.records.used_record.Goals as goal

pub add_file-requires-clause-above : goal.add_file-requires-clause-above
add_file-requires-clause-above c =
    let above : c.args.so_far.now.last < c.u32_at-id.result = c.fits.ensures.above c.in_ok-demand.ensures.holds in
    below_less (c.args.so_far.now.last + 1) c.u32_at-id.result c.args.so_far.now.names.files (omega arith) c.requires.ids

pub returns-clause-ids : goal.returns-clause-ids
returns-clause-ids c =
    let above : c.args.so_far.now.last < c.u32_at-id.result = c.fits.ensures.above c.in_ok-demand.ensures.holds in
    with_below c.u32_at-id.result (c.args.so_far.now.last + 1) _ _ _ c.args.so_far.now.names c.add_file.new.names c.requires.ids (omega arith) c.add_file.ensures

pub returns-clause-below : goal.returns-clause-below
returns-clause-below c =
    let below : c.u32_at-id.result < c.args.next = c.fits.ensures.below c.in_ok-demand.ensures.holds in
    λ ids. with_ids c.args.next _ _ _ _ c.args.so_far.now.names c.add_file.new.names ids below c.add_file.ensures
