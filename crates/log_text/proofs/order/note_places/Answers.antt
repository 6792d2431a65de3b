use Rattle.std.proofs.Common.{◌≡◌, ℕ, ◌<◌, length, subst, arith}
use Rattle.log_text.specs.Places.{HasNoted}
use Rattle.log_text.proofs.Noting.{FitsWithin, number_fits, noted_none, noted_more}
use Rattle.log_text.proofs.order.note_places.Goals as goal

pub loop-k-init : goal.loop-k-init
loop-k-init c = λ calls is. noted_none calls c.args.log.now.lane c.args.places.now

within : (c : goal.After-index) → c.loop-k.k < length c.args.log.now.entries.items
within c = let t = c.loop-k-test.true in let e = c.len-k-end.ensures in omega (arith, c.args.log.now.entries.ok.0)

fits : (c : goal.After-index) → FitsWithin (length c.args.places.now) c.loop-k.k c.index.result.now.number
fits c = number_fits c.requires.0 c.args.log.now (length c.args.places.now) c.loop-k.k c.index.result.now c.requires.1 (within c) c.index.ensures

pub loop-k-preserved : goal.loop-k-preserved
loop-k-preserved c = λ calls is. noted_more calls c.args.log.now c.loop-k.k c.index.result.now c.args.places.now c.loop-k.places is (within c) c.index.ensures (c.loop-k.invariant calls is)

pub overflow_cast-places : goal.overflow_cast-places
overflow_cast-places c = let f = (fits c).next in omega arith

pub overflow_add-places : goal.overflow_add-places
overflow_add-places c = let f = (fits c).next in omega arith

pub overflow_sub-number : goal.overflow_sub-number
overflow_sub-number c = (fits c).from_one

pub offset_bounds-places-number : goal.offset_bounds-places-number
offset_bounds-places-number c = let f = (fits c).few in let w = (fits c).within in omega arith

pub bounds-places-number : goal.bounds-places-number
bounds-places-number c = let w = (fits c).within in let s = c.loop-k.auto.places in omega arith

pub returns : goal.returns
returns c = λ calls is.
    let low : c.loop-k.k ≡ length c.args.log.now.entries.items = let t = c.loop-k-test.false in let e = c.len-k-end.ensures in let h = c.loop-k.auto.k-end in omega (arith, c.args.log.now.entries.ok.0) in
    subst (λ (k : ℕ). HasNoted c.args.log.now.lane k calls c.args.places.now c.loop-k.places) low (c.loop-k.invariant calls is)
