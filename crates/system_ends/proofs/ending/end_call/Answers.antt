use Rattle.std.proofs.Common.{get_or, None, sym, ◌∙◌}
use Rattle.core_state.specs.PlainOf.{has_stored}
use Rattle.system_state.specs.Cores.{lanes_of}
use Rattle.system_ends.specs.Landed.{exclusive_row, stored_row}
use Rattle.system_ends.proofs.Changed.{has_stored_so, stored_nothing}
use Rattle.system_ends.proofs.ending.end_call.Goals as goal

pub end_storing-requires-clause-stores : goal.end_storing-requires-clause-stores
end_storing-requires-clause-stores g c =
    let s = c.args.state.now in
    let a = c.deref.ensures.value in
    let b = c.deref-2.ensures.value in
    let p = has_stored_so s.calls.items s.told.value.gathered c.args.lane c.args.ending.reply (lanes_of s.lanes.items c.args.lane).mark
    (sym (c.has_changed.ensures ∙ (λ i. stored_row (lanes_of (a i) c.args.lane).mark (exclusive_row (get_or (b i) c.args.lane None)) (has_stored c.args.ending.reply))) ∙ c.if-has_changed.true) in
    c.requires.stores p.0 p.1

pub end_returning-requires-clause-pages : goal.end_returning-requires-clause-pages
end_returning-requires-clause-pages g c =
    let s = c.args.state.now in
    let a = c.deref.ensures.value in
    let b = c.deref-2.ensures.value in
    c.requires.pages (stored_nothing s.calls.items s.told.value.gathered c.args.lane c.args.ending.reply (lanes_of s.lanes.items c.args.lane).mark
    (sym (c.has_changed.ensures ∙ (λ i. stored_row (lanes_of (a i) c.args.lane).mark (exclusive_row (get_or (b i) c.args.lane None)) (has_stored c.args.ending.reply))) ∙ c.if-has_changed.false))
