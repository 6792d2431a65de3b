use Rattle.std.proofs.Common.{refl}
use Rattle.settling.proofs.Moves.{page_sent}
use Rattle.settling.proofs.next.try_page.Goals as goal

pub returns-in-Ok : goal.returns-in-Ok
returns-in-Ok g c =
    let e = c.in-Ok.ensures in
    page_sent g.D.Die.seen g.J.CallJob.suits c.args.state.now c.try_meta_out.new.state c.try_meta_out.new.into c.in-Ok.errand c.args.state.now.closer e.page refl c.requires.clean e.bytes e.out e.made e.stands
