use Rattle.std.proofs.Common.{refl, sym, subst, ap, ◌∙◌}
use Rattle.system_state.specs.Cores.{core_of}
use Rattle.system_state.specs.Stands.{IsStanding}
use Rattle.system_state.specs.declared.state.State.{State}
use Rattle.settling.proofs.Moves.{block_next, refused_clean}
use Rattle.settling.proofs.next.try_next.Goals as goal

pub returns-in-Ok : goal.returns-in-Ok
returns-in-Ok g c =
    let e = c.in-Ok.ensures in
    record {
      next = block_next (core_of g.D.Die.seen c.args.state.now) c.in-Ok.errand.number c.in-Ok.errand.subject e.first e.made.happens.may.on_die;
      sent = record { out = e.out; stands = e.stands };
      page_is = e.page;
    }
