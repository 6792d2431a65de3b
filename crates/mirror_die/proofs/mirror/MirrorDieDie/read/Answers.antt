use Rattle.std.proofs.Common.{is_ok, refl, ◌∙◌}
use Rattle.mirror_die.specs.Mirror.{MirrorView}
use Rattle.mirror_die.specs.Views.{view_of}
use Rattle.mirror_die.proofs.Reading.{read_went}
use Rattle.mirror_die.proofs.mirror.MirrorDieDie.read.Goals as goal

pub returns-clause-went : goal.returns-clause-went
returns-clause-went g c =
    let new : MirrorView = record { first = g.A.Die.seen c.read_fresh-outcome.new.first; second = g.B.Die.seen c.read_fresh-outcome.new.second; fresh = c.args.self.now.fresh; faults = c.count_fault.new.faults } in
    read_went (view_of c.args.self.now) new c.args.page (is_ok c.count_fault.result) c.args.into.now c.read_fresh-outcome.new.into c.args.self.now.mirrors (g.met.A.Die.sound c.args.self.now.first) (g.met.B.Die.sound c.args.self.now.second) c.requires (record {
      reads =
          let tried = c.read_fresh-outcome.ensures in
          record {
            first_gave = tried.first_gave;
            second_gave = tried.second_gave;
            between = tried.between;
            tries_first = rw c.get-fresh.ensures at tried.tries_first;
            tries_second = rw c.get-fresh.ensures at tried.tries_second;
            answer = c.count_fault.ensures.answer ∙ tried.answer;
          };
      fresh = refl;
      faults = cc (c.count_fault.ensures.count, c.count_fault.ensures.answer);
    })
