use Rattle.std.proofs.Common.{is_ok}
use Rattle.mirror_die.specs.Mirror.{MirrorView}
use Rattle.mirror_die.specs.Views.{view_of}
use Rattle.mirror_die.proofs.Writing.{write_went, write_keeps}
use Rattle.mirror_die.proofs.mirror.MirrorDieDie.write.Goals as goal

pub returns-clause-went : goal.returns-clause-went
returns-clause-went g c =
    let new : MirrorView = record { first = g.A.Die.seen c.write.new.self; second = g.B.Die.seen c.write-2.new.self; fresh = c.set.new.self; faults = c.count_fault.new.faults } in
    write_went (view_of c.args.self.now) new c.args.page (is_ok c.count_fault.result) c.args.from.now (record {
      first_took = is_ok c.write.result;
      second_took = is_ok c.write-2.result;
      first = c.write.ensures;
      second = c.write-2.ensures;
      answer = cc (c.count_fault.ensures.answer, c.any_took.ensures, c.is_ok-first_took.ensures.value, c.is_ok-second_took.ensures.value);
      fresh = cc (c.set.ensures, c.after_write.ensures, c.is_ok-first_took.ensures.value, c.is_ok-second_took.ensures.value);
      faults = cc (c.count_fault.ensures.count, c.count_fault.ensures.answer);
    })

pub invariant_of-self : goal.invariant_of-self
invariant_of-self g c =
    let old = c.args.self.now in
    let new : MirrorView = record { first = g.A.Die.seen c.write.new.self; second = g.B.Die.seen c.write-2.new.self; fresh = c.set.new.self; faults = c.count_fault.new.faults } in
    record {
      mirrors = write_keeps (view_of old) new c.args.page (is_ok c.count_fault.result) c.args.from.now old.mirrors (g.met.A.Die.sound old.first) (g.met.B.Die.sound old.second) c.requires (record {
        first_took = is_ok c.write.result;
        second_took = is_ok c.write-2.result;
        first = c.write.ensures;
        second = c.write-2.ensures;
        answer = cc (c.count_fault.ensures.answer, c.any_took.ensures, c.is_ok-first_took.ensures.value, c.is_ok-second_took.ensures.value);
        fresh = cc (c.set.ensures, c.after_write.ensures, c.is_ok-first_took.ensures.value, c.is_ok-second_took.ensures.value);
        faults = cc (c.count_fault.ensures.count, c.count_fault.ensures.answer);
      });
    }
