use Rattle.std.proofs.Common.{refl, inl}
use Rattle.system_state.specs.Cores.{core_of}
use Rattle.page_steps.proofs.Keeping.{closes}
use Rattle.page_steps.proofs.Taking.{turned_back, coherent_back}
use Rattle.page_steps.specs.LaneTurns.{ClosingSays}
use Rattle.crews.proofs.LastLooks.{looked_went, looked_closing, looked_run, looked_kept, looked_settled, looked_allowed, worn_kept}
use Rattle.crews.proofs.looking.look.Goals as goal

pub returns-in_err-system-clause-kept : goal.returns-in_err-system-clause-kept
returns-in_err-system-clause-kept g c =
    let a = c.in_err-system.ensures in
    worn_kept g.D.Die.seen g.J.CallJob.suits (g.K.Desk.opening c.take.new.self) (g.K.Desk.opening c.args.desk.now) (g.K.Desk.view c.args.desk.now) (g.K.Desk.view c.take.new.self) a.turn.1 a.stood a.seen a.between a.alone

pub returns-clause-went : goal.returns-clause-went
returns-clause-went g c =
    let a = c.in_ok-system.ensures in
    let s = c.in_ok-system.system.state in
    let p = g.K.Desk.opening c.take.new.self in
    let q = g.K.Desk.opening c.args.desk.now in
    let v = g.K.Desk.view c.args.desk.now in
    let u = g.K.Desk.view c.take.new.self in
    let w = g.K.Desk.view c.give.new.self in
    let b = c.closing-closes.result in
    let h = coherent_back g.D.Die.seen g.J.CallJob.suits s p u a.ok.1 in
    looked_went (core_of g.D.Die.seen) q v w b
    (turned_back g.D.Die.seen g.J.CallJob.suits s p q v u w (ClosingSays b) a.turn.1 a.ok.1 a.seen a.between a.alone c.give.ensures.seen
    (record { are = refl; closes = λ e. closes (core_of g.D.Die.seen s) h (c.closing-closes.ensures.left.0 e); open_still = λ x. c.closing-closes.ensures.left.1 x.left }))

pub returns-clause-run : goal.returns-clause-run
returns-clause-run g c =
    let a = c.in_ok-system.ensures in
    let s = c.in_ok-system.system.state in
    let p = g.K.Desk.opening c.take.new.self in
    let q = g.K.Desk.opening c.args.desk.now in
    let v = g.K.Desk.view c.args.desk.now in
    let u = g.K.Desk.view c.take.new.self in
    let w = g.K.Desk.view c.give.new.self in
    let b = c.closing-closes.result in
    let h = coherent_back g.D.Die.seen g.J.CallJob.suits s p u a.ok.1 in
    looked_run (core_of g.D.Die.seen) q v w b
    (turned_back g.D.Die.seen g.J.CallJob.suits s p q v u w (ClosingSays b) a.turn.1 a.ok.1 a.seen a.between a.alone c.give.ensures.seen
    (record { are = refl; closes = λ e. closes (core_of g.D.Die.seen s) h (c.closing-closes.ensures.left.0 e); open_still = λ x. c.closing-closes.ensures.left.1 x.left }))

pub returns-clause-closing : goal.returns-clause-closing
returns-clause-closing g c =
    let a = c.in_ok-system.ensures in
    let s = c.in_ok-system.system.state in
    let p = g.K.Desk.opening c.take.new.self in
    let q = g.K.Desk.opening c.args.desk.now in
    let v = g.K.Desk.view c.args.desk.now in
    let u = g.K.Desk.view c.take.new.self in
    let w = g.K.Desk.view c.give.new.self in
    let b = c.closing-closes.result in
    let h = coherent_back g.D.Die.seen g.J.CallJob.suits s p u a.ok.1 in
    looked_closing (core_of g.D.Die.seen) q v w b
    (turned_back g.D.Die.seen g.J.CallJob.suits s p q v u w (ClosingSays b) a.turn.1 a.ok.1 a.seen a.between a.alone c.give.ensures.seen
    (record { are = refl; closes = λ e. closes (core_of g.D.Die.seen s) h (c.closing-closes.ensures.left.0 e); open_still = λ x. c.closing-closes.ensures.left.1 x.left }))

pub returns-clause-kept : goal.returns-clause-kept
returns-clause-kept g c =
    let a = c.in_ok-system.ensures in
    let s = c.in_ok-system.system.state in
    let p = g.K.Desk.opening c.take.new.self in
    let q = g.K.Desk.opening c.args.desk.now in
    let v = g.K.Desk.view c.args.desk.now in
    let u = g.K.Desk.view c.take.new.self in
    let w = g.K.Desk.view c.give.new.self in
    let b = c.closing-closes.result in
    let h = coherent_back g.D.Die.seen g.J.CallJob.suits s p u a.ok.1 in
    looked_kept (core_of g.D.Die.seen) q v w b
    (turned_back g.D.Die.seen g.J.CallJob.suits s p q v u w (ClosingSays b) a.turn.1 a.ok.1 a.seen a.between a.alone c.give.ensures.seen
    (record { are = refl; closes = λ e. closes (core_of g.D.Die.seen s) h (c.closing-closes.ensures.left.0 e); open_still = λ x. c.closing-closes.ensures.left.1 x.left }))

pub returns-clause-settled : goal.returns-clause-settled
returns-clause-settled g c =
    let a = c.in_ok-system.ensures in
    let u = g.K.Desk.view c.take.new.self in
    looked_settled u (g.K.Desk.view c.give.new.self) (c.give.ensures.seen u.seen a.ok.1 (inl refl))

pub returns-clause-allowed : goal.returns-clause-allowed
returns-clause-allowed g c =
    let a = c.in_ok-system.ensures in
    let u = g.K.Desk.view c.take.new.self in
    looked_allowed (core_of g.D.Die.seen) (g.K.Desk.opening c.args.desk.now) u (g.K.Desk.view c.give.new.self) (c.give.ensures.seen u.seen a.ok.1 (inl refl)) a.allowed
