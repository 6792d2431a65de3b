use Rattle.std.proofs.Common.{List, length, sym, ap, ◌∙◌, subst, arith}
use Rattle.crews.specs.Crews.{Each}
use Rattle.crews.specs.declared.post.Post.{Post}
use Rattle.lane_runs.specs.Seating.{IsNew}
use Rattle.solo_runs.specs.declared.run.Ran.{Ran}
use Rattle.crew_runs.proofs.Logging.{AreTaken}
use Rattle.crew_runs.proofs.Whole.{AreOver, written, ran, worn}
use Rattle.crew_runs.proofs.run.run_begun.Goals as goal

pub returns-in-Ok-clause-ran : goal.returns-in-Ok-clause-ran
returns-in-Ok-clause-ran g c all many wide new =
    let e = c.close_turn-closed.ensures in
    let w = c.work_all.ensures in
    let long = w.len in
    let few = c.requires.few.0 in
    let same = c.as_mut_slice.ensures.value in
    let count = ap (length {A = Post g.row.D.Denot g.row.J.Denot}) same in
    let olds = subst (λ (xs : List (Post g.row.D.Denot g.row.J.Denot)). Each (IsNew all c.args.begun.turn) xs) (sym same) new in
    let full = c.as_mut_slice.ensures.len in
    let a : AreOver g.D.Die.seen g.J.CallJob.suits c.args.begun.turn all c.as_mut_slice.result.now c.work_all.new.posts c.work_all.new.root
    = record { wide = wide ∙ sym many; many = omega arith; new = olds; long = long; same = w.posts; gathering = w.root } in
    ran g.D.Die.seen g.J.CallJob.suits c.args.begun.turn all c.as_mut_slice.result.now c.work_all.new.posts c.work_all.new.root c.end_turn-root.result.0 c.close_turn-closed.result.front.pass.value c.close_turn-closed.result.book.state c.args.settles c.end_turn-root.result.1 c.in-Ok.settled
    c.take_logs.result.items c.requires.untouched a e.front c.in-Ok.is c.end_turn-root.ensures.did e.whole e.allowed e.stands e.settles (c.take_logs.ensures.count ∙ sym many)
    (subst (λ (xs : List (Post g.row.D.Denot g.row.J.Denot)). AreTaken xs c.take_logs.result.items) (c.as_mut_slice-in-Ok.ensures.value ∙ written c.args.begun.posts.len c.work_all.new.posts c.args.begun.posts.items (omega arith)) c.take_logs.ensures.logs)

pub returns-clause-worn : goal.returns-clause-worn
returns-clause-worn g c front tells all many wide new =
    let e = c.close_turn-closed.ensures in
    let w = c.work_all.ensures in
    let long = w.len in
    let few = c.requires.few.0 in
    let same = c.as_mut_slice.ensures.value in
    let count = ap (length {A = Post g.row.D.Denot g.row.J.Denot}) same in
    let olds = subst (λ (xs : List (Post g.row.D.Denot g.row.J.Denot)). Each (IsNew all c.args.begun.turn) xs) (sym same) new in
    let a : AreOver g.D.Die.seen g.J.CallJob.suits c.args.begun.turn all c.as_mut_slice.result.now c.work_all.new.posts c.work_all.new.root
    = record { wide = wide ∙ sym many; many = omega arith; new = olds; long = long; same = w.posts; gathering = w.root } in
    worn g.D.Die.seen g.J.CallJob.suits c.args.begun.turn {A = Ran g.row.D.Denot g.row.J.Denot} all c.as_mut_slice.result.now c.work_all.new.posts c.work_all.new.root c.end_turn-root.result.0 c.close_turn-closed.result.front front c.close_turn-closed.result.book.state c.args.settles
    c.end_turn-root.result.1 c.in-Err.field-0 c.requires.untouched a e.front c.in-Err.is c.end_turn-root.ensures.did e.whole e.allowed e.stands c.end_turn-root.ensures.worn tells
