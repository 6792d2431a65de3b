use Rattle.std.proofs.Common.{◌≡◌, ◌+◌, ◌∷◌, [], ◌++◌, List, ap, sym, ◌∙◌, subst}
use Rattle.turn_example.specs.Shares.{Each, IsNew, IsSharing, amount_sum}
use Rattle.turn_example.specs.declared.job.Job.{Job}
use Rattle.turn_example.proofs.Shared.{amounts_push, shared_on, sum_more}
use Rattle.turn_example.proofs.share.seat_all.Goals as goal

pub loop-amount-preserved : goal.loop-amount-preserved
loop-amount-preserved c =
    let i = c.loop-amount.invariant in
    let js = c.loop-amount.jobs.items in
    let items : c.push.new.self.items ≡ c.loop-amount.jobs.items ++ c.seat.result ∷ [] = c.in_ok-push.ensures.items in
    let s = shared_on c.args.turn.now c.loop-amount.jobs.items c.seat.result c.loop-amount.root c.seat.new.root i.0 i.1 c.seat.ensures.root c.seat.ensures.pass (c.seat.ensures.work.0 ∙ i.0.5) in (
      subst (λ (z : List Job). IsSharing c.args.turn.now z c.seat.new.root) (sym items) s.0,
      subst (λ (z : List Job). Each (IsNew c.args.turn.now) z) (sym items) s.1,
      ap amount_sum items ∙ (amounts_push c.loop-amount.jobs.items c.seat.result ∙ ((λ k. i.2 k + c.seat.ensures.work.1 k) ∙ sym (sum_more c.args.amounts.now c.loop-amount.amount-index c.loop-amount-test.true))),
    )
