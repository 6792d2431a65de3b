use Rattle.std.proofs.Common.{rules, ◌≡◌, ◌∷◌, [], ◌++◌, List, ap, sym, ◌∙◌, subst}
use Rattle.turn_example.specs.Shares.{Each, IsServed, IsGathering, all_in}
use Rattle.turn_example.specs.declared.job.Job.{Job}
use Rattle.turn_example.proofs.Shared.{each_init, joined_last}
use Rattle.turn_example.proofs.share.join_last.Goals as goal

pub returns-clause-root : goal.returns-clause-root
returns-clause-root c =
    let items : c.args.jobs.now.items ≡ c.pop.new.self.items ++ c.in-Some.job ∷ [] = c.in-Some.ensures.items in
    let all = subst (λ (js : List Job). Each (IsServed c.args.turn.now) js) items c.requires.served in
    let g = subst (λ (js : List Job). IsGathering c.args.turn.now js c.args.root.now) items c.requires.root in
    (joined_last c.args.turn.now c.pop.new.self.items c.in-Some.job c.args.root.now c.join.new.root c.in-Some-pass.pass g all (search rules) (search rules) (c.join.ensures.turn, c.join.ensures.free) c.join.ensures.view).0

pub returns-clause-served : goal.returns-clause-served
returns-clause-served c =
    let items : c.args.jobs.now.items ≡ c.pop.new.self.items ++ c.in-Some.job ∷ [] = c.in-Some.ensures.items in
    each_init (IsServed c.args.turn.now) c.pop.new.self.items c.in-Some.job (subst (λ (js : List Job). Each (IsServed c.args.turn.now) js) items c.requires.served)

pub returns-clause-sum : goal.returns-clause-sum
returns-clause-sum c =
    let items : c.args.jobs.now.items ≡ c.pop.new.self.items ++ c.in-Some.job ∷ [] = c.in-Some.ensures.items in
    let all = subst (λ (js : List Job). Each (IsServed c.args.turn.now) js) items c.requires.served in
    let g = subst (λ (js : List Job). IsGathering c.args.turn.now js c.args.root.now) items c.requires.root in
    (joined_last c.args.turn.now c.pop.new.self.items c.in-Some.job c.args.root.now c.join.new.root c.in-Some-pass.pass g all (search rules) (search rules) (c.join.ensures.turn, c.join.ensures.free) c.join.ensures.view).1
    ∙ ap (λ (js : List Job). all_in js c.args.root.now) (sym items)
