use Rattle.std.proofs.Common.{ap, ◌∙◌}
use Rattle.core_state.specs.History.{calls_of}
use Rattle.core_state.specs.PlainOf.{plain}
use Rattle.plain_files.specs.History.{replies}
use Rattle.core_solo.proofs.Exact.{run_exact}
use Rattle.core_solo.proofs.Whole.{run_follows}
use Rattle.core_solo.proofs.Serving.{follow_calls}
use Rattle.core_plans.proofs.Unfaulted.{none_fail, none_lost, same_unfaulted}
use Rattle.core_plans.proofs.laws.unfaulted.Goals as goal

pub returns : goal.returns
returns c = record {
  spared = none_fail;
  kept = none_lost;
  same = same_unfaulted;
  exact = λ encode kind c0 c1 script last events f wide h fresh clear run told fed.
      run_exact c0 c1 events h clear run.run (none_fail c0 c1 kind events h run.run told) fed
      ∙ ap (replies (plain c0)) (follow_calls script script.order (calls_of events) (run_follows encode c0 c1 script last events f wide h fresh run));
}
