use Rattle.lane_history.proofs.Closings.{closer_kept, all_home, closes}
use Rattle.lane_history.proofs.laws.run_closes.Goals as goal

pub returns-clause-closer : goal.returns-clause-closer
returns-clause-closer g k = λ core o v off all none coherent run. closer_kept core o v off all none coherent run

pub returns-clause-home : goal.returns-clause-home
returns-clause-home g k = λ core o v off whole all home run actors closer. all_home core o v off whole all home run actors closer

pub returns-clause-closing : goal.returns-clause-closing
returns-clause-closing g k = λ core o v whole coherent run left. closes core o v whole coherent run left
