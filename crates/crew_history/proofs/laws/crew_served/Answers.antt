use Rattle.crew_history.proofs.Served.{crew_serves, crew_logs, crew_closes, crew_home}
use Rattle.crew_history.proofs.laws.crew_served.Goals as goal

pub returns-clause-serves : goal.returns-clause-serves
returns-clause-serves g k = λ seen turn lanes posts v h ended. crew_serves seen turn lanes posts v h ended

pub returns-clause-logs : goal.returns-clause-logs
returns-clause-logs g k = λ seen turn lanes posts v h ended lane d low. crew_logs seen turn lanes posts v h ended lane d low

pub returns-clause-closing : goal.returns-clause-closing
returns-clause-closing g k = λ seen turn lanes posts v h ended. crew_closes seen turn lanes posts v h ended

pub returns-clause-home : goal.returns-clause-home
returns-clause-home g k = λ seen turn lanes posts v h ended none. crew_home seen turn lanes posts v h ended none
