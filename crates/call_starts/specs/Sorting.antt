-- How a call that is to begin goes on after a step. This project's own.
use Rattle.call_begins.specs.declared.step.BeginStep.{BeginStep}
use Rattle.call_begins.specs.declared.step.BeginStep.TheVariants.{Ended as StepEnded, Started as StepStarted, On as StepOn, Waits as StepWaits}
use Rattle.call_starts.specs.declared.start.Beginning.TheVariants.{Ended, Started}
use Rattle.call_starts.specs.declared.start.Next.{Next}
use Rattle.call_starts.specs.declared.start.Next.TheVariants.{Come, On, Waits}

-- it has come to its beginning or its end, or goes on, or waits
abbrev pub sorted : BeginStep → Next
sorted (StepEnded n) = Come (Ended n)
sorted (StepStarted side) = Come (Started side)
sorted (StepOn stage) = On stage
sorted StepWaits = Waits
