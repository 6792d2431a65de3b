use Rattle.std.proofs.Common.{ap}
use Rattle.core_state.specs.State.{Core}
use Rattle.system_start.proofs.tests.an_empty_drive_starts_and_hands_its_die_back.Goals as goal

pub into_dies-dies-requires-clause-idle : goal.into_dies-dies-requires-clause-idle
into_dies-dies-requires-clause-idle g c = λ lane. ap (λ (x : Core). x.calls lane) c.in_ok-state.ensures.core.1

pub into_dies-dies-requires-clause-home : goal.into_dies-dies-requires-clause-home
into_dies-dies-requires-clause-home g c = λ d. ap (λ (x : Core). (x.dies d).out) c.in_ok-state.ensures.core.1
