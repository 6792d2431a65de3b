use Rattle.std.proofs.Common.{refl}
use Rattle.core_images.proofs.Openings.{has_tables, opened}
use Rattle.core_images.proofs.laws.opening_stands.Goals as goal

pub returns-clause-tables : goal.returns-clause-tables
returns-clause-tables c = λ m pages lanes place w. has_tables m pages lanes place w

pub returns-clause-files : goal.returns-clause-files
returns-clause-files c = λ m pages lanes place table sound w long. opened m pages lanes place w table sound long

pub returns-clause-functions : goal.returns-clause-functions
returns-clause-functions c = λ m pages lanes place. refl

pub returns-clause-capacity : goal.returns-clause-capacity
returns-clause-capacity c = λ m pages lanes place. refl
