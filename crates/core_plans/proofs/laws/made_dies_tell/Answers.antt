use Rattle.core_plans.proofs.Told.{made_memory, made_flash, made_mirror}
use Rattle.core_plans.proofs.laws.made_dies_tell.Goals as goal

pub returns : goal.returns
returns c = record { memory = made_memory; flash = made_flash; mirrors = made_mirror }
