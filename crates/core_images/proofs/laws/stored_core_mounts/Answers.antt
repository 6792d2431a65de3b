use Rattle.core_images.proofs.Mounts.{flash_is, image_is, mounts, settled}
use Rattle.core_images.proofs.laws.stored_core_mounts.Goals as goal

pub returns-clause-image : goal.returns-clause-image
returns-clause-image g = λ m c h table sound k stored. flash_is m c h table sound k stored

pub returns-clause-mounts : goal.returns-clause-mounts
returns-clause-mounts g = λ m c h table sound k stored. mounts m c h table sound k stored

pub returns-clause-settled : goal.returns-clause-settled
returns-clause-settled g = λ m c h table sound k stored calls home. settled m c h table sound k stored calls home

pub returns-clause-reads : goal.returns-clause-reads
returns-clause-reads g = λ m c h table sound k stored. image_is m c h table sound k stored
