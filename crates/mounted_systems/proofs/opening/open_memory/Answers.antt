use Rattle.mounted_systems.proofs.Dealt.{on_ok}
use Rattle.mounted_systems.proofs.opening.open_memory.Goals as goal

pub spread-requires : goal.spread-requires
spread-requires g c = record {
  pages = c.mounted_is_whole.ensures.count c.requires.mounted.bytes c.args.meta c.args.pages.items c.requires.mounted.mounts;
  plans = c.requires.plans;
}

pub open_over-requires-clause-image : goal.open_over-requires-clause-image
open_over-requires-clause-image g c =
    (c.args.pages.items, c.requires.mounted, record { shares = c.in_ok-dies.ensures.shares; told = c.in_ok-dies.ensures.told })

pub returns-clause-core : goal.returns-clause-core
returns-clause-core g c = on_ok c.open_over.result
    (λ s is. is c.args.pages.items c.requires.mounted (record { shares = c.in_ok-dies.ensures.shares; told = c.in_ok-dies.ensures.told }))
    c.open_over.ensures.core

pub returns-clause-mounts : goal.returns-clause-mounts
returns-clause-mounts g c = on_ok c.open_over.result
    (λ s is bytes m. is c.args.pages.items bytes m (record { shares = c.in_ok-dies.ensures.shares; told = c.in_ok-dies.ensures.told }))
    c.open_over.ensures.mounts

pub returns-clause-dies : goal.returns-clause-dies
returns-clause-dies g c = on_ok c.open_over.result
    (λ s home. record { dies = c.in_ok-dies.dies.items; home = home; are = c.in_ok-dies.ensures.dies })
    c.open_over.ensures.dies
