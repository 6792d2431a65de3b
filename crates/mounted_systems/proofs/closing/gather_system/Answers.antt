use Rattle.std.proofs.Common.{ℕ, ◌<◌, map, IfSome, sym, ap, ◌∙◌, subst}
use Rattle.image_format.specs.Image.{mounts_to}
use Rattle.page_base.specs.Drive.{Drive}
use Rattle.drive_array.specs.Reads as read
use Rattle.drive_array.specs.Reads.{AreDiesOf, TellsPages, image_bytes, share_of, GivesAll}
use Rattle.mounted_systems.specs.Gathered.{HasStopped}
use Rattle.mounted_systems.proofs.Dealt.{on_ok}
use Rattle.mounted_systems.proofs.Gathered.{pages_by_die, tells, shares, bytes_are}
use Rattle.mounted_systems.proofs.closing.gather_system.Goals as goal

pub gather-requires : goal.gather-requires
gather-requires g c =
    let e = c.into_dies-dies.ensures in
    record {
      shares = subst (λ (d : Drive). AreDiesOf d (map g.D.Die.seen c.into_dies-dies.result.0.items)) (sym e.geometry)
          (shares g.D.Die.seen g.J.CallJob.suits c.args.state c.requires.standing.stands.kept c.into_dies-dies.result.0.items e.dies);
    }

pub returns-clause-bytes : goal.returns-clause-bytes
returns-clause-bytes g c =
    let e = c.into_dies-dies.ensures in
    let kept = c.requires.standing.stands.kept in
    let dies = c.into_dies-dies.result.0.items in
    let lists = pages_by_die g.D.Die.seen g.J.CallJob.suits c.args.state kept dies e.dies in
    on_ok c.gather.result
    (λ bytes is. is lists (subst (λ (d : Drive). TellsPages (map g.D.Die.seen dies) d.dies lists) (sym e.geometry)
    (tells g.D.Die.seen g.J.CallJob.suits c.args.state kept dies e.dies))
    ∙ (ap (λ (d : Drive). image_bytes d lists) e.geometry ∙ bytes_are g.D.Die.seen g.J.CallJob.suits c.args.state kept dies e.dies))
    c.gather.ensures.bytes

pub returns-clause-stopped : goal.returns-clause-stopped
returns-clause-stopped g c = λ die is.
    let e = c.into_dies-dies.ensures in
    let dies = c.into_dies-dies.result.0.items in
    subst (λ (d : Drive). HasStopped g.D.Die.seen d c.args.state.rack.slots.items die) e.geometry (record {
      dies = dies;
      left = c.gather.new.dies.items;
      home = e.dies;
      stops = c.gather.ensures.stopped die is;
      rises = c.gather.ensures.fault die is;
      listed = c.gather.ensures.listed die is;
    })

pub returns-clause-given : goal.returns-clause-given
returns-clause-given g c =
    let e = c.into_dies-dies.ensures in
    on_ok c.gather.result
    (λ bytes is. record {
      dies = c.into_dies-dies.result.0.items;
      home = e.dies;
      unlisted = subst (λ (d : Drive). (die : ℕ) → die < d.dies → IfSome (read.die_at (map g.D.Die.seen c.into_dies-dies.result.0.items) die).plan (GivesAll (share_of d die))) e.geometry is;
    })
    c.gather.ensures.unlisted

pub returns-clause-mounts : goal.returns-clause-mounts
returns-clause-mounts g c =
    on_ok c.gather.result (λ bytes is settled. ap mounts_to is ∙ settled.mounts) (returns-clause-bytes g c)
