-- A die goes out: DieOut and FlushOut.
use Rattle.std.proofs.Common.{◌≡◌, ℕ, None, refl, sym, ap, ◌∙◌}
use Rattle.std.specs.Prelude.{◌≢◌}
use Rattle.core_quick.specs.Actor.{Actor}
use Rattle.core_quick.specs.Event.TheVariants.{DieOut, FlushOut}
use Rattle.core_quick.specs.Purpose.{Purpose}
use Rattle.core_quick.specs.Purpose.TheVariants.{Fill, Meta}
use Rattle.core_quick.specs.State.{Errand, ToFill, ToMeta, Core}
use Rattle.core_quick.specs.Contents.{flashes}
use Rattle.core_quick.specs.DieEvents.{die_out, sent, flush_of, is_flushable}
use Rattle.core_quick.specs.Hold.{hold}
use Rattle.core_quick.proofs.Finds.{found_passes}
use Rattle.core_quick.proofs.Outward.{home_is}
use Rattle.core_hold.specs.Keeps.{KeepsHolds}
use Rattle.core_hold.proofs.Actors.{not_actor, not_held}
use Rattle.core_hold.proofs.Views.{same_hold}
use Rattle.core_hold.proofs.Dies.{pages_same, dies_put}

-- a die that was at home goes out with another actor
out_holds : (c : Core) (actor : Actor) (die : ℕ) (errand : Errand) (a : Actor) → (c.dies die).out ≡ None → a ≢ actor → hold (die_out c actor die errand) a ≡ hold c a
out_holds c actor die errand a home n =
    same_hold (hold (die_out c actor die errand) a) (hold c a)
    (dies_put c.shape c.meta c.meta (flashes c.blocks) (flashes c.blocks) c.dies die (sent (c.dies die) actor errand) a (not_held a (c.dies die).out home) (not_actor a actor n)
    (pages_same c.shape c.meta (flashes c.blocks) die)) refl refl refl refl

pub die_out_holds : (actor : Actor) (die : ℕ) (purpose : Purpose) → KeepsHolds (DieOut actor die purpose)
die_out_holds actor die (Fill lane i) c c2 a h s n = ap (λ (k : Core). hold k a) s.leaves ∙ out_holds c actor die (ToFill lane i) a s.may.home n
die_out_holds actor die (Meta page bytes) c c2 a h s n = ap (λ (k : Core). hold k a) s.leaves ∙ out_holds c actor die (ToMeta page bytes) a s.may.home n

pub flush_out_holds : (actor : Actor) (die block : ℕ) → KeepsHolds (FlushOut actor die block)
flush_out_holds actor die block c c2 a h s n =
    let home = home_is _ (found_passes (is_flushable c) c.unclean block s.may.first) in
    ap (λ (k : Core). hold k a) s.leaves ∙ out_holds c actor die (flush_of c block) a (ap (λ (d : ℕ). (c.dies d).out) (sym s.may.on_die) ∙ home) n
