-- What the closer may do holds again.
use Rattle.std.proofs.Common.{◌≡◌, ℕ, ◌≤◌, List, Some, refl, sym, subst}
use Rattle.page_base.specs.Drive.{meta_pages}
use Rattle.core_state.specs.declared.actor.Actor.TheVariants.{Closer}
use Rattle.core_state.specs.declared.event.Event.{Event}
use Rattle.core_state.specs.State.{Shape, Core}
use Rattle.core_state.specs.Coherent.{Coherent}
use Rattle.core_state.specs.Hold.{hold}
use Rattle.core_state.specs.Happens.{CoreRun}
use Rattle.core_closing.specs.Kept.{MaySettle}
use Rattle.core_closing.proofs.Shut.{closing_run}
use Rattle.desk_turns.specs.Passing.{IsItsOwn}
use Rattle.desk_turns.proofs.Later.{none_kept, keeps_held}

pub own_closer : (c : Core) → IsItsOwn c Closer
own_closer c = λ l f is flies. absurd (cc)

pub settle_kept : (c c2 : Core) (es : List Event) → CoreRun c es c2 → Coherent c → Coherent c2 → hold c2 Closer ≡ hold c Closer → c2.shape ≡ c.shape → MaySettle c → MaySettle c2
settle_kept c c2 es r h h2 same shape p =
    let closer : c2.closer ≡ c.closer = keeps_held c c2 Closer same (own_closer c) in
    record {
      closing = closing_run es c c2 h p.closing r;
      none = none_kept c c2 Closer h2 same shape p.none;
      most = subst (λ (z : ℕ × Shape). z.0 ≤ meta_pages z.1.blocks) (λ i. (sym closer i, sym shape i)) p.most;
    }
