use Rattle.std.proofs.Common.{◌≡◌, Bool, true, false, Some, None, sym, ap, ◌∙◌}
use Rattle.std.specs.Prelude.{if◌then◌else◌}
use Rattle.core_state.specs.Reach.{file_by}
use Rattle.core_state.specs.LaneEvents.{is_unsealed}
use Rattle.system_state.specs.Cores.{core_of}
use Rattle.system_state.proofs.Standing.{stands_coherent}
use Rattle.system_quick.specs.Waits.{conflict_on}
use Rattle.system_quick.proofs.InTheWay.{unsealed_is}
use Rattle.system_quick.proofs.holders.seal_conflict.Goals as goal

pub returns-then-not-is_unsealed : goal.returns-then-not-is_unsealed
returns-then-not-is_unsealed g c =
    let s = c.args.state.now in
    let stands = c.requires.standing.stands in
    let o = file_by (core_of g.D.Die.seen s).names.files (Some c.args.word.now) in
    let t : is_unsealed o ≡ false = sym (unsealed_is g.D.Die.seen g.J.CallJob.suits s stands.kept (stands_coherent g.D.Die.seen g.J.CallJob.suits s c.requires.standing.o c.requires.standing.h stands) c.args.word.now) ∙ (sym c.is_unsealed.ensures ∙ c.if-not-is_unsealed.true) in
    sym (ap (λ (u : Bool). if u then conflict_on (core_of g.D.Die.seen s) o else None) t)

pub returns : goal.returns
returns g c =
    let s = c.args.state.now in
    let stands = c.requires.standing.stands in
    let o = file_by (core_of g.D.Die.seen s).names.files (Some c.args.word.now) in
    let t : is_unsealed o ≡ true = sym (unsealed_is g.D.Die.seen g.J.CallJob.suits s stands.kept (stands_coherent g.D.Die.seen g.J.CallJob.suits s c.requires.standing.o c.requires.standing.h stands) c.args.word.now) ∙ (sym c.is_unsealed.ensures ∙ c.if-not-is_unsealed.false) in
    c.conflict_on.ensures ∙ sym (ap (λ (u : Bool). if u then conflict_on (core_of g.D.Die.seen s) o else None) t)
