use Rattle.std.proofs.Common.{List, Option, None, length, get_or, sym, ap, ◌∙◌}
use Rattle.std.specs.Prelude.{option_map}
use Rattle.core_state.specs.Words.{first_to}
use Rattle.system_state.specs.declared.lanes.Call.{Call}
use Rattle.system_state.specs.declared.not_yet.NotYet.TheVariants.{Conflict}
use Rattle.system_state.proofs.Standing.{stands_coherent}
use Rattle.system_quick.specs.Rows.{row_holds}
use Rattle.system_quick.proofs.InTheWay.{no_file, with_file}
use Rattle.system_quick.proofs.holders.conflict_on.Goals as goal

pub returns-in-Some : goal.returns-in-Some
returns-in-Some g c =
    let s = c.args.state.now in
    let stands = c.requires.standing.stands in
    c.conflict_with.ensures
    ∙ (ap (option_map (λ l. Conflict l)) (c.least_holder.ensures ∙ ap (λ (w : List (Option Call)). first_to (length w) (λ l. row_holds c.in-Some.file.id (get_or w l None))) c.deref.ensures.value)
    ∙ sym (with_file g.D.Die.seen g.J.CallJob.suits s stands.kept (stands_coherent g.D.Die.seen g.J.CallJob.suits s c.requires.standing.o c.requires.standing.h stands) c.len-files.ensures.sound.rise c.args.word.now c.in-Some.file (sym c.in-Some.ensures)))

pub returns-in-None : goal.returns-in-None
returns-in-None g c =
    let s = c.args.state.now in
    let stands = c.requires.standing.stands in
    sym (no_file g.D.Die.seen g.J.CallJob.suits s stands.kept (stands_coherent g.D.Die.seen g.J.CallJob.suits s c.requires.standing.o c.requires.standing.h stands) c.args.word.now (sym c.in-None.ensures))
