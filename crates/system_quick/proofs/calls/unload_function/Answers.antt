use Rattle.std.proofs.Common.{◌≤◌, ℕ, refl, sym, subst}
use Rattle.plain_files.specs.declared.calls.Call.TheVariants.{Unload}
use Rattle.plain_files.specs.declared.calls.Reply.TheVariants.{Done}
use Rattle.system_quick.proofs.Outcome.{is_answered, row_there, kept_of, coherent_of, early_of, outcome_for}
use Rattle.system_quick.proofs.Effects.{unload_outcome}
use Rattle.system_quick.proofs.calls.unload_function.Goals as goal

pub answered-requires-clause-row : goal.answered-requires-clause-row
answered-requires-clause-row g c = row_there g.D.Die.seen g.J.CallJob.suits c.args.state.now c.args.lane c.args.request.now c.requires.asked

pub answered-requires-clause-last : goal.answered-requires-clause-last
answered-requires-clause-last g c = c.requires.asked.last

pub unload_named-requires : goal.unload_named-requires
unload_named-requires g c = record { kept = c.requires.asked.standing.stands.kept.functions }

pub returns : goal.returns
returns g c =
    let e = early_of g.D.Die.seen g.J.CallJob.suits c.args.state.now c.args.lane c.args.request.now (Unload c.args.word.now) c.requires.asked c.requires.call in
    is_answered g.D.Die.seen g.J.CallJob.suits c.args.state.now c.args.lane c.args.request.now c.requires.asked Done (record c.args.state.now { functions = c.unload_named.new.functions })
    (outcome_for g.D.Die.seen g.J.CallJob.suits c.args.state.now (record c.args.state.now { functions = c.unload_named.new.functions }) c.args.request.now.call (Unload c.args.word.now) Done _ c.requires.call refl (unload_outcome g.D.Die.seen g.J.CallJob.suits c.args.state.now (kept_of g.D.Die.seen g.J.CallJob.suits c.args.state.now c.args.lane c.args.request.now c.requires.asked) (coherent_of g.D.Die.seen g.J.CallJob.suits c.args.state.now c.args.lane c.args.request.now c.requires.asked) c.args.word.now e c.requires.clear _ refl c.unload_named.ensures.functions c.unload_named.ensures.kept (subst (λ (n : ℕ). 64 ≤ n) (sym c.unload_named.ensures.room) c.requires.asked.standing.stands.kept.room)))
    c.answered.new.state c.answered.ensures.replied g.met.D.Die.sound c.answered.result c.answered.ensures.number c.answered.ensures.reply
