use Rattle.std.proofs.Common.{refl, sym, ap, ◌∙◌}
use Rattle.plain_files.specs.declared.calls.Call.TheVariants.{Load}
use Rattle.std.specs.Prelude.{map}
use Rattle.system_state.specs.Cores.{function_of}
use Rattle.system_quick.specs.Tables.{loaded, load_reply, load_functions}
use Rattle.system_quick.proofs.Codes.{short_code}
use Rattle.system_quick.proofs.Outcome.{is_answered, row_there, kept_of, coherent_of, early_of, outcome_for}
use Rattle.system_quick.proofs.Effects.{load_outcome}
use Rattle.system_quick.proofs.calls.load_function.Goals as goal

pub answered-requires-clause-row : goal.answered-requires-clause-row
answered-requires-clause-row g c = row_there g.D.Die.seen g.J.CallJob.suits c.args.state.now c.args.lane c.args.request.now c.requires.asked

pub answered-requires-clause-last : goal.answered-requires-clause-last
answered-requires-clause-last g c = c.requires.asked.last

pub load_named-reply-requires-clause-kept : goal.load_named-reply-requires-clause-kept
load_named-reply-requires-clause-kept g c = c.requires.asked.standing.stands.kept.functions

pub load_named-reply-requires-clause-room : goal.load_named-reply-requires-clause-room
load_named-reply-requires-clause-room g c = c.requires.asked.standing.stands.kept.room

pub load_named-reply-requires-clause-short : goal.load_named-reply-requires-clause-short
load_named-reply-requires-clause-short g c = λ insns is. short_code c.args.bytes.now insns (sym c.requires.decoded ∙ is)

pub returns : goal.returns
returns g c =
    let e = early_of g.D.Die.seen g.J.CallJob.suits c.args.state.now c.args.lane c.args.request.now (Load c.args.word.now c.args.bytes.now) c.requires.asked c.requires.call in
    is_answered g.D.Die.seen g.J.CallJob.suits c.args.state.now c.args.lane c.args.request.now c.requires.asked c.load_named-reply.result (record c.args.state.now { functions = c.load_named-reply.new.functions })
    (outcome_for g.D.Die.seen g.J.CallJob.suits c.args.state.now (record c.args.state.now { functions = c.load_named-reply.new.functions }) c.args.request.now.call (Load c.args.word.now c.args.bytes.now) c.load_named-reply.result _ c.requires.call (c.load_named-reply.ensures.reply ∙ ap (λ w. load_reply (loaded (map function_of c.args.state.now.functions.items) c.args.word.now w)) c.requires.decoded) (load_outcome g.D.Die.seen g.J.CallJob.suits c.args.state.now (kept_of g.D.Die.seen g.J.CallJob.suits c.args.state.now c.args.lane c.args.request.now c.requires.asked) (coherent_of g.D.Die.seen g.J.CallJob.suits c.args.state.now c.args.lane c.args.request.now c.requires.asked) c.args.word.now c.args.bytes.now e _ refl (c.load_named-reply.ensures.functions ∙ ap (λ w. load_functions (map function_of c.args.state.now.functions.items) (loaded (map function_of c.args.state.now.functions.items) c.args.word.now w)) c.requires.decoded) c.load_named-reply.ensures.kept c.load_named-reply.ensures.room))
    c.answered.new.state c.answered.ensures.replied g.met.D.Die.sound c.answered.result c.answered.ensures.number c.answered.ensures.reply
