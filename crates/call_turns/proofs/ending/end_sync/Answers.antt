use Rattle.std.proofs.Common.{◌<◌, ◌≤◌, ◌∙◌, ℕ, length, sym, subst, arith}
use Rattle.turn_cell.specs.Events.{events_of}
use Rattle.plain_files.specs.declared.calls.Reply.{Reply}
use Rattle.core_state.specs.EndEvent.{MayEnd}
use Rattle.system_state.specs.Cores.{core_of}
use Rattle.system_state.specs.Stands.{Stands}
use Rattle.desk_turns.proofs.Holding.{coherent_all}
use Rattle.call_turns.proofs.Syncs.{sync_ends, sync_stores, sync_pages, sync_replies}
use Rattle.call_turns.proofs.ending.end_sync.Goals as goal

pub end_call-requires-clause-may : goal.end_call-requires-clause-may
end_call-requires-clause-may g c =
    let k = c.requires.standing.stands in
    let h = coherent_all (events_of c.requires.standing.h) (core_of g.D.Die.seen c.requires.standing.o) (core_of g.D.Die.seen c.args.state.now) k.coherent k.run in
    subst (λ (r : Reply). MayEnd (core_of g.D.Die.seen c.args.state.now) c.args.lane c.args.request.now r) (sym c.sync_reply.ensures) (sync_ends (core_of g.D.Die.seen c.args.state.now) c.args.lane c.args.request.now c.args.fault h c.requires.ends)

pub end_call-requires-clause-stores : goal.end_call-requires-clause-stores
end_call-requires-clause-stores g c = λ mark changed.
    let k = c.requires.standing.stands in
    let h = coherent_all (events_of c.requires.standing.h) (core_of g.D.Die.seen c.requires.standing.o) (core_of g.D.Die.seen c.args.state.now) k.coherent k.run in
    let z = sync_stores (core_of g.D.Die.seen c.args.state.now) c.args.lane c.args.request.now c.args.fault c.sync_reply.result h c.requires.ends in
    absurd (cc)

pub end_call-requires-clause-many : goal.end_call-requires-clause-many
end_call-requires-clause-many g c =
    let k = c.requires.standing.stands in
    let h = coherent_all (events_of c.requires.standing.h) (core_of g.D.Die.seen c.requires.standing.o) (core_of g.D.Die.seen c.args.state.now) k.coherent k.run in
    subst (λ (n : ℕ). n ≤ length c.args.pages.now.items) (sym (sync_pages (core_of g.D.Die.seen c.args.state.now) c.args.lane c.args.request.now c.args.fault h c.requires.ends)) (omega arith)

pub end_call-requires-clause-pages : goal.end_call-requires-clause-pages
end_call-requires-clause-pages g c = λ nothing i p l there.
    let k = c.requires.standing.stands in
    let h = coherent_all (events_of c.requires.standing.h) (core_of g.D.Die.seen c.requires.standing.o) (core_of g.D.Die.seen c.args.state.now) k.coherent k.run in
    let m = subst (λ (n : ℕ). i < n) (sync_pages (core_of g.D.Die.seen c.args.state.now) c.args.lane c.args.request.now c.args.fault h c.requires.ends) l in
    absurd (omega arith)

pub returns-clause-reply : goal.returns-clause-reply
returns-clause-reply g c = c.end_call.ensures.reply ∙ sync_replies (core_of g.D.Die.seen c.args.state.now) c.args.lane c.args.request.now c.args.fault c.requires.ends

pub returns-clause-stands : goal.returns-clause-stands
returns-clause-stands g c = λ o h n k.
    c.end_call.ensures.stands o h n (subst (λ z. Stands g.D.Die.seen g.J.CallJob.suits (record c.args.state.now { jobs = z }) o h) (sym c.jobs_held-jobs.ensures.jobs) k)
