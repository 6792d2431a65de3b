use Rattle.std.proofs.Common.{◌≡◌, ◌≤◌, ◌-◌, ◌^◌, ◌∷◌, ◌++◌, [], List, ℕ, None, Some, refl, sym, ap, ◌∙◌, subst, arith}
use Rattle.dispatcher.specs.declared.side.Side.{Side}
use Rattle.turn_cell.specs.declared.book.Entry.{Entry}
use Rattle.turn_cell.specs.History.{entry}
use Rattle.core_state.specs.declared.event.Event.{Event}
use Rattle.core_state.specs.declared.event.Event.TheVariants.{Begin}
use Rattle.core_state.specs.State.{Claim}
use Rattle.system_state.specs.Cores.{core_of}
use Rattle.system_state.specs.Made.{Made}
use Rattle.system_state.specs.Stands.{Stands}
use Rattle.system_begin.specs.Begun.{begin_waits}
use Rattle.system_begin.proofs.Chosen.{most_of, claim_is_at}
use Rattle.system_begin.proofs.starting.start.Goals as goal

pub begin-requires-clause-counts : goal.begin-requires-clause-counts
begin-requires-clause-counts g c = most_of c.claim_of_request-claim.result.side c.args.state.now.places.host c.args.state.now.places.drive _ c.requires.host c.requires.drive

pub returns-in-Ok-clause-begins : goal.returns-in-Ok-clause-begins
returns-in-Ok-clause-begins g c = ap (begin_waits (core_of g.D.Die.seen c.args.state.now)) (sym (claim_is_at (core_of g.D.Die.seen c.args.state.now) c.args.request.now c.claim_of_request-claim.result c.claim_of_request-claim.ensures.asks.claim_is c.claim_of_request-claim.ensures.side)) ∙ c.in-Ok.ensures.begins

pub returns-in-Ok-clause-span : goal.returns-in-Ok-clause-span
returns-in-Ok-clause-span g c = ap (λ (y : Claim). y.reach.pages) (claim_is_at (core_of g.D.Die.seen c.args.state.now) c.args.request.now c.claim_of_request-claim.result c.claim_of_request-claim.ensures.asks.claim_is c.claim_of_request-claim.ensures.side)

pub returns-in-Ok-clause-made : goal.returns-in-Ok-clause-made
returns-in-Ok-clause-made g c = subst (λ (x : Side). Made g.D.Die.seen g.J.CallJob.suits c.args.state.now (Begin c.args.lane c.args.request.now x) c.begin.new.state) c.claim_of_request-claim.ensures.side c.in-Ok.ensures.made

pub returns-in-Ok-clause-stands : goal.returns-in-Ok-clause-stands
returns-in-Ok-clause-stands g c = λ o h n st. subst (λ (x : Side). Stands g.D.Die.seen g.J.CallJob.suits c.begin.new.state o (h ++ entry n (Begin c.args.lane c.args.request.now x) ∷ [])) c.claim_of_request-claim.ensures.side (c.in-Ok.ensures.stands o h n st)

pub returns-in-Err-clause-not_yet : goal.returns-in-Err-clause-not_yet
returns-in-Err-clause-not_yet g c = ap (begin_waits (core_of g.D.Die.seen c.args.state.now)) (sym (claim_is_at (core_of g.D.Die.seen c.args.state.now) c.args.request.now c.claim_of_request-claim.result c.claim_of_request-claim.ensures.asks.claim_is c.claim_of_request-claim.ensures.side)) ∙ c.in-Err.ensures.not_yet
