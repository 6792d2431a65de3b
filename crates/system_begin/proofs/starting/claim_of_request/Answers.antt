use Rattle.std.proofs.Common.{List, ◌≡◌, ◌<◌, ◌≤◌, ◌+◌, ◌^◌, ℕ, None, refl, sym, ap, ◌∙◌, length, arith}
use Rattle.plain_files.specs.declared.calls.Request.{Request}
use Rattle.core_state.specs.State.{Claim}
use Rattle.std.specs.Prelude.{map, if◌then◌else◌}
use Rattle.dispatcher.specs.declared.side.Side.TheVariants.{Host}
use Rattle.core_state.specs.Reach.{is_lambda, function_for, function_word}
use Rattle.core_state.specs.Sides.{placed_side}
use Rattle.core_state.specs.PlainOf.{plain, e_or_none}
use Rattle.system_state.specs.Cores.{core_of, function_of}
use Rattle.system_state.specs.declared.state.Function.{Function}
use Rattle.system_state.proofs.Standing.{stands_coherent}
use Rattle.call_checks.specs.Checks.{lacks_function}
use Rattle.system_begin.specs.Begun.{bare_counts}
use Rattle.system_begin.proofs.Room.{span_inside}
use Rattle.system_begin.proofs.Chosen.{small_for, function_for_call, side_same, are_there}
use Rattle.system_begin.proofs.starting.claim_of_request.Goals as goal

pub claim_for-claim-requires-clause-there : goal.claim_for-claim-requires-clause-there
claim_for-claim-requires-clause-there g c = ap (λ (fs : List Function). lacks_function fs c.args.request.now.call) c.deref.ensures.value ∙ function_for_call g.D.Die.seen c.args.state.now c.args.request.now c.requires.not_early

pub side_for-claim-requires-clause-small : goal.side_for-claim-requires-clause-small
side_for-claim-requires-clause-small g c = λ z. let m = (small_for g.D.Die.seen c.args.state.now c.len-files.ensures.sound c.claim_for-claim.result c.args.request.now c.claim_for-claim.ensures.claim c.requires.not_early).first z in omega arith

pub side_for-claim-requires-clause-inside : goal.side_for-claim-requires-clause-inside
side_for-claim-requires-clause-inside g c = λ first i b e. let z = span_inside g.D.Die.seen g.J.CallJob.suits c.args.state.now c.requires.standing.stands.kept (stands_coherent g.D.Die.seen g.J.CallJob.suits c.args.state.now c.requires.standing.o c.requires.standing.h c.requires.standing.stands) c.claim_for-claim.result.file first i b e in let y = c.requires.standing.stands.kept.caches in let x = y.blocks in omega arith

pub returns-clause-side : goal.returns-clause-side
returns-clause-side g c = side_same g.D.Die.seen c.args.state.now c.claim_for-claim.result c.args.request.now c.claim_for-claim.ensures.claim c.side_for-claim.result (c.side_for-claim.ensures ∙ ap (λ (fs : List Function). if is_lambda c.args.request.now.call then placed_side c.args.state.now.sizes.place (e_or_none (function_for (map function_of fs) c.args.request.now.call)) (bare_counts c.args.state.now.pair c.args.state.now.meta.extents.placed c.claim_for-claim.result.file c.claim_for-claim.result.reach c.args.request.now.call) else Host) c.deref-2.ensures.value)

pub returns-clause-asks : goal.returns-clause-asks
returns-clause-asks g c = record {
  ready = c.requires.ready;
  kind = c.requires.kind;
  not_early = c.requires.not_early;
  side = side_same g.D.Die.seen c.args.state.now c.claim_for-claim.result c.args.request.now c.claim_for-claim.ensures.claim c.side_for-claim.result (c.side_for-claim.ensures ∙ ap (λ (fs : List Function). if is_lambda c.args.request.now.call then placed_side c.args.state.now.sizes.place (e_or_none (function_for (map function_of fs) c.args.request.now.call)) (bare_counts c.args.state.now.pair c.args.state.now.meta.extents.placed c.claim_for-claim.result.file c.claim_for-claim.result.reach c.args.request.now.call) else Host) c.deref-2.ensures.value);
  there = are_there (core_of g.D.Die.seen c.args.state.now) c.args.request.now c.side_for-claim.result c.requires.not_early c.requires.kind;
  claim_is = ap (λ (y : Claim). record y { side = c.side_for-claim.result }) c.claim_for-claim.ensures.claim;
  function = c.claim_for-claim.ensures.function ∙ sym (ap (λ (q : Request). function_word q.call) c.claim_for-claim.ensures.request);
}
