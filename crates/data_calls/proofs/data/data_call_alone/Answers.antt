use Rattle.std.proofs.Common.{◌≡◌, true, false, refl, sym, subst}
use Rattle.turn_cell.specs.Desks.{view_alone, opening_alone}
use Rattle.plain_files.specs.declared.calls.Request.{Request}
use Rattle.core_state.specs.Reach.{is_data, is_lambda}
use Rattle.core_solo.specs.Alone.{IsAlone}
use Rattle.system_state.specs.Cores.{core_of}
use Rattle.desk_turns.specs.Passing.{core_seen}
use Rattle.call_starts.specs.Books.{opening_in}
use Rattle.data_calls.proofs.Whole.{self_prepared, data_prepared, data_skipped, numbered_as}
use Rattle.data_calls.proofs.data.data_call_alone.Goals as goal

pub prepared_call_alone-requires-clause-prepared : goal.prepared_call_alone-requires-clause-prepared
prepared_call_alone-requires-clause-prepared g c =
    self_prepared c.args.request.now c.in-Ok.prepared.job c.in-Ok.ensures

pub prepared_call_alone-requires-clause-data : goal.prepared_call_alone-requires-clause-data
prepared_call_alone-requires-clause-data g c =
    subst (λ (r : Request). is_data r.call ≡ true) (sym c.in-Ok.ensures.request_is) c.requires.data

pub prepared_call_alone-requires-clause-plain : goal.prepared_call_alone-requires-clause-plain
prepared_call_alone-requires-clause-plain g c =
    subst (λ (r : Request). is_lambda r.call ≡ false) (sym c.in-Ok.ensures.request_is) c.requires.plain

pub prepared_call_alone-requires-clause-alone : goal.prepared_call_alone-requires-clause-alone
prepared_call_alone-requires-clause-alone g c =
    subst (λ (r : Request). IsAlone (core_seen (core_of g.D.Die.seen) (opening_alone opening_in c.args.alone.now) (view_alone c.args.alone.now)) c.args.lane r) (sym c.in-Ok.ensures.request_is) c.requires.alone

pub skip_call_alone-requires-clause-awaited : goal.skip_call_alone-requires-clause-awaited
skip_call_alone-requires-clause-awaited g c =
    c.requires.alone.awaited

pub returns-in-Ok-clause-did : goal.returns-in-Ok-clause-did
returns-in-Ok-clause-did g c =
    data_prepared g.D.Die.seen (opening_alone opening_in c.args.alone.now) (view_alone c.args.alone.now) (view_alone c.prepared_call_alone.new.alone) c.args.lane c.in-Ok.prepared.job.request c.args.request.now c.prepared_call_alone.result c.in-Ok.ensures.request_is c.prepared_call_alone.ensures.did

pub returns-in-Ok-clause-numbered : goal.returns-in-Ok-clause-numbered
returns-in-Ok-clause-numbered g c =
    λ n is. numbered_as g.D.Die.seen (opening_alone opening_in c.args.alone.now) (opening_alone opening_in c.args.alone.now) (view_alone c.prepared_call_alone.new.alone) c.args.lane c.in-Ok.prepared.job.request c.args.request.now n refl c.in-Ok.ensures.request_is (c.prepared_call_alone.ensures.numbered n is)

pub returns-in-Err-clause-did : goal.returns-in-Err-clause-did
returns-in-Err-clause-did g c =
    data_skipped g.D.Die.seen (opening_alone opening_in c.args.alone.now) (view_alone c.args.alone.now) (view_alone c.skip_call_alone.new.alone) c.args.lane c.args.request.now c.skip_call_alone.result c.skip_call_alone.ensures.did

pub skip_call_alone-requires-clause-hands : goal.skip_call_alone-requires-clause-hands
skip_call_alone-requires-clause-hands g c =
    c.requires.lane.none

pub skip_call_alone-requires-clause-idle : goal.skip_call_alone-requires-clause-idle
skip_call_alone-requires-clause-idle g c =
    c.requires.lane.idle
