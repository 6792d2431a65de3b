use Rattle.std.proofs.Common.{◌≡◌, true, false, refl, sym, subst}
use Rattle.turn_cell.specs.Passes.{opening_of, view}
use Rattle.plain_files.specs.declared.calls.Request.{Request}
use Rattle.core_state.specs.Reach.{is_data, is_lambda}
use Rattle.call_starts.specs.Books.{opening_in}
use Rattle.data_calls.proofs.Whole.{self_prepared, data_prepared, data_skipped, numbered_as}
use Rattle.data_calls.proofs.data.data_call.Goals as goal

pub prepared_call-requires-clause-prepared : goal.prepared_call-requires-clause-prepared
prepared_call-requires-clause-prepared g c =
    self_prepared c.args.request.now c.in-Ok.prepared.job c.in-Ok.ensures

pub prepared_call-requires-clause-data : goal.prepared_call-requires-clause-data
prepared_call-requires-clause-data g c =
    subst (λ (r : Request). is_data r.call ≡ true) (sym c.in-Ok.ensures.request_is) c.requires.data

pub prepared_call-requires-clause-plain : goal.prepared_call-requires-clause-plain
prepared_call-requires-clause-plain g c =
    subst (λ (r : Request). is_lambda r.call ≡ false) (sym c.in-Ok.ensures.request_is) c.requires.plain

pub returns-in-Ok-clause-did : goal.returns-in-Ok-clause-did
returns-in-Ok-clause-did g c =
    data_prepared g.D.Die.seen (opening_of opening_in c.args.desk.now.turn.now) (view c.args.desk.now.pass) (view c.prepared_call.new.desk.pass) c.args.lane c.in-Ok.prepared.job.request c.args.request.now c.prepared_call.result c.in-Ok.ensures.request_is c.prepared_call.ensures.did

pub returns-in-Ok-clause-numbered : goal.returns-in-Ok-clause-numbered
returns-in-Ok-clause-numbered g c =
    λ n is. numbered_as g.D.Die.seen (opening_of opening_in c.args.desk.now.turn.now) (opening_of opening_in c.args.desk.now.turn.now) (view c.prepared_call.new.desk.pass) c.args.lane c.in-Ok.prepared.job.request c.args.request.now n refl c.in-Ok.ensures.request_is (c.prepared_call.ensures.numbered n is)

pub returns-in-Err-clause-did : goal.returns-in-Err-clause-did
returns-in-Err-clause-did g c =
    data_skipped g.D.Die.seen (opening_of opening_in c.args.desk.now.turn.now) (view c.args.desk.now.pass) (view c.skip_call.new.desk.pass) c.args.lane c.args.request.now c.skip_call.result c.skip_call.ensures.did

pub skip_call-requires-clause-hands : goal.skip_call-requires-clause-hands
skip_call-requires-clause-hands g c =
    c.requires.lane.none

pub skip_call-requires-clause-idle : goal.skip_call-requires-clause-idle
skip_call-requires-clause-idle g c =
    c.requires.lane.idle
