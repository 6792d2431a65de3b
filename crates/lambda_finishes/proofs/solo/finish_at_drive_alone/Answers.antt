use Rattle.std.proofs.Common.{◌≤◌, ◌^◌, ◌∙◌, sym, subst, inl}
use Rattle.turn_cell.specs.Desks.{view_alone, opening_alone}
use Rattle.system_state.specs.Cores.{core_of}
use Rattle.desk_turns.specs.Passing.{core_seen}
use Rattle.call_finishes.specs.Books.{opening_in}
use Rattle.call_finishes.specs.Words.{IsSmall}
use Rattle.lambda_finishes.proofs.Sending.{may_submit, suits_queued, does_send}
use Rattle.lambda_finishes.proofs.Serving.{in_queue_now, does_serve, serve_worn, submit_worn, out_back, reported_back, solo_says, number_back, home_back, free_there, home_there}
use Rattle.lambda_finishes.proofs.solo.finish_at_drive_alone.Goals as goal

pub turn_submit-requires-clause-hands : goal.turn_submit-requires-clause-hands
turn_submit-requires-clause-hands g c = c.requires.begun.gathering.between.none

pub turn_submit-requires-clause-may : goal.turn_submit-requires-clause-may
turn_submit-requires-clause-may g c =
    may_submit (core_seen (core_of g.D.Die.seen) (opening_alone opening_in c.args.alone.now) (view_alone c.args.alone.now)) c.args.lane c.args.job c.requires.begun

pub turn_submit-requires-clause-job : goal.turn_submit-requires-clause-job
turn_submit-requires-clause-job g c =
    suits_queued (core_seen (core_of g.D.Die.seen) (opening_alone opening_in c.args.alone.now) (view_alone c.args.alone.now)) c.args.lane c.args.job c.requires.begun

pub returns-in_err-turn_submit-clause-did : goal.returns-in_err-turn_submit-clause-did
returns-in_err-turn_submit-clause-did g c =
    submit_worn g.D.Die.seen (opening_alone opening_in c.args.alone.now) (view_alone c.args.alone.now) (view_alone c.turn_submit.new.desk) c.args.lane c.args.job.request c.from_residual.result c.from_residual.ensures.0 c.in_err-turn_submit.ensures.went

pub serve_one_alone-requires-clause-worker : goal.serve_one_alone-requires-clause-worker
serve_one_alone-requires-clause-worker g c =
    let o = opening_alone opening_in c.args.alone.now in
    let v = view_alone c.args.alone.now in
    let u = view_alone c.turn_submit.new.desk in
    let lane = c.args.lane in
    let acts = inl c.requires.free.2.0 in
    let t = c.in_ok-turn_submit.ensures.did in
    let w = in_queue_now g.D.Die.seen o v u lane c.args.job c.requires.free.2.0 acts c.requires.begun c.requires.alone c.requires.home t in
    free_there g.D.Die.seen o (opening_alone opening_in c.turn_submit.new.desk) u lane c.args.job.request c.turn_submit.ensures.turn.1 w

pub serve_one_alone-requires-clause-home : goal.serve_one_alone-requires-clause-home
serve_one_alone-requires-clause-home g c =
    let o = opening_alone opening_in c.args.alone.now in
    let v = view_alone c.args.alone.now in
    let u = view_alone c.turn_submit.new.desk in
    let lane = c.args.lane in
    let acts = inl c.requires.free.2.0 in
    let t = c.in_ok-turn_submit.ensures.did in
    let w = in_queue_now g.D.Die.seen o v u lane c.args.job c.requires.free.2.0 acts c.requires.begun c.requires.alone c.requires.home t in
    home_there g.D.Die.seen o (opening_alone opening_in c.turn_submit.new.desk) u lane c.args.job.request c.turn_submit.ensures.turn.1 w

pub serve_one_alone-requires-clause-small : goal.serve_one_alone-requires-clause-small
serve_one_alone-requires-clause-small g c =
    subst (λ z. z.value.places.reads ≤ 2 ^ 62) (sym c.turn_submit.ensures.turn.1) c.requires.small.reads

pub returns-in_err-serve_one_alone-clause-did : goal.returns-in_err-serve_one_alone-clause-did
returns-in_err-serve_one_alone-clause-did g c =
    let o = opening_alone opening_in c.args.alone.now in
    let v = view_alone c.args.alone.now in
    let u = view_alone c.turn_submit.new.desk in
    let lane = c.args.lane in
    let acts = inl c.requires.free.2.0 in
    let t = c.in_ok-turn_submit.ensures.did in
    let w = in_queue_now g.D.Die.seen o v u lane c.args.job c.requires.free.2.0 acts c.requires.begun c.requires.alone c.requires.home t in
    let p = does_send g.D.Die.seen o v u lane c.args.job acts c.requires.begun t in
    let q = opening_alone opening_in c.turn_submit.new.desk in
    let same = c.turn_submit.ensures.turn.1 in
    let x = view_alone c.serve_one_alone.new.alone in
    serve_worn g.D.Die.seen o q v u x lane c.args.job.request c.in_err-serve_one_alone.field-0.0 c.from_residual-in_err-serve_one_alone.result c.from_residual-in_err-serve_one_alone.ensures.0 same c.requires.free.2.0 p w c.in_err-serve_one_alone.ensures.did

pub collect_reported-requires-clause-out : goal.collect_reported-requires-clause-out
collect_reported-requires-clause-out g c =
    let o = opening_alone opening_in c.args.alone.now in
    let v = view_alone c.args.alone.now in
    let u = view_alone c.turn_submit.new.desk in
    let lane = c.args.lane in
    let acts = inl c.requires.free.2.0 in
    let t = c.in_ok-turn_submit.ensures.did in
    let w = in_queue_now g.D.Die.seen o v u lane c.args.job c.requires.free.2.0 acts c.requires.begun c.requires.alone c.requires.home t in
    let p = does_send g.D.Die.seen o v u lane c.args.job acts c.requires.begun t in
    let q = opening_alone opening_in c.turn_submit.new.desk in
    let same = c.turn_submit.ensures.turn.1 in
    let x = view_alone c.serve_one_alone.new.alone in
    let q2 = opening_alone opening_in c.serve_one_alone.new.alone in
    let b = does_serve g.D.Die.seen o q v u x lane c.args.job.request c.in_ok-serve_one_alone.field-0 same c.requires.free.2.0 p w c.in_ok-serve_one_alone.ensures.home c.in_ok-serve_one_alone.ensures.did in
    let same2 = c.serve_one_alone.ensures.turn.1 ∙ same in
    out_back g.D.Die.seen o q2 v x lane c.args.job.request same2 b

pub collect_reported-requires-clause-reported : goal.collect_reported-requires-clause-reported
collect_reported-requires-clause-reported g c =
    let o = opening_alone opening_in c.args.alone.now in
    let v = view_alone c.args.alone.now in
    let u = view_alone c.turn_submit.new.desk in
    let lane = c.args.lane in
    let acts = inl c.requires.free.2.0 in
    let t = c.in_ok-turn_submit.ensures.did in
    let w = in_queue_now g.D.Die.seen o v u lane c.args.job c.requires.free.2.0 acts c.requires.begun c.requires.alone c.requires.home t in
    let p = does_send g.D.Die.seen o v u lane c.args.job acts c.requires.begun t in
    let q = opening_alone opening_in c.turn_submit.new.desk in
    let same = c.turn_submit.ensures.turn.1 in
    let x = view_alone c.serve_one_alone.new.alone in
    let q2 = opening_alone opening_in c.serve_one_alone.new.alone in
    let b = does_serve g.D.Die.seen o q v u x lane c.args.job.request c.in_ok-serve_one_alone.field-0 same c.requires.free.2.0 p w c.in_ok-serve_one_alone.ensures.home c.in_ok-serve_one_alone.ensures.did in
    let same2 = c.serve_one_alone.ensures.turn.1 ∙ same in
    reported_back g.D.Die.seen o q2 v x lane c.args.job.request same2 b

pub collect_reported-requires-clause-small : goal.collect_reported-requires-clause-small
collect_reported-requires-clause-small g c =
    subst (λ z. IsSmall z.value) (sym (c.serve_one_alone.ensures.turn.1 ∙ c.turn_submit.ensures.turn.1)) c.requires.small

pub returns-clause-did : goal.returns-clause-did
returns-clause-did g c =
    let o = opening_alone opening_in c.args.alone.now in
    let v = view_alone c.args.alone.now in
    let u = view_alone c.turn_submit.new.desk in
    let lane = c.args.lane in
    let acts = inl c.requires.free.2.0 in
    let t = c.in_ok-turn_submit.ensures.did in
    let w = in_queue_now g.D.Die.seen o v u lane c.args.job c.requires.free.2.0 acts c.requires.begun c.requires.alone c.requires.home t in
    let p = does_send g.D.Die.seen o v u lane c.args.job acts c.requires.begun t in
    let q = opening_alone opening_in c.turn_submit.new.desk in
    let same = c.turn_submit.ensures.turn.1 in
    let x = view_alone c.serve_one_alone.new.alone in
    let q2 = opening_alone opening_in c.serve_one_alone.new.alone in
    let b = does_serve g.D.Die.seen o q v u x lane c.args.job.request c.in_ok-serve_one_alone.field-0 same c.requires.free.2.0 p w c.in_ok-serve_one_alone.ensures.home c.in_ok-serve_one_alone.ensures.did in
    let same2 = c.serve_one_alone.ensures.turn.1 ∙ same in
    let y = view_alone c.collect_reported.new.alone in
    solo_says g.D.Die.seen o q2 v x y lane c.args.job.request c.collect_reported.result same2 b c.collect_reported.ensures.did

pub returns-clause-numbered : goal.returns-clause-numbered
returns-clause-numbered g c =
    let o = opening_alone opening_in c.args.alone.now in
    let v = view_alone c.args.alone.now in
    let u = view_alone c.turn_submit.new.desk in
    let lane = c.args.lane in
    let acts = inl c.requires.free.2.0 in
    let t = c.in_ok-turn_submit.ensures.did in
    let w = in_queue_now g.D.Die.seen o v u lane c.args.job c.requires.free.2.0 acts c.requires.begun c.requires.alone c.requires.home t in
    let p = does_send g.D.Die.seen o v u lane c.args.job acts c.requires.begun t in
    let q = opening_alone opening_in c.turn_submit.new.desk in
    let same = c.turn_submit.ensures.turn.1 in
    let x = view_alone c.serve_one_alone.new.alone in
    let q2 = opening_alone opening_in c.serve_one_alone.new.alone in
    let b = does_serve g.D.Die.seen o q v u x lane c.args.job.request c.in_ok-serve_one_alone.field-0 same c.requires.free.2.0 p w c.in_ok-serve_one_alone.ensures.home c.in_ok-serve_one_alone.ensures.did in
    let same2 = c.serve_one_alone.ensures.turn.1 ∙ same in
    let y = view_alone c.collect_reported.new.alone in
    λ n is. number_back g.D.Die.seen o q2 v x y lane c.args.job.request n same2 b (c.collect_reported.ensures.numbered n is)

pub returns-clause-home : goal.returns-clause-home
returns-clause-home g c =
    let o = opening_alone opening_in c.args.alone.now in
    let v = view_alone c.args.alone.now in
    let u = view_alone c.turn_submit.new.desk in
    let lane = c.args.lane in
    let acts = inl c.requires.free.2.0 in
    let t = c.in_ok-turn_submit.ensures.did in
    let w = in_queue_now g.D.Die.seen o v u lane c.args.job c.requires.free.2.0 acts c.requires.begun c.requires.alone c.requires.home t in
    let p = does_send g.D.Die.seen o v u lane c.args.job acts c.requires.begun t in
    let q = opening_alone opening_in c.turn_submit.new.desk in
    let same = c.turn_submit.ensures.turn.1 in
    let x = view_alone c.serve_one_alone.new.alone in
    let q2 = opening_alone opening_in c.serve_one_alone.new.alone in
    let b = does_serve g.D.Die.seen o q v u x lane c.args.job.request c.in_ok-serve_one_alone.field-0 same c.requires.free.2.0 p w c.in_ok-serve_one_alone.ensures.home c.in_ok-serve_one_alone.ensures.did in
    let same2 = c.serve_one_alone.ensures.turn.1 ∙ same in
    let y = view_alone c.collect_reported.new.alone in
    home_back g.D.Die.seen o q2 v x y lane c.args.job.request c.collect_reported.result same2 c.requires.free.2.0 b c.collect_reported.ensures.did
