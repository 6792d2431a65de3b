use Rattle.std.proofs.Common.{Vec, Global, length, map, sym, ◌∙◌, subst}
use Rattle.std.proofs.lemmas.List.{length-map}
use Rattle.std.specs.declared.snapshot.Snapshot.{Snapshot}
use Rattle.turn_cell.specs.Events.{events_of}
use Rattle.turn_cell.specs.Passes.{view}
use Rattle.plain_files.specs.declared.calls.Request.{Request}
use Rattle.core_state.specs.History.{calls_of}
use Rattle.system_state.specs.Cores.{core_of}
use Rattle.system_state.specs.declared.state.State.{State}
use Rattle.page_steps.specs.Words.{IsSmall}
use Rattle.lane_logs.specs.Logs.{AreLogs}
use Rattle.crews.specs.Seats.{IsUntouched}
use Rattle.crew_runs.specs.Ended.{IsWornOut}
use Rattle.crew_runs.proofs.Telling.{on_ok, ends, wide_from}
use Rattle.crew_runs.proofs.run.run_lanes.Goals as goal

pub run_begun-requires-clause-new : goal.run_begun-requires-clause-new
run_begun-requires-clause-new g c κs within =
    let e = c.in-Ok.ensures in
    let olds = c.args.lanes.now in
    let turn = c.in-Ok.begun.turn in (
      map (λ (v : Vec Request Global). v.items) olds,
      wide_from g.D.Die.seen g.J.CallJob.suits (length olds) turn c.args.system e.opening c.requires.wide ∙ sym (length-map olds (λ (v : Vec Request Global). v.items)),
      e.posts,
    )

pub run_begun-requires-clause-untouched : goal.run_begun-requires-clause-untouched
run_begun-requires-clause-untouched g c κs within =
    subst (λ (z : Snapshot (State g.row.D.Denot g.row.J.Denot)). IsUntouched (core_of g.D.Die.seen z.value)) (sym c.in-Ok.ensures.opening) c.requires.untouched

pub run_begun-requires-clause-small : goal.run_begun-requires-clause-small
run_begun-requires-clause-small g c κs within = subst (λ (z : Snapshot (State g.row.D.Denot g.row.J.Denot)). IsSmall z.value) (sym c.in-Ok.ensures.opening) c.requires.small

pub returns-in-Ok-clause-stands : goal.returns-in-Ok-clause-stands
returns-in-Ok-clause-stands g c =
    let e = c.in-Ok.ensures in
    let olds = c.args.lanes.now in
    let lanes = map (λ (v : Vec Request Global). v.items) olds in
    let many = length-map olds (λ (v : Vec Request Global). v.items) in
    let all = ends g.D.Die.seen g.J.CallJob.suits lanes (length olds) c.args.settles c.in-Ok.begun.turn c.in-Ok.begun.posts.items c.args.system c.run_begun.result e.opening many c.requires.wide e.posts c.run_begun.ensures.ran in
    on_ok c.run_begun.result (λ x h. h.stands) all

pub returns-in-Ok-clause-serves : goal.returns-in-Ok-clause-serves
returns-in-Ok-clause-serves g c =
    let e = c.in-Ok.ensures in
    let olds = c.args.lanes.now in
    let lanes = map (λ (v : Vec Request Global). v.items) olds in
    let many = length-map olds (λ (v : Vec Request Global). v.items) in
    let all = ends g.D.Die.seen g.J.CallJob.suits lanes (length olds) c.args.settles c.in-Ok.begun.turn c.in-Ok.begun.posts.items c.args.system c.run_begun.result e.opening many c.requires.wide e.posts c.run_begun.ensures.ran in
    on_ok c.run_begun.result (λ x h. h.serves) all

pub returns-in-Ok-clause-left : goal.returns-in-Ok-clause-left
returns-in-Ok-clause-left g c =
    let e = c.in-Ok.ensures in
    let olds = c.args.lanes.now in
    let lanes = map (λ (v : Vec Request Global). v.items) olds in
    let many = length-map olds (λ (v : Vec Request Global). v.items) in
    let all = ends g.D.Die.seen g.J.CallJob.suits lanes (length olds) c.args.settles c.in-Ok.begun.turn c.in-Ok.begun.posts.items c.args.system c.run_begun.result e.opening many c.requires.wide e.posts c.run_begun.ensures.ran in
    on_ok c.run_begun.result (λ x h. h.left) all

pub returns-in-Ok-clause-idle : goal.returns-in-Ok-clause-idle
returns-in-Ok-clause-idle g c =
    let e = c.in-Ok.ensures in
    let olds = c.args.lanes.now in
    let lanes = map (λ (v : Vec Request Global). v.items) olds in
    let many = length-map olds (λ (v : Vec Request Global). v.items) in
    let all = ends g.D.Die.seen g.J.CallJob.suits lanes (length olds) c.args.settles c.in-Ok.begun.turn c.in-Ok.begun.posts.items c.args.system c.run_begun.result e.opening many c.requires.wide e.posts c.run_begun.ensures.ran in
    on_ok c.run_begun.result (λ x h. h.left.none) all

pub returns-in-Ok-clause-home : goal.returns-in-Ok-clause-home
returns-in-Ok-clause-home g c =
    let e = c.in-Ok.ensures in
    let olds = c.args.lanes.now in
    let lanes = map (λ (v : Vec Request Global). v.items) olds in
    let many = length-map olds (λ (v : Vec Request Global). v.items) in
    let all = ends g.D.Die.seen g.J.CallJob.suits lanes (length olds) c.args.settles c.in-Ok.begun.turn c.in-Ok.begun.posts.items c.args.system c.run_begun.result e.opening many c.requires.wide e.posts c.run_begun.ensures.ran in
    on_ok c.run_begun.result (λ x h. h.home) all

pub returns-in-Ok-clause-asked : goal.returns-in-Ok-clause-asked
returns-in-Ok-clause-asked g c =
    let e = c.in-Ok.ensures in
    let olds = c.args.lanes.now in
    let lanes = map (λ (v : Vec Request Global). v.items) olds in
    let many = length-map olds (λ (v : Vec Request Global). v.items) in
    let all = ends g.D.Die.seen g.J.CallJob.suits lanes (length olds) c.args.settles c.in-Ok.begun.turn c.in-Ok.begun.posts.items c.args.system c.run_begun.result e.opening many c.requires.wide e.posts c.run_begun.ensures.ran in
    on_ok c.run_begun.result (λ x h. h.asked) all

pub returns-in-Ok-clause-failed : goal.returns-in-Ok-clause-failed
returns-in-Ok-clause-failed g c =
    let e = c.in-Ok.ensures in
    let olds = c.args.lanes.now in
    let lanes = map (λ (v : Vec Request Global). v.items) olds in
    let many = length-map olds (λ (v : Vec Request Global). v.items) in
    let all = ends g.D.Die.seen g.J.CallJob.suits lanes (length olds) c.args.settles c.in-Ok.begun.turn c.in-Ok.begun.posts.items c.args.system c.run_begun.result e.opening many c.requires.wide e.posts c.run_begun.ensures.ran in
    on_ok c.run_begun.result (λ x h. h.failed) all

pub returns-in-Ok-clause-stored : goal.returns-in-Ok-clause-stored
returns-in-Ok-clause-stored g c =
    let e = c.in-Ok.ensures in
    let olds = c.args.lanes.now in
    let lanes = map (λ (v : Vec Request Global). v.items) olds in
    let many = length-map olds (λ (v : Vec Request Global). v.items) in
    let all = ends g.D.Die.seen g.J.CallJob.suits lanes (length olds) c.args.settles c.in-Ok.begun.turn c.in-Ok.begun.posts.items c.args.system c.run_begun.result e.opening many c.requires.wide e.posts c.run_begun.ensures.ran in
    on_ok c.run_begun.result (λ x h. h.stored) all

pub returns-in-Ok-clause-settled : goal.returns-in-Ok-clause-settled
returns-in-Ok-clause-settled g c =
    let e = c.in-Ok.ensures in
    let olds = c.args.lanes.now in
    let lanes = map (λ (v : Vec Request Global). v.items) olds in
    let many = length-map olds (λ (v : Vec Request Global). v.items) in
    let all = ends g.D.Die.seen g.J.CallJob.suits lanes (length olds) c.args.settles c.in-Ok.begun.turn c.in-Ok.begun.posts.items c.args.system c.run_begun.result e.opening many c.requires.wide e.posts c.run_begun.ensures.ran in
    on_ok c.run_begun.result (λ x h. h.settled) all

pub returns-in-Ok-clause-logs : goal.returns-in-Ok-clause-logs
returns-in-Ok-clause-logs g c =
    let e = c.in-Ok.ensures in
    let olds = c.args.lanes.now in
    let lanes = map (λ (v : Vec Request Global). v.items) olds in
    let many = length-map olds (λ (v : Vec Request Global). v.items) in
    let all = ends g.D.Die.seen g.J.CallJob.suits lanes (length olds) c.args.settles c.in-Ok.begun.turn c.in-Ok.begun.posts.items c.args.system c.run_begun.result e.opening many c.requires.wide e.posts c.run_begun.ensures.ran in
    on_ok c.run_begun.result (λ x h. subst (λ n. AreLogs n c.args.system.state.last (calls_of (events_of (view x.front.pass.value).seen)) x.logs.items) many h.logs) all

pub returns-in-Ok-clause-worn : goal.returns-in-Ok-clause-worn
returns-in-Ok-clause-worn g c front is =
    let e = c.in-Ok.ensures in
    let olds = c.args.lanes.now in
    let lanes = map (λ (v : Vec Request Global). v.items) olds in
    let many = length-map olds (λ (v : Vec Request Global). v.items) in
    subst (λ (z : Snapshot (State g.row.D.Denot g.row.J.Denot)). IsWornOut g.D.Die.seen g.J.CallJob.suits lanes z.value (view front.pass.value).seen) e.opening
    (c.run_begun.ensures.worn front is lanes many (wide_from g.D.Die.seen g.J.CallJob.suits (length olds) c.in-Ok.begun.turn c.args.system e.opening c.requires.wide) e.posts)
