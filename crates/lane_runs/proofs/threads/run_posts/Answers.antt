use denote.Param.Send.{sendable, param_sync}
use Rattle.lane_runs.proofs.Crossing.{post_send, turn_of_system}
use Rattle.lane_runs.proofs.threads.run_posts.Goals as goal
use Rattle.lane_runs.proofs.threads.run_posts.Lts as lts

pub for_each_mut-requires-send-T : goal.for_each_mut-requires-send-T
for_each_mut-requires-send-T g c κs within = let a = post_send _ _ c.type_bounds.send-D c.type_bounds.send-J in search sendable depth 20

pub for_each_mut-requires-sync-F : goal.for_each_mut-requires-sync-F
for_each_mut-requires-sync-F g c κs within =
    let s = c.type_bounds.send-D in let t = c.type_bounds.send-J in let r = c.type_bounds.sync-R in let q = c.type_bounds.sync-G in let h = c.type_bounds.sync-H in
    param_sync 2 (lts.arg-1-2 g.row.D g.row.J g.row.R g.row.G g.row.H g.D.laws g.J.laws g.R.laws g.G.laws g.H.laws g.D.Die g.D.Die-dict g.J.CallJob g.J.CallJob-dict g.R.Threads g.R.Threads-dict g.R.Wait g.R.Wait-dict g.G.Gate g.G.Gate-dict g.H.Hands g.H.Hands-dict g.D.Destruct-dict g.J.Destruct-dict κs) (search (sendable, turn_of_system) depth 20)
