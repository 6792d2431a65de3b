use Rattle.std.proofs.Common.{length}
use Rattle.lane_runs.proofs.Gatherings.{ready_one, served_all, gathering, gathered_same}
use Rattle.lane_runs.proofs.working.work_all.Goals as goal

pub run_posts-requires-after_bounds : goal.run_posts-requires-after_bounds
run_posts-requires-after_bounds g c κs within k d l = let n = c.requires.new in ready_one g.D.Die.seen c.args.turn.now n.0 k _ c.requires.untouched c.requires.small n.1 (n.2 k d l)

pub join_all-requires-clause-root : goal.join_all-requires-clause-root
join_all-requires-clause-root g c = gathering g.D.Die.seen c.args.turn.now c.run_posts.new.posts (length c.args.posts.now) c.args.root.now c.run_posts.ensures.len c.requires.root

pub join_all-requires-clause-served : goal.join_all-requires-clause-served
join_all-requires-clause-served g c = let n = c.requires.new in served_all g.D.Die.seen c.args.turn.now n.0 c.args.posts.now c.run_posts.new.posts c.run_posts.ensures.len n.2 c.run_posts.ensures.done

pub returns-clause-root : goal.returns-clause-root
returns-clause-root g c = gathered_same g.D.Die.seen c.args.turn.now c.run_posts.new.posts c.join_all.new.posts c.join_all.new.root c.join_all.ensures.len c.join_all.ensures.posts c.join_all.ensures.root
