use Rattle.std.proofs.Common.{rules, length, refl, ap, ◌∙◌, length-append}
use Rattle.lane_runs.proofs.Seats.{shared_on, seated}
use Rattle.lane_runs.proofs.seating.seat.Goals as goal

pub returns-clause-root : goal.returns-clause-root
returns-clause-root g c =
    shared_on c.args.turn.now (length c.args.posts.now.items) (length c.push.new.self.items) c.args.root.now c.split-pass.new.root (ap length c.in_ok-push.ensures.items ∙ length-append c.args.posts.now.items _) c.requires.root c.split-pass.ensures.turn.0 c.split-pass.ensures.free.0
    c.split-pass.ensures.views.0

pub returns-clause-new : goal.returns-clause-new
returns-clause-new g c lanes placed all =
    seated c.args.turn.now lanes c.args.posts.now.items c.push.new.self.items _ c.args.root.now c.split-pass.result c.in_ok-push.ensures.items c.requires.root c.split-pass.ensures.turn.1 c.split-pass.ensures.free.1
    c.split-pass.ensures.views.1 refl placed c.requires.few (search rules) (search rules) all
