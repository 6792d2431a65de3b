use Rattle.std.proofs.Common.{◌≡◌, ◌∷◌, [], length, refl, sym, ap, ◌∙◌, subst, arith, length-append}
use Rattle.lane_logs.specs.declared.logs.LaneLog.{LaneLog}
use Rattle.crew_runs.proofs.Logging.{AreTaken, left_on, taken_on}
use Rattle.crew_runs.proofs.logs.take_logs.Goals as goal

pub loop-i-preserved : goal.loop-i-preserved
loop-i-preserved g c =
    let i = c.loop-i.invariant in
    let k = c.loop-i.i in
    let olds = c.args.posts.now in
    let posts = c.loop-i.posts in
    let item = c.index-posts-i.result in
    let low = c.loop-i-test.true in
    let few = c.requires.few.0 in
    let long : length posts ≡ length olds = omega arith in
    let new : LaneLog = record { lane = k; entries = c.moved_out-entries.result } in
    let is = c.push_reserved.ensures.items in (
      subst (AreTaken olds) (sym is)
          (taken_on olds posts c.loop-i.logs.items k item new i.2 (omega arith) long c.index-posts-i.is refl (c.moved_out-entries.ensures ∙ ap (λ z. z.log) (sym c.index-posts-i.is)) i.1 i.0),
      left_on olds posts k c.moved_out-entries.new.post i.1,
      ap length is ∙ omega (arith, length-append c.loop-i.logs.items (new ∷ [])),
      let room = i.3 in let cap = c.push_reserved.ensures.capacity in omega arith,
    )
