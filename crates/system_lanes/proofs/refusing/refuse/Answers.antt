use Rattle.std.proofs.Common.{◌≡◌, ◌<◌, ◌≤◌, ◌%◌, ◌^◌, ◌+◌, length, arith, refl}
use Rattle.core_state.specs.LaneEvents.{replied}
use Rattle.core_state.specs.declared.event.Event.TheVariants.{Quick}
use Rattle.core_state.specs.Coherent.{Coherent}
use Rattle.system_state.specs.Cores.{core_of, lanes_of}
use Rattle.system_state.proofs.Standing.{stands_coherent}
use Rattle.system_lanes.proofs.LaneRows.{ended_most}
use Rattle.system_lanes.proofs.Moved.{moved_made, moved_stands, no_closer, lane_moved}
use Rattle.system_lanes.proofs.Refused.{may_refuse, refused_effect}
use Rattle.system_lanes.proofs.refusing.refuse.Goals as goal

pub count_reply-requires-clause-within : goal.count_reply-requires-clause-within
count_reply-requires-clause-within g c =
    let n : length c.args.state.now.lanes.items ≡ c.args.state.now.sizes.lanes = c.requires.standing.stands.kept.lanes.count in
    let m : c.args.lane < c.args.state.now.sizes.lanes = c.requires.ready.idle.within in
    omega arith

pub count_reply-requires-clause-fits : goal.count_reply-requires-clause-fits
count_reply-requires-clause-fits g c =
    let s = c.args.state.now in
    let m : (lanes_of s.lanes.items c.args.lane).ended ≤ s.last = ended_most s.sizes s.lanes.items s.last c.requires.standing.stands.kept.lanes c.args.lane in
    let n = c.requires.number in
    omega arith

pub returns-clause-made : goal.returns-clause-made
returns-clause-made g c =
    let s = c.args.state.now in
    let k = c.requires.standing.stands.kept in
    let h = stands_coherent g.D.Die.seen g.J.CallJob.suits s c.requires.standing.o c.requires.standing.h c.requires.standing.stands in
    let m : (lanes_of s.lanes.items c.args.lane).ended ≤ s.last = ended_most s.sizes s.lanes.items s.last k.lanes c.args.lane in
    moved_made g.D.Die.seen g.J.CallJob.suits s (Quick c.args.lane c.args.request.now c.args.reply.now) (core_of g.D.Die.seen s).calls
    (record s { lanes = c.count_reply.new.lanes; last = s.last + 1; told = c.note_refusal.result; made = (s.made + 1) % 2 ^ 64 }) k
    (lane_moved g.D.Die.seen g.J.CallJob.suits s (Quick c.args.lane c.args.request.now c.args.reply.now) c.args.lane (replied (lanes_of s.lanes.items c.args.lane))
    (record s { lanes = c.count_reply.new.lanes; last = s.last + 1; told = c.note_refusal.result; made = (s.made + 1) % 2 ^ 64 }) k
    refl refl refl refl (may_refuse (core_of g.D.Die.seen s) c.args.lane c.args.request.now c.args.reply.now h c.requires.ready c.requires.refusal) c.requires.hands (no_closer c.args.lane) (λ d. refl) (λ d. refl) refl (λ call is m. let n = c.requires.ready.idle.idle in absurd (cc)) (omega arith) (omega arith)
    c.count_reply.ensures.rows c.count_reply.ensures.count c.note_refusal.ensures (refused_effect (core_of g.D.Die.seen s) c.args.request.now.call c.args.reply.now h c.requires.refusal c.args.lane))

pub returns-clause-stands : goal.returns-clause-stands
returns-clause-stands g c =
    let s = c.args.state.now in
    let k = c.requires.standing.stands.kept in
    let h = stands_coherent g.D.Die.seen g.J.CallJob.suits s c.requires.standing.o c.requires.standing.h c.requires.standing.stands in
    let m : (lanes_of s.lanes.items c.args.lane).ended ≤ s.last = ended_most s.sizes s.lanes.items s.last k.lanes c.args.lane in
    moved_stands g.D.Die.seen g.J.CallJob.suits s (Quick c.args.lane c.args.request.now c.args.reply.now) (core_of g.D.Die.seen s).calls
    (record s { lanes = c.count_reply.new.lanes; last = s.last + 1; told = c.note_refusal.result; made = (s.made + 1) % 2 ^ 64 }) k
    (lane_moved g.D.Die.seen g.J.CallJob.suits s (Quick c.args.lane c.args.request.now c.args.reply.now) c.args.lane (replied (lanes_of s.lanes.items c.args.lane))
    (record s { lanes = c.count_reply.new.lanes; last = s.last + 1; told = c.note_refusal.result; made = (s.made + 1) % 2 ^ 64 }) k
    refl refl refl refl (may_refuse (core_of g.D.Die.seen s) c.args.lane c.args.request.now c.args.reply.now h c.requires.ready c.requires.refusal) c.requires.hands (no_closer c.args.lane) (λ d. refl) (λ d. refl) refl (λ call is m. let n = c.requires.ready.idle.idle in absurd (cc)) (omega arith) (omega arith)
    c.count_reply.ensures.rows c.count_reply.ensures.count c.note_refusal.ensures (refused_effect (core_of g.D.Die.seen s) c.args.request.now.call c.args.reply.now h c.requires.refusal c.args.lane))
    g.met.D.Die.sound
