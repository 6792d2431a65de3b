use Rattle.std.proofs.Common.{◌≡◌, ℕ, true, false, List, length, refl, ap, ◌∙◌, subst}
use Rattle.mirror_die.specs.Views as mirror
use Rattle.mirror_die.specs.Mirror.{MirrorView, seen_of}
use Rattle.flash_die.specs.declared.plan.Plan.{Plan}
use Rattle.dispatcher.specs.declared.side.Place.{Place}
use Rattle.drive_array.specs.Cut.{cuts}
use Rattle.drive_array.specs.Shares.{dies_of}
use Rattle.drive_array.specs.Mirrors.{mirror_of, beside}
use Rattle.script_words.specs.declared.script.FaultLine.{FaultLine}
use Rattle.command_words.specs.declared.options.DieKind.TheVariants.{Mirror}
use Rattle.fault_lines.specs.Lines.{plans}
use Rattle.core_state.specs.State.{Core}
use Rattle.system_state.specs.Cores.{core_of}
use Rattle.mounted_systems.specs.Dealt.{HasDies, opening_of}
use Rattle.drive_runs.proofs.Begun.{on_four}
use Rattle.drive_runs.proofs.Made.{plans_count, mirror_views, are_made_by}
use Rattle.drive_runs.proofs.kinds.open_mirrored.Goals as goal

pub open_mirror-requires-clause-plans : goal.open_mirror-requires-clause-plans
open_mirror-requires-clause-plans c = ap length c.in_ok-firsts.ensures ∙ (plans_count c.as_slice-lines.result.now false c.dies.result ∙ c.dies.ensures.value)

pub open_mirror-requires-clause-copies : goal.open_mirror-requires-clause-copies
open_mirror-requires-clause-copies c = ap length c.in_ok-seconds.ensures ∙ (plans_count c.as_slice-lines.result.now true c.dies-2.result ∙ c.dies-2.ensures.value)

pub returns : goal.returns
returns c = on_four c.open_mirror.result
    (λ s opened own stands counts.
    let lines : List FaultLine = c.args.script.now.faults in
    let dies : ℕ = c.args.meta.geometry.dies in
    let core : core_of (λ die. seen_of (mirror.view_of die)) s ≡ opening_of c.args.meta c.args.pages.items (length c.args.script.now.lanes) c.args.place =
    opened
    ∙ (ap (λ (n : ℕ). opening_of c.args.meta c.args.pages.items n c.options_for-options.result.place) c.options_for-options.ensures.lanes
    ∙ ap (λ (p : Place). opening_of c.args.meta c.args.pages.items (length c.args.script.now.lanes) p) c.options_for-options.ensures.place) in
    let firsts : c.in_ok-firsts.firsts.items ≡ plans lines false dies =
    c.in_ok-firsts.ensures ∙ (ap (λ (ls : List FaultLine). plans ls false c.dies.result) c.as_slice-lines.ensures ∙ ap (λ (n : ℕ). plans lines false n) c.dies.ensures.value) in
    let seconds : c.in_ok-seconds.seconds.items ≡ plans lines true dies =
    c.in_ok-seconds.ensures ∙ (ap (λ (ls : List FaultLine). plans ls true c.dies-2.result) c.as_slice-lines.ensures ∙ ap (λ (n : ℕ). plans lines true n) c.dies-2.ensures.value) in
    let lists = cuts c.args.pages.items dies in
    let views : List MirrorView = beside mirror_of (dies_of lists (plans lines false dies)) (dies_of lists (plans lines true dies)) in
    let has : HasDies (λ die. mirror.view_of die) s views =
    subst (λ (ps : List Plan). HasDies (λ die. mirror.view_of die) s (beside mirror_of (dies_of lists (plans lines false dies)) (dies_of lists ps))) seconds
    (subst (λ (ps : List Plan). HasDies (λ die. mirror.view_of die) s (beside mirror_of (dies_of lists ps) (dies_of lists c.in_ok-seconds.seconds.items))) firsts own) in
    record {
      stands = stands;
      core = core;
      counts = counts;
      made = are_made_by (λ die. seen_of (mirror.view_of die)) s Mirror lines dies (ap (λ (k : Core). k.shape.dies) core) (λ die. mirror.view_of die) seen_of (λ die. refl) views has (mirror_views lines c.args.pages.items dies (c.made_dies_tell.ensures.mirrors lines));
    })
    c.open_mirror.ensures.core c.open_mirror.ensures.dies c.open_mirror.ensures.stands c.open_mirror.ensures.counts
