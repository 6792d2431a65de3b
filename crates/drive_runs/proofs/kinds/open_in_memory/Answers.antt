use Rattle.std.proofs.Common.{◌≡◌, ℕ, false, List, length, ap, ◌∙◌, subst}
use Rattle.flash_die.specs.Memory as memory
use Rattle.flash_die.specs.declared.plan.Plan.{Plan}
use Rattle.dispatcher.specs.declared.side.Place.{Place}
use Rattle.drive_array.specs.Cut.{cuts}
use Rattle.drive_array.specs.Shares.{dies_of}
use Rattle.script_words.specs.declared.script.FaultLine.{FaultLine}
use Rattle.command_words.specs.declared.options.DieKind.TheVariants.{Mem}
use Rattle.fault_lines.specs.Lines.{plans}
use Rattle.core_state.specs.State.{Core}
use Rattle.system_state.specs.Cores.{core_of}
use Rattle.mounted_systems.specs.Dealt.{HasDies, opening_of}
use Rattle.drive_runs.proofs.Begun.{on_four}
use Rattle.drive_runs.proofs.Made.{plans_count, memory_views, are_made}
use Rattle.drive_runs.proofs.kinds.open_in_memory.Goals as goal

pub open_memory-requires-clause-plans : goal.open_memory-requires-clause-plans
open_memory-requires-clause-plans c = ap length c.in_ok-firsts.ensures ∙ (plans_count c.as_slice-lines.result.now false c.dies.result ∙ c.dies.ensures.value)

pub returns : goal.returns
returns c = on_four c.open_memory.result
    (λ s opened own stands counts.
    let lines : List FaultLine = c.args.script.now.faults in
    let dies : ℕ = c.args.meta.geometry.dies in
    let core : core_of (λ die. memory.view_of die) s ≡ opening_of c.args.meta c.args.pages.items (length c.args.script.now.lanes) c.args.place =
    opened
    ∙ (ap (λ (n : ℕ). opening_of c.args.meta c.args.pages.items n c.options_for-options.result.place) c.options_for-options.ensures.lanes
    ∙ ap (λ (p : Place). opening_of c.args.meta c.args.pages.items (length c.args.script.now.lanes) p) c.options_for-options.ensures.place) in
    let firsts : c.in_ok-firsts.firsts.items ≡ plans lines false dies =
    c.in_ok-firsts.ensures ∙ (ap (λ (ls : List FaultLine). plans ls false c.dies.result) c.as_slice-lines.ensures ∙ ap (λ (n : ℕ). plans lines false n) c.dies.ensures.value) in
    let views = dies_of (cuts c.args.pages.items dies) (plans lines false dies) in
    let has : HasDies (λ die. memory.view_of die) s views = subst (λ (ps : List Plan). HasDies (λ die. memory.view_of die) s (dies_of (cuts c.args.pages.items dies) ps)) firsts own in
    record {
      stands = stands;
      core = core;
      counts = counts;
      made = are_made (λ die. memory.view_of die) s Mem lines dies (ap (λ (k : Core). k.shape.dies) core) views has (memory_views lines c.args.pages.items dies (c.made_dies_tell.ensures.memory lines));
    })
    c.open_memory.ensures.core c.open_memory.ensures.dies c.open_memory.ensures.stands c.open_memory.ensures.counts
