-- Runs of scripts without `fault` lines.
use Rattle.std.proofs.Common.{◌≡◌, inl, inr, List, [], ◌∷◌, ◌++◌, length, true, false, Option, Some, None, refl, ap, ◌∙◌, sym, subst, arith}
use Rattle.std.specs.Prelude.{is_some}
use Rattle.command_words.specs.declared.options.DieKind.{DieKind}
use Rattle.std.proofs.lemmas.List.{length-map}
use Rattle.script_words.specs.declared.script.FaultLine.{FaultLine}
use Rattle.script_words.specs.declared.script.Lane.{Lane}
use Rattle.script_words.specs.Lanes.{requests}
use Rattle.plain_files.specs.Plain.{State}
use Rattle.plain_files.specs.History.{replies}
use Rattle.core_state.specs.declared.actor.Actor.TheVariants.{Closer}
use Rattle.core_state.specs.declared.event.Event.{Event}
use Rattle.core_state.specs.declared.event.Event.TheVariants.{FlushIn, MetaIn}
use Rattle.core_state.specs.State.{Core}
use Rattle.core_state.specs.Coherent.{Coherent}
use Rattle.core_state.specs.Happens.{CoreRun}
use Rattle.core_state.specs.History.{calls_of, failures}
use Rattle.core_state.specs.PlainOf.{plain}
use Rattle.core_solo.specs.Alone.{OpeningFrames}
use Rattle.core_solo.specs.Settling.{IsFresh}
use Rattle.core_solo.specs.Solo.{SoloRun}
use Rattle.core_solo.specs.Served.{line_calls}
use Rattle.core_solo.proofs.Exact.{run_exact}
use Rattle.core_solo.proofs.Whole.{run_follows}
use Rattle.core_solo.proofs.Serving.{follow_calls}
use Rattle.core_closing.specs.Kept.{IsFailedWrite}
use Rattle.core_plans.specs.Gathering.{IsLost}
use Rattle.core_plans.specs.Lines.{FailAsTold}
use Rattle.core_plans.proofs.Unfaulted.{none_fail, none_lost}
use Rattle.system_metas.specs.Encode.{encode}
use Rattle.mounted_systems.specs.Dealt.{opening_of}
use Rattle.bench_runs.specs.Lines.{script_of}
use Rattle.bench_runs.specs.Runs.{LastSyncFails}
use Rattle.stack_top.specs.declared.plan.Plan.{Plan}
use Rattle.stack_top.specs.declared.refusal.Refusal.{Refusal}
use Rattle.stack_top.specs.declared.refusal.Refusal.TheVariants as refused
use Rattle.stack_top.specs.Choices.{Running, RanBy, InLineOrder, EndsAs}
use Rattle.stack_top.specs.Endings.{FaultlessRunsEnd, FaultlessRunsAreExact}

-- a failed write of the closer counts
write_counts : (e : Event) → IsFailedWrite e → failures (e ∷ []) ≡ 0 → ⊥
write_counts (FlushIn Closer die false left) failed none = omega (arith, none)
write_counts (MetaIn Closer die false left) failed none = omega (arith, none)
write_counts e failed none = failed

last_counts : (before : List Event) (last : Event) → IsFailedWrite last → failures (before ++ last ∷ []) ≡ 0 → ⊥
last_counts [] last failed none = write_counts last failed none
last_counts (e ∷ before) last failed none = last_counts before last failed (omega (arith, none))

-- where nothing fails, the last sync doesn't
sync_spared : (events : List Event) → failures events ≡ 0 → LastSyncFails events → ⊥
sync_spared events none fails =
    last_counts fails.0 fails.1 fails.3 (sym (ap failures fails.2) ∙ none)

nothing_fails : (first last : Core) (kind : DieKind) (lines : List FaultLine) (events : List Event) → lines ≡ [] → Coherent first → CoreRun first events last → FailAsTold kind lines events → failures events ≡ 0
nothing_fails first last kind lines events faultless coherent run failed =
    let P : List FaultLine → Type 0 = λ ls. FailAsTold kind ls events in
    none_fail first last kind events coherent run (subst P faultless failed)

run_ends : (makes : Core → List Event → Core → Type 0) (run : Running) (plan : Plan) → run.script.faults ≡ [] → (ran : RanBy makes run plan) → CoreRun ran.first ran.events ran.last → plan.ending ≡ None
run_ends makes run plan faultless ran made = by_ending plan.ending ran.ending
  where
    by_ending : (ending : Option Refusal) → EndsAs run ran.events ending → ending ≡ None
    by_ending None is = refl
    by_ending (Some refused.DriveFault) is =
        let P : List FaultLine → Type 0 = λ lines. IsLost run.dies lines run.opened.drive.geometry ran.events true in
        elim is.1 [
          | inl fails ↦
              absurd (sync_spared ran.events (nothing_fails ran.first ran.last run.dies run.script.faults ran.events faultless ran.opens.coherent made ran.failed) fails)
          | inr lost ↦ absurd (none_lost run.dies run.opened.drive.geometry ran.events (subst P faultless lost))
        ]
    by_ending (Some refusal) is = absurd is

pub faultless_runs_end : FaultlessRunsEnd
faultless_runs_end = record {
  alone = λ run plan faultless ran. run_ends (InLineOrder run) run plan faultless ran ran.made.run;
  at_once = λ run plan faultless is. elim is [
    | inl ran ↦ inl (run_ends CoreRun run plan faultless ran ran.made)
    | inr worn ↦ inr worn.ending
  ];
}

pub faultless_runs_are_exact : FaultlessRunsAreExact
faultless_runs_are_exact run plan faultless ran fed =
    let first : Core = opening_of ran.opens.meta ran.opens.pages (length run.script.lanes) run.place in
    let Made : Core → Type 0 = λ c. SoloRun encode c (script_of run.script) (is_some run.out) ran.events ran.last in
    let made : Made first = subst Made ran.opens.core ran.made in
    let coherent : Coherent first = subst Coherent ran.opens.core ran.opens.coherent in
    let frames : OpeningFrames first.shape = record { host = refl; drive = refl } in
    let wide : length (requests run.script) ≡ first.shape.lanes = length-map run.script.lanes (λ (lane : Lane). lane.requests) in
    let fresh : IsFresh first = record { still = λ l. refl; home = λ die. refl; closer = omega arith } in
    let same : plain first ≡ run.opened.drive.plain = sym (ap plain ran.opens.core) ∙ ran.opens.same in
    run_exact first ran.last ran.events coherent (λ lane. refl) made.run (nothing_fails first ran.last run.dies run.script.faults ran.events faultless coherent made.run ran.failed) fed
    ∙ ap (replies (plain first)) (follow_calls (script_of run.script) run.script.order (calls_of ran.events) (run_follows encode first ran.last (script_of run.script) (is_some run.out) ran.events frames wide coherent fresh made))
    ∙ ap (λ (s : State). replies s (line_calls (script_of run.script) run.script.order)) same
