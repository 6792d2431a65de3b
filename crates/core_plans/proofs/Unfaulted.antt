-- A script's lines determine the run of one thread; where there are none, nothing fails.
use Rattle.std.proofs.Common.{◌≡◌, ℕ, Bool, true, false, List, [], length, arith}
use Rattle.script_words.specs.declared.script.FaultLine.{FaultLine}
use Rattle.command_words.specs.declared.options.DieKind.{DieKind}
use Rattle.command_words.specs.declared.options.DieKind.TheVariants.{Mem, Ftl, Mirror}
use Rattle.fault_lines.specs.Lines.{numbers_of}
use Rattle.page_base.specs.Drive.{Drive}
use Rattle.core_state.specs.declared.event.Event.{Event}
use Rattle.core_state.specs.State.{Page, Core}
use Rattle.core_state.specs.Coherent.{Coherent}
use Rattle.core_state.specs.Happens.{CoreRun}
use Rattle.core_state.specs.History.{failures}
use Rattle.core_solo.specs.Solo.{Script, SoloRun}
use Rattle.core_solo.specs.Alone.{OpeningFrames}
use Rattle.core_solo.specs.Settling.{IsFresh}
use Rattle.core_solo.specs.Served.{starved_of}
use Rattle.core_plans.specs.Failing.{LeaveAsTold, unused}
use Rattle.core_plans.specs.Lines.{plan_of, FailAsTold}
use Rattle.core_plans.specs.Gathering.{IsLost}
use Rattle.core_plans.proofs.Counted.{told_few}
use Rattle.core_plans.proofs.Faultless.{same_faultless}
use Rattle.core_plans.proofs.Plans.{same_by_plan}

pub none_fail : (c0 c1 : Core) (kind : DieKind) (es : List Event) → Coherent c0 → CoreRun c0 es c1 → FailAsTold kind [] es → failures es ≡ 0
none_fail c0 c1 kind es h run p = let k = told_few c0 c1 kind [] es h run p in omega arith

pub none_lost : (kind : DieKind) (drive : Drive) (es : List Event) → IsLost kind [] drive es true → ⊥
unfolding numbers_of
none_lost Mem drive es k = let n = k.named in cc
none_lost Ftl drive es k = omega arith
none_lost Mirror drive es k = omega arith

pub same_unfaulted : (encode : Core → ℕ → Page) (kind : DieKind) (c0 c1 c2 : Core) (script : Script) (last : Bool) (es fs : List Event) → OpeningFrames c0.shape → length script.lanes ≡ c0.shape.lanes → Coherent c0 → IsFresh c0 →
    SoloRun encode c0 script last es c1 → FailAsTold kind [] es → SoloRun encode c0 script last fs c2 → FailAsTold kind [] fs → starved_of es ≡ starved_of fs → es ≡ fs
same_unfaulted encode kind c0 c1 c2 script last es fs f wide h fresh a p b q same =
    same_faultless encode c0 c1 c2 script last es fs f wide h fresh a (none_fail c0 c1 kind es h a.run p) b (none_fail c0 c2 kind fs h b.run q) same

pub same_by_lines : (encode : Core → ℕ → Page) (lines : List FaultLine) (left : ℕ → ℕ → Page) (c0 c1 c2 : Core) (script : Script) (last : Bool) (es fs : List Event) → OpeningFrames c0.shape → length script.lanes ≡ c0.shape.lanes → Coherent c0 → IsFresh c0 →
    SoloRun encode c0 script last es c1 → FailAsTold Mem lines es → LeaveAsTold left (λ d. unused (plan_of lines false d)) es →
    SoloRun encode c0 script last fs c2 → FailAsTold Mem lines fs → LeaveAsTold left (λ d. unused (plan_of lines false d)) fs → starved_of es ≡ starved_of fs → es ≡ fs
same_by_lines encode lines left c0 c1 c2 script last es fs f wide h fresh a pa la b pb lb same =
    same_by_plan (λ d. unused (plan_of lines false d)) left encode c0 c1 c2 script last es fs f wide h fresh a pa la b pb lb same
