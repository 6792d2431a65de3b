-- The plan of a run, as it is put together. This project's own.
use Rattle.std.specs.Prelude.{ℕ, List, [], ◌∷◌, Some, None}
use Rattle.bench_runs.specs.DriveImage.{DriveImage}
use Rattle.bench_runs.specs.DriveImage.TheVariants.{NotAsked, Whole, Lost}
use Rattle.stack_top.specs.declared.acts.Act.TheVariants as act
use Rattle.bench_runs.specs.CrewErr.{CrewErr}
use Rattle.bench_runs.specs.CrewErr.TheVariants as crew_err
use Rattle.stack_top.specs.declared.plan.Plan.{Plan}
use Rattle.stack_top.specs.declared.refusal.Refusal.{Refusal}
use Rattle.stack_top.specs.declared.refusal.Refusal.TheVariants as refused

-- by the name under which the image goes, the transcript, and what became of the image
abbrev pub plan_told : List ℕ → List ℕ → DriveImage → Plan
plan_told out text NotAsked = record { acts = act.Print text ∷ []; ending = None }
plan_told out text (Whole bytes) = record { acts = act.Print text ∷ act.Store out bytes.items ∷ []; ending = None }
plan_told out text Lost = record { acts = act.Print text ∷ []; ending = Some refused.DriveFault }

-- why a run on many threads has no plan
abbrev pub crew_refusal : CrewErr → Refusal
crew_refusal crew_err.NoMemory = refused.NoMemory
crew_refusal crew_err.Worn = refused.Worn
