-- Dies that are made with the plans of a script's lines fail as the lines say.
use Rattle.std.proofs.Common.{ℕ, ◌<◌, true, false, List, refl, arith}
use Rattle.flash_die.specs.Dies.{DieView}
use Rattle.flash_die.specs.Failures.{failed_of, told_die}
use Rattle.turn_cell.specs.declared.book.Entry.{Entry}
use Rattle.turn_cell.specs.Events.{events_of}
use Rattle.mirror_die.specs.Mirror.{seen_of}
use Rattle.drive_array.specs.Shares.{start_plan, loaded_die}
use Rattle.drive_array.specs.Mirrors.{mirror_of}
use Rattle.script_words.specs.declared.script.FaultLine.{FaultLine}
use Rattle.command_words.specs.declared.options.DieKind.{DieKind}
use Rattle.command_words.specs.declared.options.DieKind.TheVariants.{Mem, Ftl, Mirror}
use Rattle.core_state.specs.declared.event.Event.{Event}
use Rattle.system_state.specs.Jobs.{JobView}
use Rattle.system_state.specs.Slots.{die_at}
use Rattle.system_state.specs.Stands.{Stands}
use Rattle.system_state.specs.declared.state.State.{State}
use Rattle.core_plans.specs.Failing.{FailAtMost, unused}
use Rattle.fault_lines.specs.Lines.{plan_for, distinct_lines}
use Rattle.core_plans.specs.Lines.{plan_of, listed_in, listed_for, IsDieOf, FailAsTold}
use Rattle.core_plans.proofs.Dies.{stands_planned, stands_bounded}
use Rattle.core_plans.proofs.Lines.{sum_lines}

-- ---- dies just made

pub made_memory : (lines : List FaultLine) (d : ℕ) (pages : List (List ℕ)) → IsDieOf Mem lines d (told_die pages (start_plan (plan_for lines false d)))
unfolding failed_of
made_memory lines d pages = record {
  plan = refl;
  few = record { most = listed_in (plan_of lines false d); told = refl; few = omega arith };
}

pub made_flash : (lines : List FaultLine) (d : ℕ) (pages : List (List ℕ)) → IsDieOf Ftl lines d (loaded_die pages (plan_for lines false d))
made_flash lines d pages = record {
  plan = tt;
  few = record { most = listed_in (plan_of lines false d); told = refl; few = omega arith };
}

pub made_mirror : (lines : List FaultLine) (d : ℕ) (pages copied : List (List ℕ)) →
    IsDieOf Mirror lines d (seen_of (mirror_of (told_die pages (start_plan (plan_for lines false d))) (told_die copied (start_plan (plan_for lines true d)))))
made_mirror lines d pages copied = record {
  plan = tt;
  few = record { most = listed_for lines d; told = refl; few = omega arith };
}

-- ---- a system over them

module _ {D J : Type 0} (seen : D → DieView) (suits : J → JobView → Type 0) where
  pub stands_few : (s o : State D J) (h : List (Entry Event)) (kind : DieKind) (lines : List FaultLine) → Stands seen suits s o h →
      ((d : ℕ) → d < o.sizes.dies → IsDieOf kind lines d (die_at seen o.rack.slots.items d)) → FailAtMost (distinct_lines lines) (events_of h)
  stands_few s o h kind lines k made =
      let a = stands_bounded seen suits s o h (listed_for lines) k (λ d l. (made d l).few) in
      let b = sum_lines o.sizes.dies lines in
      omega arith

  pub stands_told : (s o : State D J) (h : List (Entry Event)) (kind : DieKind) (lines : List FaultLine) → Stands seen suits s o h →
      ((d : ℕ) → d < o.sizes.dies → IsDieOf kind lines d (die_at seen o.rack.slots.items d)) → FailAsTold kind lines (events_of h)
  stands_told s o h Mem lines k made = stands_planned seen suits s o h (λ d. unused (plan_of lines false d)) k (λ d l. (made d l).plan)
  stands_told s o h Ftl lines k made = stands_few s o h Ftl lines k made
  stands_told s o h Mirror lines k made = stands_few s o h Mirror lines k made
