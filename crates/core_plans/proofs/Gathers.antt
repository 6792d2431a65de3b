-- Gathering behind a history fails where the lines say.
use Rattle.std.proofs.Common.{◌≡◌, ℕ, zero, suc, ◌+◌, ◌-◌, ◌%◌, ◌^◌, ◌<◌, ◌≤◌, min, Bool, true, false, List, [], ◌∷◌, length, map, Option, Some, refl, sym, ap, ◌∙◌, subst, ⊎_elim, arith}
use Rattle.std.specs.Prelude.{◌==◌, ◌||◌, IfSome, option_map}
use Rattle.std.specs.List.{All}
use Rattle.std.proofs.lemmas.Bool.{cases_lt}
use Rattle.std.proofs.lemmas.Bool.Decides.{nat_tests}
use Rattle.edge_io.specs.Memory.{is_listed}
use Rattle.flash_die.specs.Dies.{PlanView, DieView, IsPlan, IsDie, read_fails}
use Rattle.page_base.specs.Drive.{Drive}
use Rattle.drive_array.specs.Reads.{after_reads, HasRead, ReadsPages, StopsAt, StopsIn, RisesAt, FailsWithin, GivesAll, share_of}
use Rattle.drive_array.specs.Reads as array
use Rattle.script_words.specs.declared.script.FaultLine.{FaultLine}
use Rattle.command_words.specs.declared.options.DieKind.{DieKind}
use Rattle.command_words.specs.declared.options.DieKind.TheVariants.{Mem, Ftl, Mirror}
use Rattle.fault_lines.specs.Lines.{numbers_of}
use Rattle.turn_cell.specs.declared.book.Entry.{Entry}
use Rattle.turn_cell.specs.Events.{events_of}
use Rattle.core_state.specs.declared.event.Event.{Event}
use Rattle.system_start.specs.Started.{at_home}
use Rattle.system_state.specs.Jobs.{JobView}
use Rattle.system_state.specs.Slots.{die_at}
use Rattle.system_state.specs.Stands.{Tally, tally, plan_after, DieStands, Stands}
use Rattle.system_state.specs.declared.dies.Slot.{Slot}
use Rattle.system_state.specs.declared.state.State.{State}
use Rattle.core_plans.specs.Failing.{unused}
use Rattle.core_plans.specs.Lines.{plan_of, listed_for, IsDieOf}
use Rattle.core_plans.specs.Gathering.{IsNextRead, names_read, IsLost}

-- ---- numbers of reads

unlisted : (xs : List ℕ) (n : ℕ) → All (λ m. m < 2 ^ 32) xs → 2 ^ 32 ≤ n → is_listed n xs ≡ false
unlisted [] n all l = refl
unlisted (x ∷ xs) n all l =
    let first : x < 2 ^ 32 = all 0 0 (omega arith) in
    let differ : (x == n) ≡ false = grind (arith, nat_tests) in
    let rest : is_listed n xs ≡ false = unlisted xs n (λ k d h. all (suc k) d (omega arith)) l in
    ap (λ (b : Bool). b || is_listed n xs) differ ∙ rest

-- counts end at 2^32, where nothing is listed
listed_same : (xs : List ℕ) (made k m : ℕ) → All (λ m. m < 2 ^ 32) xs → m ≡ min (min made (2 ^ 32) + k) (2 ^ 32) → is_listed (min (m + 1) (2 ^ 32)) xs ≡ is_listed (made + k + 1) xs
listed_same xs made k m all e = ⊎_elim
    (λ (l : made + k + 1 < 2 ^ 32). ap (λ (n : ℕ). is_listed n xs) (omega arith))
    (λ (l : 2 ^ 32 ≤ made + k + 1). unlisted xs (min (m + 1) (2 ^ 32)) all (omega arith) ∙ sym (unlisted xs (made + k + 1) all l))
    (cases_lt (made + k + 1) (2 ^ 32))

-- a plan after so many reads
record IsAfter (k : ℕ) (plan : PlanView) : Type 0 where
  reads : (after_reads k plan).reads ≡ min (plan.reads + k) (2 ^ 32)
  failing : (after_reads k plan).failing_reads ≡ plan.failing_reads

is_after : (k : ℕ) (plan : PlanView) → plan.reads ≤ 2 ^ 32 → IsAfter k plan
unfolding after_reads
is_after zero plan l = record { reads = omega arith; failing = refl }
is_after (suc k) plan l = let h = is_after k plan l in let r = h.reads in record { reads = omega arith; failing = h.failing }

-- the read of a die that comes behind so many, and k more
next_read : (made k : ℕ) (writes : ℕ) (plan : PlanView) → plan.reads ≡ min made (2 ^ 32) → IsPlan plan → read_fails (after_reads k plan) ≡ is_listed (made + k + 1) plan.failing_reads
next_read made k writes plan e p =
    let h = is_after k plan p.reads in
    let a : is_listed (min ((after_reads k plan).reads + 1) (2 ^ 32)) (after_reads k plan).failing_reads ≡ is_listed (min ((after_reads k plan).reads + 1) (2 ^ 32)) plan.failing_reads =
    ap (is_listed (min ((after_reads k plan).reads + 1) (2 ^ 32))) h.failing in
    let r : (after_reads k plan).reads ≡ min (min made (2 ^ 32) + k) (2 ^ 32) = h.reads ∙ ap (λ (n : ℕ). min (n + k) (2 ^ 32)) e in
    a ∙ listed_same plan.failing_reads made k (after_reads k plan).reads p.failing_reads r

-- ---- one die

-- the plan of a die in memory, after what it has done
plan_now : (lines : List FaultLine) (d : ℕ) (o old : DieView) (n : Tally) → IsDieOf Mem lines d o → DieStands o n old → old.plan ≡ Some (plan_after n (unused (plan_of lines false d)))
plan_now lines d o old n made k = k.plan ∙ ap (option_map (plan_after n)) made.plan

-- a line names one of its next reads
record NamesOne (lines : List FaultLine) (d made pages : ℕ) : Type 0 where
  number : ℕ
  next : IsNextRead made pages number
  named : names_read lines d number ≡ true

failed_named : (lines : List FaultLine) (d pages : ℕ) (o old : DieView) (n : Tally) → IsDieOf Mem lines d o → DieStands o n old → IsDie old → IfSome old.plan (FailsWithin pages) → NamesOne lines d n.reads pages
failed_named lines d pages o old n made k sound fails =
    let plan = plan_after n (unused (plan_of lines false d)) in
    let e = plan_now lines d o old n made k in
    let f = subst (λ (p : Option PlanView). IfSome p (FailsWithin pages)) e fails in
    let p = subst (λ (p : Option PlanView). IfSome p IsPlan) e sound.planned in
    let r : min (0 + n.reads) (2 ^ 32) ≡ min n.reads (2 ^ 32) = omega arith in
    let w = f.within in
    record {
      number = n.reads + f.before + 1;
      next = record { past = omega arith; within = omega arith };
      named = sym (next_read n.reads f.before 0 plan r p) ∙ f.listed;
    }

gave_none : (lines : List FaultLine) (d pages : ℕ) (o old : DieView) (n : Tally) → IsDieOf Mem lines d o → DieStands o n old → IsDie old → IfSome old.plan (GivesAll pages) →
    (number : ℕ) → IsNextRead n.reads pages number → names_read lines d number ≡ false
gave_none lines d pages o old n made k sound gives number next =
    let plan = plan_after n (unused (plan_of lines false d)) in
    let e = plan_now lines d o old n made k in
    let g = subst (λ (p : Option PlanView). IfSome p (GivesAll pages)) e gives in
    let p = subst (λ (p : Option PlanView). IfSome p IsPlan) e sound.planned in
    let r : min (0 + n.reads) (2 ^ 32) ≡ min n.reads (2 ^ 32) = omega arith in
    let past = next.past in
    let within = next.within in
    let before : ℕ = number - n.reads - 1 in
    let same : number ≡ n.reads + before + 1 = omega arith in
    ap (names_read lines d) same ∙ (sym (next_read n.reads before 0 plan r p) ∙ g before (omega arith))

-- the plans of no lines
none_listed : (d : ℕ) → listed_for [] d ≡ 0
unfolding numbers_of
none_listed d = refl

has_line : (lines : List FaultLine) (d : ℕ) → 0 < listed_for lines d → 0 < length lines
has_line [] d l = absurd (let e = none_listed d in omega arith)
has_line (x ∷ xs) d l = omega arith

most_holds : (a : Option ℕ) (faults most : ℕ) → a ≡ Some most → IfSome a (λ m. faults ≤ m) → faults ≤ most
most_holds a faults most e h = subst (λ (x : Option ℕ). IfSome x (λ m. faults ≤ m)) e h

risen : (kind : DieKind) (lines : List FaultLine) (d : ℕ) (o old new : DieView) (n : Tally) → IsDieOf kind lines d o → DieStands o n old → new.most ≡ old.most → IsDie new → old.faults < new.faults → 0 < length lines
risen kind lines d o old new n made k same sound rose =
    let f = made.few in
    let few = f.few in
    let faults = k.faults in
    let bound = most_holds new.most new.faults f.most (same ∙ (k.most ∙ f.told)) sound.bounded in
    has_line lines d (omega arith)

-- ---- all dies

sound_none : IsDie array.no_die
sound_none = record { whole = tt; each_whole = tt; bounded = tt; planned = tt }

module _ {D : Type 0} (seen : D → DieView) where
  same_view : (dies : List D) (d : ℕ) → die_at seen (at_home dies) d ≡ array.die_at (map seen dies) d
  same_view [] d = refl
  same_view (x ∷ xs) zero = refl
  same_view (x ∷ xs) (suc d) = same_view xs d

  sound_at : ((x : D) → IsDie (seen x)) → (dies : List D) (d : ℕ) → IsDie (array.die_at (map seen dies) d)
  sound_at sound [] d = sound_none
  sound_at sound (x ∷ xs) zero = sound x
  sound_at sound (x ∷ xs) (suc d) = sound_at sound xs d

rest_below : (a n : ℕ) → 0 < n → a % n < n
rest_below a n l = omega arith

module _ {D J : Type 0} (seen : D → DieView) (suits : J → JobView → Type 0) (sound : (x : D) → IsDie (seen x)) where
  -- the die as it is after the history
  stands_at : (s o : State D J) (h : List (Entry Event)) (dies : List D) (d : ℕ) → Stands seen suits s o h → at_home dies ≡ s.rack.slots.items → d < o.sizes.dies →
      DieStands (die_at seen o.rack.slots.items d) (tally d (events_of h)) (array.die_at (map seen dies) d)
  stands_at s o h dies d k same l =
      let w : d < s.sizes.dies = (let z = ap (λ z. z.dies) k.sizes in omega arith) in
      let e : die_at seen s.rack.slots.items d ≡ array.die_at (map seen dies) d = ap (λ (slots : List (Slot D)). die_at seen slots d) (sym same) ∙ same_view seen dies d in
      subst (DieStands (die_at seen o.rack.slots.items d) (tally d (events_of h))) e (k.dies d w)

  pub gathered_whole : (s o : State D J) (h : List (Entry Event)) (kind : DieKind) (lines : List FaultLine) (drive : Drive) (dies : List D) → Stands seen suits s o h →
      ((d : ℕ) → d < o.sizes.dies → IsDieOf kind lines d (die_at seen o.rack.slots.items d)) → at_home dies ≡ s.rack.slots.items → drive.dies ≡ o.sizes.dies →
      ((d : ℕ) → d < drive.dies → IfSome (array.die_at (map seen dies) d).plan (GivesAll (share_of drive d))) → IsLost kind lines drive (events_of h) false
  gathered_whole s o h Mem lines drive dies k made same count gives = λ d number l next.
      let w : d < o.sizes.dies = omega arith in
      gave_none lines d (share_of drive d) (die_at seen o.rack.slots.items d) (array.die_at (map seen dies) d) (tally d (events_of h)) (made d w) (stands_at s o h dies d k same w) (sound_at seen sound dies d) (gives d l) number next
  gathered_whole s o h Ftl lines drive dies k made same count gives = tt
  gathered_whole s o h Mirror lines drive dies k made same count gives = tt

  pub gathered_lost : (s o : State D J) (h : List (Entry Event)) (kind : DieKind) (lines : List FaultLine) (drive : Drive) (dies left : List D) (d : ℕ) → Stands seen suits s o h →
      ((d : ℕ) → d < o.sizes.dies → IsDieOf kind lines d (die_at seen o.rack.slots.items d)) → at_home dies ≡ s.rack.slots.items → drive.dies ≡ o.sizes.dies → 0 < drive.dies →
      StopsIn drive d (map seen dies) (map seen left) → RisesAt d (map seen dies) (map seen left) → IfSome (array.die_at (map seen dies) d).plan (FailsWithin (share_of drive d)) →
      IsLost kind lines drive (events_of h) true
  gathered_lost s o h kind lines drive dies left d k made same count some stops rises fails = go kind made
    where
      there : d < drive.dies
      there = let z = rest_below stops.page drive.dies some in let e = stops.here in omega arith

      within : d < o.sizes.dies
      within = let z = there in omega arith

      any : (kind : DieKind) → IsDieOf kind lines d (die_at seen o.rack.slots.items d) → 0 < length lines
      any kind m =
          risen kind lines d (die_at seen o.rack.slots.items d) (array.die_at (map seen dies) d) (array.die_at (map seen left) d) (tally d (events_of h)) m (stands_at s o h dies d k same within)
          (stops.failed.counts.most ∙ (stops.read.reads d there).same.most) (sound_at seen sound left d) rises

      go : (kind : DieKind) → ((d : ℕ) → d < o.sizes.dies → IsDieOf kind lines d (die_at seen o.rack.slots.items d)) → IsLost kind lines drive (events_of h) true
      go Mem m =
          let f = failed_named lines d (share_of drive d) (die_at seen o.rack.slots.items d) (array.die_at (map seen dies) d) (tally d (events_of h)) (m d within) (stands_at s o h dies d k same within) (sound_at seen sound dies d) fails in
          record { die = d; there = there; number = f.number; next = f.next; named = f.named }
      go Ftl m = any Ftl (m d within)
      go Mirror m = any Mirror (m d within)
