-- Two runs of one thread whose dies fail by the same plans are the same.
use Rattle.std.proofs.Common.{◌≡◌, ℕ, ◌+◌, Bool, true, false, List, [], ◌∷◌, Option, Some, None, length, refl, sym, ap, ◌∙◌, arith}
use Rattle.std.specs.Prelude.{is_some, IfSome, not, ◌==◌, ◌&&◌, if◌then◌else◌}
use Rattle.std.proofs.lemmas.Bool.Decides.{nat_tests}
use Rattle.edge_io.specs.Memory.{is_listed}
use Rattle.index_lists.specs.Words.{one_if}
use Rattle.flash_die.specs.Dies.{PlanView}
use Rattle.core_state.specs.declared.event.Event.{Event}
use Rattle.core_state.specs.declared.event.Event.TheVariants.{FillIn, FlushIn, MetaIn}
use Rattle.core_state.specs.State.{Page, Core}
use Rattle.core_state.specs.Coherent.{Coherent}
use Rattle.core_state.specs.DieEvents.{IsLeft}
use Rattle.core_state.specs.History.{read_of, write_of, IsListed, IsPlannedFrom}
use Rattle.core_solo.specs.Solo.{Script, SoloRun}
use Rattle.core_solo.specs.Alone.{OpeningFrames}
use Rattle.core_solo.specs.Settling.{IsFresh}
use Rattle.core_solo.specs.Served.{starved_of}
use Rattle.system_state.specs.Stands.{failing}
use Rattle.core_plans.specs.Failing.{FailAsPlanned, LeaveAsTold, LeavesFrom, spoilt_by}
use Rattle.core_plans.proofs.Alike.{Decides, AsSaid, run_same}

-- how many reads and writes each die has made
pub record Made : Type 0 where
  pub reads : ℕ → ℕ
  pub writes : ℕ → ℕ

pub is_itself : (n : ℕ) → (n == n) ≡ true
is_itself n = grind (arith, nat_tests)

module _ (plans : ℕ → PlanView) (left : ℕ → ℕ → Page) where
  abbrev pub next : Made → Event → Made
  next s e = record { reads = λ d. s.reads d + one_if (is_some (read_of d e)); writes = λ d. s.writes d + one_if (is_some (write_of d e)) }

  pub record FitsAt (s : Made) (e : Event) (d : ℕ) : Type 0 where
    pub read : IsListed (read_of d e) (s.reads d + 1) (plans d).failing_reads
    pub write : IsListed (write_of d e) (s.writes d + 1) (plans d).failing_writes
    pub spoilt : IfSome (spoilt_by d e) (λ page. page ≡ left d (s.writes d + 1))

  abbrev pub Fits : Made → Event → Type 0
  Fits s e = (d : ℕ) → FitsAt s e d

  -- what the plan answers to the next read and the next write of a die
  abbrev read_told : Made → ℕ → Option (Bool × List ℕ)
  read_told s d = Some (not (is_listed (s.reads d + 1) (plans d).failing_reads), [])

  abbrev write_told_as : Made → ℕ → Bool → Option (Bool × List ℕ)
  write_told_as s d good = Some (good, if good then [] else left d (s.writes d + 1))

  abbrev write_told : Made → ℕ → Option (Bool × List ℕ)
  write_told s d = write_told_as s d (not (is_listed (s.writes d + 1) (plans d).failing_writes))

  listed_at : (t good : Bool) (number : ℕ) (listed : List ℕ) → t ≡ true → IsListed (if t then Some good else None) number listed → good ≡ not (is_listed number listed)
  listed_at true good number listed e k = k
  listed_at false good number listed e k = absurd (cc)

  spoilt_at : (t good : Bool) (page want : Page) → t ≡ true → IsLeft good page → IfSome (if t && not good then Some page else None) (λ p. p ≡ want) → page ≡ (if good then [] else want)
  spoilt_at true true page want e l k = l.ok refl
  spoilt_at true false page want e l k = k
  spoilt_at false good page want e l k = absurd (cc)

  both_told : (s : Made) (d : ℕ) (good : Bool) (page : Page) → good ≡ not (is_listed (s.writes d + 1) (plans d).failing_writes) → page ≡ (if good then [] else left d (s.writes d + 1)) → Some (good, page) ≡ write_told s d
  both_told s d good page e k = ap (λ (p : Page). Some (good, p)) k ∙ ap (write_told_as s d) e

  flush_told : (s : Made) (d : ℕ) (good : Bool) (page : Page) → IsLeft good page → IsListed (if d == d then Some good else None) (s.writes d + 1) (plans d).failing_writes →
      IfSome (if (d == d) && not good then Some page else None) (λ p. p ≡ left d (s.writes d + 1)) → Some (good, page) ≡ write_told s d
  flush_told s d good page l w k =
      both_told s d good page (listed_at (d == d) good _ _ (is_itself d) w) (spoilt_at (d == d) good page _ (is_itself d) l k)

  fill_told : (s : Made) (d : ℕ) (good : Bool) → IsListed (if d == d then Some good else None) (s.reads d + 1) (plans d).failing_reads → Some (good, []) ≡ read_told s d
  fill_told s d good r = ap (λ (b : Bool). Some (b, [])) (listed_at (d == d) good _ _ (is_itself d) r)

  abbrev way : Bool → ℕ → Option (Bool × ℕ)
  way x d = Some (x, d)

  abbrev kind_in : Option (Bool × ℕ) → Bool
  kind_in None = true
  kind_in (Some w) = w.0

  abbrev die_in : Option (Bool × ℕ) → ℕ
  die_in None = 0
  die_in (Some w) = w.1

  same_die : (x y : Bool) (d e : ℕ) → way x d ≡ way y e → (x ≡ y) × (d ≡ e)
  same_die x y d e k = (ap kind_in k, ap die_in k)

  pub decides : Decides Fits
  decides s c (FillIn a1 d1 g1) (FillIn a2 d2 g2) m n p q w te tf =
      fill_told s d1 g1 (te d1).read ∙ (ap (read_told s) (same_die _ _ d1 d2 w).1 ∙ sym (fill_told s d2 g2 (tf d2).read))
  decides s c (FlushIn a1 d1 g1 l1) (FlushIn a2 d2 g2 l2) m n p q w te tf =
      flush_told s d1 g1 l1 m.left_is (te d1).write (te d1).spoilt ∙ (ap (write_told s) (same_die _ _ d1 d2 w).1 ∙ sym (flush_told s d2 g2 l2 n.left_is (tf d2).write (tf d2).spoilt))
  decides s c (FlushIn a1 d1 g1 l1) (MetaIn a2 d2 g2 l2) m n p q w te tf =
      flush_told s d1 g1 l1 m.left_is (te d1).write (te d1).spoilt ∙ (ap (write_told s) (same_die _ _ d1 d2 w).1 ∙ sym (flush_told s d2 g2 l2 n.left_is (tf d2).write (tf d2).spoilt))
  decides s c (MetaIn a1 d1 g1 l1) (FlushIn a2 d2 g2 l2) m n p q w te tf =
      flush_told s d1 g1 l1 m.left_is (te d1).write (te d1).spoilt ∙ (ap (write_told s) (same_die _ _ d1 d2 w).1 ∙ sym (flush_told s d2 g2 l2 n.left_is (tf d2).write (tf d2).spoilt))
  decides s c (MetaIn a1 d1 g1 l1) (MetaIn a2 d2 g2 l2) m n p q w te tf =
      flush_told s d1 g1 l1 m.left_is (te d1).write (te d1).spoilt ∙ (ap (write_told s) (same_die _ _ d1 d2 w).1 ∙ sym (flush_told s d2 g2 l2 n.left_is (tf d2).write (tf d2).spoilt))
  decides s c (FillIn a1 d1 g1) (FlushIn a2 d2 g2 l2) m n p q w te tf = absurd (let k = (same_die _ _ d1 d2 w).0 in cc)
  decides s c (FillIn a1 d1 g1) (MetaIn a2 d2 g2 l2) m n p q w te tf = absurd (let k = (same_die _ _ d1 d2 w).0 in cc)
  decides s c (FlushIn a1 d1 g1 l1) (FillIn a2 d2 g2) m n p q w te tf = absurd (let k = (same_die _ _ d1 d2 w).0 in cc)
  decides s c (MetaIn a1 d1 g1 l1) (FillIn a2 d2 g2) m n p q w te tf = absurd (let k = (same_die _ _ d1 d2 w).0 in cc)
  decides s c e f m n p q w te tf = absurd (cc)

  said_of : (es : List Event) (s : Made) → ((d : ℕ) → IsPlannedFrom d (failing (plans d)) (s.reads d) (s.writes d) es) → ((d : ℕ) → LeavesFrom d (left d) (s.writes d) es) → AsSaid next Fits decides s es
  said_of [] s p l = tt
  said_of (e ∷ es) s p l =
      ((λ d. record { read = (p d).0; write = (p d).1; spoilt = (l d).0 }), said_of es (next s e) (λ d. (p d).2) (λ d. (l d).1))

  pub same_by_plan : (encode : Core → ℕ → Page) (c0 c1 c2 : Core) (script : Script) (last : Bool) (es fs : List Event) → OpeningFrames c0.shape → length script.lanes ≡ c0.shape.lanes → Coherent c0 → IsFresh c0 →
      SoloRun encode c0 script last es c1 → FailAsPlanned plans es → LeaveAsTold left plans es →
      SoloRun encode c0 script last fs c2 → FailAsPlanned plans fs → LeaveAsTold left plans fs → starved_of es ≡ starved_of fs → es ≡ fs
  same_by_plan encode c0 c1 c2 script last es fs f wide h fresh a pa la b pb lb same =
      let s : Made = record { reads = λ d. (plans d).reads; writes = λ d. (plans d).writes } in
      run_same next Fits decides encode s c0 c1 c2 script last es fs f wide h fresh a (said_of es s pa la) b (said_of fs s pb lb) same
