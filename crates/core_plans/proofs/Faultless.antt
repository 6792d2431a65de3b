-- Where nothing is listed nothing fails, and runs of one thread in which nothing fails are the same.
use Rattle.std.proofs.Common.{◌≡◌, ℕ, ◌+◌, Bool, true, false, List, [], ◌∷◌, Option, Some, None, length, refl, sym, ap, ◌∙◌, arith}
use Rattle.std.specs.Prelude.{is_some, not, ◌==◌, if◌then◌else◌}
use Rattle.edge_io.specs.Memory.{is_listed}
use Rattle.index_lists.specs.Words.{one_if}
use Rattle.flash_die.specs.Dies.{PlanView}
use Rattle.core_state.specs.declared.event.Event.{Event}
use Rattle.core_state.specs.declared.event.Event.TheVariants.{FillIn, FlushIn, MetaIn}
use Rattle.core_state.specs.State.{Page, Core}
use Rattle.core_state.specs.Coherent.{Coherent}
use Rattle.core_state.specs.DieEvents.{IsLeft}
use Rattle.core_state.specs.Happens.{May, is_homecoming}
use Rattle.core_state.specs.History.{read_of, write_of, IsListed, IsPlannedFrom, is_failure, failures}
use Rattle.core_solo.specs.Solo.{Script, SoloRun}
use Rattle.core_solo.specs.Alone.{OpeningFrames}
use Rattle.core_solo.specs.Settling.{IsFresh}
use Rattle.core_solo.specs.Served.{told_by, starved_of}
use Rattle.system_state.specs.Stands.{failing}
use Rattle.core_plans.specs.Failing.{FailAsPlanned, ListsNone}
use Rattle.core_plans.proofs.Plans.{is_itself}
use Rattle.core_plans.proofs.Alike.{Decides, AsSaid, run_same}

-- ---- nothing is listed

none_listed : (t good : Bool) (number : ℕ) (listed : List ℕ) → listed ≡ [] → t ≡ true → IsListed (if t then Some good else None) number listed → good ≡ true
none_listed true good number listed none e k = k ∙ ap (λ (xs : List ℕ). not (is_listed number xs)) none
none_listed false good number listed none e k = absurd (cc)

good_by : (plans : ℕ → PlanView) → ((d : ℕ) → ListsNone (plans d)) → (e : Event) → ((d : ℕ) → (n : ℕ) × IsListed (read_of d e) n (plans d).failing_reads) → ((d : ℕ) → (n : ℕ) × IsListed (write_of d e) n (plans d).failing_writes) → is_failure e ≡ false
good_by plans none (FillIn actor die good) r w = ap not (none_listed (die == die) good _ _ (none die).reads (is_itself die) (r die).1)
good_by plans none (FlushIn actor die good left) r w = ap not (none_listed (die == die) good _ _ (none die).writes (is_itself die) (w die).1)
good_by plans none (MetaIn actor die good left) r w = ap not (none_listed (die == die) good _ _ (none die).writes (is_itself die) (w die).1)
good_by plans none e r w = refl

none_more : (t : Bool) (n : ℕ) → t ≡ false → n ≡ 0 → one_if t + n ≡ 0
none_more true n e z = absurd (cc)
none_more false n e z = omega arith

none_fails : (plans : ℕ → PlanView) → ((d : ℕ) → ListsNone (plans d)) → (es : List Event) (reads writes : ℕ → ℕ) → ((d : ℕ) → IsPlannedFrom d (failing (plans d)) (reads d) (writes d) es) → failures es ≡ 0
none_fails plans none [] reads writes p = refl
none_fails plans none (e ∷ es) reads writes p =
    let first = good_by plans none e (λ d. (reads d + 1, (p d).0)) (λ d. (writes d + 1, (p d).1)) in
    let rest = none_fails plans none es (λ d. reads d + one_if (is_some (read_of d e))) (λ d. writes d + one_if (is_some (write_of d e))) (λ d. (p d).2) in
    none_more (is_failure e) (failures es) first rest

pub spared : (plans : ℕ → PlanView) (events : List Event) → ((d : ℕ) → ListsNone (plans d)) → FailAsPlanned plans events → failures events ≡ 0
spared plans events none p = none_fails plans none events (λ d. (plans d).reads) (λ d. (plans d).writes) p

-- ---- nothing fails

abbrev Fits : Bool → Event → Type 0
Fits s e = is_failure e ≡ false

not_false : (b : Bool) → not b ≡ false → b ≡ true
not_false true e = refl
not_false false e = sym e

abbrev told : Bool → Page → Option (Bool × List ℕ)
told good page = Some (good, page)

told_good : (good : Bool) (page : Page) → not good ≡ false → IsLeft good page → told good page ≡ told true []
told_good good page e l =
    let g = not_false good e in
    ap (told good) (l.ok g) ∙ ap (λ (b : Bool). told b []) g

told_read : (good : Bool) → not good ≡ false → told good [] ≡ told true []
told_read good e = ap (λ (b : Bool). told b []) (not_false good e)

good_told : (c : Core) (e : Event) → May c e → is_homecoming e ≡ true → is_failure e ≡ false → told_by e ≡ told true []
good_told c (FillIn actor die good) m p f = told_read good f
good_told c (FlushIn actor die good left) m p f = told_good good left f m.left_is
good_told c (MetaIn actor die good left) m p f = told_good good left f m.left_is
good_told c e m p f = absurd (cc)

decides : Decides Fits
decides s c e f m n p q w te tf = good_told c e m p te ∙ sym (good_told c f n q tf)

abbrev next : Bool → Event → Bool
next s e = s

none_of : (t : Bool) (n : ℕ) → one_if t + n ≡ 0 → (t ≡ false) × (n ≡ 0)
none_of true n e = absurd (omega arith)
none_of false n e = (refl, omega arith)

said_of : (es : List Event) (s : Bool) → failures es ≡ 0 → AsSaid next Fits decides s es
said_of [] s z = tt
said_of (e ∷ es) s z = let k = none_of (is_failure e) (failures es) z in (k.0, said_of es s k.1)

pub same_faultless : (encode : Core → ℕ → Page) (c0 c1 c2 : Core) (script : Script) (last : Bool) (es fs : List Event) → OpeningFrames c0.shape → length script.lanes ≡ c0.shape.lanes → Coherent c0 → IsFresh c0 →
    SoloRun encode c0 script last es c1 → failures es ≡ 0 → SoloRun encode c0 script last fs c2 → failures fs ≡ 0 → starved_of es ≡ starved_of fs → es ≡ fs
same_faultless encode c0 c1 c2 script last es fs f wide h fresh a za b zb same =
    run_same next Fits decides encode true c0 c1 c2 script last es fs f wide h fresh a (said_of es true za) b (said_of fs true zb) same
