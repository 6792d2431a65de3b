-- A homecoming may be answered as the plans say.
use Rattle.std.proofs.Common.{◌≡◌, ℕ, ◌+◌, Bool, true, false, [], Option, Some, None, length, refl, ap, arith}
use Rattle.std.specs.Prelude.{IfSome, not, ◌==◌, ◌&&◌, if◌then◌else◌}
use Rattle.std.proofs.lemmas.Bool.Decides.{nat_tests}
use Rattle.edge_io.specs.Memory.{is_listed}
use Rattle.flash_die.specs.Dies.{PlanView}
use Rattle.core_state.specs.declared.actor.Actor.{Actor}
use Rattle.core_state.specs.declared.event.Event.{Event}
use Rattle.core_state.specs.declared.event.Event.TheVariants.{FillIn, FlushIn, MetaIn}
use Rattle.core_state.specs.State.{Page, Core}
use Rattle.core_state.specs.DieEvents.{IsLeft}
use Rattle.core_state.specs.Happens.{Happens, after}
use Rattle.core_state.specs.History.{IsListed}
use Rattle.core_solo.specs.Solo.{IsNextOf}
use Rattle.core_plans.proofs.Plans.{Made, Fits}

module _ (plans : ℕ → PlanView) (left : ℕ → ℕ → Page) where
  abbrev pub ok_read : Made → ℕ → Bool
  ok_read s d = not (is_listed (s.reads d + 1) (plans d).failing_reads)

  abbrev pub ok_write : Made → ℕ → Bool
  ok_write s d = not (is_listed (s.writes d + 1) (plans d).failing_writes)

  abbrev pub left_at : Made → ℕ → Bool → Page
  left_at s d good = if good then [] else left d (s.writes d + 1)

  -- the same homecoming, as the plans have it
  abbrev pub answered : Made → Event → Event
  answered s (FillIn actor die good) = FillIn actor die (ok_read s die)
  answered s (FlushIn actor die good bytes) = FlushIn actor die (ok_write s die) (left_at s die (ok_write s die))
  answered s (MetaIn actor die good bytes) = MetaIn actor die (ok_write s die) (left_at s die (ok_write s die))
  answered s e = e

  left_is : ((d n : ℕ) → length (left d n) ≡ 4096) → (s : Made) (d : ℕ) (good : Bool) → IsLeft good (left_at s d good)
  left_is whole s d true = record { ok = λ e. refl; failed = λ e. absurd (cc) }
  left_is whole s d false = record { ok = λ e. absurd (cc); failed = λ e. whole d (s.writes d + 1) }

  pub still_next : (s : Made) (actor : Actor) (next : Option Event) (e : Event) → IsNextOf actor next e → IsNextOf actor next (answered s e)
  still_next s actor next (FillIn a die good) n = n
  still_next s actor next (FlushIn a die good bytes) n = n
  still_next s actor next (MetaIn a die good bytes) n = n
  still_next s actor next e n = n

  pub still_happens : ((d n : ℕ) → length (left d n) ≡ 4096) → (s : Made) (c : Core) (e : Event) → Happens c e (after c e) → Happens c (answered s e) (after c (answered s e))
  still_happens whole s c (FillIn a die good) h = record { hands = λ e. absurd (cc); closing = h.closing; may = h.may; leaves = refl }
  still_happens whole s c (FlushIn a die good bytes) h = record {
    hands = λ e. absurd (cc);
    closing = h.closing;
    may = record { b = h.may.b; version = h.may.version; page = h.may.page; out = h.may.out; left_is = left_is whole s die (ok_write s die) };
    leaves = refl;
  }
  still_happens whole s c (MetaIn a die good bytes) h = record {
    hands = λ e. absurd (cc);
    closing = h.closing;
    may = record { number = h.may.number; bytes = h.may.bytes; out = h.may.out; left_is = left_is whole s die (ok_write s die) };
    leaves = refl;
  }
  still_happens whole s c e h = h

  same_die : (a b : ℕ) → (a == b) ≡ true → a ≡ b
  same_die a b e = grind (arith, nat_tests)

  fits_read : (s : Made) (die d : ℕ) (t : Bool) → (die == d) ≡ t → IsListed (if t then Some (ok_read s die) else None) (s.reads d + 1) (plans d).failing_reads
  fits_read s die d true e = ap (ok_read s) (same_die die d e)
  fits_read s die d false e = tt

  fits_write : (s : Made) (die d : ℕ) (t : Bool) → (die == d) ≡ t → IsListed (if t then Some (ok_write s die) else None) (s.writes d + 1) (plans d).failing_writes
  fits_write s die d true e = ap (ok_write s) (same_die die d e)
  fits_write s die d false e = tt

  fits_left : (s : Made) (die d : ℕ) (t good : Bool) → (die == d) ≡ t → IfSome (if t && not good then Some (left_at s die good) else None) (λ p. p ≡ left d (s.writes d + 1))
  fits_left s die d true true e = tt
  fits_left s die d true false e = ap (λ (k : ℕ). left k (s.writes k + 1)) (same_die die d e)
  fits_left s die d false good e = tt

  pub still_fits : (s : Made) (e : Event) → Fits plans left s (answered s e)
  still_fits s (FillIn a die good) = λ d. record { read = fits_read s die d (die == d) refl; write = tt; spoilt = tt }
  still_fits s (FlushIn a die good bytes) = λ d. record { read = tt; write = fits_write s die d (die == d) refl; spoilt = fits_left s die d (die == d) (ok_write s die) refl }
  still_fits s (MetaIn a die good bytes) = λ d. record { read = tt; write = fits_write s die d (die == d) refl; spoilt = fits_left s die d (die == d) (ok_write s die) refl }
  still_fits s e = λ d. record { read = tt; write = tt; spoilt = tt }
