-- Actors are told apart.
use Rattle.std.proofs.Common.{◌≡◌, ℕ, Bool, true, false, Option, Some, None, refl, ap, ◌∙◌, arith}
use Rattle.std.specs.Prelude.{◌≢◌, ◌==◌, ◌||◌}
use Rattle.std.proofs.lemmas.Bool.Decides.{nat_tests}
use Rattle.core_quick.specs.Actor.{Actor}
use Rattle.core_quick.specs.Actor.TheVariants.{Lane, Worker, Flusher, Closer}
use Rattle.core_quick.specs.State.{Phase, Out}
use Rattle.core_quick.specs.Dies.{owner}
use Rattle.core_quick.specs.Hold.{is_actor, is_some_actor, is_owner, sees}

differs : (x y : ℕ) → x ≢ y → (x == y) ≡ false
differs x y n = grind (arith, nat_tests)

same : (x : ℕ) → (x == x) ≡ true
same x = grind (arith, nat_tests)

pub not_actor : (a b : Actor) → a ≢ b → is_actor a b ≡ false
not_actor (Lane x) (Lane y) n = differs x y (λ e. n (ap (λ (k : ℕ). Lane k) e))
not_actor (Worker x) (Worker y) n = differs x y (λ e. n (ap (λ (k : ℕ). Worker k) e))
not_actor (Flusher x) (Flusher y) n = differs x y (λ e. n (ap (λ (k : ℕ). Flusher k) e))
not_actor Closer Closer n = absurd (n refl)
not_actor a b n = refl

pub is_itself : (a : Actor) → is_actor a a ≡ true
is_itself (Lane x) = same x
is_itself (Worker x) = same x
is_itself (Flusher x) = same x
is_itself Closer = refl

-- an actor that isn't the owner of a call
pub not_owner : (a b : Actor) (lane : ℕ) (phase : Phase) → owner lane phase ≡ Some b → a ≢ b → is_owner a lane phase ≡ false
not_owner a b lane phase e n = ap (is_some_actor a) e ∙ not_actor a b n

-- and of a call that nobody owns
pub unowned : (a : Actor) (lane : ℕ) (phase : Phase) → owner lane phase ≡ None → is_owner a lane phase ≡ false
unowned a lane phase e = ap (is_some_actor a) e

or_both : (s t : Bool) → s ≡ false → t ≡ false → (s || t) ≡ false
or_both s t e f = cc

-- who is neither the call's lane nor its owner does not see it
pub not_seeing : (a : Actor) (lane : ℕ) (phase : Phase) → a ≢ Lane lane → is_owner a lane phase ≡ false → sees a lane phase ≡ false
not_seeing a lane phase n e = or_both (is_actor a (Lane lane)) (is_owner a lane phase) (not_actor a (Lane lane) n) e

or_left : (s t : Bool) → s ≡ true → (s || t) ≡ true
or_left s t e = ap (λ (u : Bool). u || t) e

-- a lane sees its call
pub lane_sees : (lane : ℕ) (phase : Phase) → sees (Lane lane) lane phase ≡ true
lane_sees lane phase = or_left (is_actor (Lane lane) (Lane lane)) (is_owner (Lane lane) lane phase) (is_itself (Lane lane))

-- ---- dies

abbrev pub held_by : Actor → Option Out → Bool
held_by a None = false
held_by a (Some out) = is_actor a out.holder

pub not_held : (a : Actor) (o : Option Out) → o ≡ None → held_by a o ≡ false
not_held a o e = ap (held_by a) e

pub held_by_other : (a : Actor) (o : Option Out) (out : Out) → o ≡ Some out → a ≢ out.holder → held_by a o ≡ false
held_by_other a o out e n = ap (held_by a) e ∙ not_actor a out.holder n
