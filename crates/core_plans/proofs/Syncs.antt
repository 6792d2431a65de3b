-- The events of the last sync, one after the other.
use Rattle.std.proofs.Common.{◌≡◌, ℕ, Bool, true, false, List, [], ◌∷◌, ◌++◌, Some, refl, sym, ap, ◌∙◌, subst, inl, inr, ⊎_elim}
use Rattle.std.specs.Prelude.{◌⊎◌, IfSome}
use Rattle.core_state.specs.declared.actor.Actor.{Actor}
use Rattle.core_state.specs.declared.actor.Actor.TheVariants.{Closer}
use Rattle.core_state.specs.declared.event.Event.{Event}
use Rattle.core_state.specs.declared.event.Event.TheVariants.{Enter, Leave, Quick, Skip, Begin, Copy, Take, DieOut, FillIn, Submit, Fetch, Report, End, Evict, Demote, FlushOut, FlushIn, MetaIn}
use Rattle.core_state.specs.declared.event.Purpose.TheVariants.{Fill, Meta}
use Rattle.core_state.specs.State.{Page, Out, Core}
use Rattle.core_state.specs.Coherent.{Coherent}
use Rattle.core_state.specs.Happens.{HoldsNone, Happens, actor_of, is_homecoming, after, after_all}
use Rattle.core_state.specs.History.{is_failure}
use Rattle.core_solo.specs.Solo.{Chosen, Steps, IsSyncNext, IsSyncStep, IsStored, SyncEnds, SyncFails, SoloSync, sync_event}
use Rattle.core_solo.specs.Settling.{IsSettling}
use Rattle.core_solo.specs.Served.{told_by}
use Rattle.core_lemmas.proofs.Words.{same_some}
use Rattle.core_solo.proofs.Rooms.{AllHome}
use Rattle.core_solo.proofs.Goes.{at_home_out}
use Rattle.core_solo.proofs.Closing.{free_home, step_settles}
use Rattle.core_solo.proofs.Closing as closing
use Rattle.core_solo.proofs.Same.{two_home, tells_home}

pub sync_finds : (encode : Core → ℕ → Page) (c : Core) (e : Event) → IsSettling c → IsSyncNext encode c e → Happens c e (after c e) → is_homecoming e ≡ false → AllHome c
sync_finds encode c e s next k n = go e (closing.fits_of encode c e next) (λ t. k.hands t) n
  where
    go : (e : Event) → closing.Fits e → (is_homecoming e ≡ false → HoldsNone c (actor_of e)) → is_homecoming e ≡ false → AllHome c
    go (DieOut actor die (Fill l i)) f hands n = absurd f
    go (DieOut actor die (Meta m bytes)) f hands n = free_home c s (subst (λ (a : Actor). HoldsNone c a) f (hands n))
    go (FlushOut actor die b) f hands n = free_home c s (subst (λ (a : Actor). HoldsNone c a) f (hands n))
    go (FillIn actor die good) f hands n = absurd (cc)
    go (FlushIn actor die good left) f hands n = absurd (cc)
    go (MetaIn actor die good left) f hands n = absurd (cc)
    go (Enter l) f hands n = absurd f
    go (Leave l) f hands n = absurd f
    go (Quick l asked reply) f hands n = absurd f
    go (Skip l asked fault) f hands n = absurd f
    go (Begin l asked side) f hands n = absurd f
    go (Copy actor l i) f hands n = absurd f
    go (Take actor l i) f hands n = absurd f
    go (Submit l) f hands n = absurd f
    go (Fetch worker l) f hands n = absurd f
    go (Report worker l) f hands n = absurd f
    go (End l asked reply) f hands n = absurd f
    go (Evict actor side b) f hands n = absurd f
    go (Demote actor b) f hands n = absurd f

pub same_sync_next : (encode : Core → ℕ → Page) (c : Core) (a : Bool × List ℕ) (e f : Event) → Coherent c → IsSettling c → IsSyncNext encode c e → IsSyncNext encode c f → Happens c e (after c e) → Happens c f (after c f) →
    IfSome (told_by e) (λ b. b ≡ a) → IfSome (told_by f) (λ b. b ≡ a) → e ≡ f
same_sync_next encode c a e f h s ne nf se sf te tf = go (is_homecoming e) refl (is_homecoming f) refl
  where
    one : (d k : ℕ) (x y : Out) → (c.dies d).out ≡ Some x → (c.dies k).out ≡ Some y → (d ≡ k) × (x ≡ y)
    one d k x y p q =
        let w = h.dies.one_each d k x y p q (s.holder d x p ∙ sym (s.holder k y q)) in
        (w, same_some (c.dies k).out x y (ap (λ (j : ℕ). (c.dies j).out) (sym w) ∙ p) q)

    next_of : (g : Event) → IsSyncNext encode c g → is_homecoming g ≡ false → sync_event encode c Closer c.closer ≡ Some g
    next_of g n t = subst (λ (b : Bool). Chosen b (actor_of g ≡ Closer) (sync_event encode c Closer c.closer ≡ Some g)) t n

    not_both : (g k : Event) → IsSyncNext encode c g → Happens c g (after c g) → Happens c k (after c k) → is_homecoming g ≡ false → is_homecoming k ≡ true → ⊥
    not_both g k n x y p q = let home = sync_finds encode c g s n x p in let z = at_home_out c k home y in cc

    go : (t : Bool) → is_homecoming e ≡ t → (u : Bool) → is_homecoming f ≡ u → e ≡ f
    go true p true q = two_home c a one e f se.may sf.may p q (tells_home e a p te) (tells_home f a q tf)
    go true p false q = absurd (not_both f e nf sf se q p)
    go false p true q = absurd (not_both e f ne se sf p q)
    go false p false q = same_some (sync_event encode c Closer c.closer) e f (next_of e ne p) (next_of f nf q)

-- the first event of a last sync, and what comes then
pub record FirstOf (encode : Core → ℕ → Page) (c : Core) (e : Event) (es : List Event) : Type 0 where
  pub next : IsSyncNext encode c e
  pub later : ((is_failure e ≡ true) × (es ≡ [])) ⊎ ((is_failure e ≡ false) × SoloSync encode (after c e) es)

first_of_ends : (encode : Core → ℕ → Page) (c : Core) (e : Event) (es : List Event) → SyncEnds encode c (e ∷ es) → FirstOf encode c e es
first_of_ends encode c e es k = record { next = k.steps.0.next; later = inr (k.steps.0.good, inl (record { steps = k.steps.1; stored = k.stored })) }

cons_same : (e f : Event) (es fs : List Event) → e ∷ es ≡ f ∷ fs → (e ≡ f) × (es ≡ fs)
cons_same e f es fs q = (cc, cc)

first_of_fails : (encode : Core → ℕ → Page) (c : Core) (e : Event) (es : List Event) → SyncFails encode c (e ∷ es) → FirstOf encode c e es
first_of_fails encode c e es k = go k.most k.whole k.steps k.next
  where
    go : (most : List Event) → e ∷ es ≡ most ++ k.last ∷ [] → Steps (IsSyncStep encode) c most → IsSyncNext encode (after_all c most) k.last → FirstOf encode c e es
    go [] w s n =
        let q = cons_same e k.last es [] w in
        record { next = subst (IsSyncNext encode c) (sym q.0) n; later = inl (ap is_failure q.0 ∙ k.failed, q.1) }
    go (x ∷ most) w s n =
        let q = cons_same e x es (most ++ k.last ∷ []) w in
        record {
          next = subst (IsSyncNext encode c) (sym q.0) s.0.next;
          later = inr (ap is_failure q.0 ∙ s.0.good, inr (record { most = most; last = k.last; whole = q.1; steps = subst (λ (g : Event). Steps (IsSyncStep encode) (after c g) most) (sym q.0) s.1; next = subst (λ (g : Event). IsSyncNext encode (after_all (after c g) most) k.last) (sym q.0) n; failed = k.failed }));
        }

pub first_of : (encode : Core → ℕ → Page) (c : Core) (e : Event) (es : List Event) → SoloSync encode c (e ∷ es) → FirstOf encode c e es
first_of encode c e es s = ⊎_elim (λ k. first_of_ends encode c e es k) (λ k. first_of_fails encode c e es k) s

pub none_of : (encode : Core → ℕ → Page) (c : Core) → SoloSync encode c [] → IsStored c
none_of encode c s = ⊎_elim (λ (k : SyncEnds encode c []). k.stored) (λ (k : SyncFails encode c []). absurd (go k.most k.last k.whole)) s
  where
    go : (most : List Event) (x : Event) → [] ≡ most ++ x ∷ [] → ⊥
    go [] x e = cc
    go (y ∷ most) x e = cc
