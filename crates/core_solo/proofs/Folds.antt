-- Runs of steps grow at their end, and so do calls and lines.
use Rattle.std.proofs.Common.{◌≡◌, ℕ, List, [], ◌∷◌, ◌++◌, refl, sym, ap, ◌∙◌, subst, append_assoc}
use Rattle.core_state.specs.declared.event.Event.{Event}
use Rattle.core_state.specs.State.{Page, Core}
use Rattle.core_state.specs.Happens.{after}
use Rattle.core_state.specs.Happens.{after_all}
use Rattle.core_solo.specs.Solo.{Steps, SoloLine, SoloLines, Script}

pub after_both : (xs ys : List Event) (c : Core) → after_all c (xs ++ ys) ≡ after_all (after_all c xs) ys
after_both [] ys c = refl
after_both (x ∷ xs) ys c = after_both xs ys (after c x)

pub append : (R : Core → Event → Type 0) (xs ys : List Event) (c : Core) → Steps R c xs → Steps R (after_all c xs) ys → Steps R c (xs ++ ys)
append R [] ys c s t = t
append R (x ∷ xs) ys c s t = (s.0, append R xs ys (after c x) s.1 t)

pub weaken : (R S : Core → Event → Type 0) → ((c : Core) (e : Event) → R c e → S c e) → (es : List Event) (c : Core) → Steps R c es → Steps S c es
weaken R S k [] c s = tt
weaken R S k (e ∷ es) c s = (k c e s.0, weaken R S k es (after c e) s.1)

append_nil : (xs : List Event) → xs ++ [] ≡ xs
append_nil [] = refl
append_nil (x ∷ xs) = ap (λ (ys : List Event). x ∷ ys) (append_nil xs)

-- one line more
pub lines_more : (encode : Core → ℕ → Page) (script : Script) (lines : List (ℕ × ℕ)) (line : ℕ × ℕ) (es own : List Event) (c : Core) → SoloLines encode c script lines es → SoloLine encode (after_all c es) script line own →
    SoloLines encode c script (lines ++ line ∷ []) (es ++ own)
lines_more encode script [] line es own c none more =
    subst (λ (xs : List Event). SoloLines encode c script (line ∷ []) (xs ++ own)) (sym none)
    (own, [], sym (append_nil own), subst (λ (xs : List Event). SoloLine encode (after_all c xs) script line own) none more, refl)
lines_more encode script (first ∷ lines) line es own c s more =
    let at : after_all c es ≡ after_all (after_all c s.0) s.1 = ap (after_all c) s.2 ∙ after_both s.0 s.1 c in (
      s.0,
      s.1 ++ own,
      ap (λ (xs : List Event). xs ++ own) s.2 ∙ append_assoc s.0 s.1 own,
      s.3,
      lines_more encode script lines line s.1 own (after_all c s.0) s.4 (subst (λ (k : Core). SoloLine encode k script line own) at more),
    )
