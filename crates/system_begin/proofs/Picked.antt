-- The side of a call: its counts and what is known of its function.
use Rattle.std.proofs.Common.{◌≡◌, ℕ, zero, suc, ◌+◌, ◌<◌, ◌≤◌, Bool, true, false, List, [], ◌∷◌, Option, Some, None, refl, sym, ap, ◌∙◌, subst, length, arith}
use Rattle.std.specs.Prelude.{◌^◌, ◌||◌, map, bytes_eq, option_map, if◌then◌else◌, All}
use Rattle.std.specs.List.{find}
use Rattle.core_lemmas.proofs.Views.{find_map}
use Rattle.core_state.specs.State.{Function}
use Rattle.core_state.specs.Reach.{function_by}
use Rattle.core_state.specs.PlainOf.{e_or_none}
use Rattle.system_state.specs.Cores.{function_of}
use Rattle.system_state.specs.declared.state.Function.{Function as FunctionRow}
use Rattle.call_checks.specs.Checks as checks

abbrev pub e_of : Option FunctionRow → ℕ
e_of None = 0
e_of (Some f) = f.profile.e

mapped : (o : Option FunctionRow) → e_or_none (option_map function_of o) ≡ e_of o
mapped None = refl
mapped (Some f) = refl

pub e_found : (rows : List FunctionRow) (w : List ℕ) (o : Option FunctionRow) → o ≡ checks.function_by rows w → e_of o ≡ e_or_none (function_by (map function_of rows) (Some w))
e_found rows w o e = ap e_of e ∙ (sym (mapped (checks.function_by rows w)) ∙ ap e_or_none (sym (find_map function_of (λ (f : Function). bytes_eq f.name w) rows)))

-- what holds of all holds of what is found
pub found_all : {A : Type 0} (P : A → Type 0) (test : A → Bool) (xs : List A) (x : A) → All P xs → find test xs ≡ Some x → P x
found_all P test [] x h e = absurd (cc)
found_all {A} P test (y ∷ ys) x h e = go (test y) e (λ g. found_all P test ys x (λ k d l. h (suc k) d (omega arith)) g)
  where
    go : (t : Bool) → (if t then Some y else find test ys) ≡ Some x → (find test ys ≡ Some x → P x) → P x
    go true g r = let s : y ≡ x = cc in subst P s (h 0 y (omega arith))
    go false g r = r g
