use Rattle.std.proofs.Common.{ℕ, List, map, refl, sym, ap, ◌∙◌}
use Rattle.std.specs.Prelude.{bytes_eq}
use Rattle.std.specs.List.{position}
use Rattle.system_state.specs.Cores.{function_of}
use Rattle.system_state.specs.declared.state.Function.{Function}
use Rattle.system_quick.specs.Tables.{has_name}
use Rattle.system_quick.proofs.Lists.{map_without, removed_at, removed_none}
use Rattle.system_quick.proofs.functions.unload_named.Goals as goal

pub returns-in-Some-clause-functions : goal.returns-in-Some-clause-functions
returns-in-Some-clause-functions c =
    let p = λ (f : Function). bytes_eq f.name c.args.word.now in
    let at = ap (λ (w : List Function). position p w) (sym c.deref.ensures.value) ∙ (ap (λ (w : List ℕ). position (λ (f : Function). bytes_eq f.name w) c.deref.result.now) (sym c.as_slice.ensures) ∙ sym c.in-Some.ensures) in
    ap (map function_of) (c.remove.ensures.items ∙ removed_at p c.args.functions.now.items c.in-Some.i at) ∙ map_without function_of p (has_name c.args.word.now) (λ x. refl) c.args.functions.now.items

pub returns-in_default-clause-functions : goal.returns-in_default-clause-functions
returns-in_default-clause-functions c =
    let p = λ (f : Function). bytes_eq f.name c.args.word.now in
    let at = ap (λ (w : List Function). position p w) (sym c.deref.ensures.value) ∙ (ap (λ (w : List ℕ). position (λ (f : Function). bytes_eq f.name w) c.deref.result.now) (sym c.as_slice.ensures) ∙ sym c.in_default.ensures) in
    ap (map function_of) (sym (removed_none p c.args.functions.now.items at)) ∙ map_without function_of p (has_name c.args.word.now) (λ x. refl) c.args.functions.now.items
