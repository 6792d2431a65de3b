use Rattle.std.proofs.Common.{ap, sym, ◌∙◌}
use Rattle.std.specs.List.{position, remove}
use Rattle.plain_files.specs.Plain.{State, is_function}
use Rattle.plain_run.proofs.Places.{function_removed, nowhere}
use Rattle.plain_run.proofs.plain.Plain.unload.Goals as goal

pub unreachable-requires : goal.unreachable-requires
unreachable-requires c =
    let same = c.deref.ensures.value ∙ ap (λ (s : State). s.functions) c.self.view_is in
    nowhere (is_function c.args.name.now) c.args.self.now.functions (c.in-None.ensures ∙ ap (λ n. position (is_function n) c.deref.result.now) c.as_slice.ensures ∙ ap (λ fs. position (is_function c.args.name.now) fs) same) c.requires

pub returns-clause-state : goal.returns-clause-state
returns-clause-state c =
    let same = c.deref.ensures.value ∙ ap (λ (s : State). s.functions) c.self.view_is in
    let removed = function_removed c.args.name.now c.args.self.now.functions c.in-Some.i (c.in-Some.ensures ∙ ap (λ n. position (is_function n) c.deref.result.now) c.as_slice.ensures ∙ ap (λ fs. position (is_function c.args.name.now) fs) same) in
    let gone = c.remove.ensures.items ∙ ap (λ fs. remove fs c.in-Some.i) (ap (λ (s : State). s.functions) c.self.view_is) ∙ sym removed in
    ap (λ (s : State). record s { functions = c.remove.new.self.items }) c.self.view_is ∙ ap (λ fs. record c.args.self.now { functions = fs }) gone
