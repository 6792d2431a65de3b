use Rattle.std.proofs.Common.{◌≡◌, ◌+◌, ◌*◌, ◌<◌, ◌≤◌, ◌^◌, true, ℕ, ap, sym, ◌∙◌, arith}
use Rattle.predicates.specs.declared.pred.Pred.{Pred}
use Rattle.predicates.specs.declared.pred.Pred.TheVariants.{And, Or, Not}
use Rattle.predicates.specs.Nodes.{nodes}
use Rattle.predicates.specs.Fields.{fields_fit}
use Rattle.predicates.proofs.NodeLaws.{nodes-and, nodes-or, nodes-not}
use Rattle.predicates.proofs.FieldLaws.{fit-and, fit-or, fit-not}
use Rattle.pred_compile.specs.Generated.{code_slots, pred_code}
use Rattle.pred_compile.proofs.Emitted.{slots-and, slots-or, slots-not, and_parts, or_parts, not_part, joined, renamed}
use Rattle.pred_compile.proofs.emitting.+code_slots.Goals as goal

pub code_slots-requires : goal.code_slots-requires
code_slots-requires t c =
    let n = ap nodes c.in-And.is ∙ nodes-and c.in-And.a c.in-And.b in
    let a = ap nodes c.get.ensures in
    (omega (arith, n, a), omega (arith, n, a, c.requires))

pub code_slots-requires-in-And : goal.code_slots-requires-in-And
code_slots-requires-in-And t c =
    let n = ap nodes c.in-And.is ∙ nodes-and c.in-And.a c.in-And.b in
    let b = ap nodes c.get-in-And.ensures in
    (omega (arith, n, b), omega (arith, n, b, c.requires))

pub overflow_add-result : goal.overflow_add-result
overflow_add-result t c =
    let n = ap nodes c.in-And.is ∙ nodes-and c.in-And.a c.in-And.b in
    omega (arith, n, ap nodes c.get.ensures, ap nodes c.get-in-And.ensures, c.code_slots.ensures.few, c.code_slots-in-And.ensures.few, c.requires)

pub code_slots-requires-in-Or : goal.code_slots-requires-in-Or
code_slots-requires-in-Or t c =
    let n = ap nodes c.in-Or.is ∙ nodes-or c.in-Or.a c.in-Or.b in
    let a = ap nodes c.get-in-Or.ensures in
    (omega (arith, n, a), omega (arith, n, a, c.requires))

pub code_slots-requires-in-Or-2 : goal.code_slots-requires-in-Or-2
code_slots-requires-in-Or-2 t c =
    let n = ap nodes c.in-Or.is ∙ nodes-or c.in-Or.a c.in-Or.b in
    let b = ap nodes c.get-in-Or-2.ensures in
    (omega (arith, n, b), omega (arith, n, b, c.requires))

pub overflow_add-result-in-Or : goal.overflow_add-result-in-Or
overflow_add-result-in-Or t c =
    let n = ap nodes c.in-Or.is ∙ nodes-or c.in-Or.a c.in-Or.b in
    omega (arith, n, ap nodes c.get-in-Or.ensures, ap nodes c.get-in-Or-2.ensures, c.code_slots-in-Or.ensures.few, c.code_slots-in-Or-2.ensures.few, c.requires)

pub code_slots-requires-in-Not : goal.code_slots-requires-in-Not
code_slots-requires-in-Not t c =
    let n = ap nodes c.in-Not.is ∙ nodes-not c.in-Not.a in
    let a = ap nodes c.get-in-Not.ensures in
    (omega (arith, n, a), omega (arith, n, a, c.requires))

pub returns-in-And-clause-is : goal.returns-in-And-clause-is
returns-in-And-clause-is t c =
    let s = ap code_slots c.in-And.is ∙ slots-and c.in-And.a c.in-And.b in
    omega (arith, s, c.code_slots.ensures.is, ap code_slots c.get.ensures, c.code_slots-in-And.ensures.is, ap code_slots c.get-in-And.ensures)

pub returns-in-And-clause-few : goal.returns-in-And-clause-few
returns-in-And-clause-few t c =
    let n = ap nodes c.in-And.is ∙ nodes-and c.in-And.a c.in-And.b in
    omega (arith, n, ap nodes c.get.ensures, ap nodes c.get-in-And.ensures, c.code_slots.ensures.few, c.code_slots-in-And.ensures.few)

pub returns-in-Or-clause-is : goal.returns-in-Or-clause-is
returns-in-Or-clause-is t c =
    let s = ap code_slots c.in-Or.is ∙ slots-or c.in-Or.a c.in-Or.b in
    omega (arith, s, c.code_slots-in-Or.ensures.is, ap code_slots c.get-in-Or.ensures, c.code_slots-in-Or-2.ensures.is, ap code_slots c.get-in-Or-2.ensures)

pub returns-in-Or-clause-few : goal.returns-in-Or-clause-few
returns-in-Or-clause-few t c =
    let n = ap nodes c.in-Or.is ∙ nodes-or c.in-Or.a c.in-Or.b in
    omega (arith, n, ap nodes c.get-in-Or.ensures, ap nodes c.get-in-Or-2.ensures, c.code_slots-in-Or.ensures.few, c.code_slots-in-Or-2.ensures.few)

pub returns-in-Not-clause-is : goal.returns-in-Not-clause-is
returns-in-Not-clause-is t c =
    c.code_slots-in-Not.ensures.is ∙ ap code_slots c.get-in-Not.ensures ∙ sym (ap code_slots c.in-Not.is ∙ slots-not c.in-Not.a)

pub returns-in-Not-clause-few : goal.returns-in-Not-clause-few
returns-in-Not-clause-few t c =
    let n = ap nodes c.in-Not.is ∙ nodes-not c.in-Not.a in
    omega (arith, n, ap nodes c.get-in-Not.ensures, c.code_slots-in-Not.ensures.few)
