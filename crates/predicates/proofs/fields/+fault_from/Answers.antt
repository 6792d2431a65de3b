use Rattle.std.proofs.Common.{◌+◌, refl, ap, ◌∙◌, arith}
use Rattle.predicates.specs.declared.pred.Pred.{Pred}
use Rattle.predicates.specs.declared.pred.Pred.TheVariants.{And, Or, Not}
use Rattle.predicates.specs.Nodes.{nodes, preorder}
use Rattle.predicates.specs.Fields.{first_unsound}
use Rattle.predicates.proofs.NodeLaws.{nodes-and, nodes-or, nodes-not, preorder-and, preorder-or, preorder-not}
use Rattle.predicates.proofs.FieldLaws.{left_has_it, right_is_left, one_part}
use Rattle.predicates.proofs.fields.+fault_from.Goals as goal

pub overflow_add-node : goal.overflow_add-node
overflow_add-node t c = let n = ap nodes c.in-And.is ∙ nodes-and c.in-And.a c.in-And.b in omega (arith, n)

pub fault_from-requires : goal.fault_from-requires
fault_from-requires t c =
    let n = ap nodes c.in-And.is ∙ nodes-and c.in-And.a c.in-And.b in
    let a = ap nodes c.get.ensures in
    (omega (arith, n, a), omega (arith, n, a))

pub behind-requires : goal.behind-requires
behind-requires t c =
    let n = ap nodes c.in-And.is ∙ nodes-and c.in-And.a c.in-And.b in
    let a = ap nodes c.get-in-None-2.ensures in
    omega (arith, n, a)

pub fault_from-requires-in-None : goal.fault_from-requires-in-None
fault_from-requires-in-None t c =
    let n = ap nodes c.in-And.is ∙ nodes-and c.in-And.a c.in-And.b in
    let a = ap nodes c.get-in-None-2.ensures in
    let b = ap nodes c.get-in-None.ensures in
    (omega (arith, n, b), omega (arith, n, a, b, c.behind.ensures))

pub overflow_add-node-in-Or : goal.overflow_add-node-in-Or
overflow_add-node-in-Or t c = let n = ap nodes c.in-Or.is ∙ nodes-or c.in-Or.a c.in-Or.b in omega (arith, n)

pub fault_from-requires-in-Or : goal.fault_from-requires-in-Or
fault_from-requires-in-Or t c =
    let n = ap nodes c.in-Or.is ∙ nodes-or c.in-Or.a c.in-Or.b in
    let a = ap nodes c.get-in-Or.ensures in
    (omega (arith, n, a), omega (arith, n, a))

pub behind-requires-in-None-fault_from : goal.behind-requires-in-None-fault_from
behind-requires-in-None-fault_from t c =
    let n = ap nodes c.in-Or.is ∙ nodes-or c.in-Or.a c.in-Or.b in
    let a = ap nodes c.get-in-None-fault_from-2.ensures in
    omega (arith, n, a)

pub fault_from-requires-in-None-fault_from : goal.fault_from-requires-in-None-fault_from
fault_from-requires-in-None-fault_from t c =
    let n = ap nodes c.in-Or.is ∙ nodes-or c.in-Or.a c.in-Or.b in
    let a = ap nodes c.get-in-None-fault_from-2.ensures in
    let b = ap nodes c.get-in-None-fault_from.ensures in
    (omega (arith, n, b), omega (arith, n, a, b, c.behind-in-None-fault_from.ensures))

pub overflow_add-node-in-Not : goal.overflow_add-node-in-Not
overflow_add-node-in-Not t c = let n = ap nodes c.in-Not.is ∙ nodes-not c.in-Not.a in omega (arith, n)

pub fault_from-requires-in-Not : goal.fault_from-requires-in-Not
fault_from-requires-in-Not t c =
    let n = ap nodes c.in-Not.is ∙ nodes-not c.in-Not.a in
    let a = ap nodes c.get-in-Not.ensures in
    (omega (arith, n, a), omega (arith, n, a))

pub returns-in-None : goal.returns-in-None
returns-in-None t c =
    let w = c.args.width in
    right_is_left w c.args.node c.behind.result c.args.pred.now (And c.in-And.a c.in-And.b) c.in-And.a c.in-And.b c.fault_from.result _ refl (ap preorder c.in-And.is ∙ preorder-and c.in-And.a c.in-And.b)
    (c.fault_from.ensures ∙ ap (λ (p : Pred). first_unsound w (c.args.node + 1) (preorder p)) c.get.ensures) c.in-None.is
    (c.behind.ensures ∙ ap (λ (p : Pred). c.args.node + 1 + nodes p) c.get-in-None-2.ensures)
    (c.fault_from-in-None.ensures ∙ ap (λ (p : Pred). first_unsound w c.behind.result (preorder p)) c.get-in-None.ensures)

pub returns-in_default : goal.returns-in_default
returns-in_default t c =
    left_has_it c.args.width c.args.node c.args.pred.now (And c.in-And.a c.in-And.b) c.in-And.a c.in-And.b c.fault_from.result refl (ap preorder c.in-And.is ∙ preorder-and c.in-And.a c.in-And.b)
    (c.fault_from.ensures ∙ ap (λ (p : Pred). first_unsound c.args.width (c.args.node + 1) (preorder p)) c.get.ensures) c.in_default.not-None

pub returns-in-None-fault_from : goal.returns-in-None-fault_from
returns-in-None-fault_from t c =
    let w = c.args.width in
    right_is_left w c.args.node c.behind-in-None-fault_from.result c.args.pred.now (Or c.in-Or.a c.in-Or.b) c.in-Or.a c.in-Or.b c.fault_from-in-Or.result _ refl (ap preorder c.in-Or.is ∙ preorder-or c.in-Or.a c.in-Or.b)
    (c.fault_from-in-Or.ensures ∙ ap (λ (p : Pred). first_unsound w (c.args.node + 1) (preorder p)) c.get-in-Or.ensures) c.in-None-fault_from.is
    (c.behind-in-None-fault_from.ensures ∙ ap (λ (p : Pred). c.args.node + 1 + nodes p) c.get-in-None-fault_from-2.ensures)
    (c.fault_from-in-None-fault_from.ensures ∙ ap (λ (p : Pred). first_unsound w c.behind-in-None-fault_from.result (preorder p)) c.get-in-None-fault_from.ensures)

pub returns-in_default-fault_from : goal.returns-in_default-fault_from
returns-in_default-fault_from t c =
    left_has_it c.args.width c.args.node c.args.pred.now (Or c.in-Or.a c.in-Or.b) c.in-Or.a c.in-Or.b c.fault_from-in-Or.result refl (ap preorder c.in-Or.is ∙ preorder-or c.in-Or.a c.in-Or.b)
    (c.fault_from-in-Or.ensures ∙ ap (λ (p : Pred). first_unsound c.args.width (c.args.node + 1) (preorder p)) c.get-in-Or.ensures) c.in_default-fault_from.not-None

pub returns-in-Not : goal.returns-in-Not
returns-in-Not t c =
    one_part c.args.width c.args.node c.args.pred.now (Not c.in-Not.a) c.in-Not.a _ refl (ap preorder c.in-Not.is ∙ preorder-not c.in-Not.a)
    (c.fault_from-in-Not.ensures ∙ ap (λ (p : Pred). first_unsound c.args.width (c.args.node + 1) (preorder p)) c.get-in-Not.ensures)
