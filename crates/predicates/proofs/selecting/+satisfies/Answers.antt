use Rattle.std.proofs.Common.{◌≡◌, Bool, true, false, sym, ap, ◌∙◌, arith, length}
use Rattle.std.specs.Prelude.{not, ◌&&◌, ◌||◌}
use Rattle.predicates.specs.declared.pred.Pred.{Pred}
use Rattle.predicates.specs.Nodes.{nodes}
use Rattle.predicates.specs.Fields.{fields_fit}
use Rattle.predicates.specs.Select.{satisfies}
use Rattle.predicates.proofs.NodeLaws.{nodes-and, nodes-or, nodes-not, satisfies-and, satisfies-or, satisfies-not}
use Rattle.predicates.proofs.FieldLaws.{fit-and, fit-or, fit-not}
use Rattle.predicates.proofs.selecting.+satisfies.Goals as goal

pub satisfies-requires : goal.satisfies-requires
satisfies-requires t c =
    let w = length c.args.bytes.now in
    (omega (arith, ap nodes c.in-And.is ∙ nodes-and c.in-And.a c.in-And.b, ap nodes c.get.ensures), ap (λ (p : Pred). fields_fit p w) c.get.ensures ∙ (fit-and c.args.pred.now c.in-And.a c.in-And.b w c.in-And.is c.requires).0)

pub satisfies-requires-then-satisfies : goal.satisfies-requires-then-satisfies
satisfies-requires-then-satisfies t c =
    let w = length c.args.bytes.now in
    (omega (arith, ap nodes c.in-And.is ∙ nodes-and c.in-And.a c.in-And.b, ap nodes c.get-then-satisfies.ensures), ap (λ (p : Pred). fields_fit p w) c.get-then-satisfies.ensures ∙ (fit-and c.args.pred.now c.in-And.a c.in-And.b w c.in-And.is c.requires).1)

pub satisfies-requires-in-Or : goal.satisfies-requires-in-Or
satisfies-requires-in-Or t c =
    let w = length c.args.bytes.now in
    (omega (arith, ap nodes c.in-Or.is ∙ nodes-or c.in-Or.a c.in-Or.b, ap nodes c.get-in-Or.ensures), ap (λ (p : Pred). fields_fit p w) c.get-in-Or.ensures ∙ (fit-or c.args.pred.now c.in-Or.a c.in-Or.b w c.in-Or.is c.requires).0)

pub satisfies-requires-else-satisfies-2 : goal.satisfies-requires-else-satisfies-2
satisfies-requires-else-satisfies-2 t c =
    let w = length c.args.bytes.now in
    (omega (arith, ap nodes c.in-Or.is ∙ nodes-or c.in-Or.a c.in-Or.b, ap nodes c.get-else-satisfies-2.ensures), ap (λ (p : Pred). fields_fit p w) c.get-else-satisfies-2.ensures ∙ (fit-or c.args.pred.now c.in-Or.a c.in-Or.b w c.in-Or.is c.requires).1)

pub satisfies-requires-in-Not : goal.satisfies-requires-in-Not
satisfies-requires-in-Not t c =
    let w = length c.args.bytes.now in
    (omega (arith, ap nodes c.in-Not.is ∙ nodes-not c.in-Not.a, ap nodes c.get-in-Not.ensures), ap (λ (p : Pred). fields_fit p w) c.get-in-Not.ensures ∙ fit-not c.args.pred.now c.in-Not.a w c.in-Not.is c.requires)

pub returns-then-satisfies : goal.returns-then-satisfies
returns-then-satisfies t c =
    let b = c.args.bytes.now in
    let left : satisfies c.in-And.a b ≡ true = sym (c.satisfies.ensures ∙ ap (λ (p : Pred). satisfies p b) c.get.ensures) ∙ c.if-satisfies.true in
    c.satisfies-then-satisfies.ensures ∙ ap (λ (p : Pred). satisfies p b) c.get-then-satisfies.ensures ∙ sym (ap (λ (p : Pred). satisfies p b) c.in-And.is ∙ satisfies-and c.in-And.a c.in-And.b b ∙ ap (λ (x : Bool). x && satisfies c.in-And.b b) left)

pub returns-else-satisfies : goal.returns-else-satisfies
returns-else-satisfies t c =
    let b = c.args.bytes.now in
    let left : satisfies c.in-And.a b ≡ false = sym (c.satisfies.ensures ∙ ap (λ (p : Pred). satisfies p b) c.get.ensures) ∙ c.if-satisfies.false in
    c.if-satisfies.false ∙ sym (ap (λ (p : Pred). satisfies p b) c.in-And.is ∙ satisfies-and c.in-And.a c.in-And.b b ∙ ap (λ (x : Bool). x && satisfies c.in-And.b b) left)

pub returns-then-satisfies-2 : goal.returns-then-satisfies-2
returns-then-satisfies-2 t c =
    let b = c.args.bytes.now in
    let left : satisfies c.in-Or.a b ≡ true = sym (c.satisfies-in-Or.ensures ∙ ap (λ (p : Pred). satisfies p b) c.get-in-Or.ensures) ∙ c.if-satisfies-2.true in
    c.if-satisfies-2.true ∙ sym (ap (λ (p : Pred). satisfies p b) c.in-Or.is ∙ satisfies-or c.in-Or.a c.in-Or.b b ∙ ap (λ (x : Bool). x || satisfies c.in-Or.b b) left)

pub returns-else-satisfies-2 : goal.returns-else-satisfies-2
returns-else-satisfies-2 t c =
    let b = c.args.bytes.now in
    let left : satisfies c.in-Or.a b ≡ false = sym (c.satisfies-in-Or.ensures ∙ ap (λ (p : Pred). satisfies p b) c.get-in-Or.ensures) ∙ c.if-satisfies-2.false in
    c.satisfies-else-satisfies-2.ensures ∙ ap (λ (p : Pred). satisfies p b) c.get-else-satisfies-2.ensures ∙ sym (ap (λ (p : Pred). satisfies p b) c.in-Or.is ∙ satisfies-or c.in-Or.a c.in-Or.b b ∙ ap (λ (x : Bool). x || satisfies c.in-Or.b b) left)

pub returns-in-Not : goal.returns-in-Not
returns-in-Not t c =
    let b = c.args.bytes.now in
    sym (ap (λ (p : Pred). satisfies p b) c.in-Not.is ∙ satisfies-not c.in-Not.a b ∙ ap not (sym (c.satisfies-in-Not.ensures ∙ ap (λ (p : Pred). satisfies p b) c.get-in-Not.ensures)))
