use Rattle.std.proofs.Common.{◌^◌, ◌-◌, min, ℕ, refl, ap, ◌∙◌}
use Rattle.predicates.specs.declared.pred.Pred.{Pred}
use Rattle.predicates.specs.Nodes.{nodes}
use Rattle.predicates.proofs.NodeLaws.{nodes-and, nodes-or, nodes-not, joined_count}
use Rattle.predicates.proofs.nodes.+count_nodes.Goals as goal

abbrev most : Pred → ℕ
most p = min (nodes p) (2 ^ 64 - 1)

pub returns-in-And : goal.returns-in-And
returns-in-And t c =
    joined_count _ (nodes c.in-And.a) (nodes c.in-And.b) c.count_nodes.result c.count_nodes-in-And.result _ (ap nodes c.in-And.is ∙ nodes-and c.in-And.a c.in-And.b) (c.count_nodes.ensures ∙ ap most c.get.ensures) (c.count_nodes-in-And.ensures ∙ ap most c.get-in-And.ensures) c.joined.ensures

pub returns-in-Or : goal.returns-in-Or
returns-in-Or t c =
    joined_count _ (nodes c.in-Or.a) (nodes c.in-Or.b) c.count_nodes-in-Or.result c.count_nodes-in-Or-2.result _ (ap nodes c.in-Or.is ∙ nodes-or c.in-Or.a c.in-Or.b) (c.count_nodes-in-Or.ensures ∙ ap most c.get-in-Or.ensures) (c.count_nodes-in-Or-2.ensures ∙ ap most c.get-in-Or-2.ensures) c.joined-in-Or.ensures

pub returns-in-Not : goal.returns-in-Not
returns-in-Not t c =
    joined_count _ (nodes c.in-Not.a) 0 c.count_nodes-in-Not.result 0 _ (ap nodes c.in-Not.is ∙ nodes-not c.in-Not.a) (c.count_nodes-in-Not.ensures ∙ ap most c.get-in-Not.ensures) refl c.joined-in-Not.ensures
