use Rattle.std.proofs.Common.{◌≡◌, eqb, ap, sym, ◌∙◌, rules}
use Rattle.std.specs.Prelude.{not, ◌&&◌, is_none}
use Rattle.std.specs.List.{list_any}
use Rattle.image_format.specs.Tables.{blocks_in}
use Rattle.image_format.proofs.Marks.{none_used}
use Rattle.image_format.proofs.bitmap.is_stray.Goals as goal

pub returns-then-not-is_set : goal.returns-then-not-is_set
returns-then-not-is_set c = sym (ap (λ t. t && not (list_any (λ u. eqb u c.args.b) (blocks_in c.args.map.now))) (sym c.is_set.ensures ∙ c.if-not-is_set.true))

pub returns : goal.returns
returns c =
    let none : c.is_none.result ≡ is_none c.owner_of.result = search rules in
    none ∙ ap is_none c.owner_of.ensures ∙ none_used c.args.b c.args.map.now.placed
    ∙ sym (ap (λ t. t && not (list_any (λ u. eqb u c.args.b) (blocks_in c.args.map.now))) (sym c.is_set.ensures ∙ c.if-not-is_set.false))
