use Rattle.std.proofs.Common.{ap, sym, ◌∙◌}
use Rattle.std.specs.Prelude.{is_some}
use Rattle.image_format.specs.Numbers.{are_zero}
use Rattle.image_format.proofs.Listings.{taken_name, free_name}
use Rattle.image_format.proofs.records.new_name.Goals as goal

pub returns-then-is_some-clause-value : goal.returns-then-is_some-clause-value
returns-then-is_some-clause-value c = taken_name c.args.l c.args.raw.now c.args.names.now.files c.in_ok-name.name c.in_ok-name.ensures.1 (ap is_some (sym c.find.ensures) ∙ sym c.is_some.ensures ∙ c.if-is_some.true)

pub returns-clause-value : goal.returns-clause-value
returns-clause-value c = (free_name c.args.l c.args.raw.now c.args.names.now.files c.in_ok-name.name c.in_ok-name.ensures.1 (ap is_some (sym c.find.ensures) ∙ sym c.is_some.ensures ∙ c.if-is_some.false) c.in_ok-name.ensures.0 (ap are_zero (sym c.split_at.ensures.back) ∙ sym c.are_zero.ensures ∙ c.if-not-are_zero.false), c.in_ok-name.ensures.1)
