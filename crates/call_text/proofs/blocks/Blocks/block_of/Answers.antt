use Rattle.std.proofs.Common.{ap, ◌∙◌, Some}
use Rattle.std.specs.Vec.{vec_items}
use Rattle.call_text.specs.Blocks.{block_of}
use Rattle.call_text.proofs.BlockLaws.{same_lookup}
use Rattle.call_text.proofs.blocks.Blocks.block_of.Goals as goal

pub returns-in-Some : goal.returns-in-Some
returns-in-Some c = ap Some c.as_slice.ensures ∙ c.in-Some.ensures.value ∙ same_lookup (λ k. vec_items k) c.args.name.now c.self.inside.codes.entries ∙ ap (block_of c.args.name.now) c.self.view_is

pub returns-in-None : goal.returns-in-None
returns-in-None c = c.in-None.ensures.value ∙ same_lookup (λ k. vec_items k) c.args.name.now c.self.inside.codes.entries ∙ ap (block_of c.args.name.now) c.self.view_is
