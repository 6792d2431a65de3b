use Rattle.std.proofs.Common.{ap, ◌∙◌}
use Rattle.page_base.specs.Bytes.{patched}
use Rattle.image_format.specs.Encoding.{entry_at}
use Rattle.image_format.proofs.pages.put_entry.Goals as goal

pub returns-in-Some-clause-value : goal.returns-in-Some-clause-value
returns-in-Some-clause-value c =
    c.patch.ensures.value ∙ ap (patched c.args.into.now c.args.place) c.entry_bytes.ensures ∙ ap (λ o. patched c.args.into.now c.args.place (entry_at o)) c.in-Some.ensures.value
