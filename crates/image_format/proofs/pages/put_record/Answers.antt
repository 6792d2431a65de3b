use Rattle.std.proofs.Common.{◌≤◌, ◌+◌, ◌++◌, length, ap, ◌∙◌, refl, arith}
use Rattle.page_base.specs.Bytes.{patched}
use Rattle.image_format.specs.Encoding.{record_head, record_at}
use Rattle.image_format.proofs.Areas.{put_both}
use Rattle.image_format.proofs.Written.{short_name}
use Rattle.image_format.proofs.pages.put_record.Goals as goal

pub returns-clause-value : goal.returns-clause-value
returns-clause-value c =
    let f = c.in-Some.file.now in
    let old = c.args.into.now in
    let at = c.args.at in
    let name = c.as_slice.result.now in
    let short : length name ≤ 96 = short_name name (rw c.as_slice.ensures.value c.as_slice.ensures.named) in
    c.patch-2.ensures.value ∙ ap (λ p. patched p (at + 32) name) (c.patch.ensures.value ∙ ap (patched old at) c.record_head.ensures) ∙ put_both old (record_head f) name at 32 refl (omega (arith, short, c.requires.place, c.requires.whole))
    ∙ ap (λ n. patched old at (record_head f ++ n)) c.as_slice.ensures.value ∙ ap (λ o. patched old at (record_at o)) c.in-Some.ensures.value
