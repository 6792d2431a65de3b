use Rattle.std.proofs.Common.{◌≡◌, ◌++◌, Ok, length, ap, sym, subst, ◌∙◌, refl, arith}
use Rattle.std.proofs.lemmas.Result.{err_from_is_err_and}
use Rattle.page_base.specs.Drive.{Drive}
use Rattle.image_format.specs.declared.meta.Meta.{Meta}
use Rattle.image_format.specs.Header.{image_length}
use Rattle.image_format.specs.Image.{meant, read_image}
use Rattle.image_format.specs.Tables.{own_pages, pages_from, Mounts}
use Rattle.image_format.specs.Reading.{parts_of, image_of}
use Rattle.image_format.proofs.Marks.{written_length}
use Rattle.image_format.proofs.Steps.{fails_as}
use Rattle.image_format.proofs.Parts.{header_fails, parts_fail, image_ok}
use Rattle.image_format.proofs.mounting.mount.Goals as goal

pub returns-in_err-h-clause-fault : goal.returns-in_err-h-clause-fault
returns-in_err-h-clause-fault c =
    let p = err_from_is_err_and c.from_residual.result c.from_residual.ensures.1 in
    rw (p.1, p.2) (header_fails c.in_err-h.field-0.0 c.args.bytes.now c.in_err-h.ensures.value)

pub returns-in_err-names-clause-fault : goal.returns-in_err-names-clause-fault
returns-in_err-names-clause-fault c =
    let e = c.in_err-names.field-0.0 in
    let h = c.in_ok-h.h in
    let p = err_from_is_err_and c.from_residual-in_err-names.result c.from_residual-in_err-names.ensures.1 in
    rw (p.1, p.2) (parts_fail e c.args.bytes.now h c.in_ok-h.ensures.value (fails_as e _ (meant h (parts_of c.cut_parts-p.result)) (ap (meant h) (sym c.cut_parts-p.ensures.value)) c.in_err-names.ensures.value))

pub all_pages-requires-clause-whole : goal.all_pages-requires-clause-whole
all_pages-requires-clause-whole c = λ second.
    let h = c.in_ok-h.h in
    let size : length c.args.bytes.now ≡ image_length 2 h.blocks = subst (λ v. length c.args.bytes.now ≡ image_length v h.blocks) second c.in_ok-h.ensures.size in
    omega (arith, size, ap (λ (d : Drive). d.blocks) c.in-Some.ensures.1)

pub all_pages-requires-clause-size : goal.all_pages-requires-clause-size
all_pages-requires-clause-size c =
    let blocks = ap (λ (d : Drive). d.blocks) c.in-Some.ensures.1 in
    record {
      extents = c.in_ok-names.ensures.size ∙ sym blocks;
      written = ap length c.in_ok-written.ensures ∙ written_length c.in_ok-h.h.blocks c.cut_parts-p.result.bits.now ∙ sym blocks;
    }

pub returns-clause-ok : goal.returns-clause-ok
returns-clause-ok c =
    let bytes = c.args.bytes.now in
    let h = c.in_ok-h.h in
    let p = parts_of c.cut_parts-p.result in
    let r = c.in_ok-names.field-0 in
    let i = image_of h p r in
    let read : read_image bytes ≡ Ok i = image_ok bytes h i c.in_ok-h.ensures.value (ap (meant h) (sym c.cut_parts-p.ensures.value) ∙ c.in_ok-names.ensures.value) in
    let blocks = ap (λ (d : Drive). d.blocks) c.in-Some.ensures.1 in
    let m : Meta = record { geometry = c.in-Some.geometry; names = r.names; extents = r.extents; written = c.in_ok-written.written } in
    subst (Mounts bytes m c.in_ok-pages.pages.items) (sym read) (record {
      blocks = blocks;
      dies = ap (λ (d : Drive). d.dies) c.in-Some.ensures.1;
      files = refl;
      next = c.in_ok-names.ensures.next;
      sizes = c.in_ok-names.ensures.size;
      extents = c.in_ok-names.ensures.places;
      order = refl;
      written = c.in_ok-written.ensures;
      pages = c.in_ok-pages.ensures ∙ ap (λ n. own_pages h.version n bytes m ++ pages_from p.body n) blocks;
    })
