use Rattle.std.proofs.Common.{◌≡◌, List, ℕ, drop, length, ap, ◌∙◌, refl, arith}
use Rattle.std.proofs.lemmas.Result.{err_from_is_err_and}
use Rattle.page_base.specs.Drive.{meta_pages}
use Rattle.image_laws.specs.Pages.{data_blocks}
use Rattle.plain_image.proofs.Loaded.{placed, drive_is, drive_fails}
use Rattle.plain_image.proofs.loading.open_image.Goals as goal

pub returns-in_err-meta-clause-value : goal.returns-in_err-meta-clause-value
returns-in_err-meta-clause-value c =
    let p = err_from_is_err_and c.from_residual.result c.from_residual.ensures.1 in
    rw (p.1, p.2) (drive_fails c.in_err-meta.field-0.0 c.args.bytes.now c.in_err-meta.ensures.fault)

pub split_at-requires : goal.split_at-requires
split_at-requires c =
    let m = c.in_ok-meta.meta in
    let pages = c.in_ok-meta.pages.items in
    let count = c.mounted_is_whole.ensures.count c.args.bytes.now m pages c.in_ok-meta.ensures.ok in
    let all : length c.deref.result.now ≡ length pages = ap (λ (ps : List (List ℕ)). length ps) c.deref.ensures.value in
    omega (arith, count, c.meta_pages.ensures.value, all)

pub machine_of-requires : goal.machine_of-requires
machine_of-requires c =
    let m = c.in_ok-meta.meta in
    let all = c.in_ok-meta.pages.items in
    let body : c.split_at.result.1.now ≡ data_blocks m all = c.split_at.ensures.back ∙ ap (λ n. drop n c.deref.result.now) c.meta_pages.ensures.value ∙ ap (drop (meta_pages m.geometry.blocks)) c.deref.ensures.value in
    placed m all c.split_at.result.1.now (c.mounted_is_whole.ensures.whole c.args.bytes.now m all c.in_ok-meta.ensures.ok) body

pub returns-clause-value : goal.returns-clause-value
returns-clause-value c =
    let m = c.in_ok-meta.meta in
    let all = c.in_ok-meta.pages.items in
    let body : c.split_at.result.1.now ≡ data_blocks m all = c.split_at.ensures.back ∙ ap (λ n. drop n c.deref.result.now) c.meta_pages.ensures.value ∙ ap (drop (meta_pages m.geometry.blocks)) c.deref.ensures.value in
    drive_is c.args.bytes.now m all c.split_at.result.1.now _ c.in_ok-meta.ensures.ok
    (c.mounted_is_whole.ensures.stands c.args.bytes.now m all c.blocks-blocks.ensures.sound c.in_ok-meta.ensures.ok)
    body refl c.in_ok-plain.ensures.value

pub returns-clause-limits : goal.returns-clause-limits
returns-clause-limits c = c.meta_pages.ensures.limits
