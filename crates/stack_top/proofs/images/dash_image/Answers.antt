use Rattle.std.proofs.Common.{◌≡◌, IfOk, subst}
use Rattle.page_base.specs.Drive.{Drive}
use Rattle.stack_top.specs.Images.{empty_image, dash_image}
use Rattle.stack_top.proofs.images.dash_image.Goals as goal

pub returns : goal.returns
unfolding dash_image
returns c =
    let P : Drive → Type 0 = λ drive. IfOk c.empty_image.result (λ image. image.items ≡ empty_image drive) in
    subst P c.dash_geometry-geometry.ensures c.empty_image.ensures
