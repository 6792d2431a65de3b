use Rattle.std.proofs.Common.{◌≡◌, ℕ, List, ◌∙◌, subst}
use Rattle.std.specs.Prelude.{Option, Err, IfOk, IfErr}
use Rattle.edge_io.specs.Edges.{Names}
use Rattle.plain_image.specs.Opened.{Opened}
use Rattle.stack_top.specs.Decided.{IsDecided, IsOpened}
use Rattle.stack_top.specs.Images.{dash_image}
use Rattle.stack_top.specs.Scripts.{opens}
use Rattle.stack_top.specs.Works.{Work}
use Rattle.stack_top.proofs.Walks.{if_opened, if_unopened}
use Rattle.stack_top.proofs.images.open_dash.Goals as goal

pub returns-clause-ok : goal.returns-clause-ok
returns-clause-ok c =
    let is : c.deref.result.now ≡ dash_image = c.deref.ensures.value ∙ c.in_ok-bytes.ensures in
    let P : List ℕ → Type 0 = λ bytes. IfOk c.image_in.result (λ i. (told : Option Names) → IsOpened told (opens bytes) i) in
    subst P is (if_opened c.deref.result.now _ c.image_in.ensures.image c.image_in.ensures.mounts)

pub returns-clause-err : goal.returns-clause-err
returns-clause-err c =
    let is : c.deref.result.now ≡ dash_image = c.deref.ensures.value ∙ c.in_ok-bytes.ensures in
    let P : List ℕ → Type 0 = λ bytes. IfErr c.image_in.result (λ refusal. (told : Option Names) (before now : ℕ) (next : Opened → Work) → IsDecided told before now (opens bytes next) (Err refusal)) in
    subst P is (if_unopened c.deref.result.now _ c.image_in.ensures.image)
