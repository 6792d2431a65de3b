use Rattle.std.proofs.Common.{◌≡◌, ◌++◌, ℕ, List, eqb, true, false, map, ap, sym, subst, ◌∙◌, arith}
use Rattle.std.specs.Prelude.{IfOk}
use Rattle.std.specs.List.{range_with_len}
use Rattle.std.proofs.lemmas.Bool.{cond-true, cond-false}
use Rattle.std.proofs.lemmas.Bool.Decides.{nat_tests}
use Rattle.page_base.specs.Drive.{meta_pages}
use Rattle.image_format.specs.Encoding.{meta_page}
use Rattle.image_format.specs.Tables.{pages_from, own_pages}
use Rattle.image_format.proofs.mounting.push_own.Goals as goal

is_two : (n : ℕ) → n ≡ 2 → eqb n 2 ≡ true
is_two n is = grind (arith, nat_tests)

not_two : (n : ℕ) → (n ≡ 2 → ⊥) → eqb n 2 ≡ false
not_two n ne = grind (arith, nat_tests)

pub returns-then-version-eq2 : goal.returns-then-version-eq2
returns-then-version-eq2 c =
    let m = c.args.meta.now in
    let bytes = c.args.bytes.now in
    let own : pages_from bytes c.meta_pages.result ≡ own_pages c.args.version m.geometry.blocks bytes m =
    ap (pages_from bytes) c.meta_pages.ensures.value ∙ sym (cond-true (eqb c.args.version 2) (pages_from bytes (meta_pages m.geometry.blocks)) (map (meta_page m) (range_with_len 0 (meta_pages m.geometry.blocks))) (is_two c.args.version c.if-version-eq2.true)) in
    subst (λ (xs : List (List ℕ)). IfOk c.push_pages.result (λ x. c.push_pages.new.into.items ≡ c.args.into.now.items ++ xs)) own c.push_pages.ensures

pub returns : goal.returns
returns c =
    let m = c.args.meta.now in
    let bytes = c.args.bytes.now in
    let own : map (meta_page m) (range_with_len 0 (meta_pages m.geometry.blocks)) ≡ own_pages c.args.version m.geometry.blocks bytes m =
    sym (cond-false (eqb c.args.version 2) (pages_from bytes (meta_pages m.geometry.blocks)) (map (meta_page m) (range_with_len 0 (meta_pages m.geometry.blocks))) (not_two c.args.version c.if-version-eq2.false)) in
    subst (λ (xs : List (List ℕ)). IfOk c.push_meta.result (λ x. c.push_meta.new.into.items ≡ c.args.into.now.items ++ xs)) own c.push_meta.ensures
