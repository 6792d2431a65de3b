use Rattle.std.proofs.Common.{◌≡◌, ◌+◌, ◌/◌, ◌%◌, ◌<◌, ℕ, Bool, true, false, drop, eqb, ap, sym, ◌∙◌, refl, arith}
use Rattle.std.specs.Prelude.{not, ◌&&◌}
use Rattle.std.proofs.lemmas.Bool.Decides.{nat_tests}
use Rattle.std.proofs.lemmas.List.{take_rest}
use Rattle.image_format.specs.Numbers.{are_zero}
use Rattle.image_format.specs.Bitmap.{is_set}
use Rattle.image_format.specs.Tails.{data_page}
use Rattle.image_format.proofs.Ends.{tail_is, last_block}
use Rattle.image_format.proofs.tails.has_tail.Goals as goal

all_tests : (x y z : Bool) → x ≡ false → y ≡ true → not z ≡ (not x && (y && not z))
all_tests false true z p q = refl
all_tests true y z p q = absurd cc
all_tests false false z p q = absurd cc

not_zero : (n : ℕ) → (n ≡ 0 → ⊥) → eqb n 0 ≡ false
not_zero n ne = grind (arith, nat_tests)

pub returns : goal.returns
returns c = λ s len blocks.
    let over = c.args.len % 4096 in
    let page = c.data_page.result.now in
    let block = c.in-Some.place.block in
    let bits = c.args.bits.now in
    let zero : c.are_zero.result ≡ are_zero (drop over (data_page c.args.body.now block)) = c.are_zero.ensures ∙ ap are_zero (take_rest page over) ∙ ap (λ x. are_zero (drop over x)) c.data_page.ensures.value in
    let inside : c.args.len / 4096 < (c.args.len + 4095) / 4096 = more c.args.len c.if-over-eq0.false in
    ap not zero ∙ all_tests (eqb over 0) (is_set bits block) _ (not_zero over c.if-over-eq0.false) (sym c.is_set.ensures ∙ c.if-not-is_set.false)
    ∙ sym (tail_is bits c.args.body.now s c.args.len block len (last_block c.args.map.now.placed s.blocks ((c.args.len + 4095) / 4096) c.args.start (c.args.len / 4096) c.in-Some.place blocks inside (sym c.place_at.ensures ∙ c.in-Some.is)))
  where
    more : (n : ℕ) → (n % 4096 ≡ 0 → ⊥) → n / 4096 < (n + 4095) / 4096
    more n ne = omega arith
