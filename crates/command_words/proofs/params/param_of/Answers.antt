use Rattle.std.proofs.Common.{◌≡◌, ℕ, List, ◌≤◌, ◌-◌, ◌∙◌, sym, subst, take, drop, length, length-drop, true, Ok, arith}
use Rattle.std.proofs.lemmas.List.{take_all}
use Rattle.hex.specs.Hex.{decode_of}
use Rattle.command_words.specs.Places.{is_param}
use Rattle.command_words.proofs.Digits.{param_few}
use Rattle.command_words.proofs.params.param_of.Goals as goal

pub invariant_of-result : goal.invariant_of-result
invariant_of-result c =
    let is : is_param c.args.word.now ≡ true = sym c.is_param.ensures ∙ c.if-not-is_param.false in
    let digits : List ℕ = drop 4 c.args.word.now in
    let whole : take (length c.args.word.now - 4) digits ≡ digits = take_all (length c.args.word.now - 4) digits (omega (arith, length-drop 4 c.args.word.now)) in
    let read : decode_of digits ≡ Ok c.in-Ok.bytes.items = subst (λ d. decode_of d ≡ Ok c.in-Ok.bytes.items) whole c.in-Ok.ensures.ok in
    let few : length c.in-Ok.bytes.items ≤ 4096 = param_few c.args.word.now c.in-Ok.bytes.items is read in
    subst (λ b. length b ≤ 4096) (sym c.new.ensures) few
