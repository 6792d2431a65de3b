use Rattle.std.proofs.Common.{◌≡◌, ◌≤◌, ◌<◌, ◌^◌, arith, sym, ap, ◌∙◌}
use Rattle.std.specs.Prelude.{Some}
use Rattle.std.proofs.lemmas.Bool.{cond-true, cond-false, lt-ltb, le-ltb}
use Rattle.std.proofs.lemmas.List.{take_all}
use Rattle.sbpf_text.specs.Numbers.{value_of}
use Rattle.sbpf_text.proofs.DigitValues.{value_of-more}
use Rattle.script_words.proofs.values.value_of.Goals as goal

pub returns-in_err-checked_mul : goal.returns-in_err-checked_mul
returns-in_err-checked_mul c =
    let most = value_of-more c.args.radix c.requires c.args.digits.now c.loop-digit.digit-index c.loop-digit.value c.loop-digit-test.true c.loop-digit.invariant.value in
    let big : 2 ^ 64 ≤ value_of c.args.radix c.args.digits.now = omega (arith, most, c.in_err-checked_mul.ensures) in
    c.from_residual.ensures ∙ sym (cond-false _ _ _ (le-ltb _ _ big))

pub returns-in_err-value : goal.returns-in_err-value
returns-in_err-value c =
    let most = value_of-more c.args.radix c.requires c.args.digits.now c.loop-digit.digit-index c.loop-digit.value c.loop-digit-test.true c.loop-digit.invariant.value in
    let big : 2 ^ 64 ≤ value_of c.args.radix c.args.digits.now = omega (arith, most, c.in_err-value.ensures) in
    c.from_residual-in_err-value.ensures ∙ sym (cond-false _ _ _ (le-ltb _ _ big))

pub returns : goal.returns
returns c =
    let all : c.loop-digit.value ≡ value_of c.args.radix c.args.digits.now = c.loop-digit.invariant.value ∙ ap (value_of c.args.radix) (take_all c.loop-digit.digit-index c.args.digits.now c.loop-digit-test.false) in
    let small : value_of c.args.radix c.args.digits.now < 2 ^ 64 = omega (arith, all, c.loop-digit.invariant.small) in
    ap Some all ∙ sym (cond-true _ _ _ (lt-ltb _ _ small))
