use Rattle.std.proofs.Common.{◌≡◌, ◌<◌, ◌^◌, take}
use Rattle.sbpf_text.specs.Numbers.{value_of}
use Rattle.script_words.proofs.values.value_of.Given as goal

abbrev pub invariant-loop-digit : goal.invariant-loop-digit
invariant-loop-digit l = record {
  value : l.value ≡ value_of l.radix (take l.digit-index l.digits);
  small : l.value < 2 ^ 64;
}
