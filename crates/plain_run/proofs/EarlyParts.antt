-- What holds of a call that is not refused early.
use Rattle.std.proofs.Common.{◌≡◌, ◌≤◌, ◌^◌, Bool, true, false, cond, Some, None, refl, arith}
use Rattle.std.specs.Prelude.{nat_lt}
use Rattle.std.proofs.lemmas.Bool.Decides.{nat_tests}
use Rattle.plain_files.specs.declared.calls.Call.{Call}
use Rattle.plain_files.specs.declared.calls.Reply.TheVariants.{TooLong, NoFile, NoFn, AppendOnly, TooBig}
use Rattle.plain_files.specs.Plain.{State, is_too_long, lacks_file, lacks_function, is_append_only, end_of, early}

none_holds : (a b c d e : Bool) → cond a (Some TooLong) (cond b (Some NoFile) (cond c (Some NoFn) (cond d (Some AppendOnly) (cond e (Some TooBig) None)))) ≡ None → (a ≡ false) × (b ≡ false) × (c ≡ false) × (e ≡ false)
none_holds true b c d e none = cc
none_holds false true c d e none = cc
none_holds false false true d e none = cc
none_holds false false false true e none = cc
none_holds false false false false true none = cc
none_holds false false false false false none = (refl, refl, refl, refl)

pub early_parts : (s : State) (call : Call) → early s call ≡ None → (is_too_long call ≡ false) × (lacks_file s call ≡ false) × (lacks_function s call ≡ false) × (end_of s call ≤ 2 ^ 28)
early_parts s call none =
    let parts = none_holds (is_too_long call) (lacks_file s call) (lacks_function s call) (is_append_only s call) (nat_lt (2 ^ 28) (end_of s call)) none in
    let within : nat_lt (2 ^ 28) (end_of s call) ≡ false = parts.3 in
    (parts.0, parts.1, parts.2, grind (arith, nat_tests, within))
