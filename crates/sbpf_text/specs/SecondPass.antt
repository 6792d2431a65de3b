-- What the second pass can find wrong where the first pass found nothing. This project's own.
use Rattle.std.specs.Prelude.{◌≡◌, Result, Ok, Err}
use Rattle.sbpf_text.specs.declared.fault.AsmKind.TheVariants as kind
use Rattle.sbpf_text.specs.declared.fault.AsmFault.{AsmFault}

-- nothing, or a target that no line has as its label
abbrev pub IsSettled : {A : Type 0} → Result A AsmFault → Type 0
IsSettled (Ok x) = Unit {0}
IsSettled (Err f) = f.kind ≡ kind.Unknown
