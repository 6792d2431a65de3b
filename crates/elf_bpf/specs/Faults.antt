-- Steps of reading that may meet a fault: the first fault answers, with its kind and its place.
use Rattle.std.specs.Prelude.{◌≡◌, ℕ, Bool, Option, Some, None, Result, Ok, Err, ⊤, if◌then◌else◌}
use Rattle.elf_bpf.specs.declared.fault.ElfKind.{ElfKind}
use Rattle.elf_bpf.specs.declared.fault.ElfFault.{ElfFault}

infixl 10 ◌>>=◌
abbrev pub ◌>>=◌ : {A B : Type 0} → Result A ElfFault → (A → Result B ElfFault) → Result B ElfFault
(Ok x) >>= f = f x
(Err e) >>= f = Err e

-- a fault of a kind at a place
abbrev pub fault : {A : Type 0} → ElfKind → ℕ → Result A ElfFault
fault kind place = Err (record { kind = kind; place = place })

-- the fault, unless this holds
abbrev pub demand : Bool → ElfKind → ℕ → Result ⊤ ElfFault
demand holds kind place = if holds then Ok tt else fault kind place

-- the number that was found, or the fault
abbrev pub found : Option ℕ → ElfKind → ℕ → Result ℕ ElfFault
found (Some i) kind place = Ok i
found None kind place = fault kind place

-- what a function returned, seen by view, is what reading gives
abbrev pub Gives : {X Y : Type 0} → (X → Y) → Result X ElfFault → Result Y ElfFault → Type 0
Gives view (Ok x) read = read ≡ Ok (view x)
Gives view (Err e) read = read ≡ Err e
