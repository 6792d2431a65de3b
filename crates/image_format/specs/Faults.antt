-- Steps of reading that may meet a fault: the first fault answers, with its kind and its place.
use Rattle.std.specs.Prelude.{◌≡◌, ℕ, Bool, Result, Ok, Err, ⊤, if◌then◌else◌}
use Rattle.image_format.specs.declared.faults.ImageKind.{ImageKind}
use Rattle.image_format.specs.declared.faults.ImageFault.{ImageFault}
use Rattle.image_format.specs.declared.faults.MountErr.{MountErr}
use Rattle.image_format.specs.declared.faults.MountErr.TheVariants as errors

infixl 10 ◌>>=◌
abbrev pub ◌>>=◌ : {A B : Type 0} → Result A ImageFault → (A → Result B ImageFault) → Result B ImageFault
(Ok x) >>= f = f x
(Err e) >>= f = Err e

-- a fault of a kind at a place
abbrev pub fault : {A : Type 0} → ImageKind → ℕ → Result A ImageFault
fault kind place = Err (record { kind = kind; place = place })

-- the fault, unless this holds
abbrev pub demand : Bool → ImageKind → ℕ → Result ⊤ ImageFault
demand b kind place = if b then Ok tt else fault kind place

-- what a function returned, seen by view, is what reading gives, unless memory ran out
abbrev pub Fails : {Y : Type 0} → MountErr → Result Y ImageFault → Type 0
Fails errors.NoMemory read = Unit {0}
Fails (errors.Image f) read = read ≡ Err f

abbrev pub Gives : {X Y : Type 0} → (X → Y) → Result X MountErr → Result Y ImageFault → Type 0
Gives view (Ok x) read = read ≡ Ok (view x)
Gives view (Err e) read = Fails e read
