-- Steps that may meet a fault, in a row.
use Rattle.std.proofs.Common.{◌≡◌, ℕ, Bool, true, false, Result, Ok, ap, ◌∙◌, refl}
use Rattle.image_format.specs.declared.faults.ImageKind.{ImageKind}
use Rattle.image_format.specs.declared.faults.ImageFault.{ImageFault}
use Rattle.image_format.specs.declared.faults.MountErr.{MountErr}
use Rattle.image_format.specs.declared.faults.MountErr.TheVariants as errors
use Rattle.image_format.specs.Faults.{◌>>=◌, demand, fault, Fails}

-- a step that fails ends the row
pub fails_bind : {A B : Type 0} (e : MountErr) (r : Result A ImageFault) (f : A → Result B ImageFault) → Fails e r → Fails e (r >>= f)
fails_bind errors.NoMemory r f fails = tt
fails_bind (errors.Image x) r f fails = ap (λ s. s >>= f) fails

-- after one that succeeds it goes on
pub ok_bind : {A B : Type 0} (r : Result A ImageFault) (x : A) (f : A → Result B ImageFault) → r ≡ Ok x → (r >>= f) ≡ f x
ok_bind r x f is = ap (λ s. s >>= f) is

pub fails_later : {A B : Type 0} (e : MountErr) (r : Result A ImageFault) (x : A) (f : A → Result B ImageFault) → r ≡ Ok x → Fails e (f x) → Fails e (r >>= f)
fails_later errors.NoMemory r x f is fails = tt
fails_later (errors.Image y) r x f is fails = ok_bind r x f is ∙ fails

pub fails_as : {A : Type 0} (e : MountErr) (r s : Result A ImageFault) → r ≡ s → Fails e s → Fails e r
fails_as errors.NoMemory r s is fails = tt
fails_as (errors.Image x) r s is fails = is ∙ fails

pub demand_true : (b : Bool) (kind : ImageKind) (place : ℕ) → b ≡ true → demand b kind place ≡ Ok tt
demand_true true kind place e = refl
demand_true false kind place e = absurd cc

pub demand_false : (b : Bool) (kind : ImageKind) (place : ℕ) → b ≡ false → demand b kind place ≡ fault kind place
demand_false false kind place e = refl
demand_false true kind place e = absurd cc
