-- An error other than the one that a test stands for.
use Rattle.std.proofs.Common.{◌≡◌, Bool, false, Result, Ok, Err, IsErrOf, IsErrAnd, IsTrue}

pub another_error : {T E : Type 0} (r : Result T E) (given asked : E) (test : Bool) → IsErrAnd r (λ e. e ≡ given) → (given ≡ asked → ⊥) → test ≡ false → (IsErrOf r asked → IsTrue test) × (IsTrue test → IsErrOf r asked)
another_error (Ok x) given asked test is differ fails = absurd is
another_error (Err e) given asked test is differ fails =
    ((λ at. let same : given ≡ asked = cc in absurd (differ same)), (λ passes. (cc)))
