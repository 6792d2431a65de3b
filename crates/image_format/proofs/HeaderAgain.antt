-- Page 0 that is written is read again.
use Rattle.std.proofs.Common.{◌≡◌, ℕ, ◌<◌, ◌≤◌, ◌^◌, List, ◌++◌, length, take, Bool, true, false, eqb, leb, None, Result, Ok, ap, ◌∙◌, refl, arith}
use Rattle.std.specs.Prelude.{⊤, ◌&&◌, ◌||◌, bytes_eq}
use Rattle.std.proofs.lemmas.Bool.Decides.{nat_tests}
use Rattle.std.proofs.lemmas.Nat.{from_le_bytes-to_le_bytes_4}
use Rattle.page_base.specs.Drive.{Drive, IsDrive}
use Rattle.image_format.specs.declared.faults.ImageKind.{ImageKind}
use Rattle.image_format.specs.declared.faults.ImageFault.{ImageFault}
use Rattle.image_format.specs.declared.header.Header.{Header}
use Rattle.image_format.specs.Faults.{◌>>=◌, demand}
use Rattle.image_format.specs.Numbers.{u32_at, part, first_set}
use Rattle.image_format.specs.Header.{magic, header, reserved, image_length}
use Rattle.image_format.specs.Encoding.{header_bytes}

demand_ok : {A : Type 0} (b : Bool) (kind : ImageKind) (place : ℕ) (f : ⊤ → Result A ImageFault) → b ≡ true → (demand b kind place >>= f) ≡ f tt
demand_ok true kind place f e = refl
demand_ok false kind place f e = absurd cc

then_ok : {A : Type 0} (r : Result ⊤ ImageFault) (f : ⊤ → Result A ImageFault) → r ≡ Ok tt → (r >>= f) ≡ f tt
then_ok r f e = ap (λ s. s >>= f) e

in_range : (n most : ℕ) → 1 ≤ n → n ≤ most → (leb 1 n && leb n most) ≡ true
in_range n most low high = grind (arith, nat_tests)

at_least : (low n : ℕ) → low ≤ n → leb low n ≡ true
at_least low n le = grind (arith, nat_tests)

same_number : (n m : ℕ) → n ≡ m → eqb n m ≡ true
same_number n m is = grind (arith, nat_tests)

none_reserved : (bytes : List ℕ) → first_set (part bytes 20 4076) ≡ None → reserved bytes ≡ Ok tt
unfolding reserved
none_reserved bytes none = rw none refl

abbrev fields : ℕ → ℕ → ℕ → ℕ → Result Header ImageFault
fields version blocks dies next = Ok (record { version = version; blocks = blocks; dies = dies; next = next })

-- a header whose tests hold
header_ok : (bytes : List ℕ) → leb 4096 (length bytes) ≡ true → bytes_eq (take 4 bytes) magic ≡ true → (eqb (u32_at bytes 4) 1 || eqb (u32_at bytes 4) 2) ≡ true
    → (leb 1 (u32_at bytes 8) && leb (u32_at bytes 8) 65536) ≡ true → (leb 1 (u32_at bytes 12) && leb (u32_at bytes 12) 16) ≡ true → eqb (length bytes) (image_length (u32_at bytes 4) (u32_at bytes 8)) ≡ true → leb 1 (u32_at bytes 16) ≡ true
    → reserved bytes ≡ Ok tt → header bytes ≡ Ok (record { version = u32_at bytes 4; blocks = u32_at bytes 8; dies = u32_at bytes 12; next = u32_at bytes 16 })
unfolding header
header_ok bytes a b c d e f g h = demand_ok _ _ _ _ a ∙ demand_ok _ _ _ _ b ∙ demand_ok _ _ _ _ c ∙ demand_ok _ _ _ _ d ∙ demand_ok _ _ _ _ e ∙ demand_ok _ _ _ _ f ∙ demand_ok _ _ _ _ g ∙ then_ok _ _ h

pub header_again : (drive : Drive) (next : ℕ) (rest : List ℕ) → IsDrive drive.blocks drive.dies → 1 ≤ next → next < 2 ^ 32 → length (header_bytes drive next ++ rest) ≡ image_length 2 drive.blocks → first_set (take 4076 rest) ≡ None
    → header (header_bytes drive next ++ rest) ≡ Ok (record { version = 2; blocks = drive.blocks; dies = drive.dies; next = next })
header_again drive next rest limits low high len none =
    let bytes = header_bytes drive next ++ rest in
    let blocks : u32_at bytes 8 ≡ drive.blocks = from_le_bytes-to_le_bytes_4 drive.blocks (omega (arith, limits.most_blocks)) in
    let dies : u32_at bytes 12 ≡ drive.dies = from_le_bytes-to_le_bytes_4 drive.dies (omega (arith, limits.most_dies)) in
    let next-is : u32_at bytes 16 ≡ next = from_le_bytes-to_le_bytes_4 next high in
    header_ok bytes (at_least 4096 (length bytes) (omega (arith, len))) refl refl
    (ap (λ n. leb 1 n && leb n 65536) blocks ∙ in_range drive.blocks 65536 limits.some_blocks limits.most_blocks)
    (ap (λ n. leb 1 n && leb n 16) dies ∙ in_range drive.dies 16 limits.some_dies limits.most_dies)
    (ap (λ n. eqb (length bytes) (image_length 2 n)) blocks ∙ same_number (length bytes) (image_length 2 drive.blocks) len)
    (ap (leb 1) next-is ∙ at_least 1 next low)
    (none_reserved bytes none)
    ∙ ap (λ n. fields 2 n (u32_at bytes 12) (u32_at bytes 16)) blocks ∙ ap (λ n. fields 2 drive.blocks n (u32_at bytes 16)) dies ∙ ap (fields 2 drive.blocks drive.dies) next-is
