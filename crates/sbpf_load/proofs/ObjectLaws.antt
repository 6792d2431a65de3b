-- An object's bytes read back as its code.
use Rattle.std.proofs.Common.{◌≡◌, ℕ, ◌+◌, ◌*◌, ◌<◌, ◌≤◌, ◌^◌, Bool, true, false, nat_eq, List, [], ◌∷◌, ◌++◌, length, drop, None, Result, Ok, refl, sym, ap, subst, ◌∙◌, arith}
use Rattle.std.specs.Prelude.{◌&&◌, nat_lt, not}
use Rattle.std.specs.Int.{w32, to_le_bytes}
use Rattle.std.specs.List.{flat_map}
use Rattle.std.proofs.lemmas.Bool.{eq-eqb}
use Rattle.std.proofs.lemmas.Bool.Decides.{nat_tests}
use Rattle.std.proofs.lemmas.List.{length-append}
use Rattle.std.proofs.lemmas.Nat.{from_le_bytes-to_le_bytes_4}
use Rattle.sbpf_insn.specs.declared.insn.Insn.{Insn}
use Rattle.sbpf_insn.specs.Cells.{slots, cells, cells_of}
use Rattle.sbpf_insn.specs.Program.{AreProper}
use Rattle.sbpf_insn.specs.Refusal.{refusal}
use Rattle.sbpf_insn.specs.Table.{spelling}
use Rattle.sbpf_insn.proofs.AcceptedLaws.{accepted}
use Rattle.sbpf_insn.proofs.CellLaws.{length-cells_of}
use Rattle.sbpf_insn.proofs.CodeSpelling.{length-spelling, decoded-spelling}
use Rattle.sbpf_load.specs.declared.loading.CodeErr.{CodeErr}
use Rattle.sbpf_load.specs.Loaded.{loaded, then_verified, unless_refused}
use Rattle.sbpf_load.specs.Objects.{object_read, has_magic, has_length, told_slots}

abbrev ok : List Insn → Result (List Insn) CodeErr
ok code = Ok code

-- a slot has 8 bytes
length_spelled : (code : List Insn) → length (flat_map spelling code) ≡ 8 * slots code
length_spelled [] = refl
length_spelled (i ∷ code) =
    let later = length_spelled code in
    omega (arith, length-append (spelling i) (flat_map spelling code), length-append (cells_of i) (cells code), length-spelling i, length-cells_of i, later)

loaded_again : (code : List Insn) → AreProper code → refusal code ≡ None → loaded (flat_map spelling code) ≡ ok code
loaded_again code proper fine = ap then_verified (decoded-spelling code proper) ∙ ap (unless_refused code) fine

-- the head of an object, before any bytes
abbrev headed : ℕ → List ℕ → List ℕ
headed n rest = 0x53 ∷ 0x42 ∷ 0x4f ∷ 0x31 ∷ (to_le_bytes w32 n ++ rest)

magic_of : (n : ℕ) (rest : List ℕ) → has_magic (headed n rest) ≡ true
magic_of n rest =
    let four : nat_lt (length (headed n rest)) 4 ≡ false = grind (arith, nat_tests) in
    rw four refl

told_of : (n : ℕ) (rest : List ℕ) → n < 2 ^ 32 → told_slots (headed n rest) ≡ n
told_of n rest short = from_le_bytes-to_le_bytes_4 n short

length_of : (n : ℕ) (rest : List ℕ) → n < 2 ^ 32 → length rest ≡ 8 * n → has_length (headed n rest) ≡ true
length_of n rest short long =
    let eight : nat_lt (length (headed n rest)) 8 ≡ false = grind (arith, nat_tests) in
    let whole : length (headed n rest) ≡ 8 + 8 * n = omega arith in
    both (nat_lt (length (headed n rest)) 8) (length (headed n rest)) (told_slots (headed n rest)) n eight (told_of n rest short) whole
  where
    both : (b : Bool) (l told n : ℕ) → b ≡ false → told ≡ n → l ≡ 8 + 8 * n → (not b && nat_eq l (8 + 8 * told)) ≡ true
    both b l told n e f g = rw (e, f, g) (eq-eqb (8 + 8 * n) (8 + 8 * n) refl)

read_of : (bytes : List ℕ) (code : List Insn) → has_magic bytes ≡ true → has_length bytes ≡ true → loaded (drop 8 bytes) ≡ ok code → object_read bytes ≡ Ok code
read_of bytes code m l e = rw (m, l, e) refl

pub object_again : (code : List Insn) (n : ℕ) (bytes : List ℕ) → AreProper code → refusal code ≡ None → n ≡ slots code → bytes ≡ headed n (flat_map spelling code) → object_read bytes ≡ Ok code
object_again code n bytes proper fine count e =
    let few : slots code ≤ 4096 = (accepted code fine).short in
    let short : n < 2 ^ 32 = omega arith in
    let long : length (flat_map spelling code) ≡ 8 * n = length_spelled code ∙ ap (λ (k : ℕ). 8 * k) (sym count) in
    rw e (read_of (headed n (flat_map spelling code)) code (magic_of n (flat_map spelling code)) (length_of n (flat_map spelling code) short long) (loaded_again code proper fine))

-- the same from the parts that are written one after the other
pub object_written : (code seen : List Insn) (n : ℕ) (bytes spelled taken : List ℕ) → seen ≡ code → AreProper seen → refusal code ≡ None → n ≡ slots seen → spelled ≡ flat_map spelling seen → taken ≡ spelled → bytes ≡ headed n taken → object_read bytes ≡ Ok code
object_written code seen n bytes spelled taken same proper fine count s t e =
    object_again code n bytes (subst AreProper same proper) fine (count ∙ ap slots same) (e ∙ ap (headed n) (t ∙ s ∙ ap (flat_map spelling) same))
