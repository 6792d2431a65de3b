-- Reading instructions one after the other, as a loop does.
use Rattle.std.proofs.Common.{◌≡◌, ℕ, zero, suc, ◌+◌, ◌*◌, ◌<◌, ◌≤◌, List, [], ◌∷◌, ◌++◌, length, drop, Result, Ok, Err, refl, sym, ap, ◌∙◌, append_assoc, arith}
use Rattle.std.proofs.lemmas.List.{append-nil, length-drop}
use Rattle.std.proofs.Math.Dec.{lit≤}
use Rattle.sbpf_insn.specs.declared.insn.Insn.TheVariants.{LoadWide}
use Rattle.sbpf_insn.proofs.CellLaws.{slots_grown}
use Rattle.sbpf_insn.specs.declared.insn.Insn.{Insn}
use Rattle.sbpf_insn.specs.declared.fault.InsnKind.{InsnKind}
use Rattle.sbpf_insn.specs.declared.fault.InsnFault.{InsnFault}
use Rattle.sbpf_insn.specs.Decoded.{insn_at, decoded, decoded_from, decoded_step, then_code, slots_of}
use Rattle.sbpf_insn.specs.Cells.{slots}

-- what was read before, and what is still read
abbrev pub with_front : List Insn → Result (List Insn) InsnFault → Result (List Insn) InsnFault
with_front front (Ok code) = Ok (front ++ code)
with_front front (Err f) = Err f

regroup : (front : List Insn) (i : Insn) (read : Result (List Insn) InsnFault) → with_front front (then_code i read) ≡ with_front (front ++ i ∷ []) read
regroup front i (Ok code) = ap (λ (t : List Insn). Ok t) (sym (append_assoc front (i ∷ []) code))
regroup front i (Err f) = refl

-- the bytes that are left give what is still to come
pub record Reads (bytes : List ℕ) (code : List Insn) (rest : List ℕ) (k : ℕ) : Type 0 where
  pub enough : length rest ≤ k
  pub whole : with_front code (decoded_from k (slots code) rest) ≡ decoded bytes

pub begins : (bytes : List ℕ) → Reads bytes [] bytes (length bytes)
begins bytes = record { enough = omega arith; whole = nothing (decoded bytes) }
  where
    nothing : (r : Result (List Insn) InsnFault) → with_front [] r ≡ r
    nothing (Ok code) = refl
    nothing (Err f) = refl

pub unfold_ok : (k slot : ℕ) (b : ℕ) (rest : List ℕ) (i : Insn) → insn_at (b ∷ rest) ≡ Ok i → decoded_from (suc k) slot (b ∷ rest) ≡ then_code i (decoded_from k (slot + slots_of i) (drop (8 * slots_of i) (b ∷ rest)))
unfolding decoded_from
unfold_ok k slot b rest i e = ap (λ (r : Result Insn InsnKind). decoded_step r slot (λ i. decoded_from k (slot + slots_of i) (drop (8 * slots_of i) (b ∷ rest)))) e

pub unfold_err : (k slot : ℕ) (b : ℕ) (rest : List ℕ) (f : InsnKind) → insn_at (b ∷ rest) ≡ Err f → decoded_from (suc k) slot (b ∷ rest) ≡ Err (record { slot = slot; kind = f })
unfolding decoded_from
unfold_err k slot b rest f e = ap (λ (r : Result Insn InsnKind). decoded_step r slot (λ i. decoded_from k (slot + slots_of i) (drop (8 * slots_of i) (b ∷ rest)))) e

pub one_slot : (i : Insn) → 1 ≤ slots_of i
one_slot (LoadWide dst value) = lit≤ tt
one_slot _ = lit≤ tt

pub goes_on : (bytes : List ℕ) (code : List Insn) (rest : List ℕ) (k : ℕ) (i : Insn) → 0 < length rest → insn_at rest ≡ Ok i → 8 * slots_of i ≤ length rest → Reads bytes code rest (suc k) → Reads bytes (code ++ i ∷ []) (drop (8 * slots_of i) rest) k
goes_on bytes code [] k i some at long reads = absurd (omega arith)
goes_on bytes code (b ∷ rest) k i some at long reads =
    let enough : length (drop (8 * slots_of i) (b ∷ rest)) ≤ k = omega (arith, length-drop (8 * slots_of i) (b ∷ rest), one_slot i, reads.enough) in
    record {
      enough = enough;
      whole = rw (slots_grown code i) (sym (regroup code i _) ∙ ap (with_front code) (sym (unfold_ok k (slots code) b rest i at)) ∙ reads.whole);
    }

pub fails : (bytes : List ℕ) (code : List Insn) (rest : List ℕ) (k : ℕ) (f : InsnKind) → 0 < length rest → insn_at rest ≡ Err f → Reads bytes code rest (suc k) → decoded bytes ≡ Err (record { slot = slots code; kind = f })
fails bytes code [] k f some at reads = absurd (omega arith)
fails bytes code (b ∷ rest) k f some at reads = sym reads.whole ∙ ap (with_front code) (unfold_err k (slots code) b rest f at)

-- some k serves
abbrev pub ReadsSome : List ℕ → List Insn → List ℕ → Type 0
ReadsSome bytes code rest = (k : ℕ) × Reads bytes code rest k

pub goes_on_some : (bytes : List ℕ) (code more : List Insn) (rest left : List ℕ) (i : Insn) → 0 < length rest → insn_at rest ≡ Ok i → 8 * slots_of i ≤ length rest → more ≡ code ++ i ∷ [] → left ≡ drop (8 * slots_of i) rest → ReadsSome bytes code rest → ReadsSome bytes more left
goes_on_some bytes code more rest left i some at long m l (zero, reads) = absurd (omega (arith, reads.enough))
goes_on_some bytes code more rest left i some at long m l (suc k, reads) = (k, rw (m, l) (goes_on bytes code rest k i some at long reads))

pub fails_some : (bytes : List ℕ) (code : List Insn) (rest : List ℕ) (f : InsnKind) → 0 < length rest → insn_at rest ≡ Err f → ReadsSome bytes code rest → decoded bytes ≡ Err (record { slot = slots code; kind = f })
fails_some bytes code rest f some at (zero, reads) = absurd (omega (arith, reads.enough))
fails_some bytes code rest f some at (suc k, reads) = fails bytes code rest k f some at reads

pub ends : (bytes : List ℕ) (code : List Insn) (rest : List ℕ) (k : ℕ) → length rest ≡ 0 → Reads bytes code rest k → decoded bytes ≡ Ok code
unfolding decoded_from
ends bytes code [] k none reads = sym reads.whole ∙ ap (λ (t : List Insn). Ok t) (append-nil code)
ends bytes code (b ∷ rest) k none reads = absurd (omega arith)
