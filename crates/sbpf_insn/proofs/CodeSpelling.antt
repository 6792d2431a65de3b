-- Bytes that decode are the code's spelling, and the spelling of proper code decodes to it.
use Rattle.std.proofs.Common.{◌≡◌, ℕ, zero, suc, ◌+◌, ◌*◌, ◌<◌, ◌≤◌, true, List, [], ◌∷◌, ◌++◌, length, take, drop, Option, Result, Ok, Err, refl, sym, ap, subst, ◌∙◌, arith}
use Rattle.std.specs.Prelude.{IfOk}
use Rattle.std.specs.List.{flat_map, list_all}
use Rattle.std.proofs.Math.Seq.{drop-append_seam}
use Rattle.std.proofs.lemmas.List.{length-drop, length-append, get_or-drop}
use Rattle.sbpf_insn.specs.declared.insn.Insn.{Insn}
use Rattle.sbpf_insn.specs.declared.insn.Insn.TheVariants.{LoadWide}
use Rattle.sbpf_insn.specs.declared.fault.InsnKind.{InsnKind}
use Rattle.sbpf_insn.specs.declared.fault.InsnFault.{InsnFault}
use Rattle.sbpf_insn.specs.declared.decoding.DecodeErr.{DecodeErr}
use Rattle.sbpf_insn.specs.Table.{spelling, is_well_formed, Spells}
use Rattle.sbpf_insn.specs.Ranges.{fits_fields}
use Rattle.sbpf_insn.specs.Program.{Program, AreProper}
use Rattle.sbpf_insn.specs.Decoded.{insn_at, decoded, decoded_from, then_code, slots_of, Gives}
use Rattle.std.proofs.lemmas.Grind.{flat_map-append}
use Rattle.sbpf_insn.specs.Cells.{cells, slots, at_slot, insns, insns_of}
use Rattle.sbpf_insn.proofs.CellLaws.{insns_of-take_more, insns_of-take_all}
use Rattle.sbpf_insn.proofs.Rows.{and_left, and_right}
use Rattle.sbpf_insn.proofs.Found.{IsBytes, found}
use Rattle.sbpf_insn.proofs.Loop.{unfold_ok, unfold_err, one_slot}
use Rattle.sbpf_insn.proofs.Again.{insn_again}

abbrev Read : Type 0
Read = Result (List Insn) InsnFault

abbrev ok : List Insn → Read
ok code = Ok code

-- ---- what decodes is spelled

bytes_after : (k : ℕ) (bytes : List ℕ) → IsBytes bytes → IsBytes (drop k bytes)
bytes_after k bytes all i = rw get_or-drop (all (k + i))

pub record Split (i : Insn) (read : Read) (code : List Insn) : Type 0 where
  pub rest : List Insn
  pub was : read ≡ ok rest
  pub whole : i ∷ rest ≡ code

split : (i : Insn) (read : Read) (code : List Insn) → then_code i read ≡ ok code → Split i read code
split i (Ok rest) code e = record { rest = rest; was = refl; whole = cc }
split i (Err f) code e = absurd cc

none_left : (code : List Insn) → ok [] ≡ ok code → Spells [] code
none_left [] e = refl
none_left (i ∷ code) e = absurd cc

abbrev SpelledFrom : ℕ → Type 0
SpelledFrom n = (slot : ℕ) (bytes : List ℕ) (code : List Insn) → length bytes ≤ n → IsBytes bytes → decoded_from n slot bytes ≡ ok code → Spells bytes code

spelled_by : (n slot b : ℕ) (bytes : List ℕ) (code : List Insn) (r : Result Insn InsnKind) → SpelledFrom n → length (b ∷ bytes) ≤ suc n → IsBytes (b ∷ bytes) → insn_at (b ∷ bytes) ≡ r → decoded_from (suc n) slot (b ∷ bytes) ≡ ok code → Spells (b ∷ bytes) code
spelled_by n slot b bytes code (Err f) later le all at e = absurd (let h = sym (unfold_err n slot b bytes f at) ∙ e in cc)
spelled_by n slot b bytes code (Ok i) later le all at e =
    let rest = drop (8 * slots_of i) (b ∷ bytes) in
    let parts = split i (decoded_from n (slot + slots_of i) rest) code (sym (unfold_ok n slot b bytes i at) ∙ e) in
    let short : length rest ≤ n = omega (arith, length-drop (8 * slots_of i) (b ∷ bytes), one_slot i, le) in
    let behind : rest ≡ flat_map spelling parts.rest = later (slot + slots_of i) rest parts.rest short (bytes_after (8 * slots_of i) (b ∷ bytes) all) parts.was in
    subst (λ (c : List Insn). Spells (b ∷ bytes) c) parts.whole (sym (found (b ∷ bytes) i all at).spelled ∙ ap (λ (t : List ℕ). spelling i ++ t) behind)

spelled_from : (n : ℕ) → SpelledFrom n
unfolding decoded_from
spelled_from zero slot [] code le all e = none_left code e
spelled_from (suc n) slot [] code le all e = none_left code e
spelled_from zero slot (b ∷ bytes) code le all e = absurd (omega arith)
spelled_from (suc n) slot (b ∷ bytes) code le all e = spelled_by n slot b bytes code (insn_at (b ∷ bytes)) (spelled_from n) le all refl e

pub decoded-spells : (bytes : List ℕ) (code : List Insn) → IsBytes bytes → decoded bytes ≡ ok code → Spells bytes code
decoded-spells bytes code all e = spelled_from (length bytes) 0 bytes code (omega arith) all e

-- ---- what is spelled decodes

pub length-spelling : (i : Insn) → length (spelling i) ≡ 8 * slots_of i
length-spelling (LoadWide dst value) = refl
length-spelling _ = refl

after_first : (i : Insn) (rest : List ℕ) → drop (8 * slots_of i) (spelling i ++ rest) ≡ rest
after_first i rest = rw (← length-spelling i) (drop-append_seam (spelling i) rest)

step_ok : (n slot : ℕ) (bytes : List ℕ) (i : Insn) → 0 < length bytes → insn_at bytes ≡ Ok i → decoded_from (suc n) slot bytes ≡ then_code i (decoded_from n (slot + slots_of i) (drop (8 * slots_of i) bytes))
step_ok n slot [] i some at = absurd (omega arith)
step_ok n slot (b ∷ bytes) i some at = unfold_ok n slot b bytes i at

decodes_none : (n slot : ℕ) → decoded_from n slot [] ≡ ok []
unfolding decoded_from
decodes_none zero slot = refl
decodes_none (suc n) slot = refl

decodes_from : (n slot : ℕ) (code : List Insn) → list_all is_well_formed code ≡ true → list_all fits_fields code ≡ true → length (flat_map spelling code) ≤ n → decoded_from n slot (flat_map spelling code) ≡ ok code
decodes_from n slot [] formed fit le = decodes_none n slot
decodes_from zero slot (i ∷ code) formed fit le = absurd (omega (arith, length-append (spelling i) (flat_map spelling code), length-spelling i, one_slot i))
decodes_from (suc n) slot (i ∷ code) formed fit le =
    let rest = flat_map spelling code in
    let long : 0 < length (spelling i ++ rest) = omega (arith, length-append (spelling i) rest, length-spelling i, one_slot i) in
    let short : length rest ≤ n = omega (arith, length-append (spelling i) rest, length-spelling i, one_slot i, le) in
    let at = insn_again i rest (and_left (is_well_formed i) (list_all is_well_formed code) formed) (and_left (fits_fields i) (list_all fits_fields code) fit) in
    let later = decodes_from n (slot + slots_of i) code (and_right (is_well_formed i) (list_all is_well_formed code) formed) (and_right (fits_fields i) (list_all fits_fields code) fit) short in
    step_ok n slot (spelling i ++ rest) i long at ∙ rw (after_first i rest) (ap (then_code i) later)

pub decoded-spelling : (code : List Insn) → AreProper code → decoded (flat_map spelling code) ≡ ok code
decoded-spelling code proper = decodes_from (length (flat_map spelling code)) 0 code proper.formed proper.fit (omega arith)

-- ---- the spelling slot by slot

pub spelled_more : (code : List Insn) (k : ℕ) (o : Option Insn) (old new : List ℕ) → k < slots code → o ≡ at_slot code k → old ≡ flat_map spelling (insns_of (take k (cells code))) → new ≡ old ++ flat_map spelling (insns o) → new ≡ flat_map spelling (insns_of (take (k + 1) (cells code)))
spelled_more code k o old new within at before put =
    put ∙ ap (λ (t : List ℕ). t ++ flat_map spelling (insns o)) before ∙ sym (flat_map-append spelling (insns_of (take k (cells code))) (insns o)) ∙ ap (flat_map spelling) (sym (insns_of-take_more code k o within at))

pub spelled_all : (code : List Insn) (k : ℕ) (bytes : List ℕ) → slots code ≤ k → bytes ≡ flat_map spelling (insns_of (take k (cells code))) → Spells bytes code
spelled_all code k bytes past e = e ∙ ap (flat_map spelling) (insns_of-take_all code k past)

-- ---- what `decode` answers

pub found_code : (bytes : List ℕ) (r : Result Program DecodeErr) → IsBytes bytes → Gives r (decoded bytes) → IfOk r (λ c. Spells bytes c.insns)
found_code bytes (Ok c) all e = decoded-spells bytes c.insns all e
found_code bytes (Err f) all e = tt

pub only_code : (bytes : List ℕ) (r : Result Program DecodeErr) (code : List Insn) → Gives r (decoded bytes) → AreProper code → Spells bytes code → Gives r (Ok code)
only_code bytes r code e proper spelled = subst (Gives r) (ap decoded spelled ∙ decoded-spelling code proper) e
