-- What the first pass took, the second takes too, but for labels that no line has.
use Rattle.std.proofs.Common.{◌≡◌, ℕ, ◌+◌, ◌≤◌, ◌^◌, List, [], ◌∷◌, ◌++◌, Bool, true, false, refl, ap, sym, subst, ◌∙◌, ◌-◌, ◌<◌, Option, Some, None, arith}
use Rattle.std.specs.Prelude.{pos, Result, Ok, Err, nat_le, nat_lt, ◌&&◌, bytes_eq, if◌then◌else◌}
use Rattle.std.specs.List.{list_all}
use Rattle.std.proofs.lemmas.Bool.Decides.{nat_tests}
use Rattle.std.proofs.lemmas.List.{append-nil}
use Rattle.sbpf_insn.specs.declared.insn.Insn.{Insn}
use Rattle.sbpf_insn.specs.declared.insn.Insn.TheVariants as insn
use Rattle.sbpf_insn.specs.Decoded.{slots_of}
use Rattle.sbpf_insn.specs.Cells.{slots, insns}
use Rattle.sbpf_insn.proofs.CellLaws.{slots_grown}
use Rattle.sbpf_text.specs.declared.fault.AsmKind.{AsmKind}
use Rattle.sbpf_text.specs.declared.fault.AsmKind.TheVariants as kind
use Rattle.sbpf_text.specs.declared.mnemonic.Mnemonic.{Mnemonic}
use Rattle.sbpf_text.specs.declared.mnemonic.Mnemonic.TheVariants as mnemonic
use Rattle.sbpf_text.specs.Faults.{◌>>=◌, or_fault, at_line}
use Rattle.sbpf_text.specs.Lexing.{lines, label_of, behind_label, without_comment, is_line_byte, has_no_word, first_word, behind_word, operand_words, begins_with, is_label}
use Rattle.sbpf_text.specs.Forms.{is_register, is_value, is_target, is_sign}
use Rattle.sbpf_text.specs.Numbers.{offset, signed}
use Rattle.sbpf_text.specs.Labels.{slot_of}
use Rattle.sbpf_text.specs.Operands.{register_at, value_at, reach, label_at, target_at}
use Rattle.sbpf_text.specs.Mnemonics.{mnemonic_spelled}
use Rattle.sbpf_text.specs.Instructions.{one_target, register_value_target_of, register_value_target, insn_of, within_code, insn_with, insn_at}
use Rattle.sbpf_text.specs.Asm.{SoFar, nothing, is_new, with_label, slot_behind, with_insn, scan_text, scan_line, scan, settle_line, settle}
use Rattle.sbpf_text.specs.SecondPass.{IsSettled}

-- ---- what both passes read of the same

-- where the first pass read a value, the second reads one that is like it, or finds an unknown label
abbrev pub Settles : {A : Type 0} → (A → A → Type 0) → Result A AsmKind → Result A AsmKind → Type 0
Settles R (Ok x) (Ok y) = R x y
Settles R (Ok x) (Err k) = k ≡ kind.Unknown
Settles R (Err j) s = Unit {0}

abbrev any : {A : Type 0} → A → A → Type 0
any x y = Unit {0}

abbrev as_long : Insn → Insn → Type 0
as_long i j = slots_of i ≡ slots_of j

abbrev as_far : ℕ → Option Insn → Option Insn → Type 0
as_far slot o p = slot_behind slot o ≡ slot_behind slot p

same : {A : Type 0} (R : A → A → Type 0) → ((x : A) → R x x) → (r : Result A AsmKind) → Settles R r r
same R own (Ok x) = own x
same R own (Err k) = tt

-- a step that both passes take alike, and then steps that settle
after : {A B : Type 0} (S : B → B → Type 0) (r : Result A AsmKind) (f g : A → Result B AsmKind) → ((x : A) → Settles S (f x) (g x)) → Settles S (r >>= f) (r >>= g)
after S (Ok x) f g h = h x
after S (Err k) f g h = tt

unknown : {B : Type 0} (S : B → B → Type 0) (r : Result B AsmKind) (k : AsmKind) → k ≡ kind.Unknown → Settles S r (Err k)
unknown S (Ok z) k e = e
unknown S (Err j) k e = tt

-- steps that settle, and then steps that settle wherever those are alike
both : {A B : Type 0} (R : A → A → Type 0) (S : B → B → Type 0) (p q : Result A AsmKind) (f g : A → Result B AsmKind) → Settles R p q → ((x y : A) → R x y → Settles S (f x) (g y)) → Settles S (p >>= f) (q >>= g)
both R S (Ok x) (Ok y) f g h next = next x y h
both R S (Ok x) (Err k) f g h next = unknown S (f x) k h
both R S (Err j) q f g h next = tt

chosen : {A : Type 0} (S : A → A → Type 0) (b : Bool) (p q : Result A AsmKind) (k : AsmKind) → Settles S p q → Settles S (if b then p else Err k) (if b then q else Err k)
chosen S true p q k h = h
chosen S false p q k h = tt

either : {A : Type 0} (S : A → A → Type 0) (b : Bool) (p r q s : Result A AsmKind) → Settles S p r → Settles S q s → Settles S (if b then p else q) (if b then r else s)
either S true p r q s h k = h
either S false p r q s h k = k

-- ---- labels and targets

-- each label stands for a slot of at most 4,096
abbrev pub are_near : List (List ℕ × ℕ) → Bool
are_near labels = list_all (λ e. nat_le e.1 4096) labels

near_one : (b : Bool) (to from : ℕ) (more : Option ℕ) → (if b then Some from else more) ≡ Some to → from ≤ 4096 → (more ≡ Some to → to ≤ 4096) → to ≤ 4096
near_one true to from more e near next = let same_slot : from ≡ to = cc in omega arith
near_one false to from more e near next = next e

near_slot : (labels : List (List ℕ × ℕ)) (name : List ℕ) (to : ℕ) → are_near labels ≡ true → slot_of name labels ≡ Some to → to ≤ 4096
near_slot [] name to near e = absurd cc
near_slot (l ∷ labels) name to near e =
    let one : l.1 ≤ 4096 = grind (arith, nat_tests) in
    let rest : are_near labels ≡ true = grind arith in
    near_one (bytes_eq name l.0) to l.1 (slot_of name labels) e one (near_slot labels name to rest)

-- in a field of 16 bits or more every slot is in reach
signed_settles : (half n : ℕ) (negative : Bool) → n < half → Settles any (Ok (pos 0)) (or_fault kind.Range (signed half negative n))
signed_settles half n true h = let le : nat_le n half ≡ true = grind (arith, nat_tests) in rw le tt
signed_settles half n false h = let lt : nat_lt n half ≡ true = grind (arith, nat_tests) in rw lt tt

distance_at : (half slot to : ℕ) (b : Bool) → 4098 ≤ half → slot ≤ 4096 → to ≤ 4096 → Settles any (Ok (pos 0)) (or_fault kind.Range (if b then signed half true (slot + 1 - to) else signed half false (to - (slot + 1))))
distance_at half slot to true big small near = signed_settles half (slot + 1 - to) true (omega arith)
distance_at half slot to false big small near = signed_settles half (to - (slot + 1)) false (omega arith)

reach_settles : (half slot : ℕ) (o : Option ℕ) → 4098 ≤ half → slot ≤ 4096 → ((to : ℕ) → o ≡ Some to → to ≤ 4096) → Settles any (Ok (pos 0)) (reach half slot o)
reach_settles half slot None big small near = refl
reach_settles half slot (Some to) big small near = distance_at half slot to (nat_le to slot) big small (near to refl)

target_settles : (half : ℕ) (labels all : List (List ℕ × ℕ)) (slot : ℕ) (w : List ℕ) → 4098 ≤ half → slot ≤ 4096 → are_near all ≡ true → Settles any (target_at half labels slot false w) (target_at half all slot true w)
unfolding target_at label_at
target_settles half labels all slot w big small near =
    either any (begins_with is_sign w) (or_fault kind.Number (offset half w)) (or_fault kind.Number (offset half w)) (Ok (pos 0)) (reach half slot (slot_of w all))
    (same any (λ x. tt) (or_fault kind.Number (offset half w))) (reach_settles half slot (slot_of w all) big small (λ to e. near_slot all w to near e))

-- ---- instructions

one_settles : (half : ℕ) (labels all : List (List ℕ × ℕ)) (slot : ℕ) (ws : List (List ℕ)) → 4098 ≤ half → slot ≤ 4096 → are_near all ≡ true → Settles any (one_target half labels slot false ws) (one_target half all slot true ws)
unfolding one_target
one_settles half labels all slot [] big small near = tt
one_settles half labels all slot (t ∷ []) big small near = chosen any (is_target t) (target_at half labels slot false t) (target_at half all slot true t) kind.Operand (target_settles half labels all slot t big small near)
one_settles half labels all slot (t ∷ u ∷ ws) big small near = tt

three_settle : (labels all : List (List ℕ × ℕ)) (slot : ℕ) (d s t : List ℕ) → slot ≤ 4096 → are_near all ≡ true → Settles any (register_value_target_of labels slot false d s t) (register_value_target_of all slot true d s t)
unfolding register_value_target_of
three_settle labels all slot d s t small near =
    chosen any (is_register d && is_value s && is_target t) _ _ kind.Operand (after any (register_at d) _ _ (λ dst. after any (value_at s) _ _ (λ src.
    both any any (target_at (2 ^ 15) labels slot false t) (target_at (2 ^ 15) all slot true t) (λ offset. Ok (dst, src, offset)) (λ offset. Ok (dst, src, offset)) (target_settles (2 ^ 15) labels all slot t (omega arith) small near) (λ x y h. tt))))

jump_settles : (labels all : List (List ℕ × ℕ)) (slot : ℕ) (ws : List (List ℕ)) → slot ≤ 4096 → are_near all ≡ true → Settles any (register_value_target labels slot false ws) (register_value_target all slot true ws)
unfolding register_value_target
jump_settles labels all slot (d ∷ s ∷ t ∷ []) small near = three_settle labels all slot d s t small near
jump_settles labels all slot [] small near = tt
jump_settles labels all slot (d ∷ []) small near = tt
jump_settles labels all slot (d ∷ s ∷ []) small near = tt
jump_settles labels all slot (d ∷ s ∷ t ∷ u ∷ ws) small near = tt

insn_settles : (labels all : List (List ℕ × ℕ)) (slot : ℕ) (m : Mnemonic) (ws : List (List ℕ)) → slot ≤ 4096 → are_near all ≡ true → Settles as_long (insn_of labels slot false m ws) (insn_of all slot true m ws)
unfolding insn_of
insn_settles labels all slot mnemonic.Ja ws small near = both any as_long (one_target (2 ^ 15) labels slot false ws) (one_target (2 ^ 15) all slot true ws) (λ t. Ok (insn.Ja t)) (λ t. Ok (insn.Ja t)) (one_settles (2 ^ 15) labels all slot ws (omega arith) small near) (λ x y h. refl)
insn_settles labels all slot mnemonic.JaFar ws small near = both any as_long (one_target (2 ^ 31) labels slot false ws) (one_target (2 ^ 31) all slot true ws) (λ t. Ok (insn.JaFar t)) (λ t. Ok (insn.JaFar t)) (one_settles (2 ^ 31) labels all slot ws (omega arith) small near) (λ x y h. refl)
insn_settles labels all slot (mnemonic.Jump wide c) ws small near = both any as_long (register_value_target labels slot false ws) (register_value_target all slot true ws) (λ o. Ok (insn.Jump wide c o.0 o.1 o.2)) (λ o. Ok (insn.Jump wide c o.0 o.1 o.2)) (jump_settles labels all slot ws small near) (λ x y h. refl)
insn_settles labels all slot mnemonic.Call ws small near = both any as_long (one_target (2 ^ 31) labels slot false ws) (one_target (2 ^ 31) all slot true ws) (λ t. Ok (insn.Call t)) (λ t. Ok (insn.Call t)) (one_settles (2 ^ 31) labels all slot ws (omega arith) small near) (λ x y h. refl)
insn_settles labels all slot (mnemonic.Alu wide op) ws small near = same as_long (λ i. refl) (insn_of labels slot false (mnemonic.Alu wide op) ws)
insn_settles labels all slot (mnemonic.Neg wide) ws small near = same as_long (λ i. refl) (insn_of labels slot false (mnemonic.Neg wide) ws)
insn_settles labels all slot (mnemonic.MovSx wide bits) ws small near = same as_long (λ i. refl) (insn_of labels slot false (mnemonic.MovSx wide bits) ws)
insn_settles labels all slot (mnemonic.End o bits) ws small near = same as_long (λ i. refl) (insn_of labels slot false (mnemonic.End o bits) ws)
insn_settles labels all slot mnemonic.Exit ws small near = same as_long (λ i. refl) (insn_of labels slot false mnemonic.Exit ws)
insn_settles labels all slot (mnemonic.Load z) ws small near = same as_long (λ i. refl) (insn_of labels slot false (mnemonic.Load z) ws)
insn_settles labels all slot (mnemonic.LoadSx z) ws small near = same as_long (λ i. refl) (insn_of labels slot false (mnemonic.LoadSx z) ws)
insn_settles labels all slot (mnemonic.StoreImm z) ws small near = same as_long (λ i. refl) (insn_of labels slot false (mnemonic.StoreImm z) ws)
insn_settles labels all slot (mnemonic.StoreReg z) ws small near = same as_long (λ i. refl) (insn_of labels slot false (mnemonic.StoreReg z) ws)
insn_settles labels all slot (mnemonic.Atomic wide op fetch) ws small near = same as_long (λ i. refl) (insn_of labels slot false (mnemonic.Atomic wide op fetch) ws)
insn_settles labels all slot mnemonic.LoadWide ws small near = same as_long (λ i. refl) (insn_of labels slot false mnemonic.LoadWide ws)

within_at : (slot : ℕ) (i j : Insn) (b c : Bool) → b ≡ c → slots_of i ≡ slots_of j → Settles (as_far slot) (if b then Ok (Some i) else Err kind.Long) (if c then Ok (Some j) else Err kind.Long)
within_at slot i j true true e h = ap (λ n. slot + n) h
within_at slot i j true false e h = absurd cc
within_at slot i j false c e h = tt

within_settles : (slot : ℕ) (i j : Insn) → slots_of i ≡ slots_of j → Settles (as_far slot) (within_code slot i) (within_code slot j)
unfolding within_code
within_settles slot i j h = within_at slot i j (nat_le (slot + slots_of i) 4096) (nat_le (slot + slots_of j) 4096) (ap (λ n. nat_le (slot + n) 4096) h) h

with_settles : (labels all : List (List ℕ × ℕ)) (slot : ℕ) (o : Option Mnemonic) (rest : List ℕ) → slot ≤ 4096 → are_near all ≡ true → Settles (as_far slot) (insn_with labels slot false o rest) (insn_with all slot true o rest)
unfolding insn_with
with_settles labels all slot None rest small near = tt
with_settles labels all slot (Some m) rest small near = both as_long (as_far slot) (insn_of labels slot false m (operand_words rest)) (insn_of all slot true m (operand_words rest)) (within_code slot) (within_code slot) (insn_settles labels all slot m (operand_words rest) small near) (within_settles slot)

at_settles : (labels all : List (List ℕ × ℕ)) (slot : ℕ) (text : List ℕ) → slot ≤ 4096 → are_near all ≡ true → Settles (as_far slot) (insn_at labels slot false text) (insn_at all slot true text)
unfolding insn_at
at_settles labels all slot text small near =
    either (as_far slot) (has_no_word text) (Ok None) (Ok None) (insn_with labels slot false (mnemonic_spelled (first_word text)) (behind_word text)) (insn_with all slot true (mnemonic_spelled (first_word text)) (behind_word text))
    refl (with_settles labels all slot (mnemonic_spelled (first_word text)) (behind_word text) small near)

-- ---- what an instruction leaves within the code

abbrev IsShort : ℕ → Result (Option Insn) AsmKind → Type 0
IsShort slot (Ok o) = slot_behind slot o ≤ 4096
IsShort slot (Err k) = Unit {0}

within_short : (slot : ℕ) (i : Insn) (b : Bool) → nat_le (slot + slots_of i) 4096 ≡ b → IsShort slot (if b then Ok (Some i) else Err kind.Long)
within_short slot i true e = grind (arith, nat_tests)
within_short slot i false e = tt

then_short : {A : Type 0} (slot : ℕ) (r : Result A AsmKind) (f : A → Result (Option Insn) AsmKind) → ((x : A) → IsShort slot (f x)) → IsShort slot (r >>= f)
then_short slot (Ok x) f h = h x
then_short slot (Err k) f h = tt

with_short : (labels : List (List ℕ × ℕ)) (slot : ℕ) (settled : Bool) (o : Option Mnemonic) (rest : List ℕ) → IsShort slot (insn_with labels slot settled o rest)
unfolding insn_with within_code
with_short labels slot settled None rest = tt
with_short labels slot settled (Some m) rest = then_short slot (insn_of labels slot settled m (operand_words rest)) (within_code slot) (λ i. within_short slot i (nat_le (slot + slots_of i) 4096) refl)

short_at : (slot : ℕ) (b : Bool) (r : Result (Option Insn) AsmKind) → slot ≤ 4096 → IsShort slot r → IsShort slot (if b then Ok None else r)
short_at slot true r small h = small
short_at slot false r small h = h

at_short : (labels : List (List ℕ × ℕ)) (slot : ℕ) (settled : Bool) (text : List ℕ) → slot ≤ 4096 → IsShort slot (insn_at labels slot settled text)
unfolding insn_at
at_short labels slot settled text small = short_at slot (has_no_word text) (insn_with labels slot settled (mnemonic_spelled (first_word text)) (behind_word text)) small (with_short labels slot settled (mnemonic_spelled (first_word text)) (behind_word text))

-- ---- a line

-- the slot and the labels so far are within the code
record IsWithin (a : SoFar) : Type 0 where
  slot : a.slot ≤ 4096
  near : are_near a.labels ≡ true

-- what the second pass reads where the first went from one slot to another
abbrev Taken : ℕ → ℕ → Result (Option Insn) AsmKind → Type 0
Taken from to (Ok o) = slot_behind from o ≡ to
Taken from to (Err k) = k ≡ kind.Unknown

record IsTaken (a c : SoFar) (all : List (List ℕ × ℕ)) (line : List ℕ) : Type 0 where
  within : IsWithin c
  settles : Taken a.slot c.slot (settle_line all a.slot line)

near_more : (labels : List (List ℕ × ℕ)) (name : List ℕ) (slot : ℕ) → are_near labels ≡ true → slot ≤ 4096 → are_near (labels ++ (name, slot) ∷ []) ≡ true
near_more [] name slot near small = grind (arith, nat_tests)
near_more (l ∷ labels) name slot near small = grind (arith, near_more labels name slot)

label_at_slot : (a b : SoFar) (name : List ℕ) (t : Bool) → (if t then Ok (record a { labels = a.labels ++ (name, a.slot) ∷ [] }) else Err kind.Label) ≡ Ok b → IsWithin a → (b.slot ≡ a.slot) × IsWithin b
label_at_slot a b name true e w =
    let added : SoFar = record a { labels = a.labels ++ (name, a.slot) ∷ [] } in
    let is : added ≡ b = cc in
    let within : IsWithin added = record { slot = w.slot; near = near_more a.labels name a.slot w.near w.slot } in
    (sym (ap (λ (s : SoFar). s.slot) is), subst IsWithin is within)
label_at_slot a b name false e w = absurd cc

label_kept : (a b : SoFar) (o : Option (List ℕ)) → with_label a o ≡ Ok b → IsWithin a → (b.slot ≡ a.slot) × IsWithin b
unfolding with_label
label_kept a b None e w = let is : a ≡ b = cc in (sym (ap (λ (s : SoFar). s.slot) is), subst IsWithin is w)
label_kept a b (Some name) e w = label_at_slot a b name (is_label name && is_new (slot_of name a.labels)) e w

taken_of : (slot : ℕ) (i : Option Insn) (r : Result (Option Insn) AsmKind) → Settles (as_far slot) (Ok i) r → Taken slot (slot_behind slot i) r
taken_of slot i (Ok o) h = sym h
taken_of slot i (Err k) h = h

insn_then : (a b c : SoFar) (all : List (List ℕ × ℕ)) (line text : List ℕ) (r : Result (Option Insn) AsmKind) → text ≡ behind_label (without_comment line) → insn_at b.labels b.slot false text ≡ r → (r >>= λ i. Ok (with_insn b i)) ≡ Ok c → b.slot ≡ a.slot → IsWithin b → are_near all ≡ true → IsTaken a c all line
insn_then a b c all line text (Err k) is e h same_slot w near = absurd cc
insn_then a b c all line text (Ok i) is e h same_slot w near =
    let made : with_insn b i ≡ c = cc in
    let short : slot_behind b.slot i ≤ 4096 = subst (IsShort b.slot) e (at_short b.labels b.slot false text w.slot) in
    let within : IsWithin (with_insn b i) = record { slot = short; near = w.near } in
    let taken : Taken b.slot (slot_behind b.slot i) (insn_at all b.slot true text) = taken_of b.slot i (insn_at all b.slot true text) (subst (λ (q : Result (Option Insn) AsmKind). Settles (as_far b.slot) q (insn_at all b.slot true text)) e (at_settles b.labels all b.slot text w.slot near)) in
    let to : slot_behind b.slot i ≡ c.slot = ap (λ (s : SoFar). s.slot) made in
    record {
      within = subst IsWithin made within;
      settles = subst (λ (n : ℕ). Taken n c.slot (insn_at all n true (behind_label (without_comment line)))) same_slot (subst (λ (t : List ℕ). Taken b.slot c.slot (insn_at all b.slot true t)) is (subst (λ (n : ℕ). Taken b.slot n (insn_at all b.slot true text)) to taken));
    }

text_then : (a c : SoFar) (all : List (List ℕ × ℕ)) (line : List ℕ) (r : Result SoFar AsmKind) → with_label a (label_of (without_comment line)) ≡ r → (r >>= λ b. insn_at b.labels b.slot false (behind_label (without_comment line)) >>= λ i. Ok (with_insn b i)) ≡ Ok c → IsWithin a → are_near all ≡ true → IsTaken a c all line
text_then a c all line (Err k) e h w near = absurd cc
text_then a c all line (Ok b) e h w near =
    let kept = label_kept a b (label_of (without_comment line)) e w in
    insn_then a b c all line (behind_label (without_comment line)) (insn_at b.labels b.slot false (behind_label (without_comment line))) refl refl h kept.0 kept.1 near

line_then : (a c : SoFar) (all : List (List ℕ × ℕ)) (line : List ℕ) (t : Bool) → (if t then scan_text a (without_comment line) else Err kind.Char) ≡ Ok c → IsWithin a → are_near all ≡ true → IsTaken a c all line
unfolding scan_text
line_then a c all line true e w near = text_then a c all line (with_label a (label_of (without_comment line))) refl e w near
line_then a c all line false e w near = absurd cc

line_settles : (a c : SoFar) (all : List (List ℕ × ℕ)) (line : List ℕ) → scan_line a line ≡ Ok c → IsWithin a → are_near all ≡ true → IsTaken a c all line
unfolding scan_line
line_settles a c all line e w near = line_then a c all line (list_all is_line_byte line) e w near

-- ---- all lines

scan_more : (n : ℕ) (a c : SoFar) (line : List ℕ) (rest : List (List ℕ)) (r : Result SoFar AsmKind) → scan_line a line ≡ r → (at_line n r >>= λ b. scan (n + 1) b rest) ≡ Ok c → IsWithin a → ((b : SoFar) → scan (n + 1) b rest ≡ Ok c → IsWithin b → IsWithin c) → IsWithin c
scan_more n a c line rest (Err k) e h w more = absurd cc
scan_more n a c line rest (Ok b) e h w more = let t = line_settles a b [] line e w refl in more b h t.within

scan_within : (n : ℕ) (a c : SoFar) (ls : List (List ℕ)) → scan n a ls ≡ Ok c → IsWithin a → IsWithin c
scan_within n a c [] h w = let is : a ≡ c = cc in subst IsWithin is w
scan_within n a c (line ∷ rest) h w = scan_more n a c line rest (scan_line a line) refl h w (λ b i v. scan_within (n + 1) b c rest i v)

slots_insns : (code : List Insn) (o : Option Insn) → slots (code ++ insns o) ≡ slot_behind (slots code) o
slots_insns code None = ap slots (append-nil code)
slots_insns code (Some i) = slots_grown code i

settled_then : (n : ℕ) (all : List (List ℕ × ℕ)) (code : List Insn) (rest : List (List ℕ)) (from to : ℕ) (r : Result (Option Insn) AsmKind) → slots code ≡ from → Taken from to r → ((o : Option Insn) → slots (code ++ insns o) ≡ to → IsSettled (settle all (n + 1) (code ++ insns o) rest)) → IsSettled (at_line n r >>= λ i. settle all (n + 1) (code ++ insns i) rest)
settled_then n all code rest from to (Err k) at taken more = taken
settled_then n all code rest from to (Ok o) at taken more = more o (slots_insns code o ∙ ap (λ s. slot_behind s o) at ∙ taken)

settle_more : (n : ℕ) (a c : SoFar) (all : List (List ℕ × ℕ)) (code : List Insn) (line : List ℕ) (rest : List (List ℕ)) (r : Result SoFar AsmKind) → scan_line a line ≡ r → (at_line n r >>= λ b. scan (n + 1) b rest) ≡ Ok c → slots code ≡ a.slot → IsWithin a → are_near all ≡ true → ((b : SoFar) (more : List Insn) → scan (n + 1) b rest ≡ Ok c → slots more ≡ b.slot → IsWithin b → IsSettled (settle all (n + 1) more rest)) → IsSettled (settle all n code (line ∷ rest))
settle_more n a c all code line rest (Err k) e h at w near next = absurd cc
settle_more n a c all code line rest (Ok b) e h at w near next =
    let t = line_settles a b all line e w near in
    let taken : Taken a.slot b.slot (settle_line all (slots code) line) = subst (λ (s : ℕ). Taken a.slot b.slot (settle_line all s line)) (sym at) t.settles in
    settled_then n all code rest a.slot b.slot (settle_line all (slots code) line) at taken (λ o to. next b (code ++ insns o) h to t.within)

settle_settles : (n : ℕ) (a c : SoFar) (all : List (List ℕ × ℕ)) (code : List Insn) (ls : List (List ℕ)) → scan n a ls ≡ Ok c → slots code ≡ a.slot → IsWithin a → are_near all ≡ true → IsSettled (settle all n code ls)
settle_settles n a c all code [] h at w near = tt
settle_settles n a c all code (line ∷ rest) h at w near = settle_more n a c all code line rest (scan_line a line) refl h at w near (λ b more i to v. settle_settles (n + 1) b c all more rest i to v near)

pub only_unknown : (text : List ℕ) (a : SoFar) → scan 1 nothing (lines text) ≡ Ok a → IsSettled (settle a.labels 1 [] (lines text))
only_unknown text a h =
    let start : IsWithin nothing = record { slot = omega arith; near = refl } in
    let end = scan_within 1 nothing a (lines text) h start in
    settle_settles 1 nothing a a.labels [] (lines text) h refl start end.near
