-- No text has a label that is too far for a jump.
use Rattle.std.proofs.Common.{◌≡◌, ℕ, ◌+◌, ◌^◌, List, [], ◌∷◌, Bool, true, false, refl, subst, Option, Some, None}
use Rattle.std.specs.Prelude.{pos, Result, Ok, Err, nat_le, ◌&&◌, if◌then◌else◌}
use Rattle.std.specs.List.{list_all}
use Rattle.sbpf_insn.specs.declared.insn.Insn.{Insn}
use Rattle.sbpf_insn.specs.Decoded.{slots_of}
use Rattle.sbpf_text.specs.declared.fault.AsmKind.{AsmKind}
use Rattle.sbpf_text.specs.declared.fault.AsmKind.TheVariants as kind
use Rattle.sbpf_text.specs.declared.fault.AsmFault.{AsmFault}
use Rattle.sbpf_text.specs.declared.mnemonic.Mnemonic.{Mnemonic}
use Rattle.sbpf_text.specs.declared.mnemonic.Mnemonic.TheVariants as mnemonic
use Rattle.sbpf_text.specs.Faults.{◌>>=◌, or_fault, at_line}
use Rattle.sbpf_text.specs.Lexing.{lines, label_of, behind_label, without_comment, is_line_byte, has_no_word, first_word, behind_word, operand_words, begins_with, is_label}
use Rattle.sbpf_text.specs.Forms.{is_register, is_number, is_value, is_target, is_address, is_sign, base_of, offset_of}
use Rattle.sbpf_text.specs.Numbers.{register, number, wide_number, offset}
use Rattle.sbpf_text.specs.Labels.{slot_of}
use Rattle.sbpf_text.specs.Operands.{register_at, number_at, wide_at, offset_at, value_at, label_at, target_at}
use Rattle.sbpf_text.specs.Mnemonics.{mnemonic_spelled}
use Rattle.sbpf_text.specs.Instructions.{one_register, two_registers, register_value, register_wide, register_address, address_number_of, address_number, address_register_of, address_register, one_target, register_value_target_of, register_value_target, no_operands, insn_of, within_code, insn_with, insn_at}
use Rattle.sbpf_text.specs.Asm.{SoFar, nothing, is_new, with_label, scan_text, scan_line, scan, settle, asm}
use Rattle.sbpf_text.specs.SecondPass.{IsSettled}
use Rattle.sbpf_text.proofs.LeftBehind.{only_unknown}

-- no fault, or another than `Range`
abbrev IsNear : {A : Type 0} → Result A AsmKind → Type 0
IsNear (Ok x) = Unit {0}
IsNear (Err k) = k ≡ kind.Range → ⊥

or_near : {A : Type 0} (k : AsmKind) → (k ≡ kind.Range → ⊥) → (o : Option A) → IsNear (or_fault k o)
or_near k other None = other
or_near k other (Some x) = tt

after_near : {A B : Type 0} (r : Result A AsmKind) (f : A → Result B AsmKind) → IsNear r → ((x : A) → IsNear (f x)) → IsNear (r >>= f)
after_near (Ok x) f h next = next x
after_near (Err k) f h next = h

formed_near : {A : Type 0} (b : Bool) (r : Result A AsmKind) → IsNear r → IsNear (if b then r else Err kind.Operand)
formed_near true r h = h
formed_near false r h = λ e. cc

either_near : {A : Type 0} (b : Bool) (p q : Result A AsmKind) → IsNear p → IsNear q → IsNear (if b then p else q)
either_near true p q h k = h
either_near false p q h k = k

-- ---- operands, while labels aren't settled

register_near : (w : List ℕ) → IsNear (register_at w)
register_near w = or_near kind.Register (λ e. cc) (register w)

number_near : (w : List ℕ) → IsNear (number_at w)
number_near w = or_near kind.Number (λ e. cc) (number (2 ^ 31) w)

wide_near : (w : List ℕ) → IsNear (wide_at w)
wide_near w = or_near kind.Number (λ e. cc) (wide_number w)

offset_near : (w : List ℕ) → IsNear (offset_at w)
offset_near w = or_near kind.Number (λ e. cc) (offset (2 ^ 15) w)

value_near : (w : List ℕ) → IsNear (value_at w)
unfolding value_at
value_near w = either_near (is_register w) _ _ (after_near (register_at w) _ (register_near w) (λ r. tt)) (after_near (number_at w) _ (number_near w) (λ k. tt))

target_near : (half : ℕ) (labels : List (List ℕ × ℕ)) (slot : ℕ) (w : List ℕ) → IsNear (target_at half labels slot false w)
unfolding target_at label_at
target_near half labels slot w = either_near (begins_with is_sign w) (or_fault kind.Number (offset half w)) (Ok (pos 0)) (or_near kind.Number (λ e. cc) (offset half w)) tt

one_register_near : (ws : List (List ℕ)) → IsNear (one_register ws)
unfolding one_register
one_register_near [] = λ e. cc
one_register_near (d ∷ []) = formed_near (is_register d) (register_at d) (register_near d)
one_register_near (d ∷ s ∷ ws) = λ e. cc

two_registers_near : (ws : List (List ℕ)) → IsNear (two_registers ws)
unfolding two_registers
two_registers_near [] = λ e. cc
two_registers_near (d ∷ []) = λ e. cc
two_registers_near (d ∷ s ∷ []) = formed_near (is_register d && is_register s) _ (after_near (register_at d) _ (register_near d) (λ x. after_near (register_at s) _ (register_near s) (λ x. tt)))
two_registers_near (d ∷ s ∷ t ∷ ws) = λ e. cc

register_value_near : (ws : List (List ℕ)) → IsNear (register_value ws)
unfolding register_value
register_value_near [] = λ e. cc
register_value_near (d ∷ []) = λ e. cc
register_value_near (d ∷ s ∷ []) = formed_near (is_register d && is_value s) _ (after_near (register_at d) _ (register_near d) (λ x. after_near (value_at s) _ (value_near s) (λ x. tt)))
register_value_near (d ∷ s ∷ t ∷ ws) = λ e. cc

register_wide_near : (ws : List (List ℕ)) → IsNear (register_wide ws)
unfolding register_wide
register_wide_near [] = λ e. cc
register_wide_near (d ∷ []) = λ e. cc
register_wide_near (d ∷ s ∷ []) = formed_near (is_register d && is_number s) _ (after_near (register_at d) _ (register_near d) (λ x. after_near (wide_at s) _ (wide_near s) (λ x. tt)))
register_wide_near (d ∷ s ∷ t ∷ ws) = λ e. cc

register_address_near : (ws : List (List ℕ)) → IsNear (register_address ws)
unfolding register_address
register_address_near [] = λ e. cc
register_address_near (d ∷ []) = λ e. cc
register_address_near (d ∷ s ∷ []) = formed_near (is_register d && is_address s) _ (after_near (register_at d) _ (register_near d) (λ x. after_near (register_at (base_of s)) _ (register_near (base_of s)) (λ x. after_near (offset_at (offset_of s)) _ (offset_near (offset_of s)) (λ x. tt))))
register_address_near (d ∷ s ∷ t ∷ ws) = λ e. cc

address_number_near : (ws : List (List ℕ)) → IsNear (address_number ws)
unfolding address_number address_number_of
address_number_near [] = λ e. cc
address_number_near (d ∷ []) = λ e. cc
address_number_near (d ∷ s ∷ []) = formed_near (is_address d && is_number s) _ (after_near (register_at (base_of d)) _ (register_near (base_of d)) (λ x. after_near (offset_at (offset_of d)) _ (offset_near (offset_of d)) (λ x. after_near (number_at s) _ (number_near s) (λ x. tt))))
address_number_near (d ∷ s ∷ t ∷ ws) = λ e. cc

address_register_near : (ws : List (List ℕ)) → IsNear (address_register ws)
unfolding address_register address_register_of
address_register_near [] = λ e. cc
address_register_near (d ∷ []) = λ e. cc
address_register_near (d ∷ s ∷ []) = formed_near (is_address d && is_register s) _ (after_near (register_at (base_of d)) _ (register_near (base_of d)) (λ x. after_near (register_at s) _ (register_near s) (λ x. after_near (offset_at (offset_of d)) _ (offset_near (offset_of d)) (λ x. tt))))
address_register_near (d ∷ s ∷ t ∷ ws) = λ e. cc

one_target_near : (half : ℕ) (labels : List (List ℕ × ℕ)) (slot : ℕ) (ws : List (List ℕ)) → IsNear (one_target half labels slot false ws)
unfolding one_target
one_target_near half labels slot [] = λ e. cc
one_target_near half labels slot (t ∷ []) = formed_near (is_target t) (target_at half labels slot false t) (target_near half labels slot t)
one_target_near half labels slot (t ∷ u ∷ ws) = λ e. cc

jump_near : (labels : List (List ℕ × ℕ)) (slot : ℕ) (ws : List (List ℕ)) → IsNear (register_value_target labels slot false ws)
unfolding register_value_target register_value_target_of
jump_near labels slot [] = λ e. cc
jump_near labels slot (d ∷ []) = λ e. cc
jump_near labels slot (d ∷ s ∷ []) = λ e. cc
jump_near labels slot (d ∷ s ∷ t ∷ []) = formed_near (is_register d && is_value s && is_target t) _ (after_near (register_at d) _ (register_near d) (λ x. after_near (value_at s) _ (value_near s) (λ y. after_near (target_at (2 ^ 15) labels slot false t) _ (target_near (2 ^ 15) labels slot t) (λ z. tt))))
jump_near labels slot (d ∷ s ∷ t ∷ u ∷ ws) = λ e. cc

no_operands_near : (ws : List (List ℕ)) → IsNear (no_operands ws)
unfolding no_operands
no_operands_near [] = tt
no_operands_near (w ∷ ws) = λ e. cc

-- ---- instructions and lines

insn_near : (labels : List (List ℕ × ℕ)) (slot : ℕ) (m : Mnemonic) (ws : List (List ℕ)) → IsNear (insn_of labels slot false m ws)
unfolding insn_of
insn_near labels slot (mnemonic.Alu wide op) ws = after_near (register_value ws) _ (register_value_near ws) (λ o. tt)
insn_near labels slot (mnemonic.Neg wide) ws = after_near (one_register ws) _ (one_register_near ws) (λ o. tt)
insn_near labels slot (mnemonic.MovSx wide bits) ws = after_near (two_registers ws) _ (two_registers_near ws) (λ o. tt)
insn_near labels slot (mnemonic.End o bits) ws = after_near (one_register ws) _ (one_register_near ws) (λ o. tt)
insn_near labels slot (mnemonic.Load z) ws = after_near (register_address ws) _ (register_address_near ws) (λ o. tt)
insn_near labels slot (mnemonic.LoadSx z) ws = after_near (register_address ws) _ (register_address_near ws) (λ o. tt)
insn_near labels slot (mnemonic.StoreImm z) ws = after_near (address_number ws) _ (address_number_near ws) (λ o. tt)
insn_near labels slot (mnemonic.StoreReg z) ws = after_near (address_register ws) _ (address_register_near ws) (λ o. tt)
insn_near labels slot (mnemonic.Atomic wide op fetch) ws = after_near (address_register ws) _ (address_register_near ws) (λ o. tt)
insn_near labels slot mnemonic.LoadWide ws = after_near (register_wide ws) _ (register_wide_near ws) (λ o. tt)
insn_near labels slot mnemonic.Ja ws = after_near (one_target (2 ^ 15) labels slot false ws) _ (one_target_near (2 ^ 15) labels slot ws) (λ t. tt)
insn_near labels slot mnemonic.JaFar ws = after_near (one_target (2 ^ 31) labels slot false ws) _ (one_target_near (2 ^ 31) labels slot ws) (λ t. tt)
insn_near labels slot mnemonic.Call ws = after_near (one_target (2 ^ 31) labels slot false ws) _ (one_target_near (2 ^ 31) labels slot ws) (λ t. tt)
insn_near labels slot (mnemonic.Jump wide c) ws = after_near (register_value_target labels slot false ws) _ (jump_near labels slot ws) (λ o. tt)
insn_near labels slot mnemonic.Exit ws = no_operands_near ws

within_near : (slot : ℕ) (i : Insn) → IsNear (within_code slot i)
unfolding within_code
within_near slot i = either_near (nat_le (slot + slots_of i) 4096) (Ok (Some i)) (Err kind.Long) tt (λ e. cc)

with_near : (labels : List (List ℕ × ℕ)) (slot : ℕ) (o : Option Mnemonic) (rest : List ℕ) → IsNear (insn_with labels slot false o rest)
unfolding insn_with
with_near labels slot None rest = λ e. cc
with_near labels slot (Some m) rest = after_near (insn_of labels slot false m (operand_words rest)) (within_code slot) (insn_near labels slot m (operand_words rest)) (within_near slot)

at_near : (labels : List (List ℕ × ℕ)) (slot : ℕ) (text : List ℕ) → IsNear (insn_at labels slot false text)
unfolding insn_at
at_near labels slot text = either_near (has_no_word text) (Ok None) (insn_with labels slot false (mnemonic_spelled (first_word text)) (behind_word text)) tt (with_near labels slot (mnemonic_spelled (first_word text)) (behind_word text))

label_near : (a : SoFar) (o : Option (List ℕ)) → IsNear (with_label a o)
unfolding with_label
label_near a None = tt
label_near a (Some name) = either_near (is_label name && is_new (slot_of name a.labels)) _ (Err kind.Label) tt (λ e. cc)

text_near : (a : SoFar) (t : List ℕ) → IsNear (scan_text a t)
unfolding scan_text
text_near a t = after_near (with_label a (label_of t)) _ (label_near a (label_of t)) (λ b. after_near (insn_at b.labels b.slot false (behind_label t)) _ (at_near b.labels b.slot (behind_label t)) (λ i. tt))

line_near : (a : SoFar) (line : List ℕ) → IsNear (scan_line a line)
unfolding scan_line
line_near a line = either_near (list_all is_line_byte line) (scan_text a (without_comment line)) (Err kind.Char) (text_near a (without_comment line)) (λ e. cc)

-- ---- texts

abbrev IsNearText : {A : Type 0} → Result A AsmFault → Type 0
IsNearText (Ok x) = Unit {0}
IsNearText (Err f) = f.kind ≡ kind.Range → ⊥

scan_next : (n : ℕ) (rest : List (List ℕ)) (r : Result SoFar AsmKind) → IsNear r → ((b : SoFar) → IsNearText (scan (n + 1) b rest)) → IsNearText (at_line n r >>= λ b. scan (n + 1) b rest)
scan_next n rest (Ok b) h next = next b
scan_next n rest (Err k) h next = h

scan_near : (n : ℕ) (a : SoFar) (ls : List (List ℕ)) → IsNearText (scan n a ls)
scan_near n a [] = tt
scan_near n a (line ∷ rest) = scan_next n rest (scan_line a line) (line_near a line) (λ b. scan_near (n + 1) b rest)

settled_near : {A : Type 0} (r : Result A AsmFault) → IsSettled r → IsNearText r
settled_near (Ok x) h = tt
settled_near (Err f) h = λ e. cc

asm_at : (text : List ℕ) (r : Result SoFar AsmFault) → scan 1 nothing (lines text) ≡ r → IsNearText r → IsNearText (r >>= λ a. settle a.labels 1 [] (lines text))
asm_at text (Ok a) e h = settled_near (settle a.labels 1 [] (lines text)) (only_unknown text a e)
asm_at text (Err f) e h = h

pub never_far : (text : List ℕ) (f : AsmFault) → asm text ≡ Err f → f.kind ≡ kind.Range → ⊥
never_far text f e = subst IsNearText e (asm_at text (scan 1 nothing (lines text)) refl (scan_near 1 nothing (lines text)))
