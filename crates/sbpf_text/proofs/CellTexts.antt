-- The text of code slot by slot.
use Rattle.std.proofs.Common.{◌≡◌, ℕ, ◌+◌, ◌<◌, List, [], ◌∷◌, ◌++◌, take, refl, ap, sym, ◌∙◌, Option, append_assoc}
use Rattle.std.proofs.lemmas.List.{append-nil}
use Rattle.sbpf_insn.specs.declared.insn.Insn.{Insn}
use Rattle.sbpf_insn.specs.Cells.{cells, insns_of, insns, slots, at_slot}
use Rattle.sbpf_insn.proofs.CellLaws.{insns_of-take_more}
use Rattle.sbpf_text.specs.Print.{insn_text, text_of}

text_of-append : (a b : List Insn) → text_of (a ++ b) ≡ text_of a ++ text_of b
text_of-append [] b = refl
text_of-append (i ∷ a) b = ap (λ t. insn_text i ++ t) (text_of-append a b) ∙ sym (append_assoc (insn_text i) (text_of a) (text_of b))

-- the text of one instruction
pub text_of_one : (i : Insn) → text_of (i ∷ []) ≡ insn_text i
text_of_one i = append-nil (insn_text i)

-- the text of the first k slots, and of the next
pub put_step : (code : List Insn) (k : ℕ) (o : Option Insn) (old new : List ℕ) → k < slots code → o ≡ at_slot code k → old ≡ text_of (insns_of (take k (cells code))) → new ≡ old ++ text_of (insns o) → new ≡ text_of (insns_of (take (k + 1) (cells code)))
put_step code k o old new within at before put =
    put ∙ ap (λ t. t ++ text_of (insns o)) before ∙ sym (text_of-append (insns_of (take k (cells code))) (insns o)) ∙ ap text_of (sym (insns_of-take_more code k o within at))
