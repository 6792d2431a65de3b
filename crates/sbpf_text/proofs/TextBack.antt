-- Text read back line by line.
use Rattle.std.proofs.Common.{◌≡◌, ℕ, ◌+◌, ◌≤◌, List, [], ◌∷◌, ◌++◌, length, map, Bool, true, false, refl, ap, sym, ◌∙◌, Some, None, arith, subst, append_assoc}
use Rattle.std.specs.Prelude.{nat_le, ◌&&◌, Ok}
use Rattle.std.specs.List.{list_all}
use Rattle.std.proofs.lemmas.Bool.Decides.{nat_tests}
use Rattle.std.proofs.lemmas.List.{append-nil, length-append}
use Rattle.sbpf_insn.specs.declared.insn.Insn.{Insn}
use Rattle.sbpf_insn.specs.Decoded.{slots_of}
use Rattle.sbpf_insn.specs.Table.{is_well_formed}
use Rattle.sbpf_insn.specs.Program.{AreProper}
use Rattle.sbpf_insn.specs.Cells.{slots, cells, cells_of}
use Rattle.sbpf_insn.proofs.CellLaws.{length-cells_of, slots_grown}
use Rattle.sbpf_text.specs.declared.operand.Operand.{Operand}
use Rattle.sbpf_text.specs.Mnemonics.{word_of}
use Rattle.sbpf_text.specs.Lexing.{lines, first_word, behind_word, has_no_word, operand_words, label_of, behind_label}
use Rattle.sbpf_text.specs.Instructions.{within_code, insn_with, insn_at}
use Rattle.sbpf_insn.specs.Ranges.{fits_fields}
use Rattle.sbpf_text.specs.Print.{operand_text, operands_of, mnemonic_of, further, operands_text, insn_line, text_of}
use Rattle.sbpf_text.specs.Asm.{SoFar, with_label, scan_text, scan_line, scan, settle_line, settle, asm}
use Rattle.sbpf_text.proofs.Cutting.{IsWord, AreWords, Cuts, cut_front, cut_alone, some_word, operands_words, commas, commas_shown, word_shown, append_shown, all_line_bytes, no_comment, one_line, no_colon, is_shown}
use Rattle.sbpf_text.proofs.OperandsBack.{operand_fits, operand_is_word}
use Rattle.sbpf_text.proofs.MnemonicsFound.{found_again}
use Rattle.sbpf_text.proofs.MnemonicWords.{mnemonic_word}
use Rattle.sbpf_text.proofs.InstructionsBack.{insn_back, mnemonic_good, operands_good}

-- ---- the shape of a line

words_of : (ps : List Operand) → list_all operand_fits ps ≡ true → AreWords (map operand_text ps)
words_of [] h = tt
words_of (p ∷ ps) h = (operand_is_word p (grind arith), words_of ps (grind arith))

further_is : (ps : List Operand) → further ps ≡ commas (map operand_text ps)
further_is [] = refl
further_is (p ∷ ps) = ap (λ t. 44 ∷ 32 ∷ (operand_text p ++ t)) (further_is ps)

operands_shown : (ps : List Operand) → AreWords (map operand_text ps) → list_all is_shown (operands_text ps) ≡ true
operands_shown [] h = refl
operands_shown (p ∷ ps) h = append_shown (operand_text p) (further ps) (word_shown (operand_text p) h.0) (ap (list_all is_shown) (further_is ps) ∙ commas_shown (map operand_text ps) h.1)

line_cuts : (w : List ℕ) (ps : List Operand) → IsWord w → Cuts (w ++ operands_text ps) w (operands_text ps)
line_cuts w [] h = subst (λ (t : List ℕ). Cuts t w []) (sym (append-nil w)) (cut_alone w h)
line_cuts w (p ∷ ps) h = cut_front w (operand_text p ++ further ps) h

operands_back : (ps : List Operand) → AreWords (map operand_text ps) → operand_words (operands_text ps) ≡ map operand_text ps
operands_back [] h = refl
operands_back (p ∷ ps) h = ap (λ t. operand_words (32 ∷ (operand_text p ++ t))) (further_is ps) ∙ operands_words (operand_text p) (map operand_text ps) h.0 h.1

-- what is known of an instruction's line
record IsLine (i : Insn) (line : List ℕ) : Type 0 where
  shown : list_all is_shown line ≡ true
  some : has_no_word line ≡ false
  word : first_word line ≡ word_of (mnemonic_of i)
  rest : behind_word line ≡ operands_text (operands_of i)
  plain : IsWord (word_of (mnemonic_of i))
  words : AreWords (map operand_text (operands_of i))

line_is : (i : Insn) → is_well_formed i ≡ true → fits_fields i ≡ true → IsLine i (insn_line i)
line_is i h f =
    let w = mnemonic_word (mnemonic_of i) in
    let ws = words_of (operands_of i) (operands_good i h f) in
    let c = line_cuts (word_of (mnemonic_of i)) (operands_of i) w in
    record {
      shown = append_shown (word_of (mnemonic_of i)) (operands_text (operands_of i)) (word_shown (word_of (mnemonic_of i)) w) (operands_shown (operands_of i) ws);
      some = some_word (word_of (mnemonic_of i)) (operands_text (operands_of i)) w;
      word = c.word;
      rest = c.rest;
      plain = w;
      words = ws;
    }

-- a line has no label
no_label : (i : Insn) (line : List ℕ) → IsLine i line → (label_of line ≡ None) × (behind_label line ≡ line)
no_label i line l = let none = no_colon (word_of (mnemonic_of i)) l.plain in (rw (l.word, none) refl, rw (l.word, none) refl)

at_back : (labels : List (List ℕ × ℕ)) (slot : ℕ) (settled : Bool) (i : Insn) (line : List ℕ) → is_well_formed i ≡ true → fits_fields i ≡ true → IsLine i line → slot + slots_of i ≤ 4096 → insn_at labels slot settled line ≡ Ok (Some i)
unfolding insn_at insn_with within_code
at_back labels slot settled i line h f l fits =
    let found = found_again (mnemonic_of i) (mnemonic_good i h) in
    let within : nat_le (slot + slots_of i) 4096 ≡ true = grind (arith, nat_tests) in
    rw (l.some, l.word, l.rest, found, operands_back (operands_of i) l.words, insn_back labels slot settled i h f, within) refl

-- ---- the first pass

scan_line_back : (slot : ℕ) (i : Insn) → is_well_formed i ≡ true → fits_fields i ≡ true → slot + slots_of i ≤ 4096 → scan_line (record { labels = []; slot = slot }) (insn_line i) ≡ Ok (record { labels = []; slot = slot + slots_of i })
unfolding scan_line scan_text with_label
scan_line_back slot i h f fits =
    let l = line_is i h f in
    let bare = no_label i (insn_line i) l in
    rw (all_line_bytes (insn_line i) l.shown, no_comment (insn_line i) l.shown, bare.0, bare.1, at_back [] slot false i (insn_line i) h f l fits) refl

scan_empty : (a : SoFar) → scan_line a [] ≡ Ok a
unfolding scan_line scan_text with_label insn_at
scan_empty a = refl

no_more : (n slot : ℕ) → scan n (record { labels = []; slot = slot }) ([] ∷ []) ≡ Ok (record { labels = []; slot = slot + 0 })
unfolding scan_line scan_text with_label insn_at
no_more n slot = let e : slot ≡ slot + 0 = omega arith in ap (λ k. let a : SoFar = record { labels = []; slot = k } in Ok a) e

slots_cons : (i : Insn) (code : List Insn) → slots (i ∷ code) ≡ slots_of i + slots code
slots_cons i code = length-append (cells_of i) (cells code) ∙ ap (λ n. n + length (cells code)) (length-cells_of i)

abbrev pub is_sound : Insn → Bool
is_sound i = is_well_formed i && fits_fields i

sound_left : (a b c : Bool) → ((a && b) && c) ≡ true → (a ≡ true) × (b ≡ true) × (c ≡ true)
sound_left a b c h = (grind arith, grind arith, grind arith)

scan_back : (n slot : ℕ) (code : List Insn) → list_all is_sound code ≡ true → slot + slots code ≤ 4096 → scan n (record { labels = []; slot = slot }) (map insn_line code ++ [] ∷ []) ≡ Ok (record { labels = []; slot = slot + slots code })
scan_back n slot [] all fits = no_more n slot
scan_back n slot (i ∷ code) all fits =
    let s = sound_left (is_well_formed i) (fits_fields i) (list_all is_sound code) all in
    let long = slots_cons i code in
    let one = scan_line_back slot i s.0 s.1 (omega (arith, long)) in
    let more = scan_back (n + 1) (slot + slots_of i) code s.2 (omega (arith, long)) in
    let sum : slot + slots_of i + slots code ≡ slot + slots (i ∷ code) = omega (arith, long) in
    rw one (more ∙ ap (λ k. let a : SoFar = record { labels = []; slot = k } in Ok a) sum)

-- ---- the second pass

settle_line_back : (slot : ℕ) (i : Insn) → is_well_formed i ≡ true → fits_fields i ≡ true → slot + slots_of i ≤ 4096 → settle_line [] slot (insn_line i) ≡ Ok (Some i)
settle_line_back slot i h f fits =
    let l = line_is i h f in
    let bare = no_label i (insn_line i) l in
    rw (no_comment (insn_line i) l.shown, bare.1) (at_back [] slot true i (insn_line i) h f l fits)

settle_empty : (slot : ℕ) → settle_line [] slot [] ≡ Ok None
unfolding insn_at
settle_empty slot = refl

settle_back : (n : ℕ) (done code : List Insn) → list_all is_sound code ≡ true → slots done + slots code ≤ 4096 → settle [] n done (map insn_line code ++ [] ∷ []) ≡ Ok (done ++ code)
settle_back n done [] all fits = rw (settle_empty (slots done)) refl
settle_back n done (i ∷ code) all fits =
    let s = sound_left (is_well_formed i) (fits_fields i) (list_all is_sound code) all in
    let long = slots_cons i code in
    let grown = slots_grown done i in
    let one = settle_line_back (slots done) i s.0 s.1 (omega (arith, long)) in
    let more = settle_back (n + 1) (done ++ i ∷ []) code s.2 (omega (arith, long, grown)) in
    rw one (more ∙ ap (λ (t : List Insn). Ok t) (append_assoc done (i ∷ []) code))

-- ---- the text

lines_back : (code : List Insn) → list_all is_sound code ≡ true → lines (text_of code) ≡ map insn_line code ++ [] ∷ []
lines_back [] all = refl
lines_back (i ∷ code) all =
    let s = sound_left (is_well_formed i) (fits_fields i) (list_all is_sound code) all in
    let l = line_is i s.0 s.1 in
    ap lines (append_assoc (insn_line i) (10 ∷ []) (text_of code)) ∙ one_line (insn_line i) (text_of code) l.shown ∙ ap (λ (t : List (List ℕ)). insn_line i ∷ t) (lines_back code s.2)

sound_all : (code : List Insn) → list_all is_well_formed code ≡ true → list_all fits_fields code ≡ true → list_all is_sound code ≡ true
sound_all [] formed fit = refl
sound_all (i ∷ code) formed fit = grind (arith, sound_all code)

sound_again : (code : List Insn) → list_all is_sound code ≡ true → slots code ≤ 4096 → asm (text_of code) ≡ Ok code
sound_again code all fits =
    rw (lines_back code all, scan_back 1 0 code all (omega arith)) (settle_back 1 [] code all (omega arith))

-- the text of code assembles to the code
pub text_again : (code : List Insn) → AreProper code → slots code ≤ 4096 → asm (text_of code) ≡ Ok code
text_again code proper fits = sound_again code (sound_all code proper.formed proper.fit) fits
