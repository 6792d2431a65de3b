-- What the first two words of a line tell.
use Rattle.std.proofs.Common.{◌≡◌, ℕ, List, [], ◌∷◌, length, Bool, true, false, refl, ap, sym, ◌∙◌, arith}
use Rattle.std.specs.Prelude.{◌==◌, filter, bytes_eq, codes, is_some}
use Rattle.std.specs.List.{slice_split, AllByRecursion}
use Rattle.std.proofs.lemmas.Bool.Decides.{nat_tests}
use Rattle.sbpf_text.specs.Lexing.{is_blank, ends_with_colon, without_last}
use Rattle.script_words.specs.Words.{is_word, words, first_of, behind_first}
use Rattle.call_text.specs.Blocks.{is_end, ends_block}
use Rattle.call_text.specs.Calls.{verb_of}
use Rattle.call_text.specs.Awaits.{calls, is_call_of}

abbrev IsFilled : List ℕ → Type 0
IsFilled w = is_word w ≡ true

filled : (parts : List (List ℕ)) → AllByRecursion IsFilled (filter is_word parts)
filled [] = tt
filled (part ∷ parts) = go (filled parts) (is_word part) refl
  where
    go : AllByRecursion IsFilled (filter is_word parts) → (t : Bool) → is_word part ≡ t → AllByRecursion IsFilled (filter is_word (part ∷ parts))
    go rest true is = rw is (is, rest)
    go rest false is = rw is rest

end_alone : (ws : List (List ℕ)) (first second : List ℕ) → AllByRecursion IsFilled ws → first ≡ first_of ws → second ≡ first_of (behind_first ws) → bytes_eq first (codes "end") ≡ true → (length second == 0) ≡ is_end ws
end_alone [] first second all a b is = absurd (let e : bytes_eq [] (codes "end") ≡ true = ap (λ w. bytes_eq w (codes "end")) (sym a) ∙ is in cc)
end_alone (w ∷ []) first second all a b is = ap (λ v. length v == 0) b ∙ sym (ap (λ v. bytes_eq v (codes "end")) (sym a) ∙ is)
end_alone (w ∷ v ∷ ws) first second all a b is = let some : is_word v ≡ true = all.1.0 in ap (λ v. length v == 0) b ∙ grind (arith, nat_tests, some)

-- a line whose first word is `end` ends a block where it has no second
pub end_line_alone : (line first second : List ℕ) → first ≡ first_of (words line) → second ≡ first_of (behind_first (words line)) → bytes_eq first (codes "end") ≡ true → (length second == 0) ≡ ends_block line
end_line_alone line first second a b is = end_alone (words line) first second (filled (slice_split is_blank line)) a b is

call_words : (name : List ℕ) (ws : List (List ℕ)) (first second : List ℕ) → first ≡ first_of ws → second ≡ first_of (behind_first ws) → ends_with_colon first ≡ true → bytes_eq (without_last first) name ≡ true → is_some (verb_of second) ≡ calls name ws
unfolding verb_of
call_words name [] first second a b colon named = absurd (let e : ends_with_colon [] ≡ true = ap ends_with_colon (sym a) ∙ colon in cc)
call_words name (w ∷ []) first second a b colon named = ap (λ v. is_some (verb_of v)) b
call_words name (w ∷ v ∷ ws) first second a b colon named =
    let c : ends_with_colon w ≡ true = ap ends_with_colon (sym a) ∙ colon in
    let n : bytes_eq (without_last w) name ≡ true = ap (λ x. bytes_eq (without_last x) name) (sym a) ∙ named in
    ap (λ v. is_some (verb_of v)) b ∙ rw (c, n) refl

-- a line has a call of the lane of its first word where its second begins one
pub line_calls : (name line first second : List ℕ) → first ≡ first_of (words line) → second ≡ first_of (behind_first (words line)) → ends_with_colon first ≡ true → bytes_eq (without_last first) name ≡ true → is_some (verb_of second) ≡ is_call_of name line
line_calls name line first second a b colon named = call_words name (words line) first second a b colon named
