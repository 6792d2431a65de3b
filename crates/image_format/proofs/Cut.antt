-- Bytes cut into pages.
use Rattle.std.proofs.Common.{◌≡◌, ℕ, zero, suc, ◌+◌, ◌*◌, ◌≤◌, List, [], ◌∷◌, ◌++◌, length, take, drop, map, ap, ◌∙◌, sym, refl, arith, append_assoc}
use Rattle.std.specs.List.{range_with_len}
use Rattle.std.proofs.lemmas.List.{append-nil, drop-drop, drop_all, length-replicate}
use Rattle.page_base.specs.Bytes.{patched, zero_page}
use Rattle.image_format.specs.Tails.{data_page}
use Rattle.image_format.specs.Tables.{pages_from}

shift : (f g : ℕ → List ℕ) (a n : ℕ) → ((k : ℕ) → f (k + 1) ≡ g k) → map f (range_with_len (a + 1) n) ≡ map g (range_with_len a n)
shift f g a zero same = refl
shift f g a (suc n) same = ap (λ x. x ∷ map f (range_with_len (a + 1 + 1) n)) (same a) ∙ ap (λ xs. g a ∷ xs) (shift f g (a + 1) n same)

page_behind : (bytes : List ℕ) (k : ℕ) → data_page bytes (k + 1) ≡ data_page (drop 4096 bytes) k
page_behind bytes k =
    let at : 4096 + 4096 * k ≡ 4096 * (k + 1) = omega arith in
    ap (take 4096) (sym (drop-drop (4096 * k) 4096 bytes ∙ ap (λ n. drop n bytes) at))

pub pages_more : (bytes : List ℕ) (n m : ℕ) → n ≡ suc m → pages_from bytes n ≡ take 4096 bytes ∷ pages_from (drop 4096 bytes) m
pages_more bytes n m is =
    ap (pages_from bytes) is ∙ ap (λ ps. take 4096 bytes ∷ ps) (shift (data_page bytes) (data_page (drop 4096 bytes)) 0 m (page_behind bytes))

pub pages_none : (bytes : List ℕ) (n : ℕ) → n ≡ 0 → pages_from bytes n ≡ []
pages_none bytes n is = ap (pages_from bytes) is

pub page_whole : (page front : List ℕ) → page ≡ zero_page → length front ≡ 4096 → patched page 0 front ≡ front
unfolding zero_page
page_whole page front is len =
    let all : length page ≤ 0 + length front = omega (arith, ap length is, length-replicate {A = ℕ} 4096 0, len) in
    ap (λ xs. front ++ xs) (drop_all (0 + length front) page all) ∙ append-nil front

pub pages_step : (into pushed whole : List (List ℕ)) (page : List ℕ) (left rest : List (List ℕ)) → pushed ≡ into ++ page ∷ [] → left ≡ page ∷ rest → into ++ left ≡ whole → pushed ++ rest ≡ whole
pages_step into pushed whole page left rest pushed-is left-is before =
    ap (λ xs. xs ++ rest) pushed-is ∙ append_assoc into (page ∷ []) rest ∙ ap (λ xs. into ++ xs) (sym left-is) ∙ before

pub pages_done : (into whole left : List (List ℕ)) → left ≡ [] → into ++ left ≡ whole → into ≡ whole
pages_done into whole left is before = sym (append-nil into) ∙ ap (λ xs. into ++ xs) (sym is) ∙ before
