-- Bytes of pages, and of the pages joined.
use Rattle.std.proofs.Common.{◌≡◌, ℕ, zero, suc, ◌+◌, ◌*◌, ◌<◌, ◌≤◌, ◌/◌, ◌%◌, List, [], ◌∷◌, ◌++◌, length, take, sym, ap, ◌∙◌, arith, get_or, set}
use Rattle.std.specs.Prelude.{slice_index}
use Rattle.std.proofs.lemmas.List.{get_or_append_left, get_or-append-add}
use Rattle.std.proofs.lemmas.List.Edits.{sets-eq}
use Rattle.std.specs.List.{concat}
use Rattle.sbpf_insn.specs.declared.insn.Size.{Size}
use Rattle.sbpf_insn.specs.declared.insn.Size.TheVariants as size
use Rattle.sbpf_insn.specs.Machine.{put, number_at, size_len}
use Rattle.page_base.specs.Bytes.{patched}
use Rattle.sbpf_exec.specs.Buffers.{AreWhole}
use Rattle.sbpf_exec.proofs.Puts.{put-sets, length-put, put-append_left, put-append_right}

-- the byte at a place of the joined pages is that of its page
pub byte_at : (ps : List (List ℕ)) (k j : ℕ) (d : List ℕ) → AreWhole ps → k < length ps → j < 4096 → slice_index (concat ps) (4096 * k + j) ≡ slice_index (get_or ps k d) j
byte_at [] k j d whole lt small = absurd (omega arith)
byte_at (p ∷ ps) zero j d whole lt small =
    let z : 4096 * 0 + j ≡ j = omega arith in
    rw z (get_or_append_left p (concat ps) 0 j (omega (arith, whole.0)))
byte_at (p ∷ ps) (suc k) j d whole lt small =
    let e : 4096 * suc k + j ≡ length p + (4096 * k + j) = omega (arith, whole.0) in
    rw e (get_or-append-add p (concat ps) (4096 * k + j) 0 ∙ byte_at ps k j d whole.1 (omega arith) small)

-- the same bytes are the same number
pub same_number : (s : Size) (xs ys : List ℕ) (i j : ℕ) → ((d : ℕ) → d < size_len s → slice_index xs (i + d) ≡ slice_index ys (j + d)) → number_at s xs i ≡ number_at s ys j
same_number size.B xs ys i j same =
    let a : i + 0 ≡ i = omega arith in
    let b : j + 0 ≡ j = omega arith in
    ap (slice_index xs) (sym a) ∙ same 0 (omega arith) ∙ ap (slice_index ys) b
same_number size.H xs ys i j same =
    let a : i + 0 ≡ i = omega arith in
    let b : j + 0 ≡ j = omega arith in
    let e0 : slice_index xs i ≡ slice_index ys j = ap (slice_index xs) (sym a) ∙ same 0 (omega arith) ∙ ap (slice_index ys) b in
    let e1 = same 1 (omega arith) in
    cc
same_number size.W xs ys i j same =
    let a : i + 0 ≡ i = omega arith in
    let b : j + 0 ≡ j = omega arith in
    let e0 : slice_index xs i ≡ slice_index ys j = ap (slice_index xs) (sym a) ∙ same 0 (omega arith) ∙ ap (slice_index ys) b in
    let e1 = same 1 (omega arith) in
    let e2 = same 2 (omega arith) in
    let e3 = same 3 (omega arith) in
    cc
same_number size.Dw xs ys i j same =
    let a : i + 0 ≡ i = omega arith in
    let b : j + 0 ≡ j = omega arith in
    let e0 : slice_index xs i ≡ slice_index ys j = ap (slice_index xs) (sym a) ∙ same 0 (omega arith) ∙ ap (slice_index ys) b in
    let e1 = same 1 (omega arith) in
    let e2 = same 2 (omega arith) in
    let e3 = same 3 (omega arith) in
    let e4 = same 4 (omega arith) in
    let e5 = same 5 (omega arith) in
    let e6 = same 6 (omega arith) in
    let e7 = same 7 (omega arith) in
    cc

-- a number that lies in one page
pub number_in_page : (s : Size) (ps : List (List ℕ)) (k j : ℕ) (page : List ℕ) → AreWhole ps → k < length ps → j + size_len s ≤ 4096 → page ≡ get_or ps k page → number_at s page j ≡ number_at s (concat ps) (4096 * k + j)
number_in_page s ps k j page whole lt fits is =
    same_number s page (concat ps) j (4096 * k + j) (λ d small.
    let near : j + d < 4096 = omega arith in
    let e : 4096 * k + (j + d) ≡ 4096 * k + j + d = omega arith in
    ap (λ (p : List ℕ). slice_index p (j + d)) is ∙ sym (byte_at ps k (j + d) page whole lt near) ∙ ap (slice_index (concat ps)) e)

-- bytes that are patched into a page are written there one after the other
pub patched_put : (b xs : List ℕ) (i : ℕ) → i + length xs ≤ length b → patched b i xs ≡ put b i xs
patched_put b xs i fits = sym (put-sets b xs i ∙ sets-eq xs b i fits)

-- bytes written to one page, in the pages joined
put_at : (ps : List (List ℕ)) (k j : ℕ) (xs d : List ℕ) → AreWhole ps → k < length ps → j + length xs ≤ 4096 → concat (set ps k (put (get_or ps k d) j xs)) ≡ put (concat ps) (4096 * k + j) xs
put_at [] k j xs d whole lt fits = absurd (omega arith)
put_at (p ∷ ps) zero j xs d whole lt fits =
    let z : 4096 * 0 + j ≡ j = omega arith in
    rw z (sym (put-append_left p (concat ps) xs j (omega (arith, whole.0))))
put_at (p ∷ ps) (suc k) j xs d whole lt fits =
    let e : 4096 * suc k + j ≡ 4096 + (4096 * k + j) = omega arith in
    ap (λ (t : List ℕ). p ++ t) (put_at ps k j xs d whole.1 (omega arith) fits) ∙ sym (put-append_right p (concat ps) xs (4096 * k + j) 4096 whole.0) ∙ ap (λ (i : ℕ). put (p ++ concat ps) i xs) (sym e)

still_whole : (ps : List (List ℕ)) (k : ℕ) (q : List ℕ) → AreWhole ps → length q ≡ 4096 → AreWhole (set ps k q)
still_whole [] k q whole e = tt
still_whole (p ∷ ps) zero q whole e = (e, whole.1)
still_whole (p ∷ ps) (suc k) q whole e = (whole.0, still_whole ps k q whole.1 e)

page_len : (ps : List (List ℕ)) (k : ℕ) (d : List ℕ) → AreWhole ps → k < length ps → length (get_or ps k d) ≡ 4096
page_len [] k d whole lt = absurd (omega arith)
page_len (p ∷ ps) zero d whole lt = whole.0
page_len (p ∷ ps) (suc k) d whole lt = page_len ps k d whole.1 (omega arith)

-- bytes patched into one page
pub record Patched (ps : List (List ℕ)) (k j : ℕ) (xs : List ℕ) (new : List (List ℕ)) : Type 0 where
  pub whole : AreWhole new
  pub value : concat new ≡ put (concat ps) (4096 * k + j) xs

pub patched_page : (ps : List (List ℕ)) (k j : ℕ) (xs d q : List ℕ) → AreWhole ps → k < length ps → j + length xs ≤ 4096 → q ≡ patched (get_or ps k d) j xs → Patched ps k j xs (set ps k q)
patched_page ps k j xs d q whole lt fits e =
    let len : length (get_or ps k d) ≡ 4096 = page_len ps k d whole lt in
    let written : q ≡ put (get_or ps k d) j xs = e ∙ patched_put (get_or ps k d) xs j (omega arith) in
    let long : length q ≡ 4096 = ap length written ∙ length-put (get_or ps k d) xs j ∙ len in
    record {
      whole = still_whole ps k q whole long;
      value = ap (λ (p : List ℕ). concat (set ps k p)) written ∙ put_at ps k j xs d whole lt fits;
    }

-- the byte at a place, which may be in the page after
pub byte_of_page : (ps : List (List ℕ)) (k j : ℕ) (page : List ℕ) → AreWhole ps → 4096 * k + j < 4096 * length ps → page ≡ get_or ps (k + j / 4096) page → slice_index page (j % 4096) ≡ slice_index (concat ps) (4096 * k + j)
byte_of_page ps k j page whole lt is =
    let split : 4096 * (k + j / 4096) + j % 4096 ≡ 4096 * k + j = omega arith in
    let near : k + j / 4096 < length ps = omega arith in
    let small : j % 4096 < 4096 = omega arith in
    ap (λ (p : List ℕ). slice_index p (j % 4096)) is ∙ sym (byte_at ps (k + j / 4096) (j % 4096) page whole near small) ∙ ap (slice_index (concat ps)) split

-- a number has a byte
pub size_some : (s : Size) → 1 ≤ size_len s
size_some size.B = omega arith
size_some size.H = omega arith
size_some size.W = omega arith
size_some size.Dw = omega arith

-- one more page is whole
pub whole_more : (pages : List (List ℕ)) (i : ℕ) (d : List ℕ) → AreWhole (take i pages) → i < length pages → length (get_or pages i d) ≡ 4096 → AreWhole (take (suc i) pages)
whole_more [] i d whole lt e = absurd (omega arith)
whole_more (p ∷ ps) zero d whole lt e = (e, tt)
whole_more (p ∷ ps) (suc i) d whole lt e = (whole.0, whole_more ps i d whole.1 (omega arith) e)
