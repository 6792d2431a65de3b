-- Pages of bytes: what `Put` and a new length leave in them.
use Rattle.std.proofs.Common.{◌≡◌, ℕ, ◌+◌, ◌-◌, ◌*◌, ◌<◌, ◌≤◌, Bool, true, false, List, ◌++◌, length, take, drop, get_or, refl, sym, ap, ◌∙◌, ⊎_elim, arith}
use Rattle.std.specs.Prelude.{◌==◌, max, min, replicate, if◌then◌else◌}
use Rattle.std.proofs.lemmas.Bool.Decides.{nat_tests}
use Rattle.std.proofs.lemmas.List.{ext_get_or, length-append, length-take, length-drop, length-replicate, get_or_append_left, get_or-append_right, get_or-take, get_or-drop, get_or-replicate, get_or_past}
use Rattle.page_base.specs.Bytes.{Put, cleared_from}
use Rattle.plain_files.specs.Plain.{with_length}
use Rattle.core_state.specs.Words.{from_fn}
use Rattle.core_state.specs.State.{Page}
use Rattle.core_state.specs.PlainOf.{page_at}
use Rattle.core_lemmas.proofs.Words.{less_or_not}
use Rattle.core_outcomes.proofs.Bytes.{length_fn, get_fn}
use Rattle.span_bytes.specs.Spans.{over}
use Rattle.span_bytes.proofs.Pointwise.{in_over, low_over, high_over}
use Rattle.call_answers.specs.Ends.{put_length}

-- a page that has the bytes of a list is that page of it
pub is_page : (bytes : List ℕ) (page : Page) (p : ℕ) → length page ≡ 4096 → ((j : ℕ) → j < 4096 → get_or page j 0 ≡ get_or bytes (4096 * p + j) 0) → page ≡ page_at bytes p
is_page bytes page p long same =
    let z = length_fn 4096 (λ j. get_or bytes (4096 * p + j) 0) in
    ext_get_or 0 page (page_at bytes p) (long ∙ sym z)
    (λ j l. let k : j < 4096 = omega arith in same j k ∙ sym (get_fn 4096 (λ (i : ℕ). get_or bytes (4096 * p + i) 0) j k))

-- ---- bytes that are put

zero_of : (n : ℕ) → (n == 0) ≡ true → n ≡ 0
zero_of n e = grind (arith, nat_tests)

front : (file : List ℕ) (off : ℕ) → length (take off file ++ replicate (off - length file) 0) ≡ off
front file off =
    let a = length-append (take off file) (replicate (off - length file) 0) in
    let b = length-take off file in
    let c = length-replicate {A = ℕ} (off - length file) 0 in
    omega arith

gap : (file : List ℕ) (off q : ℕ) → q < off → get_or (take off file ++ replicate (off - length file) 0) q 0 ≡ get_or file q 0
gap file off q l = ⊎_elim
    (λ (k : q < length file). get_or_append_left (take off file) (replicate (off - length file) 0) 0 q (let t = length-take off file in omega arith) ∙ get_or-take off file q 0 l)
    (λ (k : length file ≤ q).
    get_or-append_right (take off file) (replicate (off - length file) 0) (length file) q 0 (let t = length-take off file in omega arith) k
    ∙ (get_or-replicate (off - length file) (q - length file) 0 0 (omega arith) ∙ sym (get_or_past file q 0 k))) (less_or_not q (length file))

-- each byte is the one that was put there, or the file's
pub put_byte : (file bytes : List ℕ) (off q : ℕ) → get_or (Put file off bytes) q 0 ≡ over off bytes q (get_or file q 0)
put_byte file bytes off q = go (length bytes == 0) refl
  where
    whole : List ℕ
    whole = take off file ++ replicate (off - length file) 0 ++ bytes ++ drop (off + length bytes) file

    so_far : length (take off file ++ replicate (off - length file) 0 ++ bytes) ≡ off + length bytes
    so_far = let a = length-append (take off file ++ replicate (off - length file) 0) bytes in let b = front file off in omega arith

    low : q < off → get_or whole q 0 ≡ over off bytes q (get_or file q 0)
    low l =
        get_or_append_left (take off file ++ replicate (off - length file) 0 ++ bytes) (drop (off + length bytes) file) 0 q (let s = so_far in omega arith)
        ∙ (get_or_append_left (take off file ++ replicate (off - length file) 0) bytes 0 q (let s = front file off in omega arith) ∙ (gap file off q l ∙ sym (low_over off q (get_or file q 0) bytes l)))

    at : off ≤ q → q < off + length bytes → get_or whole q 0 ≡ over off bytes q (get_or file q 0)
    at l k =
        get_or_append_left (take off file ++ replicate (off - length file) 0 ++ bytes) (drop (off + length bytes) file) 0 q (let s = so_far in omega arith)
        ∙ (get_or-append_right (take off file ++ replicate (off - length file) 0) bytes off q 0 (front file off) l ∙ sym (in_over off q (get_or file q 0) bytes l k))

    high : off + length bytes ≤ q → get_or whole q 0 ≡ over off bytes q (get_or file q 0)
    high l =
        let e : off + length bytes + (q - (off + length bytes)) ≡ q = omega arith in
        get_or-append_right (take off file ++ replicate (off - length file) 0 ++ bytes) (drop (off + length bytes) file) (off + length bytes) q 0 so_far l
        ∙ (get_or-drop (off + length bytes) file (q - (off + length bytes)) 0 ∙ (ap (λ (k : ℕ). get_or file k 0) e ∙ sym (high_over off q (get_or file q 0) bytes l)))

    none : length bytes ≡ 0 → get_or file q 0 ≡ over off bytes q (get_or file q 0)
    none z = ⊎_elim (λ (l : q < off). sym (low_over off q (get_or file q 0) bytes l)) (λ (l : off ≤ q). sym (high_over off q (get_or file q 0) bytes (omega arith))) (less_or_not q off)

    go : (t : Bool) → (length bytes == 0) ≡ t → get_or (if t then file else whole) q 0 ≡ over off bytes q (get_or file q 0)
    go true e = none (zero_of (length bytes) e)
    go false e = ⊎_elim low (λ (l : off ≤ q). ⊎_elim (at l) high (less_or_not q (off + length bytes))) (less_or_not q off)

pub put_long : (file bytes : List ℕ) (off : ℕ) → length (Put file off bytes) ≡ put_length (length file) off (length bytes)
put_long file bytes off = go (length bytes == 0) refl
  where
    go : (t : Bool) → (length bytes == 0) ≡ t → length (if t then file else take off file ++ replicate (off - length file) 0 ++ bytes ++ drop (off + length bytes) file) ≡ (if t then length file else max (length file) (off + length bytes))
    go true e = refl
    go false e =
        let a = length-append (take off file ++ replicate (off - length file) 0 ++ bytes) (drop (off + length bytes) file) in
        let b = length-append (take off file ++ replicate (off - length file) 0) bytes in
        let c = front file off in
        let f = length-drop (off + length bytes) file in
        omega arith

-- bytes at a place of the span are those at a place of the file
pub over_moved : (start off low q was : ℕ) (bytes : List ℕ) → off ≡ low + start → over off bytes (low + q) was ≡ over start bytes q was
over_moved start off low q was bytes e = ⊎_elim
    (λ (l : q < start). low_over off (low + q) was bytes (omega arith) ∙ sym (low_over start q was bytes l))
    (λ (l : start ≤ q). ⊎_elim
    (λ (k : q < start + length bytes).
    let d : low + q - off ≡ q - start = omega arith in
    in_over off (low + q) was bytes (omega arith) (omega arith) ∙ (ap (λ (i : ℕ). get_or bytes i 0) d ∙ sym (in_over start q was bytes l k)))
    (λ (k : start + length bytes ≤ q). high_over off (low + q) was bytes (omega arith) ∙ sym (high_over start q was bytes k)) (less_or_not q (start + length bytes)))
    (less_or_not q start)

-- ---- a new length

-- below it each byte is as it was, with zeros past the old end
pub length_byte : (file : List ℕ) (n q : ℕ) → q < n → get_or (with_length file n) q 0 ≡ get_or file q 0
length_byte file n q l = gap file n q l

pub length_long : (file : List ℕ) (n : ℕ) → length (with_length file n) ≡ n
length_long file n = front file n

-- and past it there is none
pub length_past : (file : List ℕ) (n q : ℕ) → n ≤ q → get_or (with_length file n) q 0 ≡ 0
length_past file n q l = get_or_past (with_length file n) q 0 (let z = length_long file n in omega arith)

pub cleared_low : (page : Page) (at j : ℕ) → length page ≡ 4096 → at ≤ 4096 → j < at → get_or (cleared_from page at) j 0 ≡ get_or page j 0
cleared_low page at j w a l =
    get_or_append_left (take at page) (replicate (4096 - at) 0) 0 j (let t = length-take at page in omega arith) ∙ get_or-take at page j 0 l

pub cleared_high : (page : Page) (at j : ℕ) → length page ≡ 4096 → at ≤ 4096 → at ≤ j → j < 4096 → get_or (cleared_from page at) j 0 ≡ 0
cleared_high page at j w a l k =
    get_or-append_right (take at page) (replicate (4096 - at) 0) at j 0 (let t = length-take at page in omega arith) l ∙ get_or-replicate (4096 - at) (j - at) 0 0 (omega arith)
