-- The image of a drive, put together from its pages.
use Rattle.std.proofs.Common.{◌≡◌, ℕ, zero, suc, ◌+◌, ◌*◌, ◌<◌, List, [], ◌∷◌, ◌++◌, length, take, get_or, ap, ◌∙◌, sym, subst, arith, append_assoc, length-append}
use Rattle.std.specs.List.{flat_map, AllByRecursion}
use Rattle.std.proofs.lemmas.List.{append-nil, take_all}
use Rattle.page_base.specs.Drive.{meta_pages}
use Rattle.name_table.specs.Files.{IsTable}
use Rattle.extent_map.specs.Places.{IsSound, runs}
use Rattle.image_format.specs.declared.meta.Meta.{Meta}
use Rattle.image_format.specs.Numbers.{part}
use Rattle.image_format.specs.Encoding.{header_part, record_part, entry_part, bits_part, meta_bytes, image_bytes}
use Rattle.image_format.specs.Tables.{IsOneSize}
use Rattle.image_format.proofs.Areas.{part_more}
use Rattle.image_format.proofs.Regions.{header_length, few_runs}
use Rattle.image_format.proofs.Written.{record_length, entry_length, bits_length}

-- one more page behind the first ones
pub joined : (xs : List (List ℕ)) (i : ℕ) (d : List ℕ) → i < length xs → flat_map (λ page. page) (take (i + 1) xs) ≡ flat_map (λ page. page) (take i xs) ++ get_or xs i d
joined [] i d lt = absurd (omega arith)
joined (x ∷ xs) zero d lt =
    let one : zero + 1 ≡ suc zero = omega arith in
    ap (λ k. flat_map (λ page. page) (take k (x ∷ xs))) one ∙ append-nil x
joined (x ∷ xs) (suc i) d lt =
    let more : suc i + 1 ≡ suc (i + 1) = omega arith in
    ap (λ k. flat_map (λ page. page) (take k (x ∷ xs))) more ∙ ap (λ ys. x ++ ys) (joined xs i d (omega arith)) ∙ sym (append_assoc x (flat_map (λ page. page) (take i xs)) (get_or xs i d))

abbrev AreWhole : List (List ℕ) → Type 0
AreWhole pages = AllByRecursion (λ (page : List ℕ). length page ≡ 4096) pages

pub whole_more : (xs : List (List ℕ)) (i : ℕ) (d : List ℕ) → i < length xs → AreWhole (take i xs) → length (get_or xs i d) ≡ 4096 → AreWhole (take (i + 1) xs)
whole_more [] i d lt all here = absurd (omega arith)
whole_more (x ∷ xs) zero d lt all here = (here, tt)
whole_more (x ∷ xs) (suc i) d lt all here =
    let more : suc (i + 1) ≡ suc i + 1 = omega arith in
    subst (λ k. AreWhole (take k (x ∷ xs))) more (all.0, whole_more xs i d (omega arith) all.1 here)

pub meta_length : (m : Meta) → IsTable m.names → IsSound m.extents → IsOneSize m → length (meta_bytes m) ≡ 4096 * meta_pages m.geometry.blocks
unfolding meta_bytes
meta_length m sound places size =
    let h = header_part m.geometry m.names.next in
    let r = record_part m.names.files in
    let e = entry_part m.geometry.blocks (runs m.extents.placed) in
    let b = bits_part m.geometry.blocks m.written in
    omega (arith, length-append h (r ++ (e ++ b)), length-append r (e ++ b), length-append e b, header_length m.geometry m.names.next, record_length m.names sound, entry_length m.geometry.blocks (runs m.extents.placed) (few_runs m places size), bits_length m.geometry.blocks m.written)

-- the pages of meta data one behind the other
pub meta_more : (xs old now page : List ℕ) (i : ℕ) → now ≡ old ++ part xs 0 (4096 * i) → page ≡ part xs (4096 * i) 4096 → now ++ page ≡ old ++ part xs 0 (4096 * (i + 1))
meta_more xs old now page i is next =
    let at : 0 + 4096 * i ≡ 4096 * i = omega arith in
    let more : 4096 * i + 4096 ≡ 4096 * (i + 1) = omega arith in
    ap (λ ys. ys ++ page) is ∙ ap (λ ys. old ++ part xs 0 (4096 * i) ++ ys) (next ∙ ap (λ a. part xs a 4096) (sym at))
    ∙ append_assoc old (part xs 0 (4096 * i)) (part xs (0 + 4096 * i) 4096) ∙ ap (λ ys. old ++ ys) (sym (part_more xs 0 (4096 * i) 4096) ∙ ap (part xs 0) more)

pub meta_all : (xs old now : List ℕ) (i n : ℕ) → length xs ≡ 4096 * n → i ≡ n → now ≡ old ++ part xs 0 (4096 * i) → now ≡ old ++ xs
meta_all xs old now i n len all is = is ∙ ap (λ ys. old ++ ys) (take_all (4096 * i) xs (omega arith))

pub blocks_all : (xs : List (List ℕ)) (i : ℕ) → length xs ≡ i → take i xs ≡ xs
blocks_all xs i len = take_all i xs (omega arith)

pub image_made : (m : Meta) (body : List (List ℕ)) (none front all : List ℕ) → none ≡ [] → front ≡ none ++ meta_bytes m → all ≡ front ++ flat_map (λ page. page) body → all ≡ image_bytes m body
unfolding image_bytes
image_made m body none front all empty first is =
    is ∙ ap (λ ys. ys ++ flat_map (λ page. page) body) (first ∙ ap (λ ys. ys ++ meta_bytes m) empty)
