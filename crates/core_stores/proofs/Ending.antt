-- The End of a call that stores: tails, and the whole event.
use Rattle.std.proofs.Common.{◌≡◌, ℕ, ◌+◌, ◌-◌, ◌<◌, ◌≤◌, List, length, Option, Some, None, refl, sym, ap, ◌∙◌, subst, inl, inr, ⊎_elim, arith, get_or}
use Rattle.std.specs.Prelude.{◌≢◌, ◌⊎◌, ◌*◌}
use Rattle.std.specs.List.{Contains}
use Rattle.std.proofs.lemmas.List.{get_or-replicate, get_or_past}
use Rattle.std.proofs.lemmas.List.FromFn.{get_or-map-range_with_len}
use Rattle.page_base.specs.Bytes.{Pages, zero_page}
use Rattle.index_lists.proofs.Counts.{same_or_not}
use Rattle.core_hold.specs.Plain.{State}
use Rattle.core_hold.specs.Words.{from_fn}
use Rattle.core_hold.specs.State.{Page, Block, File, Flight, Core}
use Rattle.core_hold.specs.Contents.{IsBlank, content, contents, page_of}
use Rattle.core_hold.specs.PlainOf.{bytes_by_id, page_at}
use Rattle.core_hold.specs.Placed.{Tails}
use Rattle.core_hold.specs.Placed.{HavePlaces}
use Rattle.core_hold.specs.Coherent.{Coherent}
use Rattle.core_hold.specs.Resizing.{renewed}
use Rattle.core_hold.proofs.Words.{less_or_not}
use Rattle.core_hold.proofs.Named.{in_map, one_of_id}
use Rattle.core_hold.proofs.Released.{renewed_blank}
use Rattle.core_stores.proofs.Named.{relen, own_relen, other_relen}
use Rattle.core_stores.proofs.Free.{listed_there}
use Rattle.core_hold.proofs.Others.{file_is, new_len, fresh_of, places_of, spanned_of, there}
use Rattle.core_stores.proofs.Became.{IsEnding, Became, Kept, Renewed, Put, PlaceWas, Old, New, place_was, fresh_blank, gone_from, span_at, span_page, became}
use Rattle.core_stores.proofs.Claims.{names_after, files_after}
use Rattle.core_stores.proofs.Keeping.{put_content}

page_past : (bytes : List ℕ) (p j : ℕ) → j < 4096 → length bytes ≤ 4096 * p + j → get_or (page_at bytes p) j 0 ≡ 0
unfolding from_fn
page_past bytes p j l m = get_or-map-range_with_len (λ j. get_or bytes (4096 * p + j) 0) 0 4096 j j 0 l (omega arith) ∙ get_or_past bytes (4096 * p + j) 0 m

pub zeros : (j : ℕ) → j < 4096 → get_or zero_page j 0 ≡ 0
unfolding zero_page
zeros j l = get_or-replicate 4096 j 0 0 l

pub blank_content : (w : Block) → IsBlank w → content w ≡ zero_page
blank_content w k = let a = k.away.host in let b = k.away.drive in let d = k.away.lent in let e = k.written in grind arith

pub tails_after : (c : Core) (lane : ℕ) (call : Flight) (f : File) (s2 : State) (to : ℕ) → Coherent c → (g : IsEnding c lane call f s2 to) → HavePlaces c.shape (names_after c call s2) (places_of c f.id (Pages f.len) to) →
    Tails (names_after c call s2) (places_of c f.id (Pages f.len) to) (contents (spanned_of c call f.id (Pages f.len) to s2))
tails_after c lane call f s2 to h g have x i p j l m =
    let k = in_map (relen f.id n) c.names.files x (subst (λ (fs : List File). Contains fs x) (files_after c lane call f s2 h g.storing) i) in
    subst (λ (w : File). get_or (page_of (contents blocks2) (places_of c f.id (Pages f.len) to w.id p)) j 0 ≡ 0) k.2
    (go k.0 k.1 (subst (λ (w : File). w.len ≤ 4096 * p + j) (sym k.2) m) (places_of c f.id (Pages f.len) to k.0.id p) refl)
  where
    n : ℕ
    n = length g.storing.stored.new

    blocks2 : ℕ → Block
    blocks2 = spanned_of c call f.id (Pages f.len) to s2

    bytes_are : length (bytes_by_id s2 call.claim.file) ≡ n
    bytes_are = ap (λ (id : ℕ). length (bytes_by_id s2 id)) (file_is c lane call f s2 h g.storing) ∙ new_len c lane call f s2 h g.storing

    go : (y : File) → Contains c.names.files y → (relen f.id n y).len ≤ 4096 * p + j → (o : Option ℕ) → places_of c f.id (Pages f.len) to y.id p ≡ o → get_or (page_of (contents blocks2) o) j 0 ≡ 0
    go y a m None e = zeros j l
    go y a m (Some b) e = by (became c lane call f s2 to h g b) (place_was c.places f.id (fresh_of c f.id (Pages f.len) to) (Pages f.len) to y.id p b e)
      where
        by : Became (gone_from c f to) call.claim.reach.pages (span_at c call f to) (span_page call s2) call.claim.side b (c.blocks b) (blocks2 b) → PlaceWas c.places f.id (fresh_of c f.id (Pages f.len) to) (Pages f.len) to y.id p b → get_or (content (blocks2 b)) j 0 ≡ 0
        by (Renewed q u none z) was = ap (λ (w : Block). get_or (content w) j 0) q ∙ (ap (λ (w : Page). get_or w j 0) (blank_content (renewed (c.blocks b)) (renewed_blank (c.blocks b) u)) ∙ zeros j l)
        by (Put i k at w q flash v z) was =
            let s = have.apart y.id call.claim.file p (call.claim.reach.first + i) b e at in
            let own : y.id ≡ f.id = s.0 ∙ file_is c lane call f s2 h g.storing in
            let len = own_relen f.id n y own in
            let is = bytes_are in
            ap (λ (w : Block). get_or (content w) j 0) q ∙ (ap (λ (w : Page). get_or w j 0) (put_content call.claim.side (span_page call s2 i) w)
            ∙ (ap (λ (t : ℕ). get_or (page_at (bytes_by_id s2 call.claim.file) t) j 0) (sym s.1) ∙ page_past (bytes_by_id s2 call.claim.file) p j l (omega arith)))
        by (Kept q none z) (New s u v r) =
            ap (λ (w : Block). get_or (content w) j 0) q ∙ (ap (λ (w : Page). get_or w j 0) (blank_content (c.blocks b) (fresh_blank c f.id (Pages f.len) to b h (listed_there (fresh_of c f.id (Pages f.len) to) (p - Pages f.len) b r))) ∙ zeros j l)
        by (Kept q none z) (Old r t) = ap (λ (w : Block). get_or (content w) j 0) q ∙ (ap (λ (o : Option ℕ). get_or (page_of (contents c.blocks) o) j 0) (sym r) ∙ h.tails y a p j l (long (same_or_not y.id f.id)))
          where
            span_has : (k : ℕ) → k < call.claim.reach.pages → call.claim.reach.first + k ≡ p → y.id ≡ f.id → ⊥
            span_has k w s own = none k w (ap (λ (id : ℕ). places_of c f.id (Pages f.len) to id (call.claim.reach.first + k)) (file_is c lane call f s2 h g.storing ∙ sym own) ∙ (ap (places_of c f.id (Pages f.len) to y.id) s ∙ e))

            long : (y.id ≡ f.id) ⊎ (y.id ≢ f.id) → y.len ≤ 4096 * p + j
            long (inr d) = subst (λ (w : File). w.len ≤ 4096 * p + j) (other_relen f.id n y d) m
            long (inl own) = ⊎_elim
                (λ (less : 4096 * p + j < y.len).
                let len = own_relen f.id n y own in
                let was = ap (λ (w : File). w.len) (one_of_id c.names.files h.placed.named.ids y f a (there c lane call f s2 g.storing) own) in
                let to_is = g.to_is in
                let low = t own in
                let k = g.spans.cut p j l (omega arith) (omega arith) (omega arith) in
                let u = k.0 in
                let v = k.1 in
                absurd (span_has (p - call.claim.reach.first) (omega arith) (omega arith) own))
                (λ (most : y.len ≤ 4096 * p + j). most)
                (less_or_not (4096 * p + j) y.len)
