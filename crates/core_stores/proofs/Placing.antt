-- Places and tails after a call that stores.
use Rattle.std.proofs.Common.{◌≡◌, ℕ, ◌-◌, ◌<◌, ◌≤◌, Bool, true, false, List, length, Option, Some, None, refl, sym, ap, ◌∙◌, subst, ⊎_elim, arith}
use Rattle.std.specs.Prelude.{◌≢◌, nat_lt, map, is_some, if◌then◌else◌, sum_by}
use Rattle.std.specs.List.{Contains, slice_get}
use Rattle.std.proofs.lemmas.Bool.Decides.{nat_tests}
use Rattle.std.proofs.lemmas.List.{length-take}
use Rattle.page_base.specs.Bytes.{Pages}
use Rattle.index_lists.proofs.Counts.{same_or_not}
use Rattle.core_hold.specs.PlainFile.{PlainFile}
use Rattle.core_hold.specs.Plain.{State, is_file, is_overfull, with_content}
use Rattle.core_hold.specs.Words.{EachBehind}
use Rattle.core_hold.specs.State.{File, Function, Flight, Core}
use Rattle.core_hold.specs.Contents.{contents}
use Rattle.core_hold.specs.PlainOf.{file_page, plain_file, plain}
use Rattle.core_hold.specs.Placed.{AreNamed, HavePlaces}
use Rattle.core_hold.specs.Coherent.{Coherent}
use Rattle.core_hold.specs.Resizing.{free_blocks, page_between}
use Rattle.core_hold.proofs.Words.{low, high}
use Rattle.core_hold.proofs.Named.{in_map, each_map}
use Rattle.core_hold.proofs.Sealed.{in_mapped}
use Rattle.core_hold.proofs.Seen.{length_bytes}
use Rattle.core_hold.proofs.Moves.{not_fresh}
use Rattle.core_hold.proofs.Quicks.{other_place}
use Rattle.core_hold.proofs.Spanning.{own_place}
use Rattle.core_stores.proofs.Free.{free_enough, free_once, free_low, has_at, one_place, listed_there}
use Rattle.core_stores.proofs.Named.{relen, own_relen, other_relen, sum_changed, sum_seen}
use Rattle.core_hold.proofs.Others.{IsStoring, changing, there, plain_by_name, fresh_of, places_of}
use Rattle.core_stores.proofs.Became.{PlaceWas, Old, New, place_was}
use Rattle.core_stores.proofs.Claims.{names_after, files_after}

not_more : (n m : ℕ) → nat_lt m n ≡ false → n ≤ m
not_more n m e = grind (arith, nat_tests)

-- there are blocks for all new pages
pub enough : (c : Core) (lane : ℕ) (call : Flight) (f : File) (s2 : State) → Coherent c → (g : IsStoring c lane call f s2) → is_overfull (with_content (plain c) g.stored.name g.stored.new) ≡ false → (to : ℕ) → to ≡ Pages (length g.stored.new) →
    to - Pages f.len ≤ length (free_blocks c.shape c.names.files c.places)
enough c lane call f s2 h g fits to is =
    let a = free_enough c.shape c.names c.places in
    let b = sum_changed (λ (file : PlainFile). Pages (length file.bytes)) (is_file g.stored.name) (changing g.stored.new) (plain c).files (plain_file c.places (contents c.blocks) f) (plain_by_name c lane call f s2 g) in
    let d = sum_seen c.places (contents c.blocks) c.names.files in
    let l = ap Pages (length_bytes f.len (file_page c.places (contents c.blocks) f.id)) in
    let o = not_more (sum_by (λ (file : PlainFile). Pages (length file.bytes)) (with_content (plain c) g.stored.name g.stored.new).files) c.shape.blocks fits in
    omega arith

row_exact : (row : ℕ → Option ℕ) (fresh : List ℕ) (from to p : ℕ) → ((q : ℕ) → is_some (row q) ≡ nat_lt q from) → to - from ≤ length fresh → is_some (page_between row fresh from to p) ≡ nat_lt p to
row_exact row fresh from to p exact l = go (nat_lt p to) (nat_lt p from) refl refl
  where
    go : (t u : Bool) → nat_lt p to ≡ t → nat_lt p from ≡ u → is_some (if t then (if u then row p else slice_get fresh (p - from)) else None) ≡ t
    go true true e f = exact p ∙ f
    go true false e f = let a = low p to e in let b = high p from f in has_at fresh (p - from) (omega arith)
    go false u e f = refl

pub places_after : (c : Core) (lane : ℕ) (call : Flight) (f : File) (s2 : State) → Coherent c → (g : IsStoring c lane call f s2) → is_overfull (with_content (plain c) g.stored.name g.stored.new) ≡ false → (to : ℕ) → to ≡ Pages (length g.stored.new) →
    HavePlaces c.shape (names_after c call s2) (places_of c f.id (Pages f.len) to)
places_after c lane call f s2 h g fits to is = record {
  exact = λ x i p. let k = in_map (relen f.id n) c.names.files x (subst (λ (fs : List File). Contains fs x) (files_after c lane call f s2 h g) i) in
      subst (λ (w : File). is_some (places_of c f.id from to w.id p) ≡ nat_lt p (Pages w.len)) k.2 (exact k.0 k.1 p);
  owned = λ id p b e. owned id p b (place_was c.places f.id fresh from to id p b e);
  apart = λ i j p q b x y. apart i j p q b (place_was c.places f.id fresh from to i p b x) (place_was c.places f.id fresh from to j q b y);
  within = λ id p b e. within id p b (place_was c.places f.id fresh from to id p b e);
}
  where
    n : ℕ
    n = length g.stored.new

    from : ℕ
    from = Pages f.len

    fresh : List ℕ
    fresh = fresh_of c f.id from to

    many : to - from ≤ length fresh
    many = let k = enough c lane call f s2 h g fits to is in let l = length-take (to - from) (free_blocks c.shape c.names.files c.places) in omega arith

    exact : (x : File) → Contains c.names.files x → (p : ℕ) → is_some (places_of c f.id from to x.id p) ≡ nat_lt p (Pages (relen f.id n x).len)
    exact x i p = ⊎_elim
        (λ (s : x.id ≡ f.id).
        ap (λ (id : ℕ). is_some (places_of c f.id from to id p)) s
        ∙ (ap is_some (own_place c.places f.id fresh from to p)
        ∙ (row_exact (c.places f.id) fresh from to p (h.placed.have.exact f (there c lane call f s2 g)) many
        ∙ (ap (nat_lt p) is ∙ ap (λ (k : ℕ). nat_lt p (Pages k)) (sym (own_relen f.id n x s))))))
        (λ (d : x.id ≢ f.id).
        ap is_some (other_place c.places f.id fresh from to x.id p d) ∙ (h.placed.have.exact x i p ∙ ap (λ (w : File). nat_lt p (Pages w.len)) (sym (other_relen f.id n x d))))
        (same_or_not x.id f.id)

    kept : (x : File) → Contains c.names.files x → (y : File) × Contains (names_after c call s2).files y × (y.id ≡ x.id)
    kept x i = (relen f.id n x, subst (λ (fs : List File). Contains fs (relen f.id n x)) (sym (files_after c lane call f s2 h g)) (in_mapped (relen f.id n) c.names.files x i), refl)

    owned : (id p b : ℕ) → PlaceWas c.places f.id fresh from to id p b → (x : File) × Contains (names_after c call s2).files x × (x.id ≡ id)
    owned id p b (Old q r) = let o = h.placed.have.owned id p b q in let k = kept o.0 o.1 in (k.0, k.1, k.2 ∙ o.2)
    owned id p b (New s l m q) = let k = kept f (there c lane call f s2 g) in (k.0, k.1, k.2 ∙ sym s)

    mixed : (i p k b : ℕ) → c.places i p ≡ Some b → slice_get fresh k ≡ Some b → ⊥
    mixed i p k b e l = let z = not_fresh c.shape c.names c.places h.placed.have (to - from) i p b e in let y = listed_there fresh k b l in omega arith

    apart : (i j p q b : ℕ) → PlaceWas c.places f.id fresh from to i p b → PlaceWas c.places f.id fresh from to j q b → (i ≡ j) × (p ≡ q)
    apart i j p q b (Old x r) (Old y t) = h.placed.have.apart i j p q b x y
    apart i j p q b (Old x r) (New s l m y) = absurd (mixed i p (q - from) b x y)
    apart i j p q b (New s l m y) (Old x r) = absurd (mixed j q (p - from) b x y)
    apart i j p q b (New s l m x) (New t k o y) = let e = one_place fresh (p - from) (q - from) b (free_once c.shape c.names c.places (to - from) b) x y in (s ∙ sym t, omega arith)

    within : (id p b : ℕ) → PlaceWas c.places f.id fresh from to id p b → b < c.shape.blocks
    within id p b (Old q r) = h.placed.have.within id p b q
    within id p b (New s l m q) = free_low c.shape c.names c.places (to - from) b (listed_there fresh (p - from) b q)

-- ---- names

pub named_after : (c : Core) (lane : ℕ) (call : Flight) (f : File) (s2 : State) → Coherent c → (g : IsStoring c lane call f s2) → EachBehind (λ (x y : Function). x.name ≢ y.name) (names_after c call s2).functions → AreNamed (names_after c call s2)
named_after c lane call f s2 h g apart = record {
  ids = subst (EachBehind (λ (x y : File). x.id < y.id)) (sym same) (each_map (λ (x y : File). x.id < y.id) (relen f.id n) c.names.files h.placed.named.ids);
  names_apart = subst (EachBehind (λ (x y : File). x.name ≢ y.name)) (sym same) (each_map (λ (x y : File). x.name ≢ y.name) (relen f.id n) c.names.files h.placed.named.names_apart);
  functions_apart = apart;
  ids_below = λ x i.
      let k = in_map (relen f.id n) c.names.files x (subst (λ (fs : List File). Contains fs x) same i) in
      let e : k.0.id ≡ x.id = ap (λ (w : File). w.id) k.2 in
      let l = h.placed.named.ids_below k.0 k.1 in
      let m : c.names.next ≡ s2.next = ap (λ (s : State). s.next) (sym g.stored.state) in
      omega arith;
}
  where
    n : ℕ
    n = length g.stored.new

    same : (names_after c call s2).files ≡ map (relen f.id n) c.names.files
    same = files_after c lane call f s2 h g
