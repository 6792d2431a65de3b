-- A call that stores, at its end: its file has new bytes, and the other calls in flight keep their blocks and places.
use Rattle.std.proofs.Common.{◌≡◌, ℕ, ◌+◌, ◌-◌, ◌<◌, ◌≤◌, Bool, true, false, List, [], ◌∷◌, ◌++◌, length, take, Option, Some, None, refl, sym, ap, ◌∙◌, subst, ⊎_elim, arith}
use Rattle.std.specs.Prelude.{◌≢◌, ◌==◌, nat_lt, option_map, is_some, if◌then◌else◌, bytes_eq}
use Rattle.std.specs.List.{Contains, find, slice_get}
use Rattle.std.proofs.lemmas.Bool.Decides.{nat_tests}
use Rattle.page_base.specs.Bytes.{Pages}
use Rattle.index_lists.proofs.Counts.{same_or_not}
use Rattle.core_quick.specs.PlainFile.{PlainFile}
use Rattle.core_quick.specs.Lists.{with_changed}
use Rattle.core_quick.specs.Plain.{State, file_of, is_file}
use Rattle.core_quick.specs.State.{Block, File, Places, Exclusive, Reach, Claim, Flight, Core}
use Rattle.core_quick.specs.Contents.{contents, span_block}
use Rattle.core_quick.specs.Reach.{file_word, file_by, file_for, id_or_none, len_or_none, reach_of}
use Rattle.core_quick.specs.PlainOf.{plain_file, plain, bytes_or_none, bytes_by_id, page_at}
use Rattle.core_quick.specs.InFlight.{claim_of, InRange, IsRight}
use Rattle.core_quick.specs.Coherent.{Coherent}
use Rattle.core_quick.specs.Resizing.{free_blocks, blocks_between, new_places, renewed_in}
use Rattle.core_quick.specs.EndEvent.{with_span}
use Rattle.core_quick.proofs.Words.{same_some}
use Rattle.core_quick.proofs.Spans.{listed-none, pages_fit, span_in, only_span, file_in, not_both}
use Rattle.core_quick.proofs.Finds.{found_passes}
use Rattle.core_quick.proofs.Views.{file_seen}
use Rattle.core_quick.proofs.Named.{in_here, in_there, in_map, one_of_id}
use Rattle.core_hold.proofs.Moves.{not_fresh, out_of_both, stays_so, other_stays}
use Rattle.core_hold.proofs.Quicks.{other_place}
use Rattle.core_hold.proofs.Reaches.{Stretches, Apart, none_added, none_cut}
use Rattle.core_hold.proofs.Spanning.{span_stays, fresh_listed, own_place, page_stays, page_was}
use Rattle.core_hold.proofs.Stores.{IsStored}

-- ---- the new bytes are found

-- by the file's id
pub found_by_id : (name : List ℕ) (change : PlainFile → PlainFile) (xs : List PlainFile) (g : PlainFile) → ((x : PlainFile) → (change x).id ≡ x.id) → ((x : PlainFile) → Contains xs x → x.id ≡ g.id → is_file name x ≡ true) →
    find (is_file name) xs ≡ Some g → find (λ (x : PlainFile). x.id == g.id) (with_changed (is_file name) change xs) ≡ Some (change g)
found_by_id name change [] g same alone e = absurd (cc)
found_by_id name change (x ∷ xs) g same alone e = go (is_file name x) refl e (found_by_id name change xs g same (λ y i. alone y (in_there x y xs i)))
  where
    equal : (a b : ℕ) → a ≡ b → (a == b) ≡ true
    equal a b s = grind (arith, nat_tests)

    equal_of : (a b : ℕ) → (a == b) ≡ true → a ≡ b
    equal_of a b s = grind (arith, nat_tests)

    first : (t : Bool) → t ≡ true → x ≡ g → (if t then Some (change x) else find (λ (y : PlainFile). y.id == g.id) xs) ≡ Some (change g)
    first true e s = ap (λ (y : PlainFile). Some (change y)) s
    first false e s = absurd (cc)

    later : (t : Bool) → (x.id == g.id) ≡ t → is_file name x ≡ false → find (λ (y : PlainFile). y.id == g.id) (with_changed (is_file name) change xs) ≡ Some (change g) →
        (if t then Some x else find (λ (y : PlainFile). y.id == g.id) (with_changed (is_file name) change xs)) ≡ Some (change g)
    later true e f ih = let k = alone x (in_here x xs) (equal_of x.id g.id e) in absurd (cc)
    later false e f ih = ih

    go : (t : Bool) → is_file name x ≡ t → (if t then Some x else find (is_file name) xs) ≡ Some g → (find (is_file name) xs ≡ Some g → find (λ (y : PlainFile). y.id == g.id) (with_changed (is_file name) change xs) ≡ Some (change g)) →
        find (λ (y : PlainFile). y.id == g.id) (if t then change x ∷ xs else x ∷ with_changed (is_file name) change xs) ≡ Some (change g)
    go true t f ih = let s = same_some (Some x) x g refl f in first ((change x).id == g.id) (equal (change x).id g.id (same x ∙ ap (λ (y : PlainFile). y.id) s)) s
    go false t f ih = later (x.id == g.id) refl t (ih f)

-- ---- the call that ends

pub record IsStoring (c : Core) (lane : ℕ) (call : Flight) (f : File) (s2 : State) : Type 0 where
  pub flies : c.calls lane ≡ Some call
  pub found : file_for c.names.files call.claim.request.call ≡ Some f
  pub mode : call.claim.reach.mode ≡ Exclusive
  pub stored : IsStored (plain c) s2 call.claim.request.call f.len

abbrev pub changing : List ℕ → PlainFile → PlainFile
changing new file = record file { bytes = new }

pub file_is : (c : Core) (lane : ℕ) (call : Flight) (f : File) (s2 : State) → Coherent c → IsStoring c lane call f s2 → call.claim.file ≡ f.id
file_is c lane call f s2 h g = ap (λ (k : Claim). k.file) (h.in_flight.right lane call.claim (ap claim_of g.flies)).same ∙ ap id_or_none g.found

pub by_name : (c : Core) (lane : ℕ) (call : Flight) (f : File) (s2 : State) (g : IsStoring c lane call f s2) → file_by c.names.files (Some g.stored.name) ≡ Some f
by_name c lane call f s2 g = ap (file_by c.names.files) (sym g.stored.word) ∙ g.found

pub there : (c : Core) (lane : ℕ) (call : Flight) (f : File) (s2 : State) → IsStoring c lane call f s2 → Contains c.names.files f
there c lane call f s2 g = file_in c.names.files (file_word call.claim.request.call) f g.found

pub plain_by_name : (c : Core) (lane : ℕ) (call : Flight) (f : File) (s2 : State) (g : IsStoring c lane call f s2) → file_of g.stored.name (plain c).files ≡ Some (plain_file c.places (contents c.blocks) f)
plain_by_name c lane call f s2 g = file_seen c.shape c.names c.places (contents c.blocks) g.stored.name ∙ ap (option_map (plain_file c.places (contents c.blocks))) (by_name c lane call f s2 g)

pub new_bytes : (c : Core) (lane : ℕ) (call : Flight) (f : File) (s2 : State) → Coherent c → (g : IsStoring c lane call f s2) → bytes_by_id s2 f.id ≡ g.stored.new
new_bytes c lane call f s2 h g =
    ap (λ (s : State). bytes_by_id s f.id) g.stored.state
    ∙ ap bytes_or_none
    (found_by_id g.stored.name (changing g.stored.new) (plain c).files (plain_file c.places (contents c.blocks) f) (λ x. refl) alone (plain_by_name c lane call f s2 g))
  where
    alone : (x : PlainFile) → Contains (plain c).files x → x.id ≡ f.id → is_file g.stored.name x ≡ true
    alone x i e =
        let k = in_map (plain_file c.places (contents c.blocks)) c.names.files x i in
        let id : k.0.id ≡ f.id = ap (λ (y : PlainFile). y.id) k.2 ∙ e in
        let same : k.0 ≡ f = one_of_id c.names.files h.placed.named.ids k.0 f k.1 (there c lane call f s2 g) id in
        let name : x.name ≡ f.name = ap (λ (y : PlainFile). y.name) (sym k.2) ∙ ap (λ (y : File). y.name) same in
        ap (λ (n : List ℕ). bytes_eq n g.stored.name) name ∙ found_passes (λ (y : File). bytes_eq y.name g.stored.name) c.names.files f (by_name c lane call f s2 g)

pub new_len : (c : Core) (lane : ℕ) (call : Flight) (f : File) (s2 : State) → Coherent c → (g : IsStoring c lane call f s2) → length (bytes_by_id s2 f.id) ≡ length g.stored.new
new_len c lane call f s2 h g = ap length (new_bytes c lane call f s2 h g)

-- ---- blocks and places after the End

abbrev pub fresh_of : Core → ℕ → ℕ → ℕ → List ℕ
fresh_of c id from to = take (to - from) (free_blocks c.shape c.names.files c.places)

abbrev pub places_of : Core → ℕ → ℕ → ℕ → Places
places_of c id from to = new_places c.places id (fresh_of c id from to) from to

abbrev pub moved_of : Core → ℕ → ℕ → ℕ → ℕ → Block
moved_of c id from to = renewed_in (blocks_between c.places id to from ++ fresh_of c id from to) c.blocks

-- a block of another call's span is none of this call's span
pub not_spanned : (c : Core) (lane : ℕ) (call : Flight) (f : File) (s2 : State) → Coherent c → IsStoring c lane call f s2 → (from to l : ℕ) (y : Flight) → l ≢ lane → c.calls l ≡ Some y → (i b : ℕ) → i < y.claim.reach.pages → span_block c.places y.claim i ≡ Some b →
    (k : ℕ) → k < call.claim.reach.pages → span_block (places_of c f.id from to) call.claim k ≡ Some b → ⊥
not_spanned c lane call f s2 h g from to l y d e i b within at k inside new =
    ⊎_elim
    (λ (old : c.places f.id (call.claim.reach.first + k) ≡ Some b).
    only_span c.shape c.names c.places c.blocks (plain c) c.calls h.placed h.in_flight h.locked.apart lane l call y g.flies e (λ s. d (sym s)) g.mode k i b inside within
    (ap (λ (id : ℕ). c.places id (call.claim.reach.first + k)) file ∙ old) at)
    (λ (listed : slice_get (fresh_of c f.id from to) ((call.claim.reach.first + k) - from) ≡ Some b).
    let some = fresh_listed (fresh_of c f.id from to) ((call.claim.reach.first + k) - from) b listed in
    let none = not_fresh c.shape c.names c.places h.placed.have (to - from) y.claim.file (y.claim.reach.first + i) b at in
    absurd (omega arith))
    (page_was (c.places f.id) (fresh_of c f.id from to) from to (call.claim.reach.first + k) b
    (sym (own_place c.places f.id (fresh_of c f.id from to) from to (call.claim.reach.first + k)) ∙ (ap (λ (id : ℕ). places_of c f.id from to id (call.claim.reach.first + k)) (sym file) ∙ new)))
  where
    file : call.claim.file ≡ f.id
    file = file_is c lane call f s2 h g

-- ---- what the others have

abbrev pub spanned_of : Core → Flight → ℕ → ℕ → ℕ → State → ℕ → Block
spanned_of c call id from to s2 =
    with_span call.claim.side call.claim.reach.pages (span_block (places_of c id from to) call.claim) (λ i. page_at (bytes_by_id s2 call.claim.file) (call.claim.reach.first + i)) (moved_of c id from to)

pub spanned_stays : (c : Core) (lane : ℕ) (call : Flight) (f : File) (s2 : State) → Coherent c → IsStoring c lane call f s2 → (from to l : ℕ) (y : Flight) → l ≢ lane → c.calls l ≡ Some y → (i b : ℕ) → i < y.claim.reach.pages → span_block c.places y.claim i ≡ Some b →
    moved_of c f.id from to b ≡ c.blocks b → spanned_of c call f.id from to s2 b ≡ c.blocks b
spanned_stays c lane call f s2 h g from to l y d e i b within at moved =
    span_stays call.claim.side call.claim.reach.pages (span_block (places_of c f.id from to) call.claim) (λ k. page_at (bytes_by_id s2 call.claim.file) (call.claim.reach.first + k)) (moved_of c f.id from to) b
    (not_spanned c lane call f s2 h g from to l y d e i b within at)
    ∙ moved

-- another call has its span and its blocks as before
pub record StillHas (c : Core) (places : Places) (blocks : ℕ → Block) (claim : Claim) : Type 0 where
  pub span : (i : ℕ) → i < claim.reach.pages → span_block places claim i ≡ span_block c.places claim i
  pub same : (i b : ℕ) → i < claim.reach.pages → span_block c.places claim i ≡ Some b → blocks b ≡ c.blocks b

pub other_has : (c : Core) (lane : ℕ) (call : Flight) (f : File) (s2 : State) → Coherent c → (g : IsStoring c lane call f s2) → (from to l : ℕ) (y : Flight) → l ≢ lane → c.calls l ≡ Some y → y.claim.file ≢ f.id → StillHas c (places_of c f.id from to) (spanned_of c call f.id from to s2) y.claim
other_has c lane call f s2 h g from to l y d e other = record {
  span = λ i w. other_place c.places f.id (fresh_of c f.id from to) from to y.claim.file (y.claim.reach.first + i) other;
  same = λ i b w at. spanned_stays c lane call f s2 h g from to l y d e i b w at (other_stays c.shape c.names c.places c.blocks h.placed.have f.id from to (to - from) y.claim.file (y.claim.reach.first + i) b at other);
}

-- what two calls on the file have in common
pub apart_of : (c : Core) (lane : ℕ) (call : Flight) (f : File) (s2 : State) → Coherent c → IsStoring c lane call f s2 → (l : ℕ) (y : Flight) → l ≢ lane → c.calls l ≡ Some y → y.claim.file ≡ f.id → Apart call.claim.reach y.claim.reach
apart_of c lane call f s2 h g l y d e file p in_x in_y =
    not_both call.claim.reach.mode (h.locked.apart lane l call.claim y.claim p (ap claim_of g.flies) (ap claim_of e) (λ s. d (sym s)) (file_is c lane call f s2 h g ∙ sym file) in_x in_y).0 g.mode

-- what the call meets in its file
pub reach_is : (c : Core) (lane : ℕ) (call : Flight) (f : File) (s2 : State) → Coherent c → IsStoring c lane call f s2 → call.claim.reach ≡ reach_of call.claim.request.call f.len
reach_is c lane call f s2 h g = ap (λ (k : Claim). k.reach) (h.in_flight.right lane call.claim (ap claim_of g.flies)).same ∙ ap (λ (o : Option File). reach_of call.claim.request.call (len_or_none o)) g.found

pub stretches_of : (c : Core) (lane : ℕ) (call : Flight) (f : File) (s2 : State) → Coherent c → (g : IsStoring c lane call f s2) → Stretches call.claim.reach f.len (length g.stored.new)
stretches_of c lane call f s2 h g = subst (λ (r : Reach). Stretches r f.len (length g.stored.new)) (sym (reach_is c lane call f s2 h g)) g.stored.stretches

pub most_of : (c : Core) (lane : ℕ) (call : Flight) (f : File) (s2 : State) → Coherent c → IsStoring c lane call f s2 → Pages f.len ≤ 65536
most_of c lane call f s2 h g = let a = pages_fit c.shape c.names c.places h.placed.have f (there c lane call f s2 g) in let b = h.placed.drive.most_blocks in omega arith

-- a call on the same file
pub same_has : (c : Core) (lane : ℕ) (call : Flight) (f : File) (s2 : State) → Coherent c → (g : IsStoring c lane call f s2) → (l : ℕ) (y : Flight) → l ≢ lane → c.calls l ≡ Some y → y.claim.file ≡ f.id → (to : ℕ) → to ≡ Pages (length g.stored.new) →
    StillHas c (places_of c f.id (Pages f.len) to) (spanned_of c call f.id (Pages f.len) to s2) y.claim
same_has c lane call f s2 h g l y d e file to is_to = record {
  span = λ i w. place i w;
  same = λ i b w at. spanned_stays c lane call f s2 h g (Pages f.len) to l y d e i b w at (moved i b w at);
}
  where
    right_y : IsRight c.names (plain c) y.claim
    right_y = h.in_flight.right l y.claim (ap claim_of e)

    stretches : Stretches call.claim.reach f.len (length g.stored.new)
    stretches = stretches_of c lane call f s2 h g

    most : Pages f.len ≤ 65536
    most = most_of c lane call f s2 h g

    apart : Apart call.claim.reach y.claim.reach
    apart = apart_of c lane call f s2 h g l y d e file

    in_span : (i : ℕ) → i < y.claim.reach.pages → InRange y.claim.reach (y.claim.reach.first + i)
    in_span i w = span_in c.shape c.names c.places c.blocks (plain c) y.claim h.placed right_y i w

    comes : (i : ℕ) → i < y.claim.reach.pages → Pages f.len ≤ y.claim.reach.first + i → y.claim.reach.first + i < to → ⊥
    comes i w low high = none_added call.claim.reach y.claim.reach f.len (length g.stored.new) (y.claim.reach.first + i) stretches apart (in_span i w) low (omega arith)

    goes : (i : ℕ) → i < y.claim.reach.pages → to ≤ y.claim.reach.first + i → y.claim.reach.first + i < Pages f.len → ⊥
    goes i w low high = none_cut call.claim.reach y.claim.reach f.len (length g.stored.new) (y.claim.reach.first + i) stretches most apart (in_span i w) (omega arith) high

    past : (p : ℕ) → Pages f.len ≤ p → c.places f.id p ≡ None
    past p low = none_at (c.places f.id p) (h.placed.have.exact f (there c lane call f s2 g) p ∙ not_less p (Pages f.len) low)
      where
        not_less : (m n : ℕ) → n ≤ m → nat_lt m n ≡ false
        not_less m n l = grind (arith, nat_tests)

        none_at : (o : Option ℕ) → is_some o ≡ false → o ≡ None
        none_at None z = refl
        none_at (Some x) z = absurd (cc)

    place : (i : ℕ) → i < y.claim.reach.pages → span_block (places_of c f.id (Pages f.len) to) y.claim i ≡ span_block c.places y.claim i
    place i w =
        ap (λ (id : ℕ). places_of c f.id (Pages f.len) to id (y.claim.reach.first + i)) file
        ∙ (own_place c.places f.id (fresh_of c f.id (Pages f.len) to) (Pages f.len) to (y.claim.reach.first + i)
        ∙ (page_stays (c.places f.id) (fresh_of c f.id (Pages f.len) to) (Pages f.len) to (y.claim.reach.first + i) (comes i w) (goes i w) (past (y.claim.reach.first + i))
        ∙ ap (λ (id : ℕ). c.places id (y.claim.reach.first + i)) (sym file)))

    moved : (i b : ℕ) → i < y.claim.reach.pages → span_block c.places y.claim i ≡ Some b → moved_of c f.id (Pages f.len) to b ≡ c.blocks b
    moved i b w at =
        stays_so (blocks_between c.places f.id to (Pages f.len) ++ fresh_of c f.id (Pages f.len) to) c.blocks b
        (out_of_both b (blocks_between c.places f.id to (Pages f.len)) (fresh_of c f.id (Pages f.len) to)
        (listed-none b (Pages f.len - to) (λ j. c.places f.id (to + j))
        (λ j k z. let same : y.claim.reach.first + i ≡ to + j = (h.placed.have.apart y.claim.file f.id (y.claim.reach.first + i) (to + j) b at z).1 in goes i w (omega arith) (omega arith)))
        (not_fresh c.shape c.names c.places h.placed.have (to - Pages f.len) y.claim.file (y.claim.reach.first + i) b at))

pub still_has : (c : Core) (lane : ℕ) (call : Flight) (f : File) (s2 : State) → Coherent c → (g : IsStoring c lane call f s2) → (l : ℕ) (y : Flight) → l ≢ lane → c.calls l ≡ Some y → (to : ℕ) → to ≡ Pages (length g.stored.new) →
    StillHas c (places_of c f.id (Pages f.len) to) (spanned_of c call f.id (Pages f.len) to s2) y.claim
still_has c lane call f s2 h g l y d e to is_to = ⊎_elim (λ (s : y.claim.file ≡ f.id). same_has c lane call f s2 h g l y d e s to is_to) (λ (n : y.claim.file ≢ f.id). other_has c lane call f s2 h g (Pages f.len) to l y d e n) (same_or_not y.claim.file f.id)
