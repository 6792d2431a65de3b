-- End, where the call stores: its file's length and blocks move within the pages that it locks.
use Rattle.std.proofs.Common.{◌≡◌, ℕ, ◌+◌, ◌<◌, ◌≤◌, Bool, true, false, List, [], ◌∷◌, ◌++◌, length, Option, Some, None, refl, sym, ap, ◌∙◌, subst, inl, inr, ⊎_elim, arith}
use Rattle.std.specs.Prelude.{◌≢◌, ◌⊎◌, map, if◌then◌else◌, bytes_eq}
use Rattle.std.specs.List.{find}
use Rattle.std.proofs.lemmas.Slice.Eq.{bytes_eq-Decides}
use Rattle.page_base.specs.Bytes.{Pages}
use Rattle.index_lists.proofs.Counts.{same_or_not}
use Rattle.core_quick.specs.Call.{Call}
use Rattle.core_quick.specs.Call.TheVariants.{Read, Write, Append, Trunc, Readl, Writel}
use Rattle.core_quick.specs.PlainFile.{PlainFile}
use Rattle.core_quick.specs.Lists.{with_changed}
use Rattle.core_quick.specs.Plain.{State, file_of, is_file}
use Rattle.core_quick.specs.Actor.{Actor}
use Rattle.core_quick.specs.Actor.TheVariants.{Lane}
use Rattle.core_quick.specs.State.{File, Reach, Claim, Flight, Core}
use Rattle.core_quick.specs.Contents.{content, contents, span_block}
use Rattle.core_quick.specs.Reach.{is_data, is_sync, file_word, file_by, file_for, function_for, len_or_none, reach_of}
use Rattle.core_quick.specs.PlainOf.{plain_file, plain, bytes_by_id, page_at, file_like, names_like}
use Rattle.core_quick.specs.InFlight.{claim_of}
use Rattle.core_quick.specs.Coherent.{Coherent}
use Rattle.core_quick.specs.Dies.{owner}
use Rattle.core_quick.specs.Resizing.{blocks_between, follows}
use Rattle.core_quick.specs.EndEvent.{spanned, landed, learnt_by}
use Rattle.core_quick.specs.Hold.{code_of, len_seen, readable_seen, len_for, hold}
use Rattle.core_quick.proofs.Words.{same_some}
use Rattle.core_quick.proofs.Spans.{file_in}
use Rattle.core_quick.proofs.Finds.{found_passes}
use Rattle.core_quick.proofs.Named.{find_changed, one_of_id}
use Rattle.core_quick.proofs.Flying.{FliesOn, flies_on}
use Rattle.core_hold.proofs.Seeing.{StillSees, plain_len, len_new, len_found, code_alike}
use Rattle.core_hold.proofs.Moves.{renewed_flashes}
use Rattle.core_hold.proofs.Quicks.{sync_pages}
use Rattle.core_hold.proofs.Endings.{over_holds, code_learnt}
use Rattle.core_hold.proofs.Reaches.{Stretches, Apart, Tells, told}
use Rattle.core_hold.proofs.Lengths.{len_seen_same, readable_same}
use Rattle.core_hold.proofs.Spanning.{span_flashes}
use Rattle.core_hold.proofs.Others.{IsStoring, changing, by_name, there, plain_by_name, new_len, fresh_of, places_of, moved_of, spanned_of, apart_of, stretches_of, most_of, StillHas, other_has, same_has}

-- ---- the new bytes are found

-- the first file of the name has them
found_changed : (name : List ℕ) (change : PlainFile → PlainFile) (xs : List PlainFile) (g : PlainFile) → ((x : PlainFile) → (change x).name ≡ x.name) → find (is_file name) xs ≡ Some g → find (is_file name) (with_changed (is_file name) change xs) ≡ Some (change g)
found_changed name change [] g same e = absurd (cc)
found_changed name change (x ∷ xs) g same e = go (is_file name x) refl e (found_changed name change xs g same)
  where
    first : (t : Bool) → t ≡ true → x ≡ g → (if t then Some (change x) else find (is_file name) xs) ≡ Some (change g)
    first true e s = ap (λ (y : PlainFile). Some (change y)) s
    first false e s = absurd (cc)

    later : (t : Bool) → t ≡ false → find (is_file name) (with_changed (is_file name) change xs) ≡ Some (change g) → (if t then Some x else find (is_file name) (with_changed (is_file name) change xs)) ≡ Some (change g)
    later true e ih = absurd (cc)
    later false e ih = ih

    go : (t : Bool) → is_file name x ≡ t → (if t then Some x else find (is_file name) xs) ≡ Some g → (find (is_file name) xs ≡ Some g → find (is_file name) (with_changed (is_file name) change xs) ≡ Some (change g)) →
        find (is_file name) (if t then change x ∷ xs else x ∷ with_changed (is_file name) change xs) ≡ Some (change g)
    go true t f ih = first (is_file name (change x)) (ap (λ (n : List ℕ). bytes_eq n name) (same x) ∙ t) (same_some (Some x) x g refl f)
    go false t f ih = later (is_file name x) t (ih f)

-- ---- another call's file

len_by_word : (c : Core) (claim : Claim) (name : List ℕ) (files : List File) → file_word claim.request.call ≡ Some name → len_or_none (file_for files claim.request.call) ≡ len_or_none (file_by files (Some name))
len_by_word c claim name files w = ap (λ (o : Option (List ℕ)). len_or_none (file_by files o)) w

-- of another name, it is as long as before
other_len : (c : Core) (lane : ℕ) (call : Flight) (f : File) (s2 : State) → (g : IsStoring c lane call f s2) → (claim : Claim) (name : List ℕ) → file_word claim.request.call ≡ Some name → name ≢ g.stored.name → len_for (names_like s2 c.names) claim ≡ len_for c.names claim
other_len c lane call f s2 g claim name w d =
    len_by_word c claim name (map file_like s2.files) w
    ∙ (len_new s2 name
    ∙ (ap (λ (s : State). plain_len (file_of name s.files)) g.stored.state
    ∙ (ap plain_len (find_changed (is_file name) (is_file g.stored.name) (changing g.stored.new) (plain c).files (λ x i t. let k = apart x.name ((bytes_eq-Decides x.name g.stored.name).0 t) in (k, k)))
    ∙ (len_found c.shape c.names c.places (contents c.blocks) name ∙ sym (len_by_word c claim name c.names.files w)))))
  where
    apart : (n : List ℕ) → n ≡ g.stored.name → bytes_eq n name ≡ false
    apart n e = go (bytes_eq n name) refl
      where
        go : (t : Bool) → bytes_eq n name ≡ t → t ≡ false
        go true q = absurd (d (sym ((bytes_eq-Decides n name).0 q) ∙ e))
        go false q = refl

-- of the same name, it has the new bytes
own_len : (c : Core) (lane : ℕ) (call : Flight) (f : File) (s2 : State) → (g : IsStoring c lane call f s2) → (claim : Claim) (name : List ℕ) → file_word claim.request.call ≡ Some name → name ≡ g.stored.name →
    (len_for (names_like s2 c.names) claim ≡ length g.stored.new) × (len_for c.names claim ≡ f.len)
own_len c lane call f s2 g claim name w e = (
  len_by_word c claim name (map file_like s2.files) w
      ∙ (len_new s2 name
      ∙ (ap (λ (s : State). plain_len (file_of name s.files)) g.stored.state
      ∙ (ap (λ (n : List ℕ). plain_len (file_of n (with_changed (is_file g.stored.name) (changing g.stored.new) (plain c).files))) e
      ∙ ap plain_len (found_changed g.stored.name (changing g.stored.new) (plain c).files (plain_file c.places (contents c.blocks) f) (λ x. refl) (plain_by_name c lane call f s2 g))))),
  len_by_word c claim name c.names.files w ∙ ap len_or_none (ap (λ (n : List ℕ). file_by c.names.files (Some n)) e ∙ by_name c lane call f s2 g),
)

code_stays : (c : Core) (lane : ℕ) (call : Flight) (f : File) (s2 : State) → (g : IsStoring c lane call f s2) → (k : Call) → code_of (function_for (learnt_by (plain c) call.claim (names_like s2 c.names)).functions k) ≡ code_of (function_for c.names.functions k)
code_stays c lane call f s2 g k =
    code_learnt (plain c) call.claim (names_like s2 c.names) k
    ∙ (ap (λ (s : State). code_of (function_for (names_like s c.names).functions k)) g.stored.state
    ∙ code_alike c.shape c.names c.places (contents c.blocks) (plain c) k (record { len = λ n w. refl; code = λ n w. refl }))

-- ---- what the others see

-- a call on another file
other_sees : (c : Core) (lane : ℕ) (call : Flight) (f : File) (s2 : State) → Coherent c → (g : IsStoring c lane call f s2) → (from to l : ℕ) (y : Flight) → l ≢ lane → c.calls l ≡ Some y → ((i : ℕ) → i < y.claim.reach.pages → y.claim.file ≢ f.id) →
    len_for (names_like s2 c.names) y.claim ≡ len_for c.names y.claim →
    StillSees c.names (learnt_by (plain c) call.claim (names_like s2 c.names)) c.places (places_of c f.id from to) (contents c.blocks) (contents (spanned_of c call f.id from to s2)) y.claim
other_sees c lane call f s2 h g from to l y d e other len = record {
  code = code_stays c lane call f s2 g y.claim.request.call;
  blocks = λ i w. (still i w).span i w;
  contents = λ i b w at. ap content ((still i w).same i b w at);
  len = ap (len_seen y.claim) len;
  readable = ap (readable_seen y.claim) len;
}
  where
    still : (i : ℕ) → i < y.claim.reach.pages → StillHas c (places_of c f.id from to) (spanned_of c call f.id from to s2) y.claim
    still i w = other_has c lane call f s2 h g from to l y d e (other i w)

-- a call on the same file
same_sees : (c : Core) (lane : ℕ) (call : Flight) (f : File) (s2 : State) → Coherent c → (g : IsStoring c lane call f s2) → (l : ℕ) (y : Flight) → l ≢ lane → c.calls l ≡ Some y → y.claim.file ≡ f.id →
    len_for (names_like s2 c.names) y.claim ≡ length g.stored.new → len_for c.names y.claim ≡ f.len → (to : ℕ) → to ≡ Pages (length g.stored.new) →
    StillSees c.names (learnt_by (plain c) call.claim (names_like s2 c.names)) c.places (places_of c f.id (Pages f.len) to) (contents c.blocks) (contents (spanned_of c call f.id (Pages f.len) to s2)) y.claim
same_sees c lane call f s2 h g l y d e file now was to is_to = record {
  code = code_stays c lane call f s2 g y.claim.request.call;
  blocks = still.span;
  contents = λ i b w at. ap content (still.same i b w at);
  len = ap (len_seen y.claim) now ∙ (len_seen_same call.claim.reach y.claim f.len (length g.stored.new) stretches most apart tells ∙ sym (ap (len_seen y.claim) was));
  readable = ap (readable_seen y.claim) now ∙ (readable_same call.claim.reach y.claim f.len (length g.stored.new) stretches most apart tells ∙ sym (ap (readable_seen y.claim) was));
}
  where
    still : StillHas c (places_of c f.id (Pages f.len) to) (spanned_of c call f.id (Pages f.len) to s2) y.claim
    still = same_has c lane call f s2 h g l y d e file to is_to

    stretches : Stretches call.claim.reach f.len (length g.stored.new)
    stretches = stretches_of c lane call f s2 h g

    most : Pages f.len ≤ 65536
    most = most_of c lane call f s2 h g

    apart : Apart call.claim.reach y.claim.reach
    apart = apart_of c lane call f s2 h g l y d e file

    tells : Tells y.claim.request.call y.claim.reach f.len
    tells = subst (λ (r : Reach). Tells y.claim.request.call r f.len) (sym (ap (λ (k : Claim). k.reach) (h.in_flight.right l y.claim (ap claim_of e)).same ∙ ap (reach_of y.claim.request.call) was)) (told y.claim.request.call f.len)

-- ---- every other call

data_word : (call : Call) → is_data call ≡ true → file_word call ≡ None → ⊥
data_word (Read name off n) e f = cc
data_word (Write name off bytes) e f = cc
data_word (Append name bytes) e f = cc
data_word (Trunc name n) e f = cc
data_word (Readl file off n function fuel cap param) e f = cc
data_word (Writel file off n function fuel param input) e f = cc
data_word call e f = cc

wordless_pages : (c : Core) (l : ℕ) (y : Flight) → Coherent c → c.calls l ≡ Some y → file_word y.claim.request.call ≡ None → y.claim.reach.pages ≡ 0
wordless_pages c l y h e w =
    let right = h.in_flight.right l y.claim (ap claim_of e) in
    ⊎_elim (λ (k : is_data y.claim.request.call ≡ true). absurd (data_word y.claim.request.call k w))
    (λ (k : is_sync y.claim.request.call ≡ true). ap (λ (q : Claim). q.reach.pages) right.same ∙ sync_pages y.claim.request.call (len_or_none (file_for c.names.files y.claim.request.call)) k) right.kind

others_see : (c : Core) (lane : ℕ) (call : Flight) (f : File) (s2 : State) → Coherent c → (g : IsStoring c lane call f s2) → (l : ℕ) (y : Flight) → l ≢ lane → c.calls l ≡ Some y → (to : ℕ) → to ≡ Pages (length g.stored.new) →
    StillSees c.names (learnt_by (plain c) call.claim (names_like s2 c.names)) c.places (places_of c f.id (Pages f.len) to) (contents c.blocks) (contents (spanned_of c call f.id (Pages f.len) to s2)) y.claim
others_see c lane call f s2 h g l y d e to is_to = go (file_word y.claim.request.call) refl
  where
    named : (name : List ℕ) → file_word y.claim.request.call ≡ Some name → (fly : FliesOn c y.claim name) → (fly.file.id ≡ f.id) ⊎ (fly.file.id ≢ f.id) →
        StillSees c.names (learnt_by (plain c) call.claim (names_like s2 c.names)) c.places (places_of c f.id (Pages f.len) to) (contents c.blocks) (contents (spanned_of c call f.id (Pages f.len) to s2)) y.claim
    named name w fly (inl same) =
        let is : fly.file ≡ f = one_of_id c.names.files h.placed.named.ids fly.file f (file_in c.names.files (Some name) fly.file fly.found) (there c lane call f s2 g) same in
        let a : fly.file.name ≡ name = (bytes_eq-Decides fly.file.name name).0 (found_passes (λ (k : File). bytes_eq k.name name) c.names.files fly.file fly.found) in
        let b : f.name ≡ g.stored.name = (bytes_eq-Decides f.name g.stored.name).0 (found_passes (λ (k : File). bytes_eq k.name g.stored.name) c.names.files f (by_name c lane call f s2 g)) in
        let k = own_len c lane call f s2 g y.claim name w (sym a ∙ (ap (λ (k : File). k.name) is ∙ b)) in
        same_sees c lane call f s2 h g l y d e (fly.id ∙ same) k.0 k.1 to is_to
    named name w fly (inr other) =
        other_sees c lane call f s2 h g (Pages f.len) to l y d e (λ i k z. other (sym fly.id ∙ z))
        (other_len c lane call f s2 g y.claim name w
        (λ z. other (ap (λ (k : File). k.id) (same_some (file_by c.names.files (Some name)) fly.file f fly.found (ap (λ (n : List ℕ). file_by c.names.files (Some n)) z ∙ by_name c lane call f s2 g)))))

    go : (word : Option (List ℕ)) → file_word y.claim.request.call ≡ word →
        StillSees c.names (learnt_by (plain c) call.claim (names_like s2 c.names)) c.places (places_of c f.id (Pages f.len) to) (contents c.blocks) (contents (spanned_of c call f.id (Pages f.len) to s2)) y.claim
    go None w =
        let none = wordless_pages c l y h e w in
        other_sees c lane call f s2 h g (Pages f.len) to l y d e (λ i k. absurd (omega arith))
        (ap (λ (o : Option (List ℕ)). len_or_none (file_by (map file_like s2.files) o)) w ∙ sym (ap (λ (o : Option (List ℕ)). len_or_none (file_by c.names.files o)) w))
    go (Some name) w = let fly = flies_on c l y.claim name h (ap claim_of e) w in named name w fly (same_or_not fly.file.id f.id)

-- ---- the End

abbrev pub storing_with : Core → ℕ → Flight → State → Option File → Core
storing_with c lane call s2 found =
    let moved = follows c found s2 in
    landed (spanned moved call.claim.side call.claim.reach.pages (span_block moved.places call.claim) (λ i. page_at (bytes_by_id s2 call.claim.file) (call.claim.reach.first + i))) lane (learnt_by (plain c) call.claim moved.names)

pub storing_holds : (c : Core) (lane : ℕ) (call : Flight) (f : File) (s2 : State) (a : Actor) → Coherent c → IsStoring c lane call f s2 → owner lane call.phase ≡ Some (Lane lane) → a ≢ Lane lane → hold (storing_with c lane call s2 (file_for c.names.files call.claim.request.call)) a ≡ hold c a
storing_holds c lane call f s2 a h g owns n =
    let from = Pages f.len in
    let to = Pages (length (bytes_by_id s2 f.id)) in
    subst (λ (o : Option File). hold (storing_with c lane call s2 o) a ≡ hold c a) (sym g.found)
    (over_holds c lane call (learnt_by (plain c) call.claim (names_like s2 c.names)) (places_of c f.id from to) (spanned_of c call f.id from to s2) a g.flies owns n
    (span_flashes call.claim.side call.claim.reach.pages (span_block (places_of c f.id from to) call.claim) (λ i. page_at (bytes_by_id s2 call.claim.file) (call.claim.reach.first + i)) (moved_of c f.id from to)
    ∙ renewed_flashes (blocks_between c.places f.id to from ++ fresh_of c f.id from to) c.blocks)
    (λ l y d e. others_see c lane call f s2 h g l y d e to (ap Pages (new_len c lane call f s2 h g))))
