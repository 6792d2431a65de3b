-- A file is taken away: no call in flight holds it, and its blocks go.
use Rattle.std.proofs.Common.{◌≡◌, ℕ, ◌+◌, ◌-◌, ◌<◌, ◌≤◌, Bool, true, false, List, [], ◌∷◌, ◌++◌, length, take, Some, None, refl, sym, ap, ◌∙◌, subst, inl, ⊎_elim, arith, get_or}
use Rattle.std.specs.Prelude.{◌≢◌, ◌==◌, ◌&&◌, ◌*◌, nat_lt, map, is_some, bytes_eq, if◌then◌else◌}
use Rattle.std.specs.List.{Contains, find}
use Rattle.std.proofs.lemmas.Slice.Eq.{bytes_eq-Decides}
use Rattle.std.proofs.lemmas.Bool.Decides.{nat_tests}
use Rattle.page_base.specs.Bytes.{Pages}
use Rattle.core_lanes.specs.Call.{Call}
use Rattle.core_lanes.specs.Call.TheVariants.{Sync}
use Rattle.core_lanes.specs.PlainFile.{PlainFile}
use Rattle.core_lanes.specs.Lists.{without}
use Rattle.core_lanes.specs.Plain.{State, is_file}
use Rattle.core_lanes.specs.Words.{EachBehind}
use Rattle.core_lanes.specs.State.{Page, File, Names, Places, Claim, Flight, Core}
use Rattle.core_lanes.specs.Contents.{contents, page_of}
use Rattle.core_lanes.specs.Reach.{is_data, is_sync, file_by, reach_of, len_or_none, file_for}
use Rattle.core_lanes.specs.PlainOf.{file_page, plain_file, plain, bytes_or_none, bytes_by_id, file_like, names_like}
use Rattle.core_lanes.specs.InFlight.{claim_of, claims}
use Rattle.core_lanes.specs.Placed.{AreNamed, HavePlaces, Tails}
use Rattle.core_lanes.specs.Coherent.{Coherent}
use Rattle.core_lanes.specs.LaneEvents.{IsUnheld}
use Rattle.core_lanes.specs.Resizing.{free_blocks, new_places, renewed_in, exchanged, resized, follows}
use Rattle.core_lanes.proofs.Spans.{file_in}
use Rattle.core_lanes.proofs.Finds.{found_passes}
use Rattle.core_quick.proofs.Seen.{length_bytes, FindAll}
use Rattle.core_quick.proofs.Named.{in_none, in_cases, in_there, in_here, in_map, find_without, each_map, one_of_id}
use Rattle.core_quick.proofs.Flying.{unheld_other}
use Rattle.core_quick.proofs.Unchanged.{functions_of}
use Rattle.core_quick.proofs.Created.{in_without, each_without}
use Rattle.core_quick.proofs.Sealed.{in_mapped}
use Rattle.core_quick.proofs.Released.{place_kept, place_was}
use Rattle.core_quick.proofs.Releasing.{gone_of, released, IsReleasable, page_kept, released_keeps}

-- ---- the list without the file

-- two files of a list with one name are one
one_of_name : (files : List File) → EachBehind (λ (f g : File). f.name ≢ g.name) files → (f g : File) → Contains files f → Contains files g → f.name ≡ g.name → f ≡ g
one_of_name [] h f g a b e = absurd (in_none f a)
one_of_name (x ∷ xs) h f g a b e =
    ⊎_elim
    (λ (p : x ≡ f). ⊎_elim (λ (q : x ≡ g). sym p ∙ q) (λ (q : Contains xs g). absurd (h.0 g q (ap (λ (w : File). w.name) p ∙ e))) (in_cases x g xs b))
    (λ (p : Contains xs f). ⊎_elim (λ (q : x ≡ g). absurd (h.0 f p (ap (λ (w : File). w.name) q ∙ sym e))) (λ (q : Contains xs g). one_of_name xs h.1 f g p q e) (in_cases x g xs b))
    (in_cases x f xs a)

-- none of the name is left
without_not : (name : List ℕ) (xs : List PlainFile) → EachBehind (λ (x y : PlainFile). x.name ≢ y.name) xs → (y : PlainFile) → Contains (without (is_file name) xs) y → y.name ≢ name
without_not name [] h y i e = in_none y i
without_not name (x ∷ xs) h y i e = go (is_file name x) refl (λ k. without_not name xs h.1 y k e) i
  where
    go : (t : Bool) → is_file name x ≡ t → (Contains (without (is_file name) xs) y → ⊥) → Contains (if t then xs else x ∷ without (is_file name) xs) y → ⊥
    go true q ih i = h.0 y i ((bytes_eq-Decides x.name name).0 q ∙ sym e)
    go false q ih i = ⊎_elim (λ (s : x ≡ y). let z : is_file name x ≡ true = (bytes_eq-Decides x.name name).1 (ap (λ (w : PlainFile). w.name) s ∙ e) in cc) (λ r. ih r) (in_cases x y (without (is_file name) xs) i)

kept_without : (test : PlainFile → Bool) (xs : List PlainFile) (x : PlainFile) → Contains xs x → test x ≡ false → Contains (without test xs) x
kept_without test [] x h e = absurd (in_none x h)
kept_without test (z ∷ xs) x h e = ⊎_elim (λ (s : z ≡ x). here (test z) refl s) (λ (r : Contains xs x). there (test z) r (kept_without test xs x r e)) (in_cases z x xs h)
  where
    here : (t : Bool) → test z ≡ t → z ≡ x → Contains (if t then xs else z ∷ without test xs) x
    here true q s = let k : test z ≡ false = ap test s ∙ e in absurd (cc)
    here false q s = subst (λ (w : PlainFile). Contains (z ∷ without test xs) w) s (in_here z (without test xs))

    there : (t : Bool) → Contains xs x → Contains (without test xs) x → Contains (if t then xs else z ∷ without test xs) x
    there true r k = r
    there false r k = in_there z x (without test xs) k

-- what is found under a name has it
found_name : (files : List File) (name : List ℕ) (f : File) → file_by files (Some name) ≡ Some f → f.name ≡ name
found_name files name f e = (bytes_eq-Decides f.name name).0 (found_passes (λ (g : File). bytes_eq g.name name) files f e)

-- ---- the files that are left

record IsLeft (files : List File) (gone : ℕ) (f2 : File) : Type 0 where
  file : File
  there : Contains files file
  id : file.id ≡ f2.id
  len : file.len ≡ f2.len
  other : f2.id ≢ gone

left_back : (places : Places) (pages : ℕ → Page) (names : Names) (name : List ℕ) (f : File) → AreNamed names → file_by names.files (Some name) ≡ Some f → (f2 : File) → Contains (map file_like (without (is_file name) (map (plain_file places pages) names.files))) f2 → IsLeft names.files f.id f2
left_back places pages names name f named found f2 i =
    let a = in_map file_like (without (is_file name) ps) f2 i in
    let d = in_map (plain_file places pages) names.files a.0 (in_without (is_file name) ps a.0 a.1) in
    let id : d.0.id ≡ f2.id = ap (λ (w : PlainFile). w.id) d.2 ∙ ap (λ (w : File). w.id) a.2 in
    record {
      file = d.0;
      there = d.1;
      id = id;
      len = sym (length_bytes d.0.len (file_page places pages d.0.id)) ∙ (ap (λ (w : PlainFile). length w.bytes) d.2 ∙ ap (λ (w : File). w.len) a.2);
      other = λ e.
          let g : d.0 ≡ f = one_of_id names.files named.ids d.0 f d.1 (file_in names.files (Some name) f found) (id ∙ e) in
          without_not name ps (each_map (λ (x y : PlainFile). x.name ≢ y.name) (plain_file places pages) names.files named.names_apart) a.0 a.1 (sym (ap (λ (w : PlainFile). w.name) d.2) ∙ (ap (λ (w : File). w.name) g ∙ found_name names.files name f found));
    }
  where
    ps : List PlainFile
    ps = map (plain_file places pages) names.files

left_forth : (places : Places) (pages : ℕ → Page) (names : Names) (name : List ℕ) (f : File) → AreNamed names → file_by names.files (Some name) ≡ Some f → (g : File) → Contains names.files g → g.id ≢ f.id →
    (f2 : File) × Contains (map file_like (without (is_file name) (map (plain_file places pages) names.files))) f2 × (f2.id ≡ g.id)
left_forth places pages names name f named found g i d = (
  file_like (plain_file places pages g),
  in_mapped file_like (without (is_file name) ps) (plain_file places pages g) (kept_without (is_file name) ps (plain_file places pages g) (in_mapped (plain_file places pages) names.files g i) (other (bytes_eq g.name name) refl)),
  refl,
)
  where
    ps : List PlainFile
    ps = map (plain_file places pages) names.files

    other : (t : Bool) → bytes_eq g.name name ≡ t → t ≡ false
    other true e =
        let s : g ≡ f = one_of_name names.files named.names_apart g f i (file_in names.files (Some name) f found) ((bytes_eq-Decides g.name name).0 e ∙ sym (found_name names.files name f found)) in
        absurd (d (ap (λ (w : File). w.id) s))
    other false e = refl

-- ---- Remove

sync_empty : (call : Call) (len : ℕ) → is_sync call ≡ true → (reach_of call len).pages ≡ 0
sync_empty Sync len e = refl
sync_empty call len e = absurd (cc)

-- the bytes of the file that is gone
none_by_id : (files : List PlainFile) (id : ℕ) → ((x : PlainFile) → Contains files x → x.id ≢ id) → find (λ (g : PlainFile). g.id == id) files ≡ None
none_by_id [] id h = refl
none_by_id (x ∷ xs) id h = go (x.id == id) refl (none_by_id xs id (λ y i. h y (in_there x y xs i)))
  where
    go : (t : Bool) → (x.id == id) ≡ t → find (λ (g : PlainFile). g.id == id) xs ≡ None → (if t then Some x else find (λ (g : PlainFile). g.id == id) xs) ≡ None
    go true e ih = let s : x.id ≡ id = grind (arith, nat_tests) in absurd (h x (in_here x xs) s)
    go false e ih = ih

append_none : (xs : List ℕ) → xs ++ [] ≡ xs
append_none [] = refl
append_none (x ∷ xs) = ap (λ ys. x ∷ ys) (append_none xs)

-- the plain state without the file
abbrev pub without_file : Core → List ℕ → State
without_file c name = record (plain c) { files = without (is_file name) (plain c).files }

left_in : (c : Core) (name : List ℕ) (f : File) → file_by c.names.files (Some name) ≡ Some f → Coherent c → (f2 : File) → Contains (names_like (without_file c name) c.names).files f2 → IsLeft c.names.files f.id f2
left_in c name f found h = left_back c.places (contents c.blocks) c.names name f h.placed.named found

-- a file that is left has another id
pub left_apart : (c : Core) (name : List ℕ) (f : File) → file_by c.names.files (Some name) ≡ Some f → Coherent c → (x : PlainFile) → Contains (without_file c name).files x → x.id ≢ f.id
left_apart c name f found h x i = (left_in c name f found h (file_like x) (in_mapped file_like (without_file c name).files x i)).other

-- the file loses all its pages, and gets none
pub removed_is : (c : Core) (name : List ℕ) (f : File) → file_by c.names.files (Some name) ≡ Some f → Coherent c →
    follows c (Some f) (without_file c name) ≡ released c f.id (Pages f.len) 0 (names_like (without_file c name) c.names)
removed_is c name f found h =
    ap (λ (bytes : List ℕ). record (resized c f.id (Pages f.len) (Pages (length bytes))) { names = names2 }) no_bytes
    ∙ (ap (λ (fresh : List ℕ). record (exchanged c f.id (gone_of c f.id (Pages f.len) 0) fresh (Pages f.len) 0) { names = names2 }) nothing_new
    ∙ ap (λ (all : List ℕ). record (released c f.id (Pages f.len) 0 names2) { blocks = renewed_in all c.blocks }) (append_none (gone_of c f.id (Pages f.len) 0)))
  where
    names2 : Names
    names2 = names_like (without_file c name) c.names

    no_bytes : bytes_by_id (without_file c name) f.id ≡ []
    no_bytes = ap bytes_or_none (none_by_id (without_file c name).files f.id (left_apart c name f found h))

    nothing_new : take (0 - Pages f.len) (free_blocks c.shape c.names.files c.places) ≡ []
    nothing_new = let e : 0 - Pages f.len ≡ 0 = omega arith in ap (λ (k : ℕ). take k (free_blocks c.shape c.names.files c.places)) e

pub removed_keeps : (c : Core) (name : List ℕ) (f : File) → file_by c.names.files (Some name) ≡ Some f → IsUnheld (claims c.calls) (Some f) →
    plain (follows c (Some f) (without_file c name)) ≡ without_file c name → Coherent c → Coherent (follows c (Some f) (without_file c name))
removed_keeps c name f found unheld moves h =
    subst Coherent (sym same) (released_keeps c f.id (Pages f.len) 0 s2 releasable named have tails finds (ap plain (sym same) ∙ moves) h)
  where
    s2 : State
    s2 = without_file c name

    names2 : Names
    names2 = names_like s2 c.names

    there : Contains c.names.files f
    there = file_in c.names.files (Some name) f found

    left : (f2 : File) → Contains names2.files f2 → IsLeft c.names.files f.id f2
    left = left_in c name f found h

    same : follows c (Some f) s2 ≡ released c f.id (Pages f.len) 0 names2
    same = removed_is c name f found h

    releasable : IsReleasable c f.id (Pages f.len) 0
    releasable = record { less = omega arith; exact = h.placed.have.exact f there; idle = λ lane x e i l. inl (λ s. meets lane x e i l s) }
      where
        held : (t : Bool) (n : ℕ) → t ≡ true → n ≡ f.id → (t && (n == f.id)) ≡ false → ⊥
        held t n u v z = grind (arith, nat_tests)

        meets : (lane : ℕ) (x : Flight) → c.calls lane ≡ Some x → (i : ℕ) → i < x.claim.reach.pages → x.claim.file ≡ f.id → ⊥
        meets lane x e i l s =
            let r = h.in_flight.right lane x.claim (ap claim_of e) in
            ⊎_elim (λ (d : is_data x.claim.request.call ≡ true). held (is_data x.claim.request.call) x.claim.file d s (unheld lane x.claim (ap claim_of e)))
            (λ (y : is_sync x.claim.request.call ≡ true).
            let k : x.claim.reach.pages ≡ 0 = ap (λ (a : Claim). a.reach.pages) r.same ∙ sync_empty x.claim.request.call (len_or_none (file_for c.names.files x.claim.request.call)) y in
            omega arith) r.kind

    named : AreNamed names2
    named = record {
      ids = each_map (λ (x y : File). x.id < y.id) file_like s2.files (each_without (λ (x y : PlainFile). x.id < y.id) (is_file name) (plain c).files (each_map (λ (x y : PlainFile). x.id < y.id) (plain_file c.places (contents c.blocks)) c.names.files h.placed.named.ids));
      names_apart = each_map (λ (x y : File). x.name ≢ y.name) file_like s2.files (each_without (λ (x y : PlainFile). x.name ≢ y.name) (is_file name) (plain c).files (each_map (λ (x y : PlainFile). x.name ≢ y.name) (plain_file c.places (contents c.blocks)) c.names.files h.placed.named.names_apart));
      functions_apart = functions_of c.names.functions (λ a b. a ≢ b) c.names.functions h.placed.named.functions_apart;
      ids_below = λ f2 i. let k = left f2 i in let l = h.placed.named.ids_below k.file k.there in let e = k.id in omega arith;
    }

    low : 0 ≤ Pages f.len
    low = omega arith

    have : HavePlaces c.shape names2 (new_places c.places f.id [] (Pages f.len) 0)
    have = record {
      exact = λ f2 i p.
          let k = left f2 i in
          ap is_some (place_kept c.places f.id (Pages f.len) 0 f2.id p low (inl k.other)) ∙ (ap (λ (id : ℕ). is_some (c.places id p)) (sym k.id) ∙ (h.placed.have.exact k.file k.there p ∙ ap (λ (n : ℕ). nat_lt p (Pages n)) k.len));
      owned = λ id p b e.
          let w = place_was c.places f.id (Pages f.len) 0 id p b low e in
          let o = h.placed.have.owned id p b w.1 in
          let n : id ≢ f.id = ⊎_elim (λ d. d) (λ m. absurd (omega arith)) w.0 in
          let k = left_forth c.places (contents c.blocks) c.names name f h.placed.named found o.0 o.1 (λ s. n (sym o.2 ∙ s)) in
          (k.0, k.1, k.2 ∙ o.2);
      apart = λ g k p q b x y. h.placed.have.apart g k p q b (place_was c.places f.id (Pages f.len) 0 g p b low x).1 (place_was c.places f.id (Pages f.len) 0 k q b low y).1;
      within = λ id p b e. h.placed.have.within id p b (place_was c.places f.id (Pages f.len) 0 id p b low e).1;
    }

    tails : Tails names2 (new_places c.places f.id [] (Pages f.len) 0) (contents (renewed_in (gone_of c f.id (Pages f.len) 0) c.blocks))
    tails f2 i p j l m =
        let k = left f2 i in
        ap (λ (page : Page). get_or page j 0) (page_kept c f.id (Pages f.len) 0 f2.id p h low (inl k.other))
        ∙ (ap (λ (id : ℕ). get_or (page_of (contents c.blocks) (c.places id p)) j 0) (sym k.id) ∙ h.tails k.file k.there p j l (subst (λ (n : ℕ). n ≤ 4096 * p + j) (sym k.len) m))

    finds : FindAll (claims c.calls) (plain c) s2
    finds lane a e = record {
      file = λ other w. sym (find_without (is_file other) (is_file name) (plain c).files (λ x i t. unheld_other c name f found unheld h lane a e other w x.name ((bytes_eq-Decides x.name name).0 t)));
      function = λ other w. refl;
    }
