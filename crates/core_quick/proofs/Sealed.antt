-- A file is sealed: no call in flight holds it, unless it was sealed before.
use Rattle.std.proofs.Common.{◌≡◌, ℕ, ◌<◌, Bool, true, false, List, [], ◌∷◌, length, Option, Some, refl, sym, ap, ◌∙◌, subst, inl, inr, ⊎_elim}
use Rattle.std.specs.Prelude.{◌≢◌, ◌⊎◌, ◌==◌, not, map, option_map, if◌then◌else◌}
use Rattle.std.specs.List.{Contains, find}
use Rattle.std.proofs.lemmas.Slice.Eq.{bytes_eq-Decides}
use Rattle.core_lanes.specs.PlainFile.{PlainFile}
use Rattle.core_lanes.specs.Lists.{with_changed}
use Rattle.core_lanes.specs.Plain.{is_file, with_sealed}
use Rattle.core_lanes.specs.Words.{EachBehind}
use Rattle.core_lanes.specs.State.{Page, File, Names, Places, Core}
use Rattle.core_lanes.specs.Contents.{contents}
use Rattle.core_lanes.specs.Reach.{file_by}
use Rattle.core_lanes.specs.PlainOf.{bytes_or_none, bytes_by_id, file_page, plain_file, plain, file_like, names_like}
use Rattle.core_lanes.specs.InFlight.{claims}
use Rattle.core_lanes.specs.Coherent.{Coherent}
use Rattle.core_lanes.specs.LaneEvents.{IsUnheld}
use Rattle.core_lanes.proofs.Words.{same_some}
use Rattle.core_lanes.proofs.Views.{file_seen}
use Rattle.core_quick.proofs.Seen.{length_bytes, renamed_keeps}
use Rattle.core_quick.proofs.Named.{in_none, in_cases, in_there, in_here, in_map, find_changed, each_map}
use Rattle.core_quick.proofs.Renamed.{len_by_id, SameFiles, same_have, same_tails, same_below}
use Rattle.core_quick.proofs.Flying.{unheld_other}
use Rattle.core_quick.proofs.Unchanged.{functions_of, own_names_keep}

-- ---- a list of which one element changes

-- the change of the first that passes is none
changed_none : {A : Type 0} (test : A → Bool) (change : A → A) (xs : List A) (x : A) → find test xs ≡ Some x → change x ≡ x → with_changed test change xs ≡ xs
changed_none test change [] x e s = refl
changed_none {A} test change (y ∷ xs) x e s = go (test y) (changed_none test change xs x) e
  where
    go : (t : Bool) → (find test xs ≡ Some x → change x ≡ x → with_changed test change xs ≡ xs) → (if t then Some y else find test xs) ≡ Some x → (if t then change y ∷ xs else y ∷ with_changed test change xs) ≡ y ∷ xs
    go true ih f = let k : y ≡ x = same_some (Some y) y x refl f in ap (λ (z : A). z ∷ xs) (ap change k ∙ (s ∙ sym k))
    go false ih f = ap (λ (zs : List A). y ∷ zs) (ih f s)

-- what the changed list has, and what it keeps
pub from_changed : {A : Type 0} (test : A → Bool) (change : A → A) (xs : List A) (y : A) → Contains (with_changed test change xs) y → (x : A) × Contains xs x × ((y ≡ x) ⊎ (y ≡ change x))
from_changed test change [] y h = absurd (in_none y h)
from_changed {A} test change (x ∷ xs) y h = go (test x) (from_changed test change xs y) h
  where
    go : (t : Bool) → (Contains (with_changed test change xs) y → (x : A) × Contains xs x × ((y ≡ x) ⊎ (y ≡ change x))) → Contains (if t then change x ∷ xs else x ∷ with_changed test change xs) y →
        (z : A) × Contains (x ∷ xs) z × ((y ≡ z) ⊎ (y ≡ change z))
    go true ih h = ⊎_elim (λ (e : change x ≡ y). (x, in_here x xs, inr (sym e))) (λ (r : Contains xs y). (y, in_there x y xs r, inl refl)) (in_cases (change x) y xs h)
    go false ih h = ⊎_elim (λ (e : x ≡ y). (x, in_here x xs, inl (sym e))) (λ (r : Contains (with_changed test change xs) y). let k = ih r in (k.0, in_there x k.0 xs k.1, k.2)) (in_cases x y (with_changed test change xs) h)

into_changed : {A : Type 0} (test : A → Bool) (change : A → A) (xs : List A) (x : A) → Contains xs x → (y : A) × Contains (with_changed test change xs) y × ((y ≡ x) ⊎ (y ≡ change x))
into_changed test change [] x h = absurd (in_none x h)
into_changed {A} test change (z ∷ xs) x h = ⊎_elim
    (λ (e : z ≡ x). here (test z) e)
    (λ (r : Contains xs x). there (test z) (into_changed test change xs x r) r) (in_cases z x xs h)
  where
    here : (t : Bool) → z ≡ x → (y : A) × Contains (if t then change z ∷ xs else z ∷ with_changed test change xs) y × ((y ≡ x) ⊎ (y ≡ change x))
    here true e = (change z, in_here (change z) xs, inr (ap change e))
    here false e = (z, in_here z (with_changed test change xs), inl e)

    there : (t : Bool) → (y : A) × Contains (with_changed test change xs) y × ((y ≡ x) ⊎ (y ≡ change x)) → Contains xs x → (y : A) × Contains (if t then change z ∷ xs else z ∷ with_changed test change xs) y × ((y ≡ x) ⊎ (y ≡ change x))
    there true k r = (x, in_there (change z) x xs r, inl refl)
    there false k r = (k.0, in_there z k.0 (with_changed test change xs) k.1, k.2)

-- a key that the change keeps
keys_changed : {A B : Type 0} (key : A → B) (test : A → Bool) (change : A → A) (xs : List A) → ((x : A) → key (change x) ≡ key x) → map key (with_changed test change xs) ≡ map key xs
keys_changed key test change [] h = refl
keys_changed {A} {B} key test change (x ∷ xs) h = go (test x) (keys_changed key test change xs h)
  where
    go : (t : Bool) → map key (with_changed test change xs) ≡ map key xs → map key (if t then change x ∷ xs else x ∷ with_changed test change xs) ≡ map key (x ∷ xs)
    go true ih = ap (λ (k : B). k ∷ map key xs) (h x)
    go false ih = ap (λ (ks : List B). key x ∷ ks) ih

pub in_mapped : {A B : Type 0} (key : A → B) (xs : List A) (x : A) → Contains xs x → Contains (map key xs) (key x)
in_mapped key [] x h = absurd (in_none x h)
in_mapped {A} {B} key (y ∷ xs) x h = ⊎_elim (λ (e : y ≡ x). subst (λ (k : B). Contains (key y ∷ map key xs) k) (ap key e) (in_here (key y) (map key xs))) (λ (r : Contains xs x). in_there (key y) (key x) (map key xs) (in_mapped key xs x r)) (in_cases y x xs h)

each_unmap : {A B : Type 0} (Q : B → B → Type 0) (key : A → B) (xs : List A) → EachBehind Q (map key xs) → EachBehind (λ (x y : A). Q (key x) (key y)) xs
each_unmap Q key [] h = tt
each_unmap {A} {B} Q key (x ∷ xs) h = (λ y i. h.0 (key y) (in_mapped key xs y i), each_unmap Q key xs h.1)

each_keyed : {A B C : Type 0} (Q : C → C → Type 0) (k : A → C) (k2 : B → C) (xs : List A) (ys : List B) → map k2 ys ≡ map k xs → EachBehind (λ (x y : A). Q (k x) (k y)) xs → EachBehind (λ (x y : B). Q (k2 x) (k2 y)) ys
each_keyed Q k k2 xs ys e h = each_unmap Q k2 ys (subst (EachBehind Q) (sym e) (each_map Q k xs h))

map_twice : {A B C : Type 0} (g : B → C) (f : A → B) (xs : List A) → map g (map f xs) ≡ map (λ x. g (f x)) xs
map_twice g f [] = refl
map_twice g f (x ∷ xs) = ap (λ ys. g (f x) ∷ ys) (map_twice g f xs)

-- ---- the files, of which one is sealed

abbrev pub sealing : PlainFile → PlainFile
sealing f = record f { sealed = true }

sealed_files : (places : Places) (pages : ℕ → Page) (names : Names) (name : List ℕ) → SameFiles names.files (map file_like (with_sealed name (map (plain_file places pages) names.files)))
sealed_files places pages names name = record {
  back = λ f2 i.
      let a = in_map file_like (with_sealed name ps) f2 i in
      let b = from_changed (is_file name) sealing ps a.0 a.1 in
      let d = in_map (plain_file places pages) names.files b.0 b.1 in
      (d.0, d.1, back_id f2 a.0 b.0 d.0 a.2 b.2 d.2, back_len f2 a.0 b.0 d.0 a.2 b.2 d.2);
  forth = λ f i.
      let b = into_changed (is_file name) sealing ps (plain_file places pages f) (in_mapped (plain_file places pages) names.files f i) in
      (file_like b.0, in_mapped file_like (with_sealed name ps) b.0 b.1, ⊎_elim (λ (e : b.0 ≡ plain_file places pages f). ap (λ (w : PlainFile). w.id) e) (λ (e : b.0 ≡ sealing (plain_file places pages f)). ap (λ (w : PlainFile). w.id) e) b.2);
}
  where
    ps : List PlainFile
    ps = map (plain_file places pages) names.files

    back_id : (f2 : File) (x y : PlainFile) (f : File) → file_like x ≡ f2 → (x ≡ y) ⊎ (x ≡ sealing y) → plain_file places pages f ≡ y → f.id ≡ f2.id
    back_id f2 x y f a b d = ap (λ (w : PlainFile). w.id) d ∙ (⊎_elim (λ (e : x ≡ y). ap (λ (w : PlainFile). w.id) (sym e)) (λ (e : x ≡ sealing y). ap (λ (w : PlainFile). w.id) (sym e)) b ∙ ap (λ (w : File). w.id) a)

    back_len : (f2 : File) (x y : PlainFile) (f : File) → file_like x ≡ f2 → (x ≡ y) ⊎ (x ≡ sealing y) → plain_file places pages f ≡ y → f.len ≡ f2.len
    back_len f2 x y f a b d =
        sym (length_bytes f.len (file_page places pages f.id)) ∙ (ap (λ (w : PlainFile). length w.bytes) d
        ∙ (⊎_elim (λ (e : x ≡ y). ap (λ (w : PlainFile). length w.bytes) (sym e)) (λ (e : x ≡ sealing y). ap (λ (w : PlainFile). length w.bytes) (sym e)) b ∙ ap (λ (w : File). w.len) a))

sealed_keys : {B : Type 0} (places : Places) (pages : ℕ → Page) (files : List File) (name : List ℕ) (key : File → B) (pkey : PlainFile → B) → ((x : PlainFile) → key (file_like x) ≡ pkey x) → ((x : PlainFile) → pkey (sealing x) ≡ pkey x) → ((f : File) → pkey (plain_file places pages f) ≡ key f) →
    map key (map file_like (with_sealed name (map (plain_file places pages) files))) ≡ map key files
sealed_keys {B} places pages files name key pkey a b d =
    map_twice key file_like (with_sealed name (map (plain_file places pages) files))
    ∙ (map_ext (λ x. key (file_like x)) pkey a (with_sealed name (map (plain_file places pages) files))
    ∙ (keys_changed pkey (is_file name) sealing (map (plain_file places pages) files) b
    ∙ (map_twice pkey (plain_file places pages) files ∙ map_ext (λ f. pkey (plain_file places pages f)) key d files)))
  where
    map_ext : {A : Type 0} (f g : A → B) → ((x : A) → f x ≡ g x) → (xs : List A) → map f xs ≡ map g xs
    map_ext f g h [] = refl
    map_ext f g h (x ∷ xs) = ap (λ (y : B). y ∷ map f xs) (h x) ∙ ap (λ (ys : List B). g x ∷ ys) (map_ext f g h xs)

-- ---- Seal

-- of an unsealed file that nobody holds
unsealed_keeps : (c : Core) (name : List ℕ) (f : File) → file_by c.names.files (Some name) ≡ Some f → IsUnheld (claims c.calls) (Some f) →
    plain (record c { names = names_like (record (plain c) { files = with_sealed name (plain c).files }) c.names }) ≡ record (plain c) { files = with_sealed name (plain c).files } → Coherent c →
    Coherent (record c { names = names_like (record (plain c) { files = with_sealed name (plain c).files }) c.names })
unsealed_keeps c name f found unheld moves h =
    let s2 = record (plain c) { files = with_sealed name (plain c).files } in
    let names2 = names_like s2 c.names in
    let s = sealed_files c.places (contents c.blocks) c.names name in
    renamed_keeps c s2
    (record {
      ids = each_keyed (λ a b. a < b) (λ (g : File). g.id) (λ (g : File). g.id) c.names.files names2.files (sealed_keys c.places (contents c.blocks) c.names.files name (λ (g : File). g.id) (λ (g : PlainFile). g.id) (λ x. refl) (λ x. refl) (λ x. refl)) h.placed.named.ids;
      names_apart = each_keyed (λ a b. a ≢ b) (λ (g : File). g.name) (λ (g : File). g.name) c.names.files names2.files (sealed_keys c.places (contents c.blocks) c.names.files name (λ (g : File). g.name) (λ (g : PlainFile). g.name) (λ x. refl) (λ x. refl) (λ x. refl)) h.placed.named.names_apart;
      functions_apart = functions_of c.names.functions (λ a b. a ≢ b) c.names.functions h.placed.named.functions_apart;
      ids_below = same_below c.names names2 s refl h.placed.named.ids_below;
    })
    (same_have c.shape c.names names2 c.places s h.placed.have) (same_tails c.names names2 c.places (contents c.blocks) s h.tails)
    (λ lane a e. record {
      file = λ other w. sym (find_changed (is_file other) (is_file name) sealing (plain c).files (λ x i t. let n = unheld_other c name f found unheld h lane a e other w x.name ((bytes_eq-Decides x.name name).0 t) in (n, n)));
      function = λ other w. refl;
    }) moves h

pub sealed_keeps : (c : Core) (name : List ℕ) (f : File) → file_by c.names.files (Some name) ≡ Some f → (not f.sealed ≡ true → IsUnheld (claims c.calls) (Some f)) →
    plain (record c { names = names_like (record (plain c) { files = with_sealed name (plain c).files }) c.names }) ≡ record (plain c) { files = with_sealed name (plain c).files } → Coherent c →
    Coherent (record c { names = names_like (record (plain c) { files = with_sealed name (plain c).files }) c.names })
sealed_keeps c name f found unheld moves h = go f.sealed refl
  where
    go : (t : Bool) → f.sealed ≡ t → Coherent (record c { names = names_like (record (plain c) { files = with_sealed name (plain c).files }) c.names })
    go true e =
        let seen : find (is_file name) (plain c).files ≡ Some (plain_file c.places (contents c.blocks) f) = file_seen c.shape c.names c.places (contents c.blocks) name ∙ ap (option_map (plain_file c.places (contents c.blocks))) found in
        let same : with_sealed name (plain c).files ≡ (plain c).files = changed_none (is_file name) sealing (plain c).files (plain_file c.places (contents c.blocks) f) seen (ap (λ (b : Bool). record (plain_file c.places (contents c.blocks) f) { sealed = b }) (sym e)) in
        subst (λ (fs : List PlainFile). Coherent (record c { names = names_like (record (plain c) { files = fs }) c.names })) (sym same) (own_names_keep c h)
    go false e = unsealed_keeps c name f found (unheld (ap not e)) moves h

-- and so do the bytes of each
sealed_bytes : (id : ℕ) (name : List ℕ) (files : List PlainFile) → bytes_or_none (find (λ (g : PlainFile). g.id == id) (with_sealed name files)) ≡ bytes_or_none (find (λ (g : PlainFile). g.id == id) files)
sealed_bytes id name [] = refl
sealed_bytes id name (x ∷ xs) = go (is_file name x) (sealed_bytes id name xs)
  where
    at : (t : Bool) (rest rest2 : Option PlainFile) → bytes_or_none rest2 ≡ bytes_or_none rest → bytes_or_none (if t then Some x else rest2) ≡ bytes_or_none (if t then Some x else rest)
    at true rest rest2 e = refl
    at false rest rest2 e = e

    sealed_at : (t : Bool) (rest : Option PlainFile) → bytes_or_none (if t then Some (sealing x) else rest) ≡ bytes_or_none (if t then Some x else rest)
    sealed_at true rest = refl
    sealed_at false rest = refl

    go : (t : Bool) → bytes_or_none (find (λ (g : PlainFile). g.id == id) (with_sealed name xs)) ≡ bytes_or_none (find (λ (g : PlainFile). g.id == id) xs) →
        bytes_or_none (find (λ (g : PlainFile). g.id == id) (if t then sealing x ∷ xs else x ∷ with_sealed name xs)) ≡ bytes_or_none (find (λ (g : PlainFile). g.id == id) (x ∷ xs))
    go true ih = sealed_at (x.id == id) (find (λ (g : PlainFile). g.id == id) xs)
    go false ih = at (x.id == id) (find (λ (g : PlainFile). g.id == id) xs) (find (λ (g : PlainFile). g.id == id) (with_sealed name xs)) ih

-- a file's length stays, where one is sealed
pub sealed_len : (c : Core) (name : List ℕ) (f : File) → Contains c.names.files f → Coherent c → length (bytes_by_id (record (plain c) { files = with_sealed name (plain c).files }) f.id) ≡ f.len
sealed_len c name f i h = ap length (sealed_bytes f.id name (plain c).files) ∙ len_by_id c.shape c.names c.places (contents c.blocks) h.placed.named f i
