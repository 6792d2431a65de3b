-- The names after a call that stores: its file has another length, and all else of files stays.
use Rattle.std.proofs.Common.{◌≡◌, ℕ, suc, ◌+◌, ◌<◌, Bool, true, false, List, [], ◌∷◌, length, Some, refl, sym, ap, ◌∙◌, arith}
use Rattle.std.specs.Prelude.{◌≢◌, ◌==◌, map, bytes_eq, if◌then◌else◌, sum_by}
use Rattle.std.specs.List.{Contains, find}
use Rattle.std.proofs.lemmas.Bool.Decides.{nat_tests}
use Rattle.std.proofs.lemmas.List.Sums.{sum_by-cons}
use Rattle.page_base.specs.Bytes.{Pages}
use Rattle.core_hold.specs.PlainFile.{PlainFile}
use Rattle.core_hold.specs.Lists.{with_changed}
use Rattle.core_hold.specs.Plain.{is_file}
use Rattle.core_hold.specs.Words.{EachBehind}
use Rattle.core_hold.specs.State.{Page, File, Places}
use Rattle.core_hold.specs.PlainOf.{file_page, plain_file, file_like}
use Rattle.core_hold.proofs.Words.{same_some}
use Rattle.core_hold.proofs.Spans.{found_in}
use Rattle.core_hold.proofs.Seen.{length_bytes, like_seen, files_seen}
use Rattle.core_hold.proofs.Named.{in_here}
use Rattle.core_hold.proofs.Others.{changing}

-- the file, of this length where it has this id
abbrev pub relen : ℕ → ℕ → File → File
relen id n f = record f { len = if f.id == id then n else f.len }

is_same : (id : ℕ) → (id == id) ≡ true
is_same id = grind (arith, nat_tests)

not_same : (a b : ℕ) → a ≢ b → (a == b) ≡ false
not_same a b d = go (a == b) refl
  where
    go : (t : Bool) → (a == b) ≡ t → t ≡ false
    go true e = let s : a ≡ b = grind (arith, nat_tests) in absurd (d s)
    go false e = refl

pub own_relen : (id n : ℕ) (f : File) → f.id ≡ id → (relen id n f).len ≡ n
own_relen id n f e = ap (λ (t : Bool). if t then n else f.len) (ap (λ (k : ℕ). k == id) e ∙ is_same id)

pub other_relen : (id n : ℕ) (f : File) → f.id ≢ id → relen id n f ≡ f
other_relen id n f d = ap (λ (t : Bool). record f { len = if t then n else f.len }) (not_same f.id id d)

own_is : (id n : ℕ) (f : File) → f.id ≡ id → relen id n f ≡ record f { len = n }
own_is id n f e = ap (λ (k : ℕ). record f { len = k }) (own_relen id n f e)

others_stay : (id n : ℕ) (files : List File) → ((f : File) → Contains files f → f.id ≢ id) → map (relen id n) files ≡ files
others_stay id n [] h = refl
others_stay id n (f ∷ files) h = ap (λ (g : File). g ∷ map (relen id n) files) (other_relen id n f (h f (in_here f files))) ∙ ap (λ (gs : List File). f ∷ gs) (others_stay id n files (λ g i. h g (there i)))
  where
    there : {g : File} → Contains files g → Contains (f ∷ files) g
    there i = let l = i.1 in (suc i.0, omega arith, i.2)

-- the files of the new plain state
pub files_relen : (places : Places) (pages : ℕ → Page) (name new : List ℕ) (files : List File) (f : File) → EachBehind (λ (x y : File). x.id < y.id) files → find (λ (g : File). bytes_eq g.name name) files ≡ Some f →
    map file_like (with_changed (is_file name) (changing new) (map (plain_file places pages) files)) ≡ map (relen f.id (length new)) files
files_relen places pages name new [] f h e = absurd (cc)
files_relen places pages name new (x ∷ xs) f h e = go (bytes_eq x.name name) e (files_relen places pages name new xs f h.1)
  where
    go : (t : Bool) → (if t then Some x else find (λ (g : File). bytes_eq g.name name) xs) ≡ Some f →
        (find (λ (g : File). bytes_eq g.name name) xs ≡ Some f → map file_like (with_changed (is_file name) (changing new) (map (plain_file places pages) xs)) ≡ map (relen f.id (length new)) xs) →
        map file_like (if t then changing new (plain_file places pages x) ∷ map (plain_file places pages) xs else plain_file places pages x ∷ with_changed (is_file name) (changing new) (map (plain_file places pages) xs)) ≡ map (relen f.id (length new)) (x ∷ xs)
    go true q ih =
        let s : x ≡ f = same_some (Some x) x f refl q in
        let id : x.id ≡ f.id = ap (λ (w : File). w.id) s in
        ap (λ (y : File). y ∷ map file_like (map (plain_file places pages) xs)) (sym (own_is f.id (length new) x id))
        ∙ ap (λ (ys : List File). relen f.id (length new) x ∷ ys) (files_seen places pages xs ∙ sym (others_stay f.id (length new) xs (λ g i k. let l = h.0 g i in omega arith)))
    go false q ih =
        let l = h.0 f (found_in (λ (g : File). bytes_eq g.name name) xs f q) in
        let d : x.id ≢ f.id = omega arith in
        ap (λ (y : File). y ∷ map file_like (with_changed (is_file name) (changing new) (map (plain_file places pages) xs))) (like_seen places pages x ∙ sym (other_relen f.id (length new) x d))
        ∙ ap (λ (ys : List File). relen f.id (length new) x ∷ ys) (ih q)

-- ---- pages of all files

pub sum_changed : {A : Type 0} (g : A → ℕ) (test : A → Bool) (change : A → A) (xs : List A) (x : A) → find test xs ≡ Some x → sum_by g (with_changed test change xs) + g x ≡ sum_by g xs + g (change x)
sum_changed g test change [] x e = absurd (cc)
sum_changed {A} g test change (y ∷ xs) x e = go (test y) e (sum_changed g test change xs x)
  where
    go : (t : Bool) → (if t then Some y else find test xs) ≡ Some x → (find test xs ≡ Some x → sum_by g (with_changed test change xs) + g x ≡ sum_by g xs + g (change x)) →
        sum_by g (if t then change y ∷ xs else y ∷ with_changed test change xs) + g x ≡ sum_by g (y ∷ xs) + g (change x)
    go true q ih =
        let s : y ≡ x = same_some (Some y) y x refl q in
        let a = sum_by-cons g (change y) xs in
        let b = sum_by-cons g y xs in
        let k = ap g s in
        let l = ap (λ (z : A). g (change z)) s in
        omega arith
    go false q ih =
        let k = ih q in
        let a = sum_by-cons g y (with_changed test change xs) in
        let b = sum_by-cons g y xs in
        omega arith

pub sum_seen : (places : Places) (pages : ℕ → Page) (files : List File) → sum_by (λ (file : PlainFile). Pages (length file.bytes)) (map (plain_file places pages) files) ≡ sum_by (λ (f : File). Pages f.len) files
sum_seen places pages [] = refl
sum_seen places pages (f ∷ files) =
    let k = sum_seen places pages files in
    let a = sum_by-cons (λ (file : PlainFile). Pages (length file.bytes)) (plain_file places pages f) (map (plain_file places pages) files) in
    let b = sum_by-cons (λ (f : File). Pages f.len) f files in
    let l = ap Pages (length_bytes f.len (file_page places pages f.id)) in
    omega arith
