-- A change of names that leaves every block: what is asked of the new files, functions and lengths.
use Rattle.std.proofs.Common.{◌≡◌, ℕ, ◌+◌, ◌<◌, ◌≤◌, true, List, length, Option, Some, None, refl, sym, ap, ◌∙◌, subst, arith, get_or}
use Rattle.std.specs.Prelude.{◌==◌, ◌*◌, nat_lt, option_map, is_some}
use Rattle.std.specs.List.{Contains, find}
use Rattle.std.proofs.lemmas.Bool.Decides.{nat_tests}
use Rattle.page_base.specs.Bytes.{Pages}
use Rattle.core_lanes.specs.PlainFile.{PlainFile}
use Rattle.core_lanes.specs.Plain.{State}
use Rattle.core_lanes.specs.State.{Page, Shape, File, Names, Places, Core}
use Rattle.core_lanes.specs.Contents.{page_of}
use Rattle.core_lanes.specs.PlainOf.{file_page, plain_file, plain_of, bytes_or_none, bytes_by_id, names_like}
use Rattle.core_lanes.specs.Placed.{AreNamed, HavePlaces, Tails}
use Rattle.core_lanes.specs.Coherent.{Coherent}
use Rattle.core_lanes.specs.Resizing.{resized, follows}
use Rattle.core_lanes.proofs.Spans.{found_in}
use Rattle.core_lanes.proofs.Finds.{found_passes}
use Rattle.core_lanes.proofs.Views.{find_map}
use Rattle.core_quick.proofs.Same.{resized_same}
use Rattle.core_quick.proofs.Seen.{length_bytes}
use Rattle.core_quick.proofs.Named.{found_some, one_of_id}

-- the files have the ids and lengths that they had
pub record SameFiles (files files2 : List File) : Type 0 where
  pub back : (f2 : File) → Contains files2 f2 → (f : File) × Contains files f × (f.id ≡ f2.id) × (f.len ≡ f2.len)
  pub forth : (f : File) → Contains files f → (f2 : File) × Contains files2 f2 × (f2.id ≡ f.id)

pub same_have : (shape : Shape) (names names2 : Names) (places : Places) → SameFiles names.files names2.files → HavePlaces shape names places → HavePlaces shape names2 places
same_have shape names names2 places s h = record {
  exact = λ f2 i p. let k = s.back f2 i in ap (λ (id : ℕ). is_some (places id p)) (sym k.2) ∙ (h.exact k.0 k.1 p ∙ ap (λ (n : ℕ). nat_lt p (Pages n)) k.3);
  owned = λ id p b e. let o = h.owned id p b e in let k = s.forth o.0 o.1 in (k.0, k.1, k.2 ∙ o.2);
  apart = h.apart;
  within = h.within;
}

pub same_tails : (names names2 : Names) (places : Places) (pages : ℕ → Page) → SameFiles names.files names2.files → Tails names places pages → Tails names2 places pages
same_tails names names2 places pages s h f2 i p j l m =
    let k = s.back f2 i in
    ap (λ (id : ℕ). get_or (page_of pages (places id p)) j 0) (sym k.2) ∙ h k.0 k.1 p j l (subst (λ (n : ℕ). n ≤ 4096 * p + j) (sym k.3) m)

pub same_below : (names names2 : Names) → SameFiles names.files names2.files → names2.next ≡ names.next → ((f : File) → Contains names.files f → f.id < names.next) → (f2 : File) → Contains names2.files f2 → f2.id < names2.next
same_below names names2 s e h f2 i = let k = s.back f2 i in let l = h k.0 k.1 in let a = k.2 in omega arith

-- ---- a file's bytes, by its id

equal_test : (a b : ℕ) → a ≡ b → (a == b) ≡ true
equal_test a b e = grind (arith, nat_tests)

equal_of : (a b : ℕ) → (a == b) ≡ true → a ≡ b
equal_of a b e = grind (arith, nat_tests)

-- a file's length is that of its bytes in the plain state
pub len_by_id : (shape : Shape) (names : Names) (places : Places) (pages : ℕ → Page) → AreNamed names → (f : File) → Contains names.files f → length (bytes_by_id (plain_of shape names places pages) f.id) ≡ f.len
len_by_id shape names places pages named f i =
    ap (λ (o : Option PlainFile). length (bytes_or_none o)) (find_map (plain_file places pages) (λ (g : PlainFile). g.id == f.id) names.files)
    ∙ go (find (λ (g : File). g.id == f.id) names.files) refl (found_some (λ (g : File). g.id == f.id) names.files f i (equal_test f.id f.id refl))
  where
    go : (o : Option File) → find (λ (g : File). g.id == f.id) names.files ≡ o → is_some (find (λ (g : File). g.id == f.id) names.files) ≡ true → length (bytes_or_none (option_map (plain_file places pages) o)) ≡ f.len
    go None e t = absurd (none_some (find (λ (g : File). g.id == f.id) names.files) e t)
      where
        none_some : (o : Option File) → o ≡ None → is_some o ≡ true → ⊥
        none_some None e t = cc
        none_some (Some g) e t = cc
    go (Some g) e t =
        let same : g ≡ f = one_of_id names.files named.ids g f (found_in (λ (g : File). g.id == f.id) names.files g e) i (equal_of g.id f.id (found_passes (λ (g : File). g.id == f.id) names.files g e)) in
        length_bytes g.len (file_page places pages g.id) ∙ ap (λ (w : File). w.len) same

-- ---- the core, where the file keeps its length

-- where the file that a call is about keeps its length, names alone change
pub follows_is : (c : Core) (found : Option File) (s2 : State) → ((f : File) → found ≡ Some f → Contains c.names.files f × (length (bytes_by_id s2 f.id) ≡ f.len)) → Coherent c →
    follows c found s2 ≡ record c { names = names_like s2 c.names }
follows_is c None s2 same h = refl
follows_is c (Some f) s2 same h =
    let k = same f refl in
    let a : resized c f.id (Pages f.len) (Pages (length (bytes_by_id s2 f.id))) ≡ c =
    ap (λ (m : ℕ). resized c f.id (Pages f.len) (Pages m)) k.1 ∙ resized_same c f.id (Pages f.len) (λ p. h.placed.have.exact f k.0 p) in
    ap (λ (d : Core). record d { names = names_like s2 c.names }) a
