-- Which dies may start: those with the pages that an image mounts to, and any under the tables of a drive without files.
use Rattle.std.proofs.Common.{◌≡◌, ℕ, zero, suc, ◌<◌, List, [], ◌∷◌, length, get_or, replicate, ◌+◌, true, false, Option, Some, None, refl, sym, ap, ◌∙◌, subst, arith}
use Rattle.std.specs.Prelude.{is_some, slice_index_or, IfSome}
use Rattle.std.proofs.lemmas.List.{length-replicate, length-drop, get_or-drop}
use Rattle.std.proofs.lemmas.List.Elements.{All-get_or}
use Rattle.std.proofs.lemmas.List.FromFn.{length-map-range_with_len, fill_by_all}
use Rattle.page_base.specs.Drive.{Drive, meta_pages, total_pages, die_share}
use Rattle.image_format.specs.declared.meta.Meta.{Meta}
use Rattle.image_format.specs.Whole.{IsWhole}
use Rattle.image_laws.specs.Pages.{data_blocks}
use Rattle.flash_die.specs.Dies.{DieView, IsDie, AreWhole}
use Rattle.core_state.specs.State.{Page}
use Rattle.core_state.specs.Words.{from_fn}
use Rattle.system_state.specs.Views.{IsTold, pages_or_none}
use Rattle.system_state.specs.Slots.{die_at}
use Rattle.system_start.specs.Started.{at_home, data_in, pages_of, MayStart}
use Rattle.system_start.specs.Empty.{empty_of}

no_mark : (n b : ℕ) → slice_index_or (replicate n false) b false ≡ false
no_mark zero b = refl
no_mark (suc n) zero = refl
no_mark (suc n) (suc b) = no_mark n b

data_count : (m : Meta) (pages : ℕ → Page) → length (data_in m pages) ≡ m.geometry.blocks
unfolding from_fn
data_count m pages = length-map-range_with_len (λ (b : ℕ). pages (meta_pages m.geometry.blocks + b)) 0 m.geometry.blocks

-- the data blocks of dies that have these pages
same_data : (m : Meta) (pages : ℕ → Page) (all : List Page) → length all ≡ total_pages m.geometry.blocks →
    ((p : ℕ) → p < total_pages m.geometry.blocks → pages p ≡ get_or all p []) → data_blocks m all ≡ data_in m pages
unfolding from_fn
same_data m pages all count same =
    fill_by_all (λ (b : ℕ). pages (meta_pages m.geometry.blocks + b)) (data_blocks m all) m.geometry.blocks []
    (let d = length-drop (meta_pages m.geometry.blocks) all in omega arith)
    (λ b l. get_or-drop (meta_pages m.geometry.blocks) all b [] ∙ sym (same (meta_pages m.geometry.blocks + b) (below m.geometry.blocks b l)))
  where
    below : (n b : ℕ) → b < n → meta_pages n + b < total_pages n
    below n b l = omega arith

pub empty_whole : (g : Drive) (pages : ℕ → Page) → IsWhole (empty_of g) (data_in (empty_of g) pages)
empty_whole g pages = record {
  size = record { extents = refl; written = length-replicate g.blocks false };
  pages = data_count (empty_of g) pages;
  places = refl;
  count = refl;
  written = λ b e. absurd (let k = no_mark g.blocks b in cc);
  ends = tt;
}

pub told_one : (v : DieView) → IsDie v → is_some v.pages ≡ true → IsTold v
told_one v sound some = at v.pages refl some
  where
    at : (o : Option (List Page)) → v.pages ≡ o → is_some o ≡ true → IsTold v
    at None e s = absurd cc
    at (Some pages) e s =
        let n : length pages ≡ v.size = subst (λ (x : Option (List Page)). IfSome x (λ p. length p ≡ v.size)) e sound.whole in
        let each : AreWhole pages = subst (λ (x : Option (List Page)). IfSome x AreWhole) e sound.each_whole in
        record {
          pages = pages;
          told = e;
          count = n;
          whole = λ k l. ap (λ (x : Option (List Page)). length (get_or (pages_or_none x) k [])) e ∙ All-get_or (λ (page : Page). length page ≡ 4096) pages k [] (omega arith) each;
        }

module _ {D : Type 0} (seen : D → DieView) (sound : (x : D) → IsDie (seen x)) where
  pub told_at : (dies : List D) (d : ℕ) → is_some (die_at seen (at_home dies) d).pages ≡ true → IsTold (die_at seen (at_home dies) d)
  told_at [] d some = absurd cc
  told_at (x ∷ xs) zero some = told_one (seen x) (sound x) some
  told_at (x ∷ xs) (suc d) some = told_at xs d some

  pub empty_starts : (dies : List D) (g : Drive) → length dies ≡ g.dies →
      ((d : ℕ) → d < length dies → is_some (die_at seen (at_home dies) d).pages ≡ true) →
      ((d : ℕ) → d < length dies → (die_at seen (at_home dies) d).size ≡ die_share (total_pages g.blocks) (length dies) d) →
      MayStart seen dies (empty_of g)
  empty_starts dies g count told size = record {
    count = count;
    told = λ d l. told_at dies d (told d l);
    size = size;
    whole = empty_whole g (pages_of seen dies);
  }

  pub mounted_starts : (dies : List D) (m : Meta) (all : List Page) → IsWhole m (data_blocks m all) → length all ≡ total_pages m.geometry.blocks → length dies ≡ m.geometry.dies →
      ((d : ℕ) → d < length dies → is_some (die_at seen (at_home dies) d).pages ≡ true) →
      ((d : ℕ) → d < length dies → (die_at seen (at_home dies) d).size ≡ die_share (total_pages m.geometry.blocks) (length dies) d) →
      ((p : ℕ) → p < total_pages m.geometry.blocks → pages_of seen dies p ≡ get_or all p []) → MayStart seen dies m
  mounted_starts dies m all whole full count told size same = record {
    count = count;
    told = λ d l. told_at dies d (told d l);
    size = size;
    whole = subst (λ (body : List Page). IsWhole m body) (same_data m (pages_of seen dies) all full same) whole;
  }
