-- Dies that have the pages of an image.
use Rattle.std.proofs.Common.{◌≡◌, ℕ, zero, suc, ◌<◌, List, [], ◌∷◌, length, map, get_or, Bool, true, false, Option, Some, is_some, refl, sym, ap, ◌∙◌, subst, arith, mod-lt, Result, Ok, Err, IfOk}
use Rattle.std.specs.Prelude.{◌/◌, ◌%◌, nat_lt, if◌then◌else◌}
use Rattle.std.proofs.lemmas.Bool.{cond-false}
use Rattle.std.proofs.lemmas.Bool.Decides.{nat_tests}
use Rattle.std.proofs.lemmas.List.{length-map}
use Rattle.std.proofs.lemmas.List.FromFn.{get_or-map-range_with_len}
use mathlib.Core.Path.{fun_ext}
use Rattle.page_base.specs.Bytes.{zero_page}
use Rattle.page_base.specs.Drive.{total_pages, die_share}
use Rattle.image_format.specs.declared.meta.Meta.{Meta}
use Rattle.flash_die.specs.Dies.{DieView}
use Rattle.drive_array.specs.Cut.{cut}
use Rattle.drive_array.specs.Reads as drive
use Rattle.core_state.specs.State.{Page}
use Rattle.system_state.specs.Views.{page_in, pages_or_none}
use Rattle.system_state.specs.Slots.{die_at}
use Rattle.system_start.specs.Started.{image_in, at_home, pages_of}
use Rattle.mounted_systems.specs.Dealt.{HavePages}

-- what follows of a value that is there
pub on_ok : {X E : Type 0} {P Q : X → Type 0} (r : Result X E) → ((x : X) → P x → Q x) → IfOk r P → IfOk r Q
on_ok (Ok x) f p = f x p
on_ok (Err e) f p = p

by_test : {X : Type 0} (b : Bool) → (b ≡ true → X) → (b ≡ false → X) → X
by_test true f g = f refl
by_test false f g = g refl

module _ {D : Type 0} (seen : D → DieView) where
  -- what is told of a die at home
  pub seen_at : (dies : List D) (d : ℕ) → die_at seen (at_home dies) d ≡ drive.die_at (map seen dies) d
  seen_at [] d = refl
  seen_at (x ∷ xs) zero = refl
  seen_at (x ∷ xs) (suc d) = seen_at xs d

  module _ (dies : List D) (meta : Meta) (pages : List Page) (some : 0 < meta.geometry.dies) (full : length pages ≡ total_pages meta.geometry.blocks) (h : HavePages (map seen dies) meta pages) where
    pub count : length dies ≡ meta.geometry.dies
    count = sym (length-map dies seen) ∙ h.shares.count

    pub told : (d : ℕ) → d < length dies → (die_at seen (at_home dies) d).pages ≡ Some (cut pages meta.geometry.dies d)
    told d l =
        let m : d < meta.geometry.dies = subst (λ n. d < n) count l in
        ap (λ (v : DieView). v.pages) (seen_at dies d) ∙ (h.told d m ∙ ap Some (get_or-map-range_with_len (λ die. cut pages meta.geometry.dies die) 0 meta.geometry.dies d d [] m (omega arith)))

    pub some_told : (d : ℕ) → d < length dies → is_some (die_at seen (at_home dies) d).pages ≡ true
    some_told d l = ap (λ (o : Option (List Page)). is_some o) (told d l)

    pub sizes : (d : ℕ) → d < length dies → (die_at seen (at_home dies) d).size ≡ die_share (total_pages meta.geometry.blocks) (length dies) d
    sizes d l = ap (λ (v : DieView). v.size) (seen_at dies d) ∙ (h.shares.sizes d (subst (λ n. d < n) count l) ∙ ap (λ (n : ℕ). die_share (total_pages meta.geometry.blocks) n d) (sym count))

    module _ (lies : (pages : List Page) (dies page : ℕ) → 0 < dies → page < length pages → get_or (cut pages dies (page % dies)) (page / dies) [] ≡ get_or pages page []) where
      pub page_is : (p : ℕ) → p < total_pages meta.geometry.blocks → pages_of seen dies p ≡ get_or pages p []
      page_is p l =
          let n : length dies ≡ meta.geometry.dies = count in
          let here : p % meta.geometry.dies < length dies = subst (λ k. p % meta.geometry.dies < k) (sym n) (mod-lt p some) in
          ap (λ (k : ℕ). page_in (die_at seen (at_home dies) (p % k)) (p / k)) n
          ∙ (ap (λ (o : Option (List Page)). get_or (pages_or_none o) (p / meta.geometry.dies) []) (told (p % meta.geometry.dies) here)
          ∙ lies pages meta.geometry.dies p some (subst (λ k. p < k) (sym full) l))

      pub image_is : image_in meta (pages_of seen dies) ≡ image_in meta (λ p. get_or pages p [])
      image_is = ap (λ (f : ℕ → Page). record {
        blocks = meta.geometry.blocks;
        dies = meta.geometry.dies;
        files = (image_in meta f).files;
        next = meta.names.next;
        places = (image_in meta f).places;
        written = (image_in meta f).written;
        pages = f;
      }) (fun_ext each)
        where
          each : (p : ℕ) → (if nat_lt p (total_pages meta.geometry.blocks) then pages_of seen dies p else zero_page) ≡ (if nat_lt p (total_pages meta.geometry.blocks) then get_or pages p [] else zero_page)
          each p = by_test (nat_lt p (total_pages meta.geometry.blocks))
              (λ t. ap (λ (q : Page). if nat_lt p (total_pages meta.geometry.blocks) then q else zero_page) (page_is p (grind (arith, nat_tests))))
              (λ t. cond-false (nat_lt p (total_pages meta.geometry.blocks)) _ zero_page t ∙ sym (cond-false (nat_lt p (total_pages meta.geometry.blocks)) _ zero_page t))
