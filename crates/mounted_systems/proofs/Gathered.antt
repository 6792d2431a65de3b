-- The pages of a state's dies, gathered, are those of flash.
use Rattle.std.proofs.Common.{◌≡◌, ℕ, ◌<◌, List, [], length, map, get_or, Some, sym, ap, ◌∙◌, subst, arith, mod-lt}
use Rattle.std.specs.Prelude.{◌/◌, ◌%◌}
use Rattle.std.specs.List.{range_with_len, concat, flat_map}
use Rattle.std.proofs.lemmas.List.Concat.{concat_is}
use Rattle.std.proofs.lemmas.List.{length-map}
use Rattle.std.proofs.lemmas.List.FromFn.{get_or-map-range_with_len, length-map-range_with_len, fill_by_all}
use Rattle.page_base.specs.Drive.{total_pages, die_share}
use Rattle.flash_die.specs.Dies.{DieView}
use Rattle.drive_array.specs.Cut.{joined}
use Rattle.drive_array.specs.Reads as drive
use Rattle.core_state.specs.State.{Page}
use Rattle.core_state.specs.Words.{from_fn}
use Rattle.core_state.specs.Contents.{image_page, flashes}
use Rattle.system_state.specs.Views.{pages_or_none}
use Rattle.system_state.specs.Slots.{die_at}
use Rattle.system_state.specs.Cores.{core_of}
use Rattle.system_state.specs.Jobs.{JobView}
use Rattle.system_state.specs.Kept.{IsKept}
use Rattle.system_state.specs.Settled.{flash_bytes}
use Rattle.system_state.specs.declared.dies.Slot.{Slot}
use Rattle.system_state.specs.declared.dies.Slot.TheVariants.{Home}
use Rattle.system_state.specs.declared.state.State.{State}
use Rattle.system_state.proofs.Pages.{image_is}
use Rattle.system_start.specs.Started.{at_home}
use Rattle.mounted_systems.proofs.Dealt.{seen_at}

same_map : (f g : ℕ → Page) (n : ℕ) → ((i : ℕ) → i < n → f i ≡ g i) → map f (range_with_len 0 n) ≡ map g (range_with_len 0 n)
same_map f g n same = fill_by_all g (map f (range_with_len 0 n)) n [] (length-map-range_with_len f 0 n)
    (λ i l. get_or-map-range_with_len f 0 n i i [] l (omega arith) ∙ same i l)

module _ {D J : Type 0} (seen : D → DieView) (suits : J → JobView → Type 0) (s : State D J) (k : IsKept seen suits s) (dies : List D) (home : at_home dies ≡ s.rack.slots.items) where
  -- the pages of each die
  abbrev pub pages_by_die : List (List Page)
  pages_by_die = map (λ d. pages_or_none (die_at seen s.rack.slots.items d).pages) (range_with_len 0 s.sizes.dies)

  listed : (d : ℕ) → d < s.sizes.dies → get_or pages_by_die d [] ≡ pages_or_none (die_at seen s.rack.slots.items d).pages
  listed d l = get_or-map-range_with_len (λ d. pages_or_none (die_at seen s.rack.slots.items d).pages) 0 s.sizes.dies d d [] l (omega arith)

  pub die_is : (d : ℕ) → drive.die_at (map seen dies) d ≡ die_at seen s.rack.slots.items d
  die_is d = sym (seen_at seen dies d) ∙ ap (λ (slots : List (Slot D)). die_at seen slots d) home

  pub tells : drive.TellsPages (map seen dies) s.meta.geometry.dies pages_by_die
  tells d l =
      let m : d < s.sizes.dies = subst (λ n. d < n) k.tables.dies l in
      let t = k.dies.told d m in
      ap (λ (v : DieView). v.pages) (die_is d) ∙ (t.told ∙ ap Some (sym (listed d m ∙ ap pages_or_none t.told)))

  pub shares : drive.AreDiesOf s.meta.geometry (map seen dies)
  shares = record {
    count = length-map dies seen ∙ (sym (length-map dies (λ d. Home d)) ∙ (ap length home ∙ (k.dies.count ∙ sym k.tables.dies)));
    sizes = λ d l.
        let m : d < s.sizes.dies = subst (λ n. d < n) k.tables.dies l in
        ap (λ (v : DieView). v.size) (die_is d) ∙ (k.dies.size d m
        ∙ (ap (λ (b : ℕ). die_share (total_pages b) s.sizes.dies d) (sym k.tables.blocks)
        ∙ ap (λ (n : ℕ). die_share (total_pages s.meta.geometry.blocks) n d) (sym k.tables.dies)));
  }

  page_is : (p : ℕ) → p < total_pages s.sizes.blocks →
      get_or (get_or pages_by_die (p % s.sizes.dies) []) (p / s.sizes.dies) [] ≡ image_page (core_of seen s).shape (core_of seen s).meta (flashes (core_of seen s).blocks) p
  page_is p l =
      let some : 0 < s.sizes.dies = k.sizes.drive.some_dies in
      ap (λ (ps : List Page). get_or ps (p / s.sizes.dies) []) (listed (p % s.sizes.dies) (mod-lt p some))
      ∙ sym (image_is seen s p k.sizes l)

  pub bytes_are : drive.image_bytes s.meta.geometry pages_by_die ≡ flash_bytes (core_of seen s)
  unfolding from_fn
  bytes_are =
      ap (λ (b : ℕ). concat (joined pages_by_die s.meta.geometry.dies (total_pages b))) k.tables.blocks
      ∙ (ap (λ (n : ℕ). concat (joined pages_by_die n (total_pages s.sizes.blocks))) k.tables.dies
      ∙ (concat_is (joined pages_by_die s.sizes.dies (total_pages s.sizes.blocks))
      ∙ ap (flat_map (λ (page : Page). page)) (same_map _ (image_page (core_of seen s).shape (core_of seen s).meta (flashes (core_of seen s).blocks)) (total_pages s.sizes.blocks) page_is)))
