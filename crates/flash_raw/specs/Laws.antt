-- The law of raw flash in memory, and its proof: the calls that have failed are at most those that had failed before and the numbers that are listed. This project's own.
use Rattle.std.proofs.Common.{◌≡◌, ℕ, zero, suc, true, false, List, [], ◌∷◌, length, map, get_or, Option, Some, None, ap, sym, ◌∙◌, arith}
use Rattle.std.specs.Prelude.{if◌then◌else◌}
use Rattle.std.proofs.lemmas.List.{length-map}
use Rattle.flash_die.specs.Laws.{failed_of-within}
use Rattle.flash_raw.specs.Raw.{IsRaw}
use Rattle.flash_raw.specs.Memory.{shown, view_of}
use Rattle.flash_raw.specs.declared.raw_page.RawPage.{RawPage}
use Rattle.flash_raw.specs.declared.raw_mem.RawMem.{RawMem}

-- the bytes of a page that is told
shown-whole : (page : RawPage) (bytes : List ℕ) → shown page ≡ Some bytes → length bytes ≡ 4096
shown-whole page bytes told =
    elim page.programmed as (λ b. (if b then Some page.bytes else None) ≡ Some bytes → length bytes ≡ 4096) [
      | true ↦ λ e. let same : page.bytes ≡ bytes = cc in ap length (sym same) ∙ page.whole
      | false ↦ λ e. absurd (cc)
    ] told

pages-whole : (pages : List RawPage) (page : ℕ) (bytes : List ℕ) → get_or (map shown pages) page None ≡ Some bytes → length bytes ≡ 4096
pages-whole [] page bytes told = absurd (cc)
pages-whole (first ∷ pages) zero bytes told = shown-whole first bytes told
pages-whole (first ∷ pages) (suc page) bytes told = pages-whole pages page bytes told

pub sound_raw : (raw : RawMem) → IsRaw (view_of raw)
sound_raw raw = record {
  whole = length-map raw.pages.items shown ∙ raw.whole;
  each_whole = pages-whole raw.pages.items;
  few = raw.few;
  bounded = omega (arith, failed_of-within raw.reads.made raw.reads.failing.items, failed_of-within raw.programs.made raw.programs.failing.items, failed_of-within raw.erases.made raw.erases.failing.items);
}
