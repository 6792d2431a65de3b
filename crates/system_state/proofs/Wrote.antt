-- A die comes home from the write of an image page: what is common to the events that bring one.
use Rattle.std.proofs.Common.{◌≡◌, ℕ, ◌+◌, ◌*◌, ◌<◌, Bool, List, [], length, get_or, set, Some, None, sym, ap, ◌∙◌, subst, arith}
use Rattle.std.specs.Prelude.{◌==◌, if◌then◌else◌}
use Rattle.std.proofs.lemmas.List.{length-set}
use Rattle.page_base.specs.Drive.{total_pages, die_share}
use Rattle.index_lists.specs.Words.{put}
use Rattle.flash_die.specs.Dies.{DieView}
use Rattle.turn_cell.specs.declared.book.Entry.{Entry}
use Rattle.turn_cell.specs.Events.{events_of}
use Rattle.core_state.specs.declared.event.Event.{Event}
use Rattle.core_state.specs.State.{Page}
use Rattle.core_state.specs.DieEvents.{home_written, written_page, IsLeft}
use Rattle.core_state.specs.History.{read_of, write_of}
use Rattle.system_state.specs.Views.{IsTold, page_in}
use Rattle.system_state.specs.Slots.{die_at, flash_at}
use Rattle.system_state.specs.Cores.{core_of, dies_of, no_counts}
use Rattle.system_state.specs.Jobs.{JobView}
use Rattle.system_state.specs.Kept.{IsKept, AreNotes}
use Rattle.system_state.specs.Stands.{DieStands, tally, Stands}
use Rattle.system_state.specs.Extends.{Tells, GoesOn}
use Rattle.system_state.specs.Errands.{succeeded, HasPages, HasWritten, left_by}
use Rattle.system_state.specs.Noted.{counted_write, told_write}
use Rattle.system_state.specs.declared.dies.Slot.{Slot}
use Rattle.system_state.specs.declared.dies.Slot.TheVariants.{Home}
use Rattle.system_state.specs.declared.errand.Errand.{Errand}
use Rattle.system_state.specs.declared.told.DieCounts.{DieCounts}
use Rattle.system_state.specs.declared.told.Told.{Told}
use Rattle.system_state.specs.declared.state.State.{State}
use Rattle.system_state.proofs.Flash.{flash_put}
use Rattle.system_state.proofs.Tallies.{same_test, other_test}
use Rattle.system_state.proofs.Pages.{inside_share}
use Rattle.system_state.proofs.Used.{others_same, page_written, written_home, same_pages}
use Rattle.system_state.proofs.Homing.{IsHome, within_slots, has_pages, home_counted, home_goes}

module _ {D J : Type 0} (seen : D → DieView) (suits : J → JobView → Type 0) where
  -- the die of this errand comes home into these slots, after it was used to write an image page
  pub record IsWritten (s : State D J) (e : Errand D) (page : ℕ) (bytes : Page) (slots : List (Slot D)) : Type 0 where
    pub good : Bool
    pub wrote : HasWritten seen e good bytes
    pub pages : HasPages (core_of seen s) e.number (seen e.left.value)
    pub told : IsTold (seen e.die)
    pub number : e.number < s.sizes.dies
    pub place : page ≡ e.at * s.sizes.dies + e.number
    pub within : page < total_pages s.sizes.blocks
    pub slots_are : slots ≡ set s.rack.slots.items e.number (Home e.die)

  module _ (s : State D J) (e : Errand D) (page : ℕ) (bytes : Page) (slots : List (Slot D)) (k : IsKept seen suits s) (q : IsWritten s e page bytes slots) where
    good_is : succeeded e.outcome ≡ q.good
    good_is = ap succeeded q.wrote.used

    inside : e.at < die_share (total_pages s.sizes.blocks) s.sizes.dies e.number
    inside = inside_share page (total_pages s.sizes.blocks) s.sizes.dies e.number e.at q.number q.place q.within

    within_left : e.at < (seen e.left.value).size
    within_left = let a = inside in let b = q.pages.size in omega arith

    within_new : e.at < (seen e.die).size
    within_new = let a = within_left in let b = q.wrote.wrote.counts.size in omega arith

    pub wrote_home : IsHome seen suits s e.number e.die slots
    wrote_home = record { within = q.number; told = q.told; size = q.wrote.wrote.counts.size ∙ q.pages.size; slots_are = q.slots_are }

    pub wrote_dies : (counts : List DieCounts) → counts ≡ set s.told.value.counts e.number (counted_write (get_or s.told.value.counts e.number no_counts) (succeeded e.outcome)) →
        dies_of slots counts ≡ put (core_of seen s).dies e.number (home_written ((core_of seen s).dies e.number) (succeeded e.outcome))
    wrote_dies counts is = home_counted seen suits s e.number e.die slots k wrote_home counts (counted_write (get_or s.told.value.counts e.number no_counts) (succeeded e.outcome)) is

    -- flash has one page that may be another one
    pub wrote_flash : flash_at seen slots s.sizes.dies ≡ put (flash_at seen s.rack.slots.items s.sizes.dies) page (page_in (seen e.die) e.at)
    wrote_flash =
        ap (λ (x : List (Slot D)). flash_at seen x s.sizes.dies) q.slots_are
        ∙ (flash_put seen s.rack.slots.items s.sizes.dies e.number e.at e.die q.number (within_slots seen suits s e.number e.die slots k wrote_home)
        (λ j n. others_same q.good (seen e.left.value) (seen e.die) e.at bytes q.wrote.wrote j n
        ∙ same_pages (core_of seen s) e.number (seen e.left.value) (die_at seen s.rack.slots.items e.number) q.pages (has_pages seen suits s e.number e.die slots k wrote_home) j)
        ∙ ap (λ (x : ℕ). put (flash_at seen s.rack.slots.items s.sizes.dies) x (page_in (seen e.die) e.at)) (sym q.place))

    pub wrote_page : page_in (seen e.die) e.at ≡ written_page (succeeded e.outcome) bytes (left_by seen e)
    wrote_page =
        page_written q.good (seen e.left.value) (seen e.die) e.at bytes (left_by seen e) q.wrote.wrote q.pages.told within_left (λ f. ap (λ (b : Bool). if b then [] else page_in (seen e.die) e.at) (good_is ∙ f))
        ∙ ap (λ (b : Bool). written_page b bytes (left_by seen e)) (sym good_is)

    pub wrote_left : IsLeft (succeeded e.outcome) (left_by seen e)
    wrote_left = record {
      ok = λ f. ap (λ (b : Bool). if b then [] else page_in (seen e.die) e.at) f;
      failed = λ f. ap length (ap (λ (b : Bool). if b then [] else page_in (seen e.die) e.at) f) ∙ q.told.whole e.at within_new;
    }

    pub wrote_notes : (told : Told) (ev : Event) → told ≡ told_write s.told.value e.number (succeeded e.outcome) ev → AreNotes s.sizes told
    wrote_notes told ev is = subst (AreNotes s.sizes) (sym is) (record {
      lent = k.notes.lent;
      gathered = k.notes.gathered;
      spans = k.notes.spans;
      counts = length-set s.told.value.counts e.number (counted_write (get_or s.told.value.counts e.number no_counts) (succeeded e.outcome)) ∙ k.notes.counts;
    })

    -- what each die tells goes on, where the event tells of a write of this one alone
    pub wrote_goes : (ev : Event) → ((d : ℕ) → read_of d ev ≡ None) → ((d : ℕ) → write_of d ev ≡ (if e.number == d then Some (succeeded e.outcome) else None)) →
        (o : State D J) (h : List (Entry Event)) → Stands seen suits s o h → DieStands (die_at seen o.rack.slots.items e.number) (tally e.number (events_of h)) (seen e.left.value) →
        (d : ℕ) → d < s.sizes.dies → GoesOn d (die_at seen o.rack.slots.items d) (events_of h) ev (die_at seen slots d)
    wrote_goes ev reads writes o h stands stood = home_goes seen suits s e.number e.die slots k wrote_home ev (seen e.left.value) o h stands stood tells
        (λ d far. (reads d, writes d ∙ ap (λ (b : Bool). if b then Some (succeeded e.outcome) else None) (other_test e.number d (λ f. far (sym f)))))
      where
        write_is : write_of e.number ev ≡ Some q.good
        write_is = writes e.number ∙ (ap (λ (b : Bool). if b then Some (succeeded e.outcome) else None) (same_test e.number) ∙ ap (λ (b : Bool). Some b) good_is)

        tells : Tells (read_of e.number ev) (write_of e.number ev) (seen e.left.value) (seen e.die)
        tells = subst (λ x. Tells x (write_of e.number ev) (seen e.left.value) (seen e.die)) (sym (reads e.number))
            (subst (λ x. Tells None x (seen e.left.value) (seen e.die)) (sym write_is) (written_home q.good (seen e.left.value) (seen e.die) e.at bytes q.wrote.wrote))
