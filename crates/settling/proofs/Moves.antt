-- The next write of the last sync, over the state.
use Rattle.std.proofs.Common.{◌≡◌, ℕ, ◌<◌, ◌≤◌, Bool, true, false, List, [], ◌∷◌, ◌++◌, Option, Some, None, inl, refl, sym, ap, ◌∙◌, subst, arith}
use Rattle.std.specs.Prelude.{nat_lt, is_some, slice_get, if◌then◌else◌, option_map}
use Rattle.std.specs.List.{find}
use Rattle.std.proofs.lemmas.Bool.Decides.{nat_tests}
use Rattle.page_base.specs.Drive.{meta_pages}
use Rattle.core_state.specs.declared.actor.Actor.TheVariants.{Closer}
use Rattle.core_state.specs.declared.event.Event.{Event}
use Rattle.core_state.specs.declared.event.Event.TheVariants.{DieOut, FlushOut}
use Rattle.core_state.specs.declared.event.Purpose.TheVariants.{Meta}
use Rattle.core_state.specs.State.{Page, Core}
use Rattle.core_state.specs.Contents.{die_of, die_of_page}
use Rattle.core_state.specs.DieEvents.{is_flushable}
use Rattle.core_solo.specs.Solo.{flush_event, sync_event, IsStored}
use Rattle.system_state.specs.declared.not_yet.NotYet.{NotYet}
use Rattle.system_state.specs.declared.not_yet.NotYet.TheVariants.{NothingDirty, DieBusy}
use Rattle.system_metas.specs.Encode.{encode}
use Rattle.system_dies.specs.Going.{flush_refusal}
use Rattle.page_steps.specs.Flushing.{IsFirst, IsBusy}
use Rattle.page_steps.proofs.Moves.{flush_some}
use Rattle.turn_cell.specs.declared.book.Entry.{Entry}
use Rattle.turn_cell.specs.History.{entry}
use Rattle.turn_cell.specs.Events.{events_of}
use Rattle.flash_die.specs.Dies.{DieView}
use Rattle.core_state.specs.State.{ToMeta}
use Rattle.system_state.specs.Jobs.{JobView}
use Rattle.system_state.specs.Cores.{core_of}
use Rattle.system_state.specs.Slots.{die_at}
use Rattle.system_state.specs.Made.{Made}
use Rattle.system_state.specs.Stands.{Stands, DieStands, tally}
use Rattle.system_state.specs.Errands.{WentOut}
use Rattle.system_state.specs.declared.errand.Errand.{Errand}
use Rattle.system_state.specs.declared.state.State.{State}
use Rattle.settling.specs.Next.{IsNextWrite, IsPageAway, IsStopped, IsPageSent, busy_die}

find_some : (test : ℕ → Bool) (us : List ℕ) (b : ℕ) → find test us ≡ Some b → is_some (slice_get us 0) ≡ true
find_some test [] b e = absurd (cc)
find_some test (u ∷ us) b e = refl

-- the first unclean block whose die is at home
pub block_next : (c : Core) (n b : ℕ) → IsFirst b c → die_of c.shape b ≡ n → IsNextWrite (FlushOut Closer n b) c
block_next c n b first on =
    let next = if nat_lt c.closer (meta_pages c.shape.blocks) then Some (DieOut Closer (die_of_page c.shape c.closer) (Meta c.closer (encode c c.closer))) else None in
    ap (λ (t : Bool). if t then flush_event c Closer else next) (find_some (is_flushable c) c.unclean b first) ∙ sym (flush_some c Closer n b first on)

some_of_none : (us : List ℕ) → us ≡ [] → is_some (slice_get us 0) ≡ false
some_of_none us e = ap (λ (xs : List ℕ). is_some (slice_get xs 0)) e

is_below : (m n : ℕ) → m < n → nat_lt m n ≡ true
is_below m n l = grind (arith, nat_tests)

-- the next page of the meta data
pub page_next : (c : Core) (n i : ℕ) (bytes : Page) → c.unclean ≡ [] → i ≡ c.closer → i < meta_pages c.shape.blocks → die_of_page c.shape i ≡ n → bytes ≡ encode c i → IsNextWrite (DieOut Closer n (Meta i bytes)) c
page_next c n i bytes clean is below on are =
    let l : c.closer < meta_pages c.shape.blocks = subst (λ (m : ℕ). m < meta_pages c.shape.blocks) is below in
    ap (λ (t : Bool). if t then flush_event c Closer else (if nat_lt c.closer (meta_pages c.shape.blocks) then Some (DieOut Closer (die_of_page c.shape c.closer) (Meta c.closer (encode c c.closer))) else None)) (some_of_none c.unclean clean)
    ∙ (ap (λ (t : Bool). if t then Some (DieOut Closer (die_of_page c.shape c.closer) (Meta c.closer (encode c c.closer))) else None) (is_below c.closer (meta_pages c.shape.blocks) l)
    ∙ (ap (λ (m : ℕ). Some (DieOut Closer (die_of_page c.shape m) (Meta m (encode c m)))) (sym is)
    ∙ (λ j. Some (DieOut Closer (on j) (Meta i (sym are j))))))

-- ---- why no block goes out

pub refused_clean : (c : Core) (us : List ℕ) (y : NotYet) → c.unclean ≡ us → y ≡ flush_refusal c us → busy_die y ≡ None → c.unclean ≡ []
refused_clean c [] y e f none = e
refused_clean c (u ∷ us) y e f none = let z = ap busy_die f in absurd (cc)

is_busy : (y : NotYet) (die : ℕ) → busy_die y ≡ Some die → y ≡ DieBusy die
is_busy (DieBusy n) die e = let z : n ≡ die = cc in ap (λ (k : ℕ). DieBusy k) z
is_busy y die e = absurd (cc)

pub refused_busy : (c : Core) (y : NotYet) (die : ℕ) → find (is_flushable c) c.unclean ≡ None → y ≡ flush_refusal c c.unclean → busy_die y ≡ Some die → IsStopped die c
refused_busy c y die none f is = inl (none, sym f ∙ is_busy y die is)

pub all_done : (c : Core) → c.unclean ≡ [] → c.closer ≤ meta_pages c.shape.blocks → meta_pages c.shape.blocks ≤ c.closer → IsStored c
all_done c clean most least = record { clean = clean; all = omega arith }

-- ---- a die went out

module _ {D J : Type 0} (seen : D → DieView) (suits : J → JobView → Type 0) where
  pub page_sent : (s t : State D J) (page : Page) (e : Errand D) (i : ℕ) → e.subject ≡ i → i ≡ (core_of seen s).closer → (core_of seen s).unclean ≡ [] → page ≡ encode (core_of seen s) i → WentOut seen Closer (ToMeta i page) i e t →
      Made seen suits s (DieOut Closer e.number (Meta i page)) t →
      ((o : State D J) (h : List (Entry Event)) (n : ℕ) → Stands seen suits s o h → Stands seen suits t o (h ++ entry n (DieOut Closer e.number (Meta i page)) ∷ []) × DieStands (die_at seen o.rack.slots.items e.number) (tally e.number (events_of h)) (seen e.left.value)) →
      IsPageSent seen suits s page e t
  page_sent s t page e i subject number clean bytes out made stands =
      let may = made.happens.may in
      let back = sym subject in
      record {
        next = record {
          next = subst (λ (n : ℕ). IsNextWrite (DieOut Closer e.number (Meta n page)) (core_of seen s)) back (page_next (core_of seen s) e.number i page clean number may.below may.on_die bytes);
          number = subject ∙ number;
          bytes = subst (λ (n : ℕ). page ≡ encode (core_of seen s) n) back bytes;
          clean = clean;
        };
        sent = record {
          out = subst (λ (n : ℕ). WentOut seen Closer (ToMeta n page) n e t) back out;
          stands = subst (λ (k : ℕ). (o : State D J) (h : List (Entry Event)) (n : ℕ) → Stands seen suits s o h → Stands seen suits t o (h ++ entry n (DieOut Closer e.number (Meta k page)) ∷ []) × DieStands (die_at seen o.rack.slots.items e.number) (tally e.number (events_of h)) (seen e.left.value)) back stands;
        };
      }
