-- The next write of the last sync, and its die's way home. This project's own.
use Rattle.std.specs.Prelude.{◌≡◌, ◌⊎◌, ◌<◌, ◌+◌, ℕ, Bool, false, List, [], ◌∷◌, ◌++◌, Option, Some, None}
use Rattle.std.specs.declared.snapshot.Snapshot.{Snapshot}
use Rattle.page_base.specs.Drive.{meta_pages}
use Rattle.turn_cell.specs.declared.book.Entry.{Entry}
use Rattle.turn_cell.specs.History.{entry}
use Rattle.turn_cell.specs.Events.{events_of}
use Rattle.flash_die.specs.Dies.{DieView}
use Rattle.core_state.specs.declared.actor.Actor.TheVariants.{Closer}
use Rattle.core_state.specs.declared.event.Event.{Event}
use Rattle.core_state.specs.declared.event.Event.TheVariants.{DieOut, FlushOut, FlushIn, MetaIn}
use Rattle.core_state.specs.declared.event.Purpose.TheVariants.{Meta}
use Rattle.core_state.specs.State.{Page, Errand as Purpose, ToFlush, ToMeta, Core}
use Rattle.core_state.specs.Contents.{die_of_page}
use Rattle.core_state.specs.DieEvents.{is_home, flush_of}
use Rattle.core_solo.specs.Solo.{sync_event, IsStored}
use Rattle.system_state.specs.Jobs.{JobView}
use Rattle.system_state.specs.Cores.{core_of}
use Rattle.system_state.specs.Slots.{die_at}
use Rattle.system_state.specs.Stands.{Stands, DieStands, tally}
use Rattle.system_state.specs.Errands.{WentOut}
use Rattle.system_state.specs.declared.errand.Errand.{Errand}
use Rattle.system_state.specs.declared.not_yet.NotYet.{NotYet}
use Rattle.system_state.specs.declared.not_yet.NotYet.TheVariants.{DieBusy}
use Rattle.system_state.specs.declared.state.State.{State}
use Rattle.system_metas.specs.Encode.{encode}
use Rattle.page_steps.specs.Flushing.{IsBusy}
use Rattle.settling.specs.declared.next.Next.{Next}
use Rattle.settling.specs.declared.next.Next.TheVariants.{Block, Meta as PageOut, Busy, Stored}

-- ---- what is next

-- it is the next write of the last sync
abbrev pub IsNextWrite : Event → Core → Type 0
IsNextWrite e c = sync_event encode c Closer c.closer ≡ Some e

-- no block is unclean, and the die of the next page of the meta data is out
pub record IsPageAway (die : ℕ) (c : Core) : Type 0 where
  pub clean : c.unclean ≡ []
  pub more : c.closer < meta_pages c.shape.blocks
  pub die_is : die ≡ die_of_page c.shape c.closer
  pub away : is_home (c.dies die) ≡ false

-- the die of the next write is out: blocks are unclean and the dies of all of them are out, or that of the next page is
abbrev pub IsStopped : ℕ → Core → Type 0
IsStopped die c = IsBusy die c ⊎ IsPageAway die c

-- the die that is out, if that is why nothing could be done
abbrev pub busy_die : NotYet → Option ℕ
busy_die (DieBusy die) = Some die
busy_die _ = None

module _ {D : Type 0} where
  -- the event of the answer
  abbrev pub next_events : Page → Next D → List Event
  next_events page (Block e) = FlushOut Closer e.number e.subject ∷ []
  next_events page (PageOut e) = DieOut Closer e.number (Meta e.subject page) ∷ []
  next_events page (Busy die) = []
  next_events page Stored = []

  -- a page of the meta data goes out: it is the next one, with the bytes of this core, in which no block is unclean
  pub record SendsPage (e : Errand D) (page : Page) (c : Core) : Type 0 where
    pub next : IsNextWrite (DieOut Closer e.number (Meta e.subject page)) c
    pub number : e.subject ≡ c.closer
    pub bytes : page ≡ encode c e.subject
    pub clean : c.unclean ≡ []

  -- what the answer says of core c
  abbrev pub NextIs : Page → Next D → Core → Type 0
  NextIs page (Block e) c = IsNextWrite (FlushOut Closer e.number e.subject) c
  NextIs page (PageOut e) c = SendsPage e page c
  NextIs page (Busy die) c = IsStopped die c
  NextIs page Stored c = IsStored c

  -- one turn of the last sync, in core c
  abbrev pub NextSays : Page → Next D → Core → List Event → Type 0
  NextSays page r c es = (es ≡ next_events page r) × NextIs page r c

  -- a die comes home that was used to write a block, or a page of the meta data
  abbrev pub BlockBack : Errand D → Bool → Core → List Event → Type 0
  BlockBack e good c es = (left : Page) × (es ≡ FlushIn Closer e.number good left ∷ [])

  abbrev pub PageBack : Errand D → Bool → Core → List Event → Type 0
  PageBack e good c es = (left : Page) × (es ≡ MetaIn Closer e.number good left ∷ [])

-- ---- over the state

module _ {D J : Type 0} (seen : D → DieView) (suits : J → JobView → Type 0) where
  -- a die went out for this purpose, about this page of the image, by this event
  pub record IsSent (s : State D J) (event : Event) (purpose : Purpose) (at : ℕ) (e : Errand D) (t : State D J) : Type 0 where
    pub out : WentOut seen Closer purpose at e t
    pub stands : (o : State D J) (h : List (Entry Event)) (n : ℕ) → Stands seen suits s o h →
        Stands seen suits t o (h ++ entry n event ∷ []) × DieStands (die_at seen o.rack.slots.items e.number) (tally e.number (events_of h)) (seen e.left.value)

  pub record IsBlockSent (s : State D J) (page : Page) (e : Errand D) (t : State D J) : Type 0 where
    pub next : IsNextWrite (FlushOut Closer e.number e.subject) (core_of seen s)
    pub sent : IsSent s (FlushOut Closer e.number e.subject) (flush_of (core_of seen s) e.subject) (s.sizes.meta + e.subject) e t
    pub page_is : flush_of (core_of seen s) e.subject ≡ ToFlush e.subject ((core_of seen s).blocks e.subject).version page

  pub record IsPageSent (s : State D J) (page : Page) (e : Errand D) (t : State D J) : Type 0 where
    pub next : SendsPage e page (core_of seen s)
    pub sent : IsSent s (DieOut Closer e.number (Meta e.subject page)) (ToMeta e.subject page) e.subject e t

  -- from one state to the next
  abbrev pub NextDid : State D J → Page → Next D → State D J → Type 0
  NextDid s page (Block e) t = IsBlockSent s page e t
  NextDid s page (PageOut e) t = IsPageSent s page e t
  NextDid s page (Busy die) t = (t ≡ s) × IsStopped die (core_of seen s)
  NextDid s page Stored t = (t ≡ s) × IsStored (core_of seen s)
