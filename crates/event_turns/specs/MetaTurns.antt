-- Pages of the meta data, written over a desk. This project's own.
use Rattle.std.specs.Prelude.{◌≡◌, ◌≢◌, ℕ, Bool, false, List, [], ◌∷◌, ◌++◌, Result, Ok, Err}
use Rattle.std.specs.declared.snapshot.Snapshot.{Snapshot}
use Rattle.turn_cell.specs.declared.book.Entry.{Entry}
use Rattle.turn_cell.specs.Events.{events_of}
use Rattle.turn_cell.specs.History.{entry}
use Rattle.flash_die.specs.Dies.{DieView}
use Rattle.core_state.specs.declared.actor.Actor.{Actor}
use Rattle.core_state.specs.declared.actor.Actor.TheVariants.{Closer}
use Rattle.core_state.specs.declared.event.Event.{Event}
use Rattle.core_state.specs.declared.event.Event.TheVariants.{DieOut}
use Rattle.core_state.specs.declared.event.Purpose.TheVariants.{Meta}
use Rattle.core_state.specs.State.{Page, ToMeta, Core}
use Rattle.core_state.specs.Contents.{die_of_page}
use Rattle.core_state.specs.DieEvents.{MayWriteMeta, is_home}
use Rattle.core_state.specs.Happens.{HoldsNone, IsClosing}
use Rattle.system_state.specs.Jobs.{JobView}
use Rattle.system_state.specs.Cores.{core_of}
use Rattle.system_state.specs.Slots.{die_at}
use Rattle.system_state.specs.Stands.{Stands, DieStands, tally}
use Rattle.system_state.specs.Errands.{HasWritten, WentOut}
use Rattle.system_state.specs.declared.errand.Errand.{Errand}
use Rattle.system_state.specs.declared.not_yet.NotYet.{NotYet}
use Rattle.system_state.specs.declared.not_yet.NotYet.TheVariants.{DieBusy}
use Rattle.system_state.specs.declared.state.State.{State}
use Rattle.system_metas.specs.Encode.{encode}
use Rattle.desk_turns.specs.Passing.{IsItsOwn}
use Rattle.flushes.specs.Flushing.{IsInHand}
use Rattle.event_turns.specs.declared.metas.MetaOut.{MetaOut}
use Rattle.event_turns.specs.declared.metas.MetaOut.TheVariants.{Sent, Busy, Unclean}

-- The actor may write this page of the meta data next: it is a lane in a `sync` without a mark, or the closer once the system is closing,
-- it has written the pages before, and it holds no die.
pub record MayStore (c : Core) (a : Actor) (number : ℕ) : Type 0 where
  pub none : HoldsNone c a
  pub own : IsItsOwn c a
  pub closing : a ≡ Closer → IsClosing c
  pub writes : MayWriteMeta c a number

-- the answer of a try to send a die out, where no block is unclean or the page isn't the first
abbrev pub told : {D : Type 0} → Result (Errand D) NotYet → MetaOut D
told (Ok e) = Sent e
told (Err (DieBusy die)) = Busy die
told (Err y) = Unclean

-- the die of the page is out, and it isn't the first one, or no block is unclean
pub record IsMetaBusy (c : Core) (i die : ℕ) : Type 0 where
  pub die_is : die ≡ die_of_page c.shape i
  pub away : is_home (c.dies die) ≡ false
  pub first : i ≡ 0 → c.unclean ≡ []

-- it is the first page, and some block is unclean
pub record IsUnclean (c : Core) (i : ℕ) : Type 0 where
  pub first : i ≡ 0
  pub some_are : c.unclean ≢ []

module _ {D : Type 0} where
  -- a turn for page i of the meta data, in core c: its die goes out with the encoding of the core in which it does
  abbrev pub MetaSays : Actor → ℕ → Page → MetaOut D → Core → List Event → Type 0
  MetaSays actor i page (Sent e) c es = (es ≡ DieOut actor e.number (Meta i page) ∷ []) × (e.subject ≡ i) × (page ≡ encode c i)
  MetaSays actor i page (Busy die) c es = (es ≡ []) × IsMetaBusy c i die
  MetaSays actor i page Unclean c es = (es ≡ []) × IsUnclean c i

module _ {D J : Type 0} (seen : D → DieView) (suits : J → JobView → Type 0) where
  -- the die of page i went out
  pub record IsMetaSent (s : State D J) (actor : Actor) (i : ℕ) (page : Page) (e : Errand D) (t : State D J) : Type 0 where
    pub subject : e.subject ≡ i
    pub bytes : page ≡ encode (core_of seen s) i
    pub out : WentOut seen actor (ToMeta i page) i e t
    pub stands : (o : State D J) (h : List (Entry Event)) (n : ℕ) → Stands seen suits s o h →
        Stands seen suits t o (h ++ entry n (DieOut actor e.number (Meta i page)) ∷ [])
        × DieStands (die_at seen o.rack.slots.items e.number) (tally e.number (events_of h)) (seen e.left.value)

  -- from one state to the next
  abbrev pub MetaDid : State D J → Actor → ℕ → Page → MetaOut D → State D J → Type 0
  MetaDid s actor i page (Sent e) t = IsMetaSent s actor i page e t
  MetaDid s actor i page (Busy die) t = (t ≡ s) × IsMetaBusy (core_of seen s) i die
  MetaDid s actor i page Unclean t = (t ≡ s) × IsUnclean (core_of seen s) i

module _ {D J : Type 0} (seen : D → DieView) where
  -- the errand has a die that was used to write the page of the meta data that it went out for
  pub record IsMetaWritten (o : Snapshot (State D J)) (h : List (Entry Event)) (a : Actor) (good : Bool) (e : Errand D) : Type 0 where
    pub bytes : Page
    pub hand : IsInHand seen o h a (ToMeta e.subject bytes) e.subject e
    pub wrote : HasWritten seen e good bytes
