-- A core in which the closer is alone, for the last sync. This project's own.
use Rattle.std.specs.Prelude.{◌≡◌, ℕ, ◌+◌, ◌-◌, ◌*◌, ◌<◌, ◌≤◌, ◌==◌, Bool, List, [], ◌∷◌, ◌++◌, length, Some, None, IfSome}
use Rattle.index_lists.specs.Words.{one_if}
use Rattle.plain_files.specs.declared.calls.Request.{Request}
use Rattle.page_base.specs.Drive.{meta_pages}
use Rattle.core_state.specs.declared.actor.Actor.{Actor}
use Rattle.core_state.specs.declared.actor.Actor.TheVariants.{Closer}
use Rattle.core_state.specs.declared.event.Event.{Event}
use Rattle.core_state.specs.State.{Page, ToFlush, ToMeta, Out, Core}
use Rattle.core_state.specs.Happens.{IsClosing, CoreRun, Happens, after}
use Rattle.core_state.specs.Happens.{after_all}
use Rattle.core_solo.specs.Solo.{IsSyncNext, SoloSync, Script, request_at, SoloRun}

-- Every lane has left, no call is in flight, and no die is out but the closer's: for a flush of the page as it is, or for a meta page that
-- is still to be written.
pub record IsSettling (c : Core) : Type 0 where
  pub closing : IsClosing c
  pub holder : (die : ℕ) (out : Out) → (c.dies die).out ≡ Some out → out.holder ≡ Closer
  pub flush : (die : ℕ) (holder : Actor) (b version : ℕ) (page : Page) → (c.dies die).out ≡ Some (record { holder = holder; errand = ToFlush b version page }) → version ≡ (c.blocks b).version
  pub most : c.closer ≤ meta_pages c.shape.blocks
  pub writing : (die : ℕ) (holder : Actor) (number : ℕ) (bytes : Page) → (c.dies die).out ≡ Some (record { holder = holder; errand = ToMeta number bytes }) → c.closer < meta_pages c.shape.blocks

-- the next event of the last sync is there, and happens
pub record SettlesOn (encode : Core → ℕ → Page) (c : Core) : Type 0 where
  pub event : Event
  pub next : IsSyncNext encode c event
  pub happens : Happens c event (after c event)

-- what the last sync has to do: two events for each flush, and for each meta page
abbrev pub sync_left : Core → ℕ
sync_left c = 2 * length c.unclean + 2 * (meta_pages c.shape.blocks - c.closer)

-- the last sync is there
pub record SettleEnds (encode : Core → ℕ → Page) (c : Core) : Type 0 where
  pub events : List Event
  pub sync : SoloSync encode c events
  pub run : CoreRun c events (after_all c events)

-- a core in which a SoloRun begins: no call is in flight, all dies are at home, and of the last sync no more is written than there is
pub record IsFresh (c : Core) : Type 0 where
  pub still : (l : ℕ) → c.calls l ≡ None
  pub home : (die : ℕ) → (c.dies die).out ≡ None
  pub closer : c.closer ≤ meta_pages c.shape.blocks

-- how many of these lines are the lane's
abbrev pub lines_of : ℕ → List (ℕ × ℕ) → ℕ
lines_of lane [] = 0
lines_of lane (line ∷ lines) = one_if (line.0 == lane) + lines_of lane lines

-- a line's request is there, and awaits no more calls of a lane than the lines before have
pub record IsInOrder (script : Script) (before : List (ℕ × ℕ)) (line : ℕ × ℕ) : Type 0 where
  pub request : Request
  pub asks : request_at script line ≡ Some request
  pub waits : IfSome request.awaits (λ awaited. awaited.1 ≤ lines_of awaited.0 before)

abbrev pub AreInOrder : Script → Type 0
AreInOrder script = (before rest : List (ℕ × ℕ)) (line : ℕ × ℕ) → script.order ≡ before ++ line ∷ rest → IsInOrder script before line

-- a whole run is there
pub record RunEnds (encode : Core → ℕ → Page) (c0 : Core) (script : Script) (last : Bool) : Type 0 where
  pub events : List Event
  pub run : SoloRun encode c0 script last events (after_all c0 events)
