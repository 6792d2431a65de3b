-- A core in which one lane's call is alone, and what the laws of SoloRun say of it. This project's own.
use Rattle.std.specs.Prelude.{◌≡◌, ◌≢◌, ℕ, ◌+◌, ◌*◌, ◌<◌, ◌≤◌, true, false, List, length, Some, None, is_some}
use Rattle.page_base.specs.Drive.{meta_pages}
use Rattle.dispatcher.specs.declared.side.Side.TheVariants.{Drive}
use Rattle.plain_files.specs.declared.calls.Request.{Request}
use Rattle.index_lists.specs.Words.{one_if}
use Rattle.core_state.specs.Words.{sum_to}
use Rattle.core_state.specs.declared.actor.Actor.{Actor}
use Rattle.core_state.specs.declared.actor.Actor.TheVariants.{Lane}
use Rattle.core_state.specs.declared.event.Event.{Event}
use Rattle.core_state.specs.State.{Page, Shape, Inside, Held, Queued, Flight, ToFlush, ToMeta, Out, Core}
use Rattle.core_state.specs.Coherent.{Coherent}
use Rattle.core_state.specs.LaneEvents.{HasAwaited, HasGathered}
use Rattle.core_state.specs.EndEvent.{is_reported}
use Rattle.core_state.specs.Happens.{CoreRun, Happens, after}
use Rattle.core_state.specs.Happens.{after_all}
use Rattle.core_solo.specs.Solo.{acting, IsNext, SoloCall}

-- nothing has happened to a call since its Begin
pub record IsUntouched (c : Core) (lane : ℕ) (x : Flight) : Type 0 where
  pub unmarked : (c.lanes lane).mark ≡ false
  pub empty : (i : ℕ) → i < x.claim.reach.pages → x.gathered i ≡ None
  pub home : (die : ℕ) → (c.dies die).out ≡ None

-- What a coherent core leaves open of a call in flight, and events of other runs could spoil: before its Submit nothing happens to a call
-- of the drive, and no die is out for it until its Fetch; one that is reported without a mark has all its pages; and no more meta pages are
-- written than there are.
pub record IsOnItsWay (c : Core) (lane : ℕ) (x : Flight) : Type 0 where
  pub fresh : x.claim.side ≡ Drive → x.phase ≡ Held → IsUntouched c lane x
  pub waits : x.phase ≡ Queued → (die : ℕ) → (c.dies die).out ≡ None
  pub all : is_reported x.phase ≡ true → (c.lanes lane).mark ≡ false → HasGathered x
  pub meta : x.meta ≤ meta_pages c.shape.blocks
  pub writing : (die : ℕ) (holder : Actor) (number : ℕ) (bytes : Page) → (c.dies die).out ≡ Some (record { holder = holder; errand = ToMeta number bytes }) → x.meta < meta_pages c.shape.blocks

-- the die is out for a flush by the lane, of the block's page as it is
pub record IsFlushBy (c : Core) (lane : ℕ) (holder : Actor) (b version : ℕ) : Type 0 where
  pub holder_is : holder ≡ Lane lane
  pub version_is : version ≡ (c.blocks b).version

-- The lane has entered and not left, what its request awaits has ended, no other call is in flight, and no die is out but the one of the
-- actor that acts for the lane; while it is out the lane has no mark.
pub record IsAlone (c : Core) (lane : ℕ) (request : Request) : Type 0 where
  pub within : lane < c.shape.lanes
  pub inside : (c.lanes lane).stage ≡ Inside
  pub awaited : HasAwaited c.lanes request
  pub others : (l : ℕ) → l ≢ lane → c.calls l ≡ None
  pub holder : (die : ℕ) (out : Out) → (c.dies die).out ≡ Some out → out.holder ≡ acting lane (c.calls lane)
  pub clear : (die : ℕ) (out : Out) → (c.dies die).out ≡ Some out → (c.lanes lane).mark ≡ false
  pub flush : (die : ℕ) (holder : Actor) (b version : ℕ) (page : Page) → (c.dies die).out ≡ Some (record { holder = holder; errand = ToFlush b version page }) → IsFlushBy c lane holder b version
  pub call : (x : Flight) → c.calls lane ≡ Some x → IsOnItsWay c lane x

-- every lane has entered and not left, no call is in flight, and all dies are at home
pub record IsAtRest (c : Core) : Type 0 where
  pub inside : (l : ℕ) → l < c.shape.lanes → (c.lanes l).stage ≡ Inside
  pub still : (l : ℕ) → c.calls l ≡ None
  pub home : (die : ℕ) → (c.dies die).out ≡ None

-- a span of 65 pages has room at either side
pub record HasFrames (shape : Shape) : Type 0 where
  pub host : 65 ≤ shape.host_frames
  pub drive : 65 ≤ shape.drive_frames

-- those of an opening core
pub record OpeningFrames (shape : Shape) : Type 0 where
  pub host : shape.host_frames ≡ 256
  pub drive : shape.drive_frames ≡ 128

-- the meta pages of a coherent core have 4,096 bytes
abbrev pub IsEncoding : (Core → ℕ → Page) → Type 0
IsEncoding encode = (c : Core) → Coherent c → (number : ℕ) → number < meta_pages c.shape.blocks → length (encode c number) ≡ 4096

-- the next event is there, and happens
pub record GoesOn (encode : Core → ℕ → Page) (c : Core) (lane : ℕ) (request : Request) : Type 0 where
  pub event : Event
  pub next : IsNext encode lane request c event
  pub happens : Happens c event (after c event)

-- a whole call is there
pub record CallEnds (encode : Core → ℕ → Page) (c : Core) (lane : ℕ) (request : Request) : Type 0 where
  pub events : List Event
  pub call : SoloCall encode c lane request events
  pub run : CoreRun c events (after_all c events)

-- what room takes at most: a step for each copy to go, two for one that goes to the drive first, and two for each flush
abbrev pub room_left : Core → ℕ
room_left c = 2 * length c.host_order + length c.drive_order + 2 * length c.unclean

-- how many dies are out
abbrev pub dies_out : Core → ℕ
dies_out c = sum_to c.shape.dies (λ d. one_if (is_some (c.dies d).out))
