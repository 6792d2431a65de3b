-- A lane's calls one after the other, from its Enter to its Leave, and their log. This project's own.
use Rattle.std.specs.Prelude.{◌≡◌, ◌<◌, ◌+◌, ℕ, List, [], ◌∷◌, ◌++◌, length, Result, Ok, Err, None}
use Rattle.std.specs.declared.snapshot.Snapshot.{Snapshot}
use Rattle.turn_cell.specs.declared.book.Entry as turn_cell
use Rattle.turn_cell.specs.declared.pass.Worn.{Worn}
use Rattle.turn_cell.specs.Events.{events_of}
use Rattle.plain_files.specs.declared.calls.Numbered.{Numbered}
use Rattle.plain_files.specs.declared.calls.Request.{Request}
use Rattle.plain_files.specs.History.{Entry}
use Rattle.core_state.specs.declared.actor.Actor.TheVariants.{Lane}
use Rattle.core_state.specs.declared.event.Event.{Event}
use Rattle.core_state.specs.declared.event.Event.TheVariants.{Enter, Leave}
use Rattle.core_state.specs.State.{Gone, Core}
use Rattle.core_state.specs.Happens.{HoldsNone}
use Rattle.core_state.specs.History.{calls_of}
use Rattle.desk_turns.specs.Making.{AreOf}
use Rattle.desk_turns.specs.Passing.{core_after}
use Rattle.page_steps.specs.Making.{IsFree}
use Rattle.lane_history.specs.Lanes.{requests_in}

-- it is one of the calls that have ended since `last` was drawn, and the number is that of it among them
pub record IsCallOf (last : ℕ) (all : List Entry) (number : ℕ) (entry : Entry) : Type 0 where
  pub before : List Entry
  pub rest : List Entry
  pub split : all ≡ before ++ entry ∷ rest
  pub number_is : number ≡ last + length before + 1

-- The log has the replies of these calls in their order, each with the number that it has among all calls that have ended since `last` was
-- drawn. The numbers rise from above the floor.
abbrev pub AreLogged : ℕ → List Entry → ℕ → List Numbered → List Entry → Type 0
AreLogged last all floor [] [] = Unit {0}
AreLogged last all floor [] (e ∷ es) = ⊥
AreLogged last all floor (n ∷ ns) [] = ⊥
AreLogged last all floor (n ∷ ns) (e ∷ es) = (n.reply ≡ e.reply) × (floor < n.number) × IsCallOf last all n.number e × AreLogged last all n.number ns es

-- the lane ended the first of these requests, in order
abbrev pub EndsFirst : ℕ → List Request → List Event → Type 0
EndsFirst lane requests es = (rest : List Request) × (requests ≡ requests_in lane es ++ rest)

module _ {S : Type 0} (core : S → Core) (last : ℕ) where
  -- by these events the lane ended these requests, and can begin a call; of the history that its pass has seen
  pub record HasCalled (o : Snapshot S) (h : List (turn_cell.Entry Event)) (lane : ℕ) (requests : List Request) (log : List Numbered) (es : List Event) : Type 0 where
    pub of : AreOf (Lane lane) es
    pub asked : requests_in lane es ≡ requests
    pub logged : AreLogged last (calls_of (events_of h)) last log (calls_of es)
    pub after : IsFree (core_after core o h) lane

  -- The lane entered, ended these requests in their order, and left; the log has their replies. It holds no die.
  pub record HasRun (o : Snapshot S) (h : List (turn_cell.Entry Event)) (lane : ℕ) (requests : List Request) (log : List Numbered) (es : List Event) : Type 0 where
    pub middle : List Event
    pub are : es ≡ Enter lane ∷ middle ++ Leave lane ∷ []
    pub of : AreOf (Lane lane) es
    pub asked : requests_in lane es ≡ requests
    pub logged : AreLogged last (calls_of (events_of h)) last log (calls_of es)
    pub gone : ((core_after core o h).lanes lane).stage ≡ Gone
    pub idle : (core_after core o h).calls lane ≡ None
    pub none : HoldsNone (core_after core o h) (Lane lane)

  -- what the calls of a lane come to, and their events
  abbrev pub CallsSay : Snapshot S → List (turn_cell.Entry Event) → ℕ → List Request → List Numbered → Result (Unit {0}) Worn → List Event → Type 0
  CallsSay o h lane requests log (Ok x) es = HasCalled o h lane requests log es
  CallsSay o h lane requests log (Err x) es = AreOf (Lane lane) es × EndsFirst lane requests es

  -- what a lane comes to, and its events
  abbrev pub LaneSays : Snapshot S → List (turn_cell.Entry Event) → ℕ → List Request → List Numbered → Result (Unit {0}) Worn → List Event → Type 0
  LaneSays o h lane requests log (Ok x) es = HasRun o h lane requests log es
  LaneSays o h lane requests log (Err x) es = AreOf (Lane lane) es × EndsFirst lane requests es
