-- What holds of a system of a drive that was just mounted: a run may begin over it, of one thread or of many.
use Rattle.std.proofs.Common.{◌≡◌, List, [], ◌∷◌, length, refl, sym, ap, ◌∙◌, subst, arith, Result, Ok, Err, IfOk}
use Rattle.turn_cell.specs.declared.book.Entry.{Entry}
use Rattle.turn_cell.specs.Events.{events_of}
use Rattle.flash_die.specs.Dies.{DieView}
use Rattle.dispatcher.specs.declared.side.Place.{Place}
use Rattle.image_format.specs.declared.meta.Meta.{Meta}
use Rattle.script_words.specs.declared.script.Script.{Script}
use Rattle.command_words.specs.declared.options.DieKind.{DieKind}
use Rattle.core_state.specs.declared.event.Event.{Event}
use Rattle.core_state.specs.State.{Page, Core}
use Rattle.core_state.specs.Coherent.{Coherent}
use Rattle.core_state.specs.History.{counts_from, counts_of}
use Rattle.crews.specs.Seats.{IsUntouched}
use Rattle.system_state.specs.Jobs.{JobView}
use Rattle.system_state.specs.Cores.{core_of}
use Rattle.system_state.specs.Made.{counts_in}
use Rattle.system_state.specs.Stands.{Stands}
use Rattle.system_state.specs.declared.state.Places.{Places}
use Rattle.system_state.specs.declared.state.State.{State}
use Rattle.settling.specs.Words.{IsSmall}
use Rattle.solo_runs.specs.Lines.{script_of}
use Rattle.solo_runs.specs.Run.{MayRun}
use Rattle.drive_runs.specs.Opened.{HasOpened}
use Rattle.drive_runs.proofs.Orders.{same_count}

-- what follows of a value of which three things are known, or four
pub on_three : {X E : Type 0} {P Q R S : X → Type 0} (r : Result X E) → ((x : X) → P x → Q x → R x → S x) → IfOk r P → IfOk r Q → IfOk r R → IfOk r S
on_three (Ok x) f p q r = f x p q r
on_three (Err e) f p q r = p

pub on_four : {X E : Type 0} {P Q R S T : X → Type 0} (r : Result X E) → ((x : X) → P x → Q x → R x → S x → T x) → IfOk r P → IfOk r Q → IfOk r R → IfOk r S → IfOk r T
on_four (Ok x) f p q r s = f x p q r s
on_four (Err e) f p q r s = p

-- and of one of which nothing need be known
pub on_any : {X E : Type 0} {P : X → Type 0} (r : Result X E) → ((x : X) → P x) → IfOk r P
on_any (Ok x) f = f x
on_any (Err e) f = tt

module _ {D J : Type 0} (seen : D → DieView) (suits : J → JobView → Type 0) (kind : DieKind) (meta : Meta) (pages : List Page) (script : Script) (place : Place) (s : State D J) (k : HasOpened seen suits kind meta pages script place s) where
  pub last_is : s.last ≡ 0
  last_is = ap (λ (c : Core). c.last) k.core

  pub small : IsSmall s
  small = record {
    last = let e = last_is in omega arith;
    host = let e = ap (λ (p : Places). p.host) k.counts in omega arith;
    drive = let e = ap (λ (p : Places). p.drive) k.counts in omega arith;
    reads = let e = ap (λ (p : Places). p.reads) k.counts in omega arith;
    writes = let e = ap (λ (p : Places). p.writes) k.counts in omega arith;
    versions = λ b l. let e = ap (λ (c : Core). (c.blocks b).version) k.core in omega arith;
  }

  pub wide : (core_of seen s).shape.lanes ≡ length script.lanes
  wide = ap (λ (c : Core). c.shape.lanes) k.core

  pub may_run : MayRun (script_of script) (core_of seen s)
  may_run = subst (λ (c : Core). MayRun (script_of script) c) (sym k.core) (record {
    coherent = subst (λ (c : Core). Coherent c) k.core k.stands.coherent;
    frames = record { host = refl; drive = refl };
    wide = same_count script;
    new = λ l. refl;
    fresh = record { still = λ l. refl; home = λ d. refl; closer = omega arith };
    closer = refl;
  })

  pub untouched : IsUntouched (core_of seen s)
  untouched = subst (λ (c : Core). IsUntouched c) (sym k.core) (record {
    coherent = subst (λ (c : Core). Coherent c) k.core k.stands.coherent;
    outside = λ l w. refl;
    unmarked = λ l. refl;
    ended = λ l. refl;
    idle = λ l. refl;
    home = λ d. refl;
    closer = refl;
  })

  -- what a state counts that stands for a history from there
  pub counted : (t : State D J) (h : List (Entry Event)) → Stands seen suits t s h → counts_in t.places ≡ counts_of (events_of h)
  counted t h stands = stands.places ∙ ap (λ (p : Places). counts_from (counts_in p) (events_of h)) k.counts

-- as many events as entries
pub events_long : (h : List (Entry Event)) → length (events_of h) ≡ length h
events_long [] = refl
events_long (x ∷ xs) = let e = events_long xs in omega arith
