-- What the code keeps while it holds a transcript against the machine. This project's own.
use Rattle.std.specs.Prelude.{◌≡◌, ◌⊎◌, ⊤, ℕ, List, false, IsTrue, Option, Some, None, slice_get, unwrap_or}
use Rattle.plain_files.specs.declared.calls.Call.{Call}
use Rattle.plain_files.specs.declared.calls.Reply.{Reply}
use Rattle.plain_files.specs.History.{is_excuse}
use Rattle.plain_files.specs.Plain.{State, answer}
use Rattle.history_check.specs.declared.verdict.Verdict.{Verdict}
use Rattle.history_check.specs.declared.verdict.Verdict.TheVariants.{Legal, Differs, Order}
use Rattle.history_check.specs.Replies.{is_same_reply}

-- how many calls of a lane were made; a lane that isn't there has none
abbrev pub count_of : List ℕ → ℕ → ℕ
count_of counts lane = unwrap_or (slice_get counts lane) 0

-- a reply to a call, and the state after it: those of the machine, or an excuse and the state as it was
abbrev pub Moves : State → Call → Reply → State → Type 0
Moves before call reply after =
    ((reply ≡ (answer before call).reply) × (after ≡ (answer before call).state)) ⊎ (IsTrue (is_excuse reply) × (after ≡ before))

-- a reply is no excuse, and another than the machine's
pub record Disagrees (before : State) (call : Call) (reply expected : Reply) : Type 0 where
  pub none : is_excuse reply ≡ false
  pub other : is_same_reply reply expected ≡ false
  pub machine : expected ≡ (answer before call).reply

-- the reply and the state go on, or this other reply was expected
abbrev pub IsHeld : State → Call → Reply → State → Option Reply → Type 0
IsHeld before call reply after None = Moves before call reply after
IsHeld before call reply after (Some expected) = Disagrees before call reply expected

abbrev pub IsLegal : Verdict → Type 0
IsLegal (Legal calls) = ⊤
IsLegal _ = ⊥
