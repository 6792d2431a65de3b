-- What a call answers that runs a function.
use Rattle.std.proofs.Common.{◌≡◌, Result, Ok, Err, refl, ap}
use Rattle.std.specs.Prelude.{IfOk}
use Rattle.plain_files.specs.declared.calls.Reply.{Reply}
use Rattle.plain_files.specs.Steps.{◌>>=◌}
use Rattle.plain_files.specs.Plain.{State, Answered, RunEnd, or_refusal, reply_alone}
use Rattle.plain_run.specs.Answers.{Gives}

-- the function was done
pub after_end : (s : State) (ran : Result RunEnd Reply) (end : RunEnd) (next : RunEnd → Result Answered Reply) → Ok end ≡ ran → or_refusal s (next end) ≡ or_refusal s (ran >>= next)
after_end s ran end next is = ap (λ (r : Result RunEnd Reply). or_refusal s (r >>= next)) is

-- a trap or spent fuel is the reply
pub after_stop : (s : State) (ran : Result RunEnd Reply) (stop : Reply) (next : RunEnd → Result Answered Reply) → Err stop ≡ ran → reply_alone s stop ≡ or_refusal s (ran >>= next)
after_stop s ran stop next is = ap (λ (r : Result RunEnd Reply). or_refusal s (r >>= next)) is

-- a reply that leaves the state
pub gives_alone : {E : Type 0} → (s : State) (answer : Answered) (result : Result Reply E) → IfOk result (λ reply. reply_alone s reply ≡ answer) → Gives s answer result s
gives_alone s answer (Ok reply) is = (ap (λ (a : Answered). a.reply) is, ap (λ (a : Answered). a.state) is)
gives_alone s answer (Err e) is = refl
