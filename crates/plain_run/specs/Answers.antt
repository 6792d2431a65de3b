-- How a call of the machine in code gives what its definition answers. This project's own.
use Rattle.std.specs.Prelude.{◌≡◌, Result, Ok, Err}
use Rattle.plain_files.specs.declared.calls.Reply.{Reply}
use Rattle.plain_files.specs.Plain.{State, Answered}

-- the reply and the state are those of the answer; want of memory left the state
abbrev pub Gives : {E : Type 0} → State → Answered → Result Reply E → State → Type 0
Gives old answer (Ok reply) new = (reply ≡ answer.reply) × (new ≡ answer.state)
Gives old answer (Err e) new = new ≡ old
