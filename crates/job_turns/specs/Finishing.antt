-- A call ends over a desk, with what its job gives. This project's own.
use Rattle.std.specs.Prelude.{◌≡◌, ℕ, List, [], ◌∷◌}
use Rattle.plain_files.specs.declared.calls.Numbered.{Numbered}
use Rattle.plain_files.specs.declared.calls.Request.{Request}
use Rattle.core_state.specs.declared.event.Event.{Event}
use Rattle.core_state.specs.declared.event.Event.TheVariants.{End}
use Rattle.core_state.specs.State.{Core}
use Rattle.system_ends.specs.Landed.{reply_at}
use Rattle.job_events.specs.Words.{IsAnswered}

-- the call of the lane ended in core c: with the reply that it has there, and with the next number
pub record EndSays (lane : ℕ) (request : Request) (n : Numbered) (c : Core) (es : List Event) : Type 0 where
  pub are : es ≡ End lane request n.reply ∷ []
  pub reply_is : n.reply ≡ reply_at c lane request
  pub answered : IsAnswered c (End lane request n.reply) lane request.call n
