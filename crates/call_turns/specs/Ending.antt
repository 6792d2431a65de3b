-- A `sync` ends over a desk. This project's own.
use Rattle.std.specs.Prelude.{◌≡◌, ℕ, Bool, true, false, if◌then◌else◌, List, [], ◌∷◌, Some}
use Rattle.page_base.specs.Drive.{meta_pages}
use Rattle.plain_files.specs.declared.calls.Numbered.{Numbered}
use Rattle.plain_files.specs.declared.calls.Reply.{Reply}
use Rattle.plain_files.specs.declared.calls.Reply.TheVariants.{Done, Fault}
use Rattle.plain_files.specs.declared.calls.Request.{Request}
use Rattle.core_state.specs.declared.event.Event.{Event}
use Rattle.core_state.specs.declared.event.Event.TheVariants.{End}
use Rattle.core_state.specs.State.{Held, Flight, Core}
use Rattle.core_state.specs.Reach.{is_sync}
use Rattle.page_steps.specs.Words.{IsAnswered}

abbrev pub sync_reply : Bool → Reply
sync_reply fault = if fault then Fault else Done

-- The lane's call is this `sync`, and is held. Its lane has a mark or not, and without one all pages of the meta data are written.
pub record EndsSync (c : Core) (lane : ℕ) (request : Request) (fault : Bool) : Type 0 where
  pub call : Flight
  pub flies : c.calls lane ≡ Some call
  pub held : call.phase ≡ Held
  pub request_is : request ≡ call.claim.request
  pub sync : is_sync request.call ≡ true
  pub mark : (c.lanes lane).mark ≡ fault
  pub all : fault ≡ false → call.meta ≡ meta_pages c.shape.blocks

-- it ended in core c, with this reply and the next number
pub record EndSays (lane : ℕ) (request : Request) (fault : Bool) (n : Numbered) (c : Core) (es : List Event) : Type 0 where
  pub are : es ≡ End lane request n.reply ∷ []
  pub reply_is : n.reply ≡ sync_reply fault
  pub answered : IsAnswered c (End lane request n.reply) lane request.call n
