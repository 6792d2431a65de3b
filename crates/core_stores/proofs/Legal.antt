-- Each event moves the plain state as the call that it ends, if it ends one.
use Rattle.std.proofs.Common.{◌≡◌, ℕ, Bool, true, false, [], ◌∷◌, refl, sym, ap, ◌∙◌, subst, inl, inr}
use Rattle.std.specs.Prelude.{if◌then◌else◌, IsTrue}
use Rattle.core_hold.specs.Reply.{Reply}
use Rattle.core_hold.specs.Reply.TheVariants.{Fault, NoMemory}
use Rattle.core_hold.specs.Request.{Request}
use Rattle.core_hold.specs.PlainFilesHistory.{Legal, is_excuse}
use Rattle.core_hold.specs.Plain.{State, answer}
use Rattle.core_hold.specs.Event.{Event}
use Rattle.core_hold.specs.Event.TheVariants.{Enter, Leave, Quick, Skip, Begin, Copy, Take, DieOut, FillIn, Submit, Fetch, Report, End, Evict, Demote, FlushOut, FlushIn, MetaIn}
use Rattle.core_hold.specs.State.{Core}
use Rattle.core_hold.specs.PlainOf.{plain}
use Rattle.core_hold.specs.Coherent.{Coherent}
use Rattle.core_hold.specs.Happens.{Happens}
use Rattle.core_hold.specs.History.{calls_of}
use Rattle.core_ends.proofs.Plains.{plain_stays}
use Rattle.core_hold.proofs.CoreQuickMoves.{quick_moves}
use Rattle.core_ends.proofs.Ending.{end_stays}
use Rattle.core_stores.proofs.Moving.{event_moves}

excused : (reply : Reply) → reply ≡ Fault → IsTrue (is_excuse reply)
excused reply e = subst (λ (r : Reply). IsTrue (is_excuse r)) (sym e) refl

end_legal : (c : Core) (lane : ℕ) (request : Request) (reply : Reply) (c2 : Core) → Coherent c → Happens c (End lane request reply) c2 → Legal (plain c) (record { lane = lane; call = request.call; reply = reply } ∷ []) (plain c2)
end_legal c lane request reply c2 h s = go (c.lanes lane).mark refl
  where
    go : (m : Bool) → (c.lanes lane).mark ≡ m → Legal (plain c) (record { lane = lane; call = request.call; reply = reply } ∷ []) (plain c2)
    go true e = inr (excused reply (s.may.marked e), sym (ap plain s.leaves ∙ end_stays c lane request reply h s.may (inl e)))
    go false e =
        let same : request ≡ s.may.call.claim.request = s.may.request_is in
        inl ((s.may.unmarked e).reply_is ∙ ap (λ (r : Request). (answer (plain c) r.call).reply) (sym same), sym (ap plain s.leaves ∙ event_moves c lane request reply h s.may e))

skip_legal : (c : Core) (lane : ℕ) (request : Request) (fault : Bool) → Legal (plain c) (record { lane = lane; call = request.call; reply = if fault then Fault else NoMemory } ∷ []) (plain c)
skip_legal c lane request true = inr (refl, refl)
skip_legal c lane request false = inr (refl, refl)

pub event_legal : (c c2 : Core) (e : Event) → Coherent c → Happens c e c2 → Legal (plain c) (calls_of (e ∷ [])) (plain c2)
event_legal c c2 (Enter lane) h s = sym (plain_stays c c2 (Enter lane) h s refl)
event_legal c c2 (Leave lane) h s = sym (plain_stays c c2 (Leave lane) h s refl)
event_legal c c2 (Quick lane request reply) h s = inl (s.may.reply_is, sym (ap plain s.leaves ∙ quick_moves c lane request.call h s.may.kind))
event_legal c c2 (Skip lane request fault) h s = subst (λ (p : State). Legal (plain c) (record { lane = lane; call = request.call; reply = if fault then Fault else NoMemory } ∷ []) p) (sym (ap plain s.leaves)) (skip_legal c lane request fault)
event_legal c c2 (Begin lane request side) h s = sym (plain_stays c c2 (Begin lane request side) h s refl)
event_legal c c2 (Copy actor lane i) h s = sym (plain_stays c c2 (Copy actor lane i) h s refl)
event_legal c c2 (Take actor lane i) h s = sym (plain_stays c c2 (Take actor lane i) h s refl)
event_legal c c2 (DieOut actor die purpose) h s = sym (plain_stays c c2 (DieOut actor die purpose) h s refl)
event_legal c c2 (FillIn actor die good) h s = sym (plain_stays c c2 (FillIn actor die good) h s refl)
event_legal c c2 (Submit lane) h s = sym (plain_stays c c2 (Submit lane) h s refl)
event_legal c c2 (Fetch worker lane) h s = sym (plain_stays c c2 (Fetch worker lane) h s refl)
event_legal c c2 (Report worker lane) h s = sym (plain_stays c c2 (Report worker lane) h s refl)
event_legal c c2 (End lane request reply) h s = end_legal c lane request reply c2 h s
event_legal c c2 (Evict actor side block) h s = sym (plain_stays c c2 (Evict actor side block) h s refl)
event_legal c c2 (Demote actor block) h s = sym (plain_stays c c2 (Demote actor block) h s refl)
event_legal c c2 (FlushOut actor die block) h s = sym (plain_stays c c2 (FlushOut actor die block) h s refl)
event_legal c c2 (FlushIn actor die good left) h s = sym (plain_stays c c2 (FlushIn actor die good left) h s refl)
event_legal c c2 (MetaIn actor die good left) h s = sym (plain_stays c c2 (MetaIn actor die good left) h s refl)
