-- End: the kinds of it.
use Rattle.std.proofs.Common.{◌≡◌, ℕ, Bool, true, false, Some, refl, sym, ap, ◌∙◌, subst}
use Rattle.std.specs.Prelude.{◌≢◌, if◌then◌else◌}
use Rattle.core_quick.specs.Reply.{Reply}
use Rattle.core_quick.specs.Request.{Request}
use Rattle.core_quick.specs.Plain.{answer}
use Rattle.core_quick.specs.Actor.{Actor}
use Rattle.core_quick.specs.Actor.TheVariants.{Lane}
use Rattle.core_quick.specs.Event.TheVariants.{End}
use Rattle.core_quick.specs.State.{Flight, Core}
use Rattle.core_quick.specs.PlainOf.{plain}
use Rattle.core_quick.specs.Dies.{owner}
use Rattle.core_quick.specs.Coherent.{Coherent}
use Rattle.core_quick.specs.EndEvent.{has_changed, ended_storing, ended_plainly, ended_by_fault, ended_of, EndsWell}
use Rattle.core_quick.specs.Hold.{hold}
use Rattle.core_quick.proofs.Calls.{end_owned}
use Rattle.core_quick.proofs.Phases.{flight_is}
use Rattle.core_hold.specs.Keeps.{KeepsHolds}
use Rattle.core_hold.proofs.Endings.{plainly_holds, fault_holds}
use Rattle.core_hold.proofs.Storing.{storing_holds}
use Rattle.core_hold.proofs.Changes.{changes}

storing_same : (c : Core) (lane : ℕ) (call : Flight) (reply : Reply) (a : Actor) → Coherent c → c.calls lane ≡ Some call → owner lane call.phase ≡ Some (Lane lane) → a ≢ Lane lane →
    reply ≡ (answer (plain c) call.claim.request.call).reply → has_changed call reply ≡ true → hold (ended_storing c lane call) a ≡ hold c a
storing_same c lane call reply a h e owns n is changed =
    let k = changes c lane call reply h e is changed in
    storing_holds c lane call k.file (answer (plain c) call.claim.request.call).state a h k.storing owns n

end_of_call : (c : Core) (lane : ℕ) (call : Flight) (reply : Reply) (a : Actor) → Coherent c → c.calls lane ≡ Some call → owner lane call.phase ≡ Some (Lane lane) → a ≢ Lane lane →
    ((c.lanes lane).mark ≡ false → EndsWell c call reply) → hold (ended_of c lane call reply) a ≡ hold c a
end_of_call c lane call reply a h e owns n well = go (c.lanes lane).mark refl (has_changed call reply) refl
  where
    go : (m : Bool) → (c.lanes lane).mark ≡ m → (t : Bool) → has_changed call reply ≡ t →
        hold (if m then ended_by_fault c lane call else (if t then ended_storing c lane call else ended_plainly c lane call)) a ≡ hold c a
    go true q t r = fault_holds c lane call a h e owns n
    go false q true r = storing_same c lane call reply a h e owns n (well q).reply_is r
    go false q false r = plainly_holds c lane call a h e owns n

pub end_holds : (lane : ℕ) (request : Request) (reply : Reply) → KeepsHolds (End lane request reply)
end_holds lane request reply c c2 a h s n =
    ap (λ (k : Core). hold k a) s.leaves
    ∙ subst (λ (f : Flight). hold (ended_of c lane f reply) a ≡ hold c a) (sym (flight_is c.calls lane s.may.call s.may.flies))
    (end_of_call c lane s.may.call reply a h s.may.flies (end_owned lane s.may.call s.may.at_end) n s.may.unmarked)
