-- The End of a call that stores nothing.
use Rattle.std.proofs.Common.{◌≡◌, ℕ, Bool, true, false, Some, sym, subst, ⊎_elim}
use Rattle.std.specs.Prelude.{◌≢◌, ◌⊎◌, if◌then◌else◌}
use Rattle.core_quick.specs.Reply.{Reply}
use Rattle.core_quick.specs.Request.{Request}
use Rattle.core_quick.specs.Actor.TheVariants.{Lane}
use Rattle.core_quick.specs.State.{Function, Flight, Core}
use Rattle.core_quick.specs.Reach.{function_word}
use Rattle.core_quick.specs.PlainOf.{plain, outcome_of, used_of, fuel_of}
use Rattle.core_quick.specs.Sides.{learnt}
use Rattle.core_quick.specs.Coherent.{Coherent}
use Rattle.core_quick.specs.EndEvent.{IsAtEnd, learnt_by, has_changed, ended_of, ended_storing, ended_plainly, ended_by_fault, ended, MayEnd}
use Rattle.core_quick.specs.Happens.{HoldsNone}
use Rattle.core_quick.proofs.Calls.{end_owned}
use Rattle.core_quick.proofs.Phases.{flight_is}
use Rattle.core_quick.proofs.Named.{each_map}
use Rattle.core_ends.specs.Stores.{StoresNothing}
use Rattle.core_ends.proofs.Plainly.{same_names, learnt_names, returned_plain, plainly_keeps}

fault_keeps : (c : Core) (lane : ℕ) (call : Flight) → Coherent c → c.calls lane ≡ Some call → IsAtEnd call → HoldsNone c (Lane lane) → Coherent (ended_by_fault c lane call)
fault_keeps c lane call h e at free = plainly_keeps c lane call c.names h e (end_owned lane call at) free (same_names c.names) h.placed.named.functions_apart

plain_keeps : (c : Core) (lane : ℕ) (call : Flight) → Coherent c → c.calls lane ≡ Some call → IsAtEnd call → HoldsNone c (Lane lane) → Coherent (ended_plainly c lane call)
plain_keeps c lane call h e at free =
    let request = call.claim.request.call in
    let used = used_of (outcome_of (plain c) request) (fuel_of request) in
    plainly_keeps c lane call (learnt_by (plain c) call.claim c.names) h e (end_owned lane call at) free (learnt_names request used call.claim.reach.pages c.names)
    (each_map (λ (f g : Function). f.name ≢ g.name) (learnt (function_word request) used call.claim.reach.pages) c.names.functions h.placed.named.functions_apart)

-- pages go back, and the plain state stays
pub fault_plain : (c : Core) (lane : ℕ) (call : Flight) → Coherent c → plain (ended_by_fault c lane call) ≡ plain c
fault_plain c lane call h = returned_plain c lane call c.names h (same_names c.names)

pub plainly_plain : (c : Core) (lane : ℕ) (call : Flight) → Coherent c → plain (ended_plainly c lane call) ≡ plain c
plainly_plain c lane call h =
    let request = call.claim.request.call in
    returned_plain c lane call (learnt_by (plain c) call.claim c.names) h (learnt_names request (used_of (outcome_of (plain c) request) (fuel_of request)) call.claim.reach.pages c.names)

-- what holds of both ways to end so, holds of the End
stores_nothing : (P : Core → Type 0) (c : Core) (lane : ℕ) (request : Request) (reply : Reply) → (may : MayEnd c lane request reply) → StoresNothing c lane reply → P (ended_by_fault c lane may.call) → P (ended_plainly c lane may.call) → P (ended c lane reply)
stores_nothing P c lane request reply may nothing fault plainly =
    let same = flight_is c.calls lane may.call may.flies in
    subst (λ (f : Flight). P (ended_of c lane f reply)) (sym same)
    (go (c.lanes lane).mark (has_changed may.call reply) (subst (λ (f : Flight). ((c.lanes lane).mark ≡ true) ⊎ (has_changed f reply ≡ false)) same nothing))
  where
    go : (m t : Bool) → (m ≡ true) ⊎ (t ≡ false) → P (if m then ended_by_fault c lane may.call else (if t then ended_storing c lane may.call else ended_plainly c lane may.call))
    go true t n = fault
    go false true n = ⊎_elim (λ a. absurd (cc)) (λ b. absurd (cc)) n
    go false false n = plainly

pub end_stays : (c : Core) (lane : ℕ) (request : Request) (reply : Reply) → Coherent c → MayEnd c lane request reply → StoresNothing c lane reply → plain (ended c lane reply) ≡ plain c
end_stays c lane request reply h may nothing = stores_nothing (λ (d : Core). plain d ≡ plain c) c lane request reply may nothing (fault_plain c lane may.call h) (plainly_plain c lane may.call h)

pub end_keeps : (c : Core) (lane : ℕ) (request : Request) (reply : Reply) → Coherent c → HoldsNone c (Lane lane) → MayEnd c lane request reply → StoresNothing c lane reply → Coherent (ended c lane reply)
end_keeps c lane request reply h free may nothing =
    stores_nothing Coherent c lane request reply may nothing (fault_keeps c lane may.call h may.flies may.at_end free) (plain_keeps c lane may.call h may.flies may.at_end free)
