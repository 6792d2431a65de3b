-- The End of a call that stores, and any End.
use Rattle.std.proofs.Common.{◌≡◌, ℕ, Bool, true, false, List, length, Option, Some, refl, sym, ap, ◌∙◌, subst, inl, inr}
use Rattle.std.specs.Prelude.{◌≢◌, map, if◌then◌else◌}
use Rattle.core_hold.specs.Reply.{Reply}
use Rattle.core_hold.specs.Request.{Request}
use Rattle.core_hold.specs.Plain.{bytes_in, answer}
use Rattle.core_hold.specs.Actor.TheVariants.{Lane}
use Rattle.core_hold.specs.State.{Function, File, Reach, Flight, Core}
use Rattle.core_hold.specs.Reach.{function_word}
use Rattle.core_hold.specs.PlainOf.{plain, outcome_of, used_of, fuel_of, bytes_by_id, function_like}
use Rattle.core_hold.specs.Dies.{owner}
use Rattle.core_hold.specs.Coherent.{Coherent}
use Rattle.core_hold.specs.EndEvent.{MayEnd, ended, has_changed, ended_storing, ended_plainly, ended_by_fault, ended_of}
use Rattle.core_hold.proofs.Calls.{end_owned}
use Rattle.core_hold.proofs.CoreLanesPhases.{flight_is}
use Rattle.page_base.specs.Bytes.{Pages}
use Rattle.core_hold.specs.Plain as plain_files
use Rattle.core_hold.specs.Plain.{State, is_overfull, with_content}
use Rattle.core_hold.specs.Words.{EachBehind}
use Rattle.core_hold.specs.Sides.{learnt}
use Rattle.core_hold.specs.Happens.{HoldsNone}
use Rattle.core_hold.proofs.Named.{each_map}
use Rattle.core_hold.proofs.Unchanged.{functions_of}
use Rattle.core_hold.proofs.Stores.{Spans}
use Rattle.core_hold.proofs.Others.{IsStoring, reach_is, new_len}
use Rattle.core_hold.proofs.Changes.{Changes, changes}
use Rattle.core_hold.specs.PageEvents.{flight_at}
use Rattle.core_ends.proofs.Ending as plainly
use Rattle.core_hold.proofs.Storing.{storing_with}
use Rattle.core_stores.proofs.Became.{IsEnding}
use Rattle.core_stores.proofs.Claims.{names_after}
use Rattle.core_stores.proofs.Placing.{places_after}
use Rattle.core_stores.proofs.Storing.{stored_keeps}
use Rattle.core_stores.proofs.Ending.{tails_after}

functions_apart : (c : Core) (call : Flight) (s2 : State) → s2.functions ≡ (plain c).functions → Coherent c → EachBehind (λ (x y : Function). x.name ≢ y.name) (names_after c call s2).functions
functions_apart c call s2 e h =
    let request = call.claim.request.call in
    let used = used_of (outcome_of (plain c) request) (fuel_of request) in
    each_map (λ (x y : Function). x.name ≢ y.name) (learnt (function_word request) used call.claim.reach.pages) (map (function_like c.names.functions) s2.functions)
    (subst (λ (fs : List plain_files.Function). EachBehind (λ (x y : Function). x.name ≢ y.name) (map (function_like c.names.functions) fs)) (sym e)
    (functions_of c.names.functions (λ a b. a ≢ b) c.names.functions h.placed.named.functions_apart))

-- the pages that its file then has
abbrev pub ending_of : (c : Core) (lane : ℕ) (call : Flight) (f : File) (s2 : State) → Coherent c → IsStoring c lane call f s2 → IsEnding c lane call f s2 (Pages (length (bytes_by_id s2 f.id)))
ending_of c lane call f s2 h g = record {
  storing = g;
  spans = subst (λ (r : Reach). Spans r f.len (length g.stored.new)) (sym (reach_is c lane call f s2 h g)) g.stored.spans;
  to_is = ap Pages (new_len c lane call f s2 h g);
}

pub storing_keeps : (c : Core) (lane : ℕ) (call : Flight) (reply : Reply) → Coherent c → c.calls lane ≡ Some call → owner lane call.phase ≡ Some (Lane lane) → HoldsNone c (Lane lane) →
    reply ≡ (answer (plain c) call.claim.request.call).reply → has_changed call reply ≡ true → Coherent (ended_storing c lane call)
storing_keeps c lane call reply h e owns free is changed = go (changes c lane call reply h e is changed)
  where
    s2 : State
    s2 = (answer (plain c) call.claim.request.call).state

    go : Changes c lane call → Coherent (ended_storing c lane call)
    go k =
        let to = Pages (length (bytes_by_id s2 k.file.id)) in
        let g = k.storing in
        let ending = ending_of c lane call k.file s2 h g in
        subst (λ (o : Option File). Coherent (storing_with c lane call s2 o)) (sym g.found)
        (stored_keeps c lane call k.file s2 to h ending g.stored.fits owns free (functions_apart c call s2 (ap (λ (s : State). s.functions) g.stored.state) h)
        (tails_after c lane call k.file s2 to h ending (places_after c lane call k.file s2 h g g.stored.fits to ending.to_is)))

pub end_keeps : (c : Core) (lane : ℕ) (request : Request) (reply : Reply) → Coherent c → HoldsNone c (Lane lane) → MayEnd c lane request reply → Coherent (ended c lane reply)
end_keeps c lane request reply h free may = by (c.lanes lane).mark refl (has_changed (flight_at c.calls lane) reply) refl
  where
    same : flight_at c.calls lane ≡ may.call
    same = flight_is c.calls lane may.call may.flies

    by : (m : Bool) → (c.lanes lane).mark ≡ m → (t : Bool) → has_changed (flight_at c.calls lane) reply ≡ t → Coherent (ended c lane reply)
    by true q t r = plainly.end_keeps c lane request reply h free may (inl q)
    by false q false r = plainly.end_keeps c lane request reply h free may (inr r)
    by false q true r =
        let changed : has_changed may.call reply ≡ true = ap (λ (f : Flight). has_changed f reply) (sym same) ∙ r in
        let keeps = storing_keeps c lane may.call reply h may.flies (end_owned lane may.call may.at_end) free (may.unmarked q).reply_is changed in
        subst (λ (f : Flight). Coherent (ended_of c lane f reply)) (sym same)
        (subst (λ (m : Bool). Coherent (if m then ended_by_fault c lane may.call else (if has_changed may.call reply then ended_storing c lane may.call else ended_plainly c lane may.call))) (sym q)
        (subst (λ (t : Bool). Coherent (if t then ended_storing c lane may.call else ended_plainly c lane may.call)) (sym changed) keeps))
