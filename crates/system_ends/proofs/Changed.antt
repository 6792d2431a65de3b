-- Whether a call that ends has stored something, by its row.
use Rattle.std.proofs.Common.{◌≡◌, ℕ, Bool, true, false, List, [], get_or, Option, Some, None, refl, sym, ap, ◌∙◌, inl, inr}
use Rattle.std.specs.Prelude.{◌⊎◌, ◌&&◌, unwrap_or}
use Rattle.plain_files.specs.declared.calls.Reply.{Reply}
use Rattle.core_state.specs.State.{Page}
use Rattle.core_state.specs.Reach.{is_exclusive}
use Rattle.core_state.specs.PlainOf.{has_stored}
use Rattle.core_state.specs.PageEvents.{flight_at, no_flight}
use Rattle.core_state.specs.EndEvent.{has_changed}
use Rattle.system_state.specs.Cores.{flight_of, calls_of}
use Rattle.system_state.specs.declared.lanes.Call.{Call}
use Rattle.system_ends.specs.Landed.{exclusive_row, stored_row}

parts : (m e s : Bool) → stored_row m e s ≡ true → (m ≡ false) × ((e && s) ≡ true)
parts true e s q = absurd (cc)
parts false true true q = (refl, refl)
parts false true false q = absurd (cc)
parts false false s q = absurd (cc)

not_parts : (m e s : Bool) → stored_row m e s ≡ false → (m ≡ true) ⊎ ((e && s) ≡ false)
not_parts true e s q = inl refl
not_parts false true true q = absurd (cc)
not_parts false true false q = inr refl
not_parts false false true q = inr refl
not_parts false false false q = inr refl

exclusive_is : (o : Option Call) (gathered : List (Option Page)) → exclusive_row o ≡ is_exclusive (unwrap_or (flight_of o gathered) no_flight).claim.reach.mode
exclusive_is None gathered = refl
exclusive_is (Some x) gathered = refl

changed_is : (calls : List (Option Call)) (gathered : List (List (Option Page))) (lane : ℕ) (reply : Reply) → (exclusive_row (get_or calls lane None) && has_stored reply) ≡ has_changed (flight_at (calls_of calls gathered) lane) reply
changed_is calls gathered lane reply = ap (λ (t : Bool). t && has_stored reply) (exclusive_is (get_or calls lane None) (get_or gathered lane []))

-- by its row a call has stored, and then it has
pub has_stored_so : (calls : List (Option Call)) (gathered : List (List (Option Page))) (lane : ℕ) (reply : Reply) (m : Bool) → stored_row m (exclusive_row (get_or calls lane None)) (has_stored reply) ≡ true →
    (m ≡ false) × (has_changed (flight_at (calls_of calls gathered) lane) reply ≡ true)
has_stored_so calls gathered lane reply m q = let p = parts m (exclusive_row (get_or calls lane None)) (has_stored reply) q in (p.0, sym (changed_is calls gathered lane reply) ∙ p.1)

-- or it hasn't
pub stored_nothing : (calls : List (Option Call)) (gathered : List (List (Option Page))) (lane : ℕ) (reply : Reply) (m : Bool) → stored_row m (exclusive_row (get_or calls lane None)) (has_stored reply) ≡ false →
    (m ≡ true) ⊎ (has_changed (flight_at (calls_of calls gathered) lane) reply ≡ false)
stored_nothing calls gathered lane reply m q = go (not_parts m (exclusive_row (get_or calls lane None)) (has_stored reply) q)
  where
    go : (m ≡ true) ⊎ ((exclusive_row (get_or calls lane None) && has_stored reply) ≡ false) → (m ≡ true) ⊎ (has_changed (flight_at (calls_of calls gathered) lane) reply ≡ false)
    go (inl e) = inl e
    go (inr e) = inr (sym (changed_is calls gathered lane reply) ∙ e)
