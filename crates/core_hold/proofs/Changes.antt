-- A call that ends and has changed something stores new bytes of its file.
use Rattle.std.proofs.Common.{◌≡◌, ℕ, Bool, true, false, List, [], length, Option, Some, None, refl, sym, ap, ◌∙◌, subst}
use Rattle.std.specs.Prelude.{◌&&◌, option_map, unwrap_or}
use Rattle.core_quick.specs.Call.{Call}
use Rattle.core_quick.specs.Call.TheVariants.{Create, OpenFile, Stat, Remove, Read, Write, Append, Trunc, Seal, Load, Unload, Readl, Writel, Sync}
use Rattle.core_quick.specs.PlainFile.{PlainFile}
use Rattle.core_quick.specs.Reply.{Reply}
use Rattle.core_quick.specs.Plain.{bytes_in, answer}
use Rattle.core_quick.specs.State.{File, Mode, Shared, Exclusive, Reach, Claim, Flight, Core}
use Rattle.core_quick.specs.Contents.{contents}
use Rattle.core_quick.specs.Reach.{is_exclusive, file_word, file_by, file_for, len_or_none, reach_of}
use Rattle.core_quick.specs.PlainOf.{plain_file, file_page, plain, has_stored}
use Rattle.core_quick.specs.InFlight.{claim_of, IsRight}
use Rattle.core_quick.specs.Coherent.{Coherent}
use Rattle.core_quick.specs.EndEvent.{has_changed}
use Rattle.core_quick.proofs.Views.{file_seen}
use Rattle.core_quick.proofs.Seen.{length_bytes}
use Rattle.core_quick.proofs.Flying.{flies_on}
use Rattle.core_hold.proofs.Stores.{IsStored, answer_stored}
use Rattle.core_hold.proofs.Others.{IsStoring}

both : (t u : Bool) → (t && u) ≡ true → (t ≡ true) × (u ≡ true)
both true true e = (refl, refl)
both true false e = absurd (cc)
both false u e = absurd (cc)

exclusive_is : (m : Mode) → is_exclusive m ≡ true → m ≡ Exclusive
exclusive_is Shared e = absurd (cc)
exclusive_is Exclusive e = refl

none_word : {A : Type 0} {x : A} → Some x ≡ None → ⊥
none_word e = cc

-- a call with an exclusive reach is about a file
no_word : (call : Call) (len : ℕ) → file_word call ≡ None → is_exclusive (reach_of call len).mode ≡ true → ⊥
no_word (Create name) len e m = cc
no_word (OpenFile name) len e m = cc
no_word (Stat name) len e m = cc
no_word (Remove name) len e m = cc
no_word (Read name off n) len e m = none_word e
no_word (Write name off bytes) len e m = none_word e
no_word (Append name bytes) len e m = none_word e
no_word (Trunc name n) len e m = none_word e
no_word (Seal name) len e m = cc
no_word (Load name bytes) len e m = cc
no_word (Unload name) len e m = cc
no_word (Readl file off n function fuel cap param) len e m = none_word e
no_word (Writel file off n function fuel param input) len e m = none_word e
no_word Sync len e m = cc

-- the bytes of the file that a call finds are as long as it is
bytes_long : (c : Core) (name : List ℕ) (f : File) → file_by c.names.files (Some name) ≡ Some f → length (bytes_in (plain c) name) ≡ f.len
bytes_long c name f e =
    ap (λ (o : Option PlainFile). length (unwrap_or o (record { id = 0; name = name; bytes = []; sealed = false })).bytes)
    (file_seen c.shape c.names c.places (contents c.blocks) name ∙ ap (option_map (plain_file c.places (contents c.blocks))) e)
    ∙ length_bytes f.len (file_page c.places (contents c.blocks) f.id)

-- its file, and what it stores
pub record Changes (c : Core) (lane : ℕ) (call : Flight) : Type 0 where
  pub file : File
  pub storing : IsStoring c lane call file (answer (plain c) call.claim.request.call).state

pub changes : (c : Core) (lane : ℕ) (call : Flight) (reply : Reply) → Coherent c → c.calls lane ≡ Some call → reply ≡ (answer (plain c) call.claim.request.call).reply → has_changed call reply ≡ true → Changes c lane call
changes c lane call reply h e is changed = go (file_word call.claim.request.call) refl
  where
    right : IsRight c.names (plain c) call.claim
    right = h.in_flight.right lane call.claim (ap claim_of e)

    parts : (is_exclusive call.claim.reach.mode ≡ true) × (has_stored reply ≡ true)
    parts = both (is_exclusive call.claim.reach.mode) (has_stored reply) changed

    reach : call.claim.reach ≡ reach_of call.claim.request.call (len_or_none (file_for c.names.files call.claim.request.call))
    reach = ap (λ (k : Claim). k.reach) right.same

    go : (word : Option (List ℕ)) → file_word call.claim.request.call ≡ word → Changes c lane call
    go None w = absurd (no_word call.claim.request.call (len_or_none (file_for c.names.files call.claim.request.call)) w (ap (λ (r : Reach). is_exclusive r.mode) (sym reach) ∙ parts.0))
    go (Some name) w =
        let fly = flies_on c lane call.claim name h (ap claim_of e) w in
        let f = fly.file in
        let found : file_for c.names.files call.claim.request.call ≡ Some f = ap (file_by c.names.files) w ∙ fly.found in
        let long = bytes_long c name f fly.found in
        let stored = answer_stored (plain c) call.claim.request.call name right.not_early w
        (subst (λ (k : ℕ). is_exclusive (reach_of call.claim.request.call k).mode ≡ true) (sym long)
        (ap (λ (r : Reach). is_exclusive r.mode) (ap (λ (o : Option File). reach_of call.claim.request.call (len_or_none o)) (sym found) ∙ sym reach) ∙ parts.0))
        (ap has_stored (sym is) ∙ parts.1) in
        record {
          file = f;
          storing = record {
            flies = e;
            found = found;
            mode = exclusive_is call.claim.reach.mode parts.0;
            stored = subst (λ (k : ℕ). IsStored (plain c) (answer (plain c) call.claim.request.call).state call.claim.request.call k) long stored;
          };
        }
