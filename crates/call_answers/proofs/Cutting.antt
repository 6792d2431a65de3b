-- The end of a call that sets a length.
use Rattle.std.proofs.Common.{◌≡◌, ℕ, ◌+◌, ◌-◌, ◌*◌, ◌<◌, ◌≤◌, Bool, true, false, List, [], length, get_or, Option, Some, None, refl, sym, ap, ◌∙◌, subst, ⊎_elim, arith}
use Rattle.std.specs.Prelude.{◌==◌, ◌&&◌, ◌/◌, ◌%◌, nat_lt, not, min, if◌then◌else◌}
use Rattle.std.proofs.lemmas.Bool.Decides.{nat_tests}
use Rattle.page_base.specs.Bytes.{Pages, cleared_from}
use Rattle.plain_files.specs.declared.calls.Call.{Call}
use Rattle.plain_files.specs.declared.calls.Call.TheVariants.{Trunc}
use Rattle.plain_files.specs.declared.calls.Reply.{Reply}
use Rattle.plain_files.specs.declared.calls.Reply.TheVariants.{Done, NoSpace}
use Rattle.plain_files.specs.Plain.{State, Answered, bytes_in, with_content, with_length, reply_alone, effect, answer}
use Rattle.core_state.specs.State.{Page, Exclusive, Reach, Flight, Core}
use Rattle.core_state.specs.Contents.{contents, page_of, span_block}
use Rattle.core_state.specs.Reach as core_reach
use Rattle.core_state.specs.Reach.{is_exclusive, file_word, trunc_reach}
use Rattle.core_state.specs.PlainOf.{plain, has_stored}
use Rattle.core_state.specs.EndEvent.{has_changed}
use Rattle.core_state.specs.Hold.{len_for}
use Rattle.core_state.specs.Coherent.{Coherent}
use Rattle.core_lemmas.proofs.Words.{less_or_not}
use Rattle.span_bytes.specs.Spans.{page_in}
use Rattle.call_answers.specs.Ends.{filled, has_room, EndsAs, Cuts}
use Rattle.call_answers.proofs.Found.{Finds, finds, span_byte}
use Rattle.call_answers.proofs.Wholes.{length_byte, length_long, length_past, cleared_low, cleared_high}
use Rattle.call_answers.proofs.Stored.{stores_or_not, lands}

first_alone : (n len i : ℕ) → i < (trunc_reach n len).pages → i ≡ 0
first_alone n len i l = go (nat_lt n len && not (n % 4096 == 0)) l
  where
    go : (t : Bool) → i < (if t then 1 else 0) → i ≡ 0
    go true k = omega arith
    go false k = absurd (omega arith)

not_stored : (t : Bool) → (t && false) ≡ true → false ≡ true
not_stored true e = e
not_stored false e = e

pub cut_ends : (c : Core) (lane : ℕ) (call : Flight) (name : List ℕ) (n len : ℕ) (reply : Reply) (new_len : ℕ) (old new : List (List ℕ)) → Coherent c → c.calls lane ≡ Some call → call.claim.request.call ≡ Trunc name n → (f : Finds c call.claim name) → len ≡ f.file.len →
    ((i : ℕ) → i < call.claim.reach.pages → page_in old i ≡ page_of (contents c.blocks) (span_block c.places call.claim i)) → ((i : ℕ) (p : Page) → i < call.claim.reach.pages → call.gathered i ≡ Some p → page_in old i ≡ p) →
    Cuts c call n len reply new_len old new → EndsAs c call reply new_len new
cut_ends c lane call name n len reply new_len old new h e is f l gathered back cuts = go (has_room (filled c.names.files) c.shape.blocks len n) refl
  where
    w : file_word call.claim.request.call ≡ Some name
    w = ap file_word is

    file : List ℕ
    file = bytes_in (plain c) name

    reach : call.claim.reach ≡ trunc_reach n f.file.len
    reach = f.reach ∙ ap (λ (k : Call). core_reach.reach_of k f.file.len) is

    answers : (t : Bool) → has_room (filled c.names.files) c.shape.blocks len n ≡ t → answer (plain c) call.claim.request.call ≡ (if t then record { reply = Done; state = with_content (plain c) name (with_length file n) } else reply_alone (plain c) NoSpace)
    answers t q =
        stores_or_not c lane call name (with_length file n) Done h e w (ap (effect (plain c)) is) len f l
        ∙ ap (λ (b : Bool). if b then record { reply = Done; state = with_content (plain c) name (with_length file n) } else reply_alone (plain c) NoSpace) (ap (has_room (filled c.names.files) c.shape.blocks len) (length_long file n) ∙ q)

    bytes : has_room (filled c.names.files) c.shape.blocks len n ≡ true → (i j : ℕ) → i < call.claim.reach.pages → j < 4096 → get_or (page_in new i) j 0 ≡ get_or (with_length file n) (4096 * (call.claim.reach.first + i) + j) 0
    bytes q i j m k =
        let d = cuts.cleared q i m in
        let z : i ≡ 0 = first_alone n f.file.len i (subst (λ (r : Reach). i < r.pages) reach m) in
        let first : call.claim.reach.first ≡ n / 4096 = ap (λ (r : Reach). r.first) reach in
        ap (λ (p : Page). get_or p j 0) d.0
        ∙ ⊎_elim
        (λ (a : j < n % 4096).
        cleared_low (page_in old i) (n % 4096) j d.1 (omega arith) a
        ∙ (span_byte c lane call name (page_in old i) i j h e w (gathered i m) k ∙ sym (length_byte file n (4096 * (call.claim.reach.first + i) + j) (omega arith))))
        (λ (a : n % 4096 ≤ j). cleared_high (page_in old i) (n % 4096) j d.1 (omega arith) a k ∙ sym (length_past file n (4096 * (call.claim.reach.first + i) + j) (omega arith))) (less_or_not j (n % 4096))

    go : (t : Bool) → has_room (filled c.names.files) c.shape.blocks len n ≡ t → EndsAs c call reply new_len new
    go true q =
        let a = answers true q in
        let p = cuts.room q in
        record {
          reply_is = p.0 ∙ sym (ap (λ (x : Answered). x.reply) a);
          stores = λ k. lands c lane call name (with_length file n) new_len new h e w (ap (λ (x : Answered). x.state) a) (p.1 ∙ sym (length_long file n)) (λ i m. (cuts.cleared q i m).2) (bytes q);
          back = λ k i x m g. absurd (let y : is_exclusive call.claim.reach.mode ≡ true = ap (λ (r : Reach). is_exclusive r.mode) reach in
              let z : (is_exclusive call.claim.reach.mode && has_stored reply) ≡ true = ap (λ (r : Reply). is_exclusive call.claim.reach.mode && has_stored r) p.0 ∙ ap (λ (t : Bool). t && true) y in cc);
        }
    go false q =
        let a = answers false q in
        let p = cuts.full q in
        record {
          reply_is = p.0 ∙ sym (ap (λ (x : Answered). x.reply) a);
          stores = λ k. absurd (let z = not_stored (is_exclusive call.claim.reach.mode) (ap (λ (r : Reply). is_exclusive call.claim.reach.mode && has_stored r) (sym p.0) ∙ k) in cc);
          back = λ k i x m g. ap (λ (ps : List (List ℕ)). page_in ps i) p.1 ∙ back i x m g;
        }

pub cuts_end : (c : Core) (lane : ℕ) (call : Flight) (name : List ℕ) (n len : ℕ) (reply : Reply) (new_len : ℕ) (old new : List (List ℕ)) → Coherent c → c.calls lane ≡ Some call → call.claim.request.call ≡ Trunc name n → len ≡ len_for c.names call.claim →
    ((i : ℕ) → i < call.claim.reach.pages → page_in old i ≡ page_of (contents c.blocks) (span_block c.places call.claim i)) → ((i : ℕ) (p : Page) → i < call.claim.reach.pages → call.gathered i ≡ Some p → page_in old i ≡ p) →
    Cuts c call n len reply new_len old new → EndsAs c call reply new_len new
cuts_end c lane call name n len reply new_len old new h e is l =
    let f = finds c lane call name h e (ap file_word is) in
    cut_ends c lane call name n len reply new_len old new h e is f (l ∙ f.len)
