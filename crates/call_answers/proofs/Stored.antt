-- What a call stores, page by page.
use Rattle.std.proofs.Common.{◌≡◌, ℕ, ◌+◌, ◌-◌, ◌*◌, ◌<◌, ◌≤◌, Bool, true, false, List, [], length, get_or, Option, Some, None, refl, sym, ap, ◌∙◌, subst, ⊎_elim, arith, unwrap_or}
use Rattle.std.specs.Prelude.{◌==◌, ◌&&◌, ◌/◌, ◌%◌, nat_le, nat_lt, not, min, if◌then◌else◌, Result, Ok}
use Rattle.std.proofs.lemmas.Bool.Decides.{nat_tests}
use Rattle.page_base.specs.Bytes.{Pages, Put, zero_page}
use Rattle.plain_files.specs.declared.calls.Call.{Call}
use Rattle.plain_files.specs.declared.calls.Reply.{Reply}
use Rattle.plain_files.specs.declared.calls.Reply.TheVariants.{NoSpace}
use Rattle.plain_files.specs.Steps.{◌>>=◌, refuse}
use Rattle.plain_files.specs.Plain.{State, Answered, bytes_in, is_overfull, with_content, stored, reply_alone, effect, or_refusal, answer}
use Rattle.core_state.specs.State.{Page, Exclusive, Reach, Claim, Flight, Core}
use Rattle.core_state.specs.Contents.{contents, page_of, span_block}
use Rattle.core_state.specs.Reach.{is_exclusive, file_word, no_reach, write_reach, covers}
use Rattle.core_state.specs.PlainOf.{plain, has_stored, bytes_by_id, page_at}
use Rattle.core_state.specs.EndEvent.{has_changed}
use Rattle.core_state.specs.Hold.{len_for}
use Rattle.core_state.specs.Coherent.{Coherent}
use Rattle.core_lemmas.proofs.Words.{less_or_not}
use Rattle.span_bytes.specs.Spans.{page_in, over}
use Rattle.span_bytes.proofs.Pointwise.{in_over}
use Rattle.call_answers.specs.Ends.{filled, put_length, has_room, Lands, EndsAs, Puts}
use Rattle.call_answers.proofs.Found.{Finds, finds, span_byte, answer_is, overfull_is, new_found}
use Rattle.call_answers.proofs.Wholes.{is_page, put_byte, put_long, over_moved}

-- ---- the answer

stored_by : (s : State) (name new : List ℕ) (reply : Reply) (room : Bool) → is_overfull (with_content s name new) ≡ not room →
    or_refusal s (stored s name new reply) ≡ (if room then record { reply = reply; state = with_content s name new } else reply_alone s NoSpace)
stored_by s name new reply room e =
    ap (λ (t : Bool). or_refusal s (refuse t NoSpace >>= (λ x. Ok (record { reply = reply; state = with_content s name new })))) e ∙ go room
  where
    go : (t : Bool) → or_refusal s (refuse (not t) NoSpace >>= (λ x. Ok (record { reply = reply; state = with_content s name new }))) ≡ (if t then record { reply = reply; state = with_content s name new } else reply_alone s NoSpace)
    go true = refl
    go false = refl

-- of a call that stores new bytes where they fit
pub stores_or_not : (c : Core) (lane : ℕ) (call : Flight) (name new : List ℕ) (reply : Reply) → Coherent c → c.calls lane ≡ Some call → file_word call.claim.request.call ≡ Some name → effect (plain c) call.claim.request.call ≡ stored (plain c) name new reply → (len : ℕ) → (f : Finds c call.claim name) → len ≡ f.file.len →
    answer (plain c) call.claim.request.call ≡ (if has_room (filled c.names.files) c.shape.blocks len (length new) then record { reply = reply; state = with_content (plain c) name new } else reply_alone (plain c) NoSpace)
stores_or_not c lane call name new reply h e w is len f l =
    answer_is c lane call h e
    ∙ (ap (or_refusal (plain c)) is
    ∙ stored_by (plain c) name new reply (has_room (filled c.names.files) c.shape.blocks len (length new))
    (overfull_is c call.claim name new f ∙ ap (λ (k : ℕ). not (has_room (filled c.names.files) c.shape.blocks k (length new))) (sym l)))

-- ---- the pages

pub lands : (c : Core) (lane : ℕ) (call : Flight) (name new : List ℕ) (len : ℕ) (pages : List (List ℕ)) → Coherent c → c.calls lane ≡ Some call → file_word call.claim.request.call ≡ Some name → (answer (plain c) call.claim.request.call).state ≡ with_content (plain c) name new → len ≡ length new →
    ((i : ℕ) → i < call.claim.reach.pages → length (page_in pages i) ≡ 4096) → ((i j : ℕ) → i < call.claim.reach.pages → j < 4096 → get_or (page_in pages i) j 0 ≡ get_or new (4096 * (call.claim.reach.first + i) + j) 0) → Lands c call len pages
lands c lane call name new len pages h e w state l whole bytes =
    let is : bytes_by_id (answer (plain c) call.claim.request.call).state call.claim.file ≡ new = ap (λ (s : State). bytes_by_id s call.claim.file) state ∙ new_found c lane call name new h e w in
    record {
      len_is = l ∙ ap length (sym is);
      pages_are = λ i k. is_page new (page_in pages i) (call.claim.reach.first + i) (whole i k) (λ j m. bytes i j k m) ∙ ap (λ (b : List ℕ). page_at b (call.claim.reach.first + i)) (sym is);
    }

both : (a b : Bool) → (a && b) ≡ true → (a ≡ true) × (b ≡ true)
both true true e = (refl, refl)
both true false e = absurd (cc)
both false b e = absurd (cc)

at_most : (m n : ℕ) → nat_le m n ≡ true → m ≤ n
at_most m n e = grind (arith, nat_tests)

-- of bytes that are put
pub put_pages : (c : Core) (lane : ℕ) (call : Flight) (name bytes : List ℕ) (off len : ℕ) (old new : List (List ℕ)) → Coherent c → c.calls lane ≡ Some call → file_word call.claim.request.call ≡ Some name → call.claim.reach ≡ write_reach off (length bytes) len →
    ((i : ℕ) → i < call.claim.reach.pages → covers call.claim.reach (call.claim.reach.first + i) ≡ false → page_in old i ≡ page_of (contents c.blocks) (span_block c.places call.claim i)) →
    ((i j : ℕ) → i < call.claim.reach.pages → j < 4096 → get_or (page_in new i) j 0 ≡ over (off % 4096) bytes (4096 * i + j) (get_or (page_in old i) j 0)) →
    (i j : ℕ) → i < call.claim.reach.pages → j < 4096 → get_or (page_in new i) j 0 ≡ get_or (Put (bytes_in (plain c) name) off bytes) (4096 * (call.claim.reach.first + i) + j) 0
put_pages c lane call name bytes off len old new h e w reach gathered patched i j l m =
    patched i j l m ∙ (inner (covers call.claim.reach (call.claim.reach.first + i)) refl ∙ (sym (over_moved (off % 4096) off (4096 * call.claim.reach.first) (4096 * i + j) (get_or file q 0) bytes base)
    ∙ (ap (λ (k : ℕ). over off bytes k (get_or file q 0)) shift ∙ sym (put_byte file bytes off q))))
  where
    file : List ℕ
    file = bytes_in (plain c) name

    q : ℕ
    q = 4096 * (call.claim.reach.first + i) + j

    r : Bool → Reach
    r z = if z then no_reach else record { mode = Exclusive; from = if nat_lt len (off + length bytes) then min (off / 4096) (len / 4096) else off / 4096; to = Pages (off + length bytes); first = off / 4096; pages = Pages (off + length bytes) - off / 4096; begin = off; end = off + length bytes }

    full : (z : Bool) → (length bytes == 0) ≡ z → call.claim.reach ≡ r z → (call.claim.reach.first ≡ off / 4096) × (call.claim.reach.begin ≡ off) × (call.claim.reach.end ≡ off + length bytes)
    full true z s = absurd (let p = ap (λ (x : Reach). x.pages) s in omega arith)
    full false z s = (ap (λ (x : Reach). x.first) s, ap (λ (x : Reach). x.begin) s, ap (λ (x : Reach). x.end) s)

    there : (call.claim.reach.first ≡ off / 4096) × (call.claim.reach.begin ≡ off) × (call.claim.reach.end ≡ off + length bytes)
    there = full (length bytes == 0) refl reach

    base : off ≡ 4096 * call.claim.reach.first + off % 4096
    base = let a = there.0 in omega arith

    shift : 4096 * call.claim.reach.first + (4096 * i + j) ≡ q
    shift = omega arith

    inner : (t : Bool) → covers call.claim.reach (call.claim.reach.first + i) ≡ t → over (off % 4096) bytes (4096 * i + j) (get_or (page_in old i) j 0) ≡ over (off % 4096) bytes (4096 * i + j) (get_or file q 0)
    inner false t = ap (over (off % 4096) bytes (4096 * i + j)) (span_byte c lane call name (page_in old i) i j h e w (gathered i l t) m)
    inner true t =
        let k = both (nat_le call.claim.reach.begin (4096 * (call.claim.reach.first + i))) (nat_le (4096 * (call.claim.reach.first + i + 1)) call.claim.reach.end) t in
        let a = at_most call.claim.reach.begin (4096 * (call.claim.reach.first + i)) k.0 in
        let b = at_most (4096 * (call.claim.reach.first + i + 1)) call.claim.reach.end k.1 in
        let d = there in
        let s = base in
        in_over (off % 4096) (4096 * i + j) (get_or (page_in old i) j 0) bytes (omega arith) (omega arith) ∙ sym (in_over (off % 4096) (4096 * i + j) (get_or file q 0) bytes (omega arith) (omega arith))

-- ---- the end of a call that puts bytes

shared_none : (call : Flight) (reply : Reply) → has_stored reply ≡ false → has_changed call reply ≡ true → ⊥
shared_none call reply s e = go (is_exclusive call.claim.reach.mode) (ap (λ (t : Bool). is_exclusive call.claim.reach.mode && t) (sym s) ∙ e)
  where
    go : (t : Bool) → (t && false) ≡ true → ⊥
    go true f = cc
    go false f = cc

shared_pages : (r : Reach) (off n len : ℕ) → r ≡ write_reach off n len → is_exclusive r.mode ≡ false → r.pages ≡ 0
shared_pages r off n len e m = go (n == 0) e
  where
    w : Bool → Reach
    w z = if z then no_reach else record { mode = Exclusive; from = if nat_lt len (off + n) then min (off / 4096) (len / 4096) else off / 4096; to = Pages (off + n); first = off / 4096; pages = Pages (off + n) - off / 4096; begin = off; end = off + n }

    go : (z : Bool) → r ≡ w z → r.pages ≡ 0
    go true s = ap (λ (x : Reach). x.pages) s
    go false s = absurd (let k : is_exclusive r.mode ≡ true = ap (λ (x : Reach). is_exclusive x.mode) s in cc)

pub put_ends : (c : Core) (lane : ℕ) (call : Flight) (name bytes : List ℕ) (off len : ℕ) (done reply : Reply) (new_len : ℕ) (old new : List (List ℕ)) → Coherent c → c.calls lane ≡ Some call → file_word call.claim.request.call ≡ Some name → (f : Finds c call.claim name) → len ≡ f.file.len →
    effect (plain c) call.claim.request.call ≡ stored (plain c) name (Put (bytes_in (plain c) name) off bytes) done → has_stored done ≡ true → call.claim.reach ≡ write_reach off (length bytes) len →
    ((i : ℕ) → i < call.claim.reach.pages → covers call.claim.reach (call.claim.reach.first + i) ≡ false → page_in old i ≡ page_of (contents c.blocks) (span_block c.places call.claim i)) →
    ((i : ℕ) (p : Page) → i < call.claim.reach.pages → call.gathered i ≡ Some p → page_in old i ≡ p) →
    Puts c call bytes off len done reply new_len old new → EndsAs c call reply new_len new
put_ends c lane call name bytes off len done reply new_len old new h e w f l is stores reach gathered back puts = go (has_room (filled c.names.files) c.shape.blocks len (put_length len off (length bytes))) refl
  where
    file : List ℕ
    file = bytes_in (plain c) name

    long : length (Put file off bytes) ≡ put_length len off (length bytes)
    long = put_long file bytes off ∙ ap (λ (k : ℕ). put_length k off (length bytes)) (f.long ∙ sym l)

    answers : (t : Bool) → has_room (filled c.names.files) c.shape.blocks len (put_length len off (length bytes)) ≡ t → answer (plain c) call.claim.request.call ≡ (if t then record { reply = done; state = with_content (plain c) name (Put file off bytes) } else reply_alone (plain c) NoSpace)
    answers t q =
        stores_or_not c lane call name (Put file off bytes) done h e w is len f l
        ∙ ap (λ (b : Bool). if b then record { reply = done; state = with_content (plain c) name (Put file off bytes) } else reply_alone (plain c) NoSpace) (ap (has_room (filled c.names.files) c.shape.blocks len) long ∙ q)

    go : (t : Bool) → has_room (filled c.names.files) c.shape.blocks len (put_length len off (length bytes)) ≡ t → EndsAs c call reply new_len new
    go true q =
        let a = answers true q in
        let p = puts.room q in
        record {
          reply_is = p.0 ∙ sym (ap (λ (x : Answered). x.reply) a);
          stores = λ k. lands c lane call name (Put file off bytes) new_len new h e w (ap (λ (x : Answered). x.state) a) (p.1 ∙ sym long) (puts.whole q)
              (put_pages c lane call name bytes off len old new h e w reach gathered (puts.bytes_are q));
          back = λ k i x m g. absurd (none i m (shared_pages call.claim.reach off (length bytes) len reach (unstored (is_exclusive call.claim.reach.mode) (ap (λ (r : Reply). is_exclusive call.claim.reach.mode && has_stored r) (sym p.0) ∙ k))));
        }
      where
        none : (i : ℕ) → i < call.claim.reach.pages → call.claim.reach.pages ≡ 0 → ⊥
        none i m z = omega arith

        unstored : (t : Bool) → (t && has_stored done) ≡ false → t ≡ false
        unstored true k = absurd (cc)
        unstored false k = refl
    go false q =
        let a = answers false q in
        let p = puts.full q in
        record {
          reply_is = p.0 ∙ sym (ap (λ (x : Answered). x.reply) a);
          stores = λ k. absurd (shared_none call reply (ap has_stored p.0) k);
          back = λ k i x m g. ap (λ (ps : List (List ℕ)). page_in ps i) p.1 ∙ back i x m g;
        }

pub puts_end : (c : Core) (lane : ℕ) (call : Flight) (name bytes : List ℕ) (off len : ℕ) (done reply : Reply) (new_len : ℕ) (old new : List (List ℕ)) → Coherent c → c.calls lane ≡ Some call → file_word call.claim.request.call ≡ Some name → len ≡ len_for c.names call.claim →
    effect (plain c) call.claim.request.call ≡ stored (plain c) name (Put (bytes_in (plain c) name) off bytes) done → has_stored done ≡ true → call.claim.reach ≡ write_reach off (length bytes) len →
    ((i : ℕ) → i < call.claim.reach.pages → covers call.claim.reach (call.claim.reach.first + i) ≡ false → page_in old i ≡ page_of (contents c.blocks) (span_block c.places call.claim i)) →
    ((i : ℕ) (p : Page) → i < call.claim.reach.pages → call.gathered i ≡ Some p → page_in old i ≡ p) →
    Puts c call bytes off len done reply new_len old new → EndsAs c call reply new_len new
puts_end c lane call name bytes off len done reply new_len old new h e w l =
    let f = finds c lane call name h e w in
    put_ends c lane call name bytes off len done reply new_len old new h e w f (l ∙ f.len)
