-- The end of a call that puts bytes.
use Rattle.std.proofs.Common.{◌≡◌, ℕ, ◌+◌, ◌-◌, ◌*◌, ◌<◌, ◌≤◌, Bool, true, false, List, length, get_or, Option, Some, None, refl, sym, ap, ◌∙◌, subst, ⊎_elim, arith}
use Rattle.std.specs.Prelude.{◌==◌, ◌/◌, ◌%◌, ◌^◌, nat_lt, not, min, is_some, if◌then◌else◌}
use Rattle.std.proofs.lemmas.Bool.Decides.{nat_tests}
use Rattle.page_base.specs.Bytes.{Pages, Put}
use Rattle.plain_files.specs.declared.calls.Call.{Call}
use Rattle.plain_files.specs.declared.calls.Call.TheVariants.{Write, Append}
use Rattle.plain_files.specs.declared.calls.Reply.{Reply}
use Rattle.plain_files.specs.declared.calls.Reply.TheVariants.{Done, At}
use Rattle.plain_files.specs.declared.calls.Request.{Request}
use Rattle.plain_files.specs.Plain.{is_long, is_too_long, bytes_in, effect, stored}
use Rattle.core_state.specs.State.{Exclusive, Flight, Core, Reach as CoreReach}
use Rattle.core_state.specs.Reach as core_reach
use Rattle.core_state.specs.Reach.{file_word, is_exclusive, no_reach, write_reach, covers, gathers}
use Rattle.core_state.specs.PlainOf.{plain}
use Rattle.core_state.specs.Hold.{len_for}
use Rattle.core_state.specs.Coherent.{Coherent}
use Rattle.core_state.specs.LaneEvents.{HasGathered}
use Rattle.core_lemmas.proofs.Words.{less_or_not}
use Rattle.system_state.specs.Cores.{reach_of}
use Rattle.system_state.specs.Jobs.{view_of}
use Rattle.span_bytes.specs.Spans.{page_in, over}
use Rattle.call_answers.specs.Ends.{filled, put_length, has_room, EndsAs, Puts}
use Rattle.call_answers.proofs.Found.{finds}
use Rattle.call_answers.proofs.Stored.{put_ends}
use Rattle.call_job.specs.Puts.{puts_bytes, stored_reply, stored_len}
use Rattle.call_job.specs.Suits.{IsReady, Suits}
use Rattle.call_job.specs.declared.job.Job.{Job}
use Rattle.call_job.proofs.Executed.{pool_has}
use Rattle.call_job.proofs.Endings.{span_pages}

long_of : (n : ℕ) → is_long n ≡ false → n ≤ 262144
long_of n e = grind (arith, nat_tests)

-- what a put asks of its job
pub record Asked (job : Job) (off : ℕ) (bytes : List ℕ) : Type 0 where
  pub pages : job.reach.pages ≤ length job.pages.items
  pub low : 0 < length bytes → off + length bytes ≤ 2 ^ 28
  pub short : length bytes ≤ 262144

pub ends_low : (job : Job) (r : IsReady job) (off n len : ℕ) → reach_of job.reach ≡ write_reach off n len → 0 < n → off + n ≤ 2 ^ 28
ends_low job r off n len e l = go (n == 0) refl e
  where
    w : Bool → CoreReach
    w z = if z then no_reach else record { mode = Exclusive; from = if nat_lt len (off + n) then min (off / 4096) (len / 4096) else off / 4096; to = Pages (off + n); first = off / 4096; pages = Pages (off + n) - off / 4096; begin = off; end = off + n }

    go : (z : Bool) → (n == 0) ≡ z → reach_of job.reach ≡ w z → off + n ≤ 2 ^ 28
    go true z s = absurd (let k : n ≡ 0 = grind (arith, nat_tests) in omega arith)
    go false z s =
        let a = r.low (ap (λ (x : CoreReach). is_exclusive x.mode) s) in
        let b : job.reach.end ≡ off + n = ap (λ (x : CoreReach). x.end) s in
        omega arith

begins : (r : CoreReach) (off n len : ℕ) → r ≡ write_reach off n len → 0 < n → r.begin ≡ off
begins r off n len e l = go (n == 0) refl e
  where
    w : Bool → CoreReach
    w z = if z then no_reach else record { mode = Exclusive; from = if nat_lt len (off + n) then min (off / 4096) (len / 4096) else off / 4096; to = Pages (off + n); first = off / 4096; pages = Pages (off + n) - off / 4096; begin = off; end = off + n }

    go : (z : Bool) → (n == 0) ≡ z → r ≡ w z → r.begin ≡ off
    go true z s = absurd (let k : n ≡ 0 = grind (arith, nat_tests) in omega arith)
    go false z s = ap (λ (x : CoreReach). x.begin) s

pub write_asks : (job : Job) (name bytes : List ℕ) (off : ℕ) → job.request.call ≡ Write name off bytes → IsReady job → Asked job off bytes
write_asks job name bytes off is r = record {
  pages = pool_has job r;
  low = λ l. ends_low job r off (length bytes) r.len (r.reach ∙ ap (λ (k : Call). core_reach.reach_of k r.len) is) l;
  short = long_of (length bytes) (ap is_too_long (sym is) ∙ r.short);
}

pub append_asks : (job : Job) (name bytes : List ℕ) (off : ℕ) → job.request.call ≡ Append name bytes → (0 < length bytes → off ≡ job.reach.begin) → IsReady job → Asked job off bytes
append_asks job name bytes off is at r =
    let reach : reach_of job.reach ≡ write_reach r.len (length bytes) r.len = r.reach ∙ ap (λ (k : Call). core_reach.reach_of k r.len) is in
    record {
      pages = pool_has job r;
      low = λ l. let e = ends_low job r r.len (length bytes) r.len reach l in let b : job.reach.begin ≡ r.len = begins (reach_of job.reach) r.len (length bytes) r.len reach l in let a = at l in omega arith;
      short = long_of (length bytes) (ap is_too_long (sym is) ∙ r.short);
    }

-- ---- what a put has done

pub record Did (job : Job) (off len filled capacity : ℕ) (bytes : List ℕ) (result : Option ℕ) (new : List (List ℕ)) : Type 0 where
  pub answer : result ≡ (if has_room filled capacity len (put_length len off (length bytes)) then Some (put_length len off (length bytes)) else None)
  pub none : result ≡ None → new ≡ job.pages.items
  pub bytes_are : is_some result ≡ true → (i j : ℕ) → i < job.reach.pages → j < 4096 → get_or (page_in new i) j 0 ≡ over (off % 4096) bytes (4096 * i + j) (get_or (page_in job.pages.items i) j 0)
  pub whole : is_some result ≡ true → (i : ℕ) → i < job.reach.pages → length (page_in new i) ≡ 4096

pub puts_of : (c : Core) (call : Flight) (job : Job) (off len fill capacity : ℕ) (bytes : List ℕ) (result : Option ℕ) (done : Reply) (new : List (List ℕ)) → Suits job (view_of c.names call) → fill ≡ filled c.names.files → capacity ≡ c.shape.blocks → Did job off len fill capacity bytes result new →
    Puts c call bytes off len done (stored_reply result done) (stored_len result len) job.pages.items new
puts_of c call job off len fill capacity bytes result done new s f k d = record {
  room = λ t. let e = is true t in (ap (λ (o : Option ℕ). stored_reply o done) e, ap (λ (o : Option ℕ). stored_len o len) e);
  full = λ t. let e = is false t in (ap (λ (o : Option ℕ). stored_reply o done) e, d.none e);
  bytes_are = λ t i j l m. d.bytes_are (ap is_some (is true t)) i j (fewer i l) m;
  whole = λ t i l. d.whole (ap is_some (is true t)) i (fewer i l);
}
  where
    is : (t : Bool) → has_room (filled c.names.files) c.shape.blocks len (put_length len off (length bytes)) ≡ t → result ≡ (if t then Some (put_length len off (length bytes)) else None)
    is t e =
        d.answer
        ∙ ap (λ (b : Bool). if b then Some (put_length len off (length bytes)) else None)
        (ap (λ (n : ℕ). has_room n capacity len (put_length len off (length bytes))) f ∙ (ap (λ (n : ℕ). has_room (filled c.names.files) n len (put_length len off (length bytes))) k ∙ e))

    fewer : (i : ℕ) → i < call.claim.reach.pages → i < job.reach.pages
    fewer i l = let e : job.reach.pages ≡ call.claim.reach.pages = ap (λ (r : CoreReach). r.pages) s.reach in omega arith

open_page : (t : Bool) → t ≡ false → not t ≡ true
open_page true e = absurd (cc)
open_page false e = refl

pub write_ends : (c : Core) (lane : ℕ) (call : Flight) (job : Job) (name bytes : List ℕ) (off len fill capacity : ℕ) (result : Option ℕ) (new : List (List ℕ)) → job.request.call ≡ Write name off bytes → Did job off len fill capacity bytes result new → Coherent c → c.calls lane ≡ Some call → HasGathered call → Suits job (view_of c.names call) →
    len ≡ len_for c.names call.claim → fill ≡ filled c.names.files → capacity ≡ c.shape.blocks → EndsAs c call (stored_reply result Done) (stored_len result len) new
write_ends c lane call job name bytes off len fill capacity result new is d h e all s l fl cap =
    let q : call.claim.request.call ≡ Write name off bytes = ap (λ (x : Request). x.call) (sym s.request) ∙ is in
    let w : file_word call.claim.request.call ≡ Some name = ap file_word q in
    let f = finds c lane call name h e w in
    put_ends c lane call name bytes off len Done (stored_reply result Done) (stored_len result len) job.pages.items new h e w f (l ∙ f.len) (ap (effect (plain c)) q) refl
    (f.reach ∙ (ap (λ (k : Call). core_reach.reach_of k f.file.len) q ∙ ap (λ (n : ℕ). write_reach off (length bytes) n) (sym (l ∙ f.len))))
    (λ i m t. span_pages c lane call job i h e all s m (ap (λ (k : Call). gathers k call.claim.reach i) q ∙ open_page (covers call.claim.reach (call.claim.reach.first + i)) t)) s.gathered
    (puts_of c call job off len fill capacity bytes result Done new s fl cap d)

pub append_ends : (c : Core) (lane : ℕ) (call : Flight) (job : Job) (name bytes : List ℕ) (off len fill capacity : ℕ) (result : Option ℕ) (new : List (List ℕ)) → job.request.call ≡ Append name bytes → (0 < length bytes → off ≡ job.reach.begin) → (length bytes ≡ 0 → off ≡ len) → Did job off len fill capacity bytes result new → Coherent c → c.calls lane ≡ Some call → HasGathered call →
    Suits job (view_of c.names call) → len ≡ len_for c.names call.claim → fill ≡ filled c.names.files → capacity ≡ c.shape.blocks → EndsAs c call (stored_reply result (At off)) (stored_len result len) new
append_ends c lane call job name bytes off len fill capacity result new is some none d h e all s l fl cap =
    let q : call.claim.request.call ≡ Append name bytes = ap (λ (x : Request). x.call) (sym s.request) ∙ is in
    let w : file_word call.claim.request.call ≡ Some name = ap file_word q in
    let f = finds c lane call name h e w in
    let long : len ≡ f.file.len = l ∙ f.len in
    let reach : call.claim.reach ≡ write_reach f.file.len (length bytes) f.file.len = f.reach ∙ ap (λ (k : Call). core_reach.reach_of k f.file.len) q in
    let at : off ≡ len = place off len (length bytes)
    (λ m. some m ∙ (ap (λ (r : CoreReach). r.begin) s.reach ∙ (begins call.claim.reach f.file.len (length bytes) f.file.len reach m ∙ sym long))) none in
    let at2 : off ≡ length (bytes_in (plain c) name) = at ∙ (long ∙ sym f.long) in
    put_ends c lane call name bytes off len (At off) (stored_reply result (At off)) (stored_len result len) job.pages.items new h e w f long
    (ap (effect (plain c)) q ∙ ap (λ (n : ℕ). stored (plain c) name (Put (bytes_in (plain c) name) n bytes) (At n)) (sym at2)) refl
    (reach ∙ (ap (λ (n : ℕ). write_reach n (length bytes) f.file.len) (sym (at ∙ long)) ∙ ap (λ (n : ℕ). write_reach off (length bytes) n) (sym long)))
    (λ i m t. span_pages c lane call job i h e all s m (ap (λ (k : Call). gathers k call.claim.reach i) q ∙ open_page (covers call.claim.reach (call.claim.reach.first + i)) t)) s.gathered
    (puts_of c call job off len fill capacity bytes result (At off) new s fl cap d)
  where
    place : (off len n : ℕ) → (0 < n → off ≡ len) → (n ≡ 0 → off ≡ len) → off ≡ len
    place off len n a b = ⊎_elim (λ (z : n < 1). b (omega arith)) (λ (p : 1 ≤ n). a (omega arith)) (less_or_not n 1)

pub ends_by : (c : Core) (call : Flight) (reply reply2 : Reply) (len len2 : ℕ) (pages pages2 : List (List ℕ)) → EndsAs c call reply len pages → reply2 ≡ reply → len2 ≡ len → pages2 ≡ pages → EndsAs c call reply2 len2 pages2
ends_by c call reply reply2 len len2 pages pages2 e r l p =
    subst (λ (x : Reply). EndsAs c call x len2 pages2) (sym r) (subst (λ (x : ℕ). EndsAs c call reply x pages2) (sym l) (subst (EndsAs c call reply len) (sym p) e))

-- only those put bytes
pub put_only : (call : Call) → puts_bytes call ≡ true → ((name : List ℕ) (off : ℕ) (bytes : List ℕ) → call ≡ Write name off bytes → ⊥) → ((name bytes : List ℕ) → call ≡ Append name bytes → ⊥) → ⊥
put_only (Write name off bytes) l a b = a name off bytes refl
put_only (Append name bytes) l a b = b name bytes refl
put_only call l a b = cc
