-- What a call in flight finds in its file: the bytes of its span are those of its pages, and new bytes of its file are found again.
use Rattle.std.proofs.Common.{◌≡◌, ℕ, ◌+◌, ◌-◌, ◌*◌, ◌<◌, ◌≤◌, Bool, true, false, List, [], length, get_or, Option, Some, None, refl, sym, ap, ◌∙◌, subst, ⊎_elim, arith, unwrap_or}
use Rattle.std.specs.Prelude.{◌⊎◌, ◌==◌, ◌/◌, ◌%◌, nat_lt, nat_le, not, min, is_some, option_map, bytes_eq, sum_by, if◌then◌else◌}
use Rattle.std.specs.List.{Contains, find}
use Rattle.std.proofs.lemmas.List.{get_or_past}
use Rattle.std.proofs.lemmas.Bool.Decides.{nat_tests}
use Rattle.page_base.specs.Bytes.{Pages, Cut, zero_page}
use Rattle.plain_files.specs.declared.calls.Call.{Call}
use Rattle.plain_files.specs.declared.calls.PlainFile.{PlainFile}
use Rattle.plain_files.specs.declared.calls.Reply.{Reply}
use Rattle.plain_files.specs.Plain.{State, is_file, file_of, bytes_in, pages_of, is_overfull, with_content, early, effect, or_refusal, answer_after, answer}
use Rattle.core_state.specs.Words.{from_fn, EachBehind}
use Rattle.core_state.specs.State.{Page, File, Reach, Claim, Flight, Core}
use Rattle.core_state.specs.Contents.{contents, page_of, span_block}
use Rattle.core_state.specs.Reach.{file_word, file_by, len_or_none, reach_of}
use Rattle.core_state.specs.PlainOf.{file_bytes, file_page, plain_file, plain, bytes_by_id, bytes_or_none}
use Rattle.core_state.specs.Hold.{len_for}
use Rattle.core_state.specs.InFlight.{claim_of}
use Rattle.core_state.specs.Coherent.{Coherent}
use Rattle.core_lemmas.proofs.Words.{less_or_not, low, high}
use Rattle.core_lemmas.proofs.Views.{file_seen}
use Rattle.core_lemmas.proofs.Spans.{file_in}
use Rattle.core_quick.proofs.Flying.{FliesOn, flies_on}
use Rattle.core_lemmas.proofs.Finds.{found_passes}
use Rattle.core_quick.proofs.Named.{in_map, one_of_id}
use Rattle.core_quick.proofs.Seen.{length_bytes}
use Rattle.core_outcomes.proofs.Bytes.{get_fn}
use Rattle.core_outcomes.proofs.Outcomes.{AreSpan}
use Rattle.core_hold.proofs.Others.{changing, found_by_id}
use Rattle.core_stores.proofs.Named.{sum_changed, sum_seen}
use Rattle.call_answers.specs.Ends.{filled}

-- ---- the file of a call in flight

pub record Finds (c : Core) (claim : Claim) (name : List ℕ) : Type 0 where
  pub file : File
  pub found : file_by c.names.files (Some name) ≡ Some file
  pub id : claim.file ≡ file.id
  pub bytes : bytes_in (plain c) name ≡ file_bytes file.len (file_page c.places (contents c.blocks) file.id)
  pub long : length (bytes_in (plain c) name) ≡ file.len
  pub reach : claim.reach ≡ reach_of claim.request.call file.len
  pub len : len_for c.names claim ≡ file.len

pub finds : (c : Core) (lane : ℕ) (call : Flight) (name : List ℕ) → Coherent c → c.calls lane ≡ Some call → file_word call.claim.request.call ≡ Some name → Finds c call.claim name
finds c lane call name h e w =
    let at = flies_on c lane call.claim name h (ap claim_of e) w in
    let page = file_page c.places (contents c.blocks) at.file.id in
    let bytes : bytes_in (plain c) name ≡ file_bytes at.file.len page =
    ap (λ (o : Option PlainFile). (unwrap_or o (record { id = 0; name = name; bytes = []; sealed = false })).bytes) (file_seen c.shape c.names c.places (contents c.blocks) name ∙ ap (option_map (plain_file c.places (contents c.blocks))) at.found) in
    let by : file_by c.names.files (file_word call.claim.request.call) ≡ Some at.file = ap (file_by c.names.files) w ∙ at.found in
    record {
      file = at.file;
      found = at.found;
      id = at.id;
      bytes = bytes;
      long = ap length bytes ∙ length_bytes at.file.len page;
      reach = ap (λ (k : Claim). k.reach) (h.in_flight.right lane call.claim (ap claim_of e)).same ∙ ap (λ (o : Option File). reach_of call.claim.request.call (len_or_none o)) by;
      len = ap len_or_none by;
    }

-- a byte of a page of the span is the file's; past its end both are zeros
pub span_byte : (c : Core) (lane : ℕ) (call : Flight) (name : List ℕ) (page : Page) (i j : ℕ) → Coherent c → c.calls lane ≡ Some call → file_word call.claim.request.call ≡ Some name → page ≡ page_of (contents c.blocks) (span_block c.places call.claim i) → j < 4096 →
    get_or page j 0 ≡ get_or (bytes_in (plain c) name) (4096 * (call.claim.reach.first + i) + j) 0
span_byte c lane call name page i j h e w is l =
    ap (λ (p : Page). get_or p j 0) (is ∙ ap (λ (id : ℕ). page_of (contents c.blocks) (c.places id (call.claim.reach.first + i))) f.id) ∙ (at ∙ sym (ap (λ (b : List ℕ). get_or b q 0) f.bytes))
  where
    f : Finds c call.claim name
    f = finds c lane call name h e w

    q : ℕ
    q = 4096 * (call.claim.reach.first + i) + j

    page2 : ℕ → Page
    page2 = file_page c.places (contents c.blocks) f.file.id

    at : get_or (page2 (call.claim.reach.first + i)) j 0 ≡ get_or (file_bytes f.file.len page2) q 0
    at =
        let p : call.claim.reach.first + i ≡ q / 4096 = omega arith in
        let r : j ≡ q % 4096 = omega arith in
        ⊎_elim
        (λ (k : q < f.file.len).
        ap (λ (n : ℕ). get_or (page2 n) j 0) p ∙ (ap (λ (n : ℕ). get_or (page2 (q / 4096)) n 0) r ∙ sym (get_fn f.file.len (λ (n : ℕ). get_or (page2 (n / 4096)) (n % 4096) 0) q k)))
        (λ (k : f.file.len ≤ q).
        h.tails f.file (file_in c.names.files (Some name) f.file f.found) (call.claim.reach.first + i) j l k
        ∙ sym (get_or_past (file_bytes f.file.len page2) q 0 (let z = length_bytes f.file.len page2 in omega arith)))
        (less_or_not q f.file.len)

-- ---- Answer, where nothing refuses the call early

pub answer_is : (c : Core) (lane : ℕ) (call : Flight) → Coherent c → c.calls lane ≡ Some call → answer (plain c) call.claim.request.call ≡ or_refusal (plain c) (effect (plain c) call.claim.request.call)
answer_is c lane call h e = ap (λ (o : Option Reply). answer_after o (plain c) call.claim.request.call) (h.in_flight.right lane call.claim (ap claim_of e)).not_early

-- ---- all files' pages

over_test : (most pages old sum : ℕ) → pages + old ≡ sum → nat_lt most pages ≡ not (nat_le sum (most + old))
over_test most pages old sum e = go (nat_lt most pages) (nat_le sum (most + old)) refl refl
  where
    go : (t u : Bool) → nat_lt most pages ≡ t → nat_le sum (most + old) ≡ u → t ≡ not u
    go true true f g = absurd (let x : most < pages = grind (arith, nat_tests) in let y : sum ≤ most + old = grind (arith, nat_tests) in omega arith)
    go true false f g = refl
    go false true f g = refl
    go false false f g = absurd (let x : pages ≤ most = grind (arith, nat_tests) in let y : most + old < sum = grind (arith, nat_tests) in omega arith)

-- they are too many exactly where the new pages of the file don't fit
pub overfull_is : (c : Core) (claim : Claim) (name new : List ℕ) (f : Finds c claim name) → is_overfull (with_content (plain c) name new) ≡ not (nat_le (filled c.names.files + Pages (length new)) (c.shape.blocks + Pages f.file.len))
overfull_is c claim name new f =
    let x = plain_file c.places (contents c.blocks) f.file in
    let s = sum_changed (λ (file : PlainFile). Pages (length file.bytes)) (is_file name) (changing new) (plain c).files x (file_seen c.shape c.names c.places (contents c.blocks) name ∙ ap (option_map (plain_file c.places (contents c.blocks))) f.found) in
    let all = sum_seen c.places (contents c.blocks) c.names.files in
    let long = length_bytes f.file.len (file_page c.places (contents c.blocks) f.file.id) in
    let old : Pages (length x.bytes) ≡ Pages f.file.len = ap Pages long in
    over_test c.shape.blocks (pages_of (with_content (plain c) name new).files) (Pages f.file.len) (filled c.names.files + Pages (length new)) (omega arith)

-- ---- new bytes of the file

pub new_found : (c : Core) (lane : ℕ) (call : Flight) (name new : List ℕ) → Coherent c → c.calls lane ≡ Some call → file_word call.claim.request.call ≡ Some name → bytes_by_id (with_content (plain c) name new) call.claim.file ≡ new
new_found c lane call name new h e w =
    ap (bytes_by_id (with_content (plain c) name new)) f.id
    ∙ ap bytes_or_none
    (found_by_id name (changing new) (plain c).files (plain_file c.places (contents c.blocks) f.file) (λ x. refl) alone
    (file_seen c.shape c.names c.places (contents c.blocks) name ∙ ap (option_map (plain_file c.places (contents c.blocks))) f.found))
  where
    f : Finds c call.claim name
    f = finds c lane call name h e w

    alone : (x : PlainFile) → Contains (plain c).files x → x.id ≡ f.file.id → is_file name x ≡ true
    alone x i d =
        let k = in_map (plain_file c.places (contents c.blocks)) c.names.files x i in
        let id : k.0.id ≡ f.file.id = ap (λ (y : PlainFile). y.id) k.2 ∙ d in
        let same : k.0 ≡ f.file = one_of_id c.names.files h.placed.named.ids k.0 f.file k.1 (file_in c.names.files (Some name) f.file f.found) id in
        let is : x.name ≡ f.file.name = ap (λ (y : PlainFile). y.name) (sym k.2) ∙ ap (λ (y : File). y.name) same in
        ap (λ (n : List ℕ). bytes_eq n name) is ∙ found_passes (λ (y : File). bytes_eq y.name name) c.names.files f.file f.found
