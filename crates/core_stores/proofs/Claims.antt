-- The claims of the other calls in flight are as they were, where a call that stores ends.
use Rattle.std.proofs.Common.{◌≡◌, ℕ, ◌+◌, ◌<◌, ◌≤◌, false, List, [], length, Option, Some, None, refl, sym, ap, ◌∙◌, subst, ⊎_elim, arith}
use Rattle.std.specs.Prelude.{◌≢◌, ◌^◌, nat_lt, map, option_map, unwrap_or, is_some, is_none, bytes_eq}
use Rattle.std.proofs.lemmas.Bool.Decides.{nat_tests}
use Rattle.page_base.specs.Bytes.{Pages}
use Rattle.index_lists.proofs.Counts.{same_or_not}
use Rattle.core_hold.specs.Call.{Call}
use Rattle.core_hold.specs.Call.TheVariants.{Write, Append, Trunc, Writel}
use Rattle.core_hold.specs.PlainFile.{PlainFile}
use Rattle.core_hold.specs.Plain.{State, file_of, bytes_in, end_of}
use Rattle.core_hold.specs.State.{Page, File, Names, Places, Reach, Claim, Flight, Core}
use Rattle.core_hold.specs.Contents.{contents}
use Rattle.core_hold.specs.Reach.{file_word, function_word, file_by, file_for, id_or_none, len_or_none, write_reach, reach_of, claim_on, claim_for}
use Rattle.core_hold.specs.PlainOf.{plain_file, plain_function, plain_of, plain, file_page, outcome_of, used_of, fuel_of, file_like, names_like}
use Rattle.core_hold.specs.InFlight.{claim_of, AreThere, IsRight}
use Rattle.core_hold.specs.Coherent.{Coherent}
use Rattle.core_hold.specs.EndEvent.{learnt_by}
use Rattle.core_hold.proofs.Spans.{file_in as file_in_list}
use Rattle.core_hold.proofs.CoreLemmasViews.{find_map, file_seen, is_some_map, function_there}
use Rattle.core_hold.proofs.Words.{less_or_not}
use Rattle.core_hold.proofs.Seen.{length_bytes}
use Rattle.core_hold.proofs.Named.{one_of_id}
use Rattle.core_hold.proofs.Unchanged.{functions_back}
use Rattle.core_hold.proofs.Reaches.{Apart}
use Rattle.core_ends.proofs.Plainly.{learnt_names}
use Rattle.core_hold.proofs.Stores.{end_fits}
use Rattle.core_stores.proofs.Reached.{reach_same, append_empty}
use Rattle.core_stores.proofs.Named.{relen, own_relen, other_relen, files_relen}
use Rattle.core_hold.proofs.Others.{IsStoring, there, by_name, apart_of, stretches_of, most_of}
use Rattle.core_stores.proofs.Runs.{FindsNear}

-- ---- names

abbrev pub names_after : Core → Flight → State → Names
names_after c call s2 = learnt_by (plain c) call.claim (names_like s2 c.names)

pub functions_after : (c : Core) (lane : ℕ) (call : Flight) (f : File) (s2 : State) → IsStoring c lane call f s2 → map plain_function (names_after c call s2).functions ≡ map plain_function c.names.functions
functions_after c lane call f s2 g =
    (learnt_names call.claim.request.call (used_of (outcome_of (plain c) call.claim.request.call) (fuel_of call.claim.request.call)) call.claim.reach.pages (names_like s2 c.names)).functions
    ∙ (functions_back c.names.functions s2.functions ∙ ap (λ (s : State). s.functions) g.stored.state)

pub files_after : (c : Core) (lane : ℕ) (call : Flight) (f : File) (s2 : State) → Coherent c → (g : IsStoring c lane call f s2) → (names_after c call s2).files ≡ map (relen f.id (length g.stored.new)) c.names.files
files_after c lane call f s2 h g =
    ap (λ (s : State). map file_like s.files) g.stored.state
    ∙ files_relen c.places (contents c.blocks) g.stored.name g.stored.new c.names.files f h.placed.named.ids (by_name c lane call f s2 g)

pub found_after : (c : Core) (lane : ℕ) (call : Flight) (f : File) (s2 : State) → Coherent c → (g : IsStoring c lane call f s2) → (word : Option (List ℕ)) → file_by (names_after c call s2).files word ≡ option_map (relen f.id (length g.stored.new)) (file_by c.names.files word)
found_after c lane call f s2 h g None = refl
found_after c lane call f s2 h g (Some name) = ap (λ (fs : List File). file_by fs (Some name)) (files_after c lane call f s2 h g) ∙ find_map (relen f.id (length g.stored.new)) (λ (x : File). bytes_eq x.name name) c.names.files

pub there_after : (c : Core) (lane : ℕ) (call : Flight) (f : File) (s2 : State) → Coherent c → (g : IsStoring c lane call f s2) → (a : Claim) → AreThere c.names a → AreThere (names_after c call s2) a
there_after c lane call f s2 h g a t = record {
  file = λ q. ap is_some (found_after c lane call f s2 h g (file_word a.request.call)) ∙ (is_some_map (relen f.id (length g.stored.new)) (file_by c.names.files (file_word a.request.call)) ∙ t.file q);
  function = λ q. function_there c.names.functions (names_after c call s2).functions (function_word a.request.call) (functions_after c lane call f s2 g) ∙ t.function q;
}

-- ---- reaches

pub most_after : (c : Core) (lane : ℕ) (call : Flight) (f : File) (s2 : State) → Coherent c → (g : IsStoring c lane call f s2) → Pages (length g.stored.new) ≤ 65536
most_after c lane call f s2 h g = ⊎_elim
    (λ (l : f.len < length g.stored.new). let k = (stretches_of c lane call f s2 h g).grows l in k.2)
    (λ (l : length g.stored.new ≤ f.len). let m = most_of c lane call f s2 h g in omega arith) (less_or_not f.len (length g.stored.new))

-- the file that a call finds is the changed one, or of another id
pub own_file : (c : Core) (lane : ℕ) (call : Flight) (f : File) (s2 : State) → Coherent c → IsStoring c lane call f s2 → (word : Option (List ℕ)) (x : File) → file_by c.names.files word ≡ Some x → x.id ≡ f.id → x ≡ f
own_file c lane call f s2 h g word x e s = one_of_id c.names.files h.placed.named.ids x f (file_in_list c.names.files word x e) (there c lane call f s2 g) s

-- what another call meets in its file
pub reach_after : (c : Core) (lane : ℕ) (call : Flight) (f : File) (s2 : State) → Coherent c → (g : IsStoring c lane call f s2) → (l : ℕ) (y : Flight) → l ≢ lane → c.calls l ≡ Some y → (x : File) → file_for c.names.files y.claim.request.call ≡ Some x →
    reach_of y.claim.request.call (relen f.id (length g.stored.new) x).len ≡ reach_of y.claim.request.call x.len
reach_after c lane call f s2 h g l y d e x found = ⊎_elim same (λ (n : x.id ≢ f.id). ap (λ (w : File). reach_of y.claim.request.call w.len) (other_relen f.id (length g.stored.new) x n)) (same_or_not x.id f.id)
  where
    right : IsRight c.names (plain c) y.claim
    right = h.in_flight.right l y.claim (ap claim_of e)

    same : x.id ≡ f.id → reach_of y.claim.request.call (relen f.id (length g.stored.new) x).len ≡ reach_of y.claim.request.call x.len
    same s =
        let is = own_file c lane call f s2 h g (file_word y.claim.request.call) x found s in
        let file : y.claim.file ≡ f.id = ap (λ (k : Claim). k.file) right.same ∙ (ap id_or_none found ∙ s) in
        let reach : y.claim.reach ≡ reach_of y.claim.request.call f.len = ap (λ (k : Claim). k.reach) right.same ∙ (ap (λ (o : Option File). reach_of y.claim.request.call (len_or_none o)) found ∙ ap (λ (w : File). reach_of y.claim.request.call w.len) is) in
        ap (reach_of y.claim.request.call) (own_relen f.id (length g.stored.new) x s)
        ∙ (reach_same call.claim.reach y.claim.request.call f.len (length g.stored.new) (stretches_of c lane call f s2 h g) (most_of c lane call f s2 h g) (most_after c lane call f s2 h g)
        (subst (λ (r : Reach). Apart call.claim.reach r) reach (apart_of c lane call f s2 h g l y d e file))
        ∙ ap (λ (w : File). reach_of y.claim.request.call w.len) (sym is))

pub claim_after : (c : Core) (lane : ℕ) (call : Flight) (f : File) (s2 : State) → Coherent c → (g : IsStoring c lane call f s2) → (l : ℕ) (y : Flight) → l ≢ lane → c.calls l ≡ Some y → y.claim ≡ claim_for (names_after c call s2).files y.claim.request y.claim.side
claim_after c lane call f s2 h g l y d e =
    (h.in_flight.right l y.claim (ap claim_of e)).same ∙ (sym (go (file_for c.names.files y.claim.request.call) refl) ∙ ap (λ (o : Option File). claim_on o y.claim.request y.claim.side) (sym (found_after c lane call f s2 h g (file_word y.claim.request.call))))
  where
    go : (o : Option File) → file_for c.names.files y.claim.request.call ≡ o → claim_on (option_map (relen f.id (length g.stored.new)) o) y.claim.request y.claim.side ≡ claim_on o y.claim.request y.claim.side
    go None q = refl
    go (Some x) q = ap (λ (r : Reach). record { request = y.claim.request; file = x.id; side = y.claim.side; reach = r }) (reach_after c lane call f s2 h g l y d e x q)

-- ---- refusals that come early

abbrev pub plain_after : Core → Flight → State → Places → (ℕ → Page) → State
plain_after c call s2 places pages = plain_of c.shape (names_after c call s2) places pages

pub seen_after : (c : Core) (lane : ℕ) (call : Flight) (f : File) (s2 : State) (places : Places) (pages : ℕ → Page) → Coherent c → (g : IsStoring c lane call f s2) → (name : List ℕ) →
    file_of name (plain_after c call s2 places pages).files ≡ option_map (plain_file places pages) (option_map (relen f.id (length g.stored.new)) (file_by c.names.files (Some name)))
seen_after c lane call f s2 places pages h g name = file_seen c.shape (names_after c call s2) places pages name ∙ ap (option_map (plain_file places pages)) (found_after c lane call f s2 h g (Some name))

abbrev pub or_empty : List ℕ → Option PlainFile → PlainFile
or_empty name o = unwrap_or o (record { id = 0; name = name; bytes = []; sealed = false })

none_alike : (places places2 : Places) (pages pages2 : ℕ → Page) (id n : ℕ) (o : Option File) → is_none (option_map (plain_file places2 pages2) (option_map (relen id n) o)) ≡ is_none (option_map (plain_file places pages) o)
none_alike places places2 pages pages2 id n None = refl
none_alike places places2 pages pages2 id n (Some x) = refl

sealed_alike : (places places2 : Places) (pages pages2 : ℕ → Page) (id n : ℕ) (name : List ℕ) (o : Option File) → (or_empty name (option_map (plain_file places2 pages2) (option_map (relen id n) o))).sealed ≡ (or_empty name (option_map (plain_file places pages) o)).sealed
sealed_alike places places2 pages pages2 id n name None = refl
sealed_alike places places2 pages pages2 id n name (Some x) = refl

len_seen : (places : Places) (pages : ℕ → Page) (name : List ℕ) (o : Option File) → length (or_empty name (option_map (plain_file places pages) o)).bytes ≡ len_or_none o
len_seen places pages name None = refl
len_seen places pages name (Some x) = length_bytes x.len (file_page places pages x.id)

not_above : (n : ℕ) → n ≤ 268435456 → nat_lt (2 ^ 28) n ≡ false
not_above n l = grind (arith, nat_tests)

pub near : (c : Core) (lane : ℕ) (call : Flight) (f : File) (s2 : State) (places : Places) (pages : ℕ → Page) → Coherent c → (g : IsStoring c lane call f s2) → (l : ℕ) (y : Flight) → l ≢ lane → c.calls l ≡ Some y → FindsNear (plain c) (plain_after c call s2 places pages) y.claim.request.call
near c lane call f s2 places pages h g l y d e = record {
  none = λ name w. ap is_none (seen_after c lane call f s2 places pages h g name) ∙ (none_alike c.places places (contents c.blocks) pages f.id n (file_by c.names.files (Some name)) ∙ ap is_none (sym (file_seen c.shape c.names c.places (contents c.blocks) name)));
  sealed = λ name w. ap (λ (o : Option PlainFile). (or_empty name o).sealed) (seen_after c lane call f s2 places pages h g name) ∙ (sealed_alike c.places places (contents c.blocks) pages f.id n name (file_by c.names.files (Some name)) ∙ ap (λ (o : Option PlainFile). (or_empty name o).sealed) (sym (file_seen c.shape c.names c.places (contents c.blocks) name)));
  functions = functions_after c lane call f s2 g;
  end = not_above (end_of (plain_after c call s2 places pages) y.claim.request.call) (ends y.claim.request.call refl);
}
  where
    n : ℕ
    n = length g.stored.new

    before : end_of (plain c) y.claim.request.call ≤ 268435456
    before = end_fits (plain c) y.claim.request.call (h.in_flight.right l y.claim (ap claim_of e)).not_early

    len_was : (name : List ℕ) → length (bytes_in (plain c) name) ≡ len_or_none (file_by c.names.files (Some name))
    len_was name = ap (λ (o : Option PlainFile). length (or_empty name o).bytes) (file_seen c.shape c.names c.places (contents c.blocks) name) ∙ len_seen c.places (contents c.blocks) name (file_by c.names.files (Some name))

    len_is : (name : List ℕ) → length (bytes_in (plain_after c call s2 places pages) name) ≡ len_or_none (option_map (relen f.id n) (file_by c.names.files (Some name)))
    len_is name = ap (λ (o : Option PlainFile). length (or_empty name o).bytes) (seen_after c lane call f s2 places pages h g name) ∙ len_seen places pages name (option_map (relen f.id n) (file_by c.names.files (Some name)))

    appends : (name bytes : List ℕ) → y.claim.request.call ≡ Append name bytes → (o : Option File) → file_by c.names.files (Some name) ≡ o → len_or_none o + length bytes ≤ 268435456 → len_or_none (option_map (relen f.id n) o) + length bytes ≤ 268435456
    appends name bytes is None q m = m
    appends name bytes is (Some x) q m = ⊎_elim
        (λ (s : x.id ≡ f.id).
        let same = own_file c lane call f s2 h g (Some name) x q s in
        let found : file_for c.names.files y.claim.request.call ≡ Some x = ap (file_for c.names.files) is ∙ q in
        let right = h.in_flight.right l y.claim (ap claim_of e) in
        let file : y.claim.file ≡ f.id = ap (λ (k : Claim). k.file) right.same ∙ (ap id_or_none found ∙ s) in
        let reach : y.claim.reach ≡ write_reach f.len (length bytes) f.len =
        ap (λ (k : Claim). k.reach) right.same ∙ (ap (λ (o : Option File). reach_of y.claim.request.call (len_or_none o)) found ∙ (ap (λ (w : File). reach_of y.claim.request.call w.len) same ∙ ap (λ (k : Call). reach_of k f.len) is)) in
        let now = own_relen f.id n x s in
        let was : x.len ≡ f.len = ap (λ (w : File). w.len) same in
        let most = most_after c lane call f s2 h g in
        ⊎_elim
        (λ (k : n ≡ f.len). omega arith)
        (λ (k : n ≢ f.len).
        let z = append_empty call.claim.reach (length bytes) f.len n (stretches_of c lane call f s2 h g) (most_of c lane call f s2 h g) (subst (λ (r : Reach). Apart call.claim.reach r) reach (apart_of c lane call f s2 h g l y d e file)) k in
        omega arith)
        (same_or_not n f.len))
        (λ (k : x.id ≢ f.id). let z = ap (λ (w : File). w.len) (other_relen f.id n x k) in omega arith)
        (same_or_not x.id f.id)

    ends : (k : Call) → y.claim.request.call ≡ k → end_of (plain_after c call s2 places pages) k ≤ 268435456
    ends (Append name bytes) q =
        let b = subst (λ (z : Call). end_of (plain c) z ≤ 268435456) q before in
        let w = len_was name in
        let i = len_is name in
        let a = appends name bytes q (file_by c.names.files (Some name)) refl (omega arith) in
        omega arith
    ends (Write name off bytes) q = subst (λ (z : Call). end_of (plain c) z ≤ 268435456) q before
    ends (Trunc name len) q = subst (λ (z : Call). end_of (plain c) z ≤ 268435456) q before
    ends (Writel file off len function fuel param input) q = subst (λ (z : Call). end_of (plain c) z ≤ 268435456) q before
    ends k q = omega arith
