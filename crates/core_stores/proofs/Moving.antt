-- The End of a call without a mark moves the plain state as the plain machine says.
use Rattle.std.proofs.Common.{◌≡◌, ℕ, ◌+◌, ◌-◌, ◌<◌, ◌≤◌, Bool, true, false, List, [], ◌∷◌, length, Option, Some, None, refl, sym, ap, ◌∙◌, subst, ⊎_elim, arith, get_or}
use Rattle.std.specs.Prelude.{◌≢◌, ◌&&◌, ◌/◌, ◌%◌, ◌*◌, nat_lt, map, unwrap_or, is_some, bytes_eq, if◌then◌else◌}
use Rattle.std.specs.List.{Contains, find}
use mathlib.Core.Path.{fun_ext}
use Rattle.std.proofs.lemmas.List.{get_or_past}
use Rattle.std.proofs.lemmas.List.FromFn.{get_or-map-range_with_len, fill_by_all}
use Rattle.page_base.specs.Bytes.{Pages}
use Rattle.core_hold.specs.PlainFile.{PlainFile}
use Rattle.core_hold.specs.Reply.{Reply}
use Rattle.core_hold.specs.Request.{Request}
use Rattle.core_hold.specs.Lists.{with_changed}
use Rattle.core_hold.specs.Plain.{State, is_file, bytes_in, answer}
use Rattle.core_hold.specs.Words.{from_fn, EachBehind}
use Rattle.core_hold.specs.State.{Page, Block, File, Places, Reach, Claim, Flight, Core}
use Rattle.core_hold.specs.Contents.{content, contents, page_of}
use Rattle.core_hold.specs.Reach.{is_exclusive, len_or_none, file_for, reach_of}
use Rattle.core_hold.specs.PlainOf.{file_bytes, file_page, plain_file, plain, has_stored, bytes_by_id, page_at}
use Rattle.core_hold.specs.Placed.{HavePlaces}
use Rattle.core_hold.specs.InFlight.{claim_of}
use Rattle.core_hold.specs.Coherent.{Coherent}
use Rattle.core_hold.specs.Resizing.{renewed}
use Rattle.core_hold.specs.EndEvent.{has_changed, ended_storing, ended_plainly, ended_by_fault, ended_of, ended, MayEnd}
use Rattle.core_hold.proofs.Words.{same_some, less_or_not, is_low}
use Rattle.core_hold.proofs.Spans.{found_in}
use Rattle.core_hold.proofs.CoreLanesPhases.{flight_is}
use Rattle.core_hold.proofs.Seen.{length_bytes}
use Rattle.core_hold.proofs.Named.{in_here, in_there}
use Rattle.core_hold.proofs.Released.{renewed_blank}
use Rattle.core_hold.proofs.Sealed.{in_mapped}
use Rattle.core_ends.proofs.Ending.{plainly_plain}
use Rattle.core_hold.proofs.Quicks.{other_place}
use Rattle.core_hold.proofs.Rests.{RestStays}
use Rattle.core_hold.proofs.Others.{changing, file_is, by_name, there, plain_by_name, new_bytes, reach_is, fresh_of, places_of, spanned_of}
use Rattle.core_hold.proofs.Changes.{Changes, changes}
use Rattle.core_hold.proofs.Storing.{storing_with}
use Rattle.core_stores.proofs.Free.{listed_there}
use Rattle.core_stores.proofs.Named.{relen, own_relen, other_relen}
use Rattle.core_stores.proofs.Became.{IsEnding, Became, Kept, Renewed, Put, PlaceWas, Old, New, place_was, placed_stays, fresh_blank, gone_from, span_at, span_page, became}
use Rattle.core_stores.proofs.Claims.{names_after, plain_after, functions_after, files_after}
use Rattle.core_stores.proofs.Placing.{places_after}
use Rattle.core_stores.proofs.Ending.{zeros, blank_content}
use Rattle.core_stores.proofs.Ends.{ending_of}
use Rattle.core_stores.proofs.Staying.{answer_stays}
use Rattle.core_stores.proofs.Keeping.{put_content}

-- ---- bytes of pages

file_byte : (len : ℕ) (page : ℕ → Page) (q : ℕ) → q < len → get_or (file_bytes len page) q 0 ≡ get_or (page (q / 4096)) (q % 4096) 0
unfolding from_fn
file_byte len page q l = get_or-map-range_with_len (λ i. get_or (page (i / 4096)) (i % 4096) 0) 0 len q q 0 l (omega arith)

bytes_are : (page : ℕ → Page) (new : List ℕ) → ((q : ℕ) → q < length new → get_or new q 0 ≡ get_or (page (q / 4096)) (q % 4096) 0) → file_bytes (length new) page ≡ new
unfolding from_fn
bytes_are page new h = sym (fill_by_all (λ i. get_or (page (i / 4096)) (i % 4096) 0) new (length new) 0 refl h)

page_byte : (bytes : List ℕ) (p j : ℕ) → j < 4096 → get_or (page_at bytes p) j 0 ≡ get_or bytes (4096 * p + j) 0
unfolding from_fn
page_byte bytes p j l = get_or-map-range_with_len (λ j. get_or bytes (4096 * p + j) 0) 0 4096 j j 0 l (omega arith)

-- ---- files after the End

-- the files of the new plain state, where those of other ids stay and the file has its new bytes
files_stored : (places places2 : Places) (pages pages2 : ℕ → Page) (name new : List ℕ) (files : List File) (f : File) → EachBehind (λ (x y : File). x.id < y.id) files → find (λ (g : File). bytes_eq g.name name) files ≡ Some f →
    ((x : File) → x.id ≢ f.id → plain_file places2 pages2 x ≡ plain_file places pages x) → plain_file places2 pages2 (relen f.id (length new) f) ≡ changing new (plain_file places pages f) →
    map (plain_file places2 pages2) (map (relen f.id (length new)) files) ≡ with_changed (is_file name) (changing new) (map (plain_file places pages) files)
files_stored places places2 pages pages2 name new [] f h e others own = absurd (cc)
files_stored places places2 pages pages2 name new (x ∷ xs) f h e others own = go (bytes_eq x.name name) e (files_stored places places2 pages pages2 name new xs f h.1)
  where
    other : (y : File) → y.id ≢ f.id → plain_file places2 pages2 (relen f.id (length new) y) ≡ plain_file places pages y
    other y d = ap (plain_file places2 pages2) (other_relen f.id (length new) y d) ∙ others y d

    rest : (ys : List File) → ((y : File) → Contains ys y → y.id ≢ f.id) → map (plain_file places2 pages2) (map (relen f.id (length new)) ys) ≡ map (plain_file places pages) ys
    rest [] d = refl
    rest (y ∷ ys) d = ap (λ (g : PlainFile). g ∷ map (plain_file places2 pages2) (map (relen f.id (length new)) ys)) (other y (d y (in_here y ys))) ∙ ap (λ (gs : List PlainFile). plain_file places pages y ∷ gs) (rest ys (λ z i. d z (in_there y z ys i)))

    go : (t : Bool) → (if t then Some x else find (λ (g : File). bytes_eq g.name name) xs) ≡ Some f →
        (find (λ (g : File). bytes_eq g.name name) xs ≡ Some f → ((y : File) → y.id ≢ f.id → plain_file places2 pages2 y ≡ plain_file places pages y) → plain_file places2 pages2 (relen f.id (length new) f) ≡ changing new (plain_file places pages f) →
        map (plain_file places2 pages2) (map (relen f.id (length new)) xs) ≡ with_changed (is_file name) (changing new) (map (plain_file places pages) xs)) →
        map (plain_file places2 pages2) (map (relen f.id (length new)) (x ∷ xs))
        ≡ (if t then changing new (plain_file places pages x) ∷ map (plain_file places pages) xs else plain_file places pages x ∷ with_changed (is_file name) (changing new) (map (plain_file places pages) xs))
    go true q ih =
        let s : x ≡ f = same_some (Some x) x f refl q in
        ap (λ (g : PlainFile). g ∷ map (plain_file places2 pages2) (map (relen f.id (length new)) xs)) (subst (λ (y : File). plain_file places2 pages2 (relen f.id (length new) y) ≡ changing new (plain_file places pages y)) (sym s) own)
        ∙ ap (λ (gs : List PlainFile). changing new (plain_file places pages x) ∷ gs) (rest xs (λ y i. let l = h.0 y i in let k = ap (λ (w : File). w.id) s in omega arith))
    go false q ih =
        let l = h.0 f (found_in (λ (g : File). bytes_eq g.name name) xs f q) in
        let d : x.id ≢ f.id = omega arith in
        ap (λ (g : PlainFile). g ∷ map (plain_file places2 pages2) (map (relen f.id (length new)) xs)) (other x d) ∙ ap (λ (gs : List PlainFile). plain_file places pages x ∷ gs) (ih q others own)

-- ---- a call that stores

pub stored_moves : (c : Core) (lane : ℕ) (call : Flight) (f : File) (s2 : State) (to : ℕ) → Coherent c → IsEnding c lane call f s2 to → plain_after c call s2 (places_of c f.id (Pages f.len) to) (contents (spanned_of c call f.id (Pages f.len) to s2)) ≡ s2
stored_moves c lane call f s2 to h g =
    let files = ap (map (plain_file places2 pages2)) (files_after c lane call f s2 h g.storing)
    ∙ (files_stored c.places places2 (contents c.blocks) pages2 g.storing.stored.name new c.names.files f h.placed.named.ids (by_name c lane call f s2 g.storing) others own
    ∙ ap (λ (s : State). s.files) (sym g.storing.stored.state)) in
    let functions = functions_after c lane call f s2 g.storing ∙ ap (λ (s : State). s.functions) (sym g.storing.stored.state) in
    let capacity = ap (λ (s : State). s.capacity) (sym g.storing.stored.state) in
    λ i. record { files = files i; next = s2.next; functions = functions i; capacity = capacity i }
  where
    new : List ℕ
    new = g.storing.stored.new

    places2 : Places
    places2 = places_of c f.id (Pages f.len) to

    blocks2 : ℕ → Block
    blocks2 = spanned_of c call f.id (Pages f.len) to s2

    pages2 : ℕ → Page
    pages2 = contents blocks2

    page : ℕ → Page
    page = file_page c.places (contents c.blocks) f.id

    have : HavePlaces c.shape (names_after c call s2) places2
    have = places_after c lane call f s2 h g.storing g.storing.stored.fits to g.to_is

    file : call.claim.file ≡ f.id
    file = file_is c lane call f s2 h g.storing

    -- a block with a place that is no page of the span has the content that it had
    outside : (id p b : ℕ) → places2 id p ≡ Some b → ((i : ℕ) → i < call.claim.reach.pages → span_at c call f to i ≢ Some b) → content (blocks2 b) ≡ content (c.blocks b)
    outside id p b e none = go (became c lane call f s2 to h g b)
      where
        go : Became (gone_from c f to) call.claim.reach.pages (span_at c call f to) (span_page call s2) call.claim.side b (c.blocks b) (blocks2 b) → content (blocks2 b) ≡ content (c.blocks b)
        go (Kept q m z) = ap content q
        go (Renewed q u m blank) = ap content q ∙ (blank_content (renewed (c.blocks b)) (renewed_blank (c.blocks b) u) ∙ sym (blank_content (c.blocks b) (blank (placed_stays c f to id p b h e))))
        go (Put i l a w q flash v z) = absurd (none i l a)

    -- ---- files of other ids

    others : (x : File) → x.id ≢ f.id → plain_file places2 pages2 x ≡ plain_file c.places (contents c.blocks) x
    others x d = ap (λ (pages : ℕ → Page). record { id = x.id; name = x.name; bytes = file_bytes x.len pages; sealed = x.sealed }) (fun_ext (λ p. ap (page_of pages2) (place p) ∙ same p (c.places x.id p) refl))
      where
        place : (p : ℕ) → places2 x.id p ≡ c.places x.id p
        place p = other_place c.places f.id (fresh_of c f.id (Pages f.len) to) (Pages f.len) to x.id p d

        same : (p : ℕ) (o : Option ℕ) → c.places x.id p ≡ o → page_of pages2 o ≡ page_of (contents c.blocks) o
        same p None e = refl
        same p (Some b) e = outside x.id p b (place p ∙ e) (λ i l a. d ((have.apart x.id call.claim.file p (call.claim.reach.first + i) b (place p ∙ e) a).0 ∙ file))

    -- ---- the file of the call

    old_is : bytes_in (plain c) g.storing.stored.name ≡ file_bytes f.len page
    old_is = ap (λ (o : Option PlainFile). (unwrap_or o (record { id = 0; name = g.storing.stored.name; bytes = []; sealed = false })).bytes) (plain_by_name c lane call f s2 g.storing)

    rest : RestStays call.claim.reach (file_bytes f.len page) new
    rest = subst (λ (old : List ℕ). RestStays call.claim.reach old new) old_is (subst (λ (r : Reach). RestStays r (bytes_in (plain c) g.storing.stored.name) new) (sym (reach_is c lane call f s2 h g.storing)) g.storing.stored.rest)

    placed : (p : ℕ) → is_some (places2 f.id p) ≡ nat_lt p (Pages (length new))
    placed p =
        have.exact (relen f.id (length new) f) (subst (λ (fs : List File). Contains fs (relen f.id (length new) f)) (sym (files_after c lane call f s2 h g.storing)) (in_mapped (relen f.id (length new)) c.names.files f (there c lane call f s2 g.storing))) p
        ∙ ap (λ (n : ℕ). nat_lt p (Pages n)) (own_relen f.id (length new) f refl)

    -- a byte whose block was the file's, or is a new one
    was_byte : (q b : ℕ) → PlaceWas c.places f.id (fresh_of c f.id (Pages f.len) to) (Pages f.len) to f.id (q / 4096) b → get_or (content (c.blocks b)) (q % 4096) 0 ≡ get_or (file_bytes f.len page) q 0
    was_byte q b (Old r t) = ⊎_elim
        (λ (l : q < f.len). ap (λ (o : Option ℕ). get_or (page_of (contents c.blocks) o) (q % 4096) 0) (sym r) ∙ sym (file_byte f.len page q l))
        (λ (l : f.len ≤ q).
        ap (λ (o : Option ℕ). get_or (page_of (contents c.blocks) o) (q % 4096) 0) (sym r)
        ∙ (h.tails f (there c lane call f s2 g.storing) (q / 4096) (q % 4096) (omega arith) (omega arith) ∙ sym (get_or_past (file_bytes f.len page) q 0 (let k = length_bytes f.len page in omega arith))))
        (less_or_not q f.len)
    was_byte q b (New s u v r) =
        ap (λ (w : Page). get_or w (q % 4096) 0) (blank_content (c.blocks b) (fresh_blank c f.id (Pages f.len) to b h (listed_there (fresh_of c f.id (Pages f.len) to) (q / 4096 - Pages f.len) b r)))
        ∙ (zeros (q % 4096) (omega arith) ∙ sym (get_or_past (file_bytes f.len page) q 0 (let k = length_bytes f.len page in omega arith)))

    new_byte : (q : ℕ) → q < length new → get_or new q 0 ≡ get_or (file_page places2 pages2 f.id (q / 4096)) (q % 4096) 0
    new_byte q l = go (places2 f.id (q / 4096)) refl
      where
        p : ℕ
        p = q / 4096

        j : ℕ
        j = q % 4096

        go : (o : Option ℕ) → places2 f.id p ≡ o → get_or new q 0 ≡ get_or (page_of pages2 o) j 0
        go None e = let a : false ≡ true = ap is_some (sym e) ∙ (placed p ∙ is_low p (Pages (length new)) (omega arith)) in absurd (cc)
        go (Some b) e = by (became c lane call f s2 to h g b)
          where
            stays : ((i : ℕ) → i < call.claim.reach.pages → span_at c call f to i ≢ Some b) → get_or new q 0 ≡ get_or (content (blocks2 b)) j 0
            stays none =
                rest q l (λ i k s. none i k (ap (λ (id : ℕ). places2 id (call.claim.reach.first + i)) file ∙ (ap (places2 f.id) s ∙ e)))
                ∙ (sym (was_byte q b (place_was c.places f.id (fresh_of c f.id (Pages f.len) to) (Pages f.len) to f.id p b e)) ∙ ap (λ (w : Page). get_or w j 0) (sym (outside f.id p b e none)))

            by : Became (gone_from c f to) call.claim.reach.pages (span_at c call f to) (span_page call s2) call.claim.side b (c.blocks b) (blocks2 b) → get_or new q 0 ≡ get_or (content (blocks2 b)) j 0
            by (Kept q2 none z) = stays none
            by (Renewed q2 u none z) = stays none
            by (Put i k a w q2 flash v z) =
                let s = (have.apart f.id call.claim.file p (call.claim.reach.first + i) b e a).1 in
                let at : 4096 * (call.claim.reach.first + i) + j ≡ q = omega arith in
                let bytes : bytes_by_id s2 call.claim.file ≡ new = ap (bytes_by_id s2) file ∙ new_bytes c lane call f s2 h g.storing in
                sym (ap (λ (x : Block). get_or (content x) j 0) q2
                ∙ (ap (λ (x : Page). get_or x j 0) (put_content call.claim.side (span_page call s2 i) w)
                ∙ (page_byte (bytes_by_id s2 call.claim.file) (call.claim.reach.first + i) j (omega arith)
                ∙ (ap (λ (k : ℕ). get_or (bytes_by_id s2 call.claim.file) k 0) at ∙ ap (λ (xs : List ℕ). get_or xs q 0) bytes))))

    own : plain_file places2 pages2 (relen f.id (length new) f) ≡ changing new (plain_file c.places (contents c.blocks) f)
    own =
        ap (λ (n : ℕ). record { id = f.id; name = f.name; bytes = file_bytes n (file_page places2 pages2 f.id); sealed = f.sealed }) (own_relen f.id (length new) f refl)
        ∙ ap (λ (bytes : List ℕ). record { id = f.id; name = f.name; bytes = bytes; sealed = f.sealed }) (bytes_are (file_page places2 pages2 f.id) new new_byte)

-- ---- the End

-- a call that has changed something
changed_moves : (c : Core) (lane : ℕ) (call : Flight) → Coherent c → Changes c lane call → plain (ended_storing c lane call) ≡ (answer (plain c) call.claim.request.call).state
changed_moves c lane call h k =
    let s2 = (answer (plain c) call.claim.request.call).state in
    ap (λ (o : Option File). plain (storing_with c lane call s2 o)) k.storing.found
    ∙ stored_moves c lane call k.file s2 (Pages (length (bytes_by_id s2 k.file.id))) h (ending_of c lane call k.file s2 h k.storing)

-- a call that has changed nothing
unchanged_moves : (c : Core) (lane : ℕ) (call : Flight) (reply : Reply) → Coherent c → c.calls lane ≡ Some call → reply ≡ (answer (plain c) call.claim.request.call).reply → has_changed call reply ≡ false →
    plain (ended_plainly c lane call) ≡ (answer (plain c) call.claim.request.call).state
unchanged_moves c lane call reply h e is same =
    let right = h.in_flight.right lane call.claim (ap claim_of e) in
    let reach : call.claim.reach ≡ reach_of call.claim.request.call (len_or_none (file_for c.names.files call.claim.request.call)) = ap (λ (k : Claim). k.reach) right.same in
    plainly_plain c lane call h
    ∙ sym (answer_stays (plain c) call.claim.request.call (len_or_none (file_for c.names.files call.claim.request.call)) right.kind right.not_early
    (ap (λ (r : Reach). is_exclusive r.mode && has_stored (answer (plain c) call.claim.request.call).reply) (sym reach) ∙ (ap (λ (r : Reply). is_exclusive call.claim.reach.mode && has_stored r) (sym is) ∙ same)))

-- an End needs its reply alone for it
pub end_moves : (c : Core) (lane : ℕ) (call : Flight) (reply : Reply) → Coherent c → c.calls lane ≡ Some call → (c.lanes lane).mark ≡ false → reply ≡ (answer (plain c) call.claim.request.call).reply →
    plain (ended_of c lane call reply) ≡ (answer (plain c) call.claim.request.call).state
end_moves c lane call reply h e unmarked is = go (c.lanes lane).mark unmarked (has_changed call reply) refl
  where
    go : (m : Bool) → m ≡ false → (t : Bool) → has_changed call reply ≡ t →
        plain (if m then ended_by_fault c lane call else (if t then ended_storing c lane call else ended_plainly c lane call)) ≡ (answer (plain c) call.claim.request.call).state
    go true q t r = absurd (cc)
    go false q true r = changed_moves c lane call h (changes c lane call reply h e is r)
    go false q false r = unchanged_moves c lane call reply h e is r

-- and so of the event
pub event_moves : (c : Core) (lane : ℕ) (request : Request) (reply : Reply) → Coherent c → MayEnd c lane request reply → (c.lanes lane).mark ≡ false → plain (ended c lane reply) ≡ (answer (plain c) request.call).state
event_moves c lane request reply h may unmarked =
    ap (λ (f : Flight). plain (ended_of c lane f reply)) (flight_is c.calls lane may.call may.flies)
    ∙ (end_moves c lane may.call reply h may.flies unmarked (may.unmarked unmarked).reply_is ∙ ap (λ (r : Request). (answer (plain c) r.call).state) (sym may.request_is))
