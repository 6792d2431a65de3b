-- The numbers that are drawn, and how far versions rise.
use Rattle.std.proofs.Common.{◌≡◌, ℕ, ◌+◌, ◌*◌, ◌≤◌, Bool, true, false, List, [], ◌∷◌, length, Option, Some, None, refl, ap, arith}
use Rattle.std.specs.Prelude.{◌&&◌, ◌==◌, if◌then◌else◌}
use Rattle.dispatcher.specs.declared.side.Side.{Side}
use Rattle.index_lists.specs.Words.{put}
use Rattle.index_lists.proofs.Puts.{put-each}
use Rattle.plain_files.specs.declared.calls.Reply.{Reply}
use Rattle.plain_files.specs.History.{Entry}
use Rattle.plain_files.specs.Plain.{State, answer}
use Rattle.core_lanes.specs.Event.{Event}
use Rattle.core_lanes.specs.Event.TheVariants.{Enter, Leave, Quick, Skip, Begin, Copy, Take, DieOut, FillIn, Submit, Fetch, Report, End, Evict, Demote, FlushOut, FlushIn, MetaIn}
use Rattle.core_lanes.specs.Purpose.TheVariants.{Fill, Meta}
use Rattle.core_lanes.specs.Words.{changed_at, first_to, is_at, is_in}
use Rattle.core_lanes.specs.State.{Page, Loan, Block, File, Mode, Shared, Exclusive, Flight, Errand, ToFill, ToFlush, ToMeta, Out, Core}
use Rattle.core_lanes.specs.Contents.{with_copy, span_block}
use Rattle.core_lanes.specs.Reach.{by_mode, file_for}
use Rattle.core_lanes.specs.PlainOf.{plain, bytes_by_id, page_at}
use Rattle.core_lanes.specs.Resizing.{renewed, renewed_in, follows}
use Rattle.core_lanes.specs.PageEvents.{flight_at, read_block, lent_block}
use Rattle.coherence.specs.Paired.{by_side}
use Rattle.core_lanes.specs.DieEvents.{flushed_block, written_page, filled_block, filled_of, filled_on, filled_by, flushed_on, flushed_by, stored_on, stored_by}
use Rattle.core_lanes.specs.EndEvent.{with_span, installed_at, back_from, has_changed, ended_of, ended_storing, ended_plainly, ended_by_fault}
use Rattle.core_lanes.specs.Happens.{CoreRun, after}
use Rattle.core_lanes.specs.History.{entry_of, and_then, calls_of}

-- ---- numbers

abbrev drawn : Option Entry → ℕ
drawn None = 0
drawn (Some e) = 1

length_and : (o : Option Entry) (xs : List Entry) → length (and_then o xs) ≡ drawn o + length xs
length_and None xs = omega arith
length_and (Some e) xs = omega arith

ended_last : (c : Core) (lane : ℕ) (call : Flight) (reply : Reply) → (ended_of c lane call reply).last ≡ c.last + 1
ended_last c lane call reply = go (c.lanes lane).mark (has_changed call reply)
  where
    follow_last : (found : Option File) (s : State) → (follows c found s).last ≡ c.last
    follow_last None s = refl
    follow_last (Some f) s = refl

    go : (t u : Bool) → (if t then ended_by_fault c lane call else (if u then ended_storing c lane call else ended_plainly c lane call)).last ≡ c.last + 1
    go true u = refl
    go false true = ap (λ (n : ℕ). n + 1) (follow_last (file_for c.names.files call.claim.request.call) (answer (plain c) call.claim.request.call).state)
    go false false = refl

event_draws : (e : Event) (c : Core) → (after c e).last ≡ c.last + drawn (entry_of e)
event_draws (Enter lane) c = omega arith
event_draws (Leave lane) c = omega arith
event_draws (Quick lane request reply) c = refl
event_draws (Skip lane request fault) c = refl
event_draws (Begin lane request side) c = omega arith
event_draws (Copy actor lane i) c = omega arith
event_draws (Take actor lane i) c = omega arith
event_draws (DieOut actor die (Fill lane i)) c = omega arith
event_draws (DieOut actor die (Meta page bytes)) c = omega arith
event_draws (FillIn actor die good) c = go (c.dies die).out
  where
    on : (errand : Errand) → (filled_on c die good errand).last ≡ c.last + 0
    on (ToFill lane i) = omega arith
    on (ToFlush b v p) = omega arith
    on (ToMeta n bytes) = omega arith

    go : (o : Option Out) → (filled_by c die good o).last ≡ c.last + 0
    go None = omega arith
    go (Some out) = on out.errand
event_draws (Submit lane) c = omega arith
event_draws (Fetch worker lane) c = omega arith
event_draws (Report worker lane) c = omega arith
event_draws (End lane request reply) c = ended_last c lane (flight_at c.calls lane) reply
event_draws (Evict actor side block) c = omega arith
event_draws (Demote actor block) c = omega arith
event_draws (FlushOut actor die block) c = omega arith
event_draws (FlushIn actor die good left) c = go (c.dies die).out
  where
    on : (errand : Errand) → (flushed_on c actor die good left errand).last ≡ c.last + 0
    on (ToFill lane i) = omega arith
    on (ToFlush b v p) = omega arith
    on (ToMeta n bytes) = omega arith

    go : (o : Option Out) → (flushed_by c actor die good left o).last ≡ c.last + 0
    go None = omega arith
    go (Some out) = on out.errand
event_draws (MetaIn actor die good left) c = go (c.dies die).out
  where
    on : (errand : Errand) → (stored_on c actor die good left errand).last ≡ c.last + 0
    on (ToFill lane i) = omega arith
    on (ToFlush b v p) = omega arith
    on (ToMeta n bytes) = omega arith

    go : (o : Option Out) → (stored_by c actor die good left o).last ≡ c.last + 0
    go None = omega arith
    go (Some out) = on out.errand

pub run_numbered : (events : List Event) (c0 c1 : Core) → CoreRun c0 events c1 → c1.last ≡ c0.last + length (calls_of events)
run_numbered [] c0 c1 r = let k = ap (λ (c : Core). c.last) r in omega arith
run_numbered (e ∷ es) c0 c1 r = omega (arith, run_numbered es (after c0 e) c1 r.1, event_draws e c0, length_and (entry_of e) (calls_of es))

-- ---- versions

-- no block's version rises by more than n
abbrev Rises : ℕ → (ℕ → Block) → (ℕ → Block) → Type 0
Rises n old new = (b : ℕ) → (new b).version ≤ (old b).version + n

same_changed : (blocks : ℕ → Block) (at : Option ℕ) (change : Block → Block) → ((x : Block) → (change x).version ≡ x.version) → (b : ℕ) → (changed_at blocks at change b).version ≡ (blocks b).version
same_changed blocks None change h b = refl
same_changed blocks (Some j) change h b = put-each (λ (b : ℕ) (x : Block). x.version ≡ (blocks b).version) blocks j (change (blocks j)) (h (blocks j)) (λ b d. refl) b

same_put : (blocks : ℕ → Block) (j : ℕ) (y : Block) → y.version ≡ (blocks j).version → (b : ℕ) → (put blocks j y b).version ≡ (blocks b).version
same_put blocks j y h = put-each (λ (b : ℕ) (x : Block). x.version ≡ (blocks b).version) blocks j y h (λ b d. refl)

renewed_rises : (changed : List ℕ) (blocks : ℕ → Block) → Rises 1 blocks (renewed_in changed blocks)
renewed_rises changed blocks b = go (is_in b changed)
  where
    go : (t : Bool) → (if t then renewed (blocks b) else blocks b).version ≤ (blocks b).version + 1
    go true = omega arith
    go false = omega arith

follows_rises : (c : Core) (found : Option File) (s : State) → Rises 1 c.blocks (follows c found s).blocks
follows_rises c None s b = omega arith
follows_rises c (Some f) s b = renewed_rises _ c.blocks b

installed_rises : (side : Side) (page : ℕ → Page) (o : Option ℕ) (x : Block) → (installed_at side page o x).version ≤ x.version + 1
installed_rises side page None x = omega arith
installed_rises side page (Some i) x = omega arith

spanned_rises : (side : Side) (n : ℕ) (at : ℕ → Option ℕ) (page : ℕ → Page) (blocks : ℕ → Block) → Rises 1 blocks (with_span side n at page blocks)
spanned_rises side n at page blocks b = installed_rises side page (first_to n (λ i. is_at (at i) b)) (blocks b)

back_same : (side : Side) (lane : ℕ) (o : Option Loan) (x : Block) → (back_from side lane o x).version ≡ x.version
back_same side lane None x = refl
back_same side lane (Some loan) x = go (loan.lane == lane)
  where
    go : (t : Bool) → (if t then record x { host = by_side side (Some loan.page) x.host; drive = by_side side x.drive (Some loan.page); lent = None } else x).version ≡ x.version
    go true = refl
    go false = refl

ended_rises : (c : Core) (lane : ℕ) (call : Flight) (reply : Reply) → Rises 2 c.blocks (ended_of c lane call reply).blocks
ended_rises c lane call reply b = go (c.lanes lane).mark (has_changed call reply)
  where
    go : (t u : Bool) → ((if t then ended_by_fault c lane call else (if u then ended_storing c lane call else ended_plainly c lane call)).blocks b).version ≤ (c.blocks b).version + 2
    go true u = let k = back_same call.claim.side lane (c.blocks b).lent (c.blocks b) in omega arith
    go false true =
        let s = (answer (plain c) call.claim.request.call).state in
        let found = file_for c.names.files call.claim.request.call in
        let k = follows_rises c found s b in
        let moved = follows c found s in
        let m = spanned_rises call.claim.side call.claim.reach.pages (span_block moved.places call.claim) (λ i. page_at (bytes_by_id s call.claim.file) (call.claim.reach.first + i)) moved.blocks b in
        omega arith
    go false false = let k = back_same call.claim.side lane (c.blocks b).lent (c.blocks b) in omega arith

event_rises : (e : Event) (c : Core) → Rises 2 c.blocks (after c e).blocks
event_rises (Enter lane) c b = omega arith
event_rises (Leave lane) c b = omega arith
event_rises (Quick lane request reply) c b = let k = follows_rises c (file_for c.names.files request.call) (answer (plain c) request.call).state b in omega arith
event_rises (Skip lane request fault) c b = omega arith
event_rises (Begin lane request side) c b = omega arith
event_rises (Copy actor lane i) c b =
    let call = flight_at c.calls lane in
    let k = same_changed c.blocks (span_block c.places call.claim i) (read_block call.claim.side) (λ x. refl) b in
    omega arith
event_rises (Take actor lane i) c b =
    let call = flight_at c.calls lane in
    let k = same_changed c.blocks (span_block c.places call.claim i) (lent_block lane) (λ x. refl) b in
    omega arith
event_rises (DieOut actor die (Fill lane i)) c b = omega arith
event_rises (DieOut actor die (Meta page bytes)) c b = omega arith
event_rises (FillIn actor die good) c b = go (c.dies die).out
  where
    mode_same : (m : Mode) (call : Flight) (lane : ℕ) (x : Block) → (by_mode m (with_copy call.claim.side (Some x.flash) x) (record x { lent = Some (record { lane = lane; page = x.flash }) })).version ≡ x.version
    mode_same Shared call lane x = refl
    mode_same Exclusive call lane x = refl

    if_good : (t : Bool) (lane i : ℕ) (call : Flight) (at : Option ℕ) → ((filled_of c die t lane i call at).blocks b).version ≤ (c.blocks b).version + 2
    if_good true lane i call at = let k = same_changed c.blocks at (filled_block call lane) (λ x. mode_same call.claim.reach.mode call lane x) b in omega arith
    if_good false lane i call at = omega arith

    on : (errand : Errand) → ((filled_on c die good errand).blocks b).version ≤ (c.blocks b).version + 2
    on (ToFill lane i) = if_good good lane i (flight_at c.calls lane) (span_block c.places (flight_at c.calls lane).claim i)
    on (ToFlush j v p) = omega arith
    on (ToMeta n bytes) = omega arith

    go : (o : Option Out) → ((filled_by c die good o).blocks b).version ≤ (c.blocks b).version + 2
    go None = omega arith
    go (Some out) = on out.errand
event_rises (Submit lane) c b = omega arith
event_rises (Fetch worker lane) c b = omega arith
event_rises (Report worker lane) c b = omega arith
event_rises (End lane request reply) c b = ended_rises c lane (flight_at c.calls lane) reply b
event_rises (Evict actor side block) c b = let k = same_put c.blocks block (with_copy side None (c.blocks block)) refl b in omega arith
event_rises (Demote actor block) c b = let k = same_put c.blocks block (record (c.blocks block) { host = None; drive = (c.blocks block).host }) refl b in omega arith
event_rises (FlushOut actor die block) c b = omega arith
event_rises (FlushIn actor die good left) c b = go (c.dies die).out
  where
    on : (errand : Errand) → ((flushed_on c actor die good left errand).blocks b).version ≤ (c.blocks b).version + 2
    on (ToFill lane i) = omega arith
    on (ToFlush j v p) = let k = same_put c.blocks j (flushed_block (written_page good p left) (good && (v == (c.blocks j).version)) (c.blocks j)) refl b in omega arith
    on (ToMeta n bytes) = omega arith

    go : (o : Option Out) → ((flushed_by c actor die good left o).blocks b).version ≤ (c.blocks b).version + 2
    go None = omega arith
    go (Some out) = on out.errand
event_rises (MetaIn actor die good left) c b = go (c.dies die).out
  where
    on : (errand : Errand) → ((stored_on c actor die good left errand).blocks b).version ≤ (c.blocks b).version + 2
    on (ToFill lane i) = omega arith
    on (ToFlush j v p) = omega arith
    on (ToMeta n bytes) = omega arith

    go : (o : Option Out) → ((stored_by c actor die good left o).blocks b).version ≤ (c.blocks b).version + 2
    go None = omega arith
    go (Some out) = on out.errand

pub run_bounded : (events : List Event) (c0 c1 : Core) → CoreRun c0 events c1 → (b : ℕ) → (c1.blocks b).version ≤ (c0.blocks b).version + 2 * length events
run_bounded [] c0 c1 r b = let k = ap (λ (c : Core). (c.blocks b).version) r in omega arith
run_bounded (e ∷ es) c0 c1 r b =
    let k = run_bounded es (after c0 e) c1 r.1 b in
    let s = event_rises e c0 b in
    omega arith
