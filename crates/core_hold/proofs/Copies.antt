-- Copy, Take, Evict and Demote.
use Rattle.std.proofs.Common.{◌≡◌, ℕ, Bool, Option, Some, None, refl, sym, ap, ◌∙◌, subst}
use Rattle.std.specs.Prelude.{◌≢◌, if◌then◌else◌, is_some}
use Rattle.page_base.specs.Bytes.{zero_page}
use Rattle.dispatcher.specs.declared.side.Side.{Side}
use Rattle.index_lists.specs.Words.{put}
use Rattle.core_quick.specs.Actor.{Actor}
use Rattle.core_quick.specs.Event.TheVariants.{Copy, Take, Evict, Demote}
use Rattle.core_quick.specs.Words.{changed_at}
use Rattle.core_quick.specs.State.{Page, Block, Names, Places, Claim, NoFrame, OnLoan, Phase, Flight, Core}
use Rattle.core_quick.specs.Contents.{with_copy, contents, flashes, page_of, span_block, has_copy}
use Rattle.core_quick.specs.Reach.{function_for}
use Rattle.core_quick.specs.Dies.{owner}
use Rattle.core_quick.specs.PageEvents.{of_block, with_gathered, read_block, is_only_there, copied_from, copied_of, lent_block, taken_from, taken_of, is_spare, is_demotable, order_at}
use Rattle.core_quick.specs.Hold.{is_owner, sees, dies_held, is_held, code_of, cut_to, len_seen, readable_seen, len_for, SeenCall, call_seen, call_owned, hold}
use Rattle.core_quick.proofs.Blocks.{contents_put}
use Rattle.core_quick.proofs.Finds.{found_passes}
use Rattle.core_quick.proofs.Phases.{flight_is}
use Rattle.core_pages.proofs.Idle.{and_parts, evicted_content, moved_content, listed_at, none_is}
use Rattle.core_pages.proofs.Copy.{read_content}
use Rattle.core_pages.proofs.Plains.{taken_content}
use Rattle.core_hold.specs.Keeps.{KeepsHolds}
use Rattle.core_hold.proofs.Actors.{not_owner}
use Rattle.core_hold.proofs.Views.{same_hold, lane_flies, seen_by, seen_put, owned_put, not_owned, contents_changed, flashes_put, flashes_changed}

-- ---- blocks change, but neither contents nor flash

pub blocks_hold : (c : Core) (blocks : ℕ → Block) (a : Actor) → contents blocks ≡ contents c.blocks → flashes blocks ≡ flashes c.blocks → hold (record c { blocks = blocks }) a ≡ hold c a
blocks_hold c blocks a same flash =
    ap (λ (pages : ℕ → Page). record (hold c a) { seen = seen_by c.names c.places pages a c.calls; dies = (hold (record c { blocks = blocks }) a).dies }) same
    ∙ ap (λ (f : ℕ → Page). record (hold c a) { dies = dies_held c.shape c.meta f c.dies a }) flash

pub evict_holds : (actor : Actor) (side : Side) (block : ℕ) → KeepsHolds (Evict actor side block)
evict_holds actor side b c c2 a h s n =
    let parts = and_parts _ _ (found_passes (is_spare c side) (order_at side c) b s.may.first) in
    let y = with_copy side None (c.blocks b) in
    ap (λ (k : Core). hold k a) s.leaves
    ∙ blocks_hold c (put c.blocks b y) a
    (contents_put c.blocks b y (evicted_content side (c.blocks b) (h.copies b) (h.clean b) (listed_at c side b (is_spare c side) h s.may.first) parts.1))
    (flashes_put c.blocks b y refl)

pub demote_holds : (actor : Actor) (block : ℕ) → KeepsHolds (Demote actor block)
demote_holds actor b c c2 a h s n =
    let parts = and_parts _ _ (found_passes (is_demotable c) c.host_order b s.may.first) in
    let y = record (c.blocks b) { host = None; drive = (c.blocks b).host } in
    ap (λ (k : Core). hold k a) s.leaves
    ∙ blocks_hold c (put c.blocks b y) a (contents_put c.blocks b y (moved_content (c.blocks b) (none_is (c.blocks b).drive parts.1))) (flashes_put c.blocks b y refl)

-- ---- another actor's call changes, with the same claim and in the same phase

abbrev seen_as : Names → Places → (ℕ → Page) → Actor → ℕ → Claim → Phase → Option SeenCall
seen_as names places pages a lane claim phase =
    if sees a lane phase
    then Some (record {
      claim = claim;
      code = code_of (function_for names.functions claim.request.call);
      held = is_held phase;
      blocks = cut_to claim.reach.pages None (span_block places claim);
      contents = cut_to claim.reach.pages zero_page (λ i. page_of pages (span_block places claim i));
      len = len_seen claim (len_for names claim);
      readable = readable_seen claim (len_for names claim);
    })
    else None

seen_same : (names : Names) (places : Places) (pages : ℕ → Page) (a : Actor) (lane : ℕ) (call call2 : Flight) → call2.claim ≡ call.claim → call2.phase ≡ call.phase → call_seen names places pages a lane (Some call2) ≡ call_seen names places pages a lane (Some call)
seen_same names places pages a lane call call2 claim phase =
    ap (λ (k : Claim). seen_as names places pages a lane k call2.phase) claim ∙ ap (λ (p : Phase). seen_as names places pages a lane call.claim p) phase

pub call_holds : (c : Core) (lane : ℕ) (actor : Actor) (call call2 : Flight) (a : Actor) → c.calls lane ≡ Some call → call2.claim ≡ call.claim → call2.phase ≡ call.phase → owner lane call.phase ≡ Some actor → a ≢ actor →
    hold (record c { calls = put c.calls lane (Some call2) }) a ≡ hold c a
call_holds c lane actor call call2 a e claim phase owns n =
    let pages = contents c.blocks in
    let free = not_owner a actor lane call.phase owns n in
    same_hold (hold (record c { calls = put c.calls lane (Some call2) }) a) (hold c a) refl
    (lane_flies c.lanes c.calls lane (Some call2) a (sym (ap is_some e)))
    (seen_put c.names c.places pages a c.calls lane (Some call2) (seen_same c.names c.places pages a lane call call2 claim phase ∙ sym (ap (call_seen c.names c.places pages a lane) e)))
    (owned_put c.lanes a c.calls lane (Some call2)
    (not_owned (c.lanes lane) a lane call2 (ap (is_owner a lane) phase ∙ free) ∙ sym (ap (call_owned (c.lanes lane) a lane) e ∙ not_owned (c.lanes lane) a lane call free))) refl

pub gather_holds : (c : Core) (lane : ℕ) (actor : Actor) (call call2 : Flight) (blocks : ℕ → Block) (a : Actor) → c.calls lane ≡ Some call → call2.claim ≡ call.claim → call2.phase ≡ call.phase → owner lane call.phase ≡ Some actor → a ≢ actor →
    contents blocks ≡ contents c.blocks → flashes blocks ≡ flashes c.blocks → hold (record c { calls = put c.calls lane (Some call2); blocks = blocks }) a ≡ hold c a
gather_holds c lane actor call call2 blocks a e claim phase owns n same flash =
    blocks_hold (record c { calls = put c.calls lane (Some call2) }) blocks a same flash ∙ call_holds c lane actor call call2 a e claim phase owns n

-- ---- Copy and Take

flash_by_side : (side : Side) (x : Block) → (read_block side x).flash ≡ x.flash
flash_by_side side x = refl

pub copy_holds : (actor : Actor) (lane i : ℕ) → KeepsHolds (Copy actor lane i)
copy_holds actor lane i c c2 a h s n =
    let w = s.may.wants in
    ap (λ (k : Core). hold k a) s.leaves
    ∙ subst (λ (call : Flight). hold (copied_of c lane i call (span_block c.places call.claim i)) a ≡ hold c a) (sym (flight_is c.calls lane s.may.call w.flies))
    (go s.may.call (span_block c.places s.may.call.claim i) (of_block c.blocks (span_block c.places s.may.call.claim i) (is_only_there s.may.call.claim.side)) w.flies w.owns)
  where
    go : (call : Flight) (at : Option ℕ) (there : Bool) → c.calls lane ≡ Some call → owner lane call.phase ≡ Some actor → hold (copied_from c lane i call at (of_block c.blocks at has_copy) there) a ≡ hold c a
    go call at there e owns =
        gather_holds c lane actor call (with_gathered call i (page_of (contents c.blocks) at) (if there then NoFrame else call.frame i))
        (changed_at c.blocks at (read_block call.claim.side)) a e refl refl owns n
        (contents_changed c.blocks at (read_block call.claim.side) (read_content call.claim.side))
        (flashes_changed c.blocks at (read_block call.claim.side) (λ x. refl))

pub take_holds : (actor : Actor) (lane i : ℕ) → KeepsHolds (Take actor lane i)
take_holds actor lane i c c2 a h s n =
    let w = s.may.wants in
    ap (λ (k : Core). hold k a) s.leaves
    ∙ subst (λ (call : Flight). hold (taken_of c lane i call (span_block c.places call.claim i)) a ≡ hold c a) (sym (flight_is c.calls lane s.may.call w.flies))
    (go s.may.call (span_block c.places s.may.call.claim i) (of_block c.blocks (span_block c.places s.may.call.claim i) has_copy) w.flies w.owns)
  where
    go : (call : Flight) (at : Option ℕ) (had : Bool) → c.calls lane ≡ Some call → owner lane call.phase ≡ Some actor → hold (taken_from c lane i call at had) a ≡ hold c a
    go call at had e owns =
        gather_holds c lane actor call (with_gathered call i (page_of (contents c.blocks) at) (if had then OnLoan else call.frame i))
        (changed_at c.blocks at (lent_block lane)) a e refl refl owns n
        (contents_changed c.blocks at (lent_block lane) (taken_content lane))
        (flashes_changed c.blocks at (lent_block lane) (λ x. refl))
