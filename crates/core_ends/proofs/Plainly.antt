-- The End of a call that stores nothing: its loans go back, and it is no longer in flight.
use Rattle.std.proofs.Common.{◌≡◌, ℕ, ◌<◌, ◌≤◌, Bool, true, false, List, [], ◌∷◌, length, Option, Some, None, refl, sym, ap, ◌∙◌, subst, inl, inr, arith}
use Rattle.std.specs.Prelude.{◌≢◌, ◌⊎◌, ◌&&◌, not, map, is_some, if◌then◌else◌}
use Rattle.std.specs.List.{Contains, filter}
use mathlib.Core.Path.{fun_ext}
use Rattle.dispatcher.specs.declared.side.Side.{Side}
use Rattle.dispatcher.specs.declared.side.Side.TheVariants.{Host, Drive}
use Rattle.core_quick.specs.Paired.{by_side}
use Rattle.index_lists.specs.Words.{put, count}
use Rattle.index_lists.proofs.Puts.{put-other}
use Rattle.core_quick.specs.Call.{Call}
use Rattle.core_quick.specs.Plain.{State}
use Rattle.core_quick.specs.Actor.TheVariants.{Lane}
use Rattle.core_quick.specs.Words.{sum_to, listed_to, all_last, Lists, EachBehind}
use Rattle.core_quick.specs.State.{Page, Shape, Block, File, Function, Names, Places, LaneState, Phase, Held, Queued, Running, Reported, Flight, Out, Core}
use Rattle.core_quick.specs.Contents.{InNeitherCache, IsBlank, contents, span_block, has_copy, is_unclean}
use Rattle.core_quick.specs.Reach.{claim_for, file_for, function_word}
use Rattle.core_quick.specs.PlainOf.{plain_file, plain_function, plain_of, plain}
use Rattle.core_quick.specs.Sides.{learnt, with_learnt}
use Rattle.core_quick.specs.Placed.{AreNamed, HavePlaces, Tails}
use Rattle.core_quick.specs.InFlight.{InFlight}
use Rattle.core_quick.specs.Frames.{weight, is_side, frames_of, used, HasFrameFor, in_queue}
use Rattle.core_quick.specs.Dies.{owner, Gathered}
use Rattle.core_quick.specs.Coherent.{Coherent}
use Rattle.core_quick.specs.LaneEvents.{replied}
use Rattle.core_quick.specs.EndEvent.{lent_at, back_from, back_order, returned, landed}
use Rattle.core_quick.proofs.Words.{lists_same}
use Rattle.core_quick.proofs.Blocks.{kept_rest, flush_rest, errand_blocks, fill_stays}
use Rattle.core_quick.proofs.Views.{function_there}
use Rattle.core_pages.proofs.Gathering.{gains_frame}
use Rattle.core_quick.proofs.Calls.{without_call, still_there, other_there}
use Rattle.core_ends.proofs.Landing.{used_gone, locked_gone, in_flight_gone, queued_gone, dies_gone, gathered_gone}
use Rattle.core_ends.proofs.Returning.{Went, Back, Stayed, returned_block, went, went_rest, went_copies, went_hand, went_lent, went_other, went_unlent, went_gains, back_has, back_listed, back_unlisted, back_weight, all_last_order, length-all_last, count-filter}

-- ---- functions of other e

-- the names are as they were, but for what is learnt of functions
pub record SameNames (names names2 : Names) : Type 0 where
  pub files : names2.files ≡ names.files
  pub next : names2.next ≡ names.next
  pub functions : map plain_function names2.functions ≡ map plain_function names.functions

pub same_names : (names : Names) → SameNames names names
same_names names = record { files = refl; next = refl; functions = refl }

learnt_functions : (word : Option (List ℕ)) (used pages : ℕ) (fs : List Function) → map plain_function (map (learnt word used pages) fs) ≡ map plain_function fs
learnt_functions word used pages [] = refl
learnt_functions word used pages (f ∷ fs) = ap (λ gs. plain_function f ∷ gs) (learnt_functions word used pages fs)

pub learnt_names : (call : Call) (used pages : ℕ) (names : Names) → SameNames names (with_learnt call used pages names)
learnt_names call used pages names = record { files = refl; next = refl; functions = learnt_functions (function_word call) used pages names.functions }

same_named : (names names2 : Names) → SameNames names names2 → EachBehind (λ (f g : Function). f.name ≢ g.name) names2.functions → AreNamed names → AreNamed names2
same_named names names2 s apart h = record {
  ids = subst (EachBehind (λ (f g : File). f.id < g.id)) (sym s.files) h.ids;
  names_apart = subst (EachBehind (λ (f g : File). f.name ≢ g.name)) (sym s.files) h.names_apart;
  functions_apart = apart;
  ids_below = λ f i. subst (λ (n : ℕ). f.id < n) (sym s.next) (h.ids_below f (subst (λ (fs : List File). Contains fs f) s.files i));
}

same_places : (shape : Shape) (names names2 : Names) (places : Places) → SameNames names names2 → HavePlaces shape names places → HavePlaces shape names2 places
same_places shape names names2 places s h = record {
  exact = λ f i. h.exact f (subst (λ (fs : List File). Contains fs f) s.files i);
  owned = λ id p b e. let o = h.owned id p b e in (o.0, subst (λ (fs : List File). Contains fs o.0) (sym s.files) o.1, o.2);
  apart = h.apart;
  within = h.within;
}

same_plain : (shape : Shape) (names names2 : Names) (places : Places) (pages : ℕ → Page) → SameNames names names2 → plain_of shape names2 places pages ≡ plain_of shape names places pages
same_plain shape names names2 places pages s =
    let a = ap (map (plain_file places pages)) s.files in
    let n = s.next in
    let f = s.functions in
    λ i. record { files = a i; next = n i; functions = f i; capacity = shape.blocks }

-- ---- the End

-- pages that go back keep every content
pub returned_contents : (c : Core) (lane : ℕ) (call : Flight) → Coherent c → contents (returned c lane call).blocks ≡ contents c.blocks
returned_contents c lane call h = fun_ext (λ b. (went_rest call.claim.side lane (c.blocks b) ((returned c lane call).blocks b) (h.lent.alone b) (went call.claim.side lane (c.blocks b))).content)

pub returned_plain : (c : Core) (lane : ℕ) (call : Flight) (names2 : Names) → Coherent c → SameNames c.names names2 → plain (landed (returned c lane call) lane names2) ≡ plain c
returned_plain c lane call names2 h s = same_plain c.shape c.names names2 c.places (contents (returned c lane call).blocks) s ∙ ap (plain_of c.shape c.names c.places) (returned_contents c lane call h)

pub plainly_keeps : (c : Core) (lane : ℕ) (call : Flight) (names2 : Names) → Coherent c → c.calls lane ≡ Some call → owner lane call.phase ≡ Some (Lane lane) → ((die : ℕ) (out : Out) → (c.dies die).out ≡ Some out → out.holder ≢ Lane lane) →
    SameNames c.names names2 → EachBehind (λ (f g : Function). f.name ≢ g.name) names2.functions → Coherent (landed (returned c lane call) lane names2)
plainly_keeps c lane call names2 h e owns free s apart = record {
  placed = record { drive = h.placed.drive; have = same_places c.shape c.names names2 c.places s h.placed.have; free = λ b f. let blank = h.placed.free b f in subst IsBlank (sym (went_unlent side lane (c.blocks b) (blocks2 b) (at b) blank.away.lent)) blank; named = same_named c.names names2 s apart h.placed.named };
  copies = λ b. went_copies side lane (c.blocks b) (blocks2 b) (h.lent.alone b) (h.copies b) (at b);
  clean = λ b. kept_rest (c.blocks b) (blocks2 b) (went_rest side lane (c.blocks b) (blocks2 b) (h.lent.alone b) (at b)) (h.clean b);
  unclean = λ b. went_hand side lane (c.blocks b) (blocks2 b) (h.unclean b) (at b);
  lent = record {
    alone = λ b loan l. let w = went_lent side lane (c.blocks b) (blocks2 b) (at b) loan l in subst InNeitherCache (sym w.2) (h.lent.alone b loan w.1);
    held = λ b loan l.
        let w = went_lent side lane (c.blocks b) (blocks2 b) (at b) loan l in
        let t = h.lent.held b loan w.1 in
        record { call = t.call; flies = other_there c.calls lane loan.lane t.call w.0 t.flies; mode = t.mode; i = t.i; within = t.within; block = t.block; gathered = t.gathered; frame = t.frame };
    loans = λ l x f i k g.
        let t = still_there c.calls lane l x f in
        let o = h.lent.loans l x t.1 i k g in
        record { b = o.b; loan = o.loan; block = o.block; lent = ap (λ (w : Block). w.lent) (went_other side lane (c.blocks o.b) (blocks2 o.b) (at o.b) o.loan o.lent (λ q. t.0 (sym o.lane_is ∙ q))) ∙ o.lent; lane_is = o.lane_is };
  };
  locked = locked_gone c.names names2 c.calls lane (λ a t. record { file = λ q. ap (λ (fs : List File). is_some (file_for fs a.request.call)) s.files ∙ t.file q; function = λ q. function_there c.names.functions names2.functions (function_word a.request.call) s.functions ∙ t.function q }) h.locked;
  in_flight = subst (λ (k : State). InFlight names2 k (without_call c.calls lane)) (sym plain_same)
      (in_flight_gone c.names names2 (plain c) c.calls lane (λ a r. record { kind = r.kind; same = r.same ∙ ap (λ (fs : List File). claim_for fs a.request a.side) (sym s.files); not_early = r.not_early; drive = r.drive }) h.in_flight);
  tails = subst (λ (pages : ℕ → Page). Tails names2 c.places pages) (sym kept) (λ f i. h.tails f (subst (λ (fs : List File). Contains fs f) s.files i));
  frames = record { host = fits_host side refl; drive = fits_drive side refl; each = λ l x f i k. let t = still_there c.calls lane l x f in framed l x t.1 i (span_block c.places x.claim i) (h.frames.each l x t.1 i k) };
  orders = record { ordered = record { host = host_listed side refl; drive = drive_listed side refl; unclean = unclean_listed }; queued = queued_gone c.queue c.lanes lanes2 c.calls lane call e (idle call.phase owns) lanes_same h.orders.queued };
  dies = dies_gone c.shape c.places blocks2 c.lanes lanes2 c.calls c.dies lane call e owns free lanes_same (record {
    right = λ die out o. errand_blocks c.shape c.places c.blocks blocks2 c.lanes c.calls die out.holder out.errand
        (λ l i f. fill_stays c.shape c.places c.blocks blocks2 c.calls die out.holder l i f (went_unlent side lane (c.blocks f.b) (blocks2 f.b) (at f.b) f.away.lent))
        (λ b v p on f. flush_rest (c.blocks b) (blocks2 b) v p (went_rest side lane (c.blocks b) (blocks2 b) (h.lent.alone b) (at b)) f) (h.dies.right die out o);
    one_each = h.dies.one_each;
    in_turn = h.dies.in_turn;
  });
  gathered = subst (λ (k : State). Gathered c.places (contents blocks2) k lanes2 (without_call c.calls lane)) (sym plain_same)
      (subst (λ (pages : ℕ → Page). Gathered c.places pages (plain c) lanes2 (without_call c.calls lane)) (sym kept) (gathered_gone c.places (contents c.blocks) (plain c) c.lanes lanes2 c.calls lane lanes_same h.gathered));
}
  where
    side : Side
    side = call.claim.side

    blocks2 : ℕ → Block
    blocks2 b = back_from side lane (c.blocks b).lent (c.blocks b)

    lanes2 : ℕ → LaneState
    lanes2 = put c.lanes lane (replied (c.lanes lane))

    bs : List ℕ
    bs = listed_to call.claim.reach.pages (lent_at c.places call)

    at : (b : ℕ) → Went side lane (c.blocks b) (blocks2 b)
    at b = went side lane (c.blocks b)

    kept : contents blocks2 ≡ contents c.blocks
    kept = returned_contents c lane call h

    plain_same : plain_of c.shape names2 c.places (contents blocks2) ≡ plain c
    plain_same = returned_plain c lane call names2 h s

    lanes_same : (l : ℕ) → l ≢ lane → lanes2 l ≡ c.lanes l
    lanes_same l d = put-other c.lanes lane (replied (c.lanes lane)) l d

    idle : (phase : Phase) → owner lane phase ≡ Some (Lane lane) → in_queue phase ≡ false
    idle Held q = refl
    idle Queued q = absurd (cc)
    idle (Running w) q = refl
    idle (Reported r) q = refl

    within : lane < c.shape.lanes
    within = (h.dies.in_turn lane call e).0

    framed : (l : ℕ) (x : Flight) → c.calls l ≡ Some x → (i : ℕ) (o : Option ℕ) → HasFrameFor x.claim.reach.mode x.claim.side c.blocks o (x.frame i) → HasFrameFor x.claim.reach.mode x.claim.side blocks2 o (x.frame i)
    framed l x f i None k = k
    framed l x f i (Some b) k = gains_frame x.claim.reach.mode x.claim.side (x.frame i) (c.blocks b) (blocks2 b) (went_gains side lane (c.blocks b) (blocks2 b) (at b)) k

    -- ---- frames

    held : (k : Side) → side ≡ k → length bs ≤ frames_of k (Some call)
    held k q = subst (λ (z : Side). length bs ≤ frames_of z (Some call)) q (own side refl)
      where
        own : (z : Side) → side ≡ z → length bs ≤ (if is_side side side then sum_to call.claim.reach.pages (λ i. weight (call.frame i)) else 0)
        own z q = by (is_side side side) (self side)
          where
            self : (z : Side) → is_side z z ≡ true
            self Host = refl
            self Drive = refl

            by : (t : Bool) → t ≡ true → length bs ≤ (if t then sum_to call.claim.reach.pages (λ i. weight (call.frame i)) else 0)
            by true q = back_weight c.places call call.claim.reach.pages
            by false q = absurd (cc)

    fits_host : (k : Side) → side ≡ k → used Host c.shape (back_order (by_side k true false) bs c.host_order) (without_call c.calls lane) ≤ c.shape.host_frames
    fits_host Host q = let u = used_gone Host c.shape c.host_order c.calls lane call e within in let w = held Host q in let l = length-all_last bs c.host_order in let o = h.frames.host in omega arith
    fits_host Drive q = let u = used_gone Host c.shape c.host_order c.calls lane call e within in let o = h.frames.host in omega arith

    fits_drive : (k : Side) → side ≡ k → used Drive c.shape (back_order (by_side k false true) bs c.drive_order) (without_call c.calls lane) ≤ c.shape.drive_frames
    fits_drive Drive q = let u = used_gone Drive c.shape c.drive_order c.calls lane call e within in let w = held Drive q in let l = length-all_last bs c.drive_order in let o = h.frames.drive in omega arith
    fits_drive Host q = let u = used_gone Drive c.shape c.drive_order c.calls lane call e within in let o = h.frames.drive in omega arith

    -- ---- orders

    -- listed, and then the test holds; or not, and it says what it said
    listed : (test : Block → Bool) → ((page : Page) (x : Block) → test (returned_block side page x) ≡ true) → (b : ℕ) → (count b bs ≡ 1) × (test (blocks2 b) ≡ true) ⊎ (count b bs ≡ 0) × (test (blocks2 b) ≡ test (c.blocks b))
    listed test holds b = go (at b)
      where
        go : Went side lane (c.blocks b) (blocks2 b) → (count b bs ≡ 1) × (test (blocks2 b) ≡ true) ⊎ (count b bs ≡ 0) × (test (blocks2 b) ≡ test (c.blocks b))
        go (Back loan l m q) = inl (back_listed c lane call b loan h e l m, ap test q ∙ holds loan.page (c.blocks b))
        go (Stayed d q) = inr (back_unlisted c lane call b h e d, ap test q)

    -- at the other side nothing changes
    other_side : (test : Block → Bool) → ((page : Page) (x : Block) → test (returned_block side page x) ≡ test x) → (b : ℕ) → test (blocks2 b) ≡ test (c.blocks b)
    other_side test same b = go (at b)
      where
        go : Went side lane (c.blocks b) (blocks2 b) → test (blocks2 b) ≡ test (c.blocks b)
        go (Back loan l m q) = ap test q ∙ same loan.page (c.blocks b)
        go (Stayed d q) = ap test q

    host_listed : (k : Side) → side ≡ k → Lists (back_order (by_side k true false) bs c.host_order) (λ b. is_some (blocks2 b).host)
    host_listed Host q = all_last_order bs c.host_order (λ b. is_some (c.blocks b).host) (λ b. is_some (blocks2 b).host) (listed (λ w. is_some w.host) (λ page x. subst (λ (z : Side). is_some (returned_block z page x).host ≡ true) (sym q) refl)) h.orders.ordered.host
    host_listed Drive q = lists_same c.host_order (λ b. is_some (c.blocks b).host) (λ b. is_some (blocks2 b).host) (other_side (λ w. is_some w.host) (λ page x. subst (λ (z : Side). is_some (returned_block z page x).host ≡ is_some x.host) (sym q) refl)) h.orders.ordered.host

    drive_listed : (k : Side) → side ≡ k → Lists (back_order (by_side k false true) bs c.drive_order) (λ b. is_some (blocks2 b).drive)
    drive_listed Drive q = all_last_order bs c.drive_order (λ b. is_some (c.blocks b).drive) (λ b. is_some (blocks2 b).drive) (listed (λ w. is_some w.drive) (λ page x. subst (λ (z : Side). is_some (returned_block z page x).drive ≡ true) (sym q) refl)) h.orders.ordered.drive
    drive_listed Host q = lists_same c.drive_order (λ b. is_some (c.blocks b).drive) (λ b. is_some (blocks2 b).drive) (other_side (λ w. is_some w.drive) (λ page x. subst (λ (z : Side). is_some (returned_block z page x).drive ≡ is_some x.drive) (sym q) refl)) h.orders.ordered.drive

    unclean_listed : Lists (all_last (filter (λ b. not (c.blocks b).clean) bs) c.unclean) (λ b. is_unclean (blocks2 b))
    unclean_listed = all_last_order (filter (λ b. not (c.blocks b).clean) bs) c.unclean (λ b. is_unclean (c.blocks b)) (λ b. is_unclean (blocks2 b)) each h.orders.ordered.unclean
      where
        test : ℕ → Bool
        test b = not (c.blocks b).clean

        clean_none : (x : Block) → not x.clean ≡ false → is_unclean x ≡ false
        clean_none x q = ap (λ (t : Bool). t && has_copy x) q

        unclean_back : (x : Block) (page : Page) → is_unclean (returned_block side page x) ≡ not x.clean
        unclean_back x page = ap (λ (t : Bool). not x.clean && t) (back_has side page x) ∙ and_true (not x.clean)
          where
            and_true : (t : Bool) → (t && true) ≡ t
            and_true true = refl
            and_true false = refl

        each : (b : ℕ) → (count b (filter test bs) ≡ 1) × (is_unclean (blocks2 b) ≡ true) ⊎ (count b (filter test bs) ≡ 0) × (is_unclean (blocks2 b) ≡ is_unclean (c.blocks b))
        each b = go (at b) (test b) refl
          where
            go : Went side lane (c.blocks b) (blocks2 b) → (t : Bool) → test b ≡ t → (count b (filter test bs) ≡ 1) × (is_unclean (blocks2 b) ≡ true) ⊎ (count b (filter test bs) ≡ 0) × (is_unclean (blocks2 b) ≡ is_unclean (c.blocks b))
            go (Back loan l m q) true u = inl (count-filter test bs b ∙ (ap (λ (t : Bool). if t then count b bs else 0) u ∙ back_listed c lane call b loan h e l m), ap is_unclean q ∙ (unclean_back (c.blocks b) loan.page ∙ u))
            go (Back loan l m q) false u = inr (count-filter test bs b ∙ ap (λ (t : Bool). if t then count b bs else 0) u, ap is_unclean q ∙ (unclean_back (c.blocks b) loan.page ∙ (u ∙ sym (clean_none (c.blocks b) u))))
            go (Stayed d q) true u = inr (count-filter test bs b ∙ (ap (λ (t : Bool). if t then count b bs else 0) u ∙ back_unlisted c lane call b h e d), ap is_unclean q)
            go (Stayed d q) false u = inr (count-filter test bs b ∙ ap (λ (t : Bool). if t then count b bs else 0) u, ap is_unclean q)
