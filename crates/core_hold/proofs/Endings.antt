-- End, where the call stores nothing: its pages go back, its lock and frames are given up.
use Rattle.std.proofs.Common.{◌≡◌, ℕ, ◌+◌, Bool, true, false, List, Option, Some, None, refl, sym, ap, ◌∙◌}
use Rattle.std.specs.Prelude.{◌≢◌, ◌==◌, option_map, if◌then◌else◌, bytes_eq}
use mathlib.Core.Path.{fun_ext}
use Rattle.page_base.specs.Bytes.{zero_page}
use Rattle.dispatcher.specs.declared.side.Side.{Side}
use Rattle.dispatcher.specs.declared.side.Side.TheVariants.{Host, Drive}
use Rattle.core_quick.specs.Paired.{by_side}
use Rattle.core_quick.specs.Changes.{page_or}
use Rattle.index_lists.specs.Words.{put}
use Rattle.index_lists.proofs.Puts.{put-same}
use Rattle.core_quick.specs.Call.{Call}
use Rattle.core_quick.specs.Plain.{State}
use Rattle.core_quick.specs.Actor.{Actor}
use Rattle.core_quick.specs.Actor.TheVariants.{Lane}
use Rattle.core_quick.specs.State.{Page, Loan, Block, File, Function, Names, Places, Claim, Flight, Core}
use Rattle.core_quick.specs.Contents.{lent_page, content, contents, flashes, InNeitherCache}
use Rattle.core_quick.specs.Reach.{file_for, len_or_none, function_word, function_by, function_for}
use Rattle.core_quick.specs.PlainOf.{plain, outcome_of, used_of, fuel_of}
use Rattle.core_quick.specs.Sides.{learnt}
use Rattle.core_quick.specs.Dies.{owner}
use Rattle.core_quick.specs.Coherent.{Coherent}
use Rattle.core_quick.specs.LaneEvents.{replied}
use Rattle.core_quick.specs.EndEvent.{back_from, learnt_by, ended_plainly, ended_by_fault}
use Rattle.core_quick.specs.Hold.{code_of, len_seen, readable_seen, dies_held, call_seen, hold}
use Rattle.core_quick.proofs.Calls.{still_there}
use Rattle.core_quick.proofs.Views.{find_map}
use Rattle.core_hold.proofs.Actors.{not_owner, not_seeing}
use Rattle.core_hold.proofs.Views.{same_hold, lane_other, lane_other_call, seen_put, unseen, owned_put, owned_lane, not_owned_at}
use Rattle.core_hold.proofs.Lanes.{no_call_owned}
use Rattle.core_hold.proofs.Seeing.{StillSees, seen_all}

-- ---- a lane's own call is over

abbrev pub over : Core → ℕ → Names → Places → (ℕ → Block) → Core
over c lane names places blocks =
    record c {
      names = names;
      places = places;
      blocks = blocks;
      calls = put c.calls lane None;
      lanes = put c.lanes lane (replied (c.lanes lane));
      last = c.last + 1;
    }

pub over_holds : (c : Core) (lane : ℕ) (call : Flight) (names : Names) (places : Places) (blocks : ℕ → Block) (a : Actor) → c.calls lane ≡ Some call → owner lane call.phase ≡ Some (Lane lane) → a ≢ Lane lane →
    flashes blocks ≡ flashes c.blocks →
    ((l : ℕ) (x : Flight) → l ≢ lane → c.calls l ≡ Some x → StillSees c.names names c.places places (contents c.blocks) (contents blocks) x.claim) → hold (over c lane names places blocks) a ≡ hold c a
over_holds c lane call names places blocks a e owns n flash sees =
    let x = replied (c.lanes lane) in
    let calls = put c.calls lane None in
    let free = not_owner a (Lane lane) lane call.phase owns n in
    let hidden = not_seeing a lane call.phase n free in
    same_hold (hold (over c lane names places blocks) a) (hold c a)
    (ap (λ (pages : ℕ → Page). dies_held c.shape c.meta pages c.dies a) flash)
    (lane_other c.lanes calls lane x a n ∙ lane_other_call c.lanes c.calls lane None a n)
    (seen_all c.names names c.places places (contents c.blocks) (contents blocks) a calls (λ l y f. let k = still_there c.calls lane l y f in sees l y k.0 k.1)
    ∙ seen_put c.names c.places (contents c.blocks) a c.calls lane None
    (sym (ap (call_seen c.names c.places (contents c.blocks) a lane) e ∙ unseen c.names c.places (contents c.blocks) a lane call hidden)))
    (owned_lane c.lanes a calls lane x (no_call_owned (c.lanes lane) x a lane (put c.calls lane None lane) (put-same c.calls lane None))
    ∙ owned_put c.lanes a c.calls lane None (sym (not_owned_at (c.lanes lane) a lane (c.calls lane) call e free))) refl

-- ---- a function has learnt

learnt_code : (word : Option (List ℕ)) (used pages : ℕ) (o : Option Function) → code_of (option_map (learnt word used pages) o) ≡ code_of o
learnt_code word used pages None = refl
learnt_code word used pages (Some f) = refl

pub code_learnt : (s : State) (claim : Claim) (names : Names) (call : Call) → code_of (function_for (learnt_by s claim names).functions call) ≡ code_of (function_for names.functions call)
code_learnt s claim names call = go (function_word call)
  where
    go : (w : Option (List ℕ)) → code_of (function_by (learnt_by s claim names).functions w) ≡ code_of (function_by names.functions w)
    go None = refl
    go (Some name) =
        ap code_of (find_map (learnt (function_word claim.request.call) (used_of (outcome_of s claim.request.call) (fuel_of claim.request.call)) claim.reach.pages) (λ (f : Function). bytes_eq f.name name) names.functions)
        ∙ learnt_code (function_word claim.request.call) (used_of (outcome_of s claim.request.call) (fuel_of claim.request.call)) claim.reach.pages (function_by names.functions (Some name))

-- ---- pages go back

back_content : (side : Side) (lane : ℕ) (x : Block) → ((loan : Loan) → x.lent ≡ Some loan → InNeitherCache x) → content (back_from side lane x.lent x) ≡ content x
back_content side lane x alone = go x.lent refl
  where
    there : (loan : Loan) → x.lent ≡ Some loan → content x ≡ loan.page
    there loan e = ap (λ (o : Option Loan). page_or (lent_page o) (page_or x.host (page_or x.drive (if x.written then x.flash else zero_page)))) e

    back : (s : Side) (loan : Loan) → x.lent ≡ Some loan → (t : Bool) →
        content (if t then record x { host = by_side s (Some loan.page) x.host; drive = by_side s x.drive (Some loan.page); lent = None } else x) ≡ content x
    back s loan e false = refl
    back Host loan e true = sym (there loan e)
    back Drive loan e true = ap (λ (o : Option Page). page_or o loan.page) (alone loan e).host ∙ sym (there loan e)

    go : (o : Option Loan) → x.lent ≡ o → content (back_from side lane o x) ≡ content x
    go None e = refl
    go (Some loan) e = back side loan e (loan.lane == lane)

back_flash : (side : Side) (lane : ℕ) (o : Option Loan) (x : Block) → (back_from side lane o x).flash ≡ x.flash
back_flash side lane None x = refl
back_flash side lane (Some loan) x = go (loan.lane == lane)
  where
    go : (t : Bool) → (if t then record x { host = by_side side (Some loan.page) x.host; drive = by_side side x.drive (Some loan.page); lent = None } else x).flash ≡ x.flash
    go true = refl
    go false = refl

abbrev backs : Core → ℕ → Flight → ℕ → Block
backs c lane call b = back_from call.claim.side lane (c.blocks b).lent (c.blocks b)

back_holds : (c : Core) (lane : ℕ) (call : Flight) (names : Names) (a : Actor) → Coherent c → c.calls lane ≡ Some call → owner lane call.phase ≡ Some (Lane lane) → a ≢ Lane lane →
    names.files ≡ c.names.files → ((k : Call) → code_of (function_for names.functions k) ≡ code_of (function_for c.names.functions k)) → hold (over c lane names c.places (backs c lane call)) a ≡ hold c a
back_holds c lane call names a h e owns n files code =
    over_holds c lane call names c.places (backs c lane call) a e owns n
    (fun_ext (λ b. back_flash call.claim.side lane (c.blocks b).lent (c.blocks b)))
    (λ l x d f. record {
      code = code x.claim.request.call;
      blocks = λ i w. refl;
      contents = λ i b w at. back_content call.claim.side lane (c.blocks b) (h.lent.alone b);
      len = ap (λ (fs : List File). len_seen x.claim (len_or_none (file_for fs x.claim.request.call))) files;
      readable = ap (λ (fs : List File). readable_seen x.claim (len_or_none (file_for fs x.claim.request.call))) files;
    })

pub plainly_holds : (c : Core) (lane : ℕ) (call : Flight) (a : Actor) → Coherent c → c.calls lane ≡ Some call → owner lane call.phase ≡ Some (Lane lane) → a ≢ Lane lane → hold (ended_plainly c lane call) a ≡ hold c a
plainly_holds c lane call a h e owns n = back_holds c lane call (learnt_by (plain c) call.claim c.names) a h e owns n refl (code_learnt (plain c) call.claim c.names)

pub fault_holds : (c : Core) (lane : ℕ) (call : Flight) (a : Actor) → Coherent c → c.calls lane ≡ Some call → owner lane call.phase ≡ Some (Lane lane) → a ≢ Lane lane → hold (ended_by_fault c lane call) a ≡ hold c a
fault_holds c lane call a h e owns n = back_holds c lane call c.names a h e owns n refl (λ k. refl)
