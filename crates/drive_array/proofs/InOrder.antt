-- The gathering of an image, page by page.
use Rattle.std.proofs.Common.{◌≡◌, ◌≢◌, ℕ, suc, ◌+◌, ◌/◌, ◌%◌, ◌<◌, Bool, true, false, not, List, [], ◌∷◌, ◌++◌, length, get_or, set, Option, Some, None, refl, ap, sym, subst, ◌∙◌, ⊎_elim, arith}
use Rattle.std.specs.Prelude.{IfSome, option_map, map}
use Rattle.std.specs.List.{concat}
use Rattle.std.proofs.lemmas.Nat.{mod_below}
use Rattle.std.proofs.lemmas.List.{get_or-map, get_or-set_same, get_or-set_other, map-set, length-map, length-set, append-nil}
use Rattle.std.proofs.lemmas.List.Folds.{concat-append}
use Rattle.std.proofs.lemmas.List.FromFn.{map-range_with_len_more}
use Rattle.page_base.specs.Drive.{die_share}
use Rattle.page_base.proofs.Shares.{place_inside}
use Rattle.flash_die.specs.Dies.{PlanView, DieView, WentRead, read_fails, after_read}
use Rattle.drive_array.specs.Cut.{joined}
use Rattle.drive_array.specs.Reads.{no_die, die_at, HasShares, TellsPages, after_reads, HasRead, ReadsPages, StopsAt, FailsWithin, GivesAll}
use Rattle.drive_array.proofs.Cutting.{one_number, share_here, share_more_here, share_more_there, share_none}

plan_none : (plan : Option PlanView) → plan ≡ option_map (after_reads 0) plan
unfolding after_reads
plan_none (Some plan) = refl
plan_none None = refl

gave_none : (plan : Option PlanView) → IfSome plan (λ p. (before : ℕ) → before < 0 → read_fails (after_reads before p) ≡ false)
gave_none (Some plan) = λ before below. absurd (omega arith)
gave_none None = tt

-- no read
read_none : (die : DieView) → HasRead 0 die die
read_none die = record {
  same = record { pages = refl; size = refl; most = refl; later = omega arith };
  plan = plan_none die.plan;
  gave = gave_none die.plan;
}

plan_more : (old mid new : Option PlanView) (reads : ℕ) → mid ≡ option_map (after_reads reads) old → new ≡ option_map after_read mid → new ≡ option_map (after_reads (suc reads)) old
unfolding after_reads
plan_more (Some plan) mid new reads m n = n ∙ ap (option_map after_read) m
plan_more None mid new reads m n = n ∙ ap (option_map after_read) m

gave_more : (old mid : Option PlanView) (reads : ℕ) → mid ≡ option_map (after_reads reads) old → IfSome mid (λ plan. true ≡ not (read_fails plan)) → IfSome old (λ plan. (before : ℕ) → before < reads → read_fails (after_reads before plan) ≡ false) → IfSome old (λ plan. (before : ℕ) → before < suc reads → read_fails (after_reads before plan) ≡ false)
gave_more None mid reads m planned gave = tt
gave_more (Some plan) mid reads m planned gave = λ before below. ⊎_elim
    (λ (here : before ≡ reads).
    let last : true ≡ not (read_fails (after_reads reads plan)) = subst (λ (o : Option PlanView). IfSome o (λ p. true ≡ not (read_fails p))) m planned in
    ap (λ (n : ℕ). read_fails (after_reads n plan)) here ∙ unlisted (read_fails (after_reads reads plan)) last)
    (λ (apart : before ≢ reads). gave before (grind arith))
    (one_number before reads)
  where
    unlisted : (b : Bool) → true ≡ not b → b ≡ false
    unlisted true e = absurd (cc (e))
    unlisted false e = refl

-- one read more that gave its page
read_more : (old mid new : DieView) (reads page : ℕ) (before after : List ℕ) → HasRead reads old mid → WentRead mid page true before after new → HasRead (suc reads) old new
read_more old mid new reads page before after so_far went = record {
  same = record {
    pages = went.pages ∙ so_far.same.pages;
    size = went.counts.size ∙ so_far.same.size;
    most = went.counts.most ∙ so_far.same.most;
    later = omega (arith, so_far.same.later, went.counts.later);
  };
  plan = plan_more old.plan mid.plan new.plan reads so_far.plan went.plan;
  gave = gave_more old.plan mid.plan reads so_far.plan went.planned so_far.gave;
}

-- the pages before this one are read, and where the dies tell their pages these are their bytes
pub record IsGathered (dies page : ℕ) (old now : List DieView) (bytes : List ℕ) : Type 0 where
  pub read : ReadsPages dies page old now
  pub gives : (lists : List (List (List ℕ))) → TellsPages old dies lists → bytes ≡ concat (joined lists dies page)

pub gathered_none : (dies : ℕ) (old : List DieView) → IsGathered dies 0 old old []
gathered_none dies old = record {
  read = record {
    count = refl;
    reads = λ die within. subst (λ (n : ℕ). HasRead n (die_at old die) (die_at old die)) (sym (share_none dies die)) (read_none (die_at old die));
  };
  gives = λ lists told. refl;
}

-- a die that stands as it stood
at_same : (now next : List DieView) (die other : ℕ) (view : DieView) → next ≡ set now die view → other ≢ die → die_at next other ≡ die_at now other
at_same now next die other view is apart = ap (λ (l : List DieView). die_at l other) is ∙ get_or-set_other now die other view no_die apart

pub gathered_more : (dies total page : ℕ) (old now next : List DieView) (bytes before after more : List ℕ) → 0 < dies → HasShares old dies total → IsGathered dies page old now bytes → next ≡ set now (page % dies) (die_at next (page % dies)) → WentRead (die_at now (page % dies)) (page / dies) true before after (die_at next (page % dies)) → more ≡ bytes ++ after → IsGathered dies (page + 1) old next more
gathered_more dies total page old now next bytes before after more some shares so_far others went is_more =
    let die = page % dies in
    let below = mod_below page dies some in
    let place : page / dies ≡ die_share page dies die = sym (share_here page dies some) in
    record {
      read = record {
        count = ap length others ∙ length-set now die (die_at next die) ∙ so_far.read.count;
        reads = λ other within. ⊎_elim
            (λ (here : die ≡ other).
            let one : HasRead (suc (die_share page dies die)) (die_at old die) (die_at next die) = read_more (die_at old die) (die_at now die) (die_at next die) (die_share page dies die) (page / dies) before after (so_far.read.reads die below) went in
            let more_here : suc (die_share page dies die) ≡ die_share (page + 1) dies die = sym (ap (λ (n : ℕ). die_share n dies die) (omega arith) ∙ share_more_here page dies ∙ omega arith) in
            subst (λ (n : ℕ). HasRead (die_share (page + 1) dies n) (die_at old n) (die_at next n)) here (subst (λ (n : ℕ). HasRead n (die_at old die) (die_at next die)) more_here one))
            (λ (apart : die ≢ other).
            let same : die_share page dies other ≡ die_share (page + 1) dies other = sym (ap (λ (n : ℕ). die_share n dies other) (omega arith) ∙ share_more_there page dies other apart) in
            let stands : die_at now other ≡ die_at next other = sym (at_same now next die other (die_at next die) others (λ e. apart (sym e))) in
            subst (λ (n : ℕ). HasRead n (die_at old other) (die_at next other)) same (subst (λ (v : DieView). HasRead (die_share page dies other) (die_at old other) v) stands (so_far.read.reads other within)))
            (one_number die other);
      };
      gives = λ lists told.
          let f : ℕ → List ℕ = λ n. get_or (get_or lists (n % dies) []) (n / dies) [] in
          let own : IfSome (die_at now die).pages (λ pages. after ≡ get_or pages (page / dies) []) = went.ok refl in
          let tells : (die_at now die).pages ≡ Some (get_or lists die []) = (so_far.read.reads die below).same.pages ∙ told die below in
          let read : after ≡ get_or (get_or lists die []) (page / dies) [] = subst (λ (o : Option (List (List ℕ))). IfSome o (λ pages. after ≡ get_or pages (page / dies) [])) tells own in
          let list : joined lists dies (page + 1) ≡ joined lists dies page ++ f page ∷ [] = map-range_with_len_more f 0 page page (omega arith) in
          is_more ∙ ap (λ (b : List ℕ). b ++ after) (so_far.gives lists told) ∙ ap (λ (b : List ℕ). concat (joined lists dies page) ++ b) (read ∙ sym (append-nil (f page))) ∙ sym (concat-append (joined lists dies page) (f page ∷ [])) ∙ ap concat (sym list);
    }

-- the same with the page's die and place by other names
pub gathered_more_at : (dies total page die place : ℕ) (old now next : List DieView) (bytes before after more : List ℕ) → 0 < dies → HasShares old dies total → IsGathered dies page old now bytes → die ≡ page % dies → place ≡ page / dies → next ≡ set now die (die_at next die) → WentRead (die_at now die) place true before after (die_at next die) → more ≡ bytes ++ after → IsGathered dies (page + 1) old next more
gathered_more_at dies total page die place old now next bytes before after more some shares so_far is_die is_place others went is_more =
    gathered_more dies total page old now next bytes before after more some shares so_far
    (subst (λ (d : ℕ). next ≡ set now d (die_at next d)) is_die others)
    (subst (λ (d : ℕ). WentRead (die_at now d) (page / dies) true before after (die_at next d)) is_die (subst (λ (p : ℕ). WentRead (die_at now die) p true before after (die_at next die)) is_place went))
    is_more

pub gathered_start : (dies : ℕ) (old : List DieView) (bytes : List ℕ) → bytes ≡ [] → IsGathered dies 0 old old bytes
gathered_start dies old bytes none = subst (λ (b : List ℕ). IsGathered dies 0 old old b) (sym none) (gathered_none dies old)

-- the gathering has failed at a page
pub gather_stopped : (dies total page : ℕ) (old now next : List DieView) (bytes before after : List ℕ) → IsGathered dies page old now bytes → page < total → next ≡ set now (page % dies) (die_at next (page % dies)) → WentRead (die_at now (page % dies)) (page / dies) false before after (die_at next (page % dies)) → StopsAt dies total (page % dies) old next
gather_stopped dies total page old now next bytes before after so_far within others went = record {
  page = page;
  within = within;
  here = refl;
  between = now;
  read = so_far.read;
  before = before;
  after = after;
  failed = went;
  others = λ other apart. at_same now next (page % dies) other (die_at next (page % dies)) others apart;
}

-- the page's place is one of its die
pub place_there : (dies total page : ℕ) (old now : List DieView) (bytes : List ℕ) → 0 < dies → page < total → HasShares old dies total → IsGathered dies page old now bytes → page / dies < (die_at now (page % dies)).size
place_there dies total page old now bytes some within shares so_far =
    let below = mod_below page dies some in
    omega (arith, place_inside page total dies some within, shares.sizes (page % dies) below, (so_far.read.reads (page % dies) below).same.size)

-- one of a list of dies, and one that takes its place
pub view_at : {X : Type 0} (seen : X → DieView) (dies : List X) (i : ℕ) (die : X) → i < length dies → die ≡ get_or dies i die → die_at (map seen dies) i ≡ seen die
view_at seen dies i die within at = get_or-map seen dies i die no_die within ∙ ap seen (sym at)

pub view_set : {X : Type 0} (seen : X → DieView) (dies : List X) (i : ℕ) (die : X) → i < length dies → die_at (map seen (set dies i die)) i ≡ seen die
view_set seen dies i die within = ap (λ (l : List DieView). die_at l i) (map-set seen dies i die) ∙ get_or-set_same (map seen dies) i (seen die) no_die (omega (arith, length-map dies seen))

pub views_set : {X : Type 0} (seen : X → DieView) (dies : List X) (i : ℕ) (die : X) → i < length dies → map seen (set dies i die) ≡ set (map seen dies) i (die_at (map seen (set dies i die)) i)
views_set seen dies i die within = map-set seen dies i die ∙ ap (λ (v : DieView). set (map seen dies) i v) (sym (view_set seen dies i die within))

pub went_at : {X : Type 0} (seen : X → DieView) (dies : List X) (i : ℕ) (die next : X) (place : ℕ) (good : Bool) (before after : List ℕ) → i < length dies → die ≡ get_or dies i die → WentRead (seen die) place good before after (seen next) → WentRead (die_at (map seen dies) i) place good before after (die_at (map seen (set dies i next)) i)
went_at seen dies i die next place good before after within at went =
    subst (λ (v : DieView). WentRead v place good before after (die_at (map seen (set dies i next)) i)) (sym (view_at seen dies i die within at)) (subst (λ (v : DieView). WentRead (seen die) place good before after v) (sym (view_set seen dies i next within)) went)

-- the count of the die at which the reading stopped has risen
pub stopped_rose : (dies total die : ℕ) (old new : List DieView) → 0 < dies → StopsAt dies total die old new → (die_at old die).faults < (die_at new die).faults
stopped_rose dies total die old new some stops =
    let below : die < dies = subst (λ (d : ℕ). d < dies) stops.here (mod_below stops.page dies some) in
    let rose = stops.failed.counts.failed refl in
    omega (arith, (stops.read.reads die below).same.later, rose)

listed_at : (old mid : Option PlanView) (reads total : ℕ) → reads < total → mid ≡ option_map (after_reads reads) old → IfSome mid (λ plan. false ≡ not (read_fails plan)) → IfSome old (λ plan. FailsWithin total plan)
listed_at None mid reads total within m planned = tt
listed_at (Some plan) mid reads total within m planned = record { before = reads; within = within; listed = listed (read_fails (after_reads reads plan)) (subst (λ (o : Option PlanView). IfSome o (λ p. false ≡ not (read_fails p))) m planned) }
  where
    listed : (b : Bool) → false ≡ not b → b ≡ true
    listed true e = refl
    listed false e = absurd (cc (e))

-- where that die tells its plan, one of the reads that were to be made of it is listed
pub stopped_listed : (dies total die : ℕ) (old new : List DieView) → 0 < dies → StopsAt dies total die old new → IfSome (die_at old die).plan (λ plan. FailsWithin (die_share total dies die) plan)
stopped_listed dies total die old new some stops =
    let below : die < dies = subst (λ (d : ℕ). d < dies) stops.here (mod_below stops.page dies some) in
    let read = stops.read.reads die below in
    let share : die_share stops.page dies die ≡ stops.page / dies = subst (λ (d : ℕ). die_share stops.page dies d ≡ stops.page / dies) stops.here (share_here stops.page dies some) in
    let inside : stops.page / dies < die_share total dies die = subst (λ (d : ℕ). stops.page / dies < die_share total dies d) stops.here (place_inside stops.page total dies some stops.within) in
    listed_at (die_at old die).plan (die_at stops.between die).plan (die_share stops.page dies die) (die_share total dies die) (omega (arith, share, inside)) read.plan stops.failed.planned

pub read_unlisted : (dies total die : ℕ) (old new : List DieView) → die < dies → ReadsPages dies total old new → IfSome (die_at old die).plan (λ plan. GivesAll (die_share total dies die) plan)
read_unlisted dies total die old new within read = (read.reads die within).gave
