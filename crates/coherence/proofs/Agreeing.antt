-- Each change of the caches is one change of the parts above.
use Rattle.std.proofs.Common.{◌≡◌, ℕ, ◌+◌, ◌<◌, Bool, true, false, List, [], length, get_or, set, Option, Some, None, refl, sym, ap, ◌∙◌, subst, ⊎_elim, arith, get_or-set_same, get_or-set_other}
use Rattle.std.proofs.lemmas.List.{length-set, set-get_or, length-replicate, get_or-replicate}
use Rattle.std.specs.Prelude.{◌≢◌, ◌==◌, ◌&&◌, if◌then◌else◌}
use Rattle.std.proofs.lemmas.Bool.Decides.{nat_tests}
use Rattle.index_lists.specs.Words.{put, without, last}
use Rattle.index_lists.proofs.Counts.{same_or_not}
use Rattle.index_lists.proofs.Puts.{put-same, put-other}
use Rattle.page_cache.specs.Cached.{copy_at, with_page, used_now}
use Rattle.dispatcher.specs.declared.side.Side.{Side}
use Rattle.dispatcher.specs.declared.side.Side.TheVariants.{Host, Drive}
use Rattle.coherence.specs.declared.flags.Flags.{Flags}
use Rattle.coherence.specs.Paired.{Paired, by_side, other, cache_at, fresh, flags_at, none_yet}
use Rattle.coherence.specs.Changes.{read_by, read_from, with_caches, copied, taken, installed, filled, put_back_at, evicted, demoted, flushed_in, released, started}
use Rattle.coherence.specs.Agree.{Cell, cell_at, copy_in, with_copy, written_cell, released_cell, Agrees}

cell : Option (List ℕ) → Option (List ℕ) → Flags → Cell
cell h d f = record { host = h; drive = d; clean = f.clean; written = f.written; version = f.version }

same_cell : (h i d e : Option (List ℕ)) (f g : Flags) → h ≡ i → d ≡ e → f ≡ g → cell h d f ≡ cell i e g
same_cell h i d e f g p q r = cc

-- what changes at one block alone
pub record ChangesAt (s s2 : Paired) (b : ℕ) (v : Cell) : Type 0 where
  pub blocks : length s2.flags ≡ length s.flags
  pub host_blocks : length s2.host.copies ≡ length s.host.copies
  pub drive_blocks : length s2.drive.copies ≡ length s.drive.copies
  pub here : cell_at s2 b ≡ v
  pub rest : (c : ℕ) → c ≢ b → cell_at s2 c ≡ cell_at s c

pub agrees_at : (s s2 : Paired) (n b : ℕ) (cells : ℕ → Cell) (ho dr un ho2 dr2 un2 : List ℕ) (v : Cell) → Agrees s n cells ho dr un → ChangesAt s s2 b v → s2.host.order ≡ ho2 → s2.drive.order ≡ dr2 → s2.unclean ≡ un2 → Agrees s2 n (put cells b v) ho2 dr2 un2
agrees_at s s2 n b cells ho dr un ho2 dr2 un2 v a h eh ed eu = record {
  blocks = h.blocks ∙ a.blocks;
  host_blocks = h.host_blocks ∙ a.host_blocks;
  drive_blocks = h.drive_blocks ∙ a.drive_blocks;
  each = λ c l. ⊎_elim (λ (e : c ≡ b). ap (cell_at s2) e ∙ h.here ∙ sym (put-same cells b v) ∙ ap (put cells b v) (sym e)) (λ (d : c ≢ b). h.rest c d ∙ a.each c l ∙ sym (put-other cells b v c d)) (same_or_not c b);
  host_is = eh;
  drive_is = ed;
  unclean_is = eu;
}

-- the block's copies and flags are set, to what they were or to others
pub record SetAt (s s2 : Paired) (b : ℕ) (host drive : Option (List ℕ)) (flags : Flags) : Type 0 where
  pub host_set : s2.host.copies ≡ set s.host.copies b host
  pub drive_set : s2.drive.copies ≡ set s.drive.copies b drive
  pub flags_set : s2.flags ≡ set s.flags b flags

set_changes : (s s2 : Paired) (n b : ℕ) (cells : ℕ → Cell) (ho dr un : List ℕ) (h d : Option (List ℕ)) (f : Flags) → b < n → Agrees s n cells ho dr un → SetAt s s2 b h d f → ChangesAt s s2 b (record { host = h; drive = d; clean = f.clean; written = f.written; version = f.version })
unfolding cell
set_changes s s2 n b cells ho dr un h d f l a e =
    let fb = a.blocks in
    let hb = a.host_blocks in
    let db = a.drive_blocks in
    record {
      blocks = ap length e.flags_set ∙ length-set s.flags b f;
      host_blocks = ap length e.host_set ∙ length-set s.host.copies b h;
      drive_blocks = ap length e.drive_set ∙ length-set s.drive.copies b d;
      here = same_cell _ _ _ _ _ _
          (ap (λ (xs : List (Option (List ℕ))). get_or xs b None) e.host_set ∙ get_or-set_same s.host.copies b h None (omega arith))
          (ap (λ (xs : List (Option (List ℕ))). get_or xs b None) e.drive_set ∙ get_or-set_same s.drive.copies b d None (omega arith))
          (ap (λ (xs : List Flags). get_or xs b fresh) e.flags_set ∙ get_or-set_same s.flags b f fresh (omega arith));
      rest = λ c n. same_cell _ _ _ _ _ _
          (ap (λ (xs : List (Option (List ℕ))). get_or xs c None) e.host_set ∙ get_or-set_other s.host.copies b c h None n)
          (ap (λ (xs : List (Option (List ℕ))). get_or xs c None) e.drive_set ∙ get_or-set_other s.drive.copies b c d None n)
          (ap (λ (xs : List Flags). get_or xs c fresh) e.flags_set ∙ get_or-set_other s.flags b c f fresh n);
    }

agrees_set : (s s2 : Paired) (n b : ℕ) (cells : ℕ → Cell) (ho dr un ho2 dr2 un2 : List ℕ) (h d : Option (List ℕ)) (f : Flags) (v : Cell) → b < n → Agrees s n cells ho dr un → SetAt s s2 b h d f →
    (let w : Cell = record { host = h; drive = d; clean = f.clean; written = f.written; version = f.version } in w) ≡ v → s2.host.order ≡ ho2 → s2.drive.order ≡ dr2 → s2.unclean ≡ un2 → Agrees s2 n (put cells b v) ho2 dr2 un2
agrees_set s s2 n b cells ho dr un ho2 dr2 un2 h d f v l a e g eh ed eu =
    subst (λ (w : Cell). Agrees s2 n (put cells b w) ho2 dr2 un2) g (agrees_at s s2 n b cells ho dr un ho2 dr2 un2 _ a (set_changes s s2 n b cells ho dr un h d f l a e) eh ed eu)

-- where all stays
host_stays : (s : Paired) (b : ℕ) → s.host.copies ≡ set s.host.copies b (copy_at s.host b)
host_stays s b = sym (set-get_or s.host.copies b None)

drive_stays : (s : Paired) (b : ℕ) → s.drive.copies ≡ set s.drive.copies b (copy_at s.drive b)
drive_stays s b = sym (set-get_or s.drive.copies b None)

flags_stay : (s : Paired) (b : ℕ) → s.flags ≡ set s.flags b (flags_at s b)
flags_stay s b = sym (set-get_or s.flags b fresh)

pub agrees_new : (host drive n : ℕ) → Agrees (none_yet host drive n) n (λ b. record { host = None; drive = None; clean = true; written = false; version = 0 }) [] [] []
unfolding cell
agrees_new host drive n = record {
  blocks = length-replicate n fresh;
  host_blocks = length-replicate n None;
  drive_blocks = length-replicate n None;
  each = λ b l. same_cell _ _ _ _ _ _ (get_or-replicate n b None None l) (get_or-replicate n b None None l) (get_or-replicate n b fresh fresh l);
  host_is = refl;
  drive_is = refl;
  unclean_is = refl;
}

-- a copy that is read where it is
pub agrees_copied_here : (side : Side) (s : Paired) (n b : ℕ) (page : List ℕ) (cells : ℕ → Cell) (ho dr un : List ℕ) → b < n → Agrees s n cells ho dr un → copy_in side (cells b) ≡ Some page → Agrees (copied side s b) n cells (by_side side (last b ho) ho) (by_side side dr (last b dr)) un
agrees_copied_here Host s n b page cells ho dr un l a e =
    let g : copy_at s.host b ≡ Some page = ap (copy_in Host) (a.each b l) ∙ e in
    subst (λ (t : Paired). Agrees t n cells (last b ho) dr un) (ap (λ (o : Option (List ℕ)). with_caches Host (read_by o (copy_at s.drive b) s.host b) (read_from o (copy_at s.drive b) s.drive b) s) (sym g))
    (record { blocks = a.blocks; host_blocks = a.host_blocks; drive_blocks = a.drive_blocks; each = a.each; host_is = ap (last b) a.host_is; drive_is = a.drive_is; unclean_is = a.unclean_is })
agrees_copied_here Drive s n b page cells ho dr un l a e =
    let g : copy_at s.drive b ≡ Some page = ap (copy_in Drive) (a.each b l) ∙ e in
    subst (λ (t : Paired). Agrees t n cells ho (last b dr) un) (ap (λ (o : Option (List ℕ)). with_caches Drive (read_by o (copy_at s.host b) s.drive b) (read_from o (copy_at s.host b) s.host b) s) (sym g))
    (record { blocks = a.blocks; host_blocks = a.host_blocks; drive_blocks = a.drive_blocks; each = a.each; host_is = a.host_is; drive_is = ap (last b) a.drive_is; unclean_is = a.unclean_is })

-- a copy of the other side alone, which is put in here too
there_read : (side : Side) (s : Paired) (b : ℕ) (page : List ℕ) → copy_at (cache_at side s) b ≡ None → copy_at (cache_at (other side) s) b ≡ Some page → with_caches side (with_page (cache_at side s) b page) (used_now (cache_at (other side) s) b) s ≡ copied side s b
there_read side s b page e f =
    sym (ap (λ (o : Option (List ℕ)). with_caches side (read_by o (copy_at (cache_at (other side) s) b) (cache_at side s) b) (read_from o (copy_at (cache_at (other side) s) b) (cache_at (other side) s) b) s) e
    ∙ ap (λ (o : Option (List ℕ)). with_caches side (read_by None o (cache_at side s) b) (read_from None o (cache_at (other side) s) b) s) f)

pub agrees_copied_there : (side : Side) (s : Paired) (n b : ℕ) (page : List ℕ) (cells : ℕ → Cell) (ho dr un : List ℕ) → b < n → Agrees s n cells ho dr un → copy_in side (cells b) ≡ None → copy_in (other side) (cells b) ≡ Some page →
    Agrees (copied side s b) n (put cells b (with_copy side (Some page) (cells b))) (last b ho) (last b dr) un
agrees_copied_there Host s n b page cells ho dr un l a e f =
    subst (λ (t : Paired). Agrees t n (put cells b (with_copy Host (Some page) (cells b))) (last b ho) (last b dr) un) (there_read Host s b page (ap (copy_in Host) (a.each b l) ∙ e) (ap (copy_in Drive) (a.each b l) ∙ f))
    (agrees_set s _ n b cells ho dr un _ _ _ (Some page) (copy_at s.drive b) (flags_at s b) _ l a (record { host_set = refl; drive_set = drive_stays s b; flags_set = flags_stay s b }) (ap (with_copy Host (Some page)) (a.each b l)) (ap (last b) a.host_is) (ap (last b) a.drive_is) a.unclean_is)
agrees_copied_there Drive s n b page cells ho dr un l a e f =
    subst (λ (t : Paired). Agrees t n (put cells b (with_copy Drive (Some page) (cells b))) (last b ho) (last b dr) un) (there_read Drive s b page (ap (copy_in Drive) (a.each b l) ∙ e) (ap (copy_in Host) (a.each b l) ∙ f))
    (agrees_set s _ n b cells ho dr un _ _ _ (copy_at s.host b) (Some page) (flags_at s b) _ l a (record { host_set = host_stays s b; drive_set = refl; flags_set = flags_stay s b }) (ap (with_copy Drive (Some page)) (a.each b l)) (ap (last b) a.host_is) (ap (last b) a.drive_is) a.unclean_is)

-- no copy: nothing changes
none_read : (side : Side) (s : Paired) (b : ℕ) → copy_at (cache_at side s) b ≡ None → copy_at (cache_at (other side) s) b ≡ None → with_caches side (cache_at side s) (cache_at (other side) s) s ≡ copied side s b
none_read side s b e f =
    sym (ap (λ (o : Option (List ℕ)). with_caches side (read_by o (copy_at (cache_at (other side) s) b) (cache_at side s) b) (read_from o (copy_at (cache_at (other side) s) b) (cache_at (other side) s) b) s) e
    ∙ ap (λ (o : Option (List ℕ)). with_caches side (read_by None o (cache_at side s) b) (read_from None o (cache_at (other side) s) b) s) f)

pub agrees_copied_blank : (side : Side) (s : Paired) (n b : ℕ) (cells : ℕ → Cell) (ho dr un : List ℕ) → b < n → Agrees s n cells ho dr un → (cells b).host ≡ None → (cells b).drive ≡ None → Agrees (copied side s b) n cells ho dr un
agrees_copied_blank Host s n b cells ho dr un l a e f = subst (λ (t : Paired). Agrees t n cells ho dr un) (none_read Host s b (ap (copy_in Host) (a.each b l) ∙ e) (ap (copy_in Drive) (a.each b l) ∙ f)) a
agrees_copied_blank Drive s n b cells ho dr un l a e f = subst (λ (t : Paired). Agrees t n cells ho dr un) (none_read Drive s b (ap (copy_in Drive) (a.each b l) ∙ f) (ap (copy_in Host) (a.each b l) ∙ e)) a

pub agrees_taken : (s : Paired) (n b : ℕ) (cells : ℕ → Cell) (ho dr un : List ℕ) → b < n → Agrees s n cells ho dr un → Agrees (taken s b) n (put cells b (record (cells b) { host = None; drive = None })) (without b ho) (without b dr) (without b un)
agrees_taken s n b cells ho dr un l a =
    agrees_set s (taken s b) n b cells ho dr un _ _ _ None None (flags_at s b) _ l a (record { host_set = refl; drive_set = refl; flags_set = flags_stay s b }) (ap (λ (x : Cell). let y : Cell = record x { host = None; drive = None } in y) (a.each b l)) (ap (without b) a.host_is) (ap (without b) a.drive_is) (ap (without b) a.unclean_is)

-- the flags of a block that was written
written_flags : Flags → Flags
written_flags f = record f { clean = false; version = f.version + 1 }

pub agrees_installed : (side : Side) (s : Paired) (n b : ℕ) (page : List ℕ) (cells : ℕ → Cell) (ho dr un : List ℕ) → b < n → Agrees s n cells ho dr un →
    Agrees (installed side s b page) n (put cells b (written_cell side page (cells b))) (by_side side (last b ho) (without b ho)) (by_side side (without b dr) (last b dr)) (last b un)
unfolding written_flags
agrees_installed Host s n b page cells ho dr un l a =
    agrees_set s (installed Host s b page) n b cells ho dr un _ _ _ (Some page) None (written_flags (flags_at s b)) _ l a (record { host_set = refl; drive_set = refl; flags_set = refl }) (ap (written_cell Host page) (a.each b l)) (ap (last b) a.host_is) (ap (without b) a.drive_is) (ap (last b) a.unclean_is)
agrees_installed Drive s n b page cells ho dr un l a =
    agrees_set s (installed Drive s b page) n b cells ho dr un _ _ _ None (Some page) (written_flags (flags_at s b)) _ l a (record { host_set = refl; drive_set = refl; flags_set = refl }) (ap (written_cell Drive page) (a.each b l)) (ap (without b) a.host_is) (ap (last b) a.drive_is) (ap (last b) a.unclean_is)

pub agrees_filled : (side : Side) (s : Paired) (n b : ℕ) (page : List ℕ) (cells : ℕ → Cell) (ho dr un : List ℕ) → b < n → Agrees s n cells ho dr un →
    Agrees (filled side s b page) n (put cells b (with_copy side (Some page) (cells b))) (by_side side (last b ho) ho) (by_side side dr (last b dr)) un
agrees_filled Host s n b page cells ho dr un l a =
    agrees_set s (filled Host s b page) n b cells ho dr un _ _ _ (Some page) (copy_at s.drive b) (flags_at s b) _ l a (record { host_set = refl; drive_set = drive_stays s b; flags_set = flags_stay s b }) (ap (with_copy Host (Some page)) (a.each b l)) (ap (last b) a.host_is) a.drive_is a.unclean_is
agrees_filled Drive s n b page cells ho dr un l a =
    agrees_set s (filled Drive s b page) n b cells ho dr un _ _ _ (copy_at s.host b) (Some page) (flags_at s b) _ l a (record { host_set = host_stays s b; drive_set = refl; flags_set = flags_stay s b }) (ap (with_copy Drive (Some page)) (a.each b l)) a.host_is (ap (last b) a.drive_is) a.unclean_is

-- the unclean order alone changes
with_unclean : (s : Paired) (n : ℕ) (cells : ℕ → Cell) (ho dr un xs : List ℕ) → Agrees s n cells ho dr un → Agrees (record s { unclean = xs }) n cells ho dr xs
with_unclean s n cells ho dr un xs a = record { blocks = a.blocks; host_blocks = a.host_blocks; drive_blocks = a.drive_blocks; each = a.each; host_is = a.host_is; drive_is = a.drive_is; unclean_is = refl }

unclean_then : (b : ℕ) (s : Paired) (n : ℕ) (cells : ℕ → Cell) (ho dr un : List ℕ) → b < n → Agrees s n cells ho dr un → (if (flags_at s b).clean then s.unclean else last b s.unclean) ≡ (if (cells b).clean then un else last b un)
unclean_then b s n cells ho dr un l a =
    ap (λ (t : Bool). if t then s.unclean else last b s.unclean) (ap (λ (x : Cell). x.clean) (a.each b l)) ∙ ap (λ (xs : List ℕ). if (cells b).clean then xs else last b xs) a.unclean_is

pub agrees_put_back : (side : Side) (s : Paired) (n b : ℕ) (page : List ℕ) (cells : ℕ → Cell) (ho dr un : List ℕ) → b < n → Agrees s n cells ho dr un →
    Agrees (put_back_at side s b page) n (put cells b (with_copy side (Some page) (cells b))) (by_side side (last b ho) ho) (by_side side dr (last b dr)) (if (cells b).clean then un else last b un)
agrees_put_back side s n b page cells ho dr un l a =
    subst (λ (xs : List ℕ). Agrees (put_back_at side s b page) n (put cells b (with_copy side (Some page) (cells b))) (by_side side (last b ho) ho) (by_side side dr (last b dr)) xs) (unclean_then b s n cells ho dr un l a)
    (with_unclean (filled side s b page) n _ _ _ un _ (agrees_filled side s n b page cells ho dr un l a))

pub agrees_evicted : (side : Side) (s : Paired) (n b : ℕ) (cells : ℕ → Cell) (ho dr un : List ℕ) → b < n → Agrees s n cells ho dr un →
    Agrees (evicted side s b) n (put cells b (with_copy side None (cells b))) (by_side side (without b ho) ho) (by_side side dr (without b dr)) un
agrees_evicted Host s n b cells ho dr un l a =
    agrees_set s (evicted Host s b) n b cells ho dr un _ _ _ None (copy_at s.drive b) (flags_at s b) _ l a (record { host_set = refl; drive_set = drive_stays s b; flags_set = flags_stay s b }) (ap (with_copy Host None) (a.each b l)) (ap (without b) a.host_is) a.drive_is a.unclean_is
agrees_evicted Drive s n b cells ho dr un l a =
    agrees_set s (evicted Drive s b) n b cells ho dr un _ _ _ (copy_at s.host b) None (flags_at s b) _ l a (record { host_set = host_stays s b; drive_set = refl; flags_set = flags_stay s b }) (ap (with_copy Drive None) (a.each b l)) a.host_is (ap (without b) a.drive_is) a.unclean_is

pub agrees_demoted : (s : Paired) (n b : ℕ) (page : List ℕ) (cells : ℕ → Cell) (ho dr un : List ℕ) → b < n → Agrees s n cells ho dr un → Agrees (demoted s b page) n (put cells b (record (cells b) { host = None; drive = Some page })) (without b ho) (last b dr) un
agrees_demoted s n b page cells ho dr un l a =
    agrees_set s (demoted s b page) n b cells ho dr un _ _ _ None (Some page) (flags_at s b) _ l a (record { host_set = refl; drive_set = refl; flags_set = flags_stay s b }) (ap (λ (x : Cell). let y : Cell = record x { host = None; drive = Some page } in y) (a.each b l)) (ap (without b) a.host_is) (ap (last b) a.drive_is) a.unclean_is

-- a write that landed
flushed : Paired → ℕ → Bool → Paired
flushed s b t = if t then (let r : Paired = record s { flags = set s.flags b (record (flags_at s b) { clean = true; written = true }); unclean = without b s.unclean } in r) else s

clean_flags : Flags → Flags
clean_flags f = record f { clean = true; written = true }

landed : (s : Paired) (n b : ℕ) (cells : ℕ → Cell) (ho dr un : List ℕ) → b < n → Agrees s n cells ho dr un → Agrees (flushed s b true) n (put cells b (record (cells b) { clean = true; written = true })) ho dr (without b un)
unfolding flushed clean_flags
landed s n b cells ho dr un l a =
    agrees_set s (flushed s b true) n b cells ho dr un _ _ _ (copy_at s.host b) (copy_at s.drive b) (clean_flags (flags_at s b)) _ l a (record { host_set = host_stays s b; drive_set = drive_stays s b; flags_set = refl }) (ap (λ (x : Cell). let y : Cell = record x { clean = true; written = true } in y) (a.each b l)) a.host_is a.drive_is (ap (without b) a.unclean_is)

is_current : (version v w : ℕ) → v ≡ w → version ≡ w → (true && (version == v)) ≡ true
is_current version v w e f = grind (arith, nat_tests)

pub agrees_flushed : (s : Paired) (n b version : ℕ) (cells : ℕ → Cell) (ho dr un : List ℕ) → b < n → Agrees s n cells ho dr un → version ≡ (cells b).version → Agrees (flushed_in s b version true) n (put cells b (record (cells b) { clean = true; written = true })) ho dr (without b un)
unfolding flushed
agrees_flushed s n b version cells ho dr un l a e =
    subst (λ (t : Bool). Agrees (flushed s b t) n (put cells b (record (cells b) { clean = true; written = true })) ho dr (without b un)) (sym (is_current version (flags_at s b).version (cells b).version (ap (λ (x : Cell). x.version) (a.each b l)) e)) (landed s n b cells ho dr un l a)

-- a write that failed, or that another one has overtaken
is_past : (written : Bool) (version v w : ℕ) → v ≡ w → (written ≡ true → version ≢ w) → (written && (version == v)) ≡ false
is_past true version v w e f = let d = f refl in grind (arith, nat_tests)
is_past false version v w e f = refl

pub agrees_flush_lost : (s : Paired) (n b version : ℕ) (written : Bool) (cells : ℕ → Cell) (ho dr un : List ℕ) → b < n → Agrees s n cells ho dr un → (written ≡ true → version ≢ (cells b).version) → Agrees (flushed_in s b version written) n cells ho dr un
unfolding flushed
agrees_flush_lost s n b version written cells ho dr un l a e =
    subst (λ (t : Bool). Agrees (flushed s b t) n cells ho dr un) (sym (is_past written version (flags_at s b).version (cells b).version (ap (λ (x : Cell). x.version) (a.each b l)) e)) a

released_flags : Flags → Flags
released_flags f = record { clean = true; written = false; version = f.version + 1 }

pub agrees_released : (s : Paired) (n b : ℕ) (cells : ℕ → Cell) (ho dr un : List ℕ) → b < n → Agrees s n cells ho dr un → Agrees (released s b) n (put cells b (released_cell (cells b))) (without b ho) (without b dr) (without b un)
unfolding released_flags
agrees_released s n b cells ho dr un l a =
    agrees_set s (released s b) n b cells ho dr un _ _ _ None None (released_flags (flags_at s b)) _ l a (record { host_set = refl; drive_set = refl; flags_set = refl }) (ap released_cell (a.each b l)) (ap (without b) a.host_is) (ap (without b) a.drive_is) (ap (without b) a.unclean_is)

started_flags : Flags → Flags
started_flags f = record f { written = true }

pub agrees_started : (s : Paired) (n b : ℕ) (cells : ℕ → Cell) (ho dr un : List ℕ) → b < n → Agrees s n cells ho dr un → Agrees (started s b) n (put cells b (record (cells b) { written = true })) ho dr un
unfolding started_flags
agrees_started s n b cells ho dr un l a =
    agrees_set s (started s b) n b cells ho dr un _ _ _ (copy_at s.host b) (copy_at s.drive b) (started_flags (flags_at s b)) _ l a (record { host_set = host_stays s b; drive_set = drive_stays s b; flags_set = refl }) (ap (λ (x : Cell). let y : Cell = record x { written = true } in y) (a.each b l)) a.host_is a.drive_is a.unclean_is
