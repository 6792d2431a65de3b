-- The last sync: its next event is there and happens, each step leaves less, and it ends.
use Rattle.std.proofs.Common.{◌≡◌, ℕ, zero, suc, ◌+◌, ◌<◌, ◌≤◌, Bool, true, false, List, [], ◌∷◌, Option, Some, None, length, refl, sym, ap, ◌∙◌, subst, inl, inr, ⊎_elim, arith, length-append}
use Rattle.std.specs.Prelude.{◌⊎◌, ◌&&◌, not, is_some, nat_lt, slice_get, if◌then◌else◌, ◌==◌}
use Rattle.std.specs.List.{find}
use Rattle.std.proofs.lemmas.Bool.Decides.{nat_tests}
use Rattle.page_base.specs.Drive.{meta_pages}
use Rattle.index_lists.specs.Words.{put, one_if, count, without}
use Rattle.index_lists.proofs.Counts.{length-without}
use Rattle.core_state.specs.declared.actor.Actor.{Actor}
use Rattle.core_state.specs.declared.actor.Actor.TheVariants.{Closer}
use Rattle.core_state.specs.declared.event.Event.{Event}
use Rattle.core_state.specs.declared.event.Event.TheVariants.{Enter, Leave, Quick, Skip, Begin, Copy, Take, DieOut, FillIn, Submit, Fetch, Report, End, Evict, Demote, FlushOut, FlushIn, MetaIn}
use Rattle.core_state.specs.declared.event.Purpose.TheVariants.{Fill, Meta}
use Rattle.core_state.specs.State.{Page, Block, Loan, Errand, ToFill, ToFlush, ToMeta, Out, DieState, Core}
use Rattle.core_state.specs.Contents.{content, is_unclean, die_of, die_of_page, IsAway}
use Rattle.core_state.specs.InFlight.{IsLentTo}
use Rattle.core_state.specs.Coherent.{Coherent}
use Rattle.core_state.specs.DieEvents.{die_out, flush_of, sent, is_flushable, home_written, flushed_by, flushed_of, stored_by, stored_of, MayWriteMeta}
use Rattle.core_state.specs.Happens.{HoldsNone, IsClosing, CoreRun, Happens, actor_of, after}
use Rattle.core_state.specs.History.{is_failure}
use Rattle.core_state.specs.Happens.{after_all}
use Rattle.core_solo.specs.Solo.{Steps, Chosen, IsSyncNext, IsSyncStep, IsStored, SyncEnds, SyncFails, SoloSync, flush_event, sync_event}
use Rattle.core_solo.specs.Alone.{IsEncoding, OpeningFrames, dies_out}
use Rattle.core_solo.specs.Settling.{IsSettling, SettlesOn, SettleEnds, sync_left}
use Rattle.core_lemmas.proofs.Words.{low, nothing, same_some}
use Rattle.core_lemmas.proofs.Dies.{is_out}
use Rattle.core_solo.proofs.Words.{none_or_some, map_all, if_all, some_is, true_or_false}
use Rattle.core_solo.proofs.Rooms.{AllHome, none_held, listed_by}
use Rattle.core_solo.proofs.Flights.{sync_done, empty_of}
use Rattle.core_solo.proofs.Goes.{home_or_out, at_home_out, out_low}
use Rattle.core_solo.proofs.Falls.{outs_home, outs_out, outs_in}
use Rattle.core_solo.proofs.Bounds.{uncleans_most, meta_most, run_begins}
use Rattle.core_stores.proofs.Folds.{run_keeps}

-- ---- never stuck

abbrev pub Goes : Core → Event → Type 0
Goes c e = Happens c e (after c e)

flush_goes : (c : Core) → AllHome c → IsClosing c → (e : Event) → flush_event c Closer ≡ Some e → Goes c e
flush_goes c home closing = map_all (Goes c) (λ b. FlushOut Closer (die_of c.shape b) b) (find (is_flushable c) c.unclean)
    (λ b e. record { hands = λ t. none_held c home Closer; closing = λ q. closing; may = record { acts = tt; first = e; on_die = refl }; leaves = refl })

sync_goes : (encode : Core → ℕ → Page) (c : Core) → IsEncoding encode → Coherent c → AllHome c → IsClosing c → (e : Event) → sync_event encode c Closer c.closer ≡ Some e → Goes c e
sync_goes encode c whole h home closing =
    if_all (Goes c) (is_some (slice_get c.unclean 0)) (flush_event c Closer) (if nat_lt c.closer (meta_pages c.shape.blocks) then Some (DieOut Closer (die_of_page c.shape c.closer) (Meta c.closer (encode c c.closer))) else None)
    (λ t. flush_goes c home closing)
    (λ t. if_all (Goes c) (nat_lt c.closer (meta_pages c.shape.blocks)) (Some (DieOut Closer (die_of_page c.shape c.closer) (Meta c.closer (encode c c.closer)))) None
    (λ u. some_is (Goes c) (DieOut Closer (die_of_page c.shape c.closer) (Meta c.closer (encode c c.closer))) (record {
      hands = λ k. none_held c home Closer;
      closing = λ q. closing;
      may = record {
        writes = refl;
        below = low c.closer (meta_pages c.shape.blocks) u;
        first = λ k. empty_of c.unclean t;
        on_die = refl;
        home = home (die_of_page c.shape c.closer);
        whole = whole c h c.closer (low c.closer (meta_pages c.shape.blocks) u);
      };
      leaves = refl;
    }))
    (λ u e q. absurd (cc)))

home_goes : (encode : Core → ℕ → Page) (c : Core) (die : ℕ) (actor : Actor) → IsClosing c → actor ≡ Closer → (errand : Errand) → (c.dies die).out ≡ Some (record { holder = actor; errand = errand }) → SettlesOn encode c
home_goes encode c die actor closing is (ToFill l i) e = record { event = FillIn actor die true; next = is; happens = record { hands = λ t. absurd (cc); closing = λ q. closing; may = record { lane = l; i = i; out = e }; leaves = refl } }
home_goes encode c die actor closing is (ToFlush b v p) e = record {
  event = FlushIn actor die true [];
  next = is;
  happens = record { hands = λ t. absurd (cc); closing = λ q. closing; may = record { b = b; version = v; page = p; out = e; left_is = record { ok = λ t. refl; failed = λ t. absurd (cc) } }; leaves = refl };
}
home_goes encode c die actor closing is (ToMeta n bytes) e = record {
  event = MetaIn actor die true [];
  next = is;
  happens = record { hands = λ t. absurd (cc); closing = λ q. closing; may = record { number = n; bytes = bytes; out = e; left_is = record { ok = λ t. refl; failed = λ t. absurd (cc) } }; leaves = refl };
}

-- all is stored, or the next event is there
pub settles_on : (encode : Core → ℕ → Page) (c : Core) → IsEncoding encode → Coherent c → IsSettling c → IsStored c ⊎ SettlesOn encode c
settles_on encode c whole h s = ⊎_elim
    (λ (home : AllHome c). ⊎_elim
    (λ none. let k = sync_done encode c Closer c.closer home s.most none in inl (record { clean = k.0; all = k.1 }))
    (λ some.
    let g = sync_goes encode c whole h home s.closing some.0 some.1 in
    inr (record {
      event = some.0;
      next = subst (λ (t : Bool). Chosen t (actor_of some.0 ≡ Closer) (sync_event encode c Closer c.closer ≡ Some some.0)) (sym (at_home_out c some.0 home g)) some.1;
      happens = g;
    })) (none_or_some (sync_event encode c Closer c.closer)))
    (λ o. inr (home_goes encode c o.0 (o.1).holder s.closing (s.holder o.0 o.1 o.2) (o.1).errand o.2)) (home_or_out c h)

-- ---- what the next event is like

abbrev pub Fits : Event → Type 0
Fits (DieOut actor die (Fill l i)) = ⊥
Fits (DieOut actor die (Meta n bytes)) = actor ≡ Closer
Fits (FlushOut actor die b) = actor ≡ Closer
Fits (FillIn actor die good) = actor ≡ Closer
Fits (FlushIn actor die good left) = actor ≡ Closer
Fits (MetaIn actor die good left) = actor ≡ Closer
Fits _ = ⊥

none_fits : (e : Event) → None ≡ Some e → Fits e
none_fits e q = absurd (cc)

sync_fits : (encode : Core → ℕ → Page) (c : Core) → (e : Event) → sync_event encode c Closer c.closer ≡ Some e → Fits e
sync_fits encode c =
    if_all Fits (is_some (slice_get c.unclean 0)) (flush_event c Closer) (if nat_lt c.closer (meta_pages c.shape.blocks) then Some (DieOut Closer (die_of_page c.shape c.closer) (Meta c.closer (encode c c.closer))) else None)
    (λ t. map_all Fits (λ b. FlushOut Closer (die_of c.shape b) b) (find (is_flushable c) c.unclean) (λ b e. refl))
    (λ t. if_all Fits (nat_lt c.closer (meta_pages c.shape.blocks)) (Some (DieOut Closer (die_of_page c.shape c.closer) (Meta c.closer (encode c c.closer)))) None
    (λ u. some_is Fits (DieOut Closer (die_of_page c.shape c.closer) (Meta c.closer (encode c c.closer))) refl) (λ u. none_fits))

pub fits_of : (encode : Core → ℕ → Page) (c : Core) (e : Event) → IsSyncNext encode c e → Fits e
fits_of encode c (FillIn actor die good) k = k
fits_of encode c (FlushIn actor die good left) k = k
fits_of encode c (MetaIn actor die good left) k = k
fits_of encode c (Enter l) k = sync_fits encode c _ k
fits_of encode c (Leave l) k = sync_fits encode c _ k
fits_of encode c (Quick l asked reply) k = sync_fits encode c _ k
fits_of encode c (Skip l asked fault) k = sync_fits encode c _ k
fits_of encode c (Begin l asked side) k = sync_fits encode c _ k
fits_of encode c (Copy actor l i) k = sync_fits encode c _ k
fits_of encode c (Take actor l i) k = sync_fits encode c _ k
fits_of encode c (DieOut actor die purpose) k = sync_fits encode c _ k
fits_of encode c (Submit l) k = sync_fits encode c _ k
fits_of encode c (Fetch worker l) k = sync_fits encode c _ k
fits_of encode c (Report worker l) k = sync_fits encode c _ k
fits_of encode c (End l asked reply) k = sync_fits encode c _ k
fits_of encode c (Evict actor side b) k = sync_fits encode c _ k
fits_of encode c (Demote actor b) k = sync_fits encode c _ k
fits_of encode c (FlushOut actor die b) k = sync_fits encode c _ k

-- ---- each step

pub record HasSettled (c c2 : Core) : Type 0 where
  pub settling : IsSettling c2
  pub falls : sync_left c2 + dies_out c + 1 ≤ sync_left c + dies_out c2

pub free_home : (c : Core) → IsSettling c → HoldsNone c Closer → AllHome c
free_home c s free die = ⊎_elim (λ n. n) (λ o. absurd (free die o.0 o.1 (s.holder die o.0 o.1))) (none_or_some (c.dies die).out)

pub home_again : (c : Core) → Coherent c → IsSettling c → (die : ℕ) (out : Out) → (c.dies die).out ≡ Some out → (x : DieState) → x.out ≡ None → (d : ℕ) → (put c.dies die x d).out ≡ None
home_again c h s die out e x none d = ⊎_elim (λ n. n)
    (λ o. ⊎_elim (λ u. absurd (nothing x.out o.0 none u.1))
    (λ u. absurd (u.0 (h.dies.one_each d die o.0 out u.1 e (s.holder d o.0 u.1 ∙ sym (s.holder die out e))))) (is_out c.dies die x d o.0 o.1))
    (none_or_some (put c.dies die x d).out)

pub at_home : (c c2 : Core) → IsClosing c2 → AllHome c2 → c2.closer ≤ meta_pages c2.shape.blocks → IsSettling c2
at_home c c2 closing home most = record {
  closing = closing;
  holder = λ die out e. absurd (nothing (c2.dies die).out out (home die) e);
  flush = λ die holder b v p e. absurd (nothing (c2.dies die).out _ (home die) e);
  most = most;
  writing = λ die holder n bytes e. absurd (nothing (c2.dies die).out _ (home die) e);
}

out_settled : (c : Core) (die : ℕ) (errand : Errand) → IsSettling c → AllHome c → die < c.shape.dies → ((b v : ℕ) (p : Page) → errand ≡ ToFlush b v p → v ≡ (c.blocks b).version) → ((n : ℕ) (bytes : Page) → errand ≡ ToMeta n bytes → c.closer < meta_pages c.shape.blocks) → HasSettled c (die_out c Closer die errand)
out_settled c die errand s home l flush writing =
    let z = outs_home c home in
    let o = outs_out c Closer die errand home l in
    record {
      settling = record {
        closing = record { left = s.closing.left; none = s.closing.none };
        holder = λ d out e. ⊎_elim (λ u. sym (ap (λ (k : Out). k.holder) (same_some _ _ out refl u.1))) (λ u. absurd (nothing (c.dies d).out out (home d) u.1)) (is_out c.dies die (sent (c.dies die) Closer errand) d out e);
        flush = λ d holder b v p e. ⊎_elim (λ u. flush b v p (ap (λ (k : Out). k.errand) (same_some _ _ (record { holder = holder; errand = ToFlush b v p }) refl u.1))) (λ u. absurd (nothing (c.dies d).out _ (home d) u.1)) (is_out c.dies die (sent (c.dies die) Closer errand) d _ e);
        most = s.most;
        writing = λ d holder n bytes e. ⊎_elim (λ u. writing n bytes (ap (λ (k : Out). k.errand) (same_some _ _ (record { holder = holder; errand = ToMeta n bytes }) refl u.1))) (λ u. absurd (nothing (c.dies d).out _ (home d) u.1)) (is_out c.dies die (sent (c.dies die) Closer errand) d _ e);
      };
      falls = omega arith;
    }

pub unclean_listed : (c : Core) (b : ℕ) → Coherent c → IsClosing c → (c.blocks b).clean ≡ false → 0 < count b c.unclean
unclean_listed c b h closing unclean =
    listed_by (is_unclean (c.blocks b)) (count b c.unclean) (h.orders.ordered.unclean b) (there (c.blocks b) unclean (h.unclean b unclean) alone)
  where
    lent_not : (loan : Loan) → IsLentTo c.places c.calls b loan → ⊥
    lent_not loan l = nothing (c.calls loan.lane) l.call (closing.none loan.lane) l.flies

    alone : (c.blocks b).lent ≡ None
    alone = ⊎_elim (λ n. n) (λ s. absurd (lent_not s.0 (h.lent.held b s.0 s.1))) (none_or_some (c.blocks b).lent)

    there : (x : Block) → x.clean ≡ false → (IsAway x → ⊥) → x.lent ≡ None → is_unclean x ≡ true
    there x e away alone = go x.host x.drive refl refl
      where
        go : (p q : Option Page) → x.host ≡ p → x.drive ≡ q → is_unclean x ≡ true
        go None None ep eq = absurd (away (record { host = ep; drive = eq; lent = alone }))
        go (Some p) q ep eq = grind arith
        go None (Some q) ep eq = grind arith

equal : (a b : ℕ) → a ≡ b → (a == b) ≡ true
equal a b e = grind (arith, nat_tests)

and_same : (t u : Bool) → t ≡ true → u ≡ true → (t && u) ≡ true
and_same t u e f = cc

not_failed : (t : Bool) → not t ≡ false → t ≡ true
not_failed true e = refl
not_failed false e = absurd (cc)

pub settled_after : (e : Event) (c : Core) → Coherent c → IsSettling c → Fits e → Happens c e (after c e) → is_failure e ≡ false → HasSettled c (after c e)
settled_after (DieOut actor die (Fill l i)) c h s fit k good = absurd fit
settled_after (DieOut actor die (Meta n bytes)) c h s fit k good =
    let home = free_home c s (subst (λ (a : Actor). HoldsNone c a) fit (k.hands refl)) in
    let d = h.placed.drive.some_dies in
    let e = k.may.on_die in
    let below = k.may.below in
    let writes : c.closer ≡ n = subst (λ (a : Actor). MayWriteMeta c a n) fit k.may.writes in
    subst (λ (a : Actor). HasSettled c (die_out c a die (ToMeta n bytes))) (sym fit) (out_settled c die (ToMeta n bytes) s home (omega arith) (λ b v p q. absurd (cc)) (λ m by q. omega arith))
settled_after (FlushOut actor die b) c h s fit k good =
    let home = free_home c s (subst (λ (a : Actor). HoldsNone c a) fit (k.hands refl)) in
    let d = h.placed.drive.some_dies in
    let e = k.may.on_die in
    subst (λ (a : Actor). HasSettled c (die_out c a die (flush_of c b))) (sym fit) (out_settled c die (flush_of c b) s home (omega arith) (versions b) (λ m by q. absurd (cc)))
  where
    versions : (b b2 v : ℕ) (p : Page) → ToFlush b (c.blocks b).version (content (c.blocks b)) ≡ ToFlush b2 v p → v ≡ (c.blocks b2).version
    versions b b2 v p e = let f : b ≡ b2 = cc in let g : (c.blocks b).version ≡ v = cc in sym g ∙ ap (λ (k : ℕ). (c.blocks k).version) f
settled_after (FillIn actor die good) c h s fit k is_good =
    let f = h.dies.right die (record { holder = actor; errand = ToFill k.may.lane k.may.i }) k.may.out in
    absurd (nothing (c.calls k.may.lane) f.call (s.closing.none k.may.lane) f.flies)
settled_after (FlushIn actor die good left) c h s fit k is_good =
    let may = k.may in
    subst (λ (o : Option Out). HasSettled c (flushed_by c actor die good left o)) (sym may.out)
    (subst (λ (a : Actor). HasSettled c (flushed_of c a die good left may.b may.page (good && (may.version == (c.blocks may.b).version)))) (sym fit) (done may.b may.version may.page may.out))
  where
    done : (b v : ℕ) (p : Page) → (c.dies die).out ≡ Some (record { holder = actor; errand = ToFlush b v p }) → HasSettled c (flushed_of c Closer die good left b p (good && (v == (c.blocks b).version)))
    done b v p out =
        let version = s.flush die actor b v p out in
        let right = h.dies.right die (record { holder = actor; errand = ToFlush b v p }) out in
        let listed = unclean_listed c b h s.closing (right.2.same version).0 in
        let now : (good && (v == (c.blocks b).version)) ≡ true = and_same good _ (not_failed good is_good) (equal v (c.blocks b).version version) in
        let home = home_again c h s die _ out (home_written (c.dies die) good) refl in
        let outs = outs_in c (flushed_of c Closer die good left b p (good && (v == (c.blocks b).version))) die _ (home_written (c.dies die) good) out (out_low c h die _ out) refl refl refl home in
        let a = outs.0 in
        let d = outs.1 in
        let l = length-without b c.unclean in
        let q : length (if (good && (v == (c.blocks b).version)) then without b c.unclean else c.unclean) ≡ length (without b c.unclean) = ap (λ (t : Bool). length (if t then without b c.unclean else c.unclean)) now in
        record { settling = at_home c _ (record { left = s.closing.left; none = s.closing.none }) home s.most; falls = omega arith }
settled_after (MetaIn actor die good left) c h s fit k is_good =
    let may = k.may in
    subst (λ (o : Option Out). HasSettled c (stored_by c actor die good left o)) (sym may.out)
    (subst (λ (a : Actor). HasSettled c (stored_of c a die good left may.number may.bytes)) (sym fit) (done may.number may.bytes may.out))
  where
    done : (n : ℕ) (bytes : Page) → (c.dies die).out ≡ Some (record { holder = actor; errand = ToMeta n bytes }) → HasSettled c (stored_of c Closer die good left n bytes)
    done n bytes out =
        let writing = s.writing die actor n bytes out in
        let home = home_again c h s die _ out (home_written (c.dies die) good) refl in
        let outs = outs_in c (stored_of c Closer die good left n bytes) die _ (home_written (c.dies die) good) out (out_low c h die _ out) refl refl refl home in
        let a = outs.0 in
        let d = outs.1 in
        let o : one_if good ≡ 1 = ap one_if (not_failed good is_good) in
        record { settling = at_home c _ (record { left = s.closing.left; none = s.closing.none }) home (omega arith); falls = omega arith }
settled_after (Enter l) c h s fit k good = absurd fit
settled_after (Leave l) c h s fit k good = absurd fit
settled_after (Quick l asked reply) c h s fit k good = absurd fit
settled_after (Skip l asked fault) c h s fit k good = absurd fit
settled_after (Begin l asked side) c h s fit k good = absurd fit
settled_after (Copy actor l i) c h s fit k good = absurd fit
settled_after (Take actor l i) c h s fit k good = absurd fit
settled_after (Submit l) c h s fit k good = absurd fit
settled_after (Fetch worker l) c h s fit k good = absurd fit
settled_after (Report worker l) c h s fit k good = absurd fit
settled_after (End l asked reply) c h s fit k good = absurd fit
settled_after (Evict actor side b) c h s fit k good = absurd fit
settled_after (Demote actor b) c h s fit k good = absurd fit

pub step_settles : (encode : Core → ℕ → Page) (c : Core) (e : Event) → Coherent c → IsSettling c → IsSyncStep encode c e → Happens c e (after c e) → HasSettled c (after c e)
step_settles encode c e h s step k = settled_after e c h s (fits_of encode c e step.next) k step.good

-- ---- all of it

pub record SyncStepped (c : Core) (n : ℕ) (c1 : Core) : Type 0 where
  pub coherent : Coherent c1
  pub settling : IsSettling c1
  pub falls : n + sync_left c1 + dies_out c ≤ sync_left c + dies_out c1

pub sync_stepped : (encode : Core → ℕ → Page) (es : List Event) (c c1 : Core) → Coherent c → IsSettling c → Steps (IsSyncStep encode) c es → CoreRun c es c1 → SyncStepped c (length es) c1
sync_stepped encode [] c c1 h s steps run = subst (SyncStepped c 0) (sym run) (record { coherent = h; settling = s; falls = omega arith })
sync_stepped encode (e ∷ es) c c1 h s steps run =
    let k = step_settles encode c e h s steps.0 run.0 in
    let h2 = run_keeps c (after c e) (e ∷ []) h (run.0, refl) in
    let rest = sync_stepped encode es (after c e) c1 h2 k.settling steps.1 run.1 in
    let a = k.falls in
    let b = rest.falls in
    record { coherent = rest.coherent; settling = rest.settling; falls = omega arith }

pub sync_outs : (c : Core) → Coherent c → IsSettling c → dies_out c ≤ 1
sync_outs c h s = ⊎_elim (λ (home : AllHome c). let z = outs_home c home in omega arith) (λ o. one o.0 o.1 o.2) (home_or_out c h)
  where
    one : (die : ℕ) (out : Out) → (c.dies die).out ≡ Some out → dies_out c ≤ 1
    one die out e =
        let x : DieState = record { out = None; fills = 0; writes = 0; failed = 0 } in
        let k = outs_in c (record c { dies = put c.dies die x }) die out x e (out_low c h die out e) refl refl refl (home_again c h s die out e x refl) in
        let a = k.0 in
        omega arith

pub left_most : (c : Core) → OpeningFrames c.shape → Coherent c → sync_left c ≤ 1542
left_most c f h =
    let a = h.frames.host in
    let b = h.frames.drive in
    let u = uncleans_most c h in
    let p = f.host in
    let q = f.drive in
    let m = meta_most c.shape.blocks c.shape.dies h.placed.drive in
    omega arith

pub sync_short : (encode : Core → ℕ → Page) (es : List Event) (c c1 : Core) → OpeningFrames c.shape → Coherent c → IsSettling c → SoloSync encode c es → CoreRun c es c1 → length es ≤ 4096
sync_short encode es c c1 f h s sync run = ⊎_elim
    (λ (ends : SyncEnds encode c es).
    let k = sync_stepped encode es c c1 h s ends.steps run in
    let a = k.falls in
    let b = sync_outs c1 k.coherent k.settling in
    let m = left_most c f h in
    omega arith)
    (λ (fails : SyncFails encode c es).
    let parts = run_begins fails.most (fails.last ∷ []) c c1 (subst (λ (xs : List Event). CoreRun c xs c1) fails.whole run) in
    let k = sync_stepped encode fails.most c (after_all c fails.most) h s fails.steps parts.0 in
    let a = k.falls in
    let b = sync_outs (after_all c fails.most) k.coherent k.settling in
    let m = left_most c f h in
    let l = ap length fails.whole in
    omega (arith, length-append fails.most (fails.last ∷ []))) sync

-- ---- it can be made to its end

sync_more : (encode : Core → ℕ → Page) (c : Core) (e : Event) → IsSyncStep encode c e → Happens c e (after c e) → SettleEnds encode (after c e) → SettleEnds encode c
sync_more encode c e step k rest = record {
  events = e ∷ rest.events;
  sync = ⊎_elim
      (λ (ends : SyncEnds encode (after c e) rest.events). inl (record { steps = (step, ends.steps); stored = ends.stored }))
      (λ (fails : SyncFails encode (after c e) rest.events). inr (record { most = e ∷ fails.most; last = fails.last; whole = ap (λ (xs : List Event). e ∷ xs) fails.whole; steps = (step, fails.steps); next = fails.next; failed = fails.failed })) rest.sync;
  run = (k, rest.run);
}

sync_failed : (encode : Core → ℕ → Page) (c : Core) (e : Event) → IsSyncNext encode c e → Happens c e (after c e) → is_failure e ≡ true → SettleEnds encode c
sync_failed encode c e next k failed = record {
  events = e ∷ [];
  sync = inr (record { most = []; last = e; whole = refl; steps = tt; next = next; failed = failed });
  run = (k, refl);
}

pub settles_in : (n : ℕ) (encode : Core → ℕ → Page) (c : Core) → IsEncoding encode → Coherent c → IsSettling c → sync_left c + 1 ≤ n + dies_out c → SettleEnds encode c
settles_in zero encode c whole h s l = ⊎_elim
    (λ stored. record { events = []; sync = inl (record { steps = tt; stored = stored }); run = refl })
    (λ g. ⊎_elim (λ failed. sync_failed encode c g.event g.next g.happens failed)
    (λ good.
    let k = step_settles encode c g.event h s (record { next = g.next; good = good }) g.happens in
    let h2 = run_keeps c (after c g.event) (g.event ∷ []) h (g.happens, refl) in
    let a = k.falls in
    let b = sync_outs (after c g.event) h2 k.settling in
    absurd (omega arith)) (true_or_false (is_failure g.event))) (settles_on encode c whole h s)
settles_in (suc n) encode c whole h s l = ⊎_elim
    (λ stored. record { events = []; sync = inl (record { steps = tt; stored = stored }); run = refl })
    (λ g. ⊎_elim (λ failed. sync_failed encode c g.event g.next g.happens failed)
    (λ good.
    let step : IsSyncStep encode c g.event = record { next = g.next; good = good } in
    let k = step_settles encode c g.event h s step g.happens in
    let h2 = run_keeps c (after c g.event) (g.event ∷ []) h (g.happens, refl) in
    let a = k.falls in
    sync_more encode c g.event step g.happens (settles_in n encode (after c g.event) whole h2 k.settling (omega arith))) (true_or_false (is_failure g.event))) (settles_on encode c whole h s)

pub settle_ends : (encode : Core → ℕ → Page) (c : Core) → IsEncoding encode → Coherent c → IsSettling c → SettleEnds encode c
settle_ends encode c whole h s = settles_in (sync_left c + 1) encode c whole h s (omega arith)
