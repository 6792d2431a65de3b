-- A last sync that comes to its end has stored all.
use Rattle.std.proofs.Common.{length, ◌++◌, ◌≡◌, ℕ, ◌<◌, Bool, true, false, List, [], ◌∷◌, Option, Some, None, refl, sym, ap, ◌∙◌, subst, ⊎_elim, arith}
use Rattle.std.specs.Prelude.{◌≢◌, ◌&&◌, not, is_some, nat_lt, slice_get, if◌then◌else◌, ◌==◌}
use Rattle.std.specs.List.{find}
use Rattle.page_base.specs.Drive.{meta_pages}
use Rattle.index_lists.specs.Words.{put, one_if, count}
use Rattle.index_lists.proofs.Counts.{same_or_not, count-nil}
use Rattle.index_lists.proofs.Puts.{put-same, put-other}
use Rattle.core_state.specs.declared.actor.Actor.{Actor}
use Rattle.core_state.specs.declared.actor.Actor.TheVariants.{Closer}
use Rattle.core_state.specs.declared.event.Event.{Event}
use Rattle.core_state.specs.declared.event.Event.TheVariants.{Enter, Leave, Quick, Skip, Begin, Copy, Take, DieOut, FillIn, Submit, Fetch, Report, End, Evict, Demote, FlushOut, FlushIn, MetaIn}
use Rattle.core_state.specs.declared.event.Purpose.TheVariants.{Fill, Meta}
use Rattle.core_state.specs.State.{Page, Errand, ToFill, ToFlush, ToMeta, Out, Core}
use Rattle.core_state.specs.Contents.{die_of, die_of_page}
use Rattle.core_state.specs.Coherent.{Coherent}
use Rattle.core_state.specs.DieEvents.{die_out, flush_of, sent, is_flushable, home_written, written_page, flushed_by, flushed_of, stored_by, stored_of}
use Rattle.core_state.specs.Happens.{HoldsNone, CoreRun, Happens, after}
use Rattle.core_state.specs.History.{is_failure}
use Rattle.core_state.specs.Happens.{after_all}
use Rattle.core_solo.specs.Alone.{OpeningFrames}
use Rattle.core_solo.specs.Settling.{IsFresh}
use Rattle.core_solo.proofs.Folds.{after_both}
use Rattle.core_solo.proofs.Whole.{parts_of}
use Rattle.core_solo.specs.Solo.{Script, SoloRun, enters, leaves, Steps, IsSyncNext, IsSyncStep, SyncEnds, flush_event, sync_event}
use Rattle.core_solo.specs.Settling.{IsSettling}
use Rattle.core_solo.specs.Stored.{IsOfDrive, IsAllStored}
use Rattle.core_lemmas.proofs.Words.{nothing, same_some}
use Rattle.core_lemmas.proofs.Dies.{is_out}
use Rattle.core_stores.proofs.Folds.{run_keeps}
use Rattle.core_solo.proofs.Words.{map_all, if_all, some_is, true_or_false}
use Rattle.core_solo.proofs.Rooms.{AllHome}
use Rattle.core_solo.proofs.Flights.{empty_of}
use Rattle.core_solo.proofs.Closing.{Fits, fits_of, free_home, home_again, unclean_listed, step_settles}

-- what is written is right, and nothing is unclean any more
pub record IsStoring (encode : Core → ℕ → Page) (c : Core) : Type 0 where
  pub stored : (n : ℕ) → n < c.closer → c.meta n ≡ encode c n
  pub flushed : 0 < c.closer → c.unclean ≡ []
  pub writing : (die : ℕ) (holder : Actor) (n : ℕ) (bytes : Page) → (c.dies die).out ≡ Some (record { holder = holder; errand = ToMeta n bytes }) → (n ≡ c.closer) × (bytes ≡ encode c n) × (c.unclean ≡ [])

-- a meta page goes out with the bytes of this core, once nothing is unclean
abbrev Tells : (Core → ℕ → Page) → Core → Event → Type 0
Tells encode c (DieOut actor die (Meta n bytes)) = (n ≡ c.closer) × (bytes ≡ encode c n) × (c.unclean ≡ [])
Tells encode c _ = Unit {0}

none_tells : (encode : Core → ℕ → Page) (c : Core) (e : Event) → None ≡ Some e → Tells encode c e
none_tells encode c e q = absurd (cc)

sync_tells : (encode : Core → ℕ → Page) (c : Core) → (e : Event) → sync_event encode c Closer c.closer ≡ Some e → Tells encode c e
sync_tells encode c =
    if_all (Tells encode c) (is_some (slice_get c.unclean 0)) (flush_event c Closer) (if nat_lt c.closer (meta_pages c.shape.blocks) then Some (DieOut Closer (die_of_page c.shape c.closer) (Meta c.closer (encode c c.closer))) else None)
    (λ t. map_all (Tells encode c) (λ b. FlushOut Closer (die_of c.shape b) b) (find (is_flushable c) c.unclean) (λ b e. tt))
    (λ t. if_all (Tells encode c) (nat_lt c.closer (meta_pages c.shape.blocks)) (Some (DieOut Closer (die_of_page c.shape c.closer) (Meta c.closer (encode c c.closer)))) None
    (λ u. some_is (Tells encode c) (DieOut Closer (die_of_page c.shape c.closer) (Meta c.closer (encode c c.closer))) (refl, refl, empty_of c.unclean t)) (λ u. none_tells encode c))

tells_of : (encode : Core → ℕ → Page) (c : Core) (e : Event) → IsSyncNext encode c e → Tells encode c e
tells_of encode c (DieOut actor die purpose) k = sync_tells encode c _ k
tells_of encode c (FillIn actor die good) k = tt
tells_of encode c (FlushIn actor die good left) k = tt
tells_of encode c (MetaIn actor die good left) k = tt
tells_of encode c (Enter l) k = tt
tells_of encode c (Leave l) k = tt
tells_of encode c (Quick l asked reply) k = tt
tells_of encode c (Skip l asked fault) k = tt
tells_of encode c (Begin l asked side) k = tt
tells_of encode c (Copy actor l i) k = tt
tells_of encode c (Take actor l i) k = tt
tells_of encode c (Submit l) k = tt
tells_of encode c (Fetch worker l) k = tt
tells_of encode c (Report worker l) k = tt
tells_of encode c (End l asked reply) k = tt
tells_of encode c (Evict actor side b) k = tt
tells_of encode c (Demote actor b) k = tt
tells_of encode c (FlushOut actor die b) k = tt

-- a die goes out
out_storing : (encode : Core → ℕ → Page) (c : Core) (actor : Actor) (die : ℕ) (errand : Errand) → IsOfDrive encode → AllHome c → IsStoring encode c → ((n : ℕ) (bytes : Page) → errand ≡ ToMeta n bytes → (n ≡ c.closer) × (bytes ≡ encode c n) × (c.unclean ≡ [])) → IsStoring encode (die_out c actor die errand)
out_storing encode c actor die errand of home s writes = record {
  stored = λ n l. s.stored n l ∙ sym (same n);
  flushed = s.flushed;
  writing = λ d holder n bytes e. ⊎_elim
      (λ u. let k = writes n bytes (ap (λ (o : Out). o.errand) (same_some _ _ (record { holder = holder; errand = ToMeta n bytes }) refl u.1)) in (k.0, k.1 ∙ sym (same n), k.2))
      (λ u. absurd (nothing (c.dies d).out _ (home d) u.1)) (is_out c.dies die (sent (c.dies die) actor errand) d _ e);
}
  where
    same : (n : ℕ) → encode (die_out c actor die errand) n ≡ encode c n
    same = of c (die_out c actor die errand) refl refl refl (λ b. refl)

not_failed : (t : Bool) → not t ≡ false → t ≡ true
not_failed true e = refl
not_failed false e = absurd (cc)

storing_after : (encode : Core → ℕ → Page) (e : Event) (c : Core) → IsOfDrive encode → Coherent c → IsSettling c → IsStoring encode c → Fits e → Tells encode c e → Happens c e (after c e) → is_failure e ≡ false → IsStoring encode (after c e)
storing_after encode (DieOut actor die (Fill l i)) c of h s st fit t k good = absurd fit
storing_after encode (DieOut actor die (Meta n bytes)) c of h s st fit t k good =
    out_storing encode c actor die (ToMeta n bytes) of (free_home c s (subst (λ (a : Actor). HoldsNone c a) fit (k.hands refl))) st
    (λ m by q. let a : n ≡ m = cc in let b : bytes ≡ by = cc in (sym a ∙ t.0, sym b ∙ (t.1 ∙ ap (encode c) a), t.2))
storing_after encode (FlushOut actor die b) c of h s st fit t k good =
    out_storing encode c actor die (flush_of c b) of (free_home c s (subst (λ (a : Actor). HoldsNone c a) fit (k.hands refl))) st (λ m by q. absurd (cc))
storing_after encode (FillIn actor die good) c of h s st fit t k is_good =
    let f = h.dies.right die (record { holder = actor; errand = ToFill k.may.lane k.may.i }) k.may.out in
    absurd (nothing (c.calls k.may.lane) f.call (s.closing.none k.may.lane) f.flies)
storing_after encode (FlushIn actor die good left) c of h s st fit t k is_good =
    subst (λ (o : Option Out). IsStoring encode (flushed_by c actor die good left o)) (sym k.may.out)
    (subst (λ (a : Actor). IsStoring encode (flushed_of c a die good left k.may.b k.may.page (good && (k.may.version == (c.blocks k.may.b).version)))) (sym fit) (done k.may.b k.may.version k.may.page k.may.out))
  where
    done : (b v : ℕ) (p : Page) → (c.dies die).out ≡ Some (record { holder = actor; errand = ToFlush b v p }) → IsStoring encode (flushed_of c Closer die good left b p (good && (v == (c.blocks b).version)))
    done b v p out =
        let right = h.dies.right die (record { holder = actor; errand = ToFlush b v p }) out in
        let listed = unclean_listed c b h s.closing (right.2.same (s.flush die actor b v p out)).0 in
        let none : 0 < c.closer → ⊥ = λ l. (let e = ap (count b) (st.flushed l) ∙ count-nil b in omega arith) in
        let home = home_again c h s die _ out (home_written (c.dies die) good) refl in
        record {
          stored = λ n l. absurd (none (omega arith));
          flushed = λ l. absurd (none l);
          writing = λ d holder n bytes e. absurd (nothing (put c.dies die (home_written (c.dies die) good) d).out _ (home d) e);
        }
storing_after encode (MetaIn actor die good left) c of h s st fit t k is_good =
    subst (λ (o : Option Out). IsStoring encode (stored_by c actor die good left o)) (sym k.may.out)
    (subst (λ (a : Actor). IsStoring encode (stored_of c a die good left k.may.number k.may.bytes)) (sym fit) (done k.may.number k.may.bytes k.may.out))
  where
    done : (n : ℕ) (bytes : Page) → (c.dies die).out ≡ Some (record { holder = actor; errand = ToMeta n bytes }) → IsStoring encode (stored_of c Closer die good left n bytes)
    done n bytes out =
        let w = st.writing die actor n bytes out in
        let good_is = not_failed good is_good in
        let page : written_page good bytes left ≡ bytes = ap (λ (b : Bool). written_page b bytes left) good_is in
        let one : one_if good ≡ 1 = ap one_if good_is in
        let same : (m : ℕ) → encode (stored_of c Closer die good left n bytes) m ≡ encode c m = of c (stored_of c Closer die good left n bytes) refl refl refl (λ b. refl) in
        let home = home_again c h s die _ out (home_written (c.dies die) good) refl in
        let at = w.0 in
        record {
          stored = λ m l. ⊎_elim
              (λ (e : m ≡ n). ap (put c.meta n (written_page good bytes left)) e ∙ (put-same c.meta n (written_page good bytes left) ∙ (page ∙ (w.1 ∙ (ap (encode c) (sym e) ∙ sym (same m))))))
              (λ (d : m ≢ n). put-other c.meta n (written_page good bytes left) m d ∙ (st.stored m (omega arith) ∙ sym (same m))) (same_or_not m n);
          flushed = λ l. w.2;
          writing = λ d holder m by e. absurd (nothing (put c.dies die (home_written (c.dies die) good) d).out _ (home d) e);
        }
storing_after encode (Enter l) c of h s st fit t k good = absurd fit
storing_after encode (Leave l) c of h s st fit t k good = absurd fit
storing_after encode (Quick l asked reply) c of h s st fit t k good = absurd fit
storing_after encode (Skip l asked fault) c of h s st fit t k good = absurd fit
storing_after encode (Begin l asked side) c of h s st fit t k good = absurd fit
storing_after encode (Copy actor l i) c of h s st fit t k good = absurd fit
storing_after encode (Take actor l i) c of h s st fit t k good = absurd fit
storing_after encode (Submit l) c of h s st fit t k good = absurd fit
storing_after encode (Fetch worker l) c of h s st fit t k good = absurd fit
storing_after encode (Report worker l) c of h s st fit t k good = absurd fit
storing_after encode (End l asked reply) c of h s st fit t k good = absurd fit
storing_after encode (Evict actor side b) c of h s st fit t k good = absurd fit
storing_after encode (Demote actor b) c of h s st fit t k good = absurd fit

storing_all : (encode : Core → ℕ → Page) (es : List Event) (c : Core) → IsOfDrive encode → Coherent c → IsSettling c → IsStoring encode c → Steps (IsSyncStep encode) c es → CoreRun c es (after_all c es) → Coherent (after_all c es) × IsSettling (after_all c es) × IsStoring encode (after_all c es)
storing_all encode [] c of h s st steps run = (h, s, st)
storing_all encode (e ∷ es) c of h s st steps run =
    storing_all encode es (after c e) of (run_keeps c (after c e) (e ∷ []) h (run.0, refl)) (step_settles encode c e h s steps.0 run.0).settling
    (storing_after encode e c of h s st (fits_of encode c e steps.0.next) (tells_of encode c e steps.0.next) run.0 steps.0.good) steps.1 run.1

-- where nothing is unclean any more, and no call is in flight, every block is clean
all_clean : (c : Core) → Coherent c → IsSettling c → c.unclean ≡ [] → (b : ℕ) → (c.blocks b).clean ≡ true
all_clean c h s none b = ⊎_elim (λ t. t)
    (λ f. absurd (let l = unclean_listed c b h s.closing f in let e = ap (count b) none ∙ count-nil b in omega arith)) (true_or_false (c.blocks b).clean)

pub sync_stores : (encode : Core → ℕ → Page) (c c1 : Core) (es : List Event) → IsOfDrive encode → Coherent c → IsSettling c → ((die : ℕ) → (c.dies die).out ≡ None) → c.closer ≡ 0 → SyncEnds encode c es → CoreRun c es c1 → IsAllStored encode c1
sync_stores encode c c1 es of h s home fresh ends run =
    let to : c1 ≡ after_all c es = leads es c c1 run in
    let st : IsStoring encode c = record {
      stored = λ n l. absurd (omega arith);
      flushed = λ l. absurd (omega arith);
      writing = λ die holder n bytes e. absurd (nothing (c.dies die).out _ (home die) e);
    } in
    let k = storing_all encode es c of h s st ends.steps (subst (λ (w : Core). CoreRun c es w) to run) in
    let all = ends.stored.all in
    subst (IsAllStored encode) (sym to) (record {
      clean = all_clean (after_all c es) k.0 k.1 ends.stored.clean;
      meta = λ n l. k.2.stored n (omega arith);
    })
  where
    leads : (es : List Event) (c c1 : Core) → CoreRun c es c1 → c1 ≡ after_all c es
    leads [] c c1 r = r
    leads (e ∷ es) c c1 r = leads es (after c e) c1 r.1

-- ---- of a whole run

pub run_stores : (encode : Core → ℕ → Page) (c0 c1 : Core) (script : Script) (last : Bool) (events : List Event) → IsOfDrive encode → OpeningFrames c0.shape → length script.lanes ≡ c0.shape.lanes → Coherent c0 → IsFresh c0 → c0.closer ≡ 0 →
    (run : SoloRun encode c0 script last events c1) → SyncEnds encode (after_all c0 (enters c0.shape.lanes ++ (run.lines ++ leaves c0.shape.lanes))) run.settling → IsAllStored encode c1
run_stores encode c0 c1 script last events of f wide h fresh zero run ends =
    let n = c0.shape.lanes in
    let p = parts_of encode c0 c1 script run.lines run.settling f wide h fresh run.calls (subst (λ (xs : List Event). CoreRun c0 xs c1) run.parts run.run) in
    let at : p.end ≡ after_all c0 (enters n ++ (run.lines ++ leaves n)) =
    p.left ∙ (ap (λ (w : Core). after_all (after_all w run.lines) (leaves n)) p.entered
    ∙ (sym (after_both run.lines (leaves n) (after_all c0 (enters n))) ∙ sym (after_both (enters n) (run.lines ++ leaves n) c0))) in
    sync_stores encode p.end c1 run.settling of p.end_coherent p.settles p.home (p.closer ∙ zero) (subst (λ (w : Core). SyncEnds encode w run.settling) (sym at) ends) p.settling_run
