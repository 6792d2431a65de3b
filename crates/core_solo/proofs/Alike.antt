-- The dies' answers, and which calls are starved, determine a SoloRun.
use Rattle.std.proofs.Common.{◌≡◌, ℕ, zero, suc, ◌+◌, ◌<◌, Bool, true, false, List, [], ◌∷◌, ◌++◌, Option, Some, None, length, refl, sym, ap, ◌∙◌, subst, inl, inr, ⊎_elim, arith}
use Rattle.std.specs.Prelude.{◌⊎◌, not, is_some, if◌then◌else◌, IfSome, map, nat_lt, slice_get}
use Rattle.std.specs.List.{range_with_len}
use Rattle.std.proofs.lemmas.Bool.Decides.{nat_tests}
use Rattle.page_base.specs.Drive.{meta_pages}
use Rattle.index_lists.specs.Words.{one_if, count}
use Rattle.index_lists.proofs.Counts.{count-nil}
use Rattle.plain_files.specs.declared.calls.Request.{Request}
use Rattle.core_state.specs.declared.actor.Actor.{Actor}
use Rattle.core_state.specs.declared.actor.Actor.TheVariants.{Closer}
use Rattle.core_state.specs.declared.event.Event.{Event}
use Rattle.core_state.specs.declared.event.Event.TheVariants.{Enter, Leave, Quick, Skip, Begin, Copy, Take, DieOut, FillIn, Submit, Fetch, Report, End, Evict, Demote, FlushOut, FlushIn, MetaIn}
use Rattle.core_state.specs.declared.event.Purpose.TheVariants.{Fill, Meta}
use Rattle.core_state.specs.State.{Page, Shape, Errand, ToFill, ToFlush, ToMeta, Out, Core}
use Rattle.core_state.specs.Coherent.{Coherent}
use Rattle.core_state.specs.Happens.{HoldsNone, CoreRun, Happens, actor_of, is_homecoming, after}
use Rattle.core_state.specs.History.{request_of, is_failure}
use Rattle.core_state.specs.Happens.{after_all}
use Rattle.core_solo.specs.Solo.{Chosen, Steps, IsStep, SoloCall, SoloAnswer, SoloLines, Script, request_at, enters, leaves, IsSyncNext, IsSyncStep, IsStored, SyncEnds, SyncFails, SoloSync, SoloEnd, SoloRun, sync_event, flush_event}
use Rattle.core_solo.specs.Alone.{OpeningFrames, IsAtRest}
use Rattle.core_solo.specs.Settling.{IsSettling, IsFresh}
use Rattle.core_solo.specs.Served.{is_starved, starved_of, told_by, AsTold}
use Rattle.core_lemmas.proofs.Words.{nothing, same_some}
use Rattle.core_stores.proofs.Folds.{run_keeps}
use Rattle.core_solo.proofs.Rooms.{AllHome}
use Rattle.core_solo.proofs.Goes.{home_or_out, at_home_out}
use Rattle.core_solo.proofs.Bounds.{run_begins}
use Rattle.core_solo.proofs.Rests.{shape_all, rest_alone}
use Rattle.core_solo.proofs.Calls.{free, answer_rest, line_low}
use Rattle.core_solo.proofs.Closing.{free_home, unclean_listed, step_settles}
use Rattle.core_solo.proofs.Closing as closing
use Rattle.core_solo.proofs.Folds.{after_both}
use Rattle.core_solo.proofs.Asks.{Asks, asks_of, steps_ask}
use Rattle.core_solo.proofs.Same.{two_home, tells_home, call_alike}
use Rattle.core_solo.proofs.Whole.{parts_of}
use Rattle.core_state.specs.Contents.{die_of_page}

-- ---- lists

starved_both : (xs ys : List Event) → starved_of (xs ++ ys) ≡ starved_of xs ++ starved_of ys
starved_both [] ys = refl
starved_both (x ∷ xs) ys = go (is_some (request_of x)) (starved_both xs ys)
  where
    go : (t : Bool) → starved_of (xs ++ ys) ≡ starved_of xs ++ starved_of ys → (if t then is_starved x ∷ starved_of (xs ++ ys) else starved_of (xs ++ ys)) ≡ (if t then is_starved x ∷ starved_of xs else starved_of xs) ++ starved_of ys
    go true ih = ap (λ (bs : List Bool). is_starved x ∷ bs) ih
    go false ih = ih

-- how many answers of dies
tolds : List Event → ℕ
tolds [] = 0
tolds (e ∷ es) = one_if (is_some (told_by e)) + tolds es

told_both : (told : ℕ → Bool × List ℕ) (xs ys : List Event) (k : ℕ) → AsTold told k (xs ++ ys) → AsTold told k xs × AsTold told (k + tolds xs) ys
unfolding tolds
told_both told [] ys k t = (tt, subst (λ (n : ℕ). AsTold told n ys) (let e : k ≡ k + 0 = omega arith in e) t)
told_both told (x ∷ xs) ys k t =
    let r = told_both told xs ys (k + one_if (is_some (told_by x))) t.1 in
    let e : k + one_if (is_some (told_by x)) + tolds xs ≡ k + (one_if (is_some (told_by x)) + tolds xs) = omega arith in
    ((t.0, r.0), subst (λ (n : ℕ). AsTold told n ys) e r.1)

-- ---- one answer

none_false : {A : Type 0} (o : Option A) → o ≡ None → is_some o ≡ false
none_false o e = ap is_some e

steps_fed : (encode : Core → ℕ → Page) (es : List Event) (c : Core) (lane : ℕ) (asked : Request) → Steps (IsStep encode lane asked) c es → starved_of es ≡ []
steps_fed encode [] c lane asked s = refl
steps_fed encode (e ∷ es) c lane asked s =
    ap (λ (t : Bool). if t then is_starved e ∷ starved_of es else starved_of es) (none_false (request_of e) s.0.open_still) ∙ steps_fed encode es (after c e) lane asked s.1

answer_fed : (e : Event) (asked : Request) → Asks asked e → is_some (request_of e) ≡ true → starved_of (e ∷ []) ≡ false ∷ []
answer_fed (Quick l r reply) asked k a = refl
answer_fed (Skip l r fault) asked k a = ap (λ (t : Bool). not t ∷ []) k.1
answer_fed (End l r reply) asked k a = refl
answer_fed (Enter l) asked k a = absurd (cc)
answer_fed (Leave l) asked k a = absurd (cc)
answer_fed (Begin l r side) asked k a = absurd (cc)
answer_fed (Copy actor l i) asked k a = absurd (cc)
answer_fed (Take actor l i) asked k a = absurd (cc)
answer_fed (DieOut actor die purpose) asked k a = absurd (cc)
answer_fed (FillIn actor die good) asked k a = absurd (cc)
answer_fed (Submit l) asked k a = absurd (cc)
answer_fed (Fetch worker l) asked k a = absurd (cc)
answer_fed (Report worker l) asked k a = absurd (cc)
answer_fed (Evict actor side b) asked k a = absurd (cc)
answer_fed (Demote actor b) asked k a = absurd (cc)
answer_fed (FlushOut actor die b) asked k a = absurd (cc)
answer_fed (FlushIn actor die good left) asked k a = absurd (cc)
answer_fed (MetaIn actor die good left) asked k a = absurd (cc)

call_fed : (encode : Core → ℕ → Page) (es : List Event) (c c1 : Core) (lane : ℕ) (asked : Request) → Coherent c → IsAtRest c → SoloCall encode c lane asked es → CoreRun c es c1 → starved_of es ≡ false ∷ []
call_fed encode es c c1 lane asked h rest call run =
    let parts = run_begins call.most (call.last ∷ []) c c1 (subst (λ (xs : List Event). CoreRun c xs c1) call.whole run) in
    let at = after_all c call.most in
    let a2 = steps_ask encode call.most c lane asked h call.steps parts.0 (λ x e. absurd (nothing (c.calls lane) x (rest.still lane) e)) in
    let k = asks_of encode at lane asked call.last a2 call.next in
    ap starved_of call.whole ∙ (starved_both call.most (call.last ∷ []) ∙ (ap (λ (bs : List Bool). bs ++ starved_of (call.last ∷ [])) (steps_fed encode call.most c lane asked call.steps) ∙ answer_fed call.last asked k call.answers))

-- what an answer says of want of memory
pub record SaysStarved (own : List Event) (lane : ℕ) (asked : Request) (b : Bool) : Type 0 where
  pub says : starved_of own ≡ b ∷ []

heads : (a b : Bool) (xs ys : List Bool) → a ∷ xs ≡ b ∷ ys → (a ≡ b) × (xs ≡ ys)
heads a b xs ys e = (cc, cc)

-- one line, with what follows
answers_same : (encode : Core → ℕ → Page) (told : ℕ → Bool × List ℕ) (k : ℕ) (c c1 c2 : Core) (lane : ℕ) (asked : Request) (own own2 rest rest2 : List Event) → Coherent c → IsAtRest c → lane < c.shape.lanes →
    SoloAnswer encode c lane asked own → CoreRun c own c1 → AsTold told k own → SoloAnswer encode c lane asked own2 → CoreRun c own2 c2 → AsTold told k own2 →
    starved_of (own ++ rest) ≡ starved_of (own2 ++ rest2) → (own ≡ own2) × (starved_of rest ≡ starved_of rest2)
answers_same encode told k c c1 c2 lane asked own own2 rest rest2 h still within a ra ta b rb tb same = ⊎_elim
    (λ (s : own ≡ Skip lane asked false ∷ []). ⊎_elim
    (λ (t : own2 ≡ Skip lane asked false ∷ []). (s ∙ sym t, (both true true (ap starved_of s) (ap starved_of t)).1))
    (λ (t : SoloCall encode c lane asked own2). absurd (let q = (both true false (ap starved_of s) (call_fed encode own2 c c2 lane asked h still t rb)).0 in cc)) b)
    (λ (s : SoloCall encode c lane asked own). ⊎_elim
    (λ (t : own2 ≡ Skip lane asked false ∷ []). absurd (let q = (both false true (call_fed encode own c c1 lane asked h still s ra) (ap starved_of t)).0 in cc))
    (λ (t : SoloCall encode c lane asked own2).
    let q = both false false (call_fed encode own c c1 lane asked h still s ra) (call_fed encode own2 c c2 lane asked h still t rb) in
    (calls_same s t, q.1)) b) a
  where
    both : (x y : Bool) → starved_of own ≡ x ∷ [] → starved_of own2 ≡ y ∷ [] → (x ≡ y) × (starved_of rest ≡ starved_of rest2)
    both x y p q = heads x y (starved_of rest) (starved_of rest2)
        (sym (ap (λ (bs : List Bool). bs ++ starved_of rest) p) ∙ (sym (starved_both own rest) ∙ (same ∙ (starved_both own2 rest2 ∙ ap (λ (bs : List Bool). bs ++ starved_of rest2) q))))

    calls_same : SoloCall encode c lane asked own → SoloCall encode c lane asked own2 → own ≡ own2
    calls_same s t = call_alike encode told k c c1 c2 lane asked own own2 h (rest_alone c lane (free asked) still within tt) s ra ta t rb tb

pub lines_same : (encode : Core → ℕ → Page) (told : ℕ → Bool × List ℕ) (script : Script) (lines : List (ℕ × ℕ)) (k : ℕ) (es fs : List Event) (c c1 c2 : Core) → OpeningFrames c.shape → length script.lanes ≡ c.shape.lanes → Coherent c → IsAtRest c →
    SoloLines encode c script lines es → CoreRun c es c1 → AsTold told k es → SoloLines encode c script lines fs → CoreRun c fs c2 → AsTold told k fs → starved_of es ≡ starved_of fs → es ≡ fs
lines_same encode told script [] k es fs c c1 c2 f wide h rest a ra ta b rb tb same = a ∙ sym b
lines_same encode told script (line ∷ later) k es fs c c1 c2 f wide h rest a ra ta b rb tb same =
    let pa = run_begins a.0 a.1 c c1 (subst (λ (xs : List Event). CoreRun c xs c1) a.2 ra) in
    let pb = run_begins b.0 b.1 c c2 (subst (λ (xs : List Event). CoreRun c xs c2) b.2 rb) in
    let qa = told_both told a.0 a.1 k (subst (AsTold told k) a.2 ta) in
    let qb = told_both told b.0 b.1 k (subst (AsTold told k) b.2 tb) in
    let s = shape_all a.0 c in
    let within : line.0 < c.shape.lanes = subst (λ (n : ℕ). line.0 < n) wide (line_low script.lanes line (a.3).request (a.3).asks) in
    let r : (b.3).request ≡ (a.3).request = same_some (request_at script line) (b.3).request (a.3).request (b.3).asks (a.3).asks in
    let one = answers_same encode told k c (after_all c a.0) (after_all c b.0) line.0 (a.3).request a.0 b.0 a.1 b.1 h rest within (a.3).answered pa.0 qa.0
    (subst (λ (w : Request). SoloAnswer encode c line.0 w b.0) r (b.3).answered) pb.0 qb.0 (sym (ap starved_of a.2) ∙ (same ∙ ap starved_of b.2)) in
    let own = one.0 in
    let first = answer_rest encode a.0 c (after_all c a.0) line.0 (a.3).request f h rest within (a.3).answered pa.0 in
    let more = lines_same encode told script later (k + tolds a.0) a.1 b.1 (after_all c a.0) c1 c2 (subst OpeningFrames (sym s) f) (wide ∙ ap (λ (w : Shape). w.lanes) (sym s)) (run_keeps c (after_all c a.0) a.0 h pa.0) first.0
    a.4 pa.1 qa.1
    (subst (λ (xs : List Event). SoloLines encode (after_all c xs) script later b.1) (sym own) b.4)
    (subst (λ (xs : List Event). CoreRun (after_all c xs) b.1 c2) (sym own) pb.1)
    (subst (λ (xs : List Event). AsTold told (k + tolds xs) b.1) (sym own) qb.1) one.1 in
    a.2 ∙ (ap (λ (xs : List Event). xs ++ a.1) own ∙ (ap (λ (xs : List Event). b.0 ++ xs) more ∙ sym b.2))

-- ---- the last sync

-- where all is stored, nothing is next
pub stored_ends : (encode : Core → ℕ → Page) (c : Core) (e : Event) → Coherent c → IsSettling c → IsStored c → IsSyncNext encode c e → Happens c e (after c e) → ⊥
stored_ends encode c e h s stored next k = ⊎_elim (λ (home : AllHome c). idle home) (λ o. out o.0 (o.1).holder (o.1).errand o.2) (home_or_out c h)
  where
    none : sync_event encode c Closer c.closer ≡ None
    none =
        let m : nat_lt c.closer (meta_pages c.shape.blocks) ≡ false = not_low c.closer (meta_pages c.shape.blocks) stored.all in
        ap (λ (xs : List ℕ). if is_some (slice_get xs 0) then flush_event c Closer else (if nat_lt c.closer (meta_pages c.shape.blocks) then Some (DieOut Closer (die_of_page c.shape c.closer) (Meta c.closer (encode c c.closer))) else None)) stored.clean
        ∙ ap (λ (t : Bool). if t then Some (DieOut Closer (die_of_page c.shape c.closer) (Meta c.closer (encode c c.closer))) else None) m
      where
        not_low : (a b : ℕ) → a ≡ b → nat_lt a b ≡ false
        not_low a b e = grind (arith, nat_tests)

    idle : AllHome c → ⊥
    idle home =
        let q : sync_event encode c Closer c.closer ≡ Some e = subst (λ (b : Bool). Chosen b (actor_of e ≡ Closer) (sync_event encode c Closer c.closer ≡ Some e)) (at_home_out c e home k) next in
        nothing (sync_event encode c Closer c.closer) e none q

    out : (die : ℕ) (holder : Actor) (errand : Errand) → (c.dies die).out ≡ Some (record { holder = holder; errand = errand }) → ⊥
    out die holder (ToFill l i) o = let f = h.dies.right die (record { holder = holder; errand = ToFill l i }) o in nothing (c.calls l) f.call (s.closing.none l) f.flies
    out die holder (ToFlush b v p) o =
        let r = h.dies.right die (record { holder = holder; errand = ToFlush b v p }) o in
        let l = unclean_listed c b h s.closing (r.2.same (s.flush die holder b v p o)).0 in
        let z : count b c.unclean ≡ 0 = ap (count b) stored.clean ∙ count-nil b in
        omega arith
    out die holder (ToMeta n bytes) o = let w = s.writing die holder n bytes o in let a = stored.all in omega arith

-- an event that brings no die home finds all at home
sync_finds : (encode : Core → ℕ → Page) (c : Core) (e : Event) → IsSettling c → IsSyncNext encode c e → Happens c e (after c e) → is_homecoming e ≡ false → AllHome c
sync_finds encode c e s next k n = go e (closing.fits_of encode c e next) (λ t. k.hands t) n
  where
    go : (e : Event) → closing.Fits e → (is_homecoming e ≡ false → HoldsNone c (actor_of e)) → is_homecoming e ≡ false → AllHome c
    go (DieOut actor die (Fill l i)) f hands n = absurd f
    go (DieOut actor die (Meta m bytes)) f hands n = free_home c s (subst (λ (a : Actor). HoldsNone c a) f (hands n))
    go (FlushOut actor die b) f hands n = free_home c s (subst (λ (a : Actor). HoldsNone c a) f (hands n))
    go (FillIn actor die good) f hands n = absurd (cc)
    go (FlushIn actor die good left) f hands n = absurd (cc)
    go (MetaIn actor die good left) f hands n = absurd (cc)
    go (Enter l) f hands n = absurd f
    go (Leave l) f hands n = absurd f
    go (Quick l asked reply) f hands n = absurd f
    go (Skip l asked fault) f hands n = absurd f
    go (Begin l asked side) f hands n = absurd f
    go (Copy actor l i) f hands n = absurd f
    go (Take actor l i) f hands n = absurd f
    go (Submit l) f hands n = absurd f
    go (Fetch worker l) f hands n = absurd f
    go (Report worker l) f hands n = absurd f
    go (End l asked reply) f hands n = absurd f
    go (Evict actor side b) f hands n = absurd f
    go (Demote actor b) f hands n = absurd f

same_sync_next : (encode : Core → ℕ → Page) (c : Core) (a : Bool × List ℕ) (e f : Event) → Coherent c → IsSettling c → IsSyncNext encode c e → IsSyncNext encode c f → Happens c e (after c e) → Happens c f (after c f) →
    IfSome (told_by e) (λ b. b ≡ a) → IfSome (told_by f) (λ b. b ≡ a) → e ≡ f
same_sync_next encode c a e f h s ne nf se sf te tf = go (is_homecoming e) refl (is_homecoming f) refl
  where
    one : (d k : ℕ) (x y : Out) → (c.dies d).out ≡ Some x → (c.dies k).out ≡ Some y → (d ≡ k) × (x ≡ y)
    one d k x y p q =
        let w = h.dies.one_each d k x y p q (s.holder d x p ∙ sym (s.holder k y q)) in
        (w, same_some (c.dies k).out x y (ap (λ (j : ℕ). (c.dies j).out) (sym w) ∙ p) q)

    next_of : (g : Event) → IsSyncNext encode c g → is_homecoming g ≡ false → sync_event encode c Closer c.closer ≡ Some g
    next_of g n t = subst (λ (b : Bool). Chosen b (actor_of g ≡ Closer) (sync_event encode c Closer c.closer ≡ Some g)) t n

    not_both : (g k : Event) → IsSyncNext encode c g → Happens c g (after c g) → Happens c k (after c k) → is_homecoming g ≡ false → is_homecoming k ≡ true → ⊥
    not_both g k n x y p q = let home = sync_finds encode c g s n x p in let z = at_home_out c k home y in cc

    go : (t : Bool) → is_homecoming e ≡ t → (u : Bool) → is_homecoming f ≡ u → e ≡ f
    go true p true q = two_home c a one e f se.may sf.may p q (tells_home e a p te) (tells_home f a q tf)
    go true p false q = absurd (not_both f e nf sf se q p)
    go false p true q = absurd (not_both e f ne se sf p q)
    go false p false q = same_some (sync_event encode c Closer c.closer) e f (next_of e ne p) (next_of f nf q)

-- the first event of a last sync, and what comes then
pub record FirstOf (encode : Core → ℕ → Page) (c : Core) (e : Event) (es : List Event) : Type 0 where
  pub next : IsSyncNext encode c e
  pub later : ((is_failure e ≡ true) × (es ≡ [])) ⊎ ((is_failure e ≡ false) × SoloSync encode (after c e) es)

first_of_ends : (encode : Core → ℕ → Page) (c : Core) (e : Event) (es : List Event) → SyncEnds encode c (e ∷ es) → FirstOf encode c e es
first_of_ends encode c e es k = record { next = k.steps.0.next; later = inr (k.steps.0.good, inl (record { steps = k.steps.1; stored = k.stored })) }

cons_same : (e f : Event) (es fs : List Event) → e ∷ es ≡ f ∷ fs → (e ≡ f) × (es ≡ fs)
cons_same e f es fs q = (cc, cc)

first_of_fails : (encode : Core → ℕ → Page) (c : Core) (e : Event) (es : List Event) → SyncFails encode c (e ∷ es) → FirstOf encode c e es
first_of_fails encode c e es k = go k.most k.whole k.steps k.next
  where
    go : (most : List Event) → e ∷ es ≡ most ++ k.last ∷ [] → Steps (IsSyncStep encode) c most → IsSyncNext encode (after_all c most) k.last → FirstOf encode c e es
    go [] w s n =
        let q = cons_same e k.last es [] w in
        record { next = subst (IsSyncNext encode c) (sym q.0) n; later = inl (ap is_failure q.0 ∙ k.failed, q.1) }
    go (x ∷ most) w s n =
        let q = cons_same e x es (most ++ k.last ∷ []) w in
        record {
          next = subst (IsSyncNext encode c) (sym q.0) s.0.next;
          later = inr (ap is_failure q.0 ∙ s.0.good, inr (record { most = most; last = k.last; whole = q.1; steps = subst (λ (g : Event). Steps (IsSyncStep encode) (after c g) most) (sym q.0) s.1; next = subst (λ (g : Event). IsSyncNext encode (after_all (after c g) most) k.last) (sym q.0) n; failed = k.failed }));
        }

first_of : (encode : Core → ℕ → Page) (c : Core) (e : Event) (es : List Event) → SoloSync encode c (e ∷ es) → FirstOf encode c e es
first_of encode c e es s = ⊎_elim (λ k. first_of_ends encode c e es k) (λ k. first_of_fails encode c e es k) s

none_of : (encode : Core → ℕ → Page) (c : Core) → SoloSync encode c [] → IsStored c
none_of encode c s = ⊎_elim (λ (k : SyncEnds encode c []). k.stored) (λ (k : SyncFails encode c []). absurd (go k.most k.last k.whole)) s
  where
    go : (most : List Event) (x : Event) → [] ≡ most ++ x ∷ [] → ⊥
    go [] x e = cc
    go (y ∷ most) x e = cc

pub sync_same : (encode : Core → ℕ → Page) (told : ℕ → Bool × List ℕ) (es fs : List Event) (k : ℕ) (c c1 c2 : Core) → Coherent c → IsSettling c → SoloSync encode c es → CoreRun c es c1 → AsTold told k es → SoloSync encode c fs → CoreRun c fs c2 → AsTold told k fs → es ≡ fs
sync_same encode told [] [] k c c1 c2 h s a ra ta b rb tb = refl
sync_same encode told [] (f ∷ fs) k c c1 c2 h s a ra ta b rb tb = absurd (stored_ends encode c f h s (none_of encode c a) (first_of encode c f fs b).next rb.0)
sync_same encode told (e ∷ es) [] k c c1 c2 h s a ra ta b rb tb = absurd (stored_ends encode c e h s (none_of encode c b) (first_of encode c e es a).next ra.0)
sync_same encode told (e ∷ es) (f ∷ fs) k c c1 c2 h s a ra ta b rb tb =
    let x = first_of encode c e es a in
    let y = first_of encode c f fs b in
    let q : e ≡ f = same_sync_next encode c (told k) e f h s x.next y.next ra.0 rb.0 ta.0 tb.0 in
    go x y q
    (λ good one. sync_same encode told es fs (k + one_if (is_some (told_by e))) (after c e) c1 c2 (run_keeps c (after c e) (e ∷ []) h (ra.0, refl)) (step_settles encode c e h s (record { next = x.next; good = good }) ra.0).settling
    one.0 ra.1 ta.1 one.1 (subst (λ (g : Event). CoreRun (after c g) fs c2) (sym q) rb.1) (subst (λ (g : Event). AsTold told (k + one_if (is_some (told_by g))) fs) (sym q) tb.1))
  where
    go : FirstOf encode c e es → FirstOf encode c f fs → e ≡ f → (is_failure e ≡ false → SoloSync encode (after c e) es × SoloSync encode (after c e) fs → es ≡ fs) → e ∷ es ≡ f ∷ fs
    go x y q more = ⊎_elim
        (λ u. ⊎_elim
        (λ v. ap (λ (g : Event). g ∷ es) q ∙ ap (λ (xs : List Event). f ∷ xs) (u.1 ∙ sym v.1))
        (λ v. absurd (let z = ap is_failure q in let m = u.0 in let n = v.0 in cc)) y.later)
        (λ u. ⊎_elim
        (λ v. absurd (let z = ap is_failure q in let m = u.0 in let n = v.0 in cc))
        (λ v. ap (λ (g : Event). g ∷ es) q ∙ ap (λ (xs : List Event). f ∷ xs) (more u.0 (u.1, subst (λ (g : Event). SoloSync encode (after c g) fs) (sym q) v.1))) y.later) x.later

-- ---- all of it

enters_say : (told : ℕ → Bool × List ℕ) (n a : ℕ) → (starved_of (map (λ lane. Enter lane) (range_with_len a n)) ≡ []) × (tolds (map (λ lane. Enter lane) (range_with_len a n)) ≡ 0)
unfolding tolds
enters_say told zero a = (refl, refl)
enters_say told (suc n) a = let k = enters_say told n (a + 1) in let t = k.1 in (k.0, omega arith)

leaves_say : (told : ℕ → Bool × List ℕ) (n a : ℕ) → (starved_of (map (λ lane. Leave lane) (range_with_len a n)) ≡ []) × (tolds (map (λ lane. Leave lane) (range_with_len a n)) ≡ 0)
unfolding tolds
leaves_say told zero a = (refl, refl)
leaves_say told (suc n) a = let k = leaves_say told n (a + 1) in let t = k.1 in (k.0, omega arith)

sync_next_says : (encode : Core → ℕ → Page) (c : Core) (e : Event) → IsSyncNext encode c e → is_some (request_of e) ≡ false
sync_next_says encode c e n = go e (closing.fits_of encode c e n)
  where
    go : (e : Event) → closing.Fits e → is_some (request_of e) ≡ false
    go (Quick l asked reply) f = absurd f
    go (Skip l asked fault) f = absurd f
    go (End l asked reply) f = absurd f
    go _ f = refl

pub sync_says : (encode : Core → ℕ → Page) (es : List Event) (c : Core) → SoloSync encode c es → starved_of es ≡ []
sync_says encode [] c s = refl
sync_says encode (e ∷ es) c s =
    let x = first_of encode c e es s in
    ap (λ (t : Bool). if t then is_starved e ∷ starved_of es else starved_of es) (sync_next_says encode c e x.next)
    ∙ more x (λ k. sync_says encode es (after c e) k)
  where
    more : FirstOf encode c e es → (SoloSync encode (after c e) es → starved_of es ≡ []) → starved_of es ≡ []
    more x k = ⊎_elim (λ u. ap starved_of u.1) (λ u. k u.1) x.later

end_says : (encode : Core → ℕ → Page) (t : Bool) (c : Core) (es : List Event) → SoloEnd encode t c es → starved_of es ≡ []
end_says encode true c es s = sync_says encode es c s
end_says encode false c es s = ap starved_of s

nil_left : (xs ys : List Bool) → xs ≡ [] → xs ++ ys ≡ ys
nil_left xs ys e = ap (λ (zs : List Bool). zs ++ ys) e

append_none : (xs : List Bool) → xs ++ [] ≡ xs
append_none [] = refl
append_none (x ∷ xs) = ap (λ (ys : List Bool). x ∷ ys) (append_none xs)

starved_lines : (encode : Core → ℕ → Page) (c0 c1 : Core) (script : Script) (last : Bool) (events : List Event) (told : ℕ → Bool × List ℕ) (r : SoloRun encode c0 script last events c1) → starved_of events ≡ starved_of r.lines
starved_lines encode c0 c1 script last events told r =
    let n = c0.shape.lanes in
    ap starved_of r.parts ∙ (starved_both (enters n) (r.lines ++ (leaves n ++ r.settling)) ∙ (nil_left (starved_of (enters n)) (starved_of (r.lines ++ (leaves n ++ r.settling))) (enters_say told n 0).0
    ∙ (starved_both r.lines (leaves n ++ r.settling) ∙ (ap (λ (bs : List Bool). starved_of r.lines ++ bs) (starved_both (leaves n) r.settling ∙ (nil_left (starved_of (leaves n)) (starved_of r.settling) (leaves_say told n 0).0 ∙ end_says encode last _ r.settling r.ending))
    ∙ append_none (starved_of r.lines)))))

pub run_same : (encode : Core → ℕ → Page) (told : ℕ → Bool × List ℕ) (c0 c1 c2 : Core) (script : Script) (last : Bool) (es fs : List Event) → OpeningFrames c0.shape → length script.lanes ≡ c0.shape.lanes → Coherent c0 → IsFresh c0 →
    SoloRun encode c0 script last es c1 → AsTold told 0 es → SoloRun encode c0 script last fs c2 → AsTold told 0 fs → starved_of es ≡ starved_of fs → es ≡ fs
run_same encode told c0 c1 c2 script last es fs f wide h fresh a ta b tb same =
    let n = c0.shape.lanes in
    let p = parts_of encode c0 c1 script a.lines a.settling f wide h fresh a.calls (subst (λ (xs : List Event). CoreRun c0 xs c1) a.parts a.run) in
    let q = parts_of encode c0 c2 script b.lines b.settling f wide h fresh b.calls (subst (λ (xs : List Event). CoreRun c0 xs c2) b.parts b.run) in
    let ua = told_both told (enters n) (a.lines ++ (leaves n ++ a.settling)) 0 (subst (AsTold told 0) a.parts ta) in
    let ub = told_both told (enters n) (b.lines ++ (leaves n ++ b.settling)) 0 (subst (AsTold told 0) b.parts tb) in
    let k = 0 + tolds (enters n) in
    let va = told_both told a.lines (leaves n ++ a.settling) k ua.1 in
    let vb = told_both told b.lines (leaves n ++ b.settling) k ub.1 in
    let starts : q.start ≡ p.start = q.entered ∙ sym p.entered in
    let lines : a.lines ≡ b.lines = lines_same encode told script script.order k a.lines b.lines p.start (after_all p.start a.lines) (after_all p.start b.lines) p.frames p.wide p.coherent p.rest
    (subst (λ (w : Core). SoloLines encode w script script.order a.lines) (sym p.entered) a.calls) p.lines_run va.0
    (subst (λ (w : Core). SoloLines encode w script script.order b.lines) (sym p.entered) b.calls) (subst (λ (w : Core). CoreRun w b.lines (after_all w b.lines)) starts q.lines_run) vb.0
    (sym (starved_lines encode c0 c1 script last es told a) ∙ (same ∙ starved_lines encode c0 c2 script last fs told b)) in
    let wa = told_both told (leaves n) a.settling (k + tolds a.lines) va.1 in
    let wb = told_both told (leaves n) b.settling (k + tolds b.lines) vb.1 in
    let ends : q.end ≡ p.end = q.left ∙ (ap (λ (w : Core). after_all (after_all w b.lines) (leaves n)) starts ∙ (ap (λ (xs : List Event). after_all (after_all p.start xs) (leaves n)) (sym lines) ∙ sym p.left)) in
    let at : p.end ≡ after_all c0 (enters n ++ (a.lines ++ leaves n)) =
    p.left ∙ (ap (λ (w : Core). after_all (after_all w a.lines) (leaves n)) p.entered
    ∙ (sym (after_both a.lines (leaves n) (after_all c0 (enters n))) ∙ sym (after_both (enters n) (a.lines ++ leaves n) c0))) in
    let settling : a.settling ≡ b.settling = settled last p.end at p.end_coherent p.settles (k + tolds a.lines + tolds (leaves n)) a.settling b.settling a.ending p.settling_run wa.1
    (subst (λ (xs : List Event). SoloEnd encode last (after_all c0 (enters n ++ (xs ++ leaves n))) b.settling) (sym lines) b.ending) (subst (λ (w : Core). CoreRun w b.settling c2) ends q.settling_run)
    (subst (λ (xs : List Event). AsTold told (k + tolds xs + tolds (leaves n)) b.settling) (sym lines) wb.1) in
    a.parts ∙ (ap (λ (xs : List Event). enters n ++ (xs ++ (leaves n ++ a.settling))) lines ∙ (ap (λ (xs : List Event). enters n ++ (b.lines ++ (leaves n ++ xs))) settling ∙ sym b.parts))
  where
    settled : (t : Bool) (end : Core) → end ≡ after_all c0 (enters c0.shape.lanes ++ (a.lines ++ leaves c0.shape.lanes)) → Coherent end → IsSettling end → (k : ℕ) (xs ys : List Event) →
        SoloEnd encode t (after_all c0 (enters c0.shape.lanes ++ (a.lines ++ leaves c0.shape.lanes))) xs → CoreRun end xs c1 → AsTold told k xs → SoloEnd encode t (after_all c0 (enters c0.shape.lanes ++ (a.lines ++ leaves c0.shape.lanes))) ys → CoreRun end ys c2 → AsTold told k ys → xs ≡ ys
    settled true end at h s k xs ys x rx tx y ry ty = sync_same encode told xs ys k end c1 c2 h s (subst (λ (w : Core). SoloSync encode w xs) (sym at) x) rx tx (subst (λ (w : Core). SoloSync encode w ys) (sym at) y) ry ty
    settled false end at h s k xs ys x rx tx y ry ty = x ∙ sym y
