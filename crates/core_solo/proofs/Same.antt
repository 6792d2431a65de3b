-- The dies' answers determine a call.
use Rattle.std.proofs.Common.{◌≡◌, ℕ, ◌+◌, Bool, true, false, List, [], ◌∷◌, ◌++◌, Some, None, refl, sym, ap, ◌∙◌, subst}
use Rattle.std.specs.Prelude.{is_some, IfSome}
use Rattle.index_lists.specs.Words.{one_if}
use Rattle.plain_files.specs.declared.calls.Request.{Request}
use Rattle.core_state.specs.declared.actor.Actor.{Actor}
use Rattle.core_state.specs.declared.actor.Actor.TheVariants.{Lane, Worker, Flusher, Closer}
use Rattle.core_state.specs.declared.event.Event.{Event}
use Rattle.core_state.specs.declared.event.Event.TheVariants.{Enter, Leave, Quick, Skip, Begin, Copy, Take, DieOut, FillIn, Submit, Fetch, Report, End, Evict, Demote, FlushOut, FlushIn, MetaIn}
use Rattle.core_state.specs.declared.event.Purpose.TheVariants.{Fill, Meta}
use Rattle.core_state.specs.State.{Page, Out, Core, Queued}
use Rattle.core_state.specs.Coherent.{Coherent}
use Rattle.core_state.specs.PageEvents.{flight_at}
use Rattle.core_state.specs.DieEvents.{MayWriteMeta, FlushesFor}
use Rattle.core_state.specs.Happens.{HoldsNone, IsClosing, CoreRun, Happens, May, actor_of, is_homecoming, after}
use Rattle.core_state.specs.History.{request_of}
use Rattle.core_state.specs.Happens.{after_all}
use Rattle.core_solo.specs.Solo.{Chosen, Steps, IsNext, IsStep, SoloCall, acting, call_event}
use Rattle.core_solo.specs.Alone.{IsAlone}
use Rattle.core_solo.specs.Served.{told_by, AsTold}
use Rattle.core_lemmas.proofs.Words.{same_some}
use Rattle.core_lemmas.proofs.Calls.{end_owned}
use Rattle.core_solo.proofs.Rooms.{AllHome}
use Rattle.core_solo.proofs.Flights.{sync_is_held}
use Rattle.core_solo.proofs.Goes.{at_home_out}
use Rattle.core_solo.proofs.Fits.{Fits}
use Rattle.core_solo.proofs.Keeps.{only_lane, free_home, closer_not, queued_lane_is}
use Rattle.core_solo.proofs.Steps.{own_of, own_acts, acting_none, acting_held, flush_acts, fits_of, alone_after}
use Rattle.core_stores.proofs.Folds.{run_keeps}
use Rattle.core_state.specs.Dies.{owner}

-- an event that brings no die home finds all dies at home
pub finds_home : (e : Event) (c : Core) (lane : ℕ) (request : Request) → Coherent c → IsAlone c lane request → Fits c lane e → Happens c e (after c e) → is_homecoming e ≡ false → AllHome c
finds_home (Enter l) c lane request h alone fit s n = absurd fit
finds_home (Leave l) c lane request h alone fit s n = absurd fit
finds_home (Quick l asked reply) c lane request h alone fit s n =
    free_home c lane request alone (Lane l) (ap Lane fit ∙ sym (acting_none c lane (ap c.calls (sym fit) ∙ s.may.ready.idle.idle))) (s.hands refl)
finds_home (Skip l asked fault) c lane request h alone fit s n =
    free_home c lane request alone (Lane l) (ap Lane fit ∙ sym (acting_none c lane (ap c.calls (sym fit) ∙ s.may.idle.idle))) (s.hands refl)
finds_home (Begin l asked side) c lane request h alone fit s n =
    free_home c lane request alone (Lane l) (ap Lane fit ∙ sym (acting_none c lane (ap c.calls (sym fit) ∙ s.may.ready.idle.idle))) (s.hands refl)
finds_home (Copy actor l i) c lane request h alone fit s n =
    let w = s.may.wants in
    free_home c lane request alone actor (own_acts c lane actor (own_of c l lane s.may.call actor w.flies w.owns (only_lane c lane request alone l s.may.call w.flies))) (s.hands refl)
finds_home (Take actor l i) c lane request h alone fit s n =
    let w = s.may.wants in
    free_home c lane request alone actor (own_acts c lane actor (own_of c l lane s.may.call actor w.flies w.owns (only_lane c lane request alone l s.may.call w.flies))) (s.hands refl)
finds_home (DieOut actor die (Fill l i)) c lane request h alone fit s n =
    let w = s.may.wants in
    free_home c lane request alone actor (own_acts c lane actor (own_of c l lane s.may.call actor w.flies w.owns (only_lane c lane request alone l s.may.call w.flies))) (s.hands refl)
finds_home (DieOut actor die (Meta number bytes)) c lane request h alone fit s n = go actor s.may.writes (s.hands refl) (λ e. s.closing e)
  where
    go : (a : Actor) → MayWriteMeta c a number → HoldsNone c a → (a ≡ Closer → IsClosing c) → AllHome c
    go (Lane l) m free k =
        let y = m.0 in
        let same = only_lane c lane request alone l y.flight y.flies in
        let f = ap c.calls (sym same) ∙ y.flies in
        free_home c lane request alone (Lane l) (ap Lane same ∙ sym (acting_held c lane y.flight f (sync_is_held c lane y.flight h f y.sync).1)) free
    go Closer m free k = absurd (closer_not c lane request alone (k refl))
    go (Worker w) m free k = absurd m
    go (Flusher f) m free k = absurd m
finds_home (FillIn actor die good) c lane request h alone fit s n = absurd (cc)
finds_home (FlushIn actor die good left) c lane request h alone fit s n = absurd (cc)
finds_home (MetaIn actor die good left) c lane request h alone fit s n = absurd (cc)
finds_home (Submit l) c lane request h alone fit s n =
    let same = only_lane c lane request alone l s.may.call s.may.flies in
    free_home c lane request alone (Lane l) (ap Lane same ∙ sym (acting_held c lane s.may.call (ap c.calls (sym same) ∙ s.may.flies) s.may.held)) (s.hands refl)
finds_home (Fetch worker l) c lane request h alone fit s n =
    let q = queued_lane_is c lane request h alone l s.may.rest s.may.first in
    let flies = subst (λ (k : ℕ). c.calls k ≡ Some (flight_at c.calls k)) q.0 q.1 in
    let queued = subst (λ (k : ℕ). (flight_at c.calls k).phase ≡ Queued) q.0 q.2 in
    (alone.call _ flies).waits queued
finds_home (Report worker l) c lane request h alone fit s n =
    let same = only_lane c lane request alone l s.may.call s.may.flies in
    free_home c lane request alone (Worker worker) (own_acts c lane (Worker worker) (own_of c l lane s.may.call (Worker worker) s.may.flies (ap (owner l) s.may.runs) same)) (s.hands refl)
finds_home (End l asked reply) c lane request h alone fit s n =
    free_home c lane request alone (Lane l) (own_acts c lane (Lane l) (own_of c l lane s.may.call (Lane l) s.may.flies (end_owned l s.may.call s.may.at_end) fit)) (s.hands refl)
finds_home (Evict actor side b) c lane request h alone fit s n = free_home c lane request alone actor (fit.1 ∙ sym (acting_none c lane fit.0.idle)) (s.hands refl)
finds_home (Demote actor b) c lane request h alone fit s n = free_home c lane request alone actor (fit.1 ∙ sym (acting_none c lane fit.0.idle)) (s.hands refl)
finds_home (FlushOut actor die b) c lane request h alone fit s n =
    let may = subst (λ (a : Actor). FlushesFor c a) fit s.may.acts in
    free_home c lane request alone actor (fit ∙ sym (flush_acts c lane h may (c.calls lane) refl)) (s.hands refl)

pair_same : (a x y : Bool × List ℕ) → Some x ≡ Some a → Some y ≡ Some a → x ≡ y
pair_same a x y s t = cc

-- two homecomings in one core, with one answer
pub two_home : (c : Core) (a : Bool × List ℕ) → ((d e : ℕ) (x y : Out) → (c.dies d).out ≡ Some x → (c.dies e).out ≡ Some y → (d ≡ e) × (x ≡ y)) → (e f : Event) → May c e → May c f → is_homecoming e ≡ true → is_homecoming f ≡ true → told_by e ≡ Some a → told_by f ≡ Some a → e ≡ f
two_home c a one (FillIn a1 d1 g1) (FillIn a2 d2 g2) m n p q s t =
    let k = one d1 d2 _ _ m.out n.out in let dies = k.0 in let outs = k.1 in
    let goods : g1 ≡ g2 = ap (λ (q : Bool × List ℕ). q.0) (pair_same a (g1, []) (g2, []) s t) in
    let actors : a1 ≡ a2 = ap (λ (o : Out). o.holder) outs in
    ap (λ (w : Actor). FillIn w d1 g1) actors ∙ (ap (λ (w : ℕ). FillIn a2 w g1) dies ∙ ap (λ (w : Bool). FillIn a2 d2 w) goods)
two_home c a one (FlushIn a1 d1 g1 l1) (FlushIn a2 d2 g2 l2) m n p q s t =
    let k = one d1 d2 _ _ m.out n.out in let dies = k.0 in let outs = k.1 in
    let goods : g1 ≡ g2 = ap (λ (q : Bool × List ℕ). q.0) (pair_same a (g1, l1) (g2, l2) s t) in
    let lefts : l1 ≡ l2 = ap (λ (q : Bool × List ℕ). q.1) (pair_same a (g1, l1) (g2, l2) s t) in
    let actors : a1 ≡ a2 = ap (λ (o : Out). o.holder) outs in
    ap (λ (w : Actor). FlushIn w d1 g1 l1) actors ∙ (ap (λ (w : ℕ). FlushIn a2 w g1 l1) dies ∙ (ap (λ (w : Bool). FlushIn a2 d2 w l1) goods ∙ ap (λ (w : List ℕ). FlushIn a2 d2 g2 w) lefts))
two_home c a one (MetaIn a1 d1 g1 l1) (MetaIn a2 d2 g2 l2) m n p q s t =
    let k = one d1 d2 _ _ m.out n.out in let dies = k.0 in let outs = k.1 in
    let goods : g1 ≡ g2 = ap (λ (q : Bool × List ℕ). q.0) (pair_same a (g1, l1) (g2, l2) s t) in
    let lefts : l1 ≡ l2 = ap (λ (q : Bool × List ℕ). q.1) (pair_same a (g1, l1) (g2, l2) s t) in
    let actors : a1 ≡ a2 = ap (λ (o : Out). o.holder) outs in
    ap (λ (w : Actor). MetaIn w d1 g1 l1) actors ∙ (ap (λ (w : ℕ). MetaIn a2 w g1 l1) dies ∙ (ap (λ (w : Bool). MetaIn a2 d2 w l1) goods ∙ ap (λ (w : List ℕ). MetaIn a2 d2 g2 w) lefts))
two_home c a one (FillIn a1 d1 g1) (FlushIn a2 d2 g2 l2) m n p q s t = absurd (let k = ap (λ (o : Out). o.errand) (one d1 d2 _ _ m.out n.out).1 in cc)
two_home c a one (FillIn a1 d1 g1) (MetaIn a2 d2 g2 l2) m n p q s t = absurd (let k = ap (λ (o : Out). o.errand) (one d1 d2 _ _ m.out n.out).1 in cc)
two_home c a one (FlushIn a1 d1 g1 l1) (FillIn a2 d2 g2) m n p q s t = absurd (let k = ap (λ (o : Out). o.errand) (one d1 d2 _ _ m.out n.out).1 in cc)
two_home c a one (FlushIn a1 d1 g1 l1) (MetaIn a2 d2 g2 l2) m n p q s t = absurd (let k = ap (λ (o : Out). o.errand) (one d1 d2 _ _ m.out n.out).1 in cc)
two_home c a one (MetaIn a1 d1 g1 l1) (FillIn a2 d2 g2) m n p q s t = absurd (let k = ap (λ (o : Out). o.errand) (one d1 d2 _ _ m.out n.out).1 in cc)
two_home c a one (MetaIn a1 d1 g1 l1) (FlushIn a2 d2 g2 l2) m n p q s t = absurd (let k = ap (λ (o : Out). o.errand) (one d1 d2 _ _ m.out n.out).1 in cc)
two_home c a one e f m n p q s t = absurd (cc)

pub tells_home : (e : Event) (a : Bool × List ℕ) → is_homecoming e ≡ true → IfSome (told_by e) (λ b. b ≡ a) → told_by e ≡ Some a
tells_home (FillIn actor die good) a h k = ap (λ (x : Bool × List ℕ). Some x) k
tells_home (FlushIn actor die good left) a h k = ap (λ (x : Bool × List ℕ). Some x) k
tells_home (MetaIn actor die good left) a h k = ap (λ (x : Bool × List ℕ). Some x) k
tells_home e a h k = absurd (cc)

-- one next event, to one answer
pub same_next : (encode : Core → ℕ → Page) (c : Core) (lane : ℕ) (request asked : Request) (a : Bool × List ℕ) (e f : Event) → Coherent c → IsAlone c lane request → IsNext encode lane asked c e → IsNext encode lane asked c f → Happens c e (after c e) → Happens c f (after c f) →
    IfSome (told_by e) (λ b. b ≡ a) → IfSome (told_by f) (λ b. b ≡ a) → e ≡ f
same_next encode c lane request asked a e f h alone ne nf se sf te tf = go (is_homecoming e) refl (is_homecoming f) refl
  where
    one : (d k : ℕ) (x y : Out) → (c.dies d).out ≡ Some x → (c.dies k).out ≡ Some y → (d ≡ k) × (x ≡ y)
    one d k x y p q =
        let s = h.dies.one_each d k x y p q (alone.holder d x p ∙ sym (alone.holder k y q)) in
        (s, same_some (c.dies k).out x y (ap (λ (w : ℕ). (c.dies w).out) (sym s) ∙ p) q)

    next_of : (g : Event) → IsNext encode lane asked c g → is_homecoming g ≡ false → call_event encode c lane asked (c.calls lane) ≡ Some g
    next_of g n t = subst (λ (b : Bool). Chosen b (actor_of g ≡ acting lane (c.calls lane)) (call_event encode c lane asked (c.calls lane) ≡ Some g)) t n

    not_both : (g k : Event) → IsNext encode lane asked c g → Happens c g (after c g) → Happens c k (after c k) → is_homecoming g ≡ false → is_homecoming k ≡ true → ⊥
    not_both g k n s t p q =
        let home = finds_home g c lane request h alone (fits_of encode c lane asked g n) s p in
        let z = at_home_out c k home t in
        cc

    go : (t : Bool) → is_homecoming e ≡ t → (u : Bool) → is_homecoming f ≡ u → e ≡ f
    go true p true q = two_home c a one e f se.may sf.may p q (tells_home e a p te) (tells_home f a q tf)
    go true p false q = absurd (not_both f e nf sf se q p)
    go false p true q = absurd (not_both e f ne se sf p q)
    go false p false q = same_some (call_event encode c lane asked (c.calls lane)) e f (next_of e ne p) (next_of f nf q)

answers_not : (e f : Event) → e ≡ f → request_of e ≡ None → is_some (request_of f) ≡ true → ⊥
answers_not e f s n a = let k : is_some (request_of f) ≡ false = ap (λ (g : Event). is_some (request_of g)) (sym s) ∙ ap is_some n in cc

pub same_events : (encode : Core → ℕ → Page) (told : ℕ → Bool × List ℕ) (m n : List Event) (x y : Event) (k : ℕ) (c c1 c2 : Core) (lane : ℕ) (request asked : Request) → Coherent c → IsAlone c lane request →
    Steps (IsStep encode lane asked) c m → IsNext encode lane asked (after_all c m) x → is_some (request_of x) ≡ true → CoreRun c (m ++ x ∷ []) c1 → AsTold told k (m ++ x ∷ []) →
    Steps (IsStep encode lane asked) c n → IsNext encode lane asked (after_all c n) y → is_some (request_of y) ≡ true → CoreRun c (n ++ y ∷ []) c2 → AsTold told k (n ++ y ∷ []) → m ++ x ∷ [] ≡ n ++ y ∷ []
same_events encode told [] [] x y k c c1 c2 lane request asked h alone sm nx ax rx tx sn ny ay ry ty =
    ap (λ (e : Event). e ∷ []) (same_next encode c lane request asked (told k) x y h alone nx ny rx.0 ry.0 tx.0 ty.0)
same_events encode told [] (f ∷ n) x y k c c1 c2 lane request asked h alone sm nx ax rx tx sn ny ay ry ty =
    absurd (answers_not f x (sym (same_next encode c lane request asked (told k) x f h alone nx sn.0.next rx.0 ry.0 tx.0 ty.0)) sn.0.open_still ax)
same_events encode told (e ∷ m) [] x y k c c1 c2 lane request asked h alone sm nx ax rx tx sn ny ay ry ty =
    absurd (answers_not e y (same_next encode c lane request asked (told k) e y h alone sm.0.next ny rx.0 ry.0 tx.0 ty.0) sm.0.open_still ay)
same_events encode told (e ∷ m) (f ∷ n) x y k c c1 c2 lane request asked h alone sm nx ax rx tx sn ny ay ry ty =
    let s = same_next encode c lane request asked (told k) e f h alone sm.0.next sn.0.next rx.0 ry.0 tx.0 ty.0 in
    let a2 = alone_after e c lane request h alone (fits_of encode c lane asked e sm.0.next) rx.0 sm.0.open_still in
    let h2 = run_keeps c (after c e) (e ∷ []) h (rx.0, refl) in
    let rest = same_events encode told m n x y (k + one_if (is_some (told_by e))) (after c e) c1 c2 lane request asked h2 a2 sm.1 nx ax rx.1 tx.1
    (subst (λ (g : Event). Steps (IsStep encode lane asked) (after c g) n) (sym s) sn.1)
    (subst (λ (g : Event). IsNext encode lane asked (after_all (after c g) n) y) (sym s) ny) ay
    (subst (λ (g : Event). CoreRun (after c g) (n ++ y ∷ []) c2) (sym s) ry.1)
    (subst (λ (g : Event). AsTold told (k + one_if (is_some (told_by g))) (n ++ y ∷ [])) (sym s) ty.1) in
    ap (λ (xs : List Event). e ∷ xs) rest ∙ ap (λ (g : Event). g ∷ n ++ y ∷ []) s

-- the lane is alone for some request
pub call_alike : (encode : Core → ℕ → Page) (told : ℕ → Bool × List ℕ) (k : ℕ) (c c1 c2 : Core) (lane : ℕ) (asked : Request) (es fs : List Event) → {request : Request} → Coherent c → IsAlone c lane request → SoloCall encode c lane asked es → CoreRun c es c1 → AsTold told k es →
    SoloCall encode c lane asked fs → CoreRun c fs c2 → AsTold told k fs → es ≡ fs
call_alike encode told k c c1 c2 lane asked es fs {request} h alone a ra ta b rb tb =
    a.whole ∙ (same_events encode told a.most b.most a.last b.last k c c1 c2 lane request asked h alone
    a.steps a.next a.answers (subst (λ (xs : List Event). CoreRun c xs c1) a.whole ra) (subst (AsTold told k) a.whole ta)
    b.steps b.next b.answers (subst (λ (xs : List Event). CoreRun c xs c2) b.whole rb) (subst (AsTold told k) b.whole tb) ∙ sym b.whole)

pub call_same : (encode : Core → ℕ → Page) (told : ℕ → Bool × List ℕ) (k : ℕ) (c c1 c2 : Core) (lane : ℕ) (request : Request) (es fs : List Event) → Coherent c → IsAlone c lane request → SoloCall encode c lane request es → CoreRun c es c1 → AsTold told k es →
    SoloCall encode c lane request fs → CoreRun c fs c2 → AsTold told k fs → es ≡ fs
call_same encode told k c c1 c2 lane request es fs h alone a ra ta b rb tb = call_alike encode told k c c1 c2 lane request es fs h alone a ra ta b rb tb
