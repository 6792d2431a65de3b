-- What is kept once no block is unclean.
use Rattle.std.proofs.Common.{◌≡◌, ℕ, ◌+◌, ◌<◌, ◌≤◌, Bool, true, false, List, [], ◌∷◌, Option, Some, None, refl, sym, ap, ◌∙◌, subst, ⊎_elim, arith}
use Rattle.std.specs.Prelude.{◌≢◌, ◌⊎◌, ◌&&◌, ◌||◌, ◌==◌}
use Rattle.std.proofs.lemmas.Bool.Decides.{nat_tests}
use Rattle.page_base.specs.Drive.{meta_pages}
use Rattle.dispatcher.specs.declared.side.Side.{Side}
use Rattle.dispatcher.specs.declared.side.Side.TheVariants.{Host, Drive}
use Rattle.index_lists.specs.Words.{put, one_if, count}
use Rattle.index_lists.proofs.Counts.{same_or_not, count-nil}
use Rattle.index_lists.proofs.Puts.{put-same, put-other}
use Rattle.core_state.specs.declared.actor.Actor.{Actor}
use Rattle.core_state.specs.declared.actor.Actor.TheVariants.{Closer}
use Rattle.core_state.specs.declared.event.Event.{Event}
use Rattle.core_state.specs.declared.event.Event.TheVariants.{Enter, Leave, Quick, Skip, Begin, Copy, Take, DieOut, FillIn, Submit, Fetch, Report, End, Evict, Demote, FlushOut, FlushIn, MetaIn}
use Rattle.core_state.specs.declared.event.Purpose.TheVariants.{Fill, Meta}
use Rattle.core_state.specs.State.{Page, Shape, Block, Names, Places, Errand, ToFlush, ToMeta, Out, DieState, Core}
use Rattle.core_state.specs.Contents.{with_copy}
use Rattle.core_state.specs.Coherent.{Coherent}
use Rattle.core_state.specs.DieEvents.{sent, flush_of, home_written, flushed_block, written_page, flushed_by, flushed_of, stored_by, stored_of, MayWriteMeta}
use Rattle.core_state.specs.Happens.{HoldsNone, IsClosing, CoreRun, Happens, after}
use Rattle.core_solo.specs.Solo.{IsStored}
use Rattle.core_solo.specs.Stored.{IsOfDrive, IsAllStored}
use Rattle.core_solo.proofs.Closing.{unclean_listed}
use Rattle.core_solo.proofs.Words.{true_or_false}
use Rattle.core_lemmas.proofs.Words.{nothing, same_some}
use Rattle.core_lemmas.proofs.Dies.{is_out}
use Rattle.core_closing.specs.Kept.{KeepsStored, IsStoredSoFar}
use Rattle.core_closing.proofs.Shut.{IsShut, shut_event, meta_holder, kept_after, closing_after}

-- the same, of the pages of the meta data below one
pub record KeepsFrom (k : ℕ) (c d : Core) : Type 0 where
  pub shape : d.shape ≡ c.shape
  pub names : d.names ≡ c.names
  pub places : d.places ≡ c.places
  pub written : (b : ℕ) → (d.blocks b).written ≡ (c.blocks b).written
  pub clean : (b : ℕ) → (d.blocks b).clean ≡ (c.blocks b).clean
  pub unclean : d.unclean ≡ c.unclean
  pub closer : c.closer ≤ d.closer
  pub meta : (number : ℕ) → number < k → d.meta number ≡ c.meta number

-- no die is out for a page of the meta data below it
pub record IsAhead (k : ℕ) (c : Core) : Type 0 where
  pub most : k ≤ c.closer
  pub writing : (die : ℕ) (holder : Actor) (n : ℕ) (bytes : Page) → (c.dies die).out ≡ Some (record { holder = holder; errand = ToMeta n bytes }) → k ≤ n

-- ---- flags

pub flag_put : {A : Type 0} (g : Block → A) (f : ℕ → Block) (b : ℕ) (x : Block) (j : ℕ) → g x ≡ g (f b) → g (put f b x j) ≡ g (f j)
flag_put g f b x j same = ⊎_elim
    (λ (e : j ≡ b). ap g (ap (put f b x) e ∙ put-same f b x) ∙ (same ∙ ap (λ (z : ℕ). g (f z)) (sym e)))
    (λ (n : j ≢ b). ap g (put-other f b x j n)) (same_or_not j b)

copy_clean : (side : Side) (p : Option Page) (x : Block) → (with_copy side p x).clean ≡ x.clean
copy_clean Host p x = refl
copy_clean Drive p x = refl

copy_written : (side : Side) (p : Option Page) (x : Block) → (with_copy side p x).written ≡ x.written
copy_written Host p x = refl
copy_written Drive p x = refl

pub copy_version : (side : Side) (p : Option Page) (x : Block) → (with_copy side p x).version ≡ x.version
copy_version Host p x = refl
copy_version Drive p x = refl

or_false : (t : Bool) → (t || false) ≡ t
or_false true = refl
or_false false = refl

-- ---- dies

out_ahead : (k : ℕ) (dies : ℕ → DieState) (d : ℕ) (x : DieState) → ((die : ℕ) (holder : Actor) (n : ℕ) (bytes : Page) → (dies die).out ≡ Some (record { holder = holder; errand = ToMeta n bytes }) → k ≤ n) →
    ((holder : Actor) (n : ℕ) (bytes : Page) → x.out ≡ Some (record { holder = holder; errand = ToMeta n bytes }) → k ≤ n) →
    (die : ℕ) (holder : Actor) (n : ℕ) (bytes : Page) → (put dies d x die).out ≡ Some (record { holder = holder; errand = ToMeta n bytes }) → k ≤ n
out_ahead k dies d x all here die holder n bytes e = ⊎_elim (λ u. here holder n bytes u.1) (λ u. all die holder n bytes u.1) (is_out dies d x die (record { holder = holder; errand = ToMeta n bytes }) e)

errand_is : (x y : Out) → Some x ≡ Some y → x.errand ≡ y.errand
errand_is x y e = let z : x ≡ y = cc in ap (λ (o : Out). o.errand) z

-- ---- one event

abbrev Both : ℕ → Core → Core → Type 0
Both k c d = KeepsFrom k c d × IsAhead k d

-- a flush of a clean block changes no flag
stale : (c : Core) (die b v : ℕ) (p : Page) (holder : Actor) (good : Bool) → Coherent c → IsClosing c → c.unclean ≡ [] → (c.dies die).out ≡ Some (record { holder = holder; errand = ToFlush b v p }) → (good && (v == (c.blocks b).version)) ≡ false
stale c die b v p holder good h s none out = ⊎_elim
    (λ (t : (good && (v == (c.blocks b).version)) ≡ true).
    let right = h.dies.right die (record { holder = holder; errand = ToFlush b v p }) out in
    let same : v ≡ (c.blocks b).version = grind (arith, nat_tests) in
    let listed = unclean_listed c b h s (right.2.same same).0 in
    let zero = ap (count b) none ∙ count-nil b in
    absurd (omega arith))
    (λ f. f) (true_or_false (good && (v == (c.blocks b).version)))

flushed_keeps : (k : ℕ) (c : Core) (actor : Actor) (die b : ℕ) (good : Bool) (left p : Page) (now : Bool) → now ≡ false → IsAhead k c → Both k c (flushed_of c actor die good left b p now)
flushed_keeps k c actor die b good left p true f a = absurd (cc)
flushed_keeps k c actor die b good left p false f a =
    let x = flushed_block (written_page good p left) false (c.blocks b) in (
      record {
        shape = refl;
        names = refl;
        places = refl;
        written = λ j. flag_put (λ (y : Block). y.written) c.blocks b x j (or_false (c.blocks b).written);
        clean = λ j. flag_put (λ (y : Block). y.clean) c.blocks b x j (or_false (c.blocks b).clean);
        unclean = refl;
        closer = omega arith;
        meta = λ n l. refl;
      },
      record { most = a.most; writing = out_ahead k c.dies die (home_written (c.dies die) good) a.writing (λ holder n bytes e. absurd (cc)) },
    )

stored_keeps : (k : ℕ) (c : Core) (die n : ℕ) (good : Bool) (left bytes : Page) → k ≤ n → IsAhead k c → Both k c (stored_of c Closer die good left n bytes)
stored_keeps k c die n good left bytes l a = (
  record {
    shape = refl;
    names = refl;
    places = refl;
    written = λ j. refl;
    clean = λ j. refl;
    unclean = refl;
    closer = omega arith;
    meta = λ m q. put-other c.meta n (written_page good bytes left) m (omega arith);
  },
  record { most = let m = a.most in omega arith; writing = out_ahead k c.dies die (home_written (c.dies die) good) a.writing (λ holder n bytes e. absurd (cc)) },
)

keeps_after : (e : Event) (k : ℕ) (c : Core) → Coherent c → IsClosing c → c.unclean ≡ [] → IsAhead k c → IsShut e → Happens c e (after c e) → Both k c (after c e)
keeps_after (Evict actor side b) k c h s none a f r = (
  record {
    shape = refl;
    names = refl;
    places = refl;
    written = λ j. flag_put (λ (y : Block). y.written) c.blocks b (with_copy side None (c.blocks b)) j (copy_written side None (c.blocks b));
    clean = λ j. flag_put (λ (y : Block). y.clean) c.blocks b (with_copy side None (c.blocks b)) j (copy_clean side None (c.blocks b));
    unclean = refl;
    closer = omega arith;
    meta = λ n l. refl;
  },
  record { most = a.most; writing = a.writing },
)
keeps_after (Demote actor b) k c h s none a f r = (
  record {
    shape = refl;
    names = refl;
    places = refl;
    written = λ j. flag_put (λ (y : Block). y.written) c.blocks b (record (c.blocks b) { host = None; drive = (c.blocks b).host }) j refl;
    clean = λ j. flag_put (λ (y : Block). y.clean) c.blocks b (record (c.blocks b) { host = None; drive = (c.blocks b).host }) j refl;
    unclean = refl;
    closer = omega arith;
    meta = λ n l. refl;
  },
  record { most = a.most; writing = a.writing },
)
keeps_after (FlushOut actor die b) k c h s none a f r = (
  record {
    shape = refl;
    names = refl;
    places = refl;
    written = λ j. refl;
    clean = λ j. refl;
    unclean = refl;
    closer = omega arith;
    meta = λ n l. refl;
  },
  record {
    most = a.most;
    writing = out_ahead k c.dies die (sent (c.dies die) actor (flush_of c b)) a.writing (λ holder n bytes e. let z = errand_is (record { holder = actor; errand = flush_of c b }) (record { holder = holder; errand = ToMeta n bytes }) e in absurd (cc));
  },
)
keeps_after (DieOut actor die (Fill lane i)) k c h s none a f r = absurd f
keeps_after (DieOut actor die (Meta n bytes)) k c h s none a f r =
    let w : MayWriteMeta c Closer n = subst (λ (x : Actor). MayWriteMeta c x n) f r.may.writes in (
      record {
        shape = refl;
        names = refl;
        places = refl;
        written = λ j. refl;
        clean = λ j. refl;
        unclean = refl;
        closer = omega arith;
        meta = λ n l. refl;
      },
      record {
        most = a.most;
        writing = out_ahead k c.dies die (sent (c.dies die) actor (ToMeta n bytes)) a.writing
            (λ holder m by e. let z = errand_is (record { holder = actor; errand = ToMeta n bytes }) (record { holder = holder; errand = ToMeta m by }) e in let y : n ≡ m = cc in let x = a.most in let v : c.closer ≡ n = w in omega arith);
      },
    )
keeps_after (FlushIn actor die good left) k c h s none a f r =
    subst (λ (o : Option Out). Both k c (flushed_by c actor die good left o)) (sym r.may.out)
    (flushed_keeps k c actor die r.may.b good left r.may.page (good && (r.may.version == (c.blocks r.may.b).version)) (stale c die r.may.b r.may.version r.may.page actor good h s none r.may.out) a)
keeps_after (MetaIn actor die good left) k c h s none a f r =
    subst (λ (o : Option Out). Both k c (stored_by c actor die good left o)) (sym r.may.out)
    (subst (λ (x : Actor). Both k c (stored_of c x die good left r.may.number r.may.bytes)) (sym f)
    (stored_keeps k c die r.may.number good left r.may.bytes (a.writing die actor r.may.number r.may.bytes r.may.out) a))
keeps_after (Enter lane) k c h s none a f r = absurd f
keeps_after (Leave lane) k c h s none a f r = absurd f
keeps_after (Quick lane request reply) k c h s none a f r = absurd f
keeps_after (Skip lane request fault) k c h s none a f r = absurd f
keeps_after (Begin lane request side) k c h s none a f r = absurd f
keeps_after (Copy actor lane i) k c h s none a f r = absurd f
keeps_after (Take actor lane i) k c h s none a f r = absurd f
keeps_after (FillIn actor die good) k c h s none a f r = absurd f
keeps_after (Submit lane) k c h s none a f r = absurd f
keeps_after (Fetch worker lane) k c h s none a f r = absurd f
keeps_after (Report worker lane) k c h s none a f r = absurd f
keeps_after (End lane request reply) k c h s none a f r = absurd f

-- ---- a run

keeps_on : (k : ℕ) (c d e : Core) → KeepsFrom k c d → KeepsFrom k d e → KeepsFrom k c e
keeps_on k c d e p q =
    record {
      shape = q.shape ∙ p.shape;
      names = q.names ∙ p.names;
      places = q.places ∙ p.places;
      written = λ b. q.written b ∙ p.written b;
      clean = λ b. q.clean b ∙ p.clean b;
      unclean = q.unclean ∙ p.unclean;
      closer = let x = p.closer in let y = q.closer in omega arith;
      meta = λ n l. q.meta n l ∙ p.meta n l;
    }

keeps_none : (k : ℕ) (c : Core) → KeepsFrom k c c
keeps_none k c = record { shape = refl; names = refl; places = refl; written = λ b. refl; clean = λ b. refl; unclean = refl; closer = omega arith; meta = λ n l. refl }

pub keeps_run : (es : List Event) (k : ℕ) (c d : Core) → Coherent c → IsClosing c → c.unclean ≡ [] → IsAhead k c → CoreRun c es d → KeepsFrom k c d × IsAhead k d
keeps_run [] k c d h s none a r = subst (λ (x : Core). Both k c x) (sym r) (keeps_none k c, a)
keeps_run (e ∷ es) k c d h s none a r =
    let p = keeps_after e k c h s none a (shut_event e c h s r.0) r.0 in
    let q = keeps_run es k (after c e) d (kept_after e c h r.0) (closing_after e c h r.0 s) (p.0.unclean ∙ none) p.1 r.1 in
    (keeps_on k c (after c e) d p.0 q.0, q.1)

-- where the closer holds no die, none is out for the meta data
pub none_ahead : (c : Core) → Coherent c → IsClosing c → HoldsNone c Closer → IsAhead c.closer c
none_ahead c h s none =
    record {
      most = omega arith;
      writing = λ die holder n bytes e. absurd (none die (record { holder = holder; errand = ToMeta n bytes }) e (meta_holder c die holder n bytes h s e).0);
    }

pub stored_kept : (c d : Core) (es : List Event) → Coherent c → IsClosing c → HoldsNone c Closer → c.unclean ≡ [] → CoreRun c es d → KeepsStored c d
stored_kept c d es h s none clean r =
    let k = (keeps_run es c.closer c d h s clean (none_ahead c h s none) r).0 in
    record { shape = k.shape; names = k.names; places = k.places; written = k.written; clean = k.clean; unclean = k.unclean; closer = k.closer; meta = k.meta }

-- ---- what is stored

pub still_encodes : (encode : Core → ℕ → Page) (k : ℕ) (c d : Core) → IsOfDrive encode → KeepsFrom k c d → (n : ℕ) → encode d n ≡ encode c n
still_encodes encode k c d of p n = of c d p.shape p.names p.places p.written n

pub zero_or_more : (n : ℕ) → (n ≡ 0) ⊎ (0 < n)
zero_or_more n = grind arith

-- with a die out for the meta data, or none
pub so_far_ahead : (encode : Core → ℕ → Page) (c d : Core) (es : List Event) → IsOfDrive encode → Coherent c → IsClosing c → IsAhead c.closer c → IsStoredSoFar encode c → CoreRun c es d → d.closer ≡ c.closer → IsStoredSoFar encode d
so_far_ahead encode c d es of h s a p r same = ⊎_elim
    (λ (z : c.closer ≡ 0). record { meta = λ n l. absurd (omega arith); clean = λ l. absurd (omega arith) })
    (λ (m : 0 < c.closer).
    let k = (keeps_run es c.closer c d h s (p.clean m) a r).0 in
    record { meta = λ n l. let q : n < c.closer = omega arith in k.meta n q ∙ (p.meta n q ∙ sym (still_encodes encode c.closer c d of k n)); clean = λ l. k.unclean ∙ p.clean m })
    (zero_or_more c.closer)

pub all_stored : (encode : Core → ℕ → Page) (c : Core) → Coherent c → IsClosing c → IsStoredSoFar encode c → IsStored c → IsAllStored encode c
all_stored encode c h s p all =
    record {
      clean = λ b. ⊎_elim (λ t. t) (λ f. absurd (let l = unclean_listed c b h s f in let e = ap (count b) all.clean ∙ count-nil b in omega arith)) (true_or_false (c.blocks b).clean);
      meta = λ n l. p.meta n (let q = all.all in omega arith);
    }

pub all_kept : (encode : Core → ℕ → Page) (c d : Core) (es : List Event) → IsOfDrive encode → Coherent c → IsClosing c → HoldsNone c Closer → IsStored c → IsAllStored encode c → CoreRun c es d → IsAllStored encode d
all_kept encode c d es of h s none st all r =
    let k = (keeps_run es c.closer c d h s st.clean (none_ahead c h s none) r).0 in
    record {
      clean = λ b. k.clean b ∙ all.clean b;
      meta = λ n l.
          let below : n < meta_pages c.shape.blocks = subst (λ (z : Shape). n < meta_pages z.blocks) k.shape l in
          k.meta n (let q = st.all in omega arith) ∙ (all.meta n below ∙ sym (still_encodes encode c.closer c d of k n));
    }

pub none_yet : (encode : Core → ℕ → Page) (c : Core) → c.closer ≡ 0 → IsStoredSoFar encode c
none_yet encode c zero = record { meta = λ n l. absurd (omega arith); clean = λ l. absurd (omega arith) }
