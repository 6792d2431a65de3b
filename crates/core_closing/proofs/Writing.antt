-- One write of the closer: its die goes out, others act, and it comes home.
use Rattle.std.proofs.Common.{◌≡◌, ℕ, ◌+◌, ◌<◌, ◌≤◌, Bool, true, false, List, [], ◌∷◌, ◌++◌, Option, Some, None, refl, sym, ap, ◌∙◌, subst, ⊎_elim, arith}
use Rattle.std.specs.Prelude.{◌≢◌, ◌&&◌, ◌==◌}
use Rattle.std.specs.List.{find}
use Rattle.page_base.specs.Drive.{meta_pages}
use Rattle.index_lists.specs.Words.{put, one_if}
use Rattle.index_lists.proofs.Counts.{same_or_not}
use Rattle.index_lists.proofs.Puts.{put-same, put-other}
use Rattle.core_state.specs.declared.actor.Actor.{Actor}
use Rattle.core_state.specs.declared.actor.Actor.TheVariants.{Closer}
use Rattle.core_state.specs.declared.event.Event.{Event}
use Rattle.core_state.specs.declared.event.Event.TheVariants.{DieOut, FlushOut, FlushIn, MetaIn}
use Rattle.core_state.specs.declared.event.Purpose.TheVariants.{Meta}
use Rattle.core_state.specs.State.{Page, Shape, Errand, ToFlush, ToMeta, Out, DieState, Core}
use Rattle.core_state.specs.Coherent.{Coherent}
use Rattle.core_state.specs.DieEvents.{home_written, written_page, flushed_by, flushed_of, stored_by, stored_of}
use Rattle.core_state.specs.Happens.{HoldsNone, IsClosing, CoreRun, Happens, after}
use Rattle.core_solo.specs.Stored.{IsOfDrive}
use Rattle.core_lemmas.proofs.Words.{same_some}
use Rattle.core_lemmas.proofs.Dies.{home_free}
use Rattle.core_closing.specs.Kept.{MaySettle, IsStoredSoFar}
use Rattle.core_closing.proofs.Shut.{meta_holder, closing_after}
use Rattle.core_closing.proofs.Keeps.{zero_or_more, none_ahead, keeps_run, still_encodes, so_far_ahead}

-- ---- what the closer may do then

-- the only die of the closer comes home
pub came_home : (c d : Core) (die : ℕ) (errand : Errand) (good : Bool) → Coherent c → (c.dies die).out ≡ Some (record { holder = Closer; errand = errand }) → d.dies ≡ put c.dies die (home_written (c.dies die) good) → HoldsNone d Closer
came_home c d die errand good h out dies = λ n o e.
    home_free c.shape c.places c.blocks c.lanes c.calls c.dies die (home_written (c.dies die) good) (record { holder = Closer; errand = errand }) out refl h.dies n o (ap (λ (x : ℕ → DieState). (x n).out) (sym dies) ∙ e)

-- what a flush and a page of the meta data leave
pub flush_leaves : (c : Core) (die b v : ℕ) (good : Bool) (left p : Page) → (c.dies die).out ≡ Some (record { holder = Closer; errand = ToFlush b v p }) →
    after c (FlushIn Closer die good left) ≡ flushed_of c Closer die good left b p (good && (v == (c.blocks b).version))
flush_leaves c die b v good left p out = ap (λ (o : Option Out). flushed_by c Closer die good left o) out

pub page_leaves : (c : Core) (die n : ℕ) (good : Bool) (left bytes : Page) → (c.dies die).out ≡ Some (record { holder = Closer; errand = ToMeta n bytes }) →
    after c (MetaIn Closer die good left) ≡ stored_of c Closer die good left n bytes
page_leaves c die n good left bytes out = ap (λ (o : Option Out). stored_by c Closer die good left o) out

pub block_ready : (c : Core) (die : ℕ) (good : Bool) (left : Page) → Coherent c → IsClosing c → c.closer ≤ meta_pages c.shape.blocks → Happens c (FlushIn Closer die good left) (after c (FlushIn Closer die good left)) →
    MaySettle (after c (FlushIn Closer die good left)) × ((after c (FlushIn Closer die good left)).closer ≡ c.closer)
block_ready c die good left h s most k =
    let is = flush_leaves c die k.may.b k.may.version good left k.may.page k.may.out in
    let closer : (after c (FlushIn Closer die good left)).closer ≡ c.closer = ap (λ (d : Core). d.closer) is in
    let shape : (after c (FlushIn Closer die good left)).shape ≡ c.shape = ap (λ (d : Core). d.shape) is in (
      record {
        closing = closing_after (FlushIn Closer die good left) c h k s;
        none = came_home c (after c (FlushIn Closer die good left)) die (ToFlush k.may.b k.may.version k.may.page) good h k.may.out (ap (λ (d : Core). d.dies) is);
        most = subst (λ (z : ℕ × Shape). z.0 ≤ meta_pages z.1.blocks) (λ i. (sym closer i, sym shape i)) most;
      },
      closer,
    )

one_at_most : (good : Bool) (n m : ℕ) → n < m → n + one_if good ≤ m
one_at_most true n m l = omega arith
one_at_most false n m l = omega arith

pub page_ready : (c : Core) (die n : ℕ) (good : Bool) (left bytes : Page) → Coherent c → IsClosing c → (c.dies die).out ≡ Some (record { holder = Closer; errand = ToMeta n bytes }) → n ≡ c.closer →
    Happens c (MetaIn Closer die good left) (after c (MetaIn Closer die good left)) → MaySettle (after c (MetaIn Closer die good left))
page_ready c die n good left bytes h s out number k =
    let is = page_leaves c die n good left bytes out in
    let below : n < meta_pages c.shape.blocks = (meta_holder c die Closer n bytes h s out).1 in
    let most : c.closer + one_if good ≤ meta_pages c.shape.blocks = one_at_most good c.closer (meta_pages c.shape.blocks) (omega arith) in
    record {
      closing = closing_after (MetaIn Closer die good left) c h k s;
      none = came_home c (after c (MetaIn Closer die good left)) die (ToMeta n bytes) good h out (ap (λ (d : Core). d.dies) is);
      most = subst (λ (d : Core). d.closer ≤ meta_pages d.shape.blocks) (sym is) most;
    }

-- ---- what it has stored so far

find_some : (test : ℕ → Bool) (us : List ℕ) (b : ℕ) → find test us ≡ Some b → us ≡ [] → ⊥
find_some test us b e none = let z = ap (find test) none in absurd (cc)

-- where a block is unclean the closer has written no page of the meta data
none_written : (encode : Core → ℕ → Page) (c : Core) → IsStoredSoFar encode c → (c.unclean ≡ [] → ⊥) → c.closer ≡ 0
none_written encode c p some = ⊎_elim (λ z. z) (λ l. absurd (some (p.clean l))) (zero_or_more c.closer)

pub block_so_far : (encode : Core → ℕ → Page) (c d : Core) (die b : ℕ) → Happens c (FlushOut Closer die b) (after c (FlushOut Closer die b)) → d.closer ≡ c.closer → IsStoredSoFar encode c → IsStoredSoFar encode d
block_so_far encode c d die b k same p =
    let zero = none_written encode c p (find_some _ c.unclean b k.may.first) in
    record { meta = λ n l. absurd (omega arith); clean = λ l. absurd (omega arith) }

page_so_far_by : (encode : Core → ℕ → Page) (g : Core) (die n : ℕ) (left bytes : Page) (good : Bool) → IsOfDrive encode → n ≡ g.closer → bytes ≡ encode g n → g.unclean ≡ [] → IsStoredSoFar encode g → IsStoredSoFar encode (stored_of g Closer die good left n bytes)
page_so_far_by encode g die n left bytes good of number are clean p =
    record { meta = by good; clean = λ l. clean }
  where
    same : (good : Bool) (m : ℕ) → encode (stored_of g Closer die good left n bytes) m ≡ encode g m
    same good m = of g (stored_of g Closer die good left n bytes) refl refl refl (λ b. refl) m

    at : (good : Bool) (m : ℕ) → m < g.closer + one_if good → m ≡ n → written_page good bytes left ≡ encode g m
    at true m l e = are ∙ ap (encode g) (sym e)
    at false m l e = absurd (omega arith)

    below : (good : Bool) (m : ℕ) → m < g.closer + one_if good → m ≢ n → m < g.closer
    below true m l d = omega arith
    below false m l d = omega arith

    by : (good : Bool) (m : ℕ) → m < g.closer + one_if good → put g.meta n (written_page good bytes left) m ≡ encode (stored_of g Closer die good left n bytes) m
    by good m l = ⊎_elim
        (λ (e : m ≡ n). ap (put g.meta n (written_page good bytes left)) e ∙ (put-same g.meta n (written_page good bytes left) ∙ (at good m l e ∙ sym (same good m))))
        (λ (d : m ≢ n). put-other g.meta n (written_page good bytes left) m d ∙ (p.meta m (below good m l d) ∙ sym (same good m))) (same_or_not m n)

-- the page goes out in core c, with its bytes; others act until core g, in which it comes home
pub page_so_far : (encode : Core → ℕ → Page) (c g : Core) (es : List Event) (die n : ℕ) (good : Bool) (left bytes : Page) → IsOfDrive encode → Coherent c → IsClosing c → HoldsNone c Closer →
    CoreRun c es g → g.closer ≡ c.closer → n ≡ c.closer → bytes ≡ encode c n → c.unclean ≡ [] → (g.dies die).out ≡ Some (record { holder = Closer; errand = ToMeta n bytes }) →
    IsStoredSoFar encode c → IsStoredSoFar encode (after g (MetaIn Closer die good left))
page_so_far encode c g es die n good left bytes of h s none r same number are clean out p =
    let a = none_ahead c h s none in
    let k = (keeps_run es c.closer c g h s clean a r).0 in
    subst (IsStoredSoFar encode) (sym (page_leaves g die n good left bytes out))
    (page_so_far_by encode g die n left bytes good of (number ∙ sym same) (are ∙ sym (still_encodes encode c.closer c g of k n)) (k.unclean ∙ clean) (so_far_ahead encode c g es of h s a p r same))
