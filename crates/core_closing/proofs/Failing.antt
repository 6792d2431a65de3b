-- A write of the closer that fails leaves something to store.
use Rattle.std.proofs.Common.{◌≡◌, ℕ, ◌+◌, ◌<◌, ◌≤◌, Bool, true, false, List, [], ◌∷◌, ◌++◌, Option, Some, None, refl, sym, ap, ◌∙◌, subst, ⊎_elim, arith}
use Rattle.std.specs.Prelude.{◌&&◌, ◌==◌}
use Rattle.page_base.specs.Drive.{meta_pages}
use Rattle.dispatcher.specs.declared.side.Side.{Side}
use Rattle.dispatcher.specs.declared.side.Side.TheVariants.{Host, Drive}
use Rattle.index_lists.specs.Words.{put, one_if, count}
use Rattle.index_lists.proofs.Counts.{count-nil}
use Rattle.core_state.specs.declared.actor.Actor.{Actor}
use Rattle.core_state.specs.declared.actor.Actor.TheVariants.{Lane, Worker, Flusher, Closer}
use Rattle.core_state.specs.declared.event.Event.{Event}
use Rattle.core_state.specs.declared.event.Event.TheVariants.{Enter, Leave, Quick, Skip, Begin, Copy, Take, DieOut, FillIn, Submit, Fetch, Report, End, Evict, Demote, FlushOut, FlushIn, MetaIn}
use Rattle.core_state.specs.declared.event.Purpose.TheVariants.{Fill, Meta}
use Rattle.core_state.specs.State.{Page, Block, Errand, ToFill, ToFlush, ToMeta, Out, DieState, Core}
use Rattle.core_state.specs.Contents.{with_copy}
use Rattle.core_state.specs.Coherent.{Coherent}
use Rattle.core_state.specs.DieEvents.{sent, flush_of, home_written, flushed_block, written_page, flushed_by, flushed_of, stored_by, stored_of, MayWriteMeta}
use Rattle.core_state.specs.Happens.{HoldsNone, IsClosing, CoreRun, Happens, after}
use Rattle.core_solo.specs.Solo.{IsStored}
use Rattle.core_solo.proofs.Closing.{unclean_listed}
use Rattle.core_lemmas.proofs.Words.{nothing, same_some}
use Rattle.core_lemmas.proofs.Dies.{is_out}
use Rattle.core_closing.specs.Kept.{IsFailedWrite}
use Rattle.core_closing.proofs.Shut.{IsShut, shut_event, meta_holder, kept_after, closing_after}
use Rattle.core_closing.proofs.Keeps.{flag_put, copy_version}
use Rattle.core_closing.proofs.Writing.{came_home, flush_leaves, page_leaves}

-- what a die of the closer is out for is as it was when it went
abbrev Fits : Core → Errand → Type 0
Fits c (ToFill lane i) = Unit {0}
Fits c (ToFlush b v p) = v ≡ (c.blocks b).version
Fits c (ToMeta n bytes) = n ≡ c.closer

abbrev AllFit : Core → Type 0
AllFit c = (die : ℕ) (errand : Errand) → (c.dies die).out ≡ Some (record { holder = Closer; errand = errand }) → Fits c errand

same_fits : (c d : Core) (errand : Errand) → ((b : ℕ) → (d.blocks b).version ≡ (c.blocks b).version) → d.closer ≡ c.closer → Fits c errand → Fits d errand
same_fits c d (ToFill lane i) version closer f = tt
same_fits c d (ToFlush b v p) version closer f = f ∙ sym (version b)
same_fits c d (ToMeta n bytes) version closer f = f ∙ sym closer

out_fits : (c d : Core) (die : ℕ) (actor : Actor) (errand : Errand) → d.dies ≡ put c.dies die (sent (c.dies die) actor errand) → ((b : ℕ) → (d.blocks b).version ≡ (c.blocks b).version) → d.closer ≡ c.closer → AllFit c → (actor ≡ Closer → Fits d errand) → AllFit d
out_fits c d die actor errand dies version closer all here = λ n purpose e.
    let out : Out = record { holder = Closer; errand = purpose } in
    ⊎_elim
    (λ u. let z = same_some _ out (record { holder = actor; errand = errand }) u.1 refl in
    subst (Fits d) (sym (ap (λ (o : Out). o.errand) z)) (here (sym (ap (λ (o : Out). o.holder) z))))
    (λ u. same_fits c d purpose version closer (all n purpose u.1))
    (is_out c.dies die (sent (c.dies die) actor errand) n out (ap (λ (x : ℕ → DieState). (x n).out) (sym dies) ∙ e))

none_fit : (d : Core) → HoldsNone d Closer → AllFit d
none_fit d none = λ n errand e. absurd (none n (record { holder = Closer; errand = errand }) e refl)

flushed_fits : (c : Core) (actor : Actor) (die b : ℕ) (good : Bool) (left p : Page) (now : Bool) → AllFit c → AllFit (flushed_of c actor die good left b p now)
flushed_fits c actor die b good left p now all = λ n errand e. ⊎_elim (λ u. absurd (cc))
    (λ u. same_fits c (flushed_of c actor die good left b p now) errand (λ j. flag_put (λ (y : Block). y.version) c.blocks b (flushed_block (written_page good p left) now (c.blocks b)) j refl) refl (all n errand u.1))
    (is_out c.dies die (home_written (c.dies die) good) n (record { holder = Closer; errand = errand }) e)

fits_after : (e : Event) (c : Core) → Coherent c → IsClosing c → IsShut e → Happens c e (after c e) → AllFit c → AllFit (after c e)
fits_after (Evict actor side b) c h s f k all = λ n errand e.
    same_fits c (after c (Evict actor side b)) errand (λ j. flag_put (λ (y : Block). y.version) c.blocks b (with_copy side None (c.blocks b)) j (copy_version side None (c.blocks b))) refl (all n errand e)
fits_after (Demote actor b) c h s f k all = λ n errand e.
    same_fits c (after c (Demote actor b)) errand (λ j. flag_put (λ (y : Block). y.version) c.blocks b (record (c.blocks b) { host = None; drive = (c.blocks b).host }) j refl) refl (all n errand e)
fits_after (FlushOut actor die b) c h s f k all = out_fits c (after c (FlushOut actor die b)) die actor (flush_of c b) refl (λ j. refl) refl all (λ e. refl)
fits_after (DieOut actor die (Fill lane i)) c h s f k all = absurd f
fits_after (DieOut actor die (Meta n bytes)) c h s f k all =
    let w : MayWriteMeta c Closer n = subst (λ (x : Actor). MayWriteMeta c x n) f k.may.writes in
    out_fits c (after c (DieOut actor die (Meta n bytes))) die actor (ToMeta n bytes) refl (λ j. refl) refl all (λ e. sym w)
fits_after (FlushIn actor die good left) c h s f k all =
    subst (λ (o : Option Out). AllFit (flushed_by c actor die good left o)) (sym k.may.out)
    (flushed_fits c actor die k.may.b good left k.may.page (good && (k.may.version == (c.blocks k.may.b).version)) all)
fits_after (MetaIn actor die good left) c h s f k all =
    let out : (c.dies die).out ≡ Some (record { holder = Closer; errand = ToMeta k.may.number k.may.bytes }) = subst (λ (x : Actor). (c.dies die).out ≡ Some (record { holder = x; errand = ToMeta k.may.number k.may.bytes })) f k.may.out in
    subst (λ (x : Actor). AllFit (after c (MetaIn x die good left))) (sym f)
    (none_fit (after c (MetaIn Closer die good left)) (came_home c (after c (MetaIn Closer die good left)) die (ToMeta k.may.number k.may.bytes) good h out (ap (λ (d : Core). d.dies) (page_leaves c die k.may.number good left k.may.bytes out))))
fits_after (Enter lane) c h s f k all = absurd f
fits_after (Leave lane) c h s f k all = absurd f
fits_after (Quick lane request reply) c h s f k all = absurd f
fits_after (Skip lane request fault) c h s f k all = absurd f
fits_after (Begin lane request side) c h s f k all = absurd f
fits_after (Copy actor lane i) c h s f k all = absurd f
fits_after (Take actor lane i) c h s f k all = absurd f
fits_after (FillIn actor die good) c h s f k all = absurd f
fits_after (Submit lane) c h s f k all = absurd f
fits_after (Fetch worker lane) c h s f k all = absurd f
fits_after (Report worker lane) c h s f k all = absurd f
fits_after (End lane request reply) c h s f k all = absurd f

-- ---- the failure

block_left : (c : Core) (die : ℕ) (left : Page) → Coherent c → IsClosing c → AllFit c → Happens c (FlushIn Closer die false left) (after c (FlushIn Closer die false left)) → (after c (FlushIn Closer die false left)).unclean ≡ [] → ⊥
block_left c die left h s all k none =
    let b = k.may.b in
    let right = h.dies.right die (record { holder = Closer; errand = ToFlush b k.may.version k.may.page }) k.may.out in
    let listed = unclean_listed c b h s (right.2.same (all die (ToFlush b k.may.version k.may.page) k.may.out)).0 in
    let same : (after c (FlushIn Closer die false left)).unclean ≡ c.unclean = ap (λ (d : Core). d.unclean) (flush_leaves c die b k.may.version false left k.may.page k.may.out) in
    let zero = ap (count b) (sym same ∙ none) ∙ count-nil b in
    omega arith

page_left : (c : Core) (die : ℕ) (left : Page) → Coherent c → IsClosing c → AllFit c → Happens c (MetaIn Closer die false left) (after c (MetaIn Closer die false left)) →
    (after c (MetaIn Closer die false left)).closer ≡ meta_pages (after c (MetaIn Closer die false left)).shape.blocks → ⊥
page_left c die left h s all k most =
    let n = k.may.number in
    let at = all die (ToMeta n k.may.bytes) k.may.out in
    let below = (meta_holder c die Closer n k.may.bytes h s k.may.out).1 in
    let is = page_leaves c die n false left k.may.bytes k.may.out in
    let full : c.closer + 0 ≡ meta_pages c.shape.blocks = subst (λ (d : Core). d.closer ≡ meta_pages d.shape.blocks) is most in
    omega arith

last_unfailed : (e : Event) (c : Core) → Coherent c → IsClosing c → AllFit c → Happens c e (after c e) → IsFailedWrite e → IsStored (after c e) → ⊥
last_unfailed (FlushIn Closer die false left) c h s all k f st = block_left c die left h s all k st.clean
last_unfailed (MetaIn Closer die false left) c h s all k f st = page_left c die left h s all k st.all
last_unfailed e c h s all k f st = f

run_unfailed : (es : List Event) (c d : Core) (e : Event) → Coherent c → IsClosing c → AllFit c → CoreRun c (es ++ e ∷ []) d → IsFailedWrite e → IsStored d → ⊥
run_unfailed [] c d e h s all r f st = last_unfailed e c h s all r.0 f (subst IsStored r.1 st)
run_unfailed (x ∷ xs) c d e h s all r f st =
    run_unfailed xs (after c x) d e (kept_after x c h r.0) (closing_after x c h r.0 s) (fits_after x c h s (shut_event x c h s r.0) r.0 all) r.1 f st

pub unfailed : (c d : Core) (es : List Event) (e : Event) → Coherent c → IsClosing c → HoldsNone c Closer → CoreRun c (es ++ e ∷ []) d → IsFailedWrite e → IsStored d → ⊥
unfailed c d es e h s none r f st = run_unfailed es c d e h s (none_fit c none) r f st
