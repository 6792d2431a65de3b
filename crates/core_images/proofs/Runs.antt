-- What a last sync has stored mounts to its last plain state, and its last core is settled.
use Rattle.std.proofs.Common.{◌≡◌, ℕ, true, List, [], ◌∷◌, ◌++◌, length, Option, Some, None, refl, sym, ap, ◌∙◌, subst, arith}
use Rattle.name_table.specs.Files.{IsTable}
use Rattle.extent_map.specs.Places.{IsSound}
use Rattle.image_format.specs.declared.meta.Meta.{Meta}
use Rattle.core_state.specs.declared.actor.Actor.{Actor}
use Rattle.core_state.specs.declared.event.Event.{Event}
use Rattle.core_state.specs.State.{Errand, ToFill, ToFlush, ToMeta, Out, Core}
use Rattle.core_state.specs.Coherent.{Coherent}
use Rattle.core_state.specs.Happens.{CoreRun, after, after_all}
use Rattle.core_lemmas.proofs.Words.{nothing}
use Rattle.core_solo.specs.Solo.{IsStored, SyncEnds, Script, SoloRun, enters, leaves}
use Rattle.core_solo.specs.Alone.{OpeningFrames}
use Rattle.core_solo.specs.Settling.{IsSettling, IsFresh}
use Rattle.core_solo.specs.Stored.{IsAllStored}
use Rattle.core_solo.proofs.Folds.{after_both}
use Rattle.core_solo.proofs.Whole.{parts_of}
use Rattle.core_solo.proofs.Closing.{sync_stepped}
use Rattle.core_solo.proofs.Storing.{sync_stores}
use Rattle.system_state.specs.Settled.{IsSettled}
use Rattle.system_metas.specs.Encode.{encode}
use Rattle.core_images.specs.Tables.{HasTables}
use Rattle.core_images.proofs.Encodes.{of_drive}
use Rattle.core_images.proofs.Mounts.{settled}

leads : (es : List Event) (c c1 : Core) → CoreRun c es c1 → c1 ≡ after_all c es
leads [] c c1 r = r
leads (e ∷ es) c c1 r = leads es (after c e) c1 r.1

-- where all is stored no die is out any more
all_home : (c : Core) → Coherent c → IsSettling c → IsStored c → IsAllStored encode c → (die : ℕ) → (c.dies die).out ≡ None
all_home c k s ended stored die = at (c.dies die).out refl
  where
    none : (holder : Actor) (errand : Errand) → (c.dies die).out ≡ Some (record { holder = holder; errand = errand }) → ⊥
    none holder (ToFill lane i) e =
        let f = k.dies.right die (record { holder = holder; errand = ToFill lane i }) e in nothing (c.calls lane) f.call (s.closing.none lane) f.flies
    none holder (ToFlush b version page) e =
        let f = k.dies.right die (record { holder = holder; errand = ToFlush b version page }) e in
        let unclean = (f.2.same (s.flush die holder b version page e)).0 in
        let clean = stored.clean b in
        cc
    none holder (ToMeta number bytes) e = let l = s.writing die holder number bytes e in let n = ended.all in omega arith

    at : (o : Option Out) → (c.dies die).out ≡ o → (c.dies die).out ≡ None
    at None e = e
    at (Some out) e = absurd (none out.holder out.errand e)

pub sync_settles : (m : Meta) (c c1 : Core) (es : List Event) → Coherent c → IsSettling c → ((die : ℕ) → (c.dies die).out ≡ None) → c.closer ≡ 0 → SyncEnds encode c es → CoreRun c es c1
    → HasTables m c1 → IsTable m.names → IsSound m.extents → IsSettled c1
sync_settles m c c1 es k s home fresh ends run h table sound =
    let stored = sync_stores encode c c1 es of_drive k s home fresh ends run in
    let ended = sync_stepped encode es c c1 k s ends.steps run in
    let last : IsStored c1 = subst IsStored (sym (leads es c c1 run)) ends.stored in
    settled m c1 h table sound ended.coherent stored ended.settling.closing.none (all_home c1 ended.coherent ended.settling last stored)

pub run_settles : (m : Meta) (c0 c1 : Core) (script : Script) (events : List Event) → OpeningFrames c0.shape → length script.lanes ≡ c0.shape.lanes → Coherent c0 → IsFresh c0 → c0.closer ≡ 0 → (run : SoloRun encode c0 script true events c1)
    → SyncEnds encode (after_all c0 (enters c0.shape.lanes ++ (run.lines ++ leaves c0.shape.lanes))) run.settling → HasTables m c1 → IsTable m.names → IsSound m.extents → IsSettled c1
run_settles m c0 c1 script events frames lanes k fresh closer run ends h table sound =
    let n = c0.shape.lanes in
    let p = parts_of encode c0 c1 script run.lines run.settling frames lanes k fresh run.calls (subst (λ (xs : List Event). CoreRun c0 xs c1) run.parts run.run) in
    let at : p.end ≡ after_all c0 (enters n ++ (run.lines ++ leaves n)) =
    p.left ∙ (ap (λ (w : Core). after_all (after_all w run.lines) (leaves n)) p.entered
    ∙ (sym (after_both run.lines (leaves n) (after_all c0 (enters n))) ∙ sym (after_both (enters n) (run.lines ++ leaves n) c0))) in
    sync_settles m p.end c1 run.settling p.end_coherent p.settles p.home (p.closer ∙ closer) (subst (λ (w : Core). SyncEnds encode w run.settling) (sym at) ends) p.settling_run h table sound
