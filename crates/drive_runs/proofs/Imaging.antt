-- The image behind a run is what its end, and the lines of the script, let it be.
use Rattle.std.proofs.Common.{◌≡◌, ℕ, ◌<◌, Bool, true, false, List, [], ◌∷◌, ◌++◌, refl, sym, ap, ◌∙◌, subst, inl, inr, arith}
use Rattle.std.specs.Prelude.{◌↔◌}
use Rattle.page_base.specs.Drive.{Drive}
use Rattle.flash_die.specs.Dies.{DieView, IsDie}
use Rattle.turn_cell.specs.declared.book.Entry.{Entry}
use Rattle.turn_cell.specs.Events.{events_of}
use Rattle.script_words.specs.declared.script.FaultLine.{FaultLine}
use Rattle.command_words.specs.declared.options.DieKind.{DieKind}
use Rattle.core_state.specs.declared.event.Event.{Event}
use Rattle.core_state.specs.PlainOf.{plain}
use Rattle.core_solo.specs.Stored.{IsAllStored}
use Rattle.core_closing.specs.Kept.{IsFailedWrite}
use Rattle.core_plans.specs.Gathering.{IsLost}
use Rattle.core_plans.proofs.Gathers.{gathered_whole, gathered_lost}
use Rattle.core_images.proofs.States.{state_has}
use Rattle.system_metas.specs.Encode.{encode}
use Rattle.system_state.specs.Jobs.{JobView}
use Rattle.system_state.specs.Cores.{core_of}
use Rattle.system_state.specs.Stands.{Stands}
use Rattle.system_state.specs.declared.state.Sizes.{Sizes}
use Rattle.system_state.specs.declared.state.State.{State}
use Rattle.system_state.proofs.Standing.{stands_coherent}
use Rattle.mounted_systems.specs.Gathered.{HasStopped, HasGiven}
use Rattle.settling.specs.Steps.{EndsInFailure}
use Rattle.settling.specs.declared.last_sync.Settled.{Settled}
use Rattle.settling.specs.declared.last_sync.Settled.TheVariants as settled
use Rattle.drive_runs.specs.declared.running.DriveImage.{DriveImage}
use Rattle.drive_runs.specs.declared.running.DriveImage.TheVariants as image
use Rattle.drive_runs.specs.Imaging.{HasImage, HasGathered, ImageSays}
use Rattle.drive_runs.specs.Making.{AreMade, drive_in}
use Rattle.drive_runs.specs.Runs.{LastSyncFails, IsStoredImage, IsGathered}
use Rattle.drive_runs.proofs.Stored.{stored_image}

-- ---- how a history ends

map_end : {E : Type 0} (h : List (Entry E)) (x : Entry E) → events_of (h ++ x ∷ []) ≡ events_of h ++ x.event ∷ []
map_end [] x = refl
map_end (y ∷ ys) x = ap (λ (es : List _). y.event ∷ es) (map_end ys x)

pub fails_last : (h : List (Entry Event)) → EndsInFailure h → LastSyncFails (events_of h)
fails_last h f = (events_of f.0, f.1.event, ap events_of f.2 ∙ map_end f.0 f.1, f.3)

-- a history whose last event is this
record EndsWith (h : List (Entry Event)) (last : Event) : Type 0 where
  before : List (Entry Event)
  entry : Entry Event
  whole : h ≡ before ++ entry ∷ []
  event : entry.event ≡ last

head_is : (x y : Event) (xs ys : List Event) → x ∷ xs ≡ y ∷ ys → x ≡ y
head_is x y xs ys e = cc

rest_is : (x y : Event) (xs ys : List Event) → x ∷ xs ≡ y ∷ ys → xs ≡ ys
rest_is x y xs ys e = cc

ends_with : (h : List (Entry Event)) (before : List Event) (last : Event) → events_of h ≡ before ++ last ∷ [] → EndsWith h last
ends_with [] [] last e = absurd (cc)
ends_with [] (b ∷ bs) last e = absurd (cc)
ends_with (x ∷ []) [] last e = record { before = []; entry = x; whole = refl; event = head_is x.event last [] [] e }
ends_with (x ∷ y ∷ ys) [] last e = absurd (let k = rest_is x.event last (events_of (y ∷ ys)) [] e in cc)
ends_with (x ∷ xs) (b ∷ bs) last e =
    let k = ends_with xs bs last (rest_is x.event b (events_of xs) (bs ++ last ∷ []) e) in
    record { before = x ∷ k.before; entry = k.entry; whole = ap (λ (ys : List (Entry Event)). x ∷ ys) k.whole; event = k.event }

pub last_fails : (h : List (Entry Event)) → LastSyncFails (events_of h) → EndsInFailure h
last_fails h f = let k = ends_with h f.0 f.1 f.2 in (k.before, k.entry, k.whole, subst IsFailedWrite (sym k.event) f.3)

-- ---- what was asked

asked_for : (stores : Bool) (s : Settled) → (stores ≡ false → s ≡ settled.NotAsked) → (s ≡ settled.NotAsked → ⊥) → stores ≡ true
asked_for true s a n = refl
asked_for false s a n = absurd (n (a refl))

not_failed : settled.Failed ≡ settled.NotAsked → ⊥
not_failed e = cc

not_done : settled.Done ≡ settled.NotAsked → ⊥
not_done e = cc

unfailed : settled.Done ≡ settled.Failed → ⊥
unfailed e = cc

module _ {D J : Type 0} (seen : D → DieView) (suits : J → JobView → Type 0) (sound : (x : D) → IsDie (seen x)) where
  module _ (s o : State D J) (h : List (Entry Event)) (k : Stands seen suits s o h) (kind : DieKind) (lines : List FaultLine) (made : AreMade seen kind lines o) where
    -- the drive of the tables is that of the core
    drive_is : s.meta.geometry ≡ drive_in (core_of seen s)
    drive_is =
        ap (λ (b : ℕ). record { blocks = b; dies = s.meta.geometry.dies }) k.kept.tables.blocks
        ∙ ap (λ (d : ℕ). record { blocks = s.sizes.blocks; dies = d }) k.kept.tables.dies

    -- which is that of the opening
    pub same_drive : drive_in (core_of seen s) ≡ drive_in (core_of seen o)
    same_drive = ap (λ (z : Sizes). record { blocks = z.blocks; dies = z.dies }) k.sizes

    dies_are : s.meta.geometry.dies ≡ o.sizes.dies
    dies_are = ap (λ (d : Drive). d.dies) (drive_is ∙ same_drive)

    given : HasGiven seen s.meta.geometry s.rack.slots.items → IsLost kind lines (drive_in (core_of seen o)) (events_of h) false
    given g = subst (λ (d : Drive). IsLost kind lines d (events_of h) false) (drive_is ∙ same_drive)
        (gathered_whole seen suits sound s o h kind lines s.meta.geometry g.dies k made g.home dies_are g.unlisted)

    some : 0 < s.meta.geometry.dies
    some = let a = k.kept.sizes.drive.some_dies in let b = k.kept.tables.dies in omega arith

    stopped : (die : ℕ) → HasStopped seen s.meta.geometry s.rack.slots.items die → IsLost kind lines (drive_in (core_of seen o)) (events_of h) true
    stopped die g = subst (λ (d : Drive). IsLost kind lines d (events_of h) true) (drive_is ∙ same_drive)
        (gathered_lost seen suits sound s o h kind lines s.meta.geometry g.dies g.left die k made g.home dies_are some g.stops g.rises g.listed)

    whole_is : (bytes : List ℕ) → IsAllStored encode (core_of seen s) → HasImage seen s bytes → IsStoredImage (drive_in (core_of seen o)) (plain (core_of seen s)) bytes
    whole_is bytes stored i = subst (λ (d : Drive). IsStoredImage d (plain (core_of seen s)) bytes) same_drive
        (stored_image s.meta (core_of seen s) (state_has seen suits s (record { o = o; h = h; stands = k })) i.table i.sound (stands_coherent seen suits s o h k) stored bytes i.pages)

    abbrev Gathered : Bool → DriveImage → Type 0
    Gathered stores found = IsGathered kind lines (drive_in (core_of seen o)) stores (events_of h) (core_of seen s) found

    done : (stores : Bool) (found : DriveImage) → stores ≡ true → (EndsInFailure h → ⊥) → IsAllStored encode (core_of seen s) → HasGathered seen s found → Gathered stores found
    done stores image.NotAsked asked fine stored g = absurd g
    done stores (image.Whole bytes) asked fine stored g = (asked, (λ f. fine (last_fails h f)), given g.given, whole_is bytes.items stored g)
    done stores image.Lost asked fine stored g = (asked, inr (stopped g.0 g.1))

    pub image_told : (stores : Bool) (ended : Settled) (found : DriveImage) → (ended ≡ settled.NotAsked) ↔ (stores ≡ false) → (ended ≡ settled.Failed) ↔ EndsInFailure h →
        (ended ≡ settled.Done → IsAllStored encode (core_of seen s)) → ImageSays seen s ended found → Gathered stores found
    image_told stores settled.NotAsked found asked failed stored says = subst (Gathered stores) (sym says) (asked.0 refl)
    image_told stores settled.Failed found asked failed stored says =
        subst (Gathered stores) (sym says) (asked_for stores settled.Failed asked.1 not_failed, inl (fails_last h (failed.0 refl)))
    image_told stores settled.Done found asked failed stored says =
        done stores found (asked_for stores settled.Done asked.1 not_done) (λ f. unfailed (failed.1 f)) (stored refl) says
