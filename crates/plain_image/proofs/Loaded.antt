-- What was mounted, as a drive.
use Rattle.std.proofs.Common.{◌≡◌, ℕ, List, Result, Ok, Err, refl, sym, subst, ap, ◌∙◌}
use Rattle.image_format.specs.declared.faults.ImageFault.{ImageFault}
use Rattle.image_format.specs.declared.faults.MountErr.{MountErr}
use Rattle.image_format.specs.declared.meta.Meta.{Meta}
use Rattle.image_format.specs.Faults.{Fails}
use Rattle.image_format.specs.Image.{Image, Mounted, mounted, read_image, mounts_to}
use Rattle.image_format.specs.Tables.{IsMounted, Mounts}
use Rattle.image_format.specs.Whole.{stands_for, IsWhole}
use Rattle.image_format.proofs.Steps.{fails_bind, ok_bind}
use Rattle.image_laws.specs.Pages.{data_blocks}
use Rattle.plain_image.specs.declared.drive.PlainDrive.{PlainDrive}
use Rattle.plain_image.specs.Drives.{machine_on, drive_in, drive_of}
use Rattle.plain_image.specs.Tables.{IsPlaced}

abbrev ok : {A : Type 0} → A → Result A ImageFault
ok x = Ok x

same_ok : {A : Type 0} (x y : A) → ok x ≡ ok y → x ≡ y
same_ok x y is = cc

-- meta data and data blocks that are whole are placed
pub placed : (m : Meta) (all body : List (List ℕ)) → IsWhole m (data_blocks m all) → body ≡ data_blocks m all → IsPlaced m body
placed m all body whole is = subst (IsPlaced m) (sym is) (record { size = whole.size; pages = whole.pages; count = whole.count })

abbrev drive_with : ℕ → ℕ → Mounted → PlainDrive
drive_with blocks dies m = record { geometry = record { blocks = blocks; dies = dies }; plain = machine_on blocks m }

parts : (d e : PlainDrive) → d.geometry ≡ e.geometry → d.plain ≡ e.plain → d ≡ e
parts d e g p = λ i. record { geometry = g i; plain = p i }

-- the drive of what was mounted
pub drive_is : (bytes : List ℕ) (m : Meta) (all body : List (List ℕ)) (d : PlainDrive) → Mounts bytes m all (read_image bytes) → mounts_to bytes ≡ Ok (stands_for m (data_blocks m all)) → body ≡ data_blocks m all → d.geometry ≡ m.geometry → d.plain ≡ machine_on m.geometry.blocks (stands_for m body) → drive_of bytes ≡ Ok d
unfolding drive_of mounts_to
drive_is bytes m all body d mounts stands is geometry plain = by_read (read_image bytes) refl mounts
  where
    same : (i : Image) → read_image bytes ≡ Ok i → IsMounted bytes i m all → d ≡ drive_in i
    same i read at =
        let files : stands_for m body ≡ mounted i = ap (stands_for m) is ∙ same_ok _ _ (sym stands ∙ ok_bind (read_image bytes) i _ read) in
        parts d (drive_with m.geometry.blocks m.geometry.dies (stands_for m body)) geometry plain
        ∙ ap (λ n. drive_with n m.geometry.dies (stands_for m body)) at.blocks
        ∙ ap (λ n. drive_with i.header.blocks n (stands_for m body)) at.dies
        ∙ ap (drive_with i.header.blocks i.header.dies) files

    by_read : (r : Result Image ImageFault) → read_image bytes ≡ r → Mounts bytes m all r → drive_of bytes ≡ Ok d
    by_read (Ok i) read at = ok_bind (read_image bytes) i _ read ∙ ap (λ x. Ok x) (sym (same i read at))
    by_read (Err fault) read at = absurd at

pub drive_fails : (e : MountErr) (bytes : List ℕ) → Fails e (read_image bytes) → Fails e (drive_of bytes)
unfolding drive_of
drive_fails e bytes fails = fails_bind e (read_image bytes) _ fails
