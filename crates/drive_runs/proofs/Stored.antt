-- The image of a core of which all is stored is of the form in which images are written, and is loaded as the drive of its plain state.
use Rattle.std.proofs.Common.{◌≡◌, ℕ, List, [], ◌∷◌, map, Ok, refl, ap, ◌∙◌}
use Rattle.name_table.specs.Files.{IsTable}
use Rattle.extent_map.specs.Places.{IsSound}
use Rattle.image_format.specs.declared.meta.Meta.{Meta}
use Rattle.image_format.specs.Numbers.{u32_at}
use Rattle.image_format.specs.Image as image_format
use Rattle.image_format.specs.Image.{Mounted, read_image}
use Rattle.image_format.specs.Encoding.{header_part, meta_bytes, image_bytes}
use Rattle.image_format.proofs.Steps.{ok_bind}
use Rattle.plain_files.specs.declared.calls.PlainFile.{PlainFile}
use Rattle.plain_files.specs.Plain.{State}
use Rattle.plain_image.specs.declared.drive.PlainDrive.{PlainDrive}
use Rattle.plain_image.specs.Drives as plain_image
use Rattle.plain_image.specs.Drives.{machine_on, drive_of, without_functions}
use Rattle.core_state.specs.State.{Page, Core}
use Rattle.core_state.specs.Words.{from_fn}
use Rattle.core_state.specs.Contents.{flashes}
use Rattle.core_state.specs.PlainOf.{plain}
use Rattle.core_state.specs.Coherent.{Coherent}
use Rattle.core_solo.specs.Stored.{IsAllStored}
use Rattle.system_state.specs.Settled.{mounted_file, mounted_of, flash_bytes}
use Rattle.system_metas.specs.Encode.{encode}
use Rattle.core_images.specs.Tables.{HasTables}
use Rattle.core_images.proofs.Wholes.{whole}
use Rattle.core_images.proofs.Mounts.{flash_is, mounts, image_is}
use Rattle.drive_runs.specs.Making.{drive_in}
use Rattle.drive_runs.specs.Runs.{IsStoredImage}

-- the version that is written
second : (m : Meta) (blocks : List Page) → u32_at (image_bytes m blocks) 4 ≡ 2
unfolding image_bytes meta_bytes header_part
second m blocks = refl

files_back : (files : List PlainFile) → map plain_image.plain_file (map mounted_file files) ≡ files
files_back [] = refl
files_back (f ∷ fs) = ap (λ (xs : List PlainFile). f ∷ xs) (files_back fs)

machine_back : (s : State) → machine_on s.capacity (mounted_of s) ≡ without_functions s
machine_back s = ap (λ (files : List PlainFile). record { files = files; next = s.next; functions = []; capacity = s.capacity }) (files_back s.files)

abbrev drive_with : ℕ → ℕ → Mounted → PlainDrive
drive_with blocks dies m = record { geometry = record { blocks = blocks; dies = dies }; plain = machine_on blocks m }

module _ (m : Meta) (c : Core) (h : HasTables m c) (table : IsTable m.names) (sound : IsSound m.extents) (k : Coherent c) (stored : IsAllStored encode c) where
  loads : drive_of (flash_bytes c) ≡ Ok (record { geometry = drive_in c; plain = without_functions (plain c) })
  unfolding drive_of
  loads =
      let i = image_is m c h table sound k stored in
      ok_bind (read_image (flash_bytes c)) i.image (λ (j : image_format.Image). Ok (plain_image.drive_in j)) i.read
      ∙ (ap (λ (b : ℕ). Ok (drive_with b i.image.header.dies (image_format.mounted i.image))) i.blocks
      ∙ (ap (λ (d : ℕ). Ok (drive_with c.shape.blocks d (image_format.mounted i.image))) i.dies
      ∙ (ap (λ (x : Mounted). Ok (drive_with c.shape.blocks c.shape.dies x)) i.mounts
      ∙ ap (λ (s : State). Ok (record { geometry = drive_in c; plain = s })) (machine_back (plain c)))))

  pub stored_image : (bytes : List ℕ) → bytes ≡ flash_bytes c → IsStoredImage (drive_in c) (plain c) bytes
  stored_image bytes is =
      let written : bytes ≡ image_bytes m (from_fn m.geometry.blocks (flashes c.blocks)) = is ∙ flash_is m c h table sound k stored in
      record {
        mounts = ap image_format.mounts_to is ∙ mounts m c h table sound k stored;
        loads = ap drive_of is ∙ loads;
        spelled = record {
          version = ap (λ (b : List ℕ). u32_at b 4) written ∙ second m (from_fn m.geometry.blocks (flashes c.blocks));
          meta = m;
          blocks = from_fn m.geometry.blocks (flashes c.blocks);
          whole = whole m c h k (λ b. stored.clean b) table sound;
          spelled = written;
        };
      }
