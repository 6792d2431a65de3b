-- What an entry comes to.
use Rattle.std.proofs.Common.{◌≡◌, ℕ, suc, ◌+◌, List, ◌++◌, length, take, drop, map, Bool, true, false, leb, Some, None, Result, Ok, Err, ap, ◌∙◌, sym, refl}
use Rattle.std.specs.Prelude.{⊤, not, ◌&&◌, is_some}
use Rattle.std.specs.List.{list_any, range_with_len}
use Rattle.extent_map.specs.declared.places.Place.{Place}
use Rattle.extent_map.specs.declared.places.Extent.{Extent}
use Rattle.extent_map.specs.Places.{first_used}
use Rattle.image_format.specs.declared.faults.ImageKind.TheVariants as kinds
use Rattle.image_format.specs.declared.faults.ImageKind.{ImageKind}
use Rattle.image_format.specs.declared.faults.ImageFault.{ImageFault}
use Rattle.image_format.specs.declared.faults.MountErr.{MountErr}
use Rattle.image_format.specs.declared.faults.MountErr.TheVariants as errors
use Rattle.image_format.specs.Faults.{◌>>=◌, demand, fault, Fails}
use Rattle.image_format.specs.Records.{Stored}
use Rattle.image_format.specs.Entries.{Cover, page_after, is_at, is_in, used_entry, one_entry, entries, covered}
use Rattle.image_format.specs.declared.entries.Awaited.{Awaited}
use Rattle.image_format.proofs.Covers.{any_inside}

demand_ok : {A : Type 0} (b : Bool) (kind : ImageKind) (place : ℕ) (f : ⊤ → Result A ImageFault) → b ≡ true → (demand b kind place >>= f) ≡ f tt
demand_ok true kind place f e = refl
demand_ok false kind place f e = absurd cc

demand_fails : {A : Type 0} (b : Bool) (kind : ImageKind) (place : ℕ) (f : ⊤ → Result A ImageFault) → b ≡ false → (demand b kind place >>= f) ≡ fault kind place
demand_fails false kind place f e = refl
demand_fails true kind place f e = absurd cc

abbrev pub is_next_entry : ℕ → List Stored → Cover → Extent → Bool
is_next_entry blocks files c e = not c.ended && (is_at e (page_after (length c.blocks) files) && leb (e.block + e.count) blocks)

pub not_next : (blocks : ℕ) (files : List Stored) (at : ℕ) (c : Cover) (e : Extent) → is_next_entry blocks files c e ≡ false → used_entry blocks files at c e ≡ fault kinds.Extent at
unfolding used_entry
not_next blocks files at c e is = demand_fails _ _ _ _ is

pub overlaps : (blocks : ℕ) (files : List Stored) (at : ℕ) (c : Cover) (e : Extent) → is_next_entry blocks files c e ≡ true → list_any (is_in e) c.blocks ≡ true → used_entry blocks files at c e ≡ fault kinds.Overlap at
unfolding used_entry
overlaps blocks files at c e is any = demand_ok _ _ _ _ is ∙ demand_fails _ _ _ _ (ap not any)

pub entered : (blocks : ℕ) (files : List Stored) (at : ℕ) (c : Cover) (e : Extent) → is_next_entry blocks files c e ≡ true → list_any (is_in e) c.blocks ≡ false → used_entry blocks files at c e ≡ Ok (record c { blocks = c.blocks ++ range_with_len e.block e.count })
unfolding used_entry
entered blocks files at c e is none = demand_ok _ _ _ _ is ∙ demand_ok _ _ _ _ (ap not none)

pub any_taken : (ps : List Place) (e : Extent) (b : ℕ) → first_used e ps ≡ Some b → list_any (is_in e) (map (λ (p : Place). p.block) ps) ≡ true
any_taken ps e b is = sym (any_inside ps e.block e.count) ∙ ap is_some is

pub none_taken : (ps : List Place) (e : Extent) → first_used e ps ≡ None → list_any (is_in e) (map (λ (p : Place). p.block) ps) ≡ false
none_taken ps e is = sym (any_inside ps e.block e.count) ∙ ap is_some is

-- ---- the loop

pub goes_on : (blocks : ℕ) (files : List Stored) (n at : ℕ) (c now : Cover) (bytes : List ℕ) (total : Result Cover ImageFault) (m : ℕ) → n ≡ suc m → one_entry blocks files at c (take 16 bytes) ≡ Ok now → entries blocks files n at c bytes ≡ total → entries blocks files m (at + 16) now (drop 16 bytes) ≡ total
unfolding entries
goes_on blocks files n at c now bytes total m is one before =
    let step : entries blocks files n at c bytes ≡ entries blocks files m (at + 16) now (drop 16 bytes) = rw (is, one) refl in
    sym step ∙ before

pub ends : (e : MountErr) (blocks : ℕ) (files : List Stored) (n at : ℕ) (c : Cover) (bytes : List ℕ) (total : Result Cover ImageFault) (m : ℕ) → n ≡ suc m → Fails e (one_entry blocks files at c (take 16 bytes)) → entries blocks files n at c bytes ≡ total → Fails e total
unfolding entries
ends errors.NoMemory blocks files n at c bytes total m is one before = tt
ends (errors.Image f) blocks files n at c bytes total m is one before =
    let step : entries blocks files n at c bytes ≡ Err f = rw (is, one) refl in
    sym before ∙ step

pub is_done : (blocks : ℕ) (files : List Stored) (n at : ℕ) (c : Cover) (bytes : List ℕ) (total : Result Cover ImageFault) → n ≡ 0 → entries blocks files n at c bytes ≡ total → total ≡ Ok c
unfolding entries
is_done blocks files n at c bytes total is before =
    let step : entries blocks files n at c bytes ≡ Ok c = rw is refl in
    sym before ∙ step

-- ---- the end

pub all_covered : (files : List Stored) (blocks : List ℕ) → page_after (length blocks) files ≡ None → covered files blocks ≡ Ok tt
unfolding covered
all_covered files blocks is = rw is refl

pub not_covered : (files : List Stored) (blocks : List ℕ) (w : Awaited) → page_after (length blocks) files ≡ Some w → covered files blocks ≡ fault kinds.Cover w.file
unfolding covered
not_covered files blocks w is = rw is refl
