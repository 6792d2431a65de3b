-- Reading records into a table.
use Rattle.std.proofs.Common.{◌≡◌, ℕ, suc, ◌+◌, ◌-◌, ◌*◌, ◌<◌, ◌≤◌, List, [], ◌∷◌, ◌++◌, take, drop, map, max, Bool, true, false, bytes_eq, cond, eqb, Option, Some, None, Result, Ok, Err, ap, ◌∙◌, sym, refl, subst, arith, add-one, ◌||◌}
use Rattle.std.specs.Prelude.{IsSome, IsTrue, not, ◌&&◌, option_map, is_some, slice_index}
use Rattle.std.specs.List.{list_any}
use Rattle.std.proofs.lemmas.Bool.{cond-true, cond-false}
use Rattle.std.proofs.lemmas.Bool.Decides.{nat_tests}
use Rattle.name_table.specs.declared.files.FileRec.{FileRec}
use Rattle.name_table.specs.Files.{Table, file_named, file_of, changed, free_slot, new_file, placed, IdsBelow}
use Rattle.image_format.specs.declared.faults.ImageFault.{ImageFault}
use Rattle.image_format.specs.declared.faults.MountErr.{MountErr}
use Rattle.image_format.specs.declared.faults.MountErr.TheVariants as errors
use Rattle.image_format.specs.declared.layout.Layout.{Layout}
use Rattle.image_format.specs.Faults.{Fails}
use Rattle.image_format.specs.Records.{Listing, has_name, name_in, is_good_name, is_new_name, one_record, records}
use Rattle.image_format.specs.Numbers.{are_zero}
use Rattle.image_format.specs.Tables.{stored_of}
use Rattle.image_format.specs.Reading.{with_file}

-- a name is that of a file exactly where a record told it
pub is_named : (name : List ℕ) (files : List FileRec) → is_some (option_map (λ f. f.id) (file_named name files)) ≡ list_any (has_name name) (map stored_of files)
is_named name [] = refl
is_named name (f ∷ fs) =
    (elim (bytes_eq f.name name) as (λ (b : Bool). is_some (option_map (λ (g : FileRec). g.id) (cond b (Some f) (file_named name fs))) ≡ (b || list_any (has_name name) (map stored_of fs))) [
      | true ↦ refl
      | false ↦ is_named name fs
    ])

pub unnamed : (o : Option FileRec) → is_some (option_map (λ f. f.id) o) ≡ false → o ≡ None
unnamed None e = refl
unnamed (Some f) e = absurd cc

pub below_less : (a b : ℕ) (files : List FileRec) → a ≤ b → IdsBelow a files → IdsBelow b files
below_less a b [] le ids = tt
below_less a b (f ∷ fs) le ids = (omega (arith, ids.0), below_less a b fs le ids.1)

pub below_push : (id : ℕ) (files : List FileRec) (g : FileRec) → IdsBelow id files → g.id < id → IdsBelow id (files ++ g ∷ [])
below_push id [] g ids lt = (lt, tt)
below_push id (f ∷ fs) g ids lt = (ids.0, below_push id fs g ids.1 lt)

-- the last file, changed
pub changed_last : (id : ℕ) (change : FileRec → FileRec) (files : List FileRec) (g : FileRec) → IdsBelow id files → g.id ≡ id → changed id change (files ++ g ∷ []) ≡ files ++ change g ∷ []
changed_last id change [] g ids is = cond-true (eqb g.id id) (change g ∷ []) (g ∷ []) (grind (arith, nat_tests))
changed_last id change (f ∷ fs) g ids is =
    cond-false (eqb f.id id) (change f ∷ fs ++ g ∷ []) (f ∷ changed id change (fs ++ g ∷ [])) (grind (arith, nat_tests, ids.0)) ∙ ap (λ x. f ∷ x) (changed_last id change fs g ids.1 is)

pub last_there : (id : ℕ) (files : List FileRec) (g : FileRec) → IdsBelow id files → g.id ≡ id → IsSome (file_of id (files ++ g ∷ []))
last_there id [] g ids is = subst IsSome (sym (cond-true (eqb g.id id) (Some g) None (grind (arith, nat_tests)))) refl
last_there id (f ∷ fs) g ids is = subst IsSome (sym (cond-false (eqb f.id id) (Some f) (file_of id (fs ++ g ∷ [])) (grind (arith, nat_tests, ids.0)))) (last_there id fs g ids.1 is)

pub stored_push : (files : List FileRec) (g : FileRec) → map stored_of (files ++ g ∷ []) ≡ map stored_of files ++ stored_of g ∷ []
stored_push [] g = refl
stored_push (f ∷ fs) g = ap (λ x. stored_of f ∷ x) (stored_push fs g)

-- ---- the loop

pub goes_on : (l : Layout) (next n at : ℕ) (so_far now : Listing) (bytes : List ℕ) (total : Result Listing ImageFault) (m : ℕ) → n ≡ suc m → one_record l next at so_far (take l.size bytes) ≡ Ok now → records l next n at so_far bytes ≡ total → records l next m (at + l.size) now (drop l.size bytes) ≡ total
unfolding records
goes_on l next n at so_far now bytes total m is one before =
    let step : records l next n at so_far bytes ≡ records l next m (at + l.size) now (drop l.size bytes) = rw (is, one) refl in
    sym step ∙ before

pub ends : (e : MountErr) (l : Layout) (next n at : ℕ) (so_far : Listing) (bytes : List ℕ) (total : Result Listing ImageFault) (m : ℕ) → n ≡ suc m → Fails e (one_record l next at so_far (take l.size bytes)) → records l next n at so_far bytes ≡ total → Fails e total
unfolding records
ends errors.NoMemory l next n at so_far bytes total m is one before = tt
ends (errors.Image f) l next n at so_far bytes total m is one before =
    let step : records l next n at so_far bytes ≡ Err f = rw (is, one) refl in
    sym before ∙ step

pub is_done : (l : Layout) (next n at : ℕ) (so_far : Listing) (bytes : List ℕ) (total : Result Listing ImageFault) → n ≡ 0 → records l next n at so_far bytes ≡ total → total ≡ Ok so_far
unfolding records
is_done l next n at so_far bytes total is before =
    let step : records l next n at so_far bytes ≡ Ok so_far = rw is refl in
    sym before ∙ step

-- ---- one file more

abbrev table_of : List FileRec → ℕ → Table
table_of files next = record { files = files; next = next }

pub placed_there : (id : ℕ) (name : List ℕ) (old t : Table) → IdsBelow id old.files → t ≡ placed old id name → IsSome (file_of id t.files)
placed_there id name old t ids is = subst (λ (u : Table). IsSome (file_of id u.files)) (sym is) (last_there id old.files (new_file id name old.files) ids refl)

pub len_set : (id : ℕ) (name : List ℕ) (len : ℕ) (old t u : Table) → IdsBelow id old.files → t ≡ placed old id name → u ≡ record t { files = changed id (λ f. record f { len = len }) t.files } → u ≡ with_file old id name len false
len_set id name len old t u ids placed-is set-is =
    set-is ∙ ap (λ (v : Table). table_of (changed id (λ f. record f { len = len }) v.files) v.next) placed-is
    ∙ ap (λ files. table_of files (max old.next (id + 1))) (changed_last id (λ f. record f { len = len }) old.files (new_file id name old.files) ids refl)

pub len_there : (id : ℕ) (name : List ℕ) (len : ℕ) (old u : Table) → IdsBelow id old.files → u ≡ with_file old id name len false → IsSome (file_of id u.files)
len_there id name len old u ids is = subst (λ (v : Table). IsSome (file_of id v.files)) (sym is) (last_there id old.files (record { id = id; name = name; len = len; slot = free_slot old.files; sealed = false }) ids refl)

pub seal_set : (id : ℕ) (name : List ℕ) (len : ℕ) (old u v : Table) → IdsBelow id old.files → u ≡ with_file old id name len false → v ≡ record u { files = changed id (λ f. record f { sealed = true }) u.files } → v ≡ with_file old id name len true
seal_set id name len old u v ids len-is seal-is =
    seal-is ∙ ap (λ (w : Table). table_of (changed id (λ f. record f { sealed = true }) w.files) w.next) len-is
    ∙ ap (λ files. table_of files (max old.next (id + 1))) (changed_last id (λ f. record f { sealed = true }) old.files (record { id = id; name = name; len = len; slot = free_slot old.files; sealed = false }) ids refl)

pub with_below : (id last : ℕ) (name : List ℕ) (len : ℕ) (sealed : Bool) (old t : Table) → IdsBelow last old.files → last ≤ id + 1 → t ≡ with_file old id name len sealed → IdsBelow (id + 1) t.files
with_below id last name len sealed old t ids le is = subst (λ (u : Table). IdsBelow (id + 1) u.files) (sym is) (below_push (id + 1) old.files _ (below_less last (id + 1) old.files le ids) (omega arith))

pub with_ids : (next id : ℕ) (name : List ℕ) (len : ℕ) (sealed : Bool) (old t : Table) → IdsBelow next old.files → id < next → t ≡ with_file old id name len sealed → IdsBelow next t.files
with_ids next id name len sealed old t ids lt is = subst (λ (u : Table). IdsBelow next u.files) (sym is) (below_push next old.files _ ids lt)

-- ---- the name of a record

last_false : (a b : Bool) → IsTrue (a && (b && not true)) → ⊥
last_false true true h = absurd cc
last_false true false h = absurd cc
last_false false b h = absurd cc

all_true : (a b c : Bool) → IsTrue a → b ≡ true → c ≡ false → IsTrue (a && (b && not c))
all_true a b c p q r = grind arith

pub taken_name : (l : Layout) (raw : List ℕ) (files : List FileRec) (name : List ℕ) → name ≡ name_in l raw → is_some (option_map (λ f. f.id) (file_named name files)) ≡ true → IsTrue (is_new_name l (map stored_of files) raw) → ⊥
taken_name l raw files name is there h =
    let listed : list_any (has_name (name_in l raw)) (map stored_of files) ≡ true = ap (λ n. list_any (has_name n) (map stored_of files)) (sym is) ∙ sym (is_named name files) ∙ there in
    last_false (is_good_name l raw) (are_zero (drop (l.name_at + slice_index raw 8) raw)) (subst (λ b. IsTrue (is_good_name l raw && (are_zero (drop (l.name_at + slice_index raw 8) raw) && not b))) listed h)

pub free_name : (l : Layout) (raw : List ℕ) (files : List FileRec) (name : List ℕ) → name ≡ name_in l raw → is_some (option_map (λ f. f.id) (file_named name files)) ≡ false → IsTrue (is_good_name l raw) → are_zero (drop (l.name_at + slice_index raw 8) raw) ≡ true → IsTrue (is_new_name l (map stored_of files) raw)
free_name l raw files name is there good zeros =
    let listed : list_any (has_name (name_in l raw)) (map stored_of files) ≡ false = ap (λ n. list_any (has_name n) (map stored_of files)) (sym is) ∙ sym (is_named name files) ∙ there in
    all_true (is_good_name l raw) (are_zero (drop (l.name_at + slice_index raw 8) raw)) (list_any (has_name (name_in l raw)) (map stored_of files)) good zeros listed

-- the bytes that are left, with one piece less
pub one_less : (n i size : ℕ) → i < n → ((n - i) * size ≡ (n - (i + 1)) * size + size) × ((i + 1) * size ≡ i * size + size)
one_less n i size lt =
    let k : n - i ≡ suc (n - (i + 1)) = omega arith in
    (rw k (suc-mul (n - (i + 1)) size), ap (λ m. m * size) (add-one i) ∙ suc-mul i size)
  where
    suc-mul : (a b : ℕ) → suc a * b ≡ a * b + b
    suc-mul a b = grind arith
