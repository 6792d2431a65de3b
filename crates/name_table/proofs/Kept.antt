-- What each change of the table keeps, all of it.
use Rattle.std.proofs.Common.{◌≡◌, ℕ, zero, suc, ◌+◌, ◌-◌, ◌<◌, ◌≤◌, ◌^◌, List, [], ◌∷◌, ◌++◌, length, set, get_or, replicate, Bool, true, false, cond, eqb, Option, Some, None, max, ap, ◌∙◌, sym, refl, subst, arith, ◌||◌, ◌≢◌, length-append, length-set, get_or-set_same, get_or-set_other}
use Rattle.std.specs.Prelude.{slice_get, IsTrue, not, ◌&&◌, remove, IsSome, option_map, Err}
use Rattle.std.specs.List.{AllByRecursion}
use Rattle.std.proofs.lemmas.Bool.Decides.{nat_tests}
use Rattle.std.proofs.lemmas.List.{get_or-replicate, length-replicate}
use Rattle.std.proofs.lemmas.Option.{slice_get_read}
use Rattle.name_table.specs.declared.files.FileRec.{FileRec}
use Rattle.name_table.specs.Name.{is_name}
use Rattle.name_table.specs.Files.{Table, IsTable, IsFile, file_named, file_of, has_slot, free_slot, new_file, without, changed, created}
use Rattle.name_table.specs.declared.files.NameErr.TheVariants.{Exists}
use Rattle.name_table.specs.Inside.{MarksSlots, below}
use Rattle.name_table.proofs.Places.{Stands, stands, without_is, changed_is, is_there}
use Rattle.name_table.proofs.Slots.{has_room}
use Rattle.name_table.proofs.Tables.{rise_push, apart_push, each_push, each_below, slot_push, rise_without, apart_without, each_without, fewer, slots_left, Keeps, rise_changed, apart_changed, each_changed, same_count, slot_changed}

abbrev pub table_of : List FileRec → ℕ → Table
table_of files next = record { files = files; next = next }

abbrev pub file_with : ℕ → List ℕ → ℕ → FileRec
file_with id name slot = record { id = id; name = name; len = 0; slot = slot; sealed = false }

-- the table and its slots are as they should be
abbrev pub IsKept : List FileRec → List Bool → ℕ → Type 0
IsKept files taken next = IsTable (record { files = files; next = next }) × MarksSlots taken files

pub none_kept : (files : List FileRec) (taken : List Bool) → files ≡ [] → taken ≡ replicate 4096 false → IsKept files taken 1
none_kept files taken no-files none-taken =
    subst (λ fs. IsKept fs taken 1) (sym no-files) (subst (λ t. IsKept [] t 1) (sym none-taken) (
      record { count = omega arith; next = (omega arith, omega arith); rise = tt; apart = tt; each = tt },
      record { len = length-replicate 4096 false; each = λ slot lt. get_or-replicate 4096 slot false false lt },
    ))

pub next_kept : (files : List FileRec) (taken : List Bool) (old next : ℕ) → IsKept files taken old → 1 ≤ next → next < 2 ^ 32 → ((f : FileRec) (i : ℕ) → slice_get files i ≡ Some f → f.id < next) → IsKept files taken next
next_kept files taken old next kept low high above =
    (record { count = kept.0.count; next = (low, high); rise = kept.0.rise; apart = kept.0.apart; each = each_below next old files above kept.0.each }, kept.1)

-- a slot's mark after a write
marks_set : (taken : List Bool) (slot t : ℕ) (b : Bool) → slot < length taken → get_or (set taken slot b) t false ≡ cond (eqb slot t) b (get_or taken t false)
marks_set taken slot t b lt = by_test (eqb slot t) refl
  where
    by_test : (e : Bool) → eqb slot t ≡ e → get_or (set taken slot b) t false ≡ cond e b (get_or taken t false)
    by_test true e = let is : slot ≡ t = grind (arith, nat_tests) in subst (λ u. get_or (set taken slot b) u false ≡ b) is (get_or-set_same taken slot b false lt)
    by_test false e = let ne : t ≢ slot = grind (arith, nat_tests) in get_or-set_other taken slot t b false ne

or_is : (x y : Bool) → (x || y) ≡ cond y true x
or_is true true = refl
or_is true false = refl
or_is false true = refl
or_is false false = refl

and_is : (x y : Bool) → (x && not y) ≡ cond y false x
and_is true true = refl
and_is true false = refl
and_is false true = refl
and_is false false = refl

pub placed_kept : (files : List FileRec) (taken : List Bool) (next id : ℕ) (name : List ℕ) → IsKept files taken next → length files < 4096 → file_named name files ≡ None → 1 ≤ id → id < 2 ^ 32 - 1 → ((f : FileRec) (i : ℕ) → slice_get files i ≡ Some f → f.id < id) → IsTrue (is_name name) → IsKept (files ++ new_file id name files ∷ []) (set taken (free_slot files) true) (max next (id + 1))
placed_kept files taken next id name kept few none low high above named =
    let room = has_room files few in
    let new = new_file id name files in
    let slot : ℕ = free_slot files in
    let within : slot < length taken = omega (arith, kept.1.len, room.0) in (
      record {
        count = omega (arith, length-append files (new ∷ []));
        next = (omega (arith, kept.0.next.0), omega (arith, kept.0.next.1));
        rise = rise_push 1 files new kept.0.rise low above;
        apart = apart_push files new kept.0.apart none room.1;
        each = each_push (max next (id + 1)) next files new (omega arith) kept.0.each (omega arith, room.0, omega arith, named);
      },
      record {
        len = length-set taken slot true ∙ kept.1.len;
        each = λ t lt. marks_set taken slot t true within ∙ ap (cond (eqb slot t) true) (kept.1.each t lt) ∙ sym (slot_push t files new ∙ or_is (has_slot t files) (eqb slot t));
      },
    )

-- a file that stands somewhere is as each is
pub each_at : (P : FileRec → Type 0) (files : List FileRec) (i : ℕ) (f : FileRec) → slice_get files i ≡ Some f → AllByRecursion P files → P f
each_at P [] i f here each = absurd cc
each_at P (g ∷ gs) zero f here each = let same : g ≡ f = cc in subst P same each.0
each_at P (g ∷ gs) (suc i) f here each = each_at P gs i f here each.1

pub without_kept : (files : List FileRec) (taken : List Bool) (next id i : ℕ) (f : FileRec) → IsKept files taken next → slice_get files i ≡ Some f → without id files ≡ remove files i → IsKept (without id files) (set taken f.slot false) next
without_kept files taken next id i f kept here is =
    let within : f.slot < 4096 = (each_at (IsFile next) files i f here kept.0.each).1 in (
      record {
        count = omega (arith, fewer id files, kept.0.count);
        next = kept.0.next;
        rise = rise_without id 1 files kept.0.rise;
        apart = apart_without id files kept.0.apart;
        each = each_without (IsFile next) id files kept.0.each;
      },
      record {
        len = length-set taken f.slot false ∙ kept.1.len;
        each = λ t lt. marks_set taken f.slot t false (omega (arith, kept.1.len)) ∙ ap (cond (eqb f.slot t) false) (kept.1.each t lt) ∙ sym (ap (has_slot t) is ∙ slots_left t files i f kept.0.apart here ∙ and_is (has_slot t files) (eqb f.slot t));
      },
    )

pub changed_kept : (change : FileRec → FileRec) (files : List FileRec) (taken : List Bool) (next id : ℕ) → Keeps change → ((f : FileRec) → IsFile next f → IsFile next (change f)) → IsKept files taken next → IsKept (changed id change files) taken next
changed_kept change files taken next id keeps each kept = (
  record {
    count = omega (arith, same_count change id files, kept.0.count);
    next = kept.0.next;
    rise = rise_changed change id 1 files keeps kept.0.rise;
    apart = apart_changed change id files keeps kept.0.apart;
    each = each_changed (IsFile next) change id files each kept.0.each;
  },
  record {
    len = kept.1.len;
    each = λ t lt. kept.1.each t lt ∙ sym (slot_changed change id t files keeps);
  },
)

-- where the file of an id stands
pub here_of : (id i : ℕ) (files : List FileRec) (taken : List Bool) (next : ℕ) → IsKept files taken next → IsSome (file_of id files) → i ≡ below id files → Stands id files i
here_of id i files taken next kept there is = subst (Stands id files) (sym is) (stands id 1 files kept.0.rise there)

pub slot_within : (files : List FileRec) (taken : List Bool) (next i : ℕ) (f : FileRec) → IsKept files taken next → slice_get files i ≡ Some f → f.slot < length taken
slot_within files taken next i f kept here = omega (arith, kept.1.len, (each_at (IsFile next) files i f here kept.0.each).1)

-- the file that a read gave is the one that stands there
pub same_here : (id i : ℕ) (files : List FileRec) (f : FileRec) → Stands id files i → f ≡ get_or files i f → slice_get files i ≡ Some f
same_here id i files f s is = slice_get_read files (length files) i f refl s.within is

pub removed_is : (id i : ℕ) (files : List FileRec) (taken : List Bool) (next : ℕ) → IsKept files taken next → IsSome (file_of id files) → i ≡ below id files → without id files ≡ remove files i
removed_is id i files taken next kept there is = without_is id 1 files kept.0.rise there ∙ ap (remove files) (sym is)

pub set_is : (change : FileRec → FileRec) (id i : ℕ) (files : List FileRec) (taken : List Bool) (next : ℕ) (f : FileRec) → IsKept files taken next → IsSome (file_of id files) → i ≡ below id files → f ≡ get_or files i f → set files i (change f) ≡ changed id change files
set_is change id i files taken next f kept there is here =
    let s = here_of id i files taken next kept there is in
    let got = same_here id i files f s here in
    let same : s.file ≡ f = some_is s.file f (sym s.here ∙ got) in
    let at : slice_get files (below id files) ≡ Some f = subst (λ j. slice_get files j ≡ Some f) is got in
    ap (λ j. set files j (change f)) is ∙ sym (changed_is id 1 change files f kept.0.rise at (ap (λ (g : FileRec). g.id) (sym same) ∙ s.is))
  where
    some_is : (x y : FileRec) → Some x ≡ Some y → x ≡ y
    some_is x y e = cc

-- the file that a read gave is that of the id
pub file_here : (id i : ℕ) (files : List FileRec) (taken : List Bool) (next : ℕ) (f : FileRec) → IsKept files taken next → IsSome (file_of id files) → i ≡ below id files → f ≡ get_or files i f → file_of id files ≡ Some f
file_here id i files taken next f kept there is here =
    let s = here_of id i files taken next kept there is in
    let same : s.file ≡ f = some_is s.file f (sym s.here ∙ same_here id i files f s here) in
    sym (is_there id files i f kept.0.rise is s.within here (ap (λ (g : FileRec). g.id) (sym same) ∙ s.is))
  where
    some_is : (x y : FileRec) → Some x ≡ Some y → x ≡ y
    some_is x y e = cc

-- the reply to a create whose name is there, or isn't
pub reply_there : (t : Table) (o : Option FileRec) (id : ℕ) → Some id ≡ option_map (λ f. f.id) o → Err (Exists id) ≡ created t o
reply_there t None id e = absurd cc
reply_there t (Some f) id e = ap (λ n. Err (Exists n)) (same_id id f.id e)
  where
    same_id : (x y : ℕ) → Some x ≡ Some y → x ≡ y
    same_id x y e = cc

pub none_there : (o : Option FileRec) → None ≡ option_map (λ f. f.id) o → o ≡ None
none_there None e = refl
none_there (Some f) e = absurd cc
