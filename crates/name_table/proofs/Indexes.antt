-- The index of the files' names: look-ups, one file more, one file fewer.
use Rattle.std.proofs.Common.{◌≡◌, ◌≢◌, ℕ, ◌+◌, ◌<◌, ◌≤◌, List, [], ◌∷◌, ◌++◌, length, drop, get_or, map, Bool, true, false, bytes_eq, cond, eqb, Some, None, ap, ◌∙◌, sym, refl, subst, arith, ◌||◌, length-append}
use Rattle.std.specs.Prelude.{option_map}
use Rattle.std.specs.List.{list_any}
use Rattle.std.proofs.lemmas.Bool.{cond-true, cond-false}
use Rattle.std.proofs.lemmas.Bool.Decides.{nat_tests}
use Rattle.std.proofs.lemmas.List.{map_push, drop_more, drop_all}
use Rattle.std.proofs.lemmas.List.Elements.{filter-append}
use Rattle.std.proofs.lemmas.Slice.Eq.{bytes_eq-Decides}
use Rattle.name_table.specs.declared.files.FileRec.{FileRec}
use Rattle.name_table.specs.declared.index.Hashed.{Hashed}
use Rattle.name_table.specs.Files.{file_named, file_of, without, changed, RiseFrom}
use Rattle.name_table.specs.Hashes.{hash_of, entry, Indexed, of_hash, without_id}
use Rattle.name_table.specs.Inside.{entry_of, Indexes, is_named, first_of}
use Rattle.name_table.proofs.Tables.{Keeps}

same_eqb : (n : ℕ) → eqb n n ≡ true
same_eqb n = grind (arith, nat_tests)

keeps : (q : ℕ) (f : FileRec) (fs : List FileRec) → eqb (hash_of f.name) q ≡ true → of_hash q (map entry_of (f ∷ fs)) ≡ entry_of f ∷ of_hash q (map entry_of fs)
keeps q f fs is = cond-true (eqb (hash_of f.name) q) (entry_of f ∷ of_hash q (map entry_of fs)) (of_hash q (map entry_of fs)) is

skips : (q : ℕ) (f : FileRec) (fs : List FileRec) → eqb (hash_of f.name) q ≡ false → of_hash q (map entry_of (f ∷ fs)) ≡ of_hash q (map entry_of fs)
skips q f fs is = cond-false (eqb (hash_of f.name) q) (entry_of f ∷ of_hash q (map entry_of fs)) (of_hash q (map entry_of fs)) is

-- ---- a look-up

first_is : (p : ℕ → Bool) (e : Hashed) (es : List Hashed) → p e.id ≡ true → first_of p (e ∷ es) ≡ Some e.id
first_is p e es is = cond-true (p e.id) (Some e.id) (first_of p es) is

first_later : (p : ℕ → Bool) (e : Hashed) (es : List Hashed) → p e.id ≡ false → first_of p (e ∷ es) ≡ first_of p es
first_later p e es is = cond-false (p e.id) (Some e.id) (first_of p es) is

-- of the entries of a name's hash, the first whose file has the name is that of the file of the name
find_in : (name : List ℕ) (all fs : List FileRec) (k : ℕ) → RiseFrom k fs → ((id : ℕ) → k ≤ id → file_of id all ≡ file_of id fs)
    → first_of (λ id. is_named name (file_of id all)) (of_hash (hash_of name) (map entry_of fs)) ≡ option_map (λ f. f.id) (file_named name fs)
find_in name all [] k rise same = refl
find_in name all (f ∷ fs) k rise same =
    let here : file_of f.id all ≡ Some f = same f.id rise.0 ∙ cond-true (eqb f.id f.id) (Some f) (file_of f.id fs) (same_eqb f.id) in
    by_name (bytes_eq f.name name) refl here (find_in name all fs (f.id + 1) rise.1 (λ id le. same id (omega (arith, rise.0)) ∙ cond-false (eqb f.id id) (Some f) (file_of id fs) (grind (arith, nat_tests))))
  where
    by_name : (b : Bool) → bytes_eq f.name name ≡ b → file_of f.id all ≡ Some f
        → first_of (λ id. is_named name (file_of id all)) (of_hash (hash_of name) (map entry_of fs)) ≡ option_map (λ f. f.id) (file_named name fs)
        → first_of (λ id. is_named name (file_of id all)) (of_hash (hash_of name) (map entry_of (f ∷ fs))) ≡ option_map (λ f. f.id) (cond b (Some f) (file_named name fs))
    by_name true is here rest =
        let equal : f.name ≡ name = (bytes_eq-Decides f.name name).0 is in
        let hash : eqb (hash_of f.name) (hash_of name) ≡ true = ap (λ n. eqb (hash_of n) (hash_of name)) equal ∙ same_eqb (hash_of name) in
        ap (first_of (λ id. is_named name (file_of id all))) (keeps (hash_of name) f fs hash)
        ∙ first_is (λ id. is_named name (file_of id all)) (entry_of f) (of_hash (hash_of name) (map entry_of fs)) (ap (is_named name) here ∙ is)
    by_name false is here rest = by_hash (eqb (hash_of f.name) (hash_of name)) refl
      where
        by_hash : (b : Bool) → eqb (hash_of f.name) (hash_of name) ≡ b → first_of (λ id. is_named name (file_of id all)) (of_hash (hash_of name) (map entry_of (f ∷ fs))) ≡ option_map (λ f. f.id) (file_named name fs)
        by_hash true hash =
            ap (first_of (λ id. is_named name (file_of id all))) (keeps (hash_of name) f fs hash)
            ∙ first_later (λ id. is_named name (file_of id all)) (entry_of f) (of_hash (hash_of name) (map entry_of fs)) (ap (is_named name) here ∙ is)
            ∙ rest
        by_hash false hash = ap (first_of (λ id. is_named name (file_of id all))) (skips (hash_of name) f fs hash) ∙ rest

pub find_is : (name : List ℕ) (files : List FileRec) (index : Indexed) → RiseFrom 1 files → Indexes index files
    → first_of (λ id. is_named name (file_of id files)) (of_hash (hash_of name) index.entries) ≡ option_map (λ f. f.id) (file_named name files)
find_is name files index rise indexes =
    ap (first_of (λ id. is_named name (file_of id files))) (indexes.classes (hash_of name)) ∙ find_in name files files 1 rise (λ id le. refl)

-- ---- one file more

pub indexes_push : (index new : Indexed) (files : List FileRec) (g : FileRec) (hash id : ℕ) → hash ≡ hash_of g.name → id ≡ g.id → Indexes index files
    → ((q : ℕ) → of_hash q new.entries ≡ of_hash q (index.entries ++ entry hash id ∷ [])) → length new.entries ≡ length index.entries + 1 → index.room ≤ new.room → Indexes new (files ++ g ∷ [])
indexes_push index new files g hash id hash-is id-is old classes count room =
    record {
      classes = λ q.
          let e : entry hash id ≡ entry_of g = ap (λ h. entry h id) hash-is ∙ ap (entry (hash_of g.name)) id-is in
          classes q ∙ ap (λ x. of_hash q (index.entries ++ x ∷ [])) e ∙ filter-append (λ x. eqb x.hash q) index.entries (entry_of g ∷ []) ∙ ap (λ xs. xs ++ of_hash q (entry_of g ∷ [])) (old.classes q)
          ∙ sym (filter-append (λ x. eqb x.hash q) (map entry_of files) (entry_of g ∷ [])) ∙ ap (of_hash q) (sym (map_push entry_of files g));
      count = omega (arith, count, old.count, length-append files (g ∷ []));
      room = omega (arith, room, old.room);
    }

-- ---- one file fewer

some_is : (x y : FileRec) → Some x ≡ Some y → x ≡ y
some_is x y e = cc

-- each hash's entries without that of a file
record Left (id : ℕ) (f : FileRec) (files rest : List FileRec) : Type 0 where
  pub own : of_hash (hash_of f.name) (map entry_of rest) ≡ without_id id (of_hash (hash_of f.name) (map entry_of files))
  pub others : (q : ℕ) → q ≢ hash_of f.name → of_hash q (map entry_of rest) ≡ of_hash q (map entry_of files)
  pub there : list_any (λ e. eqb e.id id) (of_hash (hash_of f.name) (map entry_of files)) ≡ true
  pub count : length rest + 1 ≡ length files

left_of : (id : ℕ) (files : List FileRec) (f : FileRec) → file_of id files ≡ Some f → Left id f files (without id files)
left_of id [] f here = absurd cc
left_of id (g ∷ gs) f here = by_id (eqb g.id id) refl here (λ h. left_of id gs f h)
  where
    first : eqb g.id id ≡ true → g ≡ f → Left id f (g ∷ gs) gs
    first is same =
        let hash : eqb (hash_of g.name) (hash_of f.name) ≡ true = ap (λ (h : FileRec). eqb (hash_of h.name) (hash_of f.name)) same ∙ same_eqb (hash_of f.name) in
        let own = keeps (hash_of f.name) g gs hash in
        record {
          own = sym (ap (without_id id) own ∙ cond-true (eqb g.id id) (of_hash (hash_of f.name) (map entry_of gs)) (entry_of g ∷ without_id id (of_hash (hash_of f.name) (map entry_of gs))) is);
          others = λ q ne. sym (skips q g gs (other q ne hash));
          there = ap (list_any (λ e. eqb e.id id)) own ∙ ap (λ b. b || list_any (λ e. eqb e.id id) (of_hash (hash_of f.name) (map entry_of gs))) is;
          count = omega arith;
        }
      where
        other : (q : ℕ) → q ≢ hash_of f.name → eqb (hash_of g.name) (hash_of f.name) ≡ true → eqb (hash_of g.name) q ≡ false
        other q ne is = grind (arith, nat_tests)

    later : eqb g.id id ≡ false → (rest : List FileRec) → Left id f gs rest → Left id f (g ∷ gs) (g ∷ rest)
    later is rest left = by_hash (eqb (hash_of g.name) (hash_of f.name)) refl
      where
        or_any : (b c : Bool) → c ≡ true → (b || c) ≡ true
        or_any true c e = refl
        or_any false c e = e

        by_hash : (b : Bool) → eqb (hash_of g.name) (hash_of f.name) ≡ b → Left id f (g ∷ gs) (g ∷ rest)
        by_hash true hash =
            record {
              own = keeps (hash_of f.name) g rest hash ∙ ap (λ xs. entry_of g ∷ xs) left.own ∙ sym (ap (without_id id) (keeps (hash_of f.name) g gs hash) ∙ cond-false (eqb g.id id) (of_hash (hash_of f.name) (map entry_of gs)) (entry_of g ∷ without_id id (of_hash (hash_of f.name) (map entry_of gs))) is);
              others = λ q ne. ap (λ xs. cond (eqb (hash_of g.name) q) (entry_of g ∷ xs) xs) (left.others q ne);
              there = ap (list_any (λ e. eqb e.id id)) (keeps (hash_of f.name) g gs hash) ∙ or_any (eqb g.id id) _ left.there;
              count = omega (arith, left.count);
            }
        by_hash false hash =
            record {
              own = skips (hash_of f.name) g rest hash ∙ left.own ∙ sym (ap (without_id id) (skips (hash_of f.name) g gs hash));
              others = λ q ne. ap (λ xs. cond (eqb (hash_of g.name) q) (entry_of g ∷ xs) xs) (left.others q ne);
              there = ap (list_any (λ e. eqb e.id id)) (skips (hash_of f.name) g gs hash) ∙ left.there;
              count = omega (arith, left.count);
            }

    by_id : (b : Bool) → eqb g.id id ≡ b → cond b (Some g) (file_of id gs) ≡ Some f → (file_of id gs ≡ Some f → Left id f gs (without id gs)) → Left id f (g ∷ gs) (cond b gs (g ∷ without id gs))
    by_id true is here rest = first is (some_is g f here)
    by_id false is here rest = later is (without id gs) (rest here)

-- the entry of a file that is there
pub entry_there : (index : Indexed) (files : List FileRec) (id hash : ℕ) (f : FileRec) → Indexes index files → file_of id files ≡ Some f → hash ≡ hash_of f.name → list_any (λ e. eqb e.id id) (of_hash hash index.entries) ≡ true
entry_there index files id hash f old here hash-is =
    ap (λ h. list_any (λ e. eqb e.id id) (of_hash h index.entries)) hash-is ∙ ap (list_any (λ e. eqb e.id id)) (old.classes (hash_of f.name)) ∙ (left_of id files f here).there

pub indexes_without : (index new : Indexed) (files rest : List FileRec) (id hash : ℕ) (f : FileRec) → Indexes index files → file_of id files ≡ Some f → hash ≡ hash_of f.name → rest ≡ without id files
    → of_hash hash new.entries ≡ without_id id (of_hash hash index.entries) → ((q : ℕ) → q ≢ hash → of_hash q new.entries ≡ of_hash q index.entries) → length new.entries + 1 ≡ length index.entries → new.room ≡ index.room → Indexes new rest
indexes_without index new files rest id hash f old here hash-is rest-is own others count room =
    let left = left_of id files f here in
    subst (Indexes new) (sym rest-is) (record {
      classes = λ q. by_hash q (eqb q hash) refl left;
      count = omega (arith, count, old.count, left.count);
      room = omega (arith, room, old.room);
    })
  where
    by_hash : (q : ℕ) (b : Bool) → eqb q hash ≡ b → Left id f files (without id files) → of_hash q new.entries ≡ of_hash q (map entry_of (without id files))
    by_hash q true is left =
        let same : q ≡ hash = grind (arith, nat_tests) in
        ap (λ h. of_hash h new.entries) same ∙ own ∙ ap (λ h. without_id id (of_hash h index.entries)) hash-is ∙ ap (without_id id) (old.classes (hash_of f.name)) ∙ sym left.own
        ∙ ap (λ h. of_hash h (map entry_of (without id files))) (sym hash-is ∙ sym same)
    by_hash q false is left =
        let ne : q ≢ hash = grind (arith, nat_tests) in
        others q ne ∙ old.classes q ∙ sym (left.others q (λ e. ne (e ∙ sym hash-is)))

-- ---- one file changed, in its length or its mark

entries_changed : (change : FileRec → FileRec) (id : ℕ) (files : List FileRec) → Keeps change → map entry_of (changed id change files) ≡ map entry_of files
entries_changed change id [] keeps = refl
entries_changed change id (f ∷ fs) keeps =
    elim (eqb f.id id) as (λ (b : Bool). map entry_of (cond b (change f ∷ fs) (f ∷ changed id change fs)) ≡ entry_of f ∷ map entry_of fs) [
      | true ↦ ap (λ e. e ∷ map entry_of fs) (ap (λ n. entry (hash_of n) (change f).id) (keeps.name f) ∙ ap (entry (hash_of f.name)) (keeps.id f))
      | false ↦ ap (λ es. entry_of f ∷ es) (entries_changed change id fs keeps)
    ]

pub indexes_changed : (change : FileRec → FileRec) (index : Indexed) (id : ℕ) (files : List FileRec) → Keeps change → length (changed id change files) ≡ length files → Indexes index files → Indexes index (changed id change files)
indexes_changed change index id files keeps count old =
    record {
      classes = λ q. old.classes q ∙ ap (of_hash q) (sym (entries_changed change id files keeps));
      count = omega (arith, count, old.count);
      room = old.room;
    }

pub indexes_none : (index : Indexed) (files : List FileRec) → files ≡ [] → index.entries ≡ [] → 4096 ≤ index.room → Indexes index files
indexes_none index files no-files none room =
    subst (Indexes index) (sym no-files) (record { classes = λ q. ap (of_hash q) none; count = omega (arith, ap length none); room = room })

-- ---- the loop over the entries of a hash

pub first_here : (p : ℕ → Bool) (es : List Hashed) (i : ℕ) (d : Hashed) → i < length es → p (get_or es i d).id ≡ true → first_of p (drop i es) ≡ first_of p es → Some (get_or es i d).id ≡ first_of p es
first_here p es i d within is before =
    sym (first_is p (get_or es i d) (drop (i + 1) es) is) ∙ sym (ap (first_of p) (drop_more es i d within)) ∙ before

pub first_past : (p : ℕ → Bool) (es : List Hashed) (i : ℕ) (d : Hashed) → i < length es → p (get_or es i d).id ≡ false → first_of p (drop i es) ≡ first_of p es → first_of p (drop (i + 1) es) ≡ first_of p es
first_past p es i d within is before =
    sym (first_later p (get_or es i d) (drop (i + 1) es) is) ∙ sym (ap (first_of p) (drop_more es i d within)) ∙ before

pub first_none : (p : ℕ → Bool) (es : List Hashed) (i : ℕ) → length es ≤ i → first_of p (drop i es) ≡ first_of p es → None ≡ first_of p es
first_none p es i le before = sym (ap (first_of p) (drop_all i es le)) ∙ before
