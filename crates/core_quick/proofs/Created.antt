-- A file is made, and a function is loaded or taken away: no call in flight meets it.
use Rattle.std.proofs.Common.{◌≡◌, ℕ, ◌+◌, ◌<◌, Bool, true, false, List, [], ◌∷◌, ◌++◌, Option, Some, None, refl, sym, ap, ◌∙◌, subst, inl, inr, ⊎_elim, arith, get_or}
use Rattle.std.specs.Prelude.{◌≢◌, ◌⊎◌, nat_lt, map, is_some, bytes_eq, if◌then◌else◌}
use Rattle.std.specs.List.{Contains}
use Rattle.std.proofs.lemmas.List.{map-append, get_or-replicate}
use Rattle.std.proofs.lemmas.Slice.Eq.{bytes_eq-Decides}
use Rattle.std.proofs.lemmas.Bool.Decides.{nat_tests}
use Rattle.page_base.specs.Bytes.{Pages, zero_page}
use Rattle.sbpf_insn.specs.declared.insn.Insn.{Insn}
use Rattle.core_lanes.specs.Lists.{without}
use Rattle.core_lanes.specs.Plain as plain_files
use Rattle.core_lanes.specs.Plain.{State, file_of, function_of, is_file, is_function, with_file}
use Rattle.core_lanes.specs.Words.{EachBehind}
use Rattle.core_lanes.specs.State.{Page, Shape, File, Function, Names, Places, Claim, Core}
use Rattle.core_lanes.specs.Contents.{contents, page_of}
use Rattle.core_lanes.specs.Reach.{function_word, file_by, word_is}
use Rattle.core_lanes.specs.PlainOf.{plain_file, plain_function, plain, file_like, function_like, names_like}
use Rattle.core_lanes.specs.InFlight.{claims}
use Rattle.core_lanes.specs.Placed.{AreNamed, HavePlaces, Tails}
use Rattle.core_lanes.specs.Coherent.{Coherent}
use Rattle.core_lanes.specs.LaneEvents.{IsUnused}
use Rattle.core_lanes.proofs.Views.{file_seen, is_some_map}
use Rattle.core_quick.proofs.Seen.{files_seen, renamed_keeps}
use Rattle.core_quick.proofs.Named.{in_none, in_cases, in_append, in_there, in_here, found_some, find_append, find_without, each_map, each_push}
use Rattle.core_quick.proofs.Renamed.{same_have, same_tails, same_below}
use Rattle.core_quick.proofs.Flying.{file_flies, function_flies}
use Rattle.core_quick.proofs.Unchanged.{functions_of, same_files}

none_some : {A : Type 0} (o : Option A) → is_some o ≡ false → is_some o ≡ true → ⊥
none_some o e f = cc

-- ---- a file is made

-- the new file
abbrev new_file : Names → List ℕ → File
new_file names name = record { id = names.next; name = name; len = 0; sealed = false }

-- no file has the name
fresh_name : (c : Core) (name : List ℕ) → is_some (file_of name (plain c).files) ≡ false → (f : File) → Contains c.names.files f → f.name ≢ name
fresh_name c name none f i e =
    let t = found_some (λ (g : File). bytes_eq g.name name) c.names.files f i ((bytes_eq-Decides f.name name).1 e) in
    none_some (file_of name (plain c).files) none (ap is_some (file_seen c.shape c.names c.places (contents c.blocks) name) ∙ (is_some_map (plain_file c.places (contents c.blocks)) (file_by c.names.files (Some name)) ∙ t))

abbrev names_with : Names → List ℕ → List Function → Names
names_with names name functions = record { files = names.files ++ new_file names name ∷ []; next = names.next + 1; functions = functions }

-- the next id has no page
no_page : (shape : Shape) (names : Names) (places : Places) → HavePlaces shape names places → AreNamed names → (p : ℕ) → places names.next p ≡ None
no_page shape names places h named p = go (places names.next p) refl
  where
    go : (o : Option ℕ) → places names.next p ≡ o → o ≡ None
    go None e = refl
    go (Some b) e = let o = h.owned names.next p b e in let l = named.ids_below o.0 o.1 in let k = o.2 in absurd (omega arith)

new_named : (names : Names) (name : List ℕ) (functions : List Function) → AreNamed names → ((f : File) → Contains names.files f → f.name ≢ name) → EachBehind (λ (f g : Function). f.name ≢ g.name) functions → AreNamed (names_with names name functions)
new_named names name functions h fresh apart = record {
  ids = each_push (λ (f g : File). f.id < g.id) names.files (new_file names name) h.ids h.ids_below;
  names_apart = each_push (λ (f g : File). f.name ≢ g.name) names.files (new_file names name) h.names_apart fresh;
  functions_apart = apart;
  ids_below = λ f i. ⊎_elim (λ (a : Contains names.files f). let l = h.ids_below f a in omega arith)
      (λ (b : Contains (new_file names name ∷ []) f). ⊎_elim (λ (e : new_file names name ≡ f). let k = ap (λ (w : File). w.id) e in omega arith) (λ n. absurd (in_none f n)) (in_cases (new_file names name) f [] b))
      (in_append names.files (new_file names name ∷ []) f i);
}

below_none : (p : ℕ) → nat_lt p 0 ≡ false
below_none p = grind (arith, nat_tests)

-- a file is an old one, or the new one
old_or_new : (names : Names) (name : List ℕ) (f : File) → Contains (names.files ++ new_file names name ∷ []) f → Contains names.files f ⊎ (new_file names name ≡ f)
old_or_new names name f i = ⊎_elim (λ a. inl a) (λ b. ⊎_elim (λ e. inr e) (λ n. absurd (in_none f n)) (in_cases (new_file names name) f [] b)) (in_append names.files (new_file names name ∷ []) f i)

in_left : {A : Type 0} (xs ys : List A) (y : A) → Contains xs y → Contains (xs ++ ys) y
in_left [] ys y h = absurd (in_none y h)
in_left (x ∷ xs) ys y h = ⊎_elim (λ e. subst (λ z. Contains (x ∷ (xs ++ ys)) z) e (in_here x (xs ++ ys))) (λ t. in_there x y (xs ++ ys) (in_left xs ys y t)) (in_cases x y xs h)

new_have : (shape : Shape) (names : Names) (places : Places) (name : List ℕ) (functions : List Function) → AreNamed names → HavePlaces shape names places → HavePlaces shape (names_with names name functions) places
new_have shape names places name functions named h = record {
  exact = λ f i p. ⊎_elim (λ (a : Contains names.files f). h.exact f a p)
      (λ (e : new_file names name ≡ f). subst (λ (w : File). is_some (places w.id p) ≡ nat_lt p (Pages w.len)) e (ap is_some (no_page shape names places h named p) ∙ sym (below_none p))) (old_or_new names name f i);
  owned = λ id p b e. let o = h.owned id p b e in (o.0, in_left names.files (new_file names name ∷ []) o.0 o.1, o.2);
  apart = h.apart;
  within = h.within;
}

zero_at : (j : ℕ) → j < 4096 → get_or zero_page j 0 ≡ 0
unfolding zero_page
zero_at j l = get_or-replicate {A = ℕ} 4096 j 0 0 l

new_tails : (shape : Shape) (names : Names) (places : Places) (pages : ℕ → Page) (name : List ℕ) (functions : List Function) → AreNamed names → HavePlaces shape names places → Tails names places pages → Tails (names_with names name functions) places pages
new_tails shape names places pages name functions named h t f i p j l m = ⊎_elim (λ (a : Contains names.files f). t f a p j l m)
    (λ (e : new_file names name ≡ f). subst (λ (w : File). get_or (page_of pages (places w.id p)) j 0 ≡ 0) e (ap (λ (o : Option ℕ). get_or (page_of pages o) j 0) (no_page shape names places h named p) ∙ zero_at j l)) (old_or_new names name f i)

pub created_keeps : (c : Core) (name : List ℕ) → is_some (file_of name (plain c).files) ≡ false → plain (record c { names = names_like (with_file (plain c) name) c.names }) ≡ with_file (plain c) name → Coherent c →
    Coherent (record c { names = names_like (with_file (plain c) name) c.names })
created_keeps c name none moves h =
    let s2 = with_file (plain c) name in
    let functions2 = (names_like s2 c.names).functions in
    let added : (names_like s2 c.names).files ≡ c.names.files ++ new_file c.names name ∷ [] =
    map-append file_like (plain c).files (record { id = c.names.next; name = name; bytes = []; sealed = false } ∷ []) ∙ ap (λ (fs : List File). fs ++ new_file c.names name ∷ []) (files_seen c.places (contents c.blocks) c.names.files) in
    let apart = functions_of c.names.functions (λ a b. a ≢ b) c.names.functions h.placed.named.functions_apart in
    renamed_keeps c s2
    (subst (λ (fs : List File). AreNamed (record { files = fs; next = c.names.next + 1; functions = functions2 })) (sym added) (new_named c.names name functions2 h.placed.named (fresh_name c name none) apart))
    (subst (λ (fs : List File). HavePlaces c.shape (record { files = fs; next = c.names.next + 1; functions = functions2 }) c.places) (sym added) (new_have c.shape c.names c.places name functions2 h.placed.named h.placed.have))
    (subst (λ (fs : List File). Tails (record { files = fs; next = c.names.next + 1; functions = functions2 }) c.places (contents c.blocks)) (sym added) (new_tails c.shape c.names c.places (contents c.blocks) name functions2 h.placed.named h.placed.have h.tails))
    (λ lane a e. record {
      file = λ other w. sym (find_append (is_file other) (plain c).files (record { id = c.names.next; name = name; bytes = []; sealed = false } ∷ []) (file_flies c lane a other h e w));
      function = λ other w. refl;
    }) moves h

-- ---- functions come and go

-- the core with other functions
functions_keep : (c : Core) (functions2 : List plain_files.Function) → EachBehind (λ (f g : Function). f.name ≢ g.name) (map (function_like c.names.functions) functions2) →
    ((lane : ℕ) (a : Claim) → claims c.calls lane ≡ Some a → (other : List ℕ) → function_word a.request.call ≡ Some other → function_of other (plain c).functions ≡ function_of other functions2) →
    plain (record c { names = names_like (record (plain c) { functions = functions2 }) c.names }) ≡ record (plain c) { functions = functions2 } → Coherent c →
    Coherent (record c { names = names_like (record (plain c) { functions = functions2 }) c.names })
functions_keep c functions2 apart finds moves h =
    let s2 = record (plain c) { functions = functions2 } in
    let names2 = names_like s2 c.names in
    let seen = files_seen c.places (contents c.blocks) c.names.files in
    let s = same_files c.names.files names2.files seen in
    renamed_keeps c s2
    (record {
      ids = subst (EachBehind (λ (f g : File). f.id < g.id)) (sym seen) h.placed.named.ids;
      names_apart = subst (EachBehind (λ (f g : File). f.name ≢ g.name)) (sym seen) h.placed.named.names_apart;
      functions_apart = apart;
      ids_below = same_below c.names names2 s refl h.placed.named.ids_below;
    })
    (same_have c.shape c.names names2 c.places s h.placed.have) (same_tails c.names names2 c.places (contents c.blocks) s h.tails)
    (λ lane a e. record { file = λ other w. refl; function = λ other w. finds lane a e other w }) moves h

-- the names of the functions in the plain state are apart
plain_apart : (functions : List Function) → EachBehind (λ (f g : Function). f.name ≢ g.name) functions → EachBehind (λ (f g : plain_files.Function). f.name ≢ g.name) (map plain_function functions)
plain_apart functions h = each_map (λ (f g : plain_files.Function). f.name ≢ g.name) plain_function functions h

pub loaded_keeps : (c : Core) (name : List ℕ) (code : List Insn) → is_some (function_of name (plain c).functions) ≡ false →
    plain (record c { names = names_like (record (plain c) { functions = (plain c).functions ++ record { name = name; code = code } ∷ [] }) c.names }) ≡ record (plain c) { functions = (plain c).functions ++ record { name = name; code = code } ∷ [] } → Coherent c →
    Coherent (record c { names = names_like (record (plain c) { functions = (plain c).functions ++ record { name = name; code = code } ∷ [] }) c.names })
loaded_keeps c name code none moves h =
    functions_keep c ((plain c).functions ++ record { name = name; code = code } ∷ [])
    (each_map (λ (f g : Function). f.name ≢ g.name) (function_like c.names.functions) ((plain c).functions ++ record { name = name; code = code } ∷ [])
    (each_push (λ (f g : plain_files.Function). f.name ≢ g.name) (plain c).functions (record { name = name; code = code }) (plain_apart c.names.functions h.placed.named.functions_apart)
    (λ f i e. none_some (function_of name (plain c).functions) none (found_some (is_function name) (plain c).functions f i ((bytes_eq-Decides f.name name).1 e)))))
    (λ lane a e other w. sym (find_append (is_function other) (plain c).functions (record { name = name; code = code } ∷ []) (function_flies c lane a other h e w))) moves h

pub in_without : {A : Type 0} (test : A → Bool) (xs : List A) (y : A) → Contains (without test xs) y → Contains xs y
in_without test [] y h = h
in_without {A} test (x ∷ xs) y h = go (test x) (in_without test xs y) h
  where
    go : (t : Bool) → (Contains (without test xs) y → Contains xs y) → Contains (if t then xs else x ∷ without test xs) y → Contains (x ∷ xs) y
    go true ih h = in_there x y xs h
    go false ih h = ⊎_elim (λ (e : x ≡ y). subst (λ (z : A). Contains (x ∷ xs) z) e (in_here x xs)) (λ (r : Contains (without test xs) y). in_there x y xs (ih r)) (in_cases x y (without test xs) h)

pub each_without : {A : Type 0} (R : A → A → Type 0) (test : A → Bool) (xs : List A) → EachBehind R xs → EachBehind R (without test xs)
each_without R test [] h = h
each_without {A} R test (x ∷ xs) h = go (test x) (each_without R test xs h.1)
  where
    go : (t : Bool) → EachBehind R (without test xs) → EachBehind R (if t then xs else x ∷ without test xs)
    go true ih = h.1
    go false ih = (λ y i. h.0 y (in_without test xs y i), ih)

pub unloaded_keeps : (c : Core) (name : List ℕ) → IsUnused (claims c.calls) name → plain (record c { names = names_like (record (plain c) { functions = without (is_function name) (plain c).functions }) c.names }) ≡ record (plain c) { functions = without (is_function name) (plain c).functions } → Coherent c →
    Coherent (record c { names = names_like (record (plain c) { functions = without (is_function name) (plain c).functions }) c.names })
unloaded_keeps c name unused moves h =
    functions_keep c (without (is_function name) (plain c).functions)
    (each_map (λ (f g : Function). f.name ≢ g.name) (function_like c.names.functions) (without (is_function name) (plain c).functions)
    (each_without (λ (f g : plain_files.Function). f.name ≢ g.name) (is_function name) (plain c).functions (plain_apart c.names.functions h.placed.named.functions_apart)))
    (λ lane a e other w. sym (find_without (is_function other) (is_function name) (plain c).functions (λ f i t. other_name lane a e other w f.name ((bytes_eq-Decides f.name name).0 t)))) moves h
  where
    other_name : (lane : ℕ) (a : Claim) → claims c.calls lane ≡ Some a → (other : List ℕ) → function_word a.request.call ≡ Some other → (n : List ℕ) → n ≡ name → bytes_eq n other ≡ false
    other_name lane a e other w n same = go (bytes_eq n other) refl
      where
        go : (t : Bool) → bytes_eq n other ≡ t → t ≡ false
        go true q =
            let u : word_is (Some other) name ≡ false = ap (λ (o : Option (List ℕ)). word_is o name) (sym w) ∙ unused lane a e in
            let v : bytes_eq other name ≡ true = (bytes_eq-Decides other name).1 (sym ((bytes_eq-Decides n other).0 q) ∙ same) in
            absurd (cc)
        go false q = refl
