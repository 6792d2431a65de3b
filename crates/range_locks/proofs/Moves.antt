-- Locks as the code makes and ends them.
use Rattle.std.proofs.Common.{◌≡◌, ℕ, zero, suc, ◌+◌, ◌*◌, ◌<◌, ◌≤◌, ◌^◌, Bool, true, false, List, [], ◌∷◌, ◌++◌, length, get_or, set, replicate, Option, Some, None, refl, sym, ap, ◌∙◌, subst, ⊎_elim, arith, get_or-set_other}
use Rattle.std.proofs.lemmas.List.{length-replicate, get_or_read}
use Rattle.std.specs.Prelude.{◌==◌, ◌≢◌, ◌⊎◌, ◌&&◌, ◌||◌, ltb, if◌then◌else◌}
use Rattle.std.proofs.lemmas.Bool.Decides.{nat_tests}
use Rattle.index_lists.specs.Words.{one_if, count, without}
use Rattle.index_lists.specs.Lists.{Lists, list_at, with_list}
use Rattle.index_lists.proofs.Counts.{same_or_not, count-nil, count-here, count-there, count-tail, count-without_same, count-without_other, count-push_same, count-push_other}
use Rattle.index_lists.proofs.Several.{list_at-same, list_at-other, length-with_list}
use Rattle.range_locks.specs.declared.range.Range.{Range}
use Rattle.range_locks.specs.Held.{Ranged, held_by, with_held, least_conflict}
use Rattle.range_locks.specs.Walks.{least_in, hit_at, from_at, is_ahead, inserted, IsRising}
use Rattle.range_locks.specs.Locks.{spans, is_empty_on, list_for, AreLocks}
use Rattle.range_locks.proofs.Locked.{Changes, changed, rising_same, rising_without, spans_target, spans_other, empty_target, empty_other, conflict_least}

ahead_through : (a i b j c k : ℕ) → (ltb a b || ((a == b) && ltb i j)) ≡ true → (ltb b c || ((b == c) && ltb j k)) ≡ true → (ltb a c || ((a == c) && ltb i k)) ≡ true
ahead_through a i b j c k e f = grind (arith, nat_tests)

ahead_or : (a i b j : ℕ) → i ≢ j → (ltb a b || ((a == b) && ltb i j)) ≡ false → (ltb b a || ((b == a) && ltb j i)) ≡ true
ahead_or a i b j d e = grind (arith, nat_tests)

inserted_step : (held : List (Option Range)) (call c x : ℕ) (xs : List ℕ) → count c (inserted held call xs) ≡ count c (call ∷ xs) → (t : Bool) → count c (if t then call ∷ x ∷ xs else x ∷ inserted held call xs) ≡ one_if (c == call) + (one_if (c == x) + count c xs)
unfolding count
inserted_step held call c x xs ih true = refl
inserted_step held call c x xs ih false = omega arith

pub count-inserted : (held : List (Option Range)) (call c : ℕ) (xs : List ℕ) → count c (inserted held call xs) ≡ count c (call ∷ xs)
unfolding count inserted
count-inserted held call c [] = refl
count-inserted held call c (x ∷ xs) = inserted_step held call c x xs (count-inserted held call c xs) (is_ahead held call x)

rising_nil : (held : List (Option Range)) (call : ℕ) → IsRising held (inserted held call [])
unfolding IsRising inserted
rising_nil held call = (λ y k. absurd (omega (arith, count-nil y)), tt)

rising_step : (held : List (Option Range)) (call x : ℕ) (xs : List ℕ) → IsRising held (x ∷ xs) → call ≢ x → IsRising held (inserted held call xs) → (t : Bool) → is_ahead held call x ≡ t → IsRising held (if t then call ∷ x ∷ xs else x ∷ inserted held call xs)
unfolding IsRising
rising_step held call x xs r d ih true e =
    (λ y k. ⊎_elim (λ (f : y ≡ x). subst (λ (w : ℕ). is_ahead held call w ≡ true) (sym f) e) (λ (f : y ≢ x). ahead_through (from_at held call) call (from_at held x) x (from_at held y) y e (r.0 y (omega (arith, count-there y x xs f)))) (same_or_not y x), r)
rising_step held call x xs r d ih false e =
    (λ y k. ⊎_elim (λ (f : y ≡ call). subst (λ (w : ℕ). is_ahead held x w ≡ true) (sym f) (ahead_or (from_at held call) call (from_at held x) x d e)) (λ (f : y ≢ call). r.0 y (omega (arith, count-inserted held call y xs, count-there y call xs f))) (same_or_not y call), ih)

rising_tail : (held : List (Option Range)) (x : ℕ) (xs : List ℕ) → IsRising held (x ∷ xs) → IsRising held xs
unfolding IsRising
rising_tail held x xs r = r.1

pub rising_inserted : (held : List (Option Range)) (call : ℕ) (xs : List ℕ) → IsRising held xs → count call xs ≡ 0 → IsRising held (inserted held call xs)
unfolding inserted
rising_inserted held call [] r k = rising_nil held call
rising_inserted held call (x ∷ xs) r k =
    rising_step held call x xs r (λ e. absurd (omega (arith, count-here x xs, ap (λ (w : ℕ). count w (x ∷ xs)) e))) (rising_inserted held call xs (rising_tail held x xs r) (omega (arith, count-tail call x xs))) (is_ahead held call x) refl

changes_by : (links links2 : Lists) (t call n : ℕ) (ys : List ℕ) → t < length links.lists → links2 ≡ with_list links t ys → ((c : ℕ) → c ≢ call → count c ys ≡ count c (list_at links t)) → count call ys ≡ n → Changes links links2 t call n
changes_by links links2 t call n ys l e same here =
    subst (λ (s : Lists). Changes links s t call n) (sym e) (record {
      nodes = refl;
      len = length-with_list links t ys;
      others = λ i d. list_at-other links t i ys d;
      same = λ c d. ap (count c) (list_at-same links t ys l) ∙ same c d;
      here = ap (count call) (list_at-same links t ys l) ∙ here;
    })

-- what a new lock goes by
pub record Takes (files : ℕ) (held : List (Option Range)) (links : Lists) (call file : ℕ) : Type 0 where
  pub bound : file < files
  pub call_bound : call < length held
  pub node : call < links.nodes
  pub full_absent : count call (list_at links (2 * file)) ≡ 0
  pub empty_absent : count call (list_at links (2 * file + 1)) ≡ 0
  pub free : get_or held call None ≡ None
  pub lists : 2 * file + 1 < length links.lists

seen_as : ℕ → List (Option Range) → Ranged
seen_as files held = record { files = files; held = held }

pub takes : (files : ℕ) (held : List (Option Range)) (links : Lists) (v : Ranged) (call file : ℕ) → AreLocks files held links → (let s : Ranged = record { files = files; held = held } in s) ≡ v → call < length v.held → file < v.files → held_by v call ≡ None → Takes files held links call file
takes files held links v call file a e lc lf n =
    subst (λ (v : Ranged). call < length v.held → file < v.files → held_by v call ≡ None → Takes files held links call file) e
    (λ lc lf n.
    let k = a.calls in
    let m = a.lists in
    record {
      bound = lf;
      call_bound = lc;
      node = omega arith;
      full_absent = a.full file call lf ∙ ap (λ (o : Option Range). one_if (spans file o)) n;
      empty_absent = a.empty file call lf ∙ ap (λ (o : Option Range). one_if (is_empty_on file o)) n;
      free = n;
      lists = omega arith;
    }) lc lf n

full_list : (r : Range) → r.from < r.to → list_for r ≡ 2 * r.file
full_list r l = let a : ltb r.from r.to ≡ true = grind (arith, nat_tests) in rw a refl

empty_list : (r : Range) → r.to ≤ r.from → list_for r ≡ 2 * r.file + 1
empty_list r l = let a : ltb r.from r.to ≡ false = grind (arith, nat_tests) in rw a refl

pub lock_full : (files : ℕ) (held : List (Option Range)) (links links2 : Lists) (call : ℕ) (r : Range) → AreLocks files held links → Takes files held links call r.file → r.from < r.to → links2 ≡ with_list links (2 * r.file) (inserted (set held call (Some r)) call (list_at links (2 * r.file))) → AreLocks files (set held call (Some r)) links2
lock_full files held links links2 call r a h l e =
    let g = full_list r l in
    let lists = h.lists in
    let k = h.full_absent in
    let held2 = set held call (Some r) in
    let ch : Changes links links2 (2 * r.file) call 1 = changes_by links links2 (2 * r.file) call 1 (inserted held2 call (list_at links (2 * r.file))) (omega arith) e
    (λ c d. omega (arith, count-inserted held2 call c (list_at links (2 * r.file)), count-there c call (list_at links (2 * r.file)) d)) (omega (arith, count-inserted held2 call call (list_at links (2 * r.file)), count-here call (list_at links (2 * r.file)))) in
    let here : list_at links2 (2 * r.file) ≡ inserted held2 call (list_at links (2 * r.file)) = ap (λ (s : Lists). list_at s (2 * r.file)) e ∙ list_at-same links (2 * r.file) (inserted held2 call (list_at links (2 * r.file))) (omega arith) in
    let before : IsRising held2 (list_at links (2 * r.file)) = rising_same held held2 (list_at links (2 * r.file)) (λ c m. get_or-set_other held call c (Some r) None (λ q. let z = ap (λ (w : ℕ). count w (list_at links (2 * r.file))) q in absurd (omega arith))) (a.rising r.file h.bound) in
    changed files held links links2 (2 * r.file) call 1 (Some r) a h.call_bound ch
    (λ f q. ap one_if (spans_target f r (q ∙ sym g))) (λ f d. (spans_other f r (λ q. d (q ∙ g)), ap (spans f) h.free))
    (λ f q. ap one_if (empty_target f r (q ∙ sym g))) (λ f d. (empty_other f r (λ q. d (q ∙ g)), ap (is_empty_on f) h.free))
    (λ f lf q. subst (IsRising held2) (sym here) (rising_inserted held2 call (list_at links (2 * r.file)) before k)) (λ s q. let z : r ≡ s = cc in subst (λ (w : Range). w.file < files) z h.bound)

pub lock_empty : (files : ℕ) (held : List (Option Range)) (links links2 : Lists) (call : ℕ) (r : Range) → AreLocks files held links → Takes files held links call r.file → r.to ≤ r.from → links2 ≡ with_list links (2 * r.file + 1) (list_at links (2 * r.file + 1) ++ call ∷ []) → AreLocks files (set held call (Some r)) links2
lock_empty files held links links2 call r a h l e =
    let g = empty_list r l in
    let lists = h.lists in
    let k = h.empty_absent in
    let ch : Changes links links2 (2 * r.file + 1) call 1 = changes_by links links2 (2 * r.file + 1) call 1 (list_at links (2 * r.file + 1) ++ call ∷ []) (omega arith) e
    (λ c d. count-push_other c call (list_at links (2 * r.file + 1)) d) (omega (arith, count-push_same call (list_at links (2 * r.file + 1)))) in
    changed files held links links2 (2 * r.file + 1) call 1 (Some r) a h.call_bound ch
    (λ f q. ap one_if (spans_target f r (q ∙ sym g))) (λ f d. (spans_other f r (λ q. d (q ∙ g)), ap (spans f) h.free))
    (λ f q. ap one_if (empty_target f r (q ∙ sym g))) (λ f d. (empty_other f r (λ q. d (q ∙ g)), ap (is_empty_on f) h.free))
    (λ f lf q. absurd (omega arith)) (λ s q. let z : r ≡ s = cc in subst (λ (w : Range). w.file < files) z h.bound)

-- what the end of a lock goes by
pub record Ends (files : ℕ) (held : List (Option Range)) (links : Lists) (call : ℕ) (r : Range) : Type 0 where
  pub call_bound : call < length held
  pub there : 0 < count call (list_at links (list_for r))
  pub list : list_for r < length links.lists
  pub file : r.file ≤ 2 ^ 20

pub ends : (files : ℕ) (held : List (Option Range)) (links : Lists) (v : Ranged) (call : ℕ) (r : Range) → AreLocks files held links → (let s : Ranged = record { files = files; held = held } in s) ≡ v → call < length v.held → get_or held call None ≡ Some r → Ends files held links call r
ends files held links v call r a e lc n =
    let lc2 : call < length held = subst (λ (v : Ranged). call < length v.held) (sym e) lc in
    let lf = a.file_of call r n in
    let m = a.lists in
    let sm = a.small in
    record {
      call_bound = lc2;
      there = ⊎_elim (λ (l : r.from < r.to). let g = full_list r l in subst (λ (w : ℕ). 0 < count call (list_at links w)) (sym g) (let q = a.full r.file call lf in let z = ap (λ (o : Option Range). one_if (spans r.file o)) n in let y = ap one_if (spans_target r.file r (sym g)) in omega arith))
          (λ (l : r.to ≤ r.from). let g = empty_list r l in subst (λ (w : ℕ). 0 < count call (list_at links w)) (sym g) (let q = a.empty r.file call lf in let z = ap (λ (o : Option Range). one_if (is_empty_on r.file o)) n in let y = ap one_if (empty_target r.file r (sym g)) in omega arith)) (up_or_down r.from r.to);
      list = ⊎_elim (λ (l : r.from < r.to). let g = full_list r l in omega arith) (λ (l : r.to ≤ r.from). let g = empty_list r l in omega arith) (up_or_down r.from r.to);
      file = omega arith;
    }
  where
    up_or_down : (a b : ℕ) → (a < b) ⊎ (b ≤ a)
    up_or_down a b = grind arith

pub unlock_done : (files : ℕ) (held : List (Option Range)) (links links2 : Lists) (call : ℕ) (r : Range) → AreLocks files held links → Ends files held links call r → get_or held call None ≡ Some r → links2 ≡ with_list links (list_for r) (without call (list_at links (list_for r))) → AreLocks files (set held call None) links2
unlock_done files held links links2 call r a h n e =
    let xs = list_at links (list_for r) in
    let ch : Changes links links2 (list_for r) call 0 = changes_by links links2 (list_for r) call 0 (without call xs) h.list e (λ c d. count-without_other c call xs d) (count-without_same call xs) in
    let here : list_at links2 (list_for r) ≡ without call xs = ap (λ (s : Lists). list_at s (list_for r)) e ∙ list_at-same links (list_for r) (without call xs) h.list in
    changed files held links links2 (list_for r) call 0 None a h.call_bound ch
    (λ f q. refl) (λ f d. (refl, ap (spans f) n ∙ spans_other f r d))
    (λ f q. refl) (λ f d. (refl, ap (is_empty_on f) n ∙ empty_other f r d))
    (λ f lf q. subst (IsRising (set held call None)) (sym here) (rising_same held (set held call None) (without call xs) (λ c m. get_or-set_other held call c None None (λ g. let z = ap (λ (w : ℕ). count w (without call xs)) g in absurd (omega (arith, count-without_same call xs))))
    (rising_without held call xs (subst (λ (w : ℕ). IsRising held (list_at links w)) q (a.rising f lf)))))
    (λ s q. absurd cc)

pub conflict_value : (files : ℕ) (held : List (Option Range)) (links : Lists) (v : Ranged) (r : Range) (o : Option ℕ) → AreLocks files held links → (let s : Ranged = record { files = files; held = held } in s) ≡ v → r.file < v.files → o ≡ least_in (hit_at r held) (list_at links (2 * r.file)) → least_conflict r v ≡ o
conflict_value files held links v r o a e lf g =
    subst (λ (v : Ranged). r.file < v.files → least_conflict r v ≡ o) e (λ lf. conflict_least files held links r a lf ∙ sym g) lf

pub new_locks : (calls files nodes : ℕ) (held : List (Option Range)) (links : Lists) → held ≡ replicate calls None → links ≡ record { nodes = nodes; lists = replicate (2 * files) [] } → calls ≤ nodes → files ≤ 2 ^ 20 → AreLocks files held links
unfolding IsRising
new_locks calls files nodes held links e g l sm =
    let none : (c : ℕ) → get_or held c None ≡ None = λ c. ap (λ (t : List (Option Range)). get_or t c None) e ∙ all_none calls c in
    let nil : (i : ℕ) → list_at links i ≡ [] = λ i. ap (λ (s : Lists). list_at s i) g ∙ all_nil (2 * files) i in
    record {
      calls = let k = ap length e in let m = ap nodes_of g in omega (arith, length-replicate calls (let o : Option Range = None in o));
      lists = ap (λ (s : Lists). length s.lists) g ∙ length-replicate (2 * files) [];
      small = sm;
      full = λ f c lf. ap (count c) (nil (2 * f)) ∙ count-nil c ∙ sym (ap (λ (o : Option Range). one_if (spans f o)) (none c));
      empty = λ f c lf. ap (count c) (nil (2 * f + 1)) ∙ count-nil c ∙ sym (ap (λ (o : Option Range). one_if (is_empty_on f o)) (none c));
      rising = λ f lf. subst (IsRising held) (sym (nil (2 * f))) tt;
      file_of = λ c r q. let z : None ≡ Some r = sym (none c) ∙ q in absurd cc;
    }
  where
    nodes_of : Lists → ℕ
    nodes_of s = s.nodes

    all_none : (n c : ℕ) → get_or (replicate n (let o : Option Range = None in o)) c None ≡ None
    all_none zero c = refl
    all_none (suc n) zero = refl
    all_none (suc n) (suc c) = all_none n c

    all_nil : (n i : ℕ) → get_or (replicate n (let x : List ℕ = [] in x)) i [] ≡ []
    all_nil zero i = refl
    all_nil (suc n) zero = refl
    all_nil (suc n) (suc i) = all_nil n i

-- as the code reads them: held1 is the slice of what is held
pub conflict_read : (files : ℕ) (held held1 : List (Option Range)) (links : Lists) (v : Ranged) (r : Range) (q o : Option ℕ) → AreLocks files held links → (let s : Ranged = record { files = files; held = held } in s) ≡ v → r.file < v.files → held1 ≡ held → q ≡ least_in (hit_at r held1) (list_at links (2 * r.file)) → q ≡ o → least_conflict r v ≡ o
conflict_read files held held1 links v r q o a e lf d g h =
    conflict_value files held links v r o a e lf (sym h ∙ g ∙ ap (λ (t : List (Option Range)). least_in (hit_at r t) (list_at links (2 * r.file))) d)

pub lock_full_read : (files : ℕ) (held held1 : List (Option Range)) (links links2 : Lists) (call : ℕ) (r : Range) → AreLocks files held links → Takes files held links call r.file → r.from < r.to → held1 ≡ set held call (Some r) → links2 ≡ with_list links (2 * r.file) (inserted held1 call (list_at links (2 * r.file))) → AreLocks files (set held call (Some r)) links2
lock_full_read files held held1 links links2 call r a h l d e = lock_full files held links links2 call r a h l (e ∙ ap (λ (t : List (Option Range)). with_list links (2 * r.file) (inserted t call (list_at links (2 * r.file)))) d)

pub seen_set : (files : ℕ) (held : List (Option Range)) (v : Ranged) (call : ℕ) (o : Option Range) → (let s : Ranged = record { files = files; held = held } in s) ≡ v → (let s : Ranged = record { files = files; held = set held call o } in s) ≡ with_held v call o
seen_set files held v call o e = ap (λ (v : Ranged). with_held v call o) e

pub now_held : (held : List (Option Range)) (call : ℕ) (o : Option Range) (r : Range) → o ≡ get_or held call o → call < length held → o ≡ Some r → get_or held call None ≡ Some r
now_held held call o r e l f = sym (get_or_read held call o l e None) ∙ f

pub small_files : (m files : ℕ) → 1 ≤ m → 2 * (m * files) ≤ 2 ^ 20 → files ≤ 2 ^ 20
small_files zero files l h = absurd (omega arith)
small_files (suc m) files l h = grind arith
