-- What the places of files give: a file has at most as many pages as the drive has blocks, a span lies in its range, and a page of the
-- span of an exclusive call is in no other span.
use Rattle.std.proofs.Common.{◌≡◌, ℕ, zero, suc, ◌+◌, ◌-◌, ◌<◌, ◌≤◌, Bool, true, false, List, [], ◌∷◌, length, Option, Some, None, refl, sym, ap, ◌∙◌, subst, inl, inr, ⊎_elim, arith, length-append, lit≤}
use Rattle.std.specs.Prelude.{◌≢◌, ◌⊎◌, ◌==◌, ◌/◌, ◌%◌, ◌&&◌, nat_lt, not, min, if◌then◌else◌, is_some, option_to_list, bytes_eq}
use Rattle.std.proofs.lemmas.Bool.Decides.{nat_tests}
use Rattle.std.specs.List.{Contains, find}
use Rattle.page_base.specs.Bytes.{Pages}
use Rattle.index_lists.specs.Words.{count}
use Rattle.index_lists.proofs.Counts.{same_or_not, count-nil, count-append, count-here, count-there, short}
use Rattle.core_state.specs.Call.{Call}
use Rattle.core_state.specs.Call.TheVariants.{Create, OpenFile, Stat, Remove, Read, Write, Append, Trunc, Seal, Load, Unload, Readl, Writel, Sync}
use Rattle.core_state.specs.Plain.{State}
use Rattle.core_state.specs.Words.{listed_to}
use Rattle.core_state.specs.State.{Shape, Block, File, Names, Places, Mode, Shared, Exclusive, Reach, Claim, Flight}
use Rattle.core_state.specs.Contents.{span_block}
use Rattle.core_state.specs.Reach.{file_for, file_by, file_word, len_or_none, id_or_none, read_reach, write_reach, trunc_reach, reach_of, claim_for}
use Rattle.core_state.specs.Placed.{HavePlaces, Placed}
use Rattle.core_state.specs.InFlight.{claim_of, claims, InRange, LocksApart, IsRight, InFlight}
use Rattle.core_lemmas.proofs.Words.{same_some}

-- ---- as many different numbers below a bound as there are pages

-- a row of different numbers below m, one at each of 0, .., n - 1
record IsRow (m n : ℕ) (row : ℕ → Option ℕ) : Type 0 where
  some : (p : ℕ) → p < n → is_some (row p) ≡ true
  low : (p b : ℕ) → row p ≡ Some b → b < m
  apart : (p q b : ℕ) → row p ≡ Some b → row q ≡ Some b → p ≡ q

count_option : (b : ℕ) (o : Option ℕ) → (o ≢ Some b) → count b (option_to_list o) ≡ 0
count_option b None n = count-nil b
count_option b (Some x) n = count-there b x [] (λ e. n (ap Some (sym e))) ∙ count-nil b

count_option_one : (b : ℕ) (o : Option ℕ) → o ≡ Some b → count b (option_to_list o) ≡ 1
count_option_one b o e =
    let k : count b (option_to_list (Some b)) ≡ 1 = count-here b [] ∙ (let z = count-nil b in omega arith) in
    ap (λ (w : Option ℕ). count b (option_to_list w)) e ∙ k

-- what isn't at 0, .., n - 1 isn't listed
pub listed-none : (b n : ℕ) (row : ℕ → Option ℕ) → ((p : ℕ) → p < n → row p ≢ Some b) → count b (listed_to n row) ≡ 0
unfolding listed_to
listed-none b zero row h = count-nil b
listed-none b (suc n) row h =
    let a = listed-none b n row (λ p l. h p (omega arith)) in
    let z = count_option b (row n) (h n (omega arith)) in
    omega (arith, count-append b (listed_to n row) (option_to_list (row n)))

pub same_option : (o : Option ℕ) (b : ℕ) → (o ≡ Some b) ⊎ (o ≢ Some b)
same_option None b = inr (λ e. cc)
same_option (Some x) b = ⊎_elim (λ (e : x ≡ b). inl (ap Some e)) (λ (d : x ≢ b). inr (λ e. d (same_some (Some x) x b refl e))) (same_or_not x b)

-- what is at one place is listed once
pub listed-one : (b n p : ℕ) (row : ℕ → Option ℕ) → p < n → row p ≡ Some b → ((q : ℕ) → row q ≡ Some b → q ≡ p) → count b (listed_to n row) ≡ 1
unfolding listed_to
listed-one b zero p row l e alone = absurd (omega arith)
listed-one b (suc n) p row l e alone = ⊎_elim
    (λ (same : p ≡ n).
    let a = listed-none b n row (λ q m f. let k = alone q f in omega arith) in
    let z = count_option_one b (row n) (ap row (sym same) ∙ e) in
    omega (arith, count-append b (listed_to n row) (option_to_list (row n))))
    (λ (d : p ≢ n).
    let a = listed-one b n p row (omega arith) e alone in
    let z = count_option b (row n) (λ f. d (sym (alone n f))) in
    omega (arith, count-append b (listed_to n row) (option_to_list (row n)))) (same_or_not p n)

row_once : (m n b : ℕ) (row : ℕ → Option ℕ) → IsRow m n row → (k : ℕ) → count b (listed_to k row) < 2
unfolding listed_to
row_once m n b row h zero = let z = count-nil b in omega arith
row_once m n b row h (suc k) = ⊎_elim
    (λ (e : row k ≡ Some b).
    let a = listed-none b k row (λ p l f. let s = h.apart p k b f e in omega arith) in
    let z = count_option_one b (row k) e in
    omega (arith, count-append b (listed_to k row) (option_to_list (row k))))
    (λ (d : row k ≢ Some b).
    let a = row_once m n b row h k in
    let z = count_option b (row k) d in
    omega (arith, count-append b (listed_to k row) (option_to_list (row k)))) (same_option (row k) b)

length_one : (o : Option ℕ) → is_some o ≡ true → length (option_to_list o) ≡ 1
length_one None e = absurd (cc)
length_one (Some x) e = refl

row_length : (m n : ℕ) (row : ℕ → Option ℕ) → IsRow m n row → (k : ℕ) → k ≤ n → length (listed_to k row) ≡ k
unfolding listed_to
row_length m n row h zero l = refl
row_length m n row h (suc k) l =
    let a = row_length m n row h k (omega arith) in
    let z = length_one (row k) (h.some k (omega arith)) in
    omega (arith, length-append (listed_to k row) (option_to_list (row k)))

row_short : (m n : ℕ) (row : ℕ → Option ℕ) → IsRow m n row → n ≤ m
row_short m n row h =
    let l : length (listed_to n row) ≡ n = row_length m n row h n (omega arith) in
    let s = short m (listed_to n row) (λ b. row_once m n b row h n) (λ b k. listed-none b n row (λ p q e. let z = h.low p b e in omega arith)) in
    omega arith

test_true : (a b : ℕ) → a < b → nat_lt a b ≡ true
test_true a b l = grind (arith, nat_tests)

-- a file has at most as many pages as the drive has blocks
pub pages_fit : (shape : Shape) (names : Names) (places : Places) → HavePlaces shape names places → (f : File) → Contains names.files f → Pages f.len ≤ shape.blocks
pages_fit shape names places h f there =
    row_short shape.blocks (Pages f.len) (places f.id) (record {
      some = λ p l. h.exact f there p ∙ test_true p (Pages f.len) l;
      low = λ p b e. h.within f.id p b e;
      apart = λ p q b e g. (h.apart f.id f.id p q b e g).1;
    })

-- ---- a span lies in its range

pub read_in : (off n len i : ℕ) → Pages len ≤ 65536 → i < (read_reach off n len).pages → InRange (read_reach off n len) ((read_reach off n len).first + i)
read_in off n len i fits l = go (n == 0) refl l
  where
    r : Bool → Reach
    r t = if t then Rattle.core_state.specs.Reach.no_reach else record { mode = Shared; from = off / 4096; to = min (Pages (off + n)) 65537; first = off / 4096; pages = min (Pages (off + n)) (Pages len) - off / 4096; begin = off; end = off + n }

    go : (t : Bool) → (n == 0) ≡ t → i < (r t).pages → InRange (r t) ((r t).first + i)
    go true e k = absurd (omega arith)
    go false e k = record { low = omega arith; high = omega arith }

pub write_in : (off n len i : ℕ) → i < (write_reach off n len).pages → InRange (write_reach off n len) ((write_reach off n len).first + i)
write_in off n len i l = go (n == 0) (nat_lt len (off + n)) l
  where
    r : Bool → Bool → Reach
    r t u = if t then Rattle.core_state.specs.Reach.no_reach else record { mode = Exclusive; from = if u then min (off / 4096) (len / 4096) else off / 4096; to = Pages (off + n); first = off / 4096; pages = Pages (off + n) - off / 4096; begin = off; end = off + n }

    go : (t u : Bool) → i < (r t u).pages → InRange (r t u) ((r t u).first + i)
    go true u k = absurd (omega arith)
    go false true k = record { low = omega arith; high = omega arith }
    go false false k = record { low = omega arith; high = omega arith }

pub trunc_in : (n len i : ℕ) → Pages len ≤ 65536 → i < (trunc_reach n len).pages → InRange (trunc_reach n len) ((trunc_reach n len).first + i)
trunc_in n len i fits l = go (nat_lt n len) (not (n % 4096 == 0)) refl l
  where
    go : (t u : Bool) → nat_lt n len ≡ t → i < (if t && u then 1 else 0) → InRange (trunc_reach n len) (n / 4096 + i)
    go true true e k = let lt : n < len = grind (arith, nat_tests) in record { low = omega arith; high = omega arith }
    go true false e k = absurd (omega arith)
    go false u e k = absurd (omega arith)

pub reach_in : (call : Call) (len i : ℕ) → Pages len ≤ 65536 → i < (reach_of call len).pages → InRange (reach_of call len) ((reach_of call len).first + i)
reach_in (Create name) len i fits l = absurd (omega arith)
reach_in (OpenFile name) len i fits l = absurd (omega arith)
reach_in (Stat name) len i fits l = absurd (omega arith)
reach_in (Remove name) len i fits l = absurd (omega arith)
reach_in (Read name off n) len i fits l = read_in off n len i fits l
reach_in (Write name off bytes) len i fits l = write_in off (length bytes) len i l
reach_in (Append name bytes) len i fits l = write_in len (length bytes) len i l
reach_in (Trunc name n) len i fits l = trunc_in n len i fits l
reach_in (Seal name) len i fits l = absurd (omega arith)
reach_in (Load name bytes) len i fits l = absurd (omega arith)
reach_in (Unload name) len i fits l = absurd (omega arith)
reach_in (Readl file off n function fuel cap param) len i fits l = read_in off n len i fits l
reach_in (Writel file off n function fuel param input) len i fits l = write_in off n len i l
reach_in Sync len i fits l = absurd (omega arith)

-- ---- the calls in flight

pub not_both : (m : Mode) → m ≡ Shared → m ≡ Exclusive → ⊥
not_both m e f = cc

-- what is found is in the list
pub found_in : {A : Type 0} (test : A → Bool) (xs : List A) (x : A) → find test xs ≡ Some x → Contains xs x
found_in test [] x e = absurd (cc)
found_in {A} test (y ∷ xs) x e = go (test y) (found_in test xs x) e
  where
    go : (t : Bool) → (find test xs ≡ Some x → Contains xs x) → (if t then Some y else find test xs) ≡ Some x → Contains (y ∷ xs) x
    go true rest f = (0, omega arith, same_some (Some y) y x refl f)
    go false rest f = let k = rest f in let l = k.1 in (suc k.0, omega arith, k.2)

pub file_in : (files : List File) (word : Option (List ℕ)) (f : File) → file_by files word ≡ Some f → Contains files f
file_in files None f e = absurd (cc)
file_in files (Some name) f e = found_in (λ (f : File). bytes_eq f.name name) files f e

len_fits : (shape : Shape) (names : Names) (places : Places) → HavePlaces shape names places → shape.blocks ≤ 65536 → (found : Option File) → ((f : File) → found ≡ Some f → Contains names.files f) → Pages (len_or_none found) ≤ 65536
len_fits shape names places h most None there = lit≤ tt
len_fits shape names places h most (Some f) there = let k = pages_fit shape names places h f (there f refl) in omega arith

-- the pages of a claim's span lie in its range
pub span_in : (shape : Shape) (names : Names) (places : Places) (blocks : ℕ → Block) (plain : State) (a : Claim) → Placed shape names places blocks → IsRight names plain a → (i : ℕ) → i < a.reach.pages → InRange a.reach (a.reach.first + i)
span_in shape names places blocks plain a placed right i l =
    let found = file_for names.files a.request.call in
    let same : a.reach ≡ reach_of a.request.call (len_or_none found) = ap (λ (k : Claim). k.reach) right.same in
    subst (λ (r : Reach). i < r.pages → InRange r (r.first + i)) (sym same)
    (reach_in a.request.call (len_or_none found) i (len_fits shape names places placed.have placed.drive.most_blocks found (file_in names.files (file_word a.request.call)))) l

-- a page of the span of an exclusive call is in no other span
pub only_span : (shape : Shape) (names : Names) (places : Places) (blocks : ℕ → Block) (plain : State) (calls : ℕ → Option Flight) → Placed shape names places blocks → InFlight names plain calls → LocksApart (claims calls) →
    (l m : ℕ) (x y : Flight) → calls l ≡ Some x → calls m ≡ Some y → l ≢ m → x.claim.reach.mode ≡ Exclusive → (i j b : ℕ) → i < x.claim.reach.pages → j < y.claim.reach.pages →
    span_block places x.claim i ≡ Some b → span_block places y.claim j ≡ Some b → ⊥
only_span shape names places blocks plain calls placed flying apart l m x y e f d mode i j b p q at_x at_y =
    let same = placed.have.apart x.claim.file y.claim.file (x.claim.reach.first + i) (y.claim.reach.first + j) b at_x at_y in
    let cx : claims calls l ≡ Some x.claim = ap claim_of e in
    let cy : claims calls m ≡ Some y.claim = ap claim_of f in
    let in_x = span_in shape names places blocks plain x.claim placed (flying.right l x.claim cx) i p in
    let in_y = span_in shape names places blocks plain y.claim placed (flying.right m y.claim cy) j q in
    let both = apart l m x.claim y.claim (x.claim.reach.first + i) cx cy d same.0 in_x (subst (λ (k : ℕ). InRange y.claim.reach k) (sym same.1) in_y) in
    let shared = both.0 in
    not_both x.claim.reach.mode shared mode
