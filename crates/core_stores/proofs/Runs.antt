-- What the plain machine makes of the other calls in flight, where a call that stores ends: what it made of them before.
use Rattle.std.proofs.Common.{◌≡◌, ℕ, zero, suc, ◌+◌, ◌-◌, ◌<◌, ◌≤◌, Bool, true, false, List, ◌∷◌, take, drop, Some, None, refl, sym, ap, ◌∙◌, arith, get_or}
use Rattle.std.specs.Prelude.{◌/◌, ◌%◌, ◌^◌, nat_lt, is_none, map, min, if◌then◌else◌}
use Rattle.std.specs.List.{range_with_len}
use Rattle.page_base.specs.Bytes.{Pages, Cut}
use Rattle.core_hold.specs.Call.{Call}
use Rattle.core_hold.specs.Call.TheVariants.{Create, OpenFile, Stat, Remove, Read, Write, Append, Trunc, Seal, Load, Unload, Readl, Writel, Sync}
use Rattle.core_hold.specs.Reply.TheVariants.{NoFile, NoFn, TooLong, AppendOnly, TooBig}
use Rattle.core_hold.specs.Plain.{State, file_of, function_of, file_in, bytes_in, is_too_long, lacks_file, lacks_function, is_append_only, end_of, early}
use Rattle.core_hold.specs.Words.{from_fn}
use Rattle.core_hold.specs.State.{Page}
use Rattle.core_hold.specs.Reach.{file_word}
use Rattle.core_hold.specs.PlainOf.{file_bytes, outcome_of}
use Rattle.core_hold.proofs.CoreLemmasViews.{CanFly}

-- ---- refusals that come early

-- two plain states in which the call finds files alike, and its bytes end within the limit
pub record FindsNear (s t : State) (call : Call) : Type 0 where
  pub none : (name : List ℕ) → file_word call ≡ Some name → is_none (file_of name t.files) ≡ is_none (file_of name s.files)
  pub sealed : (name : List ℕ) → file_word call ≡ Some name → (file_in t name).sealed ≡ (file_in s name).sealed
  pub functions : t.functions ≡ s.functions
  pub end : nat_lt (2 ^ 28) (end_of t call) ≡ false

tests_from : (a b c d e : Bool) → (if a then Some TooLong else if b then Some NoFile else if c then Some NoFn else if d then Some AppendOnly else if e then Some TooBig else None) ≡ None → (a2 b2 c2 d2 e2 : Bool) → a2 ≡ a → b2 ≡ b → c2 ≡ c → d2 ≡ d → e2 ≡ false →
    (if a2 then Some TooLong else if b2 then Some NoFile else if c2 then Some NoFn else if d2 then Some AppendOnly else if e2 then Some TooBig else None) ≡ None
tests_from true b c d e h a2 b2 c2 d2 e2 p q r s u = absurd (cc)
tests_from false true c d e h a2 b2 c2 d2 e2 p q r s u = absurd (cc)
tests_from false false true d e h a2 b2 c2 d2 e2 p q r s u = absurd (cc)
tests_from false false false true e h a2 b2 c2 d2 e2 p q r s u = absurd (cc)
tests_from false false false false e h a2 b2 c2 d2 e2 p q r s u = rw (p, q, r, s, u) refl

same_lacks : (s t : State) (call : Call) → CanFly call → FindsNear s t call → lacks_file t call ≡ lacks_file s call
same_lacks s t (Read name off len) k h = h.none name refl
same_lacks s t (Write name off bytes) k h = h.none name refl
same_lacks s t (Append name bytes) k h = h.none name refl
same_lacks s t (Trunc name len) k h = h.none name refl
same_lacks s t (Readl file off len function fuel cap param) k h = h.none file refl
same_lacks s t (Writel file off len function fuel param input) k h = h.none file refl
same_lacks s t (OpenFile name) k h = h.none name refl
same_lacks s t (Stat name) k h = h.none name refl
same_lacks s t (Remove name) k h = h.none name refl
same_lacks s t (Seal name) k h = h.none name refl
same_lacks s t call k h = refl

same_functions : (s t : State) (call : Call) → FindsNear s t call → lacks_function t call ≡ lacks_function s call
same_functions s t call h = go call
  where
    at : (name : List ℕ) → is_none (function_of name t.functions) ≡ is_none (function_of name s.functions)
    at name = ap (λ fs. is_none (function_of name fs)) h.functions

    go : (call : Call) → lacks_function t call ≡ lacks_function s call
    go (Unload name) = at name
    go (Readl file off len function fuel cap param) = at function
    go (Writel file off len function fuel param input) = at function
    go call = refl

same_sealed : (s t : State) (call : Call) → FindsNear s t call → is_append_only t call ≡ is_append_only s call
same_sealed s t (Write name off bytes) h = h.sealed name refl
same_sealed s t (Trunc name len) h = h.sealed name refl
same_sealed s t (Writel file off len function fuel param input) h = h.sealed file refl
same_sealed s t call h = refl

pub early_near : (s t : State) (call : Call) → CanFly call → FindsNear s t call → early s call ≡ None → early t call ≡ None
early_near s t call k h e =
    tests_from (is_too_long call) (lacks_file s call) (lacks_function s call) (is_append_only s call) (nat_lt (2 ^ 28) (end_of s call)) e
    (is_too_long call) (lacks_file t call) (lacks_function t call) (is_append_only t call) (nat_lt (2 ^ 28) (end_of t call)) refl (same_lacks s t call k h) (same_functions s t call h) (same_sealed s t call h) h.end

-- ---- runs

-- the bytes that a call's function reads of its file
abbrev pub CutsSame : State → State → Call → Type 0
CutsSame s t (Readl file off len function fuel cap param) = Cut (bytes_in t file) off len ≡ Cut (bytes_in s file) off len
CutsSame s t (Writel file off len function fuel param input) = Cut (bytes_in t file) off len ≡ Cut (bytes_in s file) off len
CutsSame s t _ = Unit {0}

pub outcome_near : (s t : State) (call : Call) → t.functions ≡ s.functions → CutsSame s t call → outcome_of t call ≡ outcome_of s call
outcome_near s t (Readl file off len function fuel cap param) f h = let e = ap (λ fs. function_of function fs) f in cc
outcome_near s t (Writel file off len function fuel param input) f h = let e = ap (λ fs. function_of function fs) f in cc
outcome_near s t (Read name off len) f h = refl
outcome_near s t (Write name off bytes) f h = refl
outcome_near s t (Append name bytes) f h = refl
outcome_near s t (Trunc name len) f h = refl
outcome_near s t Sync f h = refl
outcome_near s t (Create name) f h = refl
outcome_near s t (OpenFile name) f h = refl
outcome_near s t (Stat name) f h = refl
outcome_near s t (Remove name) f h = refl
outcome_near s t (Seal name) f h = refl
outcome_near s t (Load name bytes) f h = refl
outcome_near s t (Unload name) f h = refl

-- ---- bytes

drop_row : (f : ℕ → ℕ) (k a n : ℕ) → drop k (map f (range_with_len a n)) ≡ map f (range_with_len (a + k) (n - k))
drop_row f zero a n = let e : a + 0 ≡ a = omega arith in let l : n - 0 ≡ n = omega arith in ap (λ (m : ℕ). map f (range_with_len m n)) (sym e) ∙ ap (λ (m : ℕ). map f (range_with_len (a + 0) m)) (sym l)
drop_row f (suc k) a zero = let e : zero - suc k ≡ 0 = omega arith in ap (λ (m : ℕ). map f (range_with_len (a + suc k) m)) (sym e)
drop_row f (suc k) a (suc n) =
    let e : a + 1 + k ≡ a + suc k = omega arith in
    let l : n - k ≡ suc n - suc k = omega arith in
    drop_row f k (a + 1) n ∙ (ap (λ (m : ℕ). map f (range_with_len m (n - k))) e ∙ ap (λ (m : ℕ). map f (range_with_len (a + suc k) m)) l)

take_row : (f : ℕ → ℕ) (k a n : ℕ) → take k (map f (range_with_len a n)) ≡ map f (range_with_len a (min k n))
take_row f zero a n = let e : min 0 n ≡ 0 = omega arith in ap (λ (m : ℕ). map f (range_with_len a m)) (sym e)
take_row f (suc k) a zero = let e : min (suc k) 0 ≡ 0 = omega arith in ap (λ (m : ℕ). map f (range_with_len a m)) (sym e)
take_row f (suc k) a (suc n) =
    let e : suc (min k n) ≡ min (suc k) (suc n) = omega arith in
    ap (λ (xs : List ℕ). f a ∷ xs) (take_row f k (a + 1) n) ∙ ap (λ (m : ℕ). map f (range_with_len a m)) e

row_same : (f g : ℕ → ℕ) (a n : ℕ) → ((q : ℕ) → a ≤ q → q < a + n → f q ≡ g q) → map f (range_with_len a n) ≡ map g (range_with_len a n)
row_same f g a zero h = refl
row_same f g a (suc n) h = ap (λ (x : ℕ). x ∷ map f (range_with_len (a + 1) n)) (h a (omega arith) (omega arith)) ∙ ap (λ (xs : List ℕ). g a ∷ xs) (row_same f g (a + 1) n (λ q l m. h q (omega arith) (omega arith)))

-- where so many bytes are there to read, and their pages are the same
pub cut_same : (len len2 : ℕ) (page page2 : ℕ → Page) (off n : ℕ) → min n (len2 - off) ≡ min n (len - off) → ((p : ℕ) → off / 4096 ≤ p → p < Pages (off + n) → p < Pages len → page2 p ≡ page p) → Cut (file_bytes len2 page2) off n ≡ Cut (file_bytes len page) off n
unfolding from_fn
cut_same len len2 page page2 off n e same =
    ap (take n) (drop_row byte2 off 0 len2)
    ∙ (take_row byte2 n (0 + off) (len2 - off)
    ∙ (ap (λ (m : ℕ). map byte2 (range_with_len (0 + off) m)) e
    ∙ (row_same byte2 byte (0 + off) (min n (len - off)) (λ q l m. ap (λ (w : Page). get_or w (q % 4096) 0) (same (q / 4096) (omega arith) (omega arith) (omega arith)))
    ∙ (sym (take_row byte n (0 + off) (len - off)) ∙ ap (take n) (sym (drop_row byte off 0 len))))))
  where
    byte : ℕ → ℕ
    byte i = get_or (page (i / 4096)) (i % 4096) 0

    byte2 : ℕ → ℕ
    byte2 i = get_or (page2 (i / 4096)) (i % 4096) 0
