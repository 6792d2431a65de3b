-- What the code reads from the input and the context, and what it writes to the output.
use Rattle.std.proofs.Common.{◌≡◌, ℕ, zero, suc, ◌+◌, ◌-◌, ◌*◌, ◌/◌, ◌%◌, ◌^◌, ◌<◌, ◌≤◌, Bool, true, false, List, [], ◌∷◌, ◌++◌, length, take, drop, get_or, Option, Some, None, refl, sym, ap, ◌∙◌, arith, length-append, append_assoc, length-drop, drop-cons}
use Rattle.std.proofs.Math.ListN.{length-replicate}
use Rattle.std.specs.Prelude.{slice_index, nat_eq, nat_le, if◌then◌else◌, replicate, ◌||◌, ◌&&◌}
use Rattle.std.specs.Int.{w16, w32, w64, to_le_bytes, from_le_bytes}
use Rattle.std.proofs.lemmas.Bool.Decides.{nat_tests}
use Rattle.std.proofs.lemmas.List.{drop-take, drop-drop, take-take, append-nil}
use Rattle.std.proofs.lemmas.List.Concat.{flat_map-append}
use Rattle.std.proofs.lemmas.List.Edits.{sets-eq}
use Rattle.std.proofs.lemmas.Nat.{from_le_bytes-to_le_bytes_8}
use Rattle.sbpf_insn.specs.declared.insn.Size.{Size}
use Rattle.sbpf_insn.specs.declared.insn.Size.TheVariants as size
use Rattle.sbpf_insn.specs.Machine.{Regions, load, store, shaped, context_of, number_at, put, size_len, base, Input, Output}
use Rattle.sbpf_exec.proofs.Areas.{AreShort, load_context, load_input, store_output}
use Rattle.sbpf_exec.proofs.Puts.{put-sets, put-append_right}
use Rattle.predicates.specs.Fields.{is_size, is_field}
use Rattle.predicates.specs.Select.{number, field, record_at}
use Rattle.pred_compile.specs.Generated.{size_of}
use Rattle.pred_compile.specs.Promise.{listed}

-- the regions of a run, with these bytes of output so far
abbrev pub lent : List ℕ → List ℕ → List ℕ → Regions
lent input output now = record (shaped input output []) { output = now }

-- ---- numbers of bytes

front : (n i : ℕ) (b : List ℕ) → i < length b → number (take (suc n) (drop i b)) ≡ slice_index b i + 256 * number (take n (drop (suc i) b))
front n i b lt = ap (λ (t : List ℕ). number (take (suc n) t)) (drop-cons b i 0 lt)

at_sum : (b : List ℕ) (i k j : ℕ) → i + k ≡ j → slice_index b (i + k) ≡ slice_index b j
at_sum b i k j e = ap (slice_index b) e

pub number_is : (s : Size) (b : List ℕ) (i : ℕ) → i + size_len s ≤ length b → number_at s b i ≡ number (take (size_len s) (drop i b))
number_is size.B b i le = let f0 = front 0 i b (omega arith) in omega (arith, f0)
number_is size.H b i le =
    let f0 = front 1 i b (omega arith) in
    let f1 = front 0 (suc i) b (omega arith) in
    let e1 = at_sum b i 1 (suc i) (omega arith) in
    omega (arith, f0, f1, e1)
number_is size.W b i le =
    let f0 = front 3 i b (omega arith) in
    let f1 = front 2 (suc i) b (omega arith) in
    let f2 = front 1 (suc (suc i)) b (omega arith) in
    let f3 = front 0 (suc (suc (suc i))) b (omega arith) in
    let e1 = at_sum b i 1 (suc i) (omega arith) in
    let e2 = at_sum b i 2 (suc (suc i)) (omega arith) in
    let e3 = at_sum b i 3 (suc (suc (suc i))) (omega arith) in
    omega (arith, f0, f1, f2, f3, e1, e2, e3)
number_is size.Dw b i le =
    let i2 = suc (suc i) in
    let i4 = suc (suc i2) in
    let i6 = suc (suc i4) in
    let f0 = front 7 i b (omega arith) in
    let f1 = front 6 (suc i) b (omega arith) in
    let f2 = front 5 i2 b (omega arith) in
    let f3 = front 4 (suc i2) b (omega arith) in
    let f4 = front 3 i4 b (omega arith) in
    let f5 = front 2 (suc i4) b (omega arith) in
    let f6 = front 1 i6 b (omega arith) in
    let f7 = front 0 (suc i6) b (omega arith) in
    let e1 = at_sum b i 1 (suc i) (omega arith) in
    let e2 = at_sum b i 2 i2 (omega arith) in
    let e3 = at_sum b i 3 (suc i2) (omega arith) in
    let e4 = at_sum b i 4 i4 (omega arith) in
    let e5 = at_sum b i 5 (suc i4) (omega arith) in
    let e6 = at_sum b i 6 i6 (omega arith) in
    let e7 = at_sum b i 7 (suc i6) (omega arith) in
    omega (arith, f0, f1, f2, f3, f4, f5, f6, f7, e1, e2, e3, e4, e5, e6, e7)

pub size_is : (n : ℕ) → is_size n ≡ true → size_len (size_of n) ≡ n
size_is n e = grind (arith, nat_tests)

-- a field of a part of the input lies there
within_record : (w n off start : ℕ) (input : List ℕ) → off + n ≤ w → take n (drop off (take w (drop start input))) ≡ take n (drop (start + off) input)
within_record w n off start input le =
    let whole : w ≡ off + (w - off) = omega arith in
    ap (λ (k : ℕ). take n (drop off (take k (drop start input)))) whole
    ∙ ap (take n) (drop-take off (w - off) (drop start input))
    ∙ take-take n (w - off) (drop off (drop start input)) (omega arith)
    ∙ ap (take n) (drop-drop off start input)

both : (a b : Bool) → (a && b) ≡ true → (a ≡ true) × (b ≡ true)
both true b e = (refl, e)
both false b e = absurd cc

-- ---- the regions

short_regions : (input output now : List ℕ) → length input ≤ 2 ^ 32 → length now ≤ 2 ^ 32 → AreShort (lent input output now)
short_regions input output now a b = record {
  context = let e : length (context_of input output []) ≡ 48 = refl in omega (arith, e);
  input = a;
  output = b;
  param = omega arith;
  stack = omega (arith, length-replicate {A = ℕ} 4096 0);
}

picks : {X : Type 0} → (a n : ℕ) (x y : X) → a ≤ n → (if nat_le a n then x else y) ≡ x
picks {X} a n x y le = let e : nat_le a n ≡ true = grind (arith, nat_tests) in rw e refl

-- ---- loads

pub input_loaded : (input output now : List ℕ) → length input ≤ 2 ^ 32 → length now ≤ 2 ^ 32 → load (lent input output now) 0x500000200 0x100000000 size.Dw ≡ Some 0x200000000
input_loaded input output now a b = load_context (lent input output now) 0x500000200 0x100000000 size.Dw (short_regions input output now a b) refl

pub length_loaded : (input output now : List ℕ) → length input ≤ 2 ^ 32 → length now ≤ 2 ^ 32 → load (lent input output now) 0x500000200 0x100000008 size.Dw ≡ Some (length input)
length_loaded input output now a b = load_context (lent input output now) 0x500000200 0x100000008 size.Dw (short_regions input output now a b) refl ∙ ap Some (from_le_bytes-to_le_bytes_8 (length input) (omega arith))

pub output_loaded : (input output now : List ℕ) → length input ≤ 2 ^ 32 → length now ≤ 2 ^ 32 → load (lent input output now) 0x500000200 0x100000010 size.Dw ≡ Some 0x300000000
output_loaded input output now a b = load_context (lent input output now) 0x500000200 0x100000010 size.Dw (short_regions input output now a b) refl

-- the field of the record that begins at a place of the input
pub field_loaded : (input output now : List ℕ) (w off n start : ℕ) → length input ≤ 2 ^ 32 → length now ≤ 2 ^ 32 → is_field w off n ≡ true → start + w ≤ length input → load (lent input output now) 0x500000200 ((0x200000000 + start + off) % 2 ^ 64) (size_of n) ≡ Some (field (take w (drop start input)) off n)
field_loaded input output now w off n start a b is fits =
    let two = both (is_size n) (nat_le (off + n) w) is in
    let size = size_is n two.0 in
    let le : off + n ≤ w = grind (arith, nat_tests) in
    let some : 0 < n = grind (arith, nat_tests) in
    let m = lent input output now in
    let place : (0x200000000 + start + off) % 2 ^ 64 ≡ 0x200000000 + (start + off) = omega arith in
    let area : (0x200000000 + (start + off)) / 2 ^ 32 ≡ 2 = omega arith in
    let at : (0x200000000 + (start + off)) % 2 ^ 32 ≡ start + off = omega arith in
    let s = size_of n in
    ap (λ (x : ℕ). load m 0x500000200 x s) place
    ∙ load_input m 0x500000200 (0x200000000 + (start + off)) s (short_regions input output now a b) area
    ∙ ap (λ (x : ℕ). if nat_le (x + size_len s) (length input) then Some (number_at s input x) else None) at
    ∙ picks (start + off + size_len s) (length input) (Some (number_at s input (start + off))) None (omega (arith, size))
    ∙ ap Some (number_is s input (start + off) (omega (arith, size)) ∙ ap (λ (k : ℕ). number (take k (drop (start + off) input))) size ∙ ap number (sym (within_record w n off start input le)))

-- ---- a store

pub length-listed : (xs : List ℕ) → length (listed xs) ≡ 4 * length xs
length-listed [] = refl
length-listed (x ∷ xs) = length-append (to_le_bytes w32 x) (listed xs) ∙ (let e : length (to_le_bytes w32 x) ≡ 4 = refl in omega (arith, e, length-listed xs))

-- the output after the numbers of some records
abbrev pub output_with : List ℕ → List ℕ → List ℕ
output_with done output = listed done ++ drop (4 * length done) output

pub length-output_with : (done output : List ℕ) → 4 * length done ≤ length output → length (output_with done output) ≡ length output
length-output_with done output le = length-append (listed done) (drop (4 * length done) output) ∙ omega (arith, length-listed done, length-drop (4 * length done) output, le)

-- one number more
one_more : (done output : List ℕ) (n : ℕ) → 4 * length done + 4 ≤ length output → put (output_with done output) (4 * length done) (to_le_bytes w32 n) ≡ output_with (done ++ n ∷ []) output
one_more done output n fits =
    let k = length done in
    let q = drop (4 * k) output in
    let word = to_le_bytes w32 n in
    let four : length word ≡ 4 = refl in
    let z : 4 * k ≡ 4 * k + 0 = omega arith in
    let long : length q ≡ length output - 4 * k = length-drop (4 * k) output in
    let more : 4 * length (done ++ n ∷ []) ≡ 4 * k + 4 = omega (arith, length-append done (n ∷ [])) in
    ap (λ (i : ℕ). put (listed done ++ q) i word) z
    ∙ put-append_right (listed done) q word 0 (4 * k) (length-listed done)
    ∙ ap (λ (t : List ℕ). listed done ++ t) (put-sets q word 0 ∙ sets-eq word q 0 (omega (arith, four, long, fits)))
    ∙ ap (λ (t : List ℕ). listed done ++ (word ++ t)) (drop-drop 4 (4 * k) output)
    ∙ sym (append_assoc (listed done) word (drop (4 * k + 4) output))
    ∙ ap (λ (t : List ℕ). t ++ drop (4 * k + 4) output) (sym (flat_map-append (to_le_bytes w32) done (n ∷ []) ∙ ap (λ (t : List ℕ). listed done ++ t) (append-nil word)))
    ∙ ap (λ (j : ℕ). listed (done ++ n ∷ []) ++ drop j output) (sym more)

pub count_stored : (input output done : List ℕ) (n : ℕ) → length input ≤ 2 ^ 32 → length output ≤ 2 ^ 32 → 4 * length done + 4 ≤ length output → n < 2 ^ 32 → store (lent input output (output_with done output)) 0x500000200 ((0x300000000 + 4 * length done + 0) % 2 ^ 64) size.W n ≡ Some (lent input output (output_with (done ++ n ∷ []) output))
count_stored input output done n a b fits small =
    let k = 4 * length done in
    let now = output_with done output in
    let m = lent input output now in
    let long = length-output_with done output (omega arith) in
    let place : (0x300000000 + k + 0) % 2 ^ 64 ≡ 0x300000000 + k = omega arith in
    let area : (0x300000000 + k) / 2 ^ 32 ≡ 3 = omega arith in
    let at : (0x300000000 + k) % 2 ^ 32 ≡ k = omega arith in
    let low : n % 2 ^ 32 ≡ n = omega arith in
    ap (λ (x : ℕ). store m 0x500000200 x size.W n) place
    ∙ store_output m 0x500000200 (0x300000000 + k) n size.W (short_regions input output now a (omega (arith, long))) area
    ∙ ap (λ (x : ℕ). if nat_le (x + 4) (length now) then Some (lent input output (put now x (to_le_bytes w32 (n % 2 ^ 32)))) else None) at
    ∙ picks (k + 4) (length now) (Some (lent input output (put now k (to_le_bytes w32 (n % 2 ^ 32))))) None (omega (arith, long))
    ∙ ap (λ (v : ℕ). Some (lent input output (put now k (to_le_bytes w32 v)))) low
    ∙ ap (λ (t : List ℕ). Some (lent input output t)) (one_more done output n fits)
