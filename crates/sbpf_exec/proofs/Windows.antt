-- A region is a part of its buffer: what is read and written in the one is read and written in the other.
use Rattle.std.proofs.Common.{◌≡◌, ◌%◌, ◌^◌, ℕ, ◌+◌, ◌<◌, ◌≤◌, List, [], ◌∷◌, ◌++◌, length, take, drop, refl, sym, ap, ◌∙◌, arith}
use Rattle.std.specs.Prelude.{slice_index, slice_set, nat_le, if◌then◌else◌}
use Rattle.std.proofs.lemmas.Bool.Decides.{nat_tests}
use Rattle.std.proofs.lemmas.List.{get_or-take, get_or-drop, drop-set-add}
use Rattle.std.proofs.Math.Seq.{take-set-lt}
use Rattle.sbpf_insn.specs.declared.insn.Size.{Size}
use Rattle.sbpf_insn.specs.declared.insn.Size.TheVariants as size
use Rattle.sbpf_insn.specs.Machine.{put, put_number, number_at, size_len}
use Rattle.std.specs.Int.{w16, w32, w64, to_le_bytes}
use Rattle.std.proofs.lemmas.List.{take_all, drop_all, append-nil}
use Rattle.edge_io.specs.Lending.{overwritten}
use Rattle.sbpf_exec.proofs.PageLaws.{same_number}
use Rattle.sbpf_exec.proofs.Puts.{length-put, take-put, drop-put}

-- a number of the first n bytes
pub flat_read : (s : Size) (b : List ℕ) (n at : ℕ) → at + size_len s ≤ n → number_at s (take n b) at ≡ number_at s b at
flat_read s b n at fits =
    same_number s (take n b) b at at (λ d small.
    let lt : at + d < n = omega arith in
    get_or-take n b (at + d) 0 lt)

-- a number of the first n bytes behind a place
pub paged_read : (s : Size) (b : List ℕ) (start len n at : ℕ) → n ≤ len → at + size_len s ≤ n → number_at s (take n (take len (drop start b))) at ≡ number_at s b (start + at)
paged_read s b start len n at short fits =
    same_number s (take n (take len (drop start b))) b at (start + at) (λ d small.
    let lt : at + d < n = omega arith in
    let lt' : at + d < len = omega arith in
    let e : start + (at + d) ≡ start + at + d = omega arith in
    get_or-take n (take len (drop start b)) (at + d) 0 lt ∙ get_or-take len (drop start b) (at + d) 0 lt' ∙ get_or-drop start b (at + d) 0 ∙ ap (slice_index b) e)

-- bytes written to the first n
flat_put : (b xs : List ℕ) (n i : ℕ) → i + length xs ≤ n → take n (put b i xs) ≡ put (take n b) i xs
flat_put b [] n i fits = refl
flat_put b (x ∷ xs) n i fits =
    flat_put (slice_set b i x) xs n (i + 1) (omega arith) ∙ ap (λ (c : List ℕ). put c (i + 1) xs) (take-set-lt n b i x (omega arith))

paged_put : (b xs : List ℕ) (start len n i : ℕ) → n ≤ len → i + length xs ≤ n → take n (take len (drop start (put b (start + i) xs))) ≡ put (take n (take len (drop start b))) i xs
paged_put b [] start len n i short fits = refl
paged_put b (x ∷ xs) start len n i short fits =
    let e : start + i + 1 ≡ start + (i + 1) = omega arith in
    let c = slice_set b (start + i) x in
    ap (λ (k : ℕ). take n (take len (drop start (put c k xs)))) e
    ∙ paged_put c xs start len n (i + 1) short (omega arith)
    ∙ ap (λ (t : List ℕ). put (take n (take len t)) (i + 1) xs) (drop-set-add start b i x)
    ∙ ap (λ (t : List ℕ). put (take n t) (i + 1) xs) (take-set-lt len (drop start b) i x (omega arith))
    ∙ ap (λ (t : List ℕ). put t (i + 1) xs) (take-set-lt n (take len (drop start b)) i x (omega arith))

-- ---- numbers, as bytes written one after the other

low_bytes : Size → ℕ → List ℕ
low_bytes size.B v = v % 2 ^ 8 ∷ []
low_bytes size.H v = to_le_bytes w16 (v % 2 ^ 16)
low_bytes size.W v = to_le_bytes w32 (v % 2 ^ 32)
low_bytes size.Dw v = to_le_bytes w64 v

put_number-is : (s : Size) (b : List ℕ) (i v : ℕ) → put_number s b i v ≡ put b i (low_bytes s v)
unfolding low_bytes
put_number-is size.B b i v = refl
put_number-is size.H b i v = refl
put_number-is size.W b i v = refl
put_number-is size.Dw b i v = refl

length-low_bytes : (s : Size) (v : ℕ) → length (low_bytes s v) ≡ size_len s
unfolding low_bytes
length-low_bytes size.B v = refl
length-low_bytes size.H v = refl
length-low_bytes size.W v = refl
length-low_bytes size.Dw v = refl

pub length-put_number : (s : Size) (b : List ℕ) (i v : ℕ) → length (put_number s b i v) ≡ length b
length-put_number s b i v = ap length (put_number-is s b i v) ∙ length-put b (low_bytes s v) i

pub flat_write : (s : Size) (b : List ℕ) (n i v : ℕ) → i + size_len s ≤ n → take n (put_number s b i v) ≡ put_number s (take n b) i v
flat_write s b n i v fits =
    ap (take n) (put_number-is s b i v) ∙ flat_put b (low_bytes s v) n i (omega (arith, length-low_bytes s v)) ∙ sym (put_number-is s (take n b) i v)

pub paged_write : (s : Size) (b : List ℕ) (start len n i v : ℕ) → n ≤ len → i + size_len s ≤ n → take n (take len (drop start (put_number s b (start + i) v))) ≡ put_number s (take n (take len (drop start b))) i v
paged_write s b start len n i v short fits =
    ap (λ (t : List ℕ). take n (take len (drop start t))) (put_number-is s b (start + i) v)
    ∙ paged_put b (low_bytes s v) start len n i short (omega (arith, length-low_bytes s v))
    ∙ sym (put_number-is s (take n (take len (drop start b))) i v)

pub before_write : (s : Size) (b : List ℕ) (n i v : ℕ) → n ≤ i → take n (put_number s b i v) ≡ take n b
before_write s b n i v le = ap (take n) (put_number-is s b i v) ∙ take-put b (low_bytes s v) i n le

pub behind_write : (s : Size) (b : List ℕ) (n i v : ℕ) → i + size_len s ≤ n → drop n (put_number s b i v) ≡ drop n b
behind_write s b n i v le = ap (drop n) (put_number-is s b i v) ∙ drop-put b (low_bytes s v) i n (omega (arith, length-low_bytes s v))

-- ---- what is written to a region, in the form of its contract

pub write_if : (a n : ℕ) (x y z : List ℕ) → a ≤ n → x ≡ y → x ≡ (if nat_le a n then y else z)
write_if a n x y z le e = grind (arith, nat_tests)

-- what was lent and comes back at its old number
pub all_over : {X : Type 0} (old w : List X) (n : ℕ) → length old ≡ n → length w ≡ n → take n (w ++ drop (length w) old) ≡ w
all_over {X} old w n e f =
    let gone : drop (length w) old ≡ [] = drop_all (length w) old (omega arith) in
    ap (λ (t : List X). take n (w ++ t)) gone ∙ ap (take n) (append-nil w) ∙ take_all n w (omega arith)

pub overwritten_all : (b w : List ℕ) → length w ≡ length b → overwritten b w ≡ w
overwritten_all b w e = all_over b w (length b) refl e

pub flat_written : (s : Size) (b w : List ℕ) (n i v : ℕ) → i + size_len s ≤ n → w ≡ put_number s b i v → take n (overwritten b w) ≡ put_number s (take n b) i v
flat_written s b w n i v fits e =
    let long : length w ≡ length b = ap length e ∙ length-put_number s b i v in
    ap (take n) (overwritten_all b w long) ∙ ap (take n) e ∙ flat_write s b n i v fits

pub flat_within : (s : Size) (b w : List ℕ) (n i v : ℕ) → i + size_len s ≤ n → w ≡ put_number s b i v → (length (overwritten b w) ≡ length b) × (drop n (overwritten b w) ≡ drop n b)
flat_within s b w n i v fits e =
    let long : length w ≡ length b = ap length e ∙ length-put_number s b i v in
    let all : overwritten b w ≡ put_number s b i v = overwritten_all b w long ∙ e in
    (ap length all ∙ length-put_number s b i v, ap (drop n) all ∙ behind_write s b n i v fits)

pub paged_written : (s : Size) (b w : List ℕ) (start len n i v : ℕ) → n ≤ len → i + size_len s ≤ n → w ≡ put_number s b (start + i) v → take n (take len (drop start w)) ≡ put_number s (take n (take len (drop start b))) i v
paged_written s b w start len n i v short fits e =
    ap (λ (t : List ℕ). take n (take len (drop start t))) e ∙ paged_write s b start len n i v short fits
