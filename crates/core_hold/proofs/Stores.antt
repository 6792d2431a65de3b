-- A call that stores: the bytes of its file are new, a change of their length lies within the pages that it locks, its span lies within
-- the pages of the new bytes, these fit, and a page that is cut in part is in the span.
use Rattle.std.proofs.Common.{◌≡◌, ℕ, ◌+◌, ◌-◌, ◌<◌, ◌≤◌, Bool, true, false, List, ◌++◌, length, take, drop, Option, Some, None, refl, sym, ap, ◌∙◌, subst, arith}
use Rattle.std.specs.Prelude.{◌==◌, ◌/◌, ◌%◌, ◌*◌, ◌^◌, ◌&&◌, not, nat_lt, min, replicate, if◌then◌else◌, Ok}
use Rattle.std.proofs.lemmas.Bool.Decides.{nat_tests}
use Rattle.std.proofs.lemmas.List.{length-append, length-take, length-drop, length-replicate}
use Rattle.page_base.specs.Bytes.{Pages, Cut, Put}
use Rattle.sbpf_insn.specs.Machine as machine
use Rattle.core_quick.specs.Call.{Call}
use Rattle.core_quick.specs.Call.TheVariants.{Read, Write, Append, Trunc, Readl, Writel}
use Rattle.core_quick.specs.Reply.{Reply}
use Rattle.core_quick.specs.Reply.TheVariants.{Done, At, Val, NoSpace, TooLong, NoFile, NoFn, AppendOnly, TooBig}
use Rattle.core_quick.specs.Steps.{◌>>=◌, refuse}
use Rattle.core_quick.specs.Plain.{State, bytes_in, code_in, is_overfull, with_content, stored, with_length, ended, is_too_long, lacks_file, lacks_function, is_append_only, end_of, early, effect, or_refusal, answer_after, answer}
use Rattle.core_quick.specs.State.{Shared, Exclusive, Reach}
use Rattle.core_quick.specs.Reach.{is_exclusive, file_word, no_reach, read_reach, write_reach, trunc_reach, reach_of}
use Rattle.core_quick.specs.PlainOf.{has_stored}
use Rattle.core_hold.proofs.Reaches.{Stretches}
use Rattle.core_hold.proofs.Outputs.{EndsAsLong, run_long}
use Rattle.core_hold.proofs.Rests.{RestStays, write_rest, trunc_rest}

-- ---- lengths

pub record LongAs (old end new : ℕ) : Type 0 where
  pub within : end ≤ old → new ≡ old
  pub past : old ≤ end → new ≡ end

zeros : (n : ℕ) → length (replicate {A = ℕ} n 0) ≡ n
zeros n = length-replicate {A = ℕ} n 0

put_length : (file bytes : List ℕ) (off : ℕ) → 0 < length bytes → LongAs (length file) (off + length bytes) (length (Put file off bytes))
put_length file bytes off l = go (length bytes == 0) refl
  where
    sum : length (take off file ++ replicate (off - length file) 0 ++ bytes ++ drop (off + length bytes) file) ≡ min off (length file) + ((off - length file) + (length bytes + (length file - (off + length bytes))))
    sum =
        let a = length-append (take off file ++ replicate (off - length file) 0 ++ bytes) (drop (off + length bytes) file) in
        let b = length-append (take off file ++ replicate (off - length file) 0) bytes in
        let c = length-append (take off file) (replicate (off - length file) 0) in
        let d = length-take off file in
        let e = zeros (off - length file) in
        let f = length-drop (off + length bytes) file in
        omega arith

    go : (t : Bool) → (length bytes == 0) ≡ t → LongAs (length file) (off + length bytes) (length (if t then file else take off file ++ replicate (off - length file) 0 ++ bytes ++ drop (off + length bytes) file))
    go true e = let z : length bytes ≡ 0 = grind (arith, nat_tests) in absurd (omega arith)
    go false e = let s = sum in record { within = λ k. omega arith; past = λ k. omega arith }

pub with_length_is : (bytes : List ℕ) (n : ℕ) → length (with_length bytes n) ≡ n
with_length_is bytes n =
    let a = length-append (take n bytes) (replicate (n - length bytes) 0) in
    let b = length-take n bytes in
    let c = zeros (n - length bytes) in
    omega arith

-- ---- the end of the bytes is within the limit

last_test : (a b c d e : Bool) → (if a then Some TooLong else if b then Some NoFile else if c then Some NoFn else if d then Some AppendOnly else if e then Some TooBig else None) ≡ None → e ≡ false
last_test true b c d e h = absurd (cc)
last_test false true c d e h = absurd (cc)
last_test false false true d e h = absurd (cc)
last_test false false false true e h = absurd (cc)
last_test false false false false true h = absurd (cc)
last_test false false false false false h = refl

not_more : (n : ℕ) → nat_lt 268435456 n ≡ false → n ≤ 268435456
not_more n e = grind (arith, nat_tests)

pub end_fits : (s : State) (call : Call) → early s call ≡ None → end_of s call ≤ 268435456
end_fits s call e = not_more (end_of s call) (last_test (is_too_long call) (lacks_file s call) (lacks_function s call) (is_append_only s call) (nat_lt (2 ^ 28) (end_of s call)) e)

-- ---- reaches that store

-- the span lies within the pages of the new bytes, of which there are few, and has the page that is cut in part
pub record Spans (reach : Reach) (len new : ℕ) : Type 0 where
  pub within : (i : ℕ) → i < reach.pages → reach.first + i < Pages new
  pub cut : (p j : ℕ) → j < 4096 → new < len → p < Pages new → new ≤ 4096 * p + j → (reach.first ≤ p) × (p < reach.first + reach.pages)

write_stretches : (off n len new : ℕ) → is_exclusive (write_reach off n len).mode ≡ true → off + n ≤ 268435456 → (0 < n → LongAs len (off + n) new) → Stretches (write_reach off n len) len new
write_stretches off n len new m fits long = go (n == 0) (nat_lt len (off + n)) refl refl m
  where
    r : Bool → Bool → Reach
    r z u = if z then no_reach else record { mode = Exclusive; from = if u then min (off / 4096) (len / 4096) else off / 4096; to = Pages (off + n); first = off / 4096; pages = Pages (off + n) - off / 4096; begin = off; end = off + n }

    go : (z u : Bool) → (n == 0) ≡ z → nat_lt len (off + n) ≡ u → is_exclusive (r z u).mode ≡ true → Stretches (r z u) len new
    go true u e f k = absurd (cc)
    go false true e f k =
        let pos : 0 < n = grind (arith, nat_tests) in
        let more : len < off + n = grind (arith, nat_tests) in
        let is : new ≡ off + n = (long pos).past (omega arith) in
        record { grows = λ l. (omega arith, omega arith, omega arith); cuts = λ l. absurd (omega arith) }
    go false false e f k =
        let pos : 0 < n = grind (arith, nat_tests) in
        let less : off + n ≤ len = grind (arith, nat_tests) in
        let is : new ≡ len = (long pos).within less in
        record { grows = λ l. absurd (omega arith); cuts = λ l. absurd (omega arith) }

trunc_stretches : (n len : ℕ) → n ≤ 268435456 → Stretches (trunc_reach n len) len n
trunc_stretches n len fits = record { grows = λ l. (omega arith, omega arith, omega arith); cuts = λ l. (omega arith, omega arith) }

write_spans : (off n len new : ℕ) → is_exclusive (write_reach off n len).mode ≡ true → (0 < n → LongAs len (off + n) new) → Spans (write_reach off n len) len new
write_spans off n len new m long = go (n == 0) (nat_lt len (off + n)) refl refl m
  where
    r : Bool → Bool → Reach
    r z u = if z then no_reach else record { mode = Exclusive; from = if u then min (off / 4096) (len / 4096) else off / 4096; to = Pages (off + n); first = off / 4096; pages = Pages (off + n) - off / 4096; begin = off; end = off + n }

    go : (z u : Bool) → (n == 0) ≡ z → nat_lt len (off + n) ≡ u → is_exclusive (r z u).mode ≡ true → Spans (r z u) len new
    go true u e f k = absurd (cc)
    go false true e f k =
        let pos : 0 < n = grind (arith, nat_tests) in
        let more : len < off + n = grind (arith, nat_tests) in
        let is : new ≡ off + n = (long pos).past (omega arith) in
        record { within = λ i l. omega arith; cut = λ p j a b. absurd (omega arith) }
    go false false e f k =
        let pos : 0 < n = grind (arith, nat_tests) in
        let less : off + n ≤ len = grind (arith, nat_tests) in
        let is : new ≡ len = (long pos).within less in
        record { within = λ i l. omega arith; cut = λ p j a b. absurd (omega arith) }

trunc_spans : (n len : ℕ) → Spans (trunc_reach n len) len n
trunc_spans n len = go (nat_lt n len) (n % 4096 == 0) refl refl
  where
    r : Bool → Bool → Reach
    r t u = record { mode = Exclusive; from = min n len / 4096; to = 65537; first = n / 4096; pages = if t && not u then 1 else 0; begin = n; end = n }

    go : (t u : Bool) → nat_lt n len ≡ t → (n % 4096 == 0) ≡ u → Spans (r t u) len n
    go true true e f = let z : n % 4096 ≡ 0 = grind (arith, nat_tests) in record { within = λ i l. absurd (omega arith); cut = λ p j a b c d. absurd (omega arith) }
    go true false e f = let z : 0 < n % 4096 = grind (arith, nat_tests) in record { within = λ i l. omega arith; cut = λ p j a b c d. (omega arith, omega arith) }
    go false u e f = let z : len ≤ n = grind (arith, nat_tests) in record { within = λ i l. absurd (omega arith); cut = λ p j a b. absurd (omega arith) }

-- ---- answers

-- the file of the call has these new bytes
pub record IsStored (s s2 : State) (call : Call) (len : ℕ) : Type 0 where
  pub name : List ℕ
  pub new : List ℕ
  pub word : file_word call ≡ Some name
  pub state : s2 ≡ with_content s name new
  pub stretches : Stretches (reach_of call len) len (length new)
  pub fits : is_overfull (with_content s name new) ≡ false
  pub spans : Spans (reach_of call len) len (length new)
  pub rest : RestStays (reach_of call len) (bytes_in s name) new

stored_is : (s : State) (name new : List ℕ) (reply : Reply) → has_stored (or_refusal s (stored s name new reply)).reply ≡ true → (or_refusal s (stored s name new reply)).state ≡ with_content s name new
stored_is s name new reply = go (is_overfull (with_content s name new))
  where
    go : (t : Bool) → has_stored (or_refusal s (refuse t NoSpace >>= (λ x. Ok (record { reply = reply; state = with_content s name new })))).reply ≡ true →
        (or_refusal s (refuse t NoSpace >>= (λ x. Ok (record { reply = reply; state = with_content s name new })))).state ≡ with_content s name new
    go true e = absurd (cc)
    go false e = refl

stored_fits : (s : State) (name new : List ℕ) (reply : Reply) → has_stored (or_refusal s (stored s name new reply)).reply ≡ true → is_overfull (with_content s name new) ≡ false
stored_fits s name new reply = go (is_overfull (with_content s name new))
  where
    go : (t : Bool) → has_stored (or_refusal s (refuse t NoSpace >>= (λ x. Ok (record { reply = reply; state = with_content s name new })))).reply ≡ true → t ≡ false
    go true e = absurd (cc)
    go false e = refl

writel_stored : (s : State) (name : List ℕ) (off n : ℕ) (call : Call) (outcome : machine.Outcome) → file_word call ≡ Some name → reach_of call (length (bytes_in s name)) ≡ write_reach off n (length (bytes_in s name)) →
    is_exclusive (write_reach off n (length (bytes_in s name))).mode ≡ true → off + n ≤ 268435456 → EndsAsLong n outcome →
    has_stored (or_refusal s (ended outcome >>= (λ end. stored s name (Put (bytes_in s name) off end.output) (Val end.r0)))).reply ≡ true →
    IsStored s (or_refusal s (ended outcome >>= (λ end. stored s name (Put (bytes_in s name) off end.output) (Val end.r0)))).state call (length (bytes_in s name))
writel_stored s name off n call (machine.Ended r0 output used) word reach m fits long e = record {
  name = name;
  new = Put (bytes_in s name) off output;
  word = word;
  state = stored_is s name (Put (bytes_in s name) off output) (Val r0) e;
  stretches = stretches;
  fits = stored_fits s name (Put (bytes_in s name) off output) (Val r0) e;
  spans = subst (λ (r : Reach). Spans r (length (bytes_in s name)) (length (Put (bytes_in s name) off output))) (sym reach)
      (write_spans off n (length (bytes_in s name)) (length (Put (bytes_in s name) off output)) m longer);
  rest = subst (λ (r : Reach). RestStays r (bytes_in s name) (Put (bytes_in s name) off output)) (sym reach) (write_rest off n (length (bytes_in s name)) (bytes_in s name) output long);
}
  where
    longer : 0 < n → LongAs (length (bytes_in s name)) (off + n) (length (Put (bytes_in s name) off output))
    longer l = subst (λ (k : ℕ). LongAs (length (bytes_in s name)) (off + k) (length (Put (bytes_in s name) off output))) long
        (put_length (bytes_in s name) output off (subst (λ (k : ℕ). 0 < k) (sym long) l))

    stretches : Stretches (reach_of call (length (bytes_in s name))) (length (bytes_in s name)) (length (Put (bytes_in s name) off output))
    stretches = subst (λ (r : Reach). Stretches r (length (bytes_in s name)) (length (Put (bytes_in s name) off output))) (sym reach)
        (write_stretches off n (length (bytes_in s name)) (length (Put (bytes_in s name) off output)) m fits longer)
writel_stored s name off n call (machine.AccessTrap a k slot used) word reach m fits long e = absurd (cc)
writel_stored s name off n call (machine.DepthTrap slot used) word reach m fits long e = absurd (cc)
writel_stored s name off n call machine.Spent word reach m fits long e = absurd (cc)

no_store : {P : Type 0} → false ≡ true → P
no_store e = absurd (cc)

read_none : {P : Type 0} (off n len : ℕ) → is_exclusive (read_reach off n len).mode ≡ true → P
read_none {P} off n len m = go (n == 0) m
  where
    go : (z : Bool) → is_exclusive (if z then no_reach else record { mode = Shared; from = off / 4096; to = min (Pages (off + n)) 65537; first = off / 4096; pages = min (Pages (off + n)) (Pages len) - off / 4096; begin = off; end = off + n }).mode ≡ true → P
    go true e = absurd (cc)
    go false e = absurd (cc)

effect_stored : (s : State) (call : Call) (name : List ℕ) → file_word call ≡ Some name → is_exclusive (reach_of call (length (bytes_in s name))).mode ≡ true → end_of s call ≤ 268435456 → has_stored (or_refusal s (effect s call)).reply ≡ true →
    IsStored s (or_refusal s (effect s call)).state call (length (bytes_in s name))
effect_stored s (Write file off bytes) name w m fits e =
    let same : file ≡ name = cc in
    subst (λ (n : List ℕ). IsStored s (or_refusal s (effect s (Write file off bytes))).state (Write file off bytes) (length (bytes_in s n))) same
    (record {
      name = file;
      new = Put (bytes_in s file) off bytes;
      word = refl;
      state = stored_is s file (Put (bytes_in s file) off bytes) Done e;
      stretches = write_stretches off (length bytes) (length (bytes_in s file)) (length (Put (bytes_in s file) off bytes)) (ap (λ (n : List ℕ). is_exclusive (write_reach off (length bytes) (length (bytes_in s n))).mode) same ∙ m) fits (λ l. put_length (bytes_in s file) bytes off l);
      fits = stored_fits s file (Put (bytes_in s file) off bytes) Done e;
      spans = write_spans off (length bytes) (length (bytes_in s file)) (length (Put (bytes_in s file) off bytes)) (ap (λ (n : List ℕ). is_exclusive (write_reach off (length bytes) (length (bytes_in s n))).mode) same ∙ m) (λ l. put_length (bytes_in s file) bytes off l);
      rest = write_rest off (length bytes) (length (bytes_in s file)) (bytes_in s file) bytes refl;
    })
effect_stored s (Append file bytes) name w m fits e =
    let same : file ≡ name = cc in
    let len = length (bytes_in s file) in
    subst (λ (n : List ℕ). IsStored s (or_refusal s (effect s (Append file bytes))).state (Append file bytes) (length (bytes_in s n))) same
    (record {
      name = file;
      new = Put (bytes_in s file) len bytes;
      word = refl;
      state = stored_is s file (Put (bytes_in s file) len bytes) (At len) e;
      stretches = write_stretches len (length bytes) len (length (Put (bytes_in s file) len bytes)) (ap (λ (n : List ℕ). is_exclusive (write_reach (length (bytes_in s n)) (length bytes) (length (bytes_in s n))).mode) same ∙ m) fits (λ l. put_length (bytes_in s file) bytes len l);
      fits = stored_fits s file (Put (bytes_in s file) len bytes) (At len) e;
      spans = write_spans len (length bytes) len (length (Put (bytes_in s file) len bytes)) (ap (λ (n : List ℕ). is_exclusive (write_reach (length (bytes_in s n)) (length bytes) (length (bytes_in s n))).mode) same ∙ m) (λ l. put_length (bytes_in s file) bytes len l);
      rest = write_rest len (length bytes) len (bytes_in s file) bytes refl;
    })
effect_stored s (Trunc file n) name w m fits e =
    let same : file ≡ name = cc in
    subst (λ (k : List ℕ). IsStored s (or_refusal s (effect s (Trunc file n))).state (Trunc file n) (length (bytes_in s k))) same
    (record {
      name = file;
      new = with_length (bytes_in s file) n;
      word = refl;
      state = stored_is s file (with_length (bytes_in s file) n) Done e;
      stretches = subst (λ (k : ℕ). Stretches (trunc_reach n (length (bytes_in s file))) (length (bytes_in s file)) k) (sym (with_length_is (bytes_in s file) n)) (trunc_stretches n (length (bytes_in s file)) fits);
      fits = stored_fits s file (with_length (bytes_in s file) n) Done e;
      spans = subst (λ (k : ℕ). Spans (trunc_reach n (length (bytes_in s file))) (length (bytes_in s file)) k) (sym (with_length_is (bytes_in s file) n)) (trunc_spans n (length (bytes_in s file)));
      rest = trunc_rest n (length (bytes_in s file)) (bytes_in s file) (with_length_is (bytes_in s file) n);
    })
effect_stored s (Writel file off n function fuel param input) name w m fits e =
    let same : file ≡ name = cc in
    let call = Writel file off n function fuel param input in
    subst (λ (k : List ℕ). IsStored s (or_refusal s (effect s call)).state call (length (bytes_in s k))) same
    (writel_stored s file off n call (machine.run (code_in s function) (machine.shaped input (with_length (Cut (bytes_in s file) off n) n) param) fuel) refl refl
    (ap (λ (k : List ℕ). is_exclusive (write_reach off n (length (bytes_in s k))).mode) same ∙ m) fits
    (subst (λ (k : ℕ). EndsAsLong k (machine.run (code_in s function) (machine.shaped input (with_length (Cut (bytes_in s file) off n) n) param) fuel)) (with_length_is (Cut (bytes_in s file) off n) n)
    (run_long (code_in s function) (machine.shaped input (with_length (Cut (bytes_in s file) off n) n) param) fuel)) e)
effect_stored s (Read file off n) name w m fits e = read_none off n (length (bytes_in s name)) m
effect_stored s (Readl file off n function fuel cap param) name w m fits e = read_none off n (length (bytes_in s name)) m
effect_stored s call name w m fits e = no_store m

pub answer_stored : (s : State) (call : Call) (name : List ℕ) → early s call ≡ None → file_word call ≡ Some name → is_exclusive (reach_of call (length (bytes_in s name))).mode ≡ true → has_stored (answer s call).reply ≡ true →
    IsStored s (answer s call).state call (length (bytes_in s name))
answer_stored s call name none w m e = go (early s call) none e
  where
    go : (o : Option Reply) → o ≡ None → has_stored (answer_after o s call).reply ≡ true → IsStored s (answer_after o s call).state call (length (bytes_in s name))
    go None f k = effect_stored s call name w m (end_fits s call none) k
    go (Some r) f k = absurd (cc)
