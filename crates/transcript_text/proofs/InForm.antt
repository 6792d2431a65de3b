-- What is read of a transcript are entries that can be read.
use Rattle.std.proofs.Common.{◌≡◌, ℕ, ◌+◌, ◌-◌, ◌<◌, ◌≤◌, ◌^◌, List, [], ◌∷◌, ◌++◌, length, Bool, true, false, refl, ap, Some, None, Ok, Result, arith, subst}
use Rattle.std.specs.Prelude.{Option, ◌&&◌, nat_le, nat_lt, is_some, option_and_then, if◌then◌else◌}
use Rattle.std.specs.List.{AllByRecursion}
use Rattle.std.specs.Option.{option_map}
use Rattle.std.proofs.lemmas.Bool.Decides.{nat_tests}
use Rattle.std.proofs.lemmas.List.{length-append}
use Rattle.hex.specs.Hex.{IsBytes}
use Rattle.plain_files.specs.declared.calls.Reply.{Reply}
use Rattle.plain_files.specs.declared.calls.Reply.TheVariants as reply
use Rattle.sbpf_text.specs.Numbers.{decimal_number, in_64_bits, value_of}
use Rattle.script_words.specs.declared.script.Lane.{Lane}
use Rattle.script_words.specs.Words.{within, number_in, hex_of}
use Rattle.script_words.specs.Lanes.{place_of, has_lane, lane_part, number_part}
use Rattle.transcript_text.specs.Transcripts.{◌>>=◌, Entry, only_if, number_32, number_64, lower_number, address_of, reply_bytes, kind_of, reply_word, reply_value, trap_value, bad_code, reply_pair, trap_access, reply_of, is_number, call_at, request_at, is_allowed_at, entry_parts, parts, is_places, at_end, or_refused, read_entries, text_lines, read_transcript}
use Rattle.transcript_text.specs.Again.{IsReply, IsEntry, AreEntries}
use Rattle.transcript_text.proofs.DecodedBytes.{none_are_bytes, hex_of-bytes}

-- ---- steps that may find nothing

some_same : {A : Type 0} → (x y : A) (o : Option A) → o ≡ Some x → o ≡ Some y → x ≡ y
some_same x y o p q = cc

-- what a choice gives
if_opt : {A : Type 0} (P : A → Type 0) (t : Bool) (o rest : Option A) (x : A) → (o ≡ Some x → P x) → (rest ≡ Some x → P x) → (if t then o else rest) ≡ Some x → P x
if_opt P true o rest x k l h = k h
if_opt P false o rest x k l h = l h

no_more : {A : Type 0} (P : A → Type 0) (x : A) → None ≡ Some x → P x
no_more P x h = absurd cc

-- what a step leads to
then_some : {A B : Type 0} (o : Option A) (f : A → Option B) (x : B) → (o >>= f) ≡ Some x → (y : A) × (o ≡ Some y) × (f y ≡ Some x)
then_some None f x h = absurd cc
then_some (Some y) f x h = (y, refl, h)

mapped : {A : Type 0} (f : A → Reply) (o : Option A) (r : Reply) → ((x : A) → o ≡ Some x → IsReply (f x)) → option_map f o ≡ Some r → IsReply r
mapped f None r k h = absurd cc
mapped f (Some x) r k h = let same = some_same (f x) r _ refl h in subst (λ (q : Reply). IsReply q) same (k x refl)

given : (x r : Reply) → IsReply x → Some x ≡ Some r → IsReply r
given x r h is = let same = some_same x r _ refl is in subst (λ (q : Reply). IsReply q) same h

passed : (t : Bool) (u : Unit {0}) → only_if t ≡ Some u → t ≡ true
passed true u h = refl
passed false u h = absurd cc

-- ---- numbers

within_bounds : (low high m n : ℕ) (t : Bool) → (nat_le low m && nat_le m high) ≡ t → (if t then Some m else None) ≡ Some n → (low ≤ n) × (n ≤ high)
within_bounds low high m n true is h = let same = some_same m n _ refl h in (grind (arith, nat_tests), grind (arith, nat_tests))
within_bounds low high m n false is h = absurd cc

bounds : (low high : ℕ) (o : Option ℕ) (n : ℕ) → option_and_then (within low high) o ≡ Some n → (low ≤ n) × (n ≤ high)
bounds low high None n h = absurd cc
bounds low high (Some m) n h = within_bounds low high m n (nat_le low m && nat_le m high) refl h

small_32 : (word : List ℕ) (n : ℕ) → number_32 word ≡ Some n → n < 2 ^ 32
small_32 word n h = let b = bounds 0 (2 ^ 32 - 1) (decimal_number word) n h in omega (arith, b.1)

small_64 : (word : List ℕ) (n : ℕ) → number_64 word ≡ Some n → n < 2 ^ 64
small_64 word n h = let b = bounds 0 (2 ^ 64 - 1) (decimal_number word) n h in omega (arith, b.1)

in_64 : (m n : ℕ) (t : Bool) → nat_lt m (2 ^ 64) ≡ t → (if t then Some m else None) ≡ Some n → n < 2 ^ 64
in_64 m n true is h = let same = some_same m n _ refl h in grind (arith, nat_tests)
in_64 m n false is h = absurd cc

in_64_bits-small : (m n : ℕ) → in_64_bits m ≡ Some n → n < 2 ^ 64
in_64_bits-small m n h = in_64 m n (nat_lt m (2 ^ 64)) refl h

small_lower : (digits : List ℕ) (n : ℕ) → lower_number digits ≡ Some n → n < 2 ^ 64
small_lower [] n h = absurd cc
small_lower (b ∷ bs) n h = if_opt (λ x. x < 2 ^ 64) _ (in_64_bits (value_of 16 (b ∷ bs))) None n (in_64_bits-small (value_of 16 (b ∷ bs)) n) (no_more (λ x. x < 2 ^ 64) n) h

small_address : (word : List ℕ) (n : ℕ) → address_of word ≡ Some n → n < 2 ^ 64
small_address [] n h = absurd cc
small_address (a ∷ []) n h = absurd cc
small_address (a ∷ b ∷ digits) n h = if_opt (λ x. x < 2 ^ 64) _ (lower_number digits) None n (small_lower digits n) (no_more (λ x. x < 2 ^ 64) n) h

are_bytes : (word bs : List ℕ) → reply_bytes word ≡ Some bs → IsBytes bs
are_bytes [] bs h = absurd cc
are_bytes (b ∷ rest) bs h =
    if_opt (λ (x : List ℕ). IsBytes x) _ (Some []) _ bs (λ is. let same = some_same [] bs _ refl is in subst (λ (x : List ℕ). IsBytes x) same none_are_bytes)
    (if_opt (λ (x : List ℕ). IsBytes x) _ (hex_of (b ∷ rest)) None bs (hex_of-bytes (b ∷ rest) bs) (no_more (λ (x : List ℕ). IsBytes x) bs)) h

-- ---- replies

abbrev or_else : (r : Reply) (t : Bool) (x : Reply) (rest : Option Reply) → IsReply x → (rest ≡ Some r → IsReply r) → (if t then Some x else rest) ≡ Some r → IsReply r
or_else r t x rest h k is = if_opt (λ (q : Reply). IsReply q) t (Some x) rest r (given x r h) k is

word_in_form : (word : List ℕ) (r : Reply) → reply_word word ≡ Some r → IsReply r
word_in_form word r h =
    or_else r _ reply.Done _ tt (or_else r _ reply.Spent _ tt (or_else r _ reply.BadName _ tt (or_else r _ reply.Exists _ tt
    (or_else r _ reply.Full _ tt (or_else r _ reply.NoFile _ tt (or_else r _ reply.NoFn _ tt (or_else r _ reply.TooLong _ tt
    (or_else r _ reply.AppendOnly _ tt (or_else r _ reply.TooBig _ tt (or_else r _ reply.NoSpace _ tt (or_else r _ reply.FnFull _ tt
    (or_else r _ reply.Fault _ tt (or_else r _ reply.NoMemory _ tt (no_more (λ (q : Reply). IsReply q) r)))))))))))))) h

abbrev or_next : (r : Reply) (t : Bool) (o rest : Option Reply) → (o ≡ Some r → IsReply r) → (rest ≡ Some r → IsReply r) → (if t then o else rest) ≡ Some r → IsReply r
or_next r t o rest k l h = if_opt (λ (q : Reply). IsReply q) t o rest r k l h

none_left : (r : Reply) → None ≡ Some r → IsReply r
none_left r h = absurd cc

value_in_form : (word value : List ℕ) (r : Reply) → reply_value word value ≡ Some r → IsReply r
unfolding reply_value
value_in_form word value r h =
    or_next r _ _ _ (mapped (λ id. reply.Id id) (number_32 value) r (small_32 value))
    (or_next r _ _ _ (mapped (λ len. reply.Len len) (number_64 value) r (small_64 value))
    (or_next r _ _ _ (mapped (λ r0. reply.Val r0) (number_64 value) r (small_64 value))
    (or_next r _ _ _ (mapped (λ off. reply.At off) (number_64 value) r (small_64 value))
    (or_next r _ _ _ (mapped (λ bytes. reply.DataBytes bytes) (reply_bytes value) r (are_bytes value))
    (or_next r _ _ _ (mapped (λ bytes. reply.Res bytes) (reply_bytes value) r (are_bytes value)) (none_left r)))))) h

trap_in_form : (word value : List ℕ) (r : Reply) → trap_value word value ≡ Some r → IsReply r
unfolding trap_value
trap_in_form word value r h =
    or_next r _ _ _ (mapped (λ slot. reply.TrapDepth slot) (number_32 value) r (small_32 value))
    (or_next r _ _ _ (mapped (λ r0. reply.TrapOutLen r0) (number_64 value) r (small_64 value)) (none_left r)) h

code_in_form : (kind slot : List ℕ) (r : Reply) → bad_code kind slot ≡ Some r → IsReply r
unfolding bad_code
code_in_form kind slot r h =
    let k = then_some (kind_of kind) _ r h in
    let s = then_some (number_32 slot) _ r k.2 in
    given (reply.BadCode k.0 s.0) r (small_32 slot s.0 s.1) s.2

pair_in_form : (word first second : List ℕ) (r : Reply) → reply_pair word first second ≡ Some r → IsReply r
unfolding reply_pair
pair_in_form word first second r h = or_next r _ _ _ (trap_in_form first second r) (or_next r _ _ _ (code_in_form first second r) (none_left r)) h

access_in_form : (address size slot : List ℕ) (r : Reply) → trap_access address size slot ≡ Some r → IsReply r
unfolding trap_access
access_in_form address size slot r h =
    let a = then_some (address_of address) _ r h in
    let n = then_some (number_32 size) _ r a.2 in
    let s = then_some (number_32 slot) _ r n.2 in
    given (reply.TrapAccess a.0 n.0 s.0) r (small_address address a.0 a.1, small_32 size n.0 n.1, small_32 slot s.0 s.1) s.2

reply_in_form : (words : List (List ℕ)) (r : Reply) → reply_of words ≡ Some r → IsReply r
unfolding reply_of
reply_in_form [] r h = absurd cc
reply_in_form (a ∷ []) r h = word_in_form a r h
reply_in_form (a ∷ b ∷ []) r h = value_in_form a b r h
reply_in_form (a ∷ b ∷ c ∷ []) r h = pair_in_form a b c r h
reply_in_form (a ∷ b ∷ c ∷ d ∷ []) r h = absurd cc
reply_in_form (a ∷ b ∷ c ∷ d ∷ e ∷ []) r h = or_next r _ _ _ (access_in_form c d e r) (none_left r) h
reply_in_form (a ∷ b ∷ c ∷ d ∷ e ∷ f ∷ rest) r h = absurd cc

-- ---- lines

-- an entry that was read on line n
record IsRead (lanes : List Lane) (n : ℕ) (e : Entry) : Type 0 where
  entry : IsEntry lanes e
  small : n < 2 ^ 64

decimal_small : (digits : List ℕ) (n : ℕ) → decimal_number digits ≡ Some n → n < 2 ^ 64
decimal_small digits n h = if_opt (λ x. x < 2 ^ 64) _ (in_64_bits (value_of 10 digits)) None n (in_64_bits-small (value_of 10 digits) n) (no_more (λ x. x < 2 ^ 64) n) h

number_small : (n : ℕ) (digits : List ℕ) (d : Option ℕ) → decimal_number digits ≡ d → is_some (option_and_then (within n n) d) ≡ true → n < 2 ^ 64
number_small n digits None is t = absurd cc
number_small n digits (Some v) is t =
    let test : (nat_le n v && nat_le v n) ≡ true = grind (arith, nat_tests) in
    let same : v ≡ n = grind (arith, nat_tests, test) in
    let small = decimal_small digits v is in
    omega (arith, same, small)

numbered_small : (n : ℕ) (word : List ℕ) → is_number n word ≡ true → n < 2 ^ 64
numbered_small n [] h = absurd cc
numbered_small n (hash ∷ digits) h = number_small n digits (decimal_number digits) refl (let t : is_some (number_in n n digits) ≡ true = grind arith in t)

call_in_form : (lanes : List Lane) (word : List ℕ) (place : ℕ × ℕ) → call_at lanes word ≡ Some place → (place.0 < length lanes) × (1 ≤ place.1) × (place.1 < 2 ^ 32)
unfolding call_at
call_in_form lanes word place h =
    let there = then_some (only_if (has_lane (lane_part word) lanes)) _ place h in
    let k = then_some (number_in 1 (2 ^ 32 - 1) (number_part word)) _ place there.2 in
    let has : has_lane (lane_part word) lanes ≡ true = passed _ there.0 there.1 in
    let b = bounds 1 (2 ^ 32 - 1) (decimal_number (number_part word)) k.0 k.1 in
    let within : (place_of (lane_part word) 0 lanes).0 < length lanes = grind (arith, nat_tests, has) in
    let same = some_same ((place_of (lane_part word) 0 lanes).0, k.0) place _ refl k.2 in
    let front = ap (λ (p : ℕ × ℕ). p.0) same in
    let back = ap (λ (p : ℕ × ℕ). p.1) same in
    (omega (arith, within, front), omega (arith, b.0, back), omega (arith, b.1, back))

entry_in_form : (lanes : List Lane) (n : ℕ) (words : List (List ℕ)) (e : Entry) → entry_parts lanes n words ≡ Some e → IsRead lanes n e
unfolding entry_parts
entry_in_form lanes n [] e h = absurd cc
entry_in_form lanes n (number ∷ []) e h = absurd cc
entry_in_form lanes n (number ∷ call ∷ words) e h =
    let counted = then_some (only_if (is_number n number)) _ e h in
    let place = then_some (call_at lanes call) _ e counted.2 in
    let r = then_some (reply_of words) _ e place.2 in
    let allowed = then_some (only_if (is_allowed_at (request_at lanes place.0.0 place.0.1) r.0)) _ e r.2 in
    let same : (place.0.0, place.0.1, r.0) ≡ e = some_same (let x : Entry = (place.0.0, place.0.1, r.0) in x) e _ refl allowed.2 in
    let formed = call_in_form lanes call place.0 place.1 in
    let entry : IsEntry lanes (place.0.0, place.0.1, r.0) = record {
      lane = formed.0;
      from_one = formed.1;
      number = formed.2;
      reply = reply_in_form words r.0 r.1;
      allowed = passed _ allowed.0 allowed.1;
    } in
    record {
      entry = subst (λ (x : Entry). IsEntry lanes x) same entry;
      small = numbered_small n number (passed _ counted.0 counted.1);
    }

-- ---- all lines

ok_same : (x y : List Entry) (r : Result (List Entry) ℕ) → r ≡ Ok x → r ≡ Ok y → x ≡ y
ok_same x y r p q = cc

all_push : (lanes : List Lane) (es : List Entry) (e : Entry) → AllByRecursion (IsEntry lanes) es → IsEntry lanes e → AllByRecursion (IsEntry lanes) (es ++ e ∷ [])
all_push lanes [] e all one = (one, tt)
all_push lanes (x ∷ es) e all one = (all.0, all_push lanes es e all.1 one)

-- entries that were read ahead of line n
record AreRead (lanes : List Lane) (n : ℕ) (es : List Entry) : Type 0 where
  each : AllByRecursion (IsEntry lanes) es
  count : length es + 1 ≡ n
  small : length es < 2 ^ 64

next_read : (lanes : List Lane) (n : ℕ) (es : List Entry) (e : Entry) → AreRead lanes n es → IsRead lanes n e → AreRead lanes (n + 1) (es ++ e ∷ [])
next_read lanes n es e are is =
    let more : length (es ++ e ∷ []) ≡ length es + 1 = length-append es (e ∷ []) in
    record {
      each = all_push lanes es e are.each is.entry;
      count = omega (arith, more, are.count);
      small = omega (arith, more, are.count, is.small);
    }

finished : (lanes : List Lane) (n : ℕ) (es found : List Entry) (rest : List (List ℕ)) → AreRead lanes n es → at_end n es rest ≡ Ok found → AreEntries lanes found
finished lanes n es found [] are h = let same = ok_same es found _ refl h in subst (λ (xs : List Entry). AreEntries lanes xs) same (record { each = are.each; count = are.small })
finished lanes n es found (line ∷ rest) are h = absurd cc

step_read : (lanes : List Lane) (n : ℕ) (es found : List Entry) (o : Option Entry) (next : Entry → Result (List Entry) ℕ) → ((e : Entry) → o ≡ Some e → next e ≡ Ok found → AreEntries lanes found) → or_refused n o next ≡ Ok found → AreEntries lanes found
step_read lanes n es found None next k h = absurd cc
step_read lanes n es found (Some e) next k h = k e refl h

line_read : (lanes : List Lane) (t : Bool) (last next : Result (List Entry) ℕ) (found : List Entry) → (last ≡ Ok found → AreEntries lanes found) → (next ≡ Ok found → AreEntries lanes found) → (if t then last else next) ≡ Ok found → AreEntries lanes found
line_read lanes true last next found k l h = k h
line_read lanes false last next found k l h = l h

lines_read : (lanes : List Lane) (n : ℕ) (es : List Entry) (lines : List (List ℕ)) (found : List Entry) → AreRead lanes n es → read_entries lanes n es lines ≡ Ok found → AreEntries lanes found
lines_read lanes n es [] found are h = absurd cc
lines_read lanes n es (line ∷ rest) found are h =
    line_read lanes (is_places (parts line)) (at_end n es rest) _ found (finished lanes n es found rest are)
    (step_read lanes n es found (entry_parts lanes n (parts line)) _ (λ e is. lines_read lanes (n + 1) (es ++ e ∷ []) rest found (next_read lanes n es e are (entry_in_form lanes n (parts line) e is)))) h

-- what is read are entries that can be read
pub in_form : (lanes : List Lane) (text : List ℕ) (found : List Entry) → read_transcript text lanes ≡ Ok found → AreEntries lanes found
in_form lanes text found h = lines_read lanes 1 [] (text_lines text) found (record { each = tt; count = omega arith; small = omega arith }) h
