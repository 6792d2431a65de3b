-- The bytes of the calls that are read, and the limit on them.
use Rattle.std.proofs.Common.{◌≡◌, ℕ, ◌+◌, ◌≤◌, ◌-◌, ◌^◌, List, [], ◌∷◌, ◌++◌, length, Bool, true, false, not, refl, ap, sym, ◌∙◌, Option, Some, None, Ok, Err, Result, arith, subst}
use Rattle.std.specs.Prelude.{◌&&◌, ◌||◌, nat_lt, codes, bytes_eq, is_some, if◌then◌else◌, IsTrue}
use Rattle.std.specs.List.{list_all, list_any, AllByRecursion}
use Rattle.std.proofs.lemmas.Bool.{cond-true}
use Rattle.std.proofs.lemmas.Bool.Decides.{nat_tests}
use Rattle.std.proofs.lemmas.List.Sums.{sum_by-cons, sum_by_push}
use Rattle.name_table.specs.Name.{is_name}
use Rattle.plain_files.specs.declared.calls.Call.{Call}
use Rattle.plain_files.specs.declared.calls.Call.TheVariants.{Create, OpenFile, Stat, Remove, Read, Write, Append, Trunc, Seal, Load, Unload, Readl, Writel, Sync}
use Rattle.plain_files.specs.declared.calls.Request.{Request}
use Rattle.plain_files.specs.Steps.{◌>>=◌, refuse}
use Rattle.sbpf_text.specs.Lexing.{is_line_byte, ends_with_colon, without_last}
use Rattle.script_words.specs.declared.script.Lane.{Lane}
use Rattle.script_words.specs.declared.script.FaultLine.{FaultLine}
use Rattle.script_words.specs.Words.{words, is_lane, lane_of, bytes_of, code_of, size, bytes_size, code_size}
use Rattle.script_words.specs.Lanes.{place_of}
use Rattle.call_text.specs.declared.faults.ScriptKind.{ScriptKind}
use Rattle.call_text.specs.declared.faults.ScriptKind.TheVariants as kind
use Rattle.call_text.specs.declared.faults.ScriptErr.{ScriptErr}
use Rattle.call_text.specs.declared.verb.Verb.{Verb}
use Rattle.call_text.specs.declared.verb.Verb.TheVariants as verb
use Rattle.call_text.specs.Blocks.{Block, block_of, ends_block, assembled}
use Rattle.call_text.specs.Calls.{verb_of, or_fault, number_at, bytes_at, code_at, block_at, name_at, no_words, one_name, read_of, write_of, append_of, trunc_of, load_digits, load_block, load_of, readl_words, readl_of, writel_words, writel_of, named, call_with, call_of}
use Rattle.call_text.specs.Limits.{write_bytes, append_bytes, load_bytes, readl_bytes, writel_bytes, call_bytes, bytes_behind, lane_bytes, line_bytes}
use Rattle.call_text.specs.Awaits.{awaited, await_of, is_called_later}
use Rattle.call_text.specs.Scripts.{Reading, with_request, with_lane, with_call, with_await, behind_lane, call_line, await_line, lane_line, one_of, number_from, fault_words, fault_line, func_line, body_line, end_line, is_comment, word_line, is_lane_past_limit, is_past_limit, outside_line, at_line, line_in, nothing, read_lines}
use Rattle.call_text.specs.declared.building.Building.{Building}
use Rattle.call_text.specs.Building.{seen, IsKept}
use Rattle.call_text.specs.Order.{IsOrdered, IsWithinLimits, bytes_in, lane_bytes_in, bytes_of_lanes}

-- ---- steps

then_ok : {A B E : Type 0} (r : Result A E) (f : A → Result B E) (x : B) → (r >>= f) ≡ Ok x → (y : A) × (r ≡ Ok y) × (f y ≡ Ok x)
then_ok (Ok y) f x h = (y, refl, h)
then_ok (Err e) f x h = absurd cc

ok_same : {A E : Type 0} (x y : A) (r : Result A E) → r ≡ Ok x → r ≡ Ok y → x ≡ y
ok_same x y r p q = cc

abbrev ok : {A : Type 0} → A → Result A ScriptKind
ok x = Ok x

value_of_fault : {A : Type 0} (fault : ScriptKind) (o : Option A) (x : A) → or_fault fault o ≡ Ok x → o ≡ Some x
value_of_fault fault None x h = absurd cc
value_of_fault fault (Some y) x h = let same = ok_same y x (or_fault fault (Some y)) refl h in ap Some same

choice : {A : Type 0} (P : A → Type 0) (t : Bool) (a b : Result A ScriptKind) (x : A) → (a ≡ Ok x → P x) → (b ≡ Ok x → P x) → (if t then a else b) ≡ Ok x → P x
choice P true a b x k l h = k h
choice P false a b x k l h = l h

-- ---- calls

sized_bytes : (word bs : List ℕ) → bytes_at word ≡ Ok bs → bytes_size word ≡ length bs
unfolding bytes_at bytes_size
sized_bytes word bs h = ap size (value_of_fault kind.Bytes (bytes_of word) bs h)

sized_code : (word bs : List ℕ) → code_at word ≡ Ok bs → code_size word ≡ length bs
unfolding code_at code_size
sized_code word bs h = ap size (value_of_fault kind.Bytes (code_of word) bs h)

sized_block : (blocks : List Block) (name bs : List ℕ) → block_at blocks name ≡ Ok bs → size (block_of name blocks) ≡ length bs
unfolding block_at
sized_block blocks name bs h = ap size (value_of_fault kind.Func (block_of name blocks) bs h)

same_word : (word name : List ℕ) → name_at word ≡ Ok name → word ≡ name
unfolding name_at
same_word word name h = choice (λ n. word ≡ n) _ (Ok word) (Err kind.Name) name (λ is. ok_same word name (Ok word) refl is) (λ no. absurd cc) h

sized : (n m : ℕ) (made call : Call) → n ≡ m → m ≡ bytes_in made → ok made ≡ Ok call → n ≡ bytes_in call
sized n m made call p q is = let same = ok_same made call (ok made) refl is in p ∙ q ∙ ap bytes_in same

write_sized : (args : List (List ℕ)) (call : Call) → write_of args ≡ Ok call → write_bytes args ≡ bytes_in call
unfolding write_of write_bytes
write_sized [] call h = absurd cc
write_sized (a ∷ []) call h = absurd cc
write_sized (a ∷ b ∷ []) call h = absurd cc
write_sized (word ∷ off ∷ text ∷ []) call h =
    let from = then_ok (number_at off) _ call h in
    let bytes = then_ok (bytes_at text) _ call from.2 in
    let name = then_ok (name_at word) _ call bytes.2 in
    sized (bytes_size text) (length bytes.0) (Write name.0 from.0 bytes.0) call (sized_bytes text bytes.0 bytes.1) refl name.2
write_sized (a ∷ b ∷ c ∷ d ∷ rest) call h = absurd cc

append_sized : (args : List (List ℕ)) (call : Call) → append_of args ≡ Ok call → append_bytes args ≡ bytes_in call
unfolding append_of append_bytes
append_sized [] call h = absurd cc
append_sized (a ∷ []) call h = absurd cc
append_sized (word ∷ text ∷ []) call h =
    let bytes = then_ok (bytes_at text) _ call h in
    let name = then_ok (name_at word) _ call bytes.2 in
    sized (bytes_size text) (length bytes.0) (Append name.0 bytes.0) call (sized_bytes text bytes.0 bytes.1) refl name.2
append_sized (a ∷ b ∷ c ∷ rest) call h = absurd cc

digits_sized : (word digits : List ℕ) (call : Call) → load_digits word digits ≡ Ok call → code_size digits ≡ bytes_in call
unfolding load_digits
digits_sized word digits call h =
    let code = then_ok (code_at digits) _ call h in
    let name = then_ok (name_at word) _ call code.2 in
    sized (code_size digits) (length code.0) (Load name.0 code.0) call (sized_code digits code.0 code.1) refl name.2

block_sized : (blocks : List Block) (word block : List ℕ) (call : Call) → load_block blocks word block ≡ Ok call → size (block_of block blocks) ≡ bytes_in call
unfolding load_block
block_sized blocks word block call h =
    let name = then_ok (name_at word) _ call h in
    let called = then_ok (name_at block) _ call name.2 in
    let code = then_ok (block_at blocks called.0) _ call called.2 in
    sized (size (block_of block blocks)) (length code.0) (Load name.0 code.0) call (ap (λ b. size (block_of b blocks)) (same_word block called.0 called.1) ∙ sized_block blocks called.0 code.0 code.1) refl code.2

chosen : (s t : Bool) (a b m n : ℕ) (f g : Result Call ScriptKind) (call : Call) → (f ≡ Ok call → a ≡ bytes_in call) → (g ≡ Ok call → b ≡ bytes_in call) → (if s then f else if t then g else Err kind.Line) ≡ Ok call → (if s then a else if t then b else 0) ≡ bytes_in call
chosen true t a b m n f g call p q h = p h
chosen false true a b m n f g call p q h = q h
chosen false false a b m n f g call p q h = absurd cc

load_sized : (blocks : List Block) (args : List (List ℕ)) (call : Call) → load_of blocks args ≡ Ok call → load_bytes blocks args ≡ bytes_in call
unfolding load_of load_bytes
load_sized blocks [] call h = absurd cc
load_sized blocks (a ∷ []) call h = absurd cc
load_sized blocks (a ∷ b ∷ []) call h = absurd cc
load_sized blocks (word ∷ how ∷ code ∷ []) call h =
    chosen (bytes_eq how (codes "code")) (bytes_eq how (codes "func")) (code_size code) (size (block_of code blocks)) 0 0 (load_digits word code) (load_block blocks word code) call (digits_sized word code call) (block_sized blocks word code call) h
load_sized blocks (a ∷ b ∷ c ∷ d ∷ rest) call h = absurd cc

readl_sized : (args : List (List ℕ)) (call : Call) → readl_of args ≡ Ok call → readl_bytes args ≡ bytes_in call
unfolding readl_of readl_words readl_bytes
readl_sized [] call h = absurd cc
readl_sized (a ∷ []) call h = absurd cc
readl_sized (a ∷ b ∷ []) call h = absurd cc
readl_sized (a ∷ b ∷ c ∷ []) call h = absurd cc
readl_sized (a ∷ b ∷ c ∷ d ∷ []) call h = absurd cc
readl_sized (a ∷ b ∷ c ∷ d ∷ e ∷ []) call h = absurd cc
readl_sized (a ∷ b ∷ c ∷ d ∷ e ∷ f ∷ []) call h = absurd cc
readl_sized (file ∷ off ∷ len ∷ function ∷ fuel ∷ cap ∷ param ∷ []) call h =
    let from = then_ok (number_at off) _ call h in
    let count = then_ok (number_at len) _ call from.2 in
    let units = then_ok (number_at fuel) _ call count.2 in
    let room = then_ok (number_at cap) _ call units.2 in
    let bytes = then_ok (bytes_at param) _ call room.2 in
    let name = then_ok (name_at file) _ call bytes.2 in
    let run = then_ok (name_at function) _ call name.2 in
    sized (bytes_size param) (length bytes.0) (Readl name.0 from.0 count.0 run.0 units.0 room.0 bytes.0) call (sized_bytes param bytes.0 bytes.1) refl run.2
readl_sized (a ∷ b ∷ c ∷ d ∷ e ∷ f ∷ g ∷ i ∷ rest) call h = absurd cc

writel_sized : (args : List (List ℕ)) (call : Call) → writel_of args ≡ Ok call → writel_bytes args ≡ bytes_in call
unfolding writel_of writel_words writel_bytes
writel_sized [] call h = absurd cc
writel_sized (a ∷ []) call h = absurd cc
writel_sized (a ∷ b ∷ []) call h = absurd cc
writel_sized (a ∷ b ∷ c ∷ []) call h = absurd cc
writel_sized (a ∷ b ∷ c ∷ d ∷ []) call h = absurd cc
writel_sized (a ∷ b ∷ c ∷ d ∷ e ∷ []) call h = absurd cc
writel_sized (a ∷ b ∷ c ∷ d ∷ e ∷ f ∷ []) call h = absurd cc
writel_sized (file ∷ off ∷ len ∷ function ∷ fuel ∷ param ∷ input ∷ []) call h =
    let from = then_ok (number_at off) _ call h in
    let count = then_ok (number_at len) _ call from.2 in
    let units = then_ok (number_at fuel) _ call count.2 in
    let bytes = then_ok (bytes_at param) _ call units.2 in
    let given = then_ok (bytes_at input) _ call bytes.2 in
    let name = then_ok (name_at file) _ call given.2 in
    let run = then_ok (name_at function) _ call name.2 in
    let a = sized_bytes param bytes.0 bytes.1 in
    let b = sized_bytes input given.0 given.1 in
    sized (bytes_size param + bytes_size input) (length bytes.0 + length given.0) (Writel name.0 from.0 count.0 run.0 units.0 bytes.0 given.0) call (omega (arith, a, b)) refl run.2
writel_sized (a ∷ b ∷ c ∷ d ∷ e ∷ f ∷ g ∷ i ∷ rest) call h = absurd cc

-- a call that brings no bytes
named_sized : (make : List ℕ → Call) (name : Result (List ℕ) ScriptKind) (call : Call) → ((n : List ℕ) → 0 ≡ bytes_in (make n)) → named make name ≡ Ok call → 0 ≡ bytes_in call
named_sized make name call none h =
    let n = then_ok name _ call h in
    sized 0 0 (make n.0) call refl (none n.0) n.2

read_sized : (args : List (List ℕ)) (call : Call) → read_of args ≡ Ok call → 0 ≡ bytes_in call
unfolding read_of
read_sized [] call h = absurd cc
read_sized (a ∷ []) call h = absurd cc
read_sized (a ∷ b ∷ []) call h = absurd cc
read_sized (word ∷ off ∷ len ∷ []) call h =
    let from = then_ok (number_at off) _ call h in
    let count = then_ok (number_at len) _ call from.2 in
    let name = then_ok (name_at word) _ call count.2 in
    sized 0 0 (Read name.0 from.0 count.0) call refl refl name.2
read_sized (a ∷ b ∷ c ∷ d ∷ rest) call h = absurd cc

trunc_sized : (args : List (List ℕ)) (call : Call) → trunc_of args ≡ Ok call → 0 ≡ bytes_in call
unfolding trunc_of
trunc_sized [] call h = absurd cc
trunc_sized (a ∷ []) call h = absurd cc
trunc_sized (word ∷ len ∷ []) call h =
    let count = then_ok (number_at len) _ call h in
    let name = then_ok (name_at word) _ call count.2 in
    sized 0 0 (Trunc name.0 count.0) call refl refl name.2
trunc_sized (a ∷ b ∷ c ∷ rest) call h = absurd cc

sync_sized : (args : List (List ℕ)) (call : Call) → no_words args ≡ Ok call → 0 ≡ bytes_in call
unfolding no_words
sync_sized [] call h = sized 0 0 Sync call refl refl h
sync_sized (a ∷ rest) call h = absurd cc

with_sized : (blocks : List Block) (first : Verb) (args : List (List ℕ)) (call : Call) → call_with blocks first args ≡ Ok call → call_bytes blocks (Some first) args ≡ bytes_in call
unfolding call_with
with_sized blocks verb.Create args call h = named_sized Create (one_name args) call (λ n. refl) h
with_sized blocks verb.Open args call h = named_sized OpenFile (one_name args) call (λ n. refl) h
with_sized blocks verb.Stat args call h = named_sized Stat (one_name args) call (λ n. refl) h
with_sized blocks verb.Remove args call h = named_sized Remove (one_name args) call (λ n. refl) h
with_sized blocks verb.Read args call h = read_sized args call h
with_sized blocks verb.Write args call h = write_sized args call h
with_sized blocks verb.Append args call h = append_sized args call h
with_sized blocks verb.Trunc args call h = trunc_sized args call h
with_sized blocks verb.Seal args call h = named_sized Seal (one_name args) call (λ n. refl) h
with_sized blocks verb.Load args call h = load_sized blocks args call h
with_sized blocks verb.Unload args call h = named_sized Unload (one_name args) call (λ n. refl) h
with_sized blocks verb.Readl args call h = readl_sized args call h
with_sized blocks verb.Writel args call h = writel_sized args call h
with_sized blocks verb.Sync args call h = sync_sized args call h

call_sized : (blocks : List Block) (first : Option Verb) (args : List (List ℕ)) (call : Call) → call_of blocks first args ≡ Ok call → call_bytes blocks first args ≡ bytes_in call
unfolding call_of
call_sized blocks None args call h = absurd cc
call_sized blocks (Some first) args call h = with_sized blocks first args call h

-- ---- lanes

lane_pushed : (requests : List Request) (r : Request) → lane_bytes_in (requests ++ r ∷ []) ≡ lane_bytes_in requests + bytes_in r.call
lane_pushed requests r = sum_by_push (λ (r : Request). bytes_in r.call) requests r

lanes_cons : (lane : Lane) (lanes : List Lane) → bytes_of_lanes (lane ∷ lanes) ≡ lane_bytes_in lane.requests + bytes_of_lanes lanes
lanes_cons lane lanes = sum_by-cons (λ (lane : Lane). lane_bytes_in lane.requests) lane lanes

requested : (name : List ℕ) (r : Request) (lanes : List Lane) → bytes_of_lanes (with_request name r lanes) ≡ bytes_of_lanes lanes + bytes_in r.call
requested name r [] = omega (arith, lanes_cons (record { name = name; requests = r ∷ [] }) [], lane_pushed [] r)
requested name r (lane ∷ lanes) = go (requested name r lanes) (bytes_eq lane.name name)
  where
    go : bytes_of_lanes (with_request name r lanes) ≡ bytes_of_lanes lanes + bytes_in r.call → (t : Bool) → bytes_of_lanes (if t then record lane { requests = lane.requests ++ r ∷ [] } ∷ lanes else lane ∷ with_request name r lanes) ≡ bytes_of_lanes (lane ∷ lanes) + bytes_in r.call
    go rest true = omega (arith, lanes_cons lane lanes, lanes_cons (record lane { requests = lane.requests ++ r ∷ [] }) lanes, lane_pushed lane.requests r)
    go rest false = omega (arith, rest, lanes_cons lane lanes, lanes_cons lane (with_request name r lanes))

laned : (name : List ℕ) (lanes : List Lane) → bytes_of_lanes (with_lane name lanes) ≡ bytes_of_lanes lanes
laned name [] = omega (arith, lanes_cons (record { name = name; requests = [] }) [])
laned name (lane ∷ lanes) = go (laned name lanes) (bytes_eq lane.name name)
  where
    go : bytes_of_lanes (with_lane name lanes) ≡ bytes_of_lanes lanes → (t : Bool) → bytes_of_lanes (if t then lane ∷ lanes else lane ∷ with_lane name lanes) ≡ bytes_of_lanes (lane ∷ lanes)
    go rest true = refl
    go rest false = omega (arith, rest, lanes_cons lane lanes, lanes_cons lane (with_lane name lanes))

-- ---- lines

-- each lane has a well formed name
abbrev AreFormed : List Lane → Type 0
AreFormed lanes = AllByRecursion (λ (lane : Lane). IsTrue (is_lane lane.name)) lanes

formed_request : (name : List ℕ) (r : Request) (lanes : List Lane) → IsTrue (is_lane name) → AreFormed lanes → AreFormed (with_request name r lanes)
formed_request name r [] formed all = (formed, tt)
formed_request name r (lane ∷ lanes) formed all = go (formed_request name r lanes formed all.1) (bytes_eq lane.name name)
  where
    go : AreFormed (with_request name r lanes) → (t : Bool) → AreFormed (if t then record lane { requests = lane.requests ++ r ∷ [] } ∷ lanes else lane ∷ with_request name r lanes)
    go rest true = (all.0, all.1)
    go rest false = (all.0, rest)

formed_lane : (name : List ℕ) (lanes : List Lane) → IsTrue (is_lane name) → AreFormed lanes → AreFormed (with_lane name lanes)
formed_lane name [] formed all = (formed, tt)
formed_lane name (lane ∷ lanes) formed all = go (formed_lane name lanes formed all.1) (bytes_eq lane.name name)
  where
    go : AreFormed (with_lane name lanes) → (t : Bool) → AreFormed (if t then lane ∷ lanes else lane ∷ with_lane name lanes)
    go rest true = (all.0, all.1)
    go rest false = (all.0, rest)

is_true : (b : Bool) → b ≡ true → IsTrue b
is_true b h = grind arith

-- a line adds at most so many bytes, and well formed lanes
record Adds (s t : Reading) (n : ℕ) : Type 0 where
  most : bytes_of_lanes t.lanes ≤ bytes_of_lanes s.lanes + n
  formed : AreFormed s.lanes → AreFormed t.lanes

changed : (s made t : Reading) (n : ℕ) → bytes_of_lanes made.lanes ≤ bytes_of_lanes s.lanes + n → (AreFormed s.lanes → AreFormed made.lanes) → ok made ≡ Ok t → Adds s t n
changed s made t n most formed is =
    let whole = ok_same made t (ok made) refl is in
    let same = ap (λ (r : Reading). bytes_of_lanes r.lanes) whole in
    record { most = omega (arith, most, same); formed = λ all. subst (λ (r : Reading). AreFormed r.lanes) whole (formed all) }

-- the lane is well formed, and the call is read
behind : {A : Type 0} (formed : Bool) (read : Result A ScriptKind) (x : A) → behind_lane formed read ≡ Ok x → (formed ≡ true) × (read ≡ Ok x)
behind true (Ok y) x h = (refl, h)
behind false (Ok y) x h = absurd cc
behind true (Err kind.Limit) x h = absurd cc
behind true (Err kind.Char) x h = absurd cc
behind true (Err kind.Line) x h = absurd cc
behind true (Err kind.Lane) x h = absurd cc
behind true (Err kind.Order) x h = absurd cc
behind true (Err kind.Number) x h = absurd cc
behind true (Err kind.Bytes) x h = absurd cc
behind true (Err kind.Name) x h = absurd cc
behind true (Err kind.Func) x h = absurd cc
behind true (Err kind.Await) x h = absurd cc
behind false (Err kind.Limit) x h = absurd cc
behind false (Err kind.Char) x h = absurd cc
behind false (Err kind.Line) x h = absurd cc
behind false (Err kind.Lane) x h = absurd cc
behind false (Err kind.Order) x h = absurd cc
behind false (Err kind.Number) x h = absurd cc
behind false (Err kind.Bytes) x h = absurd cc
behind false (Err kind.Name) x h = absurd cc
behind false (Err kind.Func) x h = absurd cc
behind false (Err kind.Await) x h = absurd cc

call_adds : (s t : Reading) (name first : List ℕ) (args : List (List ℕ)) → call_line s name first args ≡ Ok t → (is_lane name ≡ true) × Adds s t (call_bytes s.blocks (verb_of first) args)
unfolding call_line
call_adds s t name first args h =
    let call = then_ok (behind_lane (is_lane name) (call_of s.blocks (verb_of first) args)) _ t h in
    let read = behind (is_lane name) (call_of s.blocks (verb_of first) args) call.0 call.1 in
    let bytes = call_sized s.blocks (verb_of first) args call.0 read.1 in
    let more = requested name (record { call = call.0; awaits = await_of (place_of name 0 s.lanes).0 s.awaits }) s.lanes in
    (read.0, changed s (with_call s name call.0) t _ (omega (arith, bytes, more)) (λ all. formed_request name (record { call = call.0; awaits = await_of (place_of name 0 s.lanes).0 s.awaits }) s.lanes (is_true (is_lane name) read.0) all) call.2)

refused : (t : Bool) (fault : ScriptKind) (u : Unit {0}) → refuse t fault ≡ Ok u → t ≡ false
refused true fault u h = absurd cc
refused false fault u h = refl

turned : (b : Bool) → not b ≡ false → b ≡ true
turned true h = refl
turned false h = absurd cc

await_adds : (s t : Reading) (name : List ℕ) (args rest : List (List ℕ)) (n : ℕ) → await_line s name args rest ≡ Ok t → (is_lane name ≡ true) × Adds s t n
unfolding await_line
await_adds s t name [] rest n h = absurd cc
await_adds s t name (call ∷ []) rest n h =
    let formed = then_ok (refuse (not (is_lane name)) kind.Lane) _ t h in
    let place = then_ok (or_fault kind.Await (awaited s.lanes call)) _ t formed.2 in
    let first = then_ok (refuse (is_some (await_of (place_of name 0 s.lanes).0 s.awaits)) kind.Await) _ t place.2 in
    let later = then_ok (refuse (not (is_called_later name false rest)) kind.Await) _ t first.2 in
    let same = laned name s.lanes in
    let right = turned (is_lane name) (refused _ kind.Lane formed.0 formed.1) in
    (right, changed s (with_await s name place.0) t n (omega (arith, same)) (λ all. formed_lane name s.lanes (is_true (is_lane name) right) all) later.2)
await_adds s t name (call ∷ other ∷ args) rest n h = absurd cc

lane_adds : (s t : Reading) (name : List ℕ) (ws rest : List (List ℕ)) → lane_line s name ws rest ≡ Ok t → (is_lane name ≡ true) × Adds s t (bytes_behind s.blocks ws)
unfolding lane_line
lane_adds s t name [] rest h = absurd cc
lane_adds s t name (first ∷ args) rest h =
    choice (λ (x : Reading). (is_lane name ≡ true) × Adds s x (bytes_behind s.blocks (first ∷ args))) (bytes_eq first (codes "await")) (await_line s name args rest) (call_line s name first args) t
    (await_adds s t name args rest _) (call_adds s t name first args) h

fault_adds : (n : ℕ) (s t : Reading) (args : List (List ℕ)) (m : ℕ) → fault_line n s args ≡ Ok t → Adds s t m
unfolding fault_line fault_words
fault_adds n s t [] m h = absurd cc
fault_adds n s t (a ∷ []) m h = absurd cc
fault_adds n s t (a ∷ b ∷ []) m h = absurd cc
fault_adds n s t (a ∷ b ∷ c ∷ []) m h = absurd cc
fault_adds n s t (which ∷ die ∷ way ∷ nth ∷ []) m h =
    let copy = then_ok (one_of (codes "die") (codes "copy") which) _ t h in
    let writing = then_ok (one_of (codes "read") (codes "write") way) _ t copy.2 in
    let early = then_ok (refuse (nat_lt 0 (length s.lanes)) kind.Order) _ t writing.2 in
    let d = then_ok (number_from 0 15 die) _ t early.2 in
    let k = then_ok (number_from 1 (2 ^ 32 - 1) nth) _ t d.2 in
    changed s _ t m (omega arith) (λ all. all) k.2
fault_adds n s t (a ∷ b ∷ c ∷ d ∷ e ∷ rest) m h = absurd cc

func_adds : (n : ℕ) (s t : Reading) (args rest : List (List ℕ)) (m : ℕ) → func_line n s args rest ≡ Ok t → Adds s t m
unfolding func_line
func_adds n s t [] rest m h = absurd cc
func_adds n s t (name ∷ []) rest m h =
    let ended = then_ok (refuse (not (list_any ends_block rest)) kind.Line) _ t h in
    let new = then_ok (refuse (not (is_name name) || is_some (block_of name s.blocks)) kind.Name) _ t ended.2 in
    changed s _ t m (omega arith) (λ all. all) new.2
func_adds n s t (name ∷ other ∷ args) rest m h = absurd cc

choice_is : {A : Type 0} (P : A → Type 0) (t : Bool) (a b : Result A ScriptKind) (x : A) → (t ≡ true → a ≡ Ok x → P x) → (b ≡ Ok x → P x) → (if t then a else b) ≡ Ok x → P x
choice_is P true a b x k l h = k refl h
choice_is P false a b x k l h = l h

-- the bytes of the line of a well formed lane
lane_counts : (blocks : List Block) (first : List ℕ) (more : List (List ℕ)) → ends_with_colon first ≡ true → is_lane (without_last first) ≡ true → line_bytes blocks (first ∷ more) ≡ bytes_behind blocks more
lane_counts blocks first more colon formed =
    let both : (ends_with_colon first && is_lane (without_last first)) ≡ true = rw (colon, formed) refl in
    ap (λ lane. lane_bytes blocks lane more) (cond-true _ _ _ both)

word_adds : (n : ℕ) (s t : Reading) (ws rest : List (List ℕ)) → word_line n s ws rest ≡ Ok t → Adds s t (line_bytes s.blocks ws)
unfolding word_line
word_adds n s t [] rest h = changed s s t _ (omega arith) (λ all. all) h
word_adds n s t (first ∷ more) rest h =
    let P : Reading → Type 0 = λ x. Adds s x (line_bytes s.blocks (first ∷ more)) in
    choice P (is_comment first) (Ok s) _ t (changed s s t _ (omega arith) (λ all. all))
    (choice P (bytes_eq first (codes "fault")) (fault_line n s more) _ t (fault_adds n s t more _)
    (choice P (bytes_eq first (codes "func")) (func_line n s more rest) _ t (func_adds n s t more rest _)
    (choice_is P (ends_with_colon first) (lane_line s (without_last first) more rest) (Err kind.Line) t
    (λ colon read.
    let adds = lane_adds s t (without_last first) more rest read in
    let same = lane_counts s.blocks first more colon adds.0 in
    subst (λ m. Adds s t m) (sym same) adds.1)
    (λ no. absurd cc)))) h

-- ---- all lines

-- the calls bring at most the bytes that are counted, these are within the limit, and the lanes are well formed
record Bounded (s : Reading) : Type 0 where
  few : bytes_of_lanes s.lanes ≤ s.bytes
  within : s.bytes ≤ 2 ^ 28
  formed : AreFormed s.lanes

past : (s : Reading) (lane : Option (List ℕ)) (rest : List (List ℕ)) → s.bytes ≤ 2 ^ 28 → is_lane_past_limit s lane rest ≡ false → s.bytes + lane_bytes s.blocks lane rest ≤ 2 ^ 28
past s None rest within h = omega arith
past s (Some name) rest within h = let no : nat_lt (2 ^ 28) (s.bytes + bytes_behind s.blocks rest) ≡ false = grind arith in grind (arith, nat_tests, no)

past_line : (s : Reading) (ws : List (List ℕ)) → s.bytes ≤ 2 ^ 28 → is_past_limit s ws ≡ false → s.bytes + line_bytes s.blocks ws ≤ 2 ^ 28
past_line s [] within h = omega arith
past_line s (first ∷ rest) within h = past s (lane_of first) rest within h

kept_bound : (s made t : Reading) → Bounded s → s.lanes ≡ made.lanes → s.bytes ≡ made.bytes → ok made ≡ Ok t → Bounded t
kept_bound s made t bound lanes bytes is =
    let same = ok_same made t (ok made) refl is in
    let low = ap bytes_of_lanes (lanes ∙ ap (λ (r : Reading). r.lanes) same) in
    let high : s.bytes ≡ t.bytes = bytes ∙ ap (λ (r : Reading). r.bytes) same in
    record {
      few = let f = bound.few in omega (arith, f, low, high);
      within = let w = bound.within in omega (arith, w, high);
      formed = subst (λ (ls : List Lane). AreFormed ls) (lanes ∙ ap (λ (r : Reading). r.lanes) same) bound.formed;
    }

outside_bound : (n : ℕ) (s t : Reading) (line : List ℕ) (rest : List (List ℕ)) → Bounded s → outside_line n s line rest ≡ Ok t → Bounded t
unfolding outside_line
outside_bound n s t line rest bound h =
    let limit = then_ok (refuse (is_past_limit s (words line)) kind.Limit) _ t h in
    let char = then_ok (refuse (not (list_all is_line_byte line)) kind.Char) _ t limit.2 in
    let read = then_ok (word_line n s (words line) rest) _ t char.2 in
    let adds = word_adds n s read.0 (words line) rest read.1 in
    let within = past_line s (words line) bound.within (refused _ kind.Limit limit.0 limit.1) in
    let made : Reading = record read.0 { bytes = s.bytes + line_bytes s.blocks (words line) } in
    let same : made ≡ t = ok_same made t (ok made) refl read.2 in
    let lanes = ap (λ (r : Reading). bytes_of_lanes r.lanes) same in
    let bytes = ap (λ (r : Reading). r.bytes) same in
    record {
      few = let f = bound.few in let m = adds.most in omega (arith, f, m, lanes, bytes);
      within = omega (arith, within, bytes);
      formed = subst (λ (r : Reading). AreFormed r.lanes) same (adds.formed bound.formed);
    }

body_bound : (s t : Reading) (line : List ℕ) → Bounded s → body_line s line ≡ Ok t → Bounded t
unfolding body_line
body_bound s t line bound h = let char = then_ok (refuse (not (list_all is_line_byte line)) kind.Char) _ t h in kept_bound s _ t bound refl refl char.2

ok_same_err : (x y : Reading) (r : Result Reading ScriptErr) → r ≡ Ok x → r ≡ Ok y → x ≡ y
ok_same_err x y r p q = cc

end_bound : (s t : Reading) (first : ℕ) → Bounded s → end_line s first ≡ Ok t → Bounded t
unfolding end_line
end_bound s t first bound h =
    let code = then_ok (assembled first s.text) _ t h in
    let made : Reading = record s { blocks = s.blocks ++ record { name = s.name; code = code.0 } ∷ []; block = None } in
    let same : made ≡ t = ok_same_err made t (Ok made) refl code.2 in
    subst (λ (r : Reading). Bounded r) same (record { few = bound.few; within = bound.within; formed = bound.formed })

at_line_ok : (n : ℕ) (r : Result Reading ScriptKind) (t : Reading) → at_line n r ≡ Ok t → r ≡ Ok t
at_line_ok n (Ok x) t h = let same : x ≡ t = cc in ap Ok same
at_line_ok n (Err e) t h = absurd cc

either : (b : Bool) (p q : Result Reading ScriptErr) (t : Reading) → (p ≡ Ok t → Bounded t) → (q ≡ Ok t → Bounded t) → (if b then p else q) ≡ Ok t → Bounded t
either true p q t k l h = k h
either false p q t k l h = l h

line_bound : (block : Option ℕ) (n : ℕ) (s t : Reading) (line : List ℕ) (rest : List (List ℕ)) → Bounded s → line_in block n s line rest ≡ Ok t → Bounded t
unfolding line_in
line_bound None n s t line rest bound h = outside_bound n s t line rest bound (at_line_ok n (outside_line n s line rest) t h)
line_bound (Some first) n s t line rest bound h =
    either (ends_block line) (end_line s first) (at_line n (body_line s line)) t (end_bound s t first bound) (λ is. body_bound s t line bound (at_line_ok n (body_line s line) t is)) h

lines_bound : (n : ℕ) (s t : Reading) (lines : List (List ℕ)) → Bounded s → read_lines n s lines ≡ Ok t → Bounded t
lines_bound n s t [] bound h = kept_err h
  where
    kept_err : (let r : Result Reading ScriptErr = Ok s in r) ≡ Ok t → Bounded t
    kept_err is = subst (λ (r : Reading). Bounded r) (ok_same_err s t (Ok s) refl is) bound
lines_bound n s t (line ∷ rest) bound h =
    let more = then_ok (line_in s.block n s line rest) _ t h in
    lines_bound (n + 1) more.0 t rest (line_bound s.block n s more.0 line rest bound more.1) more.2

-- the calls of a script that is read bring at most so many bytes, and its lanes are well formed
pub within_limit : (s : Reading) (lines : List (List ℕ)) → read_lines 1 nothing lines ≡ Ok s → (bytes_of_lanes s.lanes ≤ 2 ^ 28) × AreFormed s.lanes
within_limit s lines h = let b = lines_bound 1 nothing s lines (record { few = omega arith; within = omega arith; formed = tt }) h in (omega (arith, b.few, b.within), b.formed)

-- what is known of a script whose lines are read
pub script_known : (b : Building) (lanes : List Lane) (order : List (ℕ × ℕ)) (faults : List FaultLine) (lines : List (List ℕ)) → lanes ≡ b.lanes.items → order ≡ b.order.items → IsKept b → read_lines 1 nothing lines ≡ Ok (seen b)
    → IsOrdered (record { lanes = lanes; order = order; faults = faults }) × IsWithinLimits (record { lanes = lanes; order = order; faults = faults })
script_known b lanes order faults lines same_lanes same_order kept read =
    let calls = kept.0 in
    let limit = within_limit (seen b) lines read in
    let P : List Lane → List (ℕ × ℕ) → Type 0 = λ ls os. IsOrdered (record { lanes = ls; order = os; faults = faults }) × IsWithinLimits (record { lanes = ls; order = os; faults = faults }) in
    subst (λ (ls : List Lane). P ls order) (sym same_lanes) (subst (λ (os : List (ℕ × ℕ)). P b.lanes.items os) (sym same_order) (
      record { order = calls.ordered; awaited = calls.awaited; names = calls.names; formed = limit.1 },
      record { lanes = calls.few_lanes; calls = calls.few_calls; bytes = limit.0 },
    ))
