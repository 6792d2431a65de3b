-- The machine without files fits on every drive, and every answer leaves a state that fits.
use Rattle.std.proofs.Common.{◌≡◌, inl, inr, ℕ, ◌+◌, ◌-◌, ◌<◌, ◌≤◌, ◌^◌, List, [], ◌∷◌, ◌++◌, length, take, drop, replicate, eqb, Bool, true, false, not, cond, Option, Some, None, Result, Ok, Err, bytes_eq, refl, sym, subst, ap, ◌∙◌, arith, length-append}
use Rattle.std.specs.Prelude.{is_some, nat_le, nat_lt, unwrap_or, IsTrue}
use Rattle.std.specs.List.{AllByRecursion}
use Rattle.std.proofs.lemmas.Bool.{cond-false}
use Rattle.std.proofs.lemmas.Bool.Decides.{nat_tests, same_from_decides, Decides-like}
use Rattle.std.proofs.lemmas.List.{length-replicate, length-take, length-drop}
use Rattle.std.proofs.lemmas.List.Sums.{sum_by-cons, sum_by_push}
use Rattle.std.proofs.lemmas.Slice.Eq.{bytes_eq-Decides}
use Rattle.name_table.specs.Name.{is_name}
use Rattle.page_base.specs.Bytes.{Pages, Cut, Put}
use Rattle.sbpf_insn.specs.declared.insn.Insn.{Insn}
use Rattle.sbpf_insn.specs.declared.fault.InsnFault.{InsnFault}
use Rattle.sbpf_insn.specs.Decoded.{decoded}
use Rattle.sbpf_insn.specs.Refusal.{refusal}
use Rattle.sbpf_insn.specs.Machine as machine
use Rattle.plain_files.specs.declared.calls.Call.{Call}
use Rattle.plain_files.specs.declared.calls.Call.TheVariants.{Create, OpenFile, Stat, Remove, Read, Write, Append, Trunc, Seal, Load, Unload, Readl, Writel, Sync}
use Rattle.plain_files.specs.declared.calls.PlainFile.{PlainFile}
use Rattle.plain_files.specs.declared.calls.Reply.{Reply}
use Rattle.plain_files.specs.declared.calls.Reply.TheVariants.{Id, Val, At, Done, TooLong, NoFile, NoFn, AppendOnly, TooBig, BadName, Exists, Full, NoSpace, FnFull}
use Rattle.plain_files.specs.Steps.{◌>>=◌, refuse}
use Rattle.plain_files.specs.Lists.{with_changed, without}
use Rattle.plain_files.specs.History.{Entry, Legal}
use Rattle.plain_files.specs.Plain.{State, Answered, is_file, file_of, function_of, bytes_in, code_in, pages_of, is_too_long, lacks_file, lacks_function, is_append_only, end_of, is_full, with_file, with_length, is_overfull, with_content, stored, spelled_code, unless_refused, done_with_functions, ended, first_bytes, early, effect, or_refusal, reply_alone, answer_after, answer}
use Rattle.plain_run.proofs.Ordered.{answer_keeps}
use Rattle.plain_run.proofs.Stores.{length_exact}
use Rattle.plain_image.specs.Fits.{IsFile, HaveOwnNames, Fits}
use Rattle.plain_image.proofs.Outputs.{EndsWith, output_kept}

-- what is shown beside the order of the files
abbrev Kept : ℕ → State → Type 0
Kept blocks s = (s.next < 2 ^ 32) × (length s.files ≤ 4096) × AllByRecursion IsFile s.files × HaveOwnNames s.files × (pages_of s.files ≤ s.capacity) × (s.capacity ≡ blocks)

-- ---- names

pub eq_sym : (a b : List ℕ) → bytes_eq a b ≡ bytes_eq b a
eq_sym a b = same_from_decides (bytes_eq a b) (bytes_eq b a) (bytes_eq-Decides a b) (Decides-like (bytes_eq b a) sym sym (bytes_eq-Decides b a))

-- a first test that fails, and nothing behind it
pub none_first : {A : Type 0} (b : Bool) (x : A) (o : Option A) → cond b (Some x) o ≡ None → (b ≡ false) × (o ≡ None)
none_first true x o is = absurd cc
none_first false x o is = (refl, is)

named_push : (name : List ℕ) (files : List PlainFile) (file : PlainFile) → file_of name files ≡ None → bytes_eq file.name name ≡ false → file_of name (files ++ file ∷ []) ≡ None
named_push name [] file none other = cond-false (bytes_eq file.name name) (Some file) None other
named_push name (f ∷ fs) file none other =
    let n = none_first (bytes_eq f.name name) f (file_of name fs) none in
    cond-false (bytes_eq f.name name) (Some f) (file_of name (fs ++ file ∷ [])) n.0 ∙ named_push name fs file n.1 other

names_push : (files : List PlainFile) (file : PlainFile) → file_of file.name files ≡ None → HaveOwnNames files → HaveOwnNames (files ++ file ∷ [])
names_push [] file none own = (refl, tt)
names_push (f ∷ fs) file none own =
    let n = none_first (bytes_eq f.name file.name) f (file_of file.name fs) none in
    (named_push f.name fs file own.0 (eq_sym file.name f.name ∙ n.0), names_push fs file n.1 own.1)

named_changed : (name : List ℕ) (test : PlainFile → Bool) (change : PlainFile → PlainFile) (files : List PlainFile) → ((f : PlainFile) → (change f).name ≡ f.name) → file_of name files ≡ None → file_of name (with_changed test change files) ≡ None
named_changed name test change [] same none = refl
named_changed name test change (f ∷ fs) same none =
    let n = none_first (bytes_eq f.name name) f (file_of name fs) none in
    elim (test f) as (λ (b : Bool). file_of name (cond b (change f ∷ fs) (f ∷ with_changed test change fs)) ≡ None) [
      | true ↦ cond-false (bytes_eq (change f).name name) (Some (change f)) (file_of name fs) (ap (λ m. bytes_eq m name) (same f) ∙ n.0) ∙ n.1
      | false ↦ cond-false (bytes_eq f.name name) (Some f) (file_of name (with_changed test change fs)) n.0 ∙ named_changed name test change fs same n.1
    ]

names_changed : (test : PlainFile → Bool) (change : PlainFile → PlainFile) (files : List PlainFile) → ((f : PlainFile) → (change f).name ≡ f.name) → HaveOwnNames files → HaveOwnNames (with_changed test change files)
names_changed test change [] same own = tt
names_changed test change (f ∷ fs) same own =
    elim (test f) as (λ (b : Bool). HaveOwnNames (cond b (change f ∷ fs) (f ∷ with_changed test change fs))) [
      | true ↦ (ap (λ m. file_of m fs) (same f) ∙ own.0, own.1)
      | false ↦ (named_changed f.name test change fs same own.0, names_changed test change fs same own.1)
    ]

named_without : (name : List ℕ) (test : PlainFile → Bool) (files : List PlainFile) → file_of name files ≡ None → file_of name (without test files) ≡ None
named_without name test [] none = refl
named_without name test (f ∷ fs) none =
    let n = none_first (bytes_eq f.name name) f (file_of name fs) none in
    elim (test f) as (λ (b : Bool). file_of name (cond b fs (f ∷ without test fs)) ≡ None) [
      | true ↦ n.1
      | false ↦ cond-false (bytes_eq f.name name) (Some f) (file_of name (without test fs)) n.0 ∙ named_without name test fs n.1
    ]

names_without : (test : PlainFile → Bool) (files : List PlainFile) → HaveOwnNames files → HaveOwnNames (without test files)
names_without test [] own = tt
names_without test (f ∷ fs) own =
    elim (test f) as (λ (b : Bool). HaveOwnNames (cond b fs (f ∷ without test fs))) [
      | true ↦ own.1
      | false ↦ (named_without f.name test fs own.0, names_without test fs own.1)
    ]

-- ---- each file

each_push : (files : List PlainFile) (file : PlainFile) → AllByRecursion IsFile files → IsFile file → AllByRecursion IsFile (files ++ file ∷ [])
each_push [] file each new = (new, tt)
each_push (f ∷ fs) file each new = (each.0, each_push fs file each.1 new)

each_changed : (test : PlainFile → Bool) (change : PlainFile → PlainFile) (files : List PlainFile) → ((f : PlainFile) → IsFile f → IsFile (change f)) → AllByRecursion IsFile files → AllByRecursion IsFile (with_changed test change files)
each_changed test change [] keeps each = tt
each_changed test change (f ∷ fs) keeps each =
    elim (test f) as (λ (b : Bool). AllByRecursion IsFile (cond b (change f ∷ fs) (f ∷ with_changed test change fs))) [
      | true ↦ (keeps f each.0, each.1)
      | false ↦ (each.0, each_changed test change fs keeps each.1)
    ]

each_without : (test : PlainFile → Bool) (files : List PlainFile) → AllByRecursion IsFile files → AllByRecursion IsFile (without test files)
each_without test [] each = tt
each_without test (f ∷ fs) each =
    elim (test f) as (λ (b : Bool). AllByRecursion IsFile (cond b fs (f ∷ without test fs))) [
      | true ↦ each.1
      | false ↦ (each.0, each_without test fs each.1)
    ]

-- ---- lengths and pages

length_changed : (test : PlainFile → Bool) (change : PlainFile → PlainFile) (files : List PlainFile) → length (with_changed test change files) ≡ length files
length_changed test change [] = refl
length_changed test change (f ∷ fs) =
    elim (test f) as (λ (b : Bool). length (cond b (change f ∷ fs) (f ∷ with_changed test change fs)) ≡ length (f ∷ fs)) [
      | true ↦ refl
      | false ↦ omega (arith, length_changed test change fs)
    ]

length_without : (test : PlainFile → Bool) (files : List PlainFile) → length (without test files) ≤ length files
length_without test [] = omega arith
length_without test (f ∷ fs) =
    elim (test f) as (λ (b : Bool). length (cond b fs (f ∷ without test fs)) ≤ length (f ∷ fs)) [
      | true ↦ omega arith
      | false ↦ omega (arith, length_without test fs)
    ]

abbrev pages : PlainFile → ℕ
pages file = Pages (length file.bytes)

pages_without : (test : PlainFile → Bool) (files : List PlainFile) → pages_of (without test files) ≤ pages_of files
pages_without test [] = omega arith
pages_without test (f ∷ fs) =
    elim (test f) as (λ (b : Bool). pages_of (cond b fs (f ∷ without test fs)) ≤ pages_of (f ∷ fs)) [
      | true ↦ omega (arith, sum_by-cons pages f fs)
      | false ↦ omega (arith, sum_by-cons pages f fs, sum_by-cons pages f (without test fs), pages_without test fs)
    ]

pages_changed : (test : PlainFile → Bool) (change : PlainFile → PlainFile) (files : List PlainFile) → ((f : PlainFile) → (change f).bytes ≡ f.bytes) → pages_of (with_changed test change files) ≡ pages_of files
pages_changed test change [] same = refl
pages_changed test change (f ∷ fs) same =
    elim (test f) as (λ (b : Bool). pages_of (cond b (change f ∷ fs) (f ∷ with_changed test change fs)) ≡ pages_of (f ∷ fs)) [
      | true ↦ omega (arith, sum_by-cons pages f fs, sum_by-cons pages (change f) fs, ap (λ (bytes : List ℕ). Pages (length bytes)) (same f))
      | false ↦ omega (arith, sum_by-cons pages f fs, sum_by-cons pages f (with_changed test change fs), pages_changed test change fs same)
    ]

short_in : (name : List ℕ) (files : List PlainFile) (other : PlainFile) → AllByRecursion IsFile files → length other.bytes ≤ 2 ^ 28 → length (unwrap_or (file_of name files) other).bytes ≤ 2 ^ 28
short_in name [] other each short = short
short_in name (f ∷ fs) other each short =
    elim (bytes_eq f.name name) as (λ (b : Bool). length (unwrap_or (cond b (Some f) (file_of name fs)) other).bytes ≤ 2 ^ 28) [
      | true ↦ each.0.1
      | false ↦ short_in name fs other each.1 short
    ]

content_short : (blocks : ℕ) (s : State) (name : List ℕ) → Kept blocks s → length (bytes_in s name) ≤ 2 ^ 28
content_short blocks s name kept = short_in name s.files (record { id = 0; name = name; bytes = []; sealed = false }) kept.2 (omega arith)

put_short : (file bytes : List ℕ) (off : ℕ) → length file ≤ 2 ^ 28 → off + length bytes ≤ 2 ^ 28 → length (Put file off bytes) ≤ 2 ^ 28
put_short file bytes off short within =
    elim (eqb (length bytes) 0) as (λ (b : Bool). length (cond b file (take off file ++ replicate (off - length file) 0 ++ bytes ++ drop (off + length bytes) file)) ≤ 2 ^ 28) [
      | true ↦ short
      | false ↦ omega (
        arith,
        length-append (take off file) (replicate (off - length file) 0 ++ bytes ++ drop (off + length bytes) file),
        length-append (take off file ++ replicate (off - length file) 0) (bytes ++ drop (off + length bytes) file),
        length-append (replicate {A = ℕ} (off - length file) 0) (bytes ++ drop (off + length bytes) file),
        length-append (take off file ++ replicate (off - length file) 0 ++ bytes) (drop (off + length bytes) file),
        length-append (take off file ++ replicate (off - length file) 0) bytes,
        length-append (take off file) (replicate (off - length file) 0),
        length-append bytes (drop (off + length bytes) file),
        length-replicate {A = ℕ} (off - length file) 0,
        length-take off file,
        length-drop (off + length bytes) file,
      )
    ]

-- ---- steps that may be refused

refused_keeps : (blocks : ℕ) (s : State) (test : Bool) (reply : Reply) (rest : Result Answered Reply) → Kept blocks s → (test ≡ false → Kept blocks (or_refusal s rest).state) → Kept blocks (or_refusal s (refuse test reply >>= λ _. rest)).state
refused_keeps blocks s true reply rest kept goes = kept
refused_keeps blocks s false reply rest kept goes = goes refl

none_named : (o : Option PlainFile) → is_some o ≡ false → o ≡ None
none_named None is = refl
none_named (Some f) is = absurd cc

good_name : (b : Bool) → not b ≡ false → IsTrue b
good_name true is = refl
good_name false is = absurd cc

room_left : (s : State) → is_full s ≡ false → (length s.files < 4096) × (s.next < 2 ^ 32 - 1)
room_left s is = (grind (arith, nat_tests), grind (arith, nat_tests))

create_keeps : (blocks : ℕ) (s : State) (name : List ℕ) → Kept blocks s → Kept blocks (or_refusal s (effect s (Create name))).state
create_keeps blocks s name kept =
    refused_keeps blocks s (not (is_name name)) BadName _ kept (λ good.
    refused_keeps blocks s (is_some (file_of name s.files)) Exists _ kept (λ new.
    refused_keeps blocks s (is_full s) Full (Ok (record { reply = Id s.next; state = with_file s name })) kept (λ full.
    let file : PlainFile = record { id = s.next; name = name; bytes = []; sealed = false } in
    let left = room_left s full in
    let more : length (s.files ++ file ∷ []) ≡ length s.files + 1 = length-append s.files (file ∷ []) in
    let same : pages_of (s.files ++ file ∷ []) ≡ pages_of s.files + 0 = sum_by_push pages s.files file in
    (omega (arith, left.1), omega (arith, left.0, more), each_push s.files file kept.2 (good_name (is_name name) good, omega arith), names_push s.files file (none_named (file_of name s.files) new) kept.3, omega (arith, same, kept.4), kept.5)
    )))

remove_keeps : (blocks : ℕ) (s : State) (name : List ℕ) → Kept blocks s → Kept blocks (or_refusal s (effect s (Remove name))).state
remove_keeps blocks s name kept =
    let test = is_file name in
    (kept.0, omega (arith, length_without test s.files, kept.1), each_without test s.files kept.2, names_without test s.files kept.3, omega (arith, pages_without test s.files, kept.4), kept.5)

seal_keeps : (blocks : ℕ) (s : State) (name : List ℕ) → Kept blocks s → Kept blocks (or_refusal s (effect s (Seal name))).state
seal_keeps blocks s name kept =
    let test = is_file name in
    let change : PlainFile → PlainFile = λ file. record file { sealed = true } in
    (kept.0, omega (arith, length_changed test change s.files, kept.1), each_changed test change s.files (λ f is. is) kept.2, names_changed test change s.files (λ f. refl) kept.3, omega (arith, pages_changed test change s.files (λ f. refl), kept.4), kept.5)

not_over : (s : State) → is_overfull s ≡ false → pages_of s.files ≤ s.capacity
not_over s is = grind (arith, nat_tests)

stored_keeps : (blocks : ℕ) (s : State) (name bytes : List ℕ) (reply : Reply) → length bytes ≤ 2 ^ 28 → Kept blocks s → Kept blocks (or_refusal s (stored s name bytes reply)).state
stored_keeps blocks s name bytes reply short kept =
    refused_keeps blocks s (is_overfull (with_content s name bytes)) NoSpace (Ok (record { reply = reply; state = with_content s name bytes })) kept (λ room.
    let test = is_file name in
    let change : PlainFile → PlainFile = λ file. record file { bytes = bytes } in
    (kept.0, omega (arith, length_changed test change s.files, kept.1), each_changed test change s.files (λ f is. (is.0, short)) kept.2, names_changed test change s.files (λ f. refl) kept.3, not_over (with_content s name bytes) room, kept.5)
    )

-- ---- functions

kept_code : State → List ℕ → List Insn → Result Answered Reply
kept_code s name code = do
  _ ← refuse (is_some (function_of name s.functions)) Exists
  _ ← refuse (nat_le 64 (length s.functions)) FnFull
  Ok (done_with_functions s (s.functions ++ record { name = name; code = code } ∷ []))

kept_code_keeps : (blocks : ℕ) (s : State) (name : List ℕ) (code : List Insn) → Kept blocks s → Kept blocks (or_refusal s (kept_code s name code)).state
unfolding kept_code
kept_code_keeps blocks s name code kept =
    refused_keeps blocks s (is_some (function_of name s.functions)) Exists _ kept (λ new.
    refused_keeps blocks s (nat_le 64 (length s.functions)) FnFull (Ok (done_with_functions s (s.functions ++ record { name = name; code = code } ∷ []))) kept (λ room. kept))

read_code_keeps : (blocks : ℕ) (s : State) (name : List ℕ) (read : Result (List Insn) InsnFault) → Kept blocks s → Kept blocks (or_refusal s ((spelled_code read >>= λ code. unless_refused code (refusal code)) >>= kept_code s name)).state
read_code_keeps blocks s name (Err fault) kept = kept
read_code_keeps blocks s name (Ok code) kept =
    elim (refusal code) as (λ r. Kept blocks (or_refusal s (unless_refused code r >>= kept_code s name)).state) [
      | None ↦ kept_code_keeps blocks s name code kept
      | Some fault ↦ kept
    ]

load_keeps : (blocks : ℕ) (s : State) (name bytes : List ℕ) → Kept blocks s → Kept blocks (or_refusal s (effect s (Load name bytes))).state
unfolding kept_code
load_keeps blocks s name bytes kept = refused_keeps blocks s (not (is_name name)) BadName _ kept (λ good. read_code_keeps blocks s name (decoded bytes) kept)

readl_keeps : (blocks : ℕ) (s : State) (cap : ℕ) (outcome : machine.Outcome) → Kept blocks s → Kept blocks (or_refusal s (ended outcome >>= λ end. Ok (reply_alone s (first_bytes cap end)))).state
readl_keeps blocks s cap (machine.Ended r0 output used) kept = kept
readl_keeps blocks s cap (machine.AccessTrap address size slot used) kept = kept
readl_keeps blocks s cap (machine.DepthTrap slot used) kept = kept
readl_keeps blocks s cap machine.Spent kept = kept

writel_keeps : (blocks : ℕ) (s : State) (file : List ℕ) (off len : ℕ) (outcome : machine.Outcome) → off + len ≤ 2 ^ 28 → EndsWith len outcome → Kept blocks s → Kept blocks (or_refusal s (ended outcome >>= λ end. stored s file (Put (bytes_in s file) off end.output) (Val end.r0))).state
writel_keeps blocks s file off len (machine.Ended r0 output used) within long kept =
    let fits : off + length output ≤ 2 ^ 28 = omega (arith, within, long) in
    stored_keeps blocks s file (Put (bytes_in s file) off output) (Val r0) (put_short (bytes_in s file) output off (content_short blocks s file kept) fits) kept
writel_keeps blocks s file off len (machine.AccessTrap address size slot used) within long kept = kept
writel_keeps blocks s file off len (machine.DepthTrap slot used) within long kept = kept
writel_keeps blocks s file off len machine.Spent within long kept = kept

-- ---- all calls

effect_keeps : (blocks : ℕ) (s : State) (call : Call) → end_of s call ≤ 2 ^ 28 → Kept blocks s → Kept blocks (or_refusal s (effect s call)).state
effect_keeps blocks s (Create name) within kept = create_keeps blocks s name kept
effect_keeps blocks s (OpenFile name) within kept = kept
effect_keeps blocks s (Stat name) within kept = kept
effect_keeps blocks s (Remove name) within kept = remove_keeps blocks s name kept
effect_keeps blocks s (Read name off len) within kept = kept
effect_keeps blocks s (Write name off bytes) within kept =
    stored_keeps blocks s name (Put (bytes_in s name) off bytes) Done (put_short (bytes_in s name) bytes off (content_short blocks s name kept) within) kept
effect_keeps blocks s (Append name bytes) within kept =
    stored_keeps blocks s name (Put (bytes_in s name) (length (bytes_in s name)) bytes) (At (length (bytes_in s name))) (put_short (bytes_in s name) bytes (length (bytes_in s name)) (content_short blocks s name kept) within) kept
effect_keeps blocks s (Trunc name len) within kept =
    stored_keeps blocks s name (with_length (bytes_in s name) len) Done (omega (arith, length_exact (bytes_in s name) len, within)) kept
effect_keeps blocks s (Seal name) within kept = seal_keeps blocks s name kept
effect_keeps blocks s (Load name bytes) within kept = load_keeps blocks s name bytes kept
effect_keeps blocks s (Unload name) within kept = kept
effect_keeps blocks s (Readl file off len function fuel cap param) within kept = readl_keeps blocks s cap (machine.run (code_in s function) (machine.shaped (Cut (bytes_in s file) off len) (replicate cap 0) param) fuel) kept
effect_keeps blocks s (Writel file off len function fuel param input) within kept =
    let output = with_length (Cut (bytes_in s file) off len) len in
    let regions = machine.shaped input output param in
    let outcome = machine.run (code_in s function) regions fuel in
    let long : EndsWith len outcome = subst (λ n. EndsWith n outcome) (length_exact (Cut (bytes_in s file) off len) len) (output_kept (code_in s function) regions fuel) in
    writel_keeps blocks s file off len outcome within long kept
effect_keeps blocks s Sync within kept = kept

-- the last of the early refusals
last_test : (a b c d e : Bool) → cond a (Some TooLong) (cond b (Some NoFile) (cond c (Some NoFn) (cond d (Some AppendOnly) (cond e (Some TooBig) None)))) ≡ None → e ≡ false
last_test true b c d e is = absurd cc
last_test false true c d e is = absurd cc
last_test false false true d e is = absurd cc
last_test false false false true e is = absurd cc
last_test false false false false true is = absurd cc
last_test false false false false false is = refl

ends_low : (s : State) (call : Call) → early s call ≡ None → end_of s call ≤ 2 ^ 28
ends_low s call none =
    let low : nat_lt (2 ^ 28) (end_of s call) ≡ false = last_test (is_too_long call) (lacks_file s call) (lacks_function s call) (is_append_only s call) (nat_lt (2 ^ 28) (end_of s call)) none in
    at_most (end_of s call) low
  where
    at_most : (n : ℕ) → nat_lt (2 ^ 28) n ≡ false → n ≤ 2 ^ 28
    at_most n is = grind (arith, nat_tests)

after_keeps : (blocks : ℕ) (s : State) (call : Call) (o : Option Reply) → early s call ≡ o → Kept blocks s → Kept blocks (answer_after o s call).state
after_keeps blocks s call (Some refusal) is kept = kept
after_keeps blocks s call None is kept = effect_keeps blocks s call (ends_low s call is) kept

pub empty_fits : (blocks : ℕ) → Fits blocks (record { files = []; next = 1; functions = []; capacity = blocks })
empty_fits blocks =
    record { order = record { rise = tt; below = tt; least = omega arith }; last = omega arith; few = omega arith; each = tt; names = tt; room = omega arith; capacity = refl }

pub answers_fit : (blocks : ℕ) (s : State) (call : Call) → Fits blocks s → Fits blocks (answer s call).state
answers_fit blocks s call fits =
    let kept : Kept blocks (answer s call).state = after_keeps blocks s call (early s call) refl (fits.last, fits.few, fits.each, fits.names, fits.room, fits.capacity) in
    record { order = (answer_keeps s call fits.order).0; last = kept.0; few = kept.1; each = kept.2; names = kept.3; room = kept.4; capacity = kept.5 }

pub histories_fit : (blocks : ℕ) (s last : State) (history : List Entry) → Legal s history last → Fits blocks s → Fits blocks last
histories_fit blocks s last [] legal fits = subst (Fits blocks) legal fits
histories_fit blocks s last (e ∷ rest) (inl answered) fits = histories_fit blocks (answer s e.call).state last rest answered.1 (answers_fit blocks s e.call fits)
histories_fit blocks s last (e ∷ rest) (inr excused) fits = histories_fit blocks s last rest excused.1 fits
