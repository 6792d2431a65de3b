-- `early`, by what the tables find.
use Rattle.std.proofs.Common.{◌≡◌, ℕ, ◌+◌, Bool, true, false, List, [], length, Option, Some, None, refl, sym, ap, ◌∙◌}
use Rattle.std.specs.Prelude.{◌^◌, map, option_map, is_none, unwrap_or, nat_lt, if◌then◌else◌}
use Rattle.name_table.specs.declared.files.FileRec.{FileRec}
use Rattle.name_table.specs.Files.{Table, file_named}
use Rattle.plain_files.specs.declared.calls.Call.{Call}
use Rattle.plain_files.specs.declared.calls.Call.TheVariants.{Create, OpenFile, Stat, Remove, Read, Write, Append, Trunc, Seal, Load, Unload, Readl, Writel, Sync}
use Rattle.plain_files.specs.declared.calls.PlainFile.{PlainFile}
use Rattle.plain_files.specs.declared.calls.Reply.{Reply}
use Rattle.plain_files.specs.declared.calls.Reply.TheVariants.{NoFile, NoFn, TooLong, AppendOnly, TooBig}
use Rattle.plain_files.specs.Plain as plain_files
use Rattle.plain_files.specs.Plain.{State, is_too_long, early}
use Rattle.core_state.specs.State.{Page, Shape, Places}
use Rattle.core_state.specs.Reach.{file_word}
use Rattle.core_state.specs.PlainOf.{file_page, plain_of}
use Rattle.core_quick.proofs.Seen.{length_bytes}
use Rattle.system_state.specs.Cores.{names_of}
use Rattle.system_state.specs.declared.state.Function.{Function as FunctionRow}
use Rattle.call_checks.specs.Checks.{row_for, finds_none, lacks_function, sealed_or, len_or, is_append_only, end_of, early_by}
use Rattle.call_checks.proofs.Found.{plain_row, plain_seen, function_seen}

none_map : {A B : Type 0} (f : A → B) (o : Option A) → is_none (option_map f o) ≡ is_none o
none_map f None = refl
none_map f (Some x) = refl

module _ (shape : Shape) (table : Table) (functions : List FunctionRow) (places : Places) (pages : ℕ → Page) where
  abbrev s : State
  s = plain_of shape (names_of table functions) places pages

  abbrev P : FileRec → PlainFile
  P = plain_row places pages

  -- what stands for a file that is not there
  abbrev no_file : List ℕ → PlainFile
  no_file name = record { id = 0; name = name; bytes = []; sealed = false }

  sealed_seen : (name : List ℕ) (o : Option FileRec) → (unwrap_or (option_map P o) (no_file name)).sealed ≡ sealed_or o
  sealed_seen name None = refl
  sealed_seen name (Some f) = refl

  len_seen : (name : List ℕ) (o : Option FileRec) → length (unwrap_or (option_map P o) (no_file name)).bytes ≡ len_or o
  len_seen name None = refl
  len_seen name (Some f) = length_bytes f.len (file_page places pages f.id)

  lacks : (name : List ℕ) → plain_files.has_no_file s name ≡ is_none (file_named name table.files)
  lacks name = ap is_none (plain_seen places pages name table.files) ∙ none_map P (file_named name table.files)

  sealed : (name : List ℕ) → (plain_files.file_in s name).sealed ≡ sealed_or (file_named name table.files)
  sealed name = ap (λ (o : Option PlainFile). (unwrap_or o (no_file name)).sealed) (plain_seen places pages name table.files) ∙ sealed_seen name (file_named name table.files)

  len : (name : List ℕ) → length (plain_files.bytes_in s name) ≡ len_or (file_named name table.files)
  len name = ap (λ (o : Option PlainFile). length (unwrap_or o (no_file name)).bytes) (plain_seen places pages name table.files) ∙ len_seen name (file_named name table.files)

  file_is : (call : Call) → plain_files.lacks_file s call ≡ finds_none (file_word call) (row_for table.files call)
  file_is (OpenFile name) = lacks name
  file_is (Stat name) = lacks name
  file_is (Remove name) = lacks name
  file_is (Seal name) = lacks name
  file_is (Read name off n) = lacks name
  file_is (Write name off bytes) = lacks name
  file_is (Append name bytes) = lacks name
  file_is (Trunc name n) = lacks name
  file_is (Readl file off n function fuel cap param) = lacks file
  file_is (Writel file off n function fuel param input) = lacks file
  file_is (Create name) = refl
  file_is (Load name bytes) = refl
  file_is (Unload name) = refl
  file_is Sync = refl

  pub function_is : (call : Call) → plain_files.lacks_function s call ≡ lacks_function functions call
  function_is (Unload name) = function_seen name functions
  function_is (Readl file off n function fuel cap param) = function_seen function functions
  function_is (Writel file off n function fuel param input) = function_seen function functions
  function_is (OpenFile name) = refl
  function_is (Stat name) = refl
  function_is (Remove name) = refl
  function_is (Seal name) = refl
  function_is (Read name off n) = refl
  function_is (Write name off bytes) = refl
  function_is (Append name bytes) = refl
  function_is (Trunc name n) = refl
  function_is (Create name) = refl
  function_is (Load name bytes) = refl
  function_is Sync = refl

  sealed_is : (call : Call) → plain_files.is_append_only s call ≡ is_append_only call (row_for table.files call)
  sealed_is (Write name off bytes) = sealed name
  sealed_is (Trunc name n) = sealed name
  sealed_is (Writel file off n function fuel param input) = sealed file
  sealed_is (Readl file off n function fuel cap param) = refl
  sealed_is (OpenFile name) = refl
  sealed_is (Stat name) = refl
  sealed_is (Remove name) = refl
  sealed_is (Seal name) = refl
  sealed_is (Read name off n) = refl
  sealed_is (Append name bytes) = refl
  sealed_is (Create name) = refl
  sealed_is (Load name bytes) = refl
  sealed_is (Unload name) = refl
  sealed_is Sync = refl

  pub end_is : (call : Call) → plain_files.end_of s call ≡ end_of call (row_for table.files call)
  end_is (Write name off bytes) = refl
  end_is (Append name bytes) = ap (λ (n : ℕ). n + length bytes) (len name)
  end_is (Trunc name n) = refl
  end_is (Writel file off n function fuel param input) = refl
  end_is (Readl file off n function fuel cap param) = refl
  end_is (OpenFile name) = refl
  end_is (Stat name) = refl
  end_is (Remove name) = refl
  end_is (Seal name) = refl
  end_is (Read name off n) = refl
  end_is (Create name) = refl
  end_is (Load name bytes) = refl
  end_is (Unload name) = refl
  end_is Sync = refl

  pub early_is : (call : Call) → early_by call (row_for table.files call) (lacks_function functions call) ≡ early s call
  early_is call =
      let a = file_is call in
      let b = function_is call in
      let d = sealed_is call in
      let e = end_is call in
      sym (λ i. if is_too_long call then Some TooLong else if a i then Some NoFile else if b i then Some NoFn else if d i then Some AppendOnly else if nat_lt (2 ^ 28) (e i) then Some TooBig else None)

all_false : (a b d e f : Bool) → (if a then Some TooLong else if b then Some NoFile else if d then Some NoFn else if e then Some AppendOnly else if f then Some TooBig else None) ≡ None → (a ≡ false) × (b ≡ false) × (d ≡ false)
all_false true b d e f h = absurd (cc)
all_false false true d e f h = absurd (cc)
all_false false false true e f h = absurd (cc)
all_false false false false e f h = (refl, refl, refl)

-- a call that nothing refuses is within its limits, and its file and its function are there
pub first_test : (call : Call) (s : State) → early s call ≡ None → is_too_long call ≡ false
first_test call s e = (all_false (is_too_long call) (plain_files.lacks_file s call) (plain_files.lacks_function s call) (plain_files.is_append_only s call) (nat_lt (2 ^ 28) (plain_files.end_of s call)) e).0

pub file_test : (call : Call) (s : State) → early s call ≡ None → plain_files.lacks_file s call ≡ false
file_test call s e = (all_false (is_too_long call) (plain_files.lacks_file s call) (plain_files.lacks_function s call) (plain_files.is_append_only s call) (nat_lt (2 ^ 28) (plain_files.end_of s call)) e).1

pub function_test : (call : Call) (s : State) → early s call ≡ None → plain_files.lacks_function s call ≡ false
function_test call s e = (all_false (is_too_long call) (plain_files.lacks_file s call) (plain_files.lacks_function s call) (plain_files.is_append_only s call) (nat_lt (2 ^ 28) (plain_files.end_of s call)) e).2
