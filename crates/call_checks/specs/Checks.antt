-- What the tables of files and functions tell of a call before it begins. This project's own.
--
-- `early_by` is `early` of plain files with the look-ups made beforehand; the law `early_is` says that they agree.
use Rattle.std.specs.Prelude.{ℕ, ◌+◌, ◌^◌, List, length, Bool, false, nat_lt, bytes_eq, if◌then◌else◌, Option, Some, None, is_none}
use Rattle.std.specs.List.{find}
use Rattle.name_table.specs.declared.files.FileRec.{FileRec}
use Rattle.name_table.specs.Files.{file_named}
use Rattle.plain_files.specs.declared.calls.Call.{Call}
use Rattle.plain_files.specs.declared.calls.Call.TheVariants.{Write, Append, Trunc, Unload, Readl, Writel}
use Rattle.plain_files.specs.declared.calls.Reply.{Reply}
use Rattle.plain_files.specs.declared.calls.Reply.TheVariants.{NoFile, NoFn, TooLong, AppendOnly, TooBig}
use Rattle.plain_files.specs.Plain.{is_too_long}
use Rattle.core_state.specs.Reach.{file_word}
use Rattle.system_state.specs.declared.state.Function.{Function}

-- the file of a word in the place of a file's name, if it is there
abbrev pub row_by : List FileRec → Option (List ℕ) → Option FileRec
row_by files None = None
row_by files (Some word) = file_named word files

abbrev pub row_for : List FileRec → Call → Option FileRec
row_for files call = row_by files (file_word call)

-- the function of a name, if it is there
abbrev pub function_by : List Function → List ℕ → Option Function
function_by functions word = find (λ f. bytes_eq f.name word) functions

-- a word that finds nothing
abbrev pub finds_none : {A : Type 0} → Option (List ℕ) → Option A → Bool
finds_none None found = false
finds_none (Some word) found = is_none found

-- the call asks for a function that is not there
abbrev pub lacks_function : List Function → Call → Bool
lacks_function functions (Unload name) = is_none (function_by functions name)
lacks_function functions (Readl file off len function fuel cap param) = is_none (function_by functions function)
lacks_function functions (Writel file off len function fuel param input) = is_none (function_by functions function)
lacks_function functions _ = false

abbrev pub sealed_or : Option FileRec → Bool
sealed_or None = false
sealed_or (Some f) = f.sealed

abbrev pub len_or : Option FileRec → ℕ
len_or None = 0
len_or (Some f) = f.len

abbrev pub id_or : Option FileRec → ℕ
id_or None = 0
id_or (Some f) = f.id

-- the call would change bytes of its file, which is sealed
abbrev pub is_append_only : Call → Option FileRec → Bool
is_append_only (Write name off bytes) file = sealed_or file
is_append_only (Trunc name len) file = sealed_or file
is_append_only (Writel name off len function fuel param input) file = sealed_or file
is_append_only _ file = false

-- where the bytes that the call puts into its file end
abbrev pub end_of : Call → Option FileRec → ℕ
end_of (Write name off bytes) file = off + length bytes
end_of (Append name bytes) file = len_or file + length bytes
end_of (Trunc name len) file = len
end_of (Writel name off len function fuel param input) file = off + len
end_of _ file = 0

-- the refusal that comes first, by the file that is found and whether a function is lacking
abbrev pub early_by : Call → Option FileRec → Bool → Option Reply
early_by call file lacking =
    if is_too_long call then Some TooLong
    else if finds_none (file_word call) file then Some NoFile
    else if lacking then Some NoFn
    else if is_append_only call file then Some AppendOnly
    else if nat_lt (2 ^ 28) (end_of call file) then Some TooBig
    else None
