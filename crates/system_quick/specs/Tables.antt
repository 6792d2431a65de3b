-- What calls that need no page make of the tables of files and functions. This project's own.
use Rattle.std.specs.Prelude.{◌≡◌, ℕ, Bool, true, false, not, nat_le, bytes_eq, if◌then◌else◌, List, [], ◌∷◌, ◌++◌, length, Option, Some, None, is_some, Result, Ok, Err}
use Rattle.std.specs.List.{find}
use Rattle.name_table.specs.Name.{is_name}
use Rattle.name_table.specs.declared.files.FileRec.{FileRec}
use Rattle.name_table.specs.declared.files.NameErr.{NameErr}
use Rattle.name_table.specs.declared.files.NameErr.TheVariants as name_err
use Rattle.name_table.specs.Files.{Table, file_named, without, created, after_create}
use Rattle.sbpf_insn.specs.declared.insn.Insn.{Insn}
use Rattle.image_format.specs.declared.meta.Meta.{Meta}
use Rattle.plain_files.specs.declared.calls.Call.{Call}
use Rattle.plain_files.specs.declared.calls.Call.TheVariants.{Load}
use Rattle.plain_files.specs.declared.calls.Reply.{Reply}
use Rattle.plain_files.specs.declared.calls.Reply.TheVariants.{Id, Len, Done, BadName, Exists, Full, NoFile, FnFull, BadCode, NoMemory}
use Rattle.plain_files.specs.Steps.{◌>>=◌, refuse}
use Rattle.plain_files.specs.Plain.{accepted_code}
use Rattle.core_state.specs.State.{Function}
use Rattle.system_blocks.specs.Spans.{resized, renewed_by, unmarked}
use Rattle.system_quick.specs.declared.functions.Loading.{Loading}
use Rattle.system_quick.specs.declared.functions.Loading.TheVariants.{Nothing, Accepted, Refused}

-- ---- files

-- the reply to `open`, and that to `stat`
abbrev pub id_reply : Option FileRec → Reply
id_reply None = NoFile
id_reply (Some f) = Id f.id

abbrev pub len_reply : Option FileRec → Reply
len_reply None = NoFile
len_reply (Some f) = Len f.len

-- the reply to `create`, where the word is a name
abbrev pub made_reply : Result ℕ NameErr → Reply
made_reply (Ok id) = Id id
made_reply (Err (name_err.Exists id)) = Exists
made_reply (Err (name_err.Full files next)) = Full

abbrev pub create_reply : Table → List ℕ → Reply
create_reply t word = if is_name word then made_reply (created t (file_named word t.files)) else BadName

abbrev pub create_table : Table → List ℕ → Table
create_table t word = if is_name word then after_create t word (created t (file_named word t.files)) else t

-- there is a file, and it isn't sealed
abbrev pub unsealed_row : Option FileRec → Bool
unsealed_row None = false
unsealed_row (Some f) = not f.sealed

-- a file is sealed
abbrev pub sealing : FileRec → FileRec
sealing f = record f { sealed = true }

-- the tables without a file that had so many pages: its blocks are released, and not written
abbrev pub removed_from : ℕ → ℕ → Meta → Meta
removed_from id pages m =
    record m {
      names = record m.names { files = without id m.names.files };
      extents = resized m.extents id pages 0;
      written = renewed_by m.extents id pages 0 unmarked m.written;
    }

-- ---- functions

-- what decoding gave: the code, or the reply that refuses it. Nothing stands where there is no code to load.
abbrev pub told : Loading → Result (List Insn) Reply
told Nothing = Err NoMemory
told (Accepted code) = Ok code.insns
told (Refused kind slot) = Err (BadCode kind slot)

-- the reply that refuses it, if there is one
abbrev pub refusal_of : {A : Type 0} → Result A Reply → Option Reply
refusal_of (Ok x) = None
refusal_of (Err reply) = Some reply

-- it is what the bytes of a `load` give; other calls load nothing
abbrev pub IsDecoded : Call → Loading → Type 0
IsDecoded (Load name bytes) loading = told loading ≡ accepted_code bytes
IsDecoded call loading = Unit {0}

abbrev pub has_name : List ℕ → Function → Bool
has_name name f = bytes_eq f.name name

-- the functions with one more, which has run never, or the reply that refuses it
abbrev pub loaded : List Function → List ℕ → Result (List Insn) Reply → Result (List Function) Reply
loaded functions name code = do
  _ ← refuse (not (is_name name)) BadName
  insns ← code
  _ ← refuse (is_some (find (has_name name) functions)) Exists
  _ ← refuse (nat_le 64 (length functions)) FnFull
  Ok (functions ++ record { name = name; code = insns; e = 0 } ∷ [])

abbrev pub load_reply : Result (List Function) Reply → Reply
load_reply (Ok functions) = Done
load_reply (Err reply) = reply

abbrev pub load_functions : List Function → Result (List Function) Reply → List Function
load_functions old (Ok functions) = functions
load_functions old (Err reply) = old
