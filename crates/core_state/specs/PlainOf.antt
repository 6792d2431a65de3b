-- The plain state that a core stands for, and what Answer makes of a call there. This project's own.
use Rattle.std.specs.Prelude.{ℕ, ◌/◌, ◌%◌, Bool, true, false, List, length, map, get_or, replicate, Option, Some, None, bytes_eq, [], ◌==◌, ◌*◌, ◌+◌}
use Rattle.std.specs.List.{find}
use Rattle.page_base.specs.Bytes.{Cut}
use Rattle.sbpf_insn.specs.Machine as machine
use Rattle.sbpf_insn.specs.Machine.{Outcome}
use Rattle.plain_files.specs.declared.calls.Call.{Call}
use Rattle.plain_files.specs.declared.calls.Call.TheVariants.{Readl, Writel}
use Rattle.plain_files.specs.declared.calls.PlainFile.{PlainFile}
use Rattle.plain_files.specs.declared.calls.Reply.{Reply}
use Rattle.plain_files.specs.declared.calls.Reply.TheVariants.{Done, At, Val}
use Rattle.plain_files.specs.Plain as plain_files
use Rattle.plain_files.specs.Plain.{State, bytes_in, code_in, with_length, answer}
use Rattle.core_state.specs.Words.{from_fn}
use Rattle.core_state.specs.State.{Page, Shape, File, Function, Names, Places, Core}
use Rattle.core_state.specs.Contents.{contents, page_of}

-- byte i of a file is byte i mod 4,096 of its page i / 4,096
abbrev pub file_bytes : ℕ → (ℕ → Page) → List ℕ
file_bytes len page = from_fn len (λ i. get_or (page (i / 4096)) (i % 4096) 0)

-- the contents of a file's blocks, by its pages
abbrev pub file_page : Places → (ℕ → Page) → ℕ → ℕ → Page
file_page places pages id p = page_of pages (places id p)

-- the file's bytes: its blocks joined and cut to its length
abbrev pub plain_file : Places → (ℕ → Page) → File → PlainFile
plain_file places pages f =
    record { id = f.id; name = f.name; bytes = file_bytes f.len (file_page places pages f.id); sealed = f.sealed }

abbrev pub plain_function : Function → plain_files.Function
plain_function f = record { name = f.name; code = f.code }

abbrev pub plain_of : Shape → Names → Places → (ℕ → Page) → State
plain_of shape names places pages =
    record { files = map (plain_file places pages) names.files; next = names.next; functions = map plain_function names.functions; capacity = shape.blocks }

-- Plain
abbrev pub plain : Core → State
plain c = plain_of c.shape c.names c.places (contents c.blocks)

-- ---- what Answer makes of it

-- Run on the input and output that Answer builds for a call with a function; of any other call this is nothing
abbrev pub outcome_of : State → Call → Outcome
outcome_of s (Readl file off len function fuel cap param) =
    machine.run (code_in s function) (machine.shaped (Cut (bytes_in s file) off len) (replicate cap 0) param) fuel
outcome_of s (Writel file off len function fuel param input) =
    machine.run (code_in s function) (machine.shaped input (with_length (Cut (bytes_in s file) off len) len) param) fuel
outcome_of s _ = machine.Spent

-- the fuel that a run used, of so much
abbrev pub used_of : Outcome → ℕ → ℕ
used_of (machine.Ended r0 output used) fuel = used
used_of (machine.AccessTrap address size slot used) fuel = used
used_of (machine.DepthTrap slot used) fuel = used
used_of machine.Spent fuel = fuel

abbrev pub fuel_of : Call → ℕ
fuel_of (Readl file off len function fuel cap param) = fuel
fuel_of (Writel file off len function fuel param input) = fuel
fuel_of _ = 0

-- a call that changes bytes has done so
abbrev pub has_stored : Reply → Bool
has_stored Done = true
has_stored (At off) = true
has_stored (Val r0) = true
has_stored _ = false

-- the file of an id
abbrev pub plain_by_id : State → ℕ → Option PlainFile
plain_by_id s id = find (λ (f : PlainFile). f.id == id) s.files

abbrev pub bytes_or_none : Option PlainFile → List ℕ
bytes_or_none None = []
bytes_or_none (Some f) = f.bytes

-- the bytes of the file of an id, none where there is no such file
abbrev pub bytes_by_id : State → ℕ → List ℕ
bytes_by_id s id = bytes_or_none (plain_by_id s id)

-- page p of these bytes, with zeros past their end
abbrev pub page_at : List ℕ → ℕ → Page
page_at bytes p = from_fn 4096 (λ j. get_or bytes (4096 * p + j) 0)

abbrev pub e_or_none : Option Function → ℕ
e_or_none None = 0
e_or_none (Some f) = f.e

-- the e of a function of this name, 0 where there is none
abbrev pub e_in : List Function → List ℕ → ℕ
e_in functions name = e_or_none (find (λ (f : Function). bytes_eq f.name name) functions)

-- the names of a plain state: a function keeps its e, and that of a new one is 0
abbrev pub file_like : PlainFile → File
file_like f = record { id = f.id; name = f.name; len = length f.bytes; sealed = f.sealed }

abbrev pub function_like : List Function → plain_files.Function → Function
function_like old f = record { name = f.name; code = f.code; e = e_in old f.name }

abbrev pub names_like : State → Names → Names
names_like s old =
    record { files = map file_like s.files; next = s.next; functions = map (function_like old.functions) s.functions }
