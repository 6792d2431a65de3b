-- The call that the words of a line spell behind the lane, or what is wrong with them. The grammar is this project's own.
-- The faults of a form are tried in the order in which its steps stand: words of no form, numbers, bytes, names, blocks.
use Rattle.std.specs.Prelude.{ℕ, ◌^◌, ◌-◌, List, [], ◌∷◌, length, nat_le, if◌then◌else◌, codes, bytes_eq, Option, Some, None, Result, Ok, Err}
use Rattle.plain_files.specs.declared.calls.Call.{Call}
use Rattle.plain_files.specs.declared.calls.Call.TheVariants.{Create, OpenFile, Stat, Remove, Read, Write, Append, Trunc, Seal, Load, Unload, Readl, Writel, Sync}
use Rattle.plain_files.specs.Steps.{◌>>=◌}
use Rattle.call_text.specs.declared.faults.ScriptKind.{ScriptKind}
use Rattle.call_text.specs.declared.faults.ScriptKind.TheVariants as kind
use Rattle.call_text.specs.declared.verb.Verb.{Verb}
use Rattle.call_text.specs.declared.verb.Verb.TheVariants as verb
use Rattle.script_words.specs.Words.{number_in, bytes_of, code_of}
use Rattle.call_text.specs.Blocks.{Block, block_of}

-- the first word of a call
unfoldable pub verb_of : List ℕ → Option Verb
verb_of word =
    if bytes_eq word (codes "create") then Some verb.Create
    else if bytes_eq word (codes "open") then Some verb.Open
    else if bytes_eq word (codes "stat") then Some verb.Stat
    else if bytes_eq word (codes "remove") then Some verb.Remove
    else if bytes_eq word (codes "read") then Some verb.Read
    else if bytes_eq word (codes "write") then Some verb.Write
    else if bytes_eq word (codes "append") then Some verb.Append
    else if bytes_eq word (codes "trunc") then Some verb.Trunc
    else if bytes_eq word (codes "seal") then Some verb.Seal
    else if bytes_eq word (codes "load") then Some verb.Load
    else if bytes_eq word (codes "unload") then Some verb.Unload
    else if bytes_eq word (codes "readl") then Some verb.Readl
    else if bytes_eq word (codes "writel") then Some verb.Writel
    else if bytes_eq word (codes "sync") then Some verb.Sync
    else None

-- a value, or this fault
abbrev pub or_fault : {A : Type 0} → ScriptKind → Option A → Result A ScriptKind
or_fault fault None = Err fault
or_fault fault (Some value) = Ok value

-- a word in a number's place: a number below 2^64
unfoldable pub number_at : List ℕ → Result ℕ ScriptKind
number_at word = or_fault kind.Number (number_in 0 (2 ^ 64 - 1) word)

-- a word in the place of bytes
unfoldable pub bytes_at : List ℕ → Result (List ℕ) ScriptKind
bytes_at word = or_fault kind.Bytes (bytes_of word)

-- a word behind `code`
unfoldable pub code_at : List ℕ → Result (List ℕ) ScriptKind
code_at word = or_fault kind.Bytes (code_of word)

-- a block's name
unfoldable pub block_at : List Block → List ℕ → Result (List ℕ) ScriptKind
block_at blocks name = or_fault kind.Func (block_of name blocks)

-- a word in a name's place: any word of at most 128 bytes
unfoldable pub name_at : List ℕ → Result (List ℕ) ScriptKind
name_at word = if nat_le (length word) 128 then Ok word else Err kind.Name

-- nothing
unfoldable pub no_words : List (List ℕ) → Result Call ScriptKind
no_words [] = Ok Sync
no_words _ = Err kind.Line

-- NAME
unfoldable pub one_name : List (List ℕ) → Result (List ℕ) ScriptKind
one_name (word ∷ []) = name_at word
one_name _ = Err kind.Line

-- NAME OFF LEN
unfoldable pub read_of : List (List ℕ) → Result Call ScriptKind
read_of (word ∷ off ∷ len ∷ []) = do
  from ← number_at off
  count ← number_at len
  name ← name_at word
  Ok (Read name from count)
read_of _ = Err kind.Line

-- NAME OFF BYTES
unfoldable pub write_of : List (List ℕ) → Result Call ScriptKind
write_of (word ∷ off ∷ text ∷ []) = do
  from ← number_at off
  bytes ← bytes_at text
  name ← name_at word
  Ok (Write name from bytes)
write_of _ = Err kind.Line

-- NAME BYTES
unfoldable pub append_of : List (List ℕ) → Result Call ScriptKind
append_of (word ∷ text ∷ []) = do
  bytes ← bytes_at text
  name ← name_at word
  Ok (Append name bytes)
append_of _ = Err kind.Line

-- NAME LEN
unfoldable pub trunc_of : List (List ℕ) → Result Call ScriptKind
trunc_of (word ∷ len ∷ []) = do
  count ← number_at len
  name ← name_at word
  Ok (Trunc name count)
trunc_of _ = Err kind.Line

-- NAME `code` DIGITS
unfoldable pub load_digits : List ℕ → List ℕ → Result Call ScriptKind
load_digits word digits = do
  code ← code_at digits
  name ← name_at word
  Ok (Load name code)

-- NAME `func` BLOCK
unfoldable pub load_block : List Block → List ℕ → List ℕ → Result Call ScriptKind
load_block blocks word block = do
  name ← name_at word
  called ← name_at block
  code ← block_at blocks called
  Ok (Load name code)

-- NAME CODE
unfoldable pub load_of : List Block → List (List ℕ) → Result Call ScriptKind
load_of blocks (word ∷ how ∷ code ∷ []) =
    if bytes_eq how (codes "code") then load_digits word code
    else if bytes_eq how (codes "func") then load_block blocks word code
    else Err kind.Line
load_of blocks _ = Err kind.Line

-- FILE OFF LEN FN FUEL CAP PARAM
unfoldable pub readl_words : List ℕ → List ℕ → List ℕ → List ℕ → List ℕ → List ℕ → List ℕ → Result Call ScriptKind
readl_words file off len function fuel cap param = do
  from ← number_at off
  count ← number_at len
  units ← number_at fuel
  room ← number_at cap
  bytes ← bytes_at param
  name ← name_at file
  run ← name_at function
  Ok (Readl name from count run units room bytes)

unfoldable pub readl_of : List (List ℕ) → Result Call ScriptKind
readl_of (file ∷ off ∷ len ∷ function ∷ fuel ∷ cap ∷ param ∷ []) = readl_words file off len function fuel cap param
readl_of _ = Err kind.Line

-- FILE OFF LEN FN FUEL PARAM INPUT
unfoldable pub writel_words : List ℕ → List ℕ → List ℕ → List ℕ → List ℕ → List ℕ → List ℕ → Result Call ScriptKind
writel_words file off len function fuel param input = do
  from ← number_at off
  count ← number_at len
  units ← number_at fuel
  bytes ← bytes_at param
  given ← bytes_at input
  name ← name_at file
  run ← name_at function
  Ok (Writel name from count run units bytes given)

unfoldable pub writel_of : List (List ℕ) → Result Call ScriptKind
writel_of (file ∷ off ∷ len ∷ function ∷ fuel ∷ param ∷ input ∷ []) = writel_words file off len function fuel param input
writel_of _ = Err kind.Line

-- a call that has a name alone
abbrev pub named : (List ℕ → Call) → Result (List ℕ) ScriptKind → Result Call ScriptKind
named make name = name >>= λ n. Ok (make n)

-- the call of a first word and the words behind it
unfoldable pub call_with : List Block → Verb → List (List ℕ) → Result Call ScriptKind
call_with blocks verb.Create args = named Create (one_name args)
call_with blocks verb.Open args = named OpenFile (one_name args)
call_with blocks verb.Stat args = named Stat (one_name args)
call_with blocks verb.Remove args = named Remove (one_name args)
call_with blocks verb.Read args = read_of args
call_with blocks verb.Write args = write_of args
call_with blocks verb.Append args = append_of args
call_with blocks verb.Trunc args = trunc_of args
call_with blocks verb.Seal args = named Seal (one_name args)
call_with blocks verb.Load args = load_of blocks args
call_with blocks verb.Unload args = named Unload (one_name args)
call_with blocks verb.Readl args = readl_of args
call_with blocks verb.Writel args = writel_of args
call_with blocks verb.Sync args = no_words args

-- the call of a line's words behind the lane, where the first of them is the first word of a call
unfoldable pub call_of : List Block → Option Verb → List (List ℕ) → Result Call ScriptKind
call_of blocks None args = Err kind.Line
call_of blocks (Some first) args = call_with blocks first args
