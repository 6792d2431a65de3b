-- The script that the lines of a text spell, or the first line that is wrong. The grammar is this project's own.
-- Lines are judged one after the other; of one line, the faults come in the order in which its steps stand.
use Rattle.std.specs.Prelude.{ℕ, ◌+◌, ◌-◌, ◌^◌, List, [], ◌∷◌, ◌++◌, length, Bool, true, false, not, ◌&&◌, ◌||◌, ◌==◌, nat_lt, nat_le, codes, bytes_eq, if◌then◌else◌, slice_index, Option, Some, None, is_some, Result, Ok, Err}
use Rattle.std.specs.List.{list_all, list_any}
use Rattle.name_table.specs.Name.{is_name}
use Rattle.plain_files.specs.declared.calls.Call.{Call}
use Rattle.plain_files.specs.declared.calls.Request.{Request}
use Rattle.plain_files.specs.Steps.{◌>>=◌, refuse}
use Rattle.sbpf_text.specs.Lexing.{lines, is_line_byte, ends_with_colon, without_last}
use Rattle.call_text.specs.declared.faults.ScriptKind.{ScriptKind}
use Rattle.call_text.specs.declared.faults.ScriptKind.TheVariants as kind
use Rattle.call_text.specs.declared.faults.ScriptErr.{ScriptErr}
use Rattle.call_text.specs.declared.faults.ScriptErr.TheVariants as refusal
use Rattle.script_words.specs.declared.script.Lane.{Lane}
use Rattle.script_words.specs.declared.script.FaultLine.{FaultLine}
use Rattle.script_words.specs.declared.script.Script.{Script}
use Rattle.call_text.specs.declared.building.Await.{Await}
use Rattle.script_words.specs.Words.{words, number_in, is_lane, lane_of}
use Rattle.call_text.specs.Blocks.{Block, block_of, ends_block, assembled}
use Rattle.call_text.specs.Calls.{verb_of, or_fault, call_of}
use Rattle.call_text.specs.Limits.{has_call, bytes_behind, line_bytes}
use Rattle.script_words.specs.Lanes.{place_of, has_lane}
use Rattle.call_text.specs.Awaits.{awaited, await_of, without_await, is_called_later}

-- ---- what is read so far

-- The script, the awaits whose calls are still to come, the blocks and the call bytes; and of the block that is open, the
-- line where it begins, its name, and its lines so far, each with its end.
pub record Reading : Type 0 where
  pub lanes : List Lane
  pub order : List (ℕ × ℕ)
  pub faults : List FaultLine
  pub awaits : List Await
  pub blocks : List Block
  pub bytes : ℕ
  pub block : Option ℕ
  pub name : List ℕ
  pub text : List ℕ

-- nothing is read
abbrev pub nothing : Reading
nothing = record { lanes = []; order = []; faults = []; awaits = []; blocks = []; bytes = 0; block = None; name = []; text = [] }

-- the script that was read
abbrev pub script_of : Reading → Script
script_of s = record { lanes = s.lanes; order = s.order; faults = s.faults }

-- ---- lines with calls and awaits

-- the lanes, of which the one of the name has a request more
abbrev pub with_request : List ℕ → Request → List Lane → List Lane
with_request name request [] = record { name = name; requests = request ∷ [] } ∷ []
with_request name request (lane ∷ lanes) =
    if bytes_eq lane.name name then record lane { requests = lane.requests ++ request ∷ [] } ∷ lanes
    else lane ∷ with_request name request lanes

-- the lanes with one of the name
abbrev pub with_lane : List ℕ → List Lane → List Lane
with_lane name [] = record { name = name; requests = [] } ∷ []
with_lane name (lane ∷ lanes) = if bytes_eq lane.name name then lane ∷ lanes else lane ∷ with_lane name lanes

-- a call more; it takes its lane's await
abbrev pub with_call : Reading → List ℕ → Call → Reading
with_call s name call =
    let place = place_of name 0 s.lanes in
    let request : Request = record { call = call; awaits = await_of place.0 s.awaits } in
    record s {
      lanes = with_request name request s.lanes;
      order = s.order ++ (place.0, place.1 + 1) ∷ [];
      awaits = without_await place.0 s.awaits;
    }

-- an await more, of a lane's K-th call
abbrev pub with_await : Reading → List ℕ → ℕ × ℕ → Reading
with_await s name call =
    record s {
      lanes = with_lane name s.lanes;
      awaits = s.awaits ++ record { lane = (place_of name 0 s.lanes).0; call = call } ∷ [];
    }

-- an ill formed lane is told behind a wrong form, and ahead of all else
abbrev pub behind_lane : {A : Type 0} → Bool → Result A ScriptKind → Result A ScriptKind
behind_lane well_formed (Err kind.Line) = Err kind.Line
behind_lane true read = read
behind_lane false read = Err kind.Lane

-- the words of a call
unfoldable pub call_line : Reading → List ℕ → List ℕ → List (List ℕ) → Result Reading ScriptKind
call_line s name first args = do
  call ← behind_lane (is_lane name) (call_of s.blocks (verb_of first) args)
  Ok (with_call s name call)

-- `await L.K`: the call stands on an earlier line, the lane has no other await, and a later line calls for it
unfoldable pub await_line : Reading → List ℕ → List (List ℕ) → List (List ℕ) → Result Reading ScriptKind
await_line s name (call ∷ []) rest = do
  _ ← refuse (not (is_lane name)) kind.Lane
  place ← or_fault kind.Await (awaited s.lanes call)
  _ ← refuse (is_some (await_of (place_of name 0 s.lanes).0 s.awaits)) kind.Await
  _ ← refuse (not (is_called_later name false rest)) kind.Await
  Ok (with_await s name place)
await_line s name _ rest = Err kind.Line

-- a line whose first word is a lane with its colon, well formed or not
unfoldable pub lane_line : Reading → List ℕ → List (List ℕ) → List (List ℕ) → Result Reading ScriptKind
lane_line s name [] rest = Err kind.Line
lane_line s name (first ∷ args) rest =
    if bytes_eq first (codes "await") then await_line s name args rest else call_line s name first args

-- ---- `fault` lines

-- which of two words stands there: false for the first
unfoldable pub one_of : List ℕ → List ℕ → List ℕ → Result Bool ScriptKind
one_of first second word = if bytes_eq word first then Ok false else if bytes_eq word second then Ok true else Err kind.Line

-- a number within bounds
unfoldable pub number_from : ℕ → ℕ → List ℕ → Result ℕ ScriptKind
number_from low high word = or_fault kind.Number (number_in low high word)

-- `die D read N` and its kin, on line n, before the first lane
unfoldable pub fault_words : ℕ → Reading → List ℕ → List ℕ → List ℕ → List ℕ → Result Reading ScriptKind
fault_words n s which die way nth = do
  copy ← one_of (codes "die") (codes "copy") which
  writing ← one_of (codes "read") (codes "write") way
  _ ← refuse (nat_lt 0 (length s.lanes)) kind.Order
  d ← number_from 0 15 die
  k ← number_from 1 (2 ^ 32 - 1) nth
  Ok (record s { faults = s.faults ++ record { line = n; die = d; writing = writing; nth = k; copy = copy } ∷ [] })

unfoldable pub fault_line : ℕ → Reading → List (List ℕ) → Result Reading ScriptKind
fault_line n s (which ∷ die ∷ way ∷ nth ∷ []) = fault_words n s which die way nth
fault_line n s _ = Err kind.Line

-- ---- blocks

-- `NAME`: a block begins on line n, with its end on a later line
unfoldable pub func_line : ℕ → Reading → List (List ℕ) → List (List ℕ) → Result Reading ScriptKind
func_line n s (name ∷ []) rest = do
  _ ← refuse (not (list_any ends_block rest)) kind.Line
  _ ← refuse (not (is_name name) || is_some (block_of name s.blocks)) kind.Name
  Ok (record s { block = Some n; name = name; text = [] })
func_line n s _ rest = Err kind.Line

-- a line of the open block
unfoldable pub body_line : Reading → List ℕ → Result Reading ScriptKind
body_line s line = do
  _ ← refuse (not (list_all is_line_byte line)) kind.Char
  Ok (record s { text = s.text ++ line ++ 10 ∷ [] })

-- the line that ends the open block, which began on a line
unfoldable pub end_line : Reading → ℕ → Result Reading ScriptErr
end_line s line = do
  code ← assembled line s.text
  Ok (record s { blocks = s.blocks ++ record { name = s.name; code = code } ∷ []; block = None })

-- ---- lines

-- a comment, whose first word begins with `;` (59)
abbrev pub is_comment : List ℕ → Bool
is_comment first = slice_index first 0 == 59

-- line n outside the blocks, by its words, ahead of the rest; a blank line and a comment are passed over
unfoldable pub word_line : ℕ → Reading → List (List ℕ) → List (List ℕ) → Result Reading ScriptKind
word_line n s [] rest = Ok s
word_line n s (first ∷ more) rest =
    if is_comment first then Ok s
    else if bytes_eq first (codes "fault") then fault_line n s more
    else if bytes_eq first (codes "func") then func_line n s more rest
    else if ends_with_colon first then lane_line s (without_last first) more rest
    else Err kind.Line

-- the limits that the line of a well formed lane may break: the lane is the 33rd, its call is the 10,001st, or brings the
-- call bytes above 2^28
abbrev pub is_lane_past_limit : Reading → Option (List ℕ) → List (List ℕ) → Bool
is_lane_past_limit s None rest = false
is_lane_past_limit s (Some name) rest =
    (not (has_lane name s.lanes) && nat_le 32 (length s.lanes))
    || (has_call rest && nat_le 10000 (length s.order))
    || nat_lt (2 ^ 28) (s.bytes + bytes_behind s.blocks rest)

-- the same of any line, by its words, whatever else is wrong with it
abbrev pub is_past_limit : Reading → List (List ℕ) → Bool
is_past_limit s [] = false
is_past_limit s (first ∷ rest) = is_lane_past_limit s (lane_of first) rest

-- line n outside the blocks
unfoldable pub outside_line : ℕ → Reading → List ℕ → List (List ℕ) → Result Reading ScriptKind
outside_line n s line rest = do
  _ ← refuse (is_past_limit s (words line)) kind.Limit
  _ ← refuse (not (list_all is_line_byte line)) kind.Char
  t ← word_line n s (words line) rest
  Ok (record t { bytes = s.bytes + line_bytes s.blocks (words line) })

-- a line's fault, with its number
abbrev pub at_line : {A : Type 0} → ℕ → Result A ScriptKind → Result A ScriptErr
at_line n (Ok value) = Ok value
at_line n (Err kind) = Err (refusal.Script (record { line = n; kind = kind }))

-- line n, in the block that is open or outside
unfoldable pub line_in : Option ℕ → ℕ → Reading → List ℕ → List (List ℕ) → Result Reading ScriptErr
line_in None n s line rest = at_line n (outside_line n s line rest)
line_in (Some first) n s line rest = if ends_block line then end_line s first else at_line n (body_line s line)

-- the script with more lines, the first of them line n
abbrev pub read_lines : ℕ → Reading → List (List ℕ) → Result Reading ScriptErr
read_lines n s [] = Ok s
read_lines n s (line ∷ rest) = do
  more ← line_in s.block n s line rest
  read_lines (n + 1) more rest

-- the script of a text, which has at most 16 MiB; a longer one is refused at line 0
abbrev pub read_script : List ℕ → Result Script ScriptErr
read_script text = do
  _ ← refuse (nat_lt (2 ^ 24) (length text)) (refusal.Script (record { line = 0; kind = kind.Limit }))
  s ← read_lines 1 nothing (lines text)
  Ok (script_of s)
