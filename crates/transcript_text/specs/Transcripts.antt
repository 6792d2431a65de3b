-- The transcript that a text spells, or the first line that is refused. Its form is this project's own.
use Rattle.std.specs.Prelude.{ℕ, ◌+◌, ◌-◌, ◌^◌, List, [], ◌∷◌, ◌++◌, length, drop, Bool, true, false, not, ◌&&◌, ◌||◌, ◌==◌, nat_eq, nat_le, if◌then◌else◌, codes, bytes_eq, slice_index, slice_get, Option, Some, None, is_some, Result, Ok, Err}
use Rattle.std.specs.List.{slice_split, list_all, starts_with}
use Rattle.std.specs.Option.{option_map}
use Rattle.sbpf_insn.specs.declared.fault.InsnKind.TheVariants as insn_kind
use Rattle.sbpf_insn.specs.declared.fault.VerifyKind.TheVariants as verify_kind
use Rattle.plain_files.specs.declared.calls.CodeKind.{CodeKind}
use Rattle.plain_files.specs.declared.calls.CodeKind.TheVariants.{Insn, Verify}
use Rattle.plain_files.specs.declared.calls.Reply.{Reply}
use Rattle.plain_files.specs.declared.calls.Reply.TheVariants as reply
use Rattle.plain_files.specs.declared.calls.Request.{Request}
use Rattle.plain_files.specs.Allowed.{is_allowed}
use Rattle.sbpf_text.specs.Lexing.{lines, is_digit, without_last}
use Rattle.sbpf_text.specs.Numbers.{in_64_bits, value_of}
use Rattle.script_words.specs.declared.script.Lane.{Lane}
use Rattle.script_words.specs.Words.{number_in, hex_of}
use Rattle.script_words.specs.Lanes.{place_of, has_lane, lane_part, number_part}

-- the step behind, where there is a value
infixl 10 ◌>>=◌
abbrev pub ◌>>=◌ : {A B : Type 0} → Option A → (A → Option B) → Option B
None >>= f = None
(Some value) >>= f = f value

-- goes on only where the test holds
abbrev pub only_if : Bool → Option (Unit {0})
only_if test = if test then Some tt else None

-- ---- lines and their parts

-- the lines of a text; the last line end may be missing, and a text of no bytes has no lines
abbrev pub text_lines : List ℕ → List (List ℕ)
text_lines [] = []
text_lines (b ∷ bs) = if slice_index (b ∷ bs) (length bs) == 10 then lines (without_last (b ∷ bs)) else lines (b ∷ bs)

-- the parts of a line between its spaces (32)
abbrev pub is_space : ℕ → Bool
is_space b = b == 32

abbrev pub parts : List ℕ → List (List ℕ)
parts line = slice_split is_space line

-- ---- values

abbrev pub number_32 : List ℕ → Option ℕ
number_32 word = number_in 0 (2 ^ 32 - 1) word

abbrev pub number_64 : List ℕ → Option ℕ
number_64 word = number_in 0 (2 ^ 64 - 1) word

-- `0` to `9` and `a` to `f`
abbrev pub is_lower_digit : ℕ → Bool
is_lower_digit b = is_digit b || (nat_le 97 b && nat_le b 102)

-- lower-case hexadecimal digits without a leading zero, of a number below 2^64
abbrev pub lower_number : List ℕ → Option ℕ
lower_number [] = None
lower_number (b ∷ bs) =
    if list_all is_lower_digit (b ∷ bs) && (length bs == 0 || not (b == 48)) then in_64_bits (value_of 16 (b ∷ bs)) else None

-- an address: `0x` (48, 120) and such a number
abbrev pub address_of : List ℕ → Option ℕ
address_of (digit ∷ x ∷ digits) = if digit == 48 && x == 120 then lower_number digits else None
address_of _ = None

-- bytes in lower-case hexadecimal, `-` (45) for none
abbrev pub reply_bytes : List ℕ → Option (List ℕ)
reply_bytes [] = None
reply_bytes (b ∷ bs) =
    if bytes_eq (b ∷ bs) (codes "-") then Some []
    else if list_all is_lower_digit (b ∷ bs) then hex_of (b ∷ bs)
    else None

-- ---- replies

-- the kind of a code's fault
abbrev pub kind_of : List ℕ → Option CodeKind
kind_of word =
    if bytes_eq word (codes "truncated") then Some (Insn insn_kind.Truncated)
    else if bytes_eq word (codes "refused") then Some (Insn insn_kind.Refused)
    else if bytes_eq word (codes "opcode") then Some (Insn insn_kind.Opcode)
    else if bytes_eq word (codes "register") then Some (Insn insn_kind.Register)
    else if bytes_eq word (codes "field") then Some (Insn insn_kind.Field)
    else if bytes_eq word (codes "wide") then Some (Insn insn_kind.Wide)
    else if bytes_eq word (codes "empty") then Some (Verify verify_kind.Empty)
    else if bytes_eq word (codes "toolong") then Some (Verify verify_kind.TooLong)
    else if bytes_eq word (codes "writer10") then Some (Verify verify_kind.Writer10)
    else if bytes_eq word (codes "jump") then Some (Verify verify_kind.Jump)
    else if bytes_eq word (codes "middle") then Some (Verify verify_kind.Middle)
    else if bytes_eq word (codes "calltarget") then Some (Verify verify_kind.CallTarget)
    else if bytes_eq word (codes "fallsoff") then Some (Verify verify_kind.FallsOff)
    else None

-- a reply of one word
abbrev pub reply_word : List ℕ → Option Reply
reply_word word =
    if bytes_eq word (codes "ok") then Some reply.Done
    else if bytes_eq word (codes "spent") then Some reply.Spent
    else if bytes_eq word (codes "badname") then Some reply.BadName
    else if bytes_eq word (codes "exists") then Some reply.Exists
    else if bytes_eq word (codes "full") then Some reply.Full
    else if bytes_eq word (codes "nofile") then Some reply.NoFile
    else if bytes_eq word (codes "nofn") then Some reply.NoFn
    else if bytes_eq word (codes "toolong") then Some reply.TooLong
    else if bytes_eq word (codes "appendonly") then Some reply.AppendOnly
    else if bytes_eq word (codes "toobig") then Some reply.TooBig
    else if bytes_eq word (codes "nospace") then Some reply.NoSpace
    else if bytes_eq word (codes "fnfull") then Some reply.FnFull
    else if bytes_eq word (codes "fault") then Some reply.Fault
    else if bytes_eq word (codes "nomemory") then Some reply.NoMemory
    else None

-- a reply with a value: `id I` and its kin
unfoldable pub reply_value : List ℕ → List ℕ → Option Reply
reply_value word value =
    if bytes_eq word (codes "id") then option_map (λ id. reply.Id id) (number_32 value)
    else if bytes_eq word (codes "len") then option_map (λ len. reply.Len len) (number_64 value)
    else if bytes_eq word (codes "val") then option_map (λ r0. reply.Val r0) (number_64 value)
    else if bytes_eq word (codes "at") then option_map (λ off. reply.At off) (number_64 value)
    else if bytes_eq word (codes "data") then option_map (λ bytes. reply.DataBytes bytes) (reply_bytes value)
    else if bytes_eq word (codes "res") then option_map (λ bytes. reply.Res bytes) (reply_bytes value)
    else None

-- `depth SLOT` and `outlen R0`
unfoldable pub trap_value : List ℕ → List ℕ → Option Reply
trap_value word value =
    if bytes_eq word (codes "depth") then option_map (λ slot. reply.TrapDepth slot) (number_32 value)
    else if bytes_eq word (codes "outlen") then option_map (λ r0. reply.TrapOutLen r0) (number_64 value)
    else None

-- `KIND SLOT`
unfoldable pub bad_code : List ℕ → List ℕ → Option Reply
bad_code kind slot = do
  k ← kind_of kind
  s ← number_32 slot
  Some (reply.BadCode k s)

-- a reply with two words behind its first
unfoldable pub reply_pair : List ℕ → List ℕ → List ℕ → Option Reply
reply_pair word first second =
    if bytes_eq word (codes "trap") then trap_value first second
    else if bytes_eq word (codes "badcode") then bad_code first second
    else None

-- `0xADDRESS SIZE SLOT`
unfoldable pub trap_access : List ℕ → List ℕ → List ℕ → Option Reply
trap_access address size slot = do
  a ← address_of address
  n ← number_32 size
  s ← number_32 slot
  Some (reply.TrapAccess a n s)

-- `trap access` and its words
abbrev pub trap_line : List ℕ → List ℕ → List ℕ → List ℕ → List ℕ → Option Reply
trap_line word which address size slot =
    if bytes_eq word (codes "trap") && bytes_eq which (codes "access") then trap_access address size slot else None

-- the reply of the parts of a line behind its number and call
unfoldable pub reply_of : List (List ℕ) → Option Reply
reply_of (word ∷ []) = reply_word word
reply_of (word ∷ value ∷ []) = reply_value word value
reply_of (word ∷ first ∷ second ∷ []) = reply_pair word first second
reply_of (word ∷ which ∷ address ∷ size ∷ slot ∷ []) = trap_line word which address size slot
reply_of _ = None

-- ---- lines

-- `#N` (`#` is 35), with this number
abbrev pub is_number : ℕ → List ℕ → Bool
is_number n [] = false
is_number n (hash ∷ digits) = hash == 35 && is_some (number_in n n digits)

-- the lane has no such call, or the reply's form belongs to it
abbrev pub is_allowed_at : Option Request → Reply → Bool
is_allowed_at None given = true
is_allowed_at (Some request) given = is_allowed request.call given

-- the requests of a lane by its number
abbrev pub lane_requests : Option Lane → List Request
lane_requests None = []
lane_requests (Some lane) = lane.requests

abbrev pub request_at : List Lane → ℕ → ℕ → Option Request
request_at lanes lane k = slice_get (lane_requests (slice_get lanes lane)) (k - 1)

-- a lane, the number of a call in it from 1, and the call's reply
abbrev pub Entry : Type 0
Entry = ℕ × ℕ × Reply

-- `LANE.K`, with a lane of the script
unfoldable pub call_at : List Lane → List ℕ → Option (ℕ × ℕ)
call_at lanes word = do
  _ ← only_if (has_lane (lane_part word) lanes)
  k ← number_in 1 (2 ^ 32 - 1) (number_part word)
  Some ((place_of (lane_part word) 0 lanes).0, k)

-- the parts of line n: `#N LANE.K REPLY`
unfoldable pub entry_parts : List Lane → ℕ → List (List ℕ) → Option Entry
entry_parts lanes n (number ∷ call ∷ words) = do
  _ ← only_if (is_number n number)
  place ← call_at lanes call
  given ← reply_of words
  _ ← only_if (is_allowed_at (request_at lanes place.0 place.1) given)
  Some (place.0, place.1, given)
entry_parts lanes n _ = None

-- a name, and a count
unfoldable pub is_count : List ℕ → List ℕ → Bool
is_count name word = starts_with nat_eq word name && is_some (number_64 (drop (length name) word))

-- `places host=A drive=B reads=R writes=W`
unfoldable pub are_places : List ℕ → List ℕ → List ℕ → List ℕ → List ℕ → Bool
are_places places host drive reads writes =
    bytes_eq places (codes "places") && is_count (codes "host=") host && is_count (codes "drive=") drive
    && is_count (codes "reads=") reads && is_count (codes "writes=") writes

unfoldable pub is_places : List (List ℕ) → Bool
is_places (places ∷ host ∷ drive ∷ reads ∷ writes ∷ []) = are_places places host drive reads writes
is_places _ = false

-- the end of a transcript is line n: no line stands behind it
abbrev pub at_end : ℕ → List Entry → List (List ℕ) → Result (List Entry) ℕ
at_end n entries [] = Ok entries
at_end n entries (line ∷ rest) = Err (n + 1)

-- goes on with a value, or refuses line n
abbrev pub or_refused : {A B : Type 0} → ℕ → Option A → (A → Result B ℕ) → Result B ℕ
or_refused n None next = Err n
or_refused n (Some value) next = next value

-- the entries so far and those of more lines, the first of them line n; or the line that is refused
abbrev pub read_entries : List Lane → ℕ → List Entry → List (List ℕ) → Result (List Entry) ℕ
read_entries lanes n entries [] = Err n
read_entries lanes n entries (line ∷ rest) =
    if is_places (parts line) then at_end n entries rest
    else or_refused n (entry_parts lanes n (parts line)) (λ entry. read_entries lanes (n + 1) (entries ++ entry ∷ []) rest)

-- the transcript of a text over the lanes of a script
abbrev pub read_transcript : List ℕ → List Lane → Result (List Entry) ℕ
read_transcript text lanes = read_entries lanes 1 [] (text_lines text)
