-- What a call meets in its file: the span and the locked range, by its request and the file's length. This project's own.
use Rattle.std.specs.Prelude.{ℕ, ◌+◌, ◌-◌, ◌*◌, ◌/◌, ◌%◌, ◌==◌, nat_lt, nat_le, not, ◌&&◌, Bool, true, false, List, length, min, if◌then◌else◌, bytes_eq, Option, Some, None}
use Rattle.std.specs.List.{find}
use Rattle.page_base.specs.Bytes.{Pages}
use Rattle.dispatcher.specs.declared.side.Side.{Side}
use Rattle.plain_files.specs.declared.calls.Call.{Call}
use Rattle.plain_files.specs.declared.calls.Call.TheVariants.{OpenFile, Stat, Remove, Read, Write, Append, Trunc, Seal, Readl, Writel, Sync}
use Rattle.plain_files.specs.declared.calls.Request.{Request}
use Rattle.core_state.specs.State.{File, Function, Mode, Shared, Exclusive, Reach, Claim}

-- ---- kinds of calls

-- a call that runs a function
abbrev pub is_lambda : Call → Bool
is_lambda (Readl file off len function fuel cap param) = true
is_lambda (Writel file off len function fuel param input) = true
is_lambda _ = false

abbrev pub is_data : Call → Bool
is_data (Read name off len) = true
is_data (Write name off bytes) = true
is_data (Append name bytes) = true
is_data (Trunc name len) = true
is_data call = is_lambda call

abbrev pub is_sync : Call → Bool
is_sync Sync = true
is_sync _ = false

abbrev pub is_trunc : Call → Bool
is_trunc (Trunc name len) = true
is_trunc _ = false

abbrev pub is_read : Call → Bool
is_read (Read name off len) = true
is_read (Readl file off len function fuel cap param) = true
is_read _ = false

-- the word in the place of a file's name
abbrev pub file_word : Call → Option (List ℕ)
file_word (OpenFile name) = Some name
file_word (Stat name) = Some name
file_word (Remove name) = Some name
file_word (Seal name) = Some name
file_word (Read name off len) = Some name
file_word (Write name off bytes) = Some name
file_word (Append name bytes) = Some name
file_word (Trunc name len) = Some name
file_word (Readl file off len function fuel cap param) = Some file
file_word (Writel file off len function fuel param input) = Some file
file_word _ = None

-- the name of the function that the call runs
abbrev pub function_word : Call → Option (List ℕ)
function_word (Readl file off len function fuel cap param) = Some function
function_word (Writel file off len function fuel param input) = Some function
function_word _ = None

abbrev pub file_by : List File → Option (List ℕ) → Option File
file_by files None = None
file_by files (Some name) = find (λ f. bytes_eq f.name name) files

abbrev pub function_by : List Function → Option (List ℕ) → Option Function
function_by functions None = None
function_by functions (Some name) = find (λ f. bytes_eq f.name name) functions

-- the file that a call is about, if it is there
abbrev pub file_for : List File → Call → Option File
file_for files call = file_by files (file_word call)

abbrev pub function_for : List Function → Call → Option Function
function_for functions call = function_by functions (function_word call)

abbrev pub id_or_none : Option File → ℕ
id_or_none None = 0
id_or_none (Some f) = f.id

abbrev pub len_or_none : Option File → ℕ
len_or_none None = 0
len_or_none (Some f) = f.len

-- the first of a shared call, the second of an exclusive one
abbrev pub by_mode : {A : Type 0} → Mode → A → A → A
by_mode Shared x y = x
by_mode Exclusive x y = y

abbrev pub is_exclusive : Mode → Bool
is_exclusive mode = by_mode mode false true

-- ---- the reach

-- ranges end before page 65,536 + 1
abbrev pub range_end : ℕ
range_end = 65537

-- nothing is locked, and there is no span
abbrev pub no_reach : Reach
no_reach = record { mode = Shared; from = 0; to = 0; first = 0; pages = 0; begin = 0; end = 0 }

-- The bytes asked for are n from off on. Their pages are locked, up to page 65,536; the span is those of them that the file has.
abbrev pub read_reach : ℕ → ℕ → ℕ → Reach
read_reach off n len =
    if n == 0
    then no_reach
    else record {
      mode = Shared;
      from = off / 4096;
      to = min (Pages (off + n)) range_end;
      first = off / 4096;
      pages = min (Pages (off + n)) (Pages len) - off / 4096;
      begin = off;
      end = off + n;
    }

-- The call's bytes are n at off. Their pages are the span, and are locked; where they end past the file's end, so are the
-- pages between, from that of the old length on.
abbrev pub write_reach : ℕ → ℕ → ℕ → Reach
write_reach off n len =
    if n == 0
    then no_reach
    else record {
      mode = Exclusive;
      from = if nat_lt len (off + n) then min (off / 4096) (len / 4096) else off / 4096;
      to = Pages (off + n);
      first = off / 4096;
      pages = Pages (off + n) - off / 4096;
      begin = off;
      end = off + n;
    }

-- All from the lower of both lengths on is locked, page 65,536 too. The span is the page of the new end, if a part of it is cut off.
abbrev pub trunc_reach : ℕ → ℕ → Reach
trunc_reach n len =
    record {
      mode = Exclusive;
      from = min n len / 4096;
      to = range_end;
      first = n / 4096;
      pages = if nat_lt n len && not (n % 4096 == 0) then 1 else 0;
      begin = n;
      end = n;
    }

-- of a call on a file of this length; the offset of `append` is the length
abbrev pub reach_of : Call → ℕ → Reach
reach_of (Read name off n) len = read_reach off n len
reach_of (Write name off bytes) len = write_reach off (length bytes) len
reach_of (Append name bytes) len = write_reach len (length bytes) len
reach_of (Trunc name n) len = trunc_reach n len
reach_of (Readl file off n function fuel cap param) len = read_reach off n len
reach_of (Writel file off n function fuel param input) len = write_reach off n len
reach_of _ len = no_reach

-- what Begin fixes of a call at a side
abbrev pub claim_on : Option File → Request → Side → Claim
claim_on found request side =
    record { request = request; file = id_or_none found; side = side; reach = reach_of request.call (len_or_none found) }

abbrev pub claim_for : List File → Request → Side → Claim
claim_for files request side = claim_on (file_for files request.call) request side

-- ---- words on claims

-- the bytes cover this page of the file as a whole
abbrev pub covers : Reach → ℕ → Bool
covers reach page = nat_le reach.begin (4096 * page) && nat_le (4096 * (page + 1)) reach.end

-- whether the call gathers the i-th page of its span: `write` and `append` gather those that they cover in part, others all
abbrev pub gathers : Call → Reach → ℕ → Bool
gathers (Write name off bytes) reach i = not (covers reach (reach.first + i))
gathers (Append name bytes) reach i = not (covers reach (reach.first + i))
gathers _ reach i = true

-- a data call holds its file against `remove` and `seal`
abbrev pub holds_file : Claim → ℕ → Bool
holds_file claim id = is_data claim.request.call && (claim.file == id)

abbrev pub word_is : Option (List ℕ) → List ℕ → Bool
word_is None name = false
word_is (Some word) name = bytes_eq word name

abbrev pub uses_function : Claim → List ℕ → Bool
uses_function claim name = word_is (function_word claim.request.call) name

-- the call puts bytes past the file's end
abbrev pub lengthens : Claim → ℕ → Bool
lengthens claim len = is_exclusive claim.reach.mode && nat_lt len claim.reach.end
