-- Transcripts by their entries: the text of some entries, and which entries can be read. It is this project's own.
use Rattle.std.specs.Prelude.{◌≡◌, ⊤, ℕ, ◌+◌, ◌≤◌, ◌<◌, ◌^◌, List, [], ◌∷◌, ◌++◌, length, true, bytes_eq, slice_get, unwrap_or, IsTrue}
use Rattle.std.specs.List.{IsDistinct, AllByRecursion}
use Rattle.hex.specs.Hex.{IsBytes}
use Rattle.plain_files.specs.declared.calls.Reply.{Reply}
use Rattle.plain_files.specs.declared.calls.Reply.TheVariants.{Id, Len, Val, At, DataBytes, Res, TrapAccess, TrapDepth, TrapOutLen, BadCode}
use Rattle.plain_files.specs.History as history
use Rattle.script_words.specs.declared.script.Lane.{Lane}
use Rattle.script_words.specs.Words.{is_lane}
use Rattle.script_words.specs.Lanes.{lane_names}
use Rattle.transcript_text.specs.Print.{Counts, reply_line, places_line}
use Rattle.transcript_text.specs.Transcripts.{Entry, request_at, is_allowed_at}

-- ---- the text of some entries

-- their lines, the first of them line n
abbrev pub lines_from : List (List ℕ) → ℕ → List Entry → List ℕ
lines_from names n [] = []
lines_from names n (e ∷ rest) = reply_line n (unwrap_or (slice_get names e.0) []) e.1 e.2 ++ lines_from names (n + 1) rest

-- the transcript of some entries
abbrev pub text_of : List (List ℕ) → List Entry → Counts → List ℕ
text_of names entries counts = lines_from names 1 entries ++ places_line counts

-- the entries of a history that stands behind another: each is of its lane, and of the lane's next call
abbrev pub entries_behind : List history.Entry → List history.Entry → List Entry
entries_behind before [] = []
entries_behind before (e ∷ rest) = (e.lane, length (history.calls_in e.lane before) + 1, e.reply) ∷ entries_behind (before ++ e ∷ []) rest

-- the entries of a history
abbrev pub entries_of : List history.Entry → List Entry
entries_of h = entries_behind [] h

-- ---- which entries can be read

-- each value of a reply is one of its type: ids, sizes and slots have 32 bits, all other numbers 64, and bytes are bytes
abbrev pub IsReply : Reply → Type 0
IsReply (Id id) = id < 2 ^ 32
IsReply (Len len) = len < 2 ^ 64
IsReply (Val r0) = r0 < 2 ^ 64
IsReply (At off) = off < 2 ^ 64
IsReply (DataBytes bytes) = IsBytes bytes
IsReply (Res bytes) = IsBytes bytes
IsReply (TrapAccess address size slot) = (address < 2 ^ 64) × (size < 2 ^ 32) × (slot < 2 ^ 32)
IsReply (TrapDepth slot) = slot < 2 ^ 32
IsReply (TrapOutLen r0) = r0 < 2 ^ 64
IsReply (BadCode kind slot) = slot < 2 ^ 32
IsReply _ = ⊤

abbrev pub AreReplies : List history.Entry → Type 0
AreReplies h = AllByRecursion (λ e. IsReply e.reply) h

-- An entry of a lane that is there, with a number of 32 bits from 1 and a reply; where the lane has that call, the reply's
-- form belongs to it.
pub record IsEntry (lanes : List Lane) (e : Entry) : Type 0 where
  pub lane : e.0 < length lanes
  pub from_one : 1 ≤ e.1
  pub number : e.1 < 2 ^ 32
  pub reply : IsReply e.2
  pub allowed : is_allowed_at (request_at lanes e.0 e.1) e.2 ≡ true

-- entries that can be read; their lines have numbers of 64 bits
pub record AreEntries (lanes : List Lane) (entries : List Entry) : Type 0 where
  pub each : AllByRecursion (IsEntry lanes) entries
  pub count : length entries < 2 ^ 64

-- lanes of a script: well formed names, no two of them the same
pub record AreLanes (lanes : List Lane) : Type 0 where
  pub names : AllByRecursion (λ lane. IsTrue (is_lane lane.name)) lanes
  pub distinct : IsDistinct bytes_eq (lane_names lanes)

-- counts of 64 bits
pub record AreCounts (c : Counts) : Type 0 where
  pub host : c.host < 2 ^ 64
  pub drive : c.drive < 2 ^ 64
  pub reads : c.reads < 2 ^ 64
  pub writes : c.writes < 2 ^ 64
