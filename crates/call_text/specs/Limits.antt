-- What a line counts against the limits of a script. They are this project's own.
use Rattle.std.specs.Prelude.{ℕ, ◌+◌, List, [], ◌∷◌, Bool, false, if◌then◌else◌, codes, bytes_eq, Option, Some, None, is_some}
use Rattle.call_text.specs.declared.verb.Verb.{Verb}
use Rattle.call_text.specs.declared.verb.Verb.TheVariants as verb
use Rattle.script_words.specs.Words.{bytes_size, code_size, size, lane_of}
use Rattle.call_text.specs.Blocks.{Block, block_of}
use Rattle.call_text.specs.Calls.{verb_of}

-- the words behind a lane have a call, whatever comes behind its first word
abbrev pub has_call : List (List ℕ) → Bool
has_call [] = false
has_call (first ∷ args) = is_some (verb_of first)

-- ---- the bytes of a call's words; an ill formed word gives none, nor does a wrong count of words

unfoldable pub write_bytes : List (List ℕ) → ℕ
write_bytes (name ∷ off ∷ text ∷ []) = bytes_size text
write_bytes _ = 0

unfoldable pub append_bytes : List (List ℕ) → ℕ
append_bytes (name ∷ text ∷ []) = bytes_size text
append_bytes _ = 0

unfoldable pub load_bytes : List Block → List (List ℕ) → ℕ
load_bytes blocks (name ∷ how ∷ code ∷ []) =
    if bytes_eq how (codes "code") then code_size code
    else if bytes_eq how (codes "func") then size (block_of code blocks)
    else 0
load_bytes blocks _ = 0

unfoldable pub readl_bytes : List (List ℕ) → ℕ
readl_bytes (file ∷ off ∷ len ∷ function ∷ fuel ∷ cap ∷ param ∷ []) = bytes_size param
readl_bytes _ = 0

unfoldable pub writel_bytes : List (List ℕ) → ℕ
writel_bytes (file ∷ off ∷ len ∷ function ∷ fuel ∷ param ∷ input ∷ []) = bytes_size param + bytes_size input
writel_bytes _ = 0

abbrev pub call_bytes : List Block → Option Verb → List (List ℕ) → ℕ
call_bytes blocks (Some verb.Write) args = write_bytes args
call_bytes blocks (Some verb.Append) args = append_bytes args
call_bytes blocks (Some verb.Load) args = load_bytes blocks args
call_bytes blocks (Some verb.Readl) args = readl_bytes args
call_bytes blocks (Some verb.Writel) args = writel_bytes args
call_bytes blocks other args = 0

-- ---- the bytes of a line

-- behind the lane
abbrev pub bytes_behind : List Block → List (List ℕ) → ℕ
bytes_behind blocks [] = 0
bytes_behind blocks (first ∷ args) = call_bytes blocks (verb_of first) args

-- behind a lane, if that is well formed
abbrev pub lane_bytes : List Block → Option (List ℕ) → List (List ℕ) → ℕ
lane_bytes blocks None rest = 0
lane_bytes blocks (Some name) rest = bytes_behind blocks rest

-- the call bytes of a line, by its words
abbrev pub line_bytes : List Block → List (List ℕ) → ℕ
line_bytes blocks [] = 0
line_bytes blocks (first ∷ rest) = lane_bytes blocks (lane_of first) rest
