-- What a reader of transcripts returned is what a definition gives, unless memory ran out.
use Rattle.std.specs.Prelude.{◌≡◌, ⊤, ℕ, Bool, true, false, List, Option, Some, None, Result, Ok, Err}
use Rattle.transcript_text.specs.declared.transcript.ReplyErr.{ReplyErr}
use Rattle.transcript_text.specs.declared.transcript.ReplyErr.TheVariants as reply_errors
use Rattle.transcript_text.specs.declared.transcript.TranscriptErr.{TranscriptErr}
use Rattle.transcript_text.specs.declared.transcript.TranscriptErr.TheVariants as errors
use Rattle.transcript_text.specs.declared.transcript.Transcript.{Transcript}
use Rattle.transcript_text.specs.Transcripts.{Entry}

-- a part of a line: nothing is found, or memory ran out
abbrev pub FindsNone : {A : Type 0} → ReplyErr → Option A → Type 0
FindsNone reply_errors.NoMemory found = ⊤
FindsNone reply_errors.Form found = found ≡ None

abbrev pub Finds : {A : Type 0} → Result A ReplyErr → Option A → Type 0
Finds (Ok value) found = found ≡ Some value
Finds (Err e) found = FindsNone e found

-- a line that is the last one, or should have an entry
abbrev pub ReadsLine : Result (Option Entry) ReplyErr → Bool → Option Entry → Type 0
ReadsLine (Ok None) last entry = last ≡ true
ReadsLine (Ok (Some found)) last entry = (last ≡ false) × (entry ≡ Some found)
ReadsLine (Err reply_errors.NoMemory) last entry = ⊤
ReadsLine (Err reply_errors.Form) last entry = (last ≡ false) × (entry ≡ None)

-- a refused line, with its number
abbrev pub refused_at : ℕ → ReplyErr → TranscriptErr
refused_at line reply_errors.NoMemory = errors.NoMemory
refused_at line reply_errors.Form = errors.Form line

-- a text: a line is refused, or memory ran out
abbrev pub RefusesLine : {A : Type 0} → TranscriptErr → Result A ℕ → Type 0
RefusesLine errors.NoMemory read = ⊤
RefusesLine (errors.Form line) read = read ≡ Err line

abbrev pub ReadsEntries : Result Transcript TranscriptErr → Result (List Entry) ℕ → Type 0
ReadsEntries (Ok transcript) read = read ≡ Ok transcript.entries
ReadsEntries (Err e) read = RefusesLine e read
