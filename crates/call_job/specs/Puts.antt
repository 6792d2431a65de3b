-- Calls that put bytes into their file. This project's own.
use Rattle.std.specs.Prelude.{ℕ, Bool, true, false, Option, Some, None}
use Rattle.plain_files.specs.declared.calls.Call.{Call}
use Rattle.plain_files.specs.declared.calls.Call.TheVariants.{Write, Append}
use Rattle.plain_files.specs.declared.calls.Reply.{Reply}
use Rattle.plain_files.specs.declared.calls.Reply.TheVariants.{NoSpace}

abbrev pub puts_bytes : Call → Bool
puts_bytes (Write name off bytes) = true
puts_bytes (Append name bytes) = true
puts_bytes call = false

-- this reply, where the file has a new length
abbrev pub stored_reply : Option ℕ → Reply → Reply
stored_reply None reply = NoSpace
stored_reply (Some new) reply = reply

abbrev pub stored_len : Option ℕ → ℕ → ℕ
stored_len None len = len
stored_len (Some new) len = new
