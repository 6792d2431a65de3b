-- The kinds of data calls without a function. This project's own.
use Rattle.std.specs.Prelude.{Bool, true, false}
use Rattle.plain_files.specs.declared.calls.Call.{Call}
use Rattle.plain_files.specs.declared.calls.Call.TheVariants.{Read, Write, Append, Trunc}

-- it is a `read`
abbrev pub is_read_call : Call → Bool
is_read_call (Read name off n) = true
is_read_call _ = false

-- it is a `write`
abbrev pub is_write_call : Call → Bool
is_write_call (Write name off bytes) = true
is_write_call _ = false

-- it is an `append`
abbrev pub is_append_call : Call → Bool
is_append_call (Append name bytes) = true
is_append_call _ = false

-- it is a `trunc`
abbrev pub is_trunc_call : Call → Bool
is_trunc_call (Trunc name n) = true
is_trunc_call _ = false
