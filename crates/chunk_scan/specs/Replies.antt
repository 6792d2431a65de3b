-- A reply of a scan as the reply of a call `readl`. This project's own.
use Rattle.plain_files.specs.declared.calls.Reply.{Reply}
use Rattle.plain_files.specs.declared.calls.Reply.TheVariants as reply
use Rattle.chunk_scan.specs.declared.reply.ScanReply.{ScanReply}
use Rattle.chunk_scan.specs.declared.reply.ScanReply.TheVariants.{Res, Access, Depth, OutLen, Spent}

-- the reply of `readl` that says the same
abbrev pub as_reply : ScanReply → Reply
as_reply (Res bytes) = reply.Res bytes
as_reply (Access address size slot) = reply.TrapAccess address size slot
as_reply (Depth slot) = reply.TrapDepth slot
as_reply (OutLen r0) = reply.TrapOutLen r0
as_reply Spent = reply.Spent
