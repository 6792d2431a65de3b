-- Which forms of reply belong to a call; the values in them are not judged. It is this project's own.
use Rattle.std.specs.Prelude.{Bool, true, false}
use Rattle.plain_files.specs.declared.calls.Call.{Call}
use Rattle.plain_files.specs.declared.calls.Call.TheVariants.{Create, OpenFile, Stat, Remove, Read, Write, Append, Trunc, Seal, Load, Unload, Readl, Writel, Sync}
use Rattle.plain_files.specs.declared.calls.Reply.{Reply}
use Rattle.plain_files.specs.declared.calls.Reply.TheVariants.{Id, Len, Val, At, DataBytes, Res, Done, TrapAccess, TrapDepth, TrapOutLen, Spent, BadName, Exists, Full, NoFile, NoFn, TooLong, AppendOnly, TooBig, NoSpace, FnFull, BadCode, Fault, NoMemory}

abbrev pub is_allowed : Call → Reply → Bool
is_allowed call Fault = true
is_allowed call NoMemory = true
is_allowed (Create name) (Id id) = true
is_allowed (Create name) BadName = true
is_allowed (Create name) Exists = true
is_allowed (Create name) Full = true
is_allowed (OpenFile name) (Id id) = true
is_allowed (OpenFile name) NoFile = true
is_allowed (Stat name) (Len len) = true
is_allowed (Stat name) NoFile = true
is_allowed (Remove name) Done = true
is_allowed (Remove name) NoFile = true
is_allowed (Read name off len) (DataBytes bytes) = true
is_allowed (Read name off len) TooLong = true
is_allowed (Read name off len) NoFile = true
is_allowed (Write name off bytes) Done = true
is_allowed (Write name off bytes) TooLong = true
is_allowed (Write name off bytes) NoFile = true
is_allowed (Write name off bytes) AppendOnly = true
is_allowed (Write name off bytes) TooBig = true
is_allowed (Write name off bytes) NoSpace = true
is_allowed (Append name bytes) (At off) = true
is_allowed (Append name bytes) TooLong = true
is_allowed (Append name bytes) NoFile = true
is_allowed (Append name bytes) TooBig = true
is_allowed (Append name bytes) NoSpace = true
is_allowed (Trunc name len) Done = true
is_allowed (Trunc name len) NoFile = true
is_allowed (Trunc name len) AppendOnly = true
is_allowed (Trunc name len) TooBig = true
is_allowed (Trunc name len) NoSpace = true
is_allowed (Seal name) Done = true
is_allowed (Seal name) NoFile = true
is_allowed (Load name code) Done = true
is_allowed (Load name code) BadName = true
is_allowed (Load name code) (BadCode kind slot) = true
is_allowed (Load name code) Exists = true
is_allowed (Load name code) FnFull = true
is_allowed (Unload name) Done = true
is_allowed (Unload name) NoFn = true
is_allowed (Readl file off len function fuel cap param) (Res bytes) = true
is_allowed (Readl file off len function fuel cap param) TooLong = true
is_allowed (Readl file off len function fuel cap param) NoFile = true
is_allowed (Readl file off len function fuel cap param) NoFn = true
is_allowed (Readl file off len function fuel cap param) (TrapAccess address size slot) = true
is_allowed (Readl file off len function fuel cap param) (TrapDepth slot) = true
is_allowed (Readl file off len function fuel cap param) (TrapOutLen r0) = true
is_allowed (Readl file off len function fuel cap param) Spent = true
is_allowed (Writel file off len function fuel param input) (Val r0) = true
is_allowed (Writel file off len function fuel param input) TooLong = true
is_allowed (Writel file off len function fuel param input) NoFile = true
is_allowed (Writel file off len function fuel param input) NoFn = true
is_allowed (Writel file off len function fuel param input) AppendOnly = true
is_allowed (Writel file off len function fuel param input) TooBig = true
is_allowed (Writel file off len function fuel param input) (TrapAccess address size slot) = true
is_allowed (Writel file off len function fuel param input) (TrapDepth slot) = true
is_allowed (Writel file off len function fuel param input) Spent = true
is_allowed (Writel file off len function fuel param input) NoSpace = true
is_allowed Sync Done = true
is_allowed call reply = false
