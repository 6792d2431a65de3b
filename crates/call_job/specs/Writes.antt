-- What a call ends with whose function writes. This project's own.
use Rattle.std.specs.Prelude.{Bool, true, false, if◌then◌else◌}
use Rattle.sbpf_insn.specs.Machine as machine
use Rattle.plain_files.specs.declared.calls.Call.{Call}
use Rattle.plain_files.specs.declared.calls.Call.TheVariants.{Writel}
use Rattle.plain_files.specs.declared.calls.Reply.{Reply}
use Rattle.plain_files.specs.declared.calls.Reply.TheVariants.{Val, NoSpace, TrapAccess, TrapDepth, Spent}

abbrev pub is_writel : Call → Bool
is_writel (Writel file off n function fuel param input) = true
is_writel call = false

-- the reply, by how the function ended, and by whether there is room for what it put out
abbrev pub write_reply : Bool → machine.Outcome → Reply
write_reply room (machine.Ended r0 output used) = if room then Val r0 else NoSpace
write_reply room (machine.AccessTrap address size slot used) = TrapAccess address size slot
write_reply room (machine.DepthTrap slot used) = TrapDepth slot
write_reply room machine.Spent = Spent

-- what it put out goes into the file
abbrev pub is_put : Bool → machine.Outcome → Bool
is_put room (machine.Ended r0 output used) = room
is_put room (machine.AccessTrap address size slot used) = false
is_put room (machine.DepthTrap slot used) = false
is_put room machine.Spent = false
