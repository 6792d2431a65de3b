-- The kinds of calls with a function. This project's own.
use Rattle.std.specs.Prelude.{Bool, true, false}
use Rattle.plain_files.specs.declared.calls.Call.{Call}
use Rattle.plain_files.specs.declared.calls.Call.TheVariants.{Readl, Writel}

-- it is a `readl`
abbrev pub is_readl_call : Call → Bool
is_readl_call (Readl file off n function fuel cap param) = true
is_readl_call _ = false

-- it is a `writel`
abbrev pub is_writel_call : Call → Bool
is_writel_call (Writel file off n function fuel param input) = true
is_writel_call _ = false
