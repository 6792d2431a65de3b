-- What a call has before it begins. This project's own.
use Rattle.std.specs.Prelude.{◌≡◌, ℕ, false, List, [], replicate, Option, None, if◌then◌else◌}
use Rattle.sbpf_exec.specs.declared.regions.Regions.{Regions}
use Rattle.plain_files.specs.declared.calls.Call.{Call}
use Rattle.plain_files.specs.declared.calls.Call.TheVariants.{Read, Readl, Writel}
use Rattle.plain_files.specs.declared.calls.Request.{Request}
use Rattle.plain_files.specs.Plain.{is_too_long}
use Rattle.core_state.specs.Reach.{is_lambda}
use Rattle.call_job.specs.Buffers.{most_pages, HasParam, HasBuffers}
use Rattle.call_job.specs.declared.job.Job.{Job}

-- the output of a function that writes: as many pages again
abbrev pub second_of : Call → ℕ
second_of (Writel file off n function fuel param input) = most_pages n
second_of call = 0

-- the output of a function that reads, or the input of one that writes
abbrev pub flat_of : Call → List ℕ
flat_of (Readl file off n function fuel cap param) = replicate cap 0
flat_of (Writel file off n function fuel param input) = input
flat_of call = []

-- the bytes that a read replies at most
abbrev pub data_of : Call → ℕ
data_of (Read name off n) = n
data_of call = 0

-- the parameter of a function is in its regions
abbrev pub AreRegions : Call → Option Regions → Type 0
AreRegions (Readl file off n function fuel cap param) regions = HasParam regions param
AreRegions (Writel file off n function fuel param input) regions = HasParam regions param
AreRegions call regions = Unit {0}

-- room for the code of a function
abbrev pub room_of : Call → ℕ
room_of call = if is_lambda call then 4096 else 0

-- A request with its buffers: all that it can need, unless one of its numbers is above its limit, so that it is refused. Nothing has run.
pub record IsPrepared (request : Request) (job : Job) : Type 0 where
  pub request_is : job.request ≡ request
  pub buffers : is_too_long request.call ≡ false → HasBuffers job
  pub fresh : job.ran ≡ None
  pub code : job.code.insns ≡ []
