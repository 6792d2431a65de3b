-- The buffers of a call: as many pages as its bytes can meet, and what its function reads and writes besides. This project's own.
use Rattle.std.specs.Prelude.{◌≡◌, ◌≢◌, ℕ, ◌+◌, ◌-◌, ◌*◌, ◌/◌, ◌%◌, ◌<◌, ◌≤◌, ◌==◌, min, List, length, get_or, replicate, if◌then◌else◌, Option, Some, None}
use Rattle.sbpf_exec.specs.declared.regions.Regions.{Regions}
use Rattle.sbpf_exec.specs.Parts.{param_of}
use Rattle.plain_files.specs.declared.calls.Call.{Call}
use Rattle.plain_files.specs.declared.calls.Call.TheVariants.{Read, Write, Append, Trunc, Readl, Writel}
use Rattle.core_state.specs.State.{Reach}
use Rattle.core_state.specs.Reach.{is_read}
use Rattle.span_bytes.specs.Spans.{page_in, over, span_part}
use Rattle.call_job.specs.declared.job.Job.{Job}

-- as many pages as so many bytes can meet, wherever they begin
abbrev pub most_pages : ℕ → ℕ
most_pages n = if n == 0 then 0 else (n + 4094) / 4096 + 1

-- and so the bytes of a call; `trunc` cuts one page at most
abbrev pub pool_of : Call → ℕ
pool_of (Read name off n) = most_pages n
pool_of (Write name off bytes) = most_pages (length bytes)
pool_of (Append name bytes) = most_pages (length bytes)
pool_of (Trunc name n) = 1
pool_of (Readl file off n function fuel cap param) = most_pages n
pool_of (Writel file off n function fuel param input) = most_pages n
pool_of call = 0

-- the regions of a function have the parameter
pub record HasParam (regions : Option Regions) (param : List ℕ) : Type 0 where
  pub there : Regions
  pub is : regions ≡ Some there
  pub holds : param_of there ≡ param

-- what a function reads and writes besides pages: an output of zeros, until it has run, or its input; and room for its code
pub record HasFunction (job : Job) (param : List ℕ) : Type 0 where
  pub regions : HasParam job.regions param
  pub room : job.code.room ≡ 4096

-- Once its function has run, the output has so many bytes, and lies in the pages of its span as they were.
pub record HasWritten (job : Job) (start n : ℕ) : Type 0 where
  pub long : length (span_part job.second.items start n) ≡ n
  pub many : job.reach.pages ≤ length job.second.items
  pub bytes : (i j : ℕ) → i < job.reach.pages → j < 4096 → get_or (page_in job.second.items i) j 0 ≡ over start (span_part job.second.items start n) (4096 * i + j) (get_or (page_in job.pages.items i) j 0)

-- what a call has besides its pages
abbrev pub HasRest : Job → Call → Type 0
HasRest job (Read name off n) = length job.data.items ≡ n
HasRest job (Readl file off n function fuel cap param) = HasFunction job param × (length job.flat ≡ cap) × (job.ran ≡ None → job.flat ≡ replicate cap 0)
HasRest job (Writel file off n function fuel param input) = HasFunction job param × (job.flat ≡ input) × (most_pages n ≤ length job.second.items) × (job.ran ≢ None → HasWritten job (off % 4096) n)
HasRest job call = Unit {0}

pub record HasBuffers (job : Job) : Type 0 where
  pub pool : pool_of job.request.call ≤ length job.pages.items
  pub few : length job.pages.items ≤ 65
  pub rest : HasRest job job.request.call

-- how many bytes a reading call has of a file of this length; any other has none
abbrev pub readable_in : Call → Reach → ℕ → ℕ
readable_in call reach len = if is_read call then min reach.end len - reach.begin else 0
