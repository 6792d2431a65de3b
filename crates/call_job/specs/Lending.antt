-- A page of a job that is lent. This project's own.
use Rattle.std.specs.Prelude.{ℕ, List}
use Rattle.std.specs.Borrow.{Lends, MutBor, Fml}
use Rattle.std.specs.Vec.{with_item}
use Rattle.page_base.specs.contracts.page.Page as page
use Rattle.call_job.specs.declared.job.Job.{Job}
use Rattle.call_job.specs.contracts.job.Job.{the_row}

-- the job with another page at a place of its span
abbrev pub with_page : Job → ℕ → List ℕ → Job
with_page job i w = record job { pages = with_item job.pages i w }

abbrev pub LendsPage : MutBor Job → ℕ → MutBor (List ℕ) → Fml
LendsPage job i p = Lends the_row page.the_row job p (with_page job.now i)
