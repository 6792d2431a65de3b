-- The input and the output that are lent: the regions end with what the borrower leaves there.
use Rattle.std.specs.Borrow.{Lends, MutBor, Fml}
use Rattle.sbpf_exec.specs.declared.region.Region.{Region}
use Rattle.sbpf_exec.specs.declared.regions.Regions.{Regions}
use Rattle.sbpf_exec.specs.contracts.region.Region as region
use Rattle.sbpf_exec.specs.contracts.regions.Regions as regions

abbrev pub LendsInput : MutBor Regions → MutBor Region → Fml
LendsInput r input = Lends regions.the_row region.the_row r input (λ w. record r.now { input = w })

abbrev pub LendsOutput : MutBor Regions → MutBor Region → Fml
LendsOutput r output = Lends regions.the_row region.the_row r output (λ w. record r.now { output = w })
