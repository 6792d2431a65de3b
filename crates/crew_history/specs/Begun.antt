-- Histories in which lanes have made some of their calls. This project's own.
use Rattle.std.specs.Prelude.{◌≡◌, ℕ, List, ◌++◌, map}
use Rattle.plain_files.specs.declared.calls.Call.{Call}
use Rattle.plain_files.specs.declared.calls.Request.{Request}
use Rattle.plain_files.specs.History.{Entry, calls_in, requests_of}

-- each lane made the first of its calls, in their order
abbrev pub AreBegun : List (List Request) → List Entry → Type 0
AreBegun lanes h = (lane : ℕ) → (rest : List Call) × (map (λ r. r.call) (requests_of lanes lane) ≡ calls_in lane h ++ rest)
