-- Histories of calls: which are legal on plain files, and which serve the requests of each lane. It is this project's own.
use Rattle.std.specs.Prelude.{◌≡◌, ◌⊎◌, ℕ, ◌≤◌, List, [], ◌∷◌, ◌++◌, length, map, slice_get, Some, unwrap_or, Bool, true, false, ◌==◌, if◌then◌else◌, IsTrue, IfSome}
use Rattle.plain_files.specs.declared.calls.Call.{Call}
use Rattle.plain_files.specs.declared.calls.Reply.{Reply}
use Rattle.plain_files.specs.declared.calls.Reply.TheVariants.{Fault, NoMemory}
use Rattle.plain_files.specs.declared.calls.Request.{Request}
use Rattle.plain_files.specs.Plain.{State, answer}

-- a call of a lane, and its reply
pub record Entry : Type 0 where
  pub lane : ℕ
  pub call : Call
  pub reply : Reply

-- a reply that leaves the state, whatever the call
abbrev pub is_excuse : Reply → Bool
is_excuse Fault = true
is_excuse NoMemory = true
is_excuse _ = false

-- want of memory
abbrev pub is_no_memory : Reply → Bool
is_no_memory NoMemory = true
is_no_memory _ = false

-- a failed drive
abbrev pub is_fault : Reply → Bool
is_fault Fault = true
is_fault _ = false

-- At each entry the reply is the plain machine's and the state moves as it says,
-- or the reply is an excuse and the state stays.
abbrev pub Legal : State → List Entry → State → Type 0
Legal s [] last = s ≡ last
Legal s (e ∷ rest) last =
    ((e.reply ≡ (answer s e.call).reply) × Legal (answer s e.call).state rest last)
    ⊎ (IsTrue (is_excuse e.reply) × Legal s rest last)

-- the replies of the plain machine alone, in order
abbrev pub replies : State → List Call → List Reply
replies s [] = []
replies s (call ∷ calls) = (answer s call).reply ∷ replies (answer s call).state calls

-- the calls of one lane, in order
abbrev pub calls_in : ℕ → List Entry → List Call
calls_in lane [] = []
calls_in lane (e ∷ rest) = if e.lane == lane then e.call ∷ calls_in lane rest else calls_in lane rest

-- the requests of a lane; a lane that is not there has none
abbrev pub requests_of : List (List Request) → ℕ → List Request
requests_of lanes lane = unwrap_or (slice_get lanes lane) []

-- The calls of each lane are made, each once and in its order. Where an entry e stands behind others, its request r is
-- the one of its lane that comes next behind them; a call that awaits the k-th call of a lane stands behind k entries of it.
pub record Serves (lanes : List (List Request)) (h : List Entry) : Type 0 where
  pub each : (lane : ℕ) → calls_in lane h ≡ map (λ r. r.call) (requests_of lanes lane)
  pub waits : (before rest : List Entry) (e : Entry) (r : Request) → h ≡ before ++ e ∷ rest →
      slice_get (requests_of lanes e.lane) (length (calls_in e.lane before)) ≡ Some r →
      IfSome r.awaits (λ awaited. awaited.1 ≤ length (calls_in awaited.0 before))
