-- Whether the entries of a transcript are a legal history of a script's calls; else the first number at which the
-- order, and then the reply, is wrong. This project's own.
use Rattle.std.specs.Prelude.{ℕ, ◌+◌, List, [], ◌∷◌, ◌++◌, length, slice_get, Bool, true, ◌&&◌, nat_eq, nat_le, if◌then◌else◌, Option, Some, None}
use Rattle.plain_files.specs.declared.calls.Call.{Call}
use Rattle.plain_files.specs.declared.calls.Reply.{Reply}
use Rattle.plain_files.specs.declared.calls.Request.{Request}
use Rattle.plain_files.specs.History.{Entry, calls_in, requests_of, is_excuse}
use Rattle.plain_files.specs.Plain.{State, answer}
use Rattle.history_check.specs.declared.verdict.Verdict.{Verdict}
use Rattle.history_check.specs.declared.verdict.Verdict.TheVariants.{Legal, Differs, Order}
use Rattle.history_check.specs.Replies.{is_same_reply}

-- an entry of a transcript: its lane, the number of its call there, from 1, and its reply
abbrev pub Line : Type 0
Line = ℕ × ℕ × Reply

abbrev pub entry : ℕ → Call → Reply → Entry
entry lane call reply = record { lane = lane; call = call; reply = reply }

-- the lines of a history, behind some entries
abbrev pub lines_of : List Entry → List Entry → List Line
lines_of before [] = []
lines_of before (e ∷ rest) = (e.lane, length (calls_in e.lane before) + 1, e.reply) ∷ lines_of (before ++ e ∷ []) rest

-- how many calls of a lane stand among some entries
abbrev pub made_in : List Entry → ℕ → ℕ
made_in before lane = length (calls_in lane before)

-- what a request awaits has come, where so many calls of each lane were made
abbrev pub has_come : (ℕ → ℕ) → Option (ℕ × ℕ) → Bool
has_come made None = true
has_come made (Some awaited) = nat_le awaited.1 (made awaited.0)

abbrev pub if_come : (ℕ → ℕ) → Option Request → Option Request
if_come made None = None
if_come made (Some request) = if has_come made request.awaits then Some request else None

-- the request of a lane and a number there, where it is the lane's next and need not wait
abbrev pub next_request : List (List Request) → (ℕ → ℕ) → ℕ → ℕ → Option Request
next_request lanes made lane k =
    if nat_eq k (made lane + 1) then if_come made (slice_get (requests_of lanes lane) (made lane)) else None

-- all requests of the lanes, of which the first has this number, were made
abbrev pub are_all_made : List (List Request) → ℕ → (ℕ → ℕ) → Bool
are_all_made [] lane made = true
are_all_made (requests ∷ lanes) lane made = nat_eq (made lane) (length requests) && are_all_made lanes (lane + 1) made

-- the order is wrong at this number, unless there is a request
abbrev pub in_order : ℕ → Option Request → (Request → Verdict) → Verdict
in_order number None next = Order number
in_order number (Some request) next = next request

-- the reply is wrong at this number, unless it is an excuse, which leaves the state, or the machine's
abbrev pub agrees : ℕ → State → Call → Reply → (State → Verdict) → Verdict
agrees number state call reply next =
    if is_excuse reply then next state
    else if is_same_reply reply (answer state call).reply then next (answer state call).state
    else Differs number (answer state call).reply

-- the verdict on the lines of a transcript behind some entries, which have led to a state
abbrev pub verdict : List (List Request) → State → List Entry → List Line → Verdict
verdict lanes state before [] =
    if are_all_made lanes 0 (made_in before) then Legal (length before) else Order (length before + 1)
verdict lanes state before (line ∷ lines) =
    in_order (length before + 1) (next_request lanes (made_in before) line.0 line.1) (λ request.
    agrees (length before + 1) state request.call line.2 (λ after.
    verdict lanes after (before ++ entry line.0 request.call line.2 ∷ []) lines))
