-- The printed transcript of a legal history that serves the lanes reads back as its entries.
use Rattle.std.proofs.Common.{◌≡◌, inl, inr, ℕ, suc, ◌+◌, ◌<◌, ◌≤◌, ◌^◌, List, [], ◌∷◌, ◌++◌, length, Bool, true, false, eqb, cond, refl, ap, sym, ◌∙◌, Some, None, Ok, Option, arith}
use Rattle.std.specs.Prelude.{IsTrue, slice_get, unwrap_or}
use Rattle.std.specs.List.{AllByRecursion}
use Rattle.std.specs.Option.{option_map}
use Rattle.std.proofs.lemmas.List.{length-append}
use Rattle.std.proofs.lemmas.Option.{slice_get-map, slice_get_within}
use Rattle.plain_files.specs.declared.calls.Call.{Call}
use Rattle.plain_files.specs.declared.calls.Call.TheVariants.{Create, OpenFile, Stat, Remove, Read, Write, Append, Trunc, Seal, Load, Unload, Readl, Writel, Sync}
use Rattle.plain_files.specs.declared.calls.Reply.{Reply}
use Rattle.plain_files.specs.declared.calls.Reply.TheVariants.{Fault, NoMemory}
use Rattle.plain_files.specs.declared.calls.Request.{Request}
use Rattle.plain_files.specs.Allowed.{is_allowed}
use Rattle.plain_files.specs.Plain.{State, answer}
use Rattle.plain_files.specs.History.{Entry, is_excuse, Legal, calls_in, requests_of, Serves}
use Rattle.plain_files.proofs.AllowedAnswers.{answer_allowed}
use Rattle.plain_files.proofs.Serving.{request_of_entry}
use Rattle.script_words.specs.declared.script.Lane.{Lane}
use Rattle.script_words.specs.Lanes.{lane_names, requests_by_lane}
use Rattle.transcript_text.specs.Print.{Counts, reply_line, entry_lines, places_line, print}
use Rattle.transcript_text.specs.Transcripts.{lane_requests, request_at, is_allowed_at, read_transcript}
use Rattle.transcript_text.specs.Again.{lines_from, text_of, entries_behind, entries_of, IsReply, IsEntry, AreEntries, AreCounts, AreReplies, AreLanes}
use Rattle.transcript_text.proofs.ReadAgain.{read_again}

-- ---- the lines

lines_are : (names : List (List ℕ)) (before h : List Entry) → entry_lines names before h ≡ lines_from names (length before + 1) (entries_behind before h)
lines_are names before [] = refl
lines_are names before (e ∷ rest) =
    let more : length (before ++ e ∷ []) + 1 ≡ length before + 1 + 1 = omega (arith, length-append before (e ∷ [])) in
    let line = reply_line (length before + 1) (unwrap_or (slice_get names e.lane) []) (length (calls_in e.lane before) + 1) e.reply in
    ap (λ t. line ++ t) (lines_are names (before ++ e ∷ []) rest ∙ ap (λ n. lines_from names n (entries_behind (before ++ e ∷ []) rest)) more)

text_is : (names : List (List ℕ)) (h : List Entry) (c : Counts) → print names h c ≡ text_of names (entries_of h) c
text_is names h c = ap (λ t. t ++ places_line c) (lines_are names [] h)

-- ---- the entries

fault_allowed : (call : Call) → is_allowed call Fault ≡ true
fault_allowed (Create n) = refl
fault_allowed (OpenFile n) = refl
fault_allowed (Stat n) = refl
fault_allowed (Remove n) = refl
fault_allowed (Read n o l) = refl
fault_allowed (Write n o b) = refl
fault_allowed (Append n b) = refl
fault_allowed (Trunc n l) = refl
fault_allowed (Seal n) = refl
fault_allowed (Load n c) = refl
fault_allowed (Unload n) = refl
fault_allowed (Readl f o l g u c p) = refl
fault_allowed (Writel f o l g u p i) = refl
fault_allowed Sync = refl

no_memory_allowed : (call : Call) → is_allowed call NoMemory ≡ true
no_memory_allowed (Create n) = refl
no_memory_allowed (OpenFile n) = refl
no_memory_allowed (Stat n) = refl
no_memory_allowed (Remove n) = refl
no_memory_allowed (Read n o l) = refl
no_memory_allowed (Write n o b) = refl
no_memory_allowed (Append n b) = refl
no_memory_allowed (Trunc n l) = refl
no_memory_allowed (Seal n) = refl
no_memory_allowed (Load n c) = refl
no_memory_allowed (Unload n) = refl
no_memory_allowed (Readl f o l g u c p) = refl
no_memory_allowed (Writel f o l g u p i) = refl
no_memory_allowed Sync = refl

excuse_allowed : (call : Call) (r : Reply) → IsTrue (is_excuse r) → is_allowed call r ≡ true
excuse_allowed call Fault h = fault_allowed call
excuse_allowed call NoMemory h = no_memory_allowed call
excuse_allowed call r h = absurd cc

reply_allowed : (s last : State) (e : Entry) (rest : List Entry) → Legal s (e ∷ rest) last → is_allowed e.call e.reply ≡ true
reply_allowed s last e rest legal = elim legal [
  | inl w ↦ ap (is_allowed e.call) w.0 ∙ answer_allowed s e.call
  | inr w ↦ excuse_allowed e.call e.reply w.0
]

-- a legal history goes on behind its first entry
legal_rest : (s last : State) (e : Entry) (rest : List Entry) → Legal s (e ∷ rest) last → (t : State) × Legal t rest last
legal_rest s last e rest legal = elim legal [
  | inl w ↦ ((answer s e.call).state, w.1)
  | inr w ↦ (s, w.1)
]

same_requests : (lanes : List Lane) (lane : ℕ) → requests_of (requests_by_lane lanes) lane ≡ lane_requests (slice_get lanes lane)
same_requests lanes lane = ap (λ (o : Option (List Request)). unwrap_or o []) (slice_get-map (λ (l : Lane). l.requests) lanes lane) ∙ go (slice_get lanes lane)
  where
    go : (o : Option Lane) → unwrap_or (option_map (λ (l : Lane). l.requests) o) [] ≡ lane_requests o
    go None = refl
    go (Some l) = refl

-- a lane that has a request is there
lane_there : (lanes : List Lane) (lane k : ℕ) (r : Request) → slice_get (requests_of (requests_by_lane lanes) lane) k ≡ Some r → lane < length lanes
lane_there lanes lane k r found = go (slice_get lanes lane) refl
  where
    go : (o : Option Lane) → slice_get lanes lane ≡ o → lane < length lanes
    go None none = absurd (let is : None ≡ Some r = sym (ap (λ (o : Option Lane). slice_get (lane_requests o) k) none) ∙ ap (λ rs. slice_get rs k) (sym (same_requests lanes lane)) ∙ found in cc)
    go (Some l) some = slice_get_within lanes lane l some

calls_few : (lane : ℕ) (h : List Entry) → length (calls_in lane h) ≤ length h
calls_few lane [] = omega arith
calls_few lane (e ∷ h) = go (calls_few lane h) (eqb e.lane lane)
  where
    go : length (calls_in lane h) ≤ length h → (b : Bool) → length (cond b (e.call ∷ calls_in lane h) (calls_in lane h)) ≤ suc (length h)
    go few true = omega (arith, few)
    go few false = omega (arith, few)

allowed_at : (o : Option Request) (r : Request) (call : Call) (given : Reply) → o ≡ Some r → r.call ≡ call → is_allowed call given ≡ true → is_allowed_at o given ≡ true
allowed_at o r call given found is allowed = ap (λ (x : Option Request). is_allowed_at x given) found ∙ ap (λ (c : Call). is_allowed c given) is ∙ allowed

entry_is : (lanes : List Lane) (s last : State) (whole before rest : List Entry) (e : Entry) → Serves (requests_by_lane lanes) whole → whole ≡ before ++ e ∷ rest → Legal s (e ∷ rest) last → IsReply e.reply → length whole < 2 ^ 32 → IsEntry lanes (e.lane, length (calls_in e.lane before) + 1, e.reply)
entry_is lanes s last whole before rest e serves is legal formed few =
    let place = length (calls_in e.lane before) in
    let r = request_of_entry (requests_by_lane lanes) whole before rest e serves is in
    let count : length whole ≡ length before + suc (length rest) = ap length is ∙ length-append before (e ∷ rest) in
    let low = calls_few e.lane before in
    let at : request_at lanes e.lane (place + 1) ≡ Some r.0 =
    ap (λ k. slice_get (lane_requests (slice_get lanes e.lane)) k) (omega arith) ∙ ap (λ rs. slice_get rs place) (sym (same_requests lanes e.lane)) ∙ r.1 in
    record {
      lane = lane_there lanes e.lane place r.0 r.1;
      from_one = omega arith;
      number = omega (arith, count, low, few);
      reply = formed;
      allowed = allowed_at (request_at lanes e.lane (place + 1)) r.0 e.call e.reply at r.2 (reply_allowed s last e rest legal);
    }

append_more : (xs : List Entry) (x : Entry) (ys : List Entry) → (xs ++ x ∷ []) ++ ys ≡ xs ++ x ∷ ys
append_more [] x ys = refl
append_more (z ∷ xs) x ys = ap (λ t. z ∷ t) (append_more xs x ys)

entries_are : (lanes : List Lane) (s last : State) (whole before h : List Entry) → Serves (requests_by_lane lanes) whole → whole ≡ before ++ h → Legal s h last → AreReplies h → length whole < 2 ^ 32 → AllByRecursion (IsEntry lanes) (entries_behind before h)
entries_are lanes s last whole before [] serves is legal formed few = tt
entries_are lanes s last whole before (e ∷ rest) serves is legal formed few =
    let next = legal_rest s last e rest legal in (
      entry_is lanes s last whole before rest e serves is legal formed.0 few,
      entries_are lanes next.0 last whole (before ++ e ∷ []) rest serves (is ∙ sym (append_more before e rest)) next.1 formed.1 few,
    )

count_is : (before h : List Entry) → length (entries_behind before h) ≡ length h
count_is before [] = refl
count_is before (e ∷ rest) = ap suc (count_is (before ++ e ∷ []) rest)

pub history_again : (lanes : List Lane) (h : List Entry) (s last : State) (c : Counts) → AreLanes lanes → Serves (requests_by_lane lanes) h → Legal s h last → AreReplies h → length h < 2 ^ 32 → AreCounts c → read_transcript (print (lane_names lanes) h c) lanes ≡ Ok (entries_of h)
history_again lanes h s last c are serves legal formed few counts =
    let count = count_is [] h in
    let entries : AreEntries lanes (entries_of h) = record { each = entries_are lanes s last h [] h serves refl legal formed few; count = omega (arith, count, few) } in
    ap (λ t. read_transcript t lanes) (text_is (lane_names lanes) h c) ∙ read_again lanes (entries_of h) c are entries counts
