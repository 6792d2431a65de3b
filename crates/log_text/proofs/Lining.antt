-- The lines of replies, one after the other.
use Rattle.std.proofs.Common.{◌≡◌, ℕ, ◌+◌, ◌-◌, ◌<◌, ◌≤◌, List, [], ◌∷◌, ◌++◌, Option, Some, length, get_or, take, refl, sym, ap, ◌∙◌, subst, arith, append_assoc, append-nil, length-take-le, Vec, Global}
use Rattle.std.specs.Prelude.{slice_get, unwrap_or, option_map, vec_len}
use Rattle.std.proofs.lemmas.List.{take_more, take_all}
use Rattle.std.proofs.lemmas.Option.{slice_get_read, slice_get_within, slice_get-get_or, slice_get-map, get_or_from_slice_get, same_Some}
use Rattle.plain_files.specs.declared.calls.Numbered.{Numbered}
use Rattle.plain_files.specs.History.{Entry, calls_in}
use Rattle.script_words.specs.declared.script.Lane.{Lane}
use Rattle.script_words.specs.Lanes.{lane_names}
use Rattle.transcript_text.specs.Print.{reply_line, entry_lines}
use Rattle.lane_logs.specs.declared.logs.LaneLog.{LaneLog}
use Rattle.lane_logs.specs.Logs.{replies_to}
use Rattle.log_text.specs.Told.{IsTold}
use Rattle.log_text.specs.Places.{place_behind, ArePlaces}
use Rattle.log_text.proofs.Told.{reply_at, told_there, each_of}

-- the lines of a history, with an entry more
pub lines_push : (names : List (List ℕ)) (before h : List Entry) (e : Entry) → entry_lines names before (h ++ e ∷ []) ≡ entry_lines names before h ++ reply_line (length (before ++ h) + 1) (unwrap_or (slice_get names e.lane) []) (length (calls_in e.lane (before ++ h)) + 1) e.reply
lines_push names before [] e =
    ap (λ past. reply_line (length past + 1) (unwrap_or (slice_get names e.lane) []) (length (calls_in e.lane past) + 1) e.reply ++ []) (sym (append-nil before))
    ∙ append-nil _
lines_push names before (first ∷ rest) e =
    let line = reply_line (length before + 1) (unwrap_or (slice_get names first.lane) []) (length (calls_in first.lane before) + 1) first.reply in
    ap (λ text. line ++ text) (lines_push names (before ++ first ∷ []) rest e)
    ∙ sym (append_assoc line (entry_lines names (before ++ first ∷ []) rest) _)
    ∙ ap (λ past. (line ++ entry_lines names (before ++ first ∷ []) rest) ++ reply_line (length past + 1) (unwrap_or (slice_get names e.lane) []) (length (calls_in e.lane past) + 1) e.reply) (append_assoc before (first ∷ []) rest)

-- the call of a place that is read, and its reply
pub record IsCallAt (lanes : ℕ) (calls : List Entry) (i : ℕ) (p : ℕ × ℕ) : Type 0 where
  pub e : Entry
  pub at : slice_get calls i ≡ Some e
  pub place : p ≡ place_behind (take i calls) e
  pub lane : p.0 < lanes
  pub reply : slice_get (replies_to p.0 0 calls) (p.1 - 1) ≡ Some (reply_at (0 + 1 + i) e.reply)

entry_at : (calls : List Entry) (i : ℕ) → i < length calls → (e : Entry) × (slice_get calls i ≡ Some e)
entry_at [] i low = absurd (omega arith)
entry_at (x ∷ calls) i low = (get_or (x ∷ calls) i x, slice_get-get_or (x ∷ calls) i x low)

pub call_at : (lanes : ℕ) (calls : List Entry) (logs : List LaneLog) (places : List (ℕ × ℕ)) (i : ℕ) (p : ℕ × ℕ) → IsTold lanes calls logs → ArePlaces calls places → i < length places → p ≡ get_or places i p → IsCallAt lanes calls i p
call_at lanes calls logs places i p told are low here =
    let found = entry_at calls i (let k = are.count in omega arith) in
    let e = found.0 in
    let place : p ≡ place_behind (take i calls) e = same_Some p (place_behind (take i calls) e) (sym (slice_get_read places (length places) i p refl low here) ∙ are.each i e found.1) in
    let one : length (calls_in e.lane (take i calls)) + 1 - 1 ≡ length (calls_in e.lane (take i calls)) = omega arith in
    record {
      e = e;
      at = found.1;
      place = place;
      lane = subst (λ (q : ℕ × ℕ). q.0 < lanes) (sym place) (each_of (λ (x : Entry). x.lane < lanes) calls i e told.known found.1);
      reply = subst (λ (q : ℕ × ℕ). slice_get (replies_to q.0 0 calls) (q.1 - 1) ≡ Some (reply_at (0 + 1 + i) e.reply)) (sym place) (ap (λ (m : ℕ). slice_get (replies_to e.lane 0 calls) m) one ∙ told_there 0 i calls e found.1);
    }

pub call_read : (lanes : ℕ) (calls : List Entry) (logs : List LaneLog) (places : Vec (ℕ × ℕ) Global) (i n : ℕ) (p : ℕ × ℕ) → IsTold lanes calls logs → ArePlaces calls places.items → i < n → n ≡ vec_len places → p ≡ get_or places.items i p → IsCallAt lanes calls i p
call_read lanes calls logs places i n p told are low many here = call_at lanes calls logs places.items i p told are (omega (arith, places.ok.0)) here

-- the reply stands in the log that is read
pub reply_in : (lanes : ℕ) (calls : List Entry) (logs : List LaneLog) (i : ℕ) (p : ℕ × ℕ) (log : LaneLog) → IsTold lanes calls logs → IsCallAt lanes calls i p → log ≡ get_or logs p.0 log →
    (1 ≤ p.1) × (p.0 < length logs) × (p.1 - 1 < length log.entries.items) × (log.entries.items ≡ replies_to p.0 0 calls)
reply_in lanes calls logs i p log told call here =
    let low : p.0 < length logs = let a = call.lane in let b = told.are.count in omega arith in
    let same = told.are.replies p.0 log (slice_get_read logs (length logs) p.0 log refl low here) in
    let w = slice_get_within (replies_to p.0 0 calls) (p.1 - 1) (reply_at (0 + 1 + i) call.e.reply) call.reply in
    let g = ap length same in
    let one = ap (λ (q : ℕ × ℕ). q.1) call.place in
    (omega arith, low, omega arith, same)

pub line_more : (lanes : List Lane) (calls : List Entry) (logs : List LaneLog) (i : ℕ) (p : ℕ × ℕ) (log : LaneLog) (x : Numbered) (l : Lane) (text more : List ℕ) → IsTold (length lanes) calls logs → IsCallAt (length lanes) calls i p →
    log ≡ get_or logs p.0 log → x ≡ get_or log.entries.items (p.1 - 1) x → l ≡ get_or lanes p.0 l → text ≡ entry_lines (lane_names lanes) [] (take i calls) → more ≡ text ++ reply_line (i + 1) l.name p.1 x.reply →
    more ≡ entry_lines (lane_names lanes) [] (take (i + 1) calls)
line_more lanes calls logs i p log x l text more told call here read named so_far grown =
    let e = call.e in
    let names = lane_names lanes in
    let before = take i calls in
    let r = reply_in (length lanes) calls logs i p log told call here in
    let within = slice_get_within calls i e call.at in
    let is : x ≡ reply_at (0 + 1 + i) e.reply = same_Some x (reply_at (0 + 1 + i) e.reply) (sym (slice_get_read log.entries.items (length log.entries.items) (p.1 - 1) x refl r.2 read) ∙ (ap (λ (xs : List Numbered). slice_get xs (p.1 - 1)) r.3 ∙ call.reply)) in
    let name : l.name ≡ unwrap_or (slice_get names p.0) [] = sym (ap (λ (o : Option (List ℕ)). unwrap_or o []) (slice_get-map (λ (z : Lane). z.name) lanes p.0 ∙ ap (option_map (λ (z : Lane). z.name)) (slice_get_read lanes (length lanes) p.0 l refl call.lane named))) in
    let many : length before ≡ i = length-take-le i calls (omega arith) in
    let line : reply_line (i + 1) l.name p.1 x.reply ≡ reply_line (length before + 1) (unwrap_or (slice_get names e.lane) []) (length (calls_in e.lane before) + 1) e.reply =
    ap (λ (n : ℕ). reply_line (n + 1) l.name p.1 x.reply) (sym many)
    ∙ (ap (λ (w : List ℕ). reply_line (length before + 1) w p.1 x.reply) name
    ∙ (ap (λ (y : Numbered). reply_line (length before + 1) (unwrap_or (slice_get names p.0) []) p.1 y.reply) is
    ∙ ap (λ (q : ℕ × ℕ). reply_line (length before + 1) (unwrap_or (slice_get names q.0) []) q.1 e.reply) call.place)) in
    let last : take (i + 1) calls ≡ before ++ e ∷ [] = take_more calls i e within ∙ ap (λ (z : Entry). before ++ z ∷ []) (get_or_from_slice_get calls i e e call.at) in
    grown ∙ (ap (λ (t : List ℕ). t ++ reply_line (i + 1) l.name p.1 x.reply) so_far ∙ (ap (λ (w : List ℕ). entry_lines names [] before ++ w) line ∙ (sym (lines_push names [] before e) ∙ ap (λ (h : List Entry). entry_lines names [] h) (sym last))))

pub lines_all : (names : List (List ℕ)) (calls : List Entry) (places : List (ℕ × ℕ)) (i : ℕ) (text : List ℕ) → ArePlaces calls places → length places ≤ i → text ≡ entry_lines names [] (take i calls) → text ≡ entry_lines names [] calls
lines_all names calls places i text are high so_far = so_far ∙ ap (λ (h : List Entry). entry_lines names [] h) (take_all i calls (let k = are.count in omega arith))
