-- One reply more in the logs.
use Rattle.std.proofs.Common.{◌≡◌, ℕ, zero, suc, ◌+◌, ◌<◌, Bool, true, false, List, [], ◌∷◌, ◌++◌, Option, Some, length, get_or, set, refl, sym, ap, ◌∙◌, subst, inl, inr, ⊎_elim, arith, length-append, append-nil}
use Rattle.std.specs.Prelude.{◌≢◌, ◌⊎◌, ◌==◌, if◌then◌else◌, slice_get, unwrap_or, option_map, vec_capacity}
use Rattle.std.proofs.lemmas.Bool.Decides.{nat_tests}
use Rattle.std.proofs.lemmas.List.{get_or-set_other, length-set}
use Rattle.std.proofs.lemmas.Grind.{get_or-set_at}
use Rattle.std.proofs.lemmas.Option.{slice_get-map, slice_get_within, slice_get_read, get_or_from_slice_get}
use Rattle.index_lists.specs.Words.{one_if}
use Rattle.index_lists.proofs.Counts.{same_or_not}
use Rattle.plain_files.specs.declared.calls.Numbered.{Numbered}
use Rattle.plain_files.specs.declared.calls.Reply.{Reply}
use Rattle.plain_files.specs.declared.calls.Request.{Request}
use Rattle.plain_files.specs.History.{Entry, requests_of}
use Rattle.script_words.specs.declared.script.Lane.{Lane}
use Rattle.script_words.specs.Lanes.{requests_by_lane}
use Rattle.lane_logs.specs.declared.logs.LaneLog.{LaneLog}
use Rattle.lane_logs.specs.Logs.{replies_to, AreLogs, HaveRoom}

abbrev reply_at : ℕ → Reply → Numbered
reply_at number reply = record { number = number; reply = reply }

-- ---- replies

abbrev pub one_of : ℕ → ℕ → Entry → List Numbered
one_of lane number e = if e.lane == lane then reply_at number e.reply ∷ [] else []

pub replies_more : (lane last : ℕ) (calls : List Entry) (e : Entry) → replies_to lane last (calls ++ e ∷ []) ≡ replies_to lane last calls ++ one_of lane (last + length calls + 1) e
replies_more lane last [] e =
    let n : last + 1 ≡ last + 0 + 1 = omega arith in
    ap (λ (k : ℕ). one_of lane k e) n
replies_more lane last (x ∷ calls) e =
    let n : last + 1 + length calls + 1 ≡ last + length (x ∷ calls) + 1 = omega arith in
    more_by (x.lane == lane) (reply_at (last + 1) x.reply) (replies_to lane (last + 1) (calls ++ e ∷ [])) (replies_to lane (last + 1) calls) (one_of lane (last + length (x ∷ calls) + 1) e)
    (replies_more lane (last + 1) calls e ∙ ap (λ (m : ℕ). replies_to lane (last + 1) calls ++ one_of lane m e) n)
  where
    more_by : (t : Bool) (y : Numbered) (xs ys zs : List Numbered) → xs ≡ ys ++ zs → (if t then y ∷ xs else xs) ≡ (if t then y ∷ ys else ys) ++ zs
    more_by true y xs ys zs k = ap (λ (ws : List Numbered). y ∷ ws) k
    more_by false y xs ys zs k = k

one_here : (lane number : ℕ) (e : Entry) → e.lane ≡ lane → one_of lane number e ≡ reply_at number e.reply ∷ []
one_here lane number e same =
    let t : (e.lane == lane) ≡ true = grind (arith, nat_tests) in
    ap (λ (b : Bool). if b then reply_at number e.reply ∷ [] else []) t

one_elsewhere : (lane number : ℕ) (e : Entry) → e.lane ≢ lane → one_of lane number e ≡ []
one_elsewhere lane number e other =
    let t : (e.lane == lane) ≡ false = grind (arith, nat_tests) in
    ap (λ (b : Bool). if b then reply_at number e.reply ∷ [] else []) t

pub one_long : (lane number : ℕ) (e : Entry) → length (one_of lane number e) ≡ one_if (e.lane == lane)
one_long lane number e = go (e.lane == lane)
  where
    go : (t : Bool) → length (if t then reply_at number e.reply ∷ [] else []) ≡ one_if t
    go true = refl
    go false = refl

-- ---- logs

at_set : (logs : List LaneLog) (lane l : ℕ) (new log : LaneLog) → lane < length logs → slice_get (set logs lane new) l ≡ Some log → ((l ≡ lane) × (log ≡ new)) ⊎ ((l ≢ lane) × (slice_get logs l ≡ Some log))
at_set logs lane l new log low e =
    let within : l < length logs = let k = slice_get_within (set logs lane new) l log e in let s = length-set logs lane new in omega arith in
    let is : get_or (set logs lane new) l log ≡ log = get_or_from_slice_get (set logs lane new) l log log e in
    ⊎_elim
    (λ (s : l ≡ lane). inl (s, sym is ∙ get_or-set_at logs lane l new log s low))
    (λ (d : l ≢ lane). inr (d, slice_get_read logs (length logs) l log refl within (sym is ∙ get_or-set_other logs lane l new log d))) (same_or_not l lane)

pub noted : (logs : List LaneLog) (lane : ℕ) (log new : LaneLog) (lanes last number : ℕ) (calls : List Entry) (e : Entry) → lane < length logs → log ≡ get_or logs lane log → new.lane ≡ log.lane →
    new.entries.items ≡ log.entries.items ++ reply_at number e.reply ∷ [] → number ≡ last + length calls + 1 → e.lane ≡ lane → AreLogs lanes last calls logs → AreLogs lanes last (calls ++ e ∷ []) (set logs lane new)
noted logs lane log new lanes last number calls e low here same more count of are =
    let old : slice_get logs lane ≡ Some log = slice_get_read logs (length logs) lane log refl low here in
    record {
      count = length-set logs lane new ∙ are.count;
      lane = λ l x at. ⊎_elim
          (λ k. ap (λ (z : LaneLog). z.lane) k.1 ∙ (same ∙ (are.lane lane log old ∙ sym k.0)))
          (λ k. are.lane l x k.1) (at_set logs lane l new x low at);
      replies = λ l x at. ⊎_elim
          (λ k.
          let a : x.entries.items ≡ replies_to lane last calls ++ reply_at number e.reply ∷ [] = ap (λ (z : LaneLog). z.entries.items) k.1 ∙ (more ∙ ap (λ (xs : List Numbered). xs ++ reply_at number e.reply ∷ []) (are.replies lane log old)) in
          let b : replies_to lane last (calls ++ e ∷ []) ≡ replies_to lane last calls ++ reply_at number e.reply ∷ [] = replies_more lane last calls e ∙ ap (λ (xs : List Numbered). replies_to lane last calls ++ xs) (one_here lane (last + length calls + 1) e of ∙ ap (λ (m : ℕ). reply_at m e.reply ∷ []) (sym count)) in
          a ∙ (sym b ∙ ap (λ (m : ℕ). replies_to m last (calls ++ e ∷ [])) (sym k.0)))
          (λ k.
          let d : e.lane ≢ l = λ q. k.0 (sym q ∙ of) in
          are.replies l x k.1 ∙ sym (replies_more l last calls e ∙ (ap (λ (xs : List Numbered). replies_to l last calls ++ xs) (one_elsewhere l (last + length calls + 1) e d) ∙ append-nil (replies_to l last calls)))) (at_set logs lane l new x low at);
    }

-- a lane's log has room for one more
pub room_in : (logs : List LaneLog) (lane : ℕ) (log : LaneLog) → lane < length logs → log ≡ get_or logs lane log → slice_get logs lane ≡ Some log
room_in logs lane log low here = slice_get_read logs (length logs) lane log refl low here

-- what holds of each log but for its entries holds again
pub each_again : (P : ℕ → LaneLog → Type 0) (logs : List LaneLog) (lane : ℕ) (new : LaneLog) → lane < length logs → P lane new → ((l : ℕ) (log : LaneLog) → slice_get logs l ≡ Some log → P l log) →
    (l : ℕ) (log : LaneLog) → slice_get (set logs lane new) l ≡ Some log → P l log
each_again P logs lane new low here each l log at = ⊎_elim
    (λ k. subst (λ (z : ℕ). P z log) (sym k.0) (subst (P lane) (sym k.1) here))
    (λ k. each l log k.1) (at_set logs lane l new log low at)

-- ---- new logs

last_of : {A : Type 0} (xs : List A) (x y : A) (l : ℕ) → slice_get (xs ++ x ∷ []) l ≡ Some y → (slice_get xs l ≡ Some y) ⊎ ((l ≡ length xs) × (x ≡ y))
last_of [] x y zero e = inr (refl, cc)
last_of [] x y (suc l) e = absurd (cc)
last_of (z ∷ xs) x y zero e = inl e
last_of (z ∷ xs) x y (suc l) e = ⊎_elim (λ k. inl k) (λ k. let n = k.0 in inr (omega arith, k.1)) (last_of xs x y l e)

pub one_log_more : (n last : ℕ) (logs : List LaneLog) (log : LaneLog) → AreLogs n last [] logs → log.lane ≡ n → log.entries.items ≡ [] → AreLogs (n + 1) last [] (logs ++ log ∷ [])
one_log_more n last logs log are lane none = record {
  count = let k = are.count in omega (arith, length-append logs (log ∷ []));
  lane = λ l x at. ⊎_elim (λ k. are.lane l x k) (λ k. ap (λ (z : LaneLog). z.lane) (sym k.1) ∙ (lane ∙ (sym are.count ∙ sym k.0))) (last_of logs log x l at);
  replies = λ l x at. ⊎_elim (λ k. are.replies l x k) (λ k. ap (λ (z : LaneLog). z.entries.items) (sym k.1) ∙ none) (last_of logs log x l at);
}

pub no_logs : (last : ℕ) → AreLogs 0 last [] []
no_logs last = record { count = refl; lane = λ l x at. absurd (cc); replies = λ l x at. absurd (cc) }

asked_of : (lanes : List Lane) (n : ℕ) (x : Lane) → n < length lanes → x ≡ get_or lanes n x → requests_of (requests_by_lane lanes) n ≡ x.requests
asked_of lanes n x low here =
    ap (λ (o : Option (List Request)). unwrap_or o []) (slice_get-map (λ (l : Lane). l.requests) lanes n ∙ ap (option_map (λ (l : Lane). l.requests)) (slice_get_read lanes (length lanes) n x refl low here))

pub one_room_more : (lanes : List Lane) (n : ℕ) (x : Lane) (logs : List LaneLog) (log : LaneLog) → n ≡ length logs → n < length lanes → x ≡ get_or lanes n x → vec_capacity log.entries ≡ length x.requests →
    HaveRoom (requests_by_lane lanes) logs → HaveRoom (requests_by_lane lanes) (logs ++ log ∷ [])
one_room_more lanes n x logs log count low here room have l y at = ⊎_elim (λ k. have l y k)
    (λ k.
    let a : l ≡ n = k.0 ∙ sym count in
    let b = ap length (ap (requests_of (requests_by_lane lanes)) a ∙ asked_of lanes n x low here) in
    let c = ap (λ (z : LaneLog). vec_capacity z.entries) k.1 in
    omega arith) (last_of logs log y l at)
