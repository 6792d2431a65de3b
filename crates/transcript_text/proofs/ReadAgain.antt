-- A printed transcript reads back as its entries.
use Rattle.std.proofs.Common.{◌≡◌, ℕ, zero, suc, ◌+◌, ◌-◌, ◌<◌, ◌≤◌, ◌^◌, List, [], ◌∷◌, ◌++◌, length, take, drop, Bool, true, false, not, refl, ap, sym, ◌∙◌, Some, get_or, arith}
use Rattle.std.specs.Prelude.{decimal, codes, ◌==◌, bytes_eq, IsTrue, Result, Ok, slice_get, unwrap_or}
use Rattle.std.specs.List.{list_all, position_or_len, IsDistinct, AllByRecursion}
use Rattle.std.proofs.lemmas.Bool.{cond-true, cond-false}
use Rattle.std.proofs.lemmas.Bool.Decides.{nat_tests}
use Rattle.std.proofs.lemmas.List.{append-nil, length-append}
use Rattle.std.proofs.lemmas.List.Folds.{list_all-append}
use Rattle.std.proofs.lemmas.List.Splits.{slice_split_none, slice_split_at}
use Rattle.std.proofs.lemmas.Option.{unwrap_or-slice_get}
use Rattle.std.proofs.lemmas.Slice.Eq.{bytes_eq-Decides}
use Rattle.std.proofs.Math.Seq.{take-append_seam, drop-append_seam, get_or-append_seam}
use Rattle.plain_files.specs.declared.calls.Reply.{Reply}
use Rattle.sbpf_text.specs.Lexing.{lines, is_line_end, without_last}
use Rattle.sbpf_text.proofs.Cutting.{weaker, none_pass, position_at}
use Rattle.script_words.specs.declared.script.Lane.{Lane}
use Rattle.script_words.specs.Words.{is_lane, is_lane_byte, number_in}
use Rattle.script_words.specs.Lanes.{place_of, has_lane, lane_names, is_point, lane_part, number_part}
use Rattle.transcript_text.specs.Print.{Counts, reply_line, places_line}
use Rattle.transcript_text.specs.Transcripts.{Entry, text_lines, is_space, parts, is_number, is_count, are_places, is_places, call_at, request_at, is_allowed_at, reply_of, entry_parts, or_refused, read_entries, read_transcript}
use Rattle.transcript_text.specs.Again.{lines_from, text_of, IsEntry, AreEntries, AreCounts, AreLanes}
use Rattle.transcript_text.proofs.Numbers.{number_in-decimal, number_64-decimal}
use Rattle.transcript_text.proofs.ReplyWords.{is_inner, AreInner, spaced, reply_words, text_is_words, decimal_inner, words_inner, reply_again}

assoc : (a b c : List ℕ) → (a ++ b) ++ c ≡ a ++ (b ++ c)
assoc [] b c = refl
assoc (x ∷ a) b c = ap (λ t. x ∷ t) (assoc a b c)

-- ---- words of a line

inner_no_space : (b : ℕ) → is_inner b ≡ true → not (is_space b) ≡ true
inner_no_space b h = grind (arith, nat_tests)

inner_no_end : (b : ℕ) → is_inner b ≡ true → not (is_line_end b) ≡ true
inner_no_end b h = grind (arith, nat_tests)

-- the parts between spaces are the words
split_spaced : (w : List ℕ) (ws : List (List ℕ)) → list_all is_inner w ≡ true → AreInner ws → parts (spaced (w ∷ ws)) ≡ w ∷ ws
split_spaced w [] h hs = slice_split_none is_space w (none_pass is_space w (weaker is_inner (λ b. not (is_space b)) inner_no_space w h))
split_spaced w (v ∷ ws) h hs =
    slice_split_at is_space w 32 (spaced (v ∷ ws)) (none_pass is_space w (weaker is_inner (λ b. not (is_space b)) inner_no_space w h)) refl
    ∙ ap (λ (t : List (List ℕ)). w ∷ t) (split_spaced v ws hs.0 hs.1)

abbrev no_end : ℕ → Bool
no_end b = not (is_line_end b)

all_append : (p : ℕ → Bool) (v w : List ℕ) → list_all p v ≡ true → list_all p w ≡ true → list_all p (v ++ w) ≡ true
all_append p v w a b = list_all-append p v w ∙ grind arith

spaced_no_end : (w : List ℕ) (ws : List (List ℕ)) → list_all is_inner w ≡ true → AreInner ws → list_all no_end (spaced (w ∷ ws)) ≡ true
spaced_no_end w [] h hs = weaker is_inner no_end inner_no_end w h
spaced_no_end w (v ∷ ws) h hs = all_append no_end w (32 ∷ spaced (v ∷ ws)) (weaker is_inner no_end inner_no_end w h) (spaced_no_end v ws hs.0 hs.1)

-- a line without its end, and what stands behind the end
first_line : (line rest : List ℕ) → list_all no_end line ≡ true → lines (line ++ 10 ∷ rest) ≡ line ∷ lines rest
first_line line rest h = slice_split_at is_line_end line 10 rest (none_pass is_line_end line h) refl

last_line : (line : List ℕ) → list_all no_end line ≡ true → lines line ≡ line ∷ []
last_line line h = slice_split_none is_line_end line (none_pass is_line_end line h)

-- the lines of a text that ends with a line end
lines_of_ended : (body : List ℕ) → text_lines (body ++ 10 ∷ []) ≡ lines body
lines_of_ended [] = refl
lines_of_ended (b ∷ bs) =
    let count : length (bs ++ 10 ∷ []) ≡ suc (length bs) = omega (arith, length-append bs (10 ∷ [])) in
    let ends : (get_or (b ∷ (bs ++ 10 ∷ [])) (length (bs ++ 10 ∷ [])) 0 == 10) ≡ true =
    ap (λ i. get_or (b ∷ (bs ++ 10 ∷ [])) i 0 == 10) count ∙ ap (λ x. x == 10) (get_or-append_seam bs 10 [] 0) in
    let less : length (b ∷ (bs ++ 10 ∷ [])) - 1 ≡ length (b ∷ bs) = omega (arith, count) in
    let front : without_last (b ∷ (bs ++ 10 ∷ [])) ≡ b ∷ bs =
    ap (λ i. take i (b ∷ (bs ++ 10 ∷ []))) less ∙ take-append_seam (b ∷ bs) (10 ∷ []) in
    cond-true _ _ _ ends ∙ ap lines front

-- ---- lanes

all_at : {X : Type 0} (P : X → Type 0) (xs : List X) (i : ℕ) (d : X) → AllByRecursion P xs → i < length xs → P (get_or xs i d)
all_at P [] i d all h = absurd (omega arith)
all_at P (x ∷ xs) zero d all h = all.0
all_at P (x ∷ xs) (suc i) d all h = all_at P xs i d all.1 (omega (arith, h))

same_name : (name : List ℕ) → bytes_eq name name ≡ true
same_name name = (bytes_eq-Decides name name).1 refl

length_names : (lanes : List Lane) → length (lane_names lanes) ≡ length lanes
length_names [] = refl
length_names (lane ∷ lanes) = ap suc (length_names lanes)

-- the lane of a name stands where the name stands
place_at : (n : ℕ) (lanes : List Lane) (i : ℕ) → IsDistinct bytes_eq (lane_names lanes) → i < length lanes → (place_of (get_or (lane_names lanes) i []) n lanes).0 ≡ n + i
unfolding IsDistinct
place_at n [] i distinct h = absurd (omega arith)
place_at n (lane ∷ lanes) zero distinct h =
    let here = same_name lane.name in
    ap (λ (p : ℕ × ℕ). p.0) (cond-true (bytes_eq lane.name lane.name) (n, length lane.requests) (place_of lane.name (n + 1) lanes) here) ∙ omega arith
place_at n (lane ∷ lanes) (suc i) distinct h =
    let within : i < length (lane_names lanes) = omega (arith, h, length_names lanes) in
    let other : bytes_eq lane.name (get_or (lane_names lanes) i []) ≡ false = all_at (λ y. bytes_eq lane.name y ≡ false) (lane_names lanes) i [] distinct.0 within in
    ap (λ (p : ℕ × ℕ). p.0) (cond-false (bytes_eq lane.name (get_or (lane_names lanes) i [])) (n, length lane.requests) (place_of (get_or (lane_names lanes) i []) (n + 1) lanes) other)
    ∙ place_at (n + 1) lanes i distinct.1 (omega (arith, h)) ∙ omega arith

name_at : (lanes : List Lane) (i : ℕ) → AllByRecursion (λ (lane : Lane). IsTrue (is_lane lane.name)) lanes → i < length lanes → IsTrue (is_lane (get_or (lane_names lanes) i []))
name_at [] i all h = absurd (omega arith)
name_at (lane ∷ lanes) zero all h = all.0
name_at (lane ∷ lanes) (suc i) all h = name_at lanes i all.1 (omega (arith, h))

lane_bytes : (name : List ℕ) → IsTrue (is_lane name) → list_all is_lane_byte name ≡ true
lane_bytes name h = grind (arith, nat_tests)

lane_inner : (b : ℕ) → is_lane_byte b ≡ true → is_inner b ≡ true
lane_inner b h = grind (arith, nat_tests)

lane_no_point : (b : ℕ) → is_lane_byte b ≡ true → not (is_point b) ≡ true
lane_no_point b h = grind (arith, nat_tests)

point_at : (name ds : List ℕ) → IsTrue (is_lane name) → position_or_len is_point (name ++ 46 ∷ ds) ≡ length name
point_at name ds h = position_at is_point name 46 ds (weaker is_lane_byte (λ b. not (is_point b)) lane_no_point name (lane_bytes name h)) refl

lane_again : (name ds : List ℕ) → IsTrue (is_lane name) → lane_part (name ++ 46 ∷ ds) ≡ name
lane_again name ds h = ap (λ i. take i (name ++ 46 ∷ ds)) (point_at name ds h) ∙ take-append_seam name (46 ∷ ds)

number_again : (name ds : List ℕ) → IsTrue (is_lane name) → number_part (name ++ 46 ∷ ds) ≡ ds
number_again name ds h =
    let past : length name + 1 ≡ length (name ++ 46 ∷ []) = omega (arith, length-append name (46 ∷ [])) in
    ap (λ i. drop (i + 1) (name ++ 46 ∷ ds)) (point_at name ds h)
    ∙ ap (λ i. drop i (name ++ 46 ∷ ds)) past
    ∙ ap (λ t. drop (length (name ++ 46 ∷ [])) t) (sym (assoc name (46 ∷ []) ds))
    ∙ drop-append_seam (name ++ 46 ∷ []) ds

-- ---- the words of an entry

abbrev call_word : List ℕ → ℕ → List ℕ
call_word name k = name ++ 46 ∷ decimal k

call_found : (lanes : List Lane) (name ds word : List ℕ) (i k : ℕ) → lane_part word ≡ name → number_part word ≡ ds → has_lane name lanes ≡ true → (place_of name 0 lanes).0 ≡ i → number_in 1 (2 ^ 32 - 1) ds ≡ Some k → call_at lanes word ≡ Some (i, k)
unfolding call_at
call_found lanes name ds word i k front back there place number = rw (front, back, there, number, place) refl

call_again : (lanes : List Lane) (i k : ℕ) → AreLanes lanes → i < length lanes → 1 ≤ k → k < 2 ^ 32 → call_at lanes (call_word (get_or (lane_names lanes) i []) k) ≡ Some (i, k)
call_again lanes i k are h from_one number =
    let name = get_or (lane_names lanes) i [] in
    let formed = name_at lanes i are.names h in
    let place : (place_of name 0 lanes).0 ≡ i = place_at 0 lanes i are.distinct h ∙ omega arith in
    let there : has_lane name lanes ≡ true = grind (arith, nat_tests, place, h) in
    call_found lanes name (decimal k) (call_word name k) i k (lane_again name (decimal k) formed) (number_again name (decimal k) formed) there place (number_in-decimal 1 (2 ^ 32 - 1) k (omega arith) from_one (omega arith))

numbered : (n : ℕ) → n < 2 ^ 64 → is_number n (35 ∷ decimal n) ≡ true
numbered n h = let read = number_in-decimal n n n h (omega arith) (omega arith) in rw read refl

entry_read : (lanes : List Lane) (n : ℕ) (number call : List ℕ) (words : List (List ℕ)) (i k : ℕ) (r : Reply) → is_number n number ≡ true → call_at lanes call ≡ Some (i, k) → reply_of words ≡ Some r → is_allowed_at (request_at lanes i k) r ≡ true → entry_parts lanes n (number ∷ call ∷ words) ≡ Some (i, k, r)
unfolding entry_parts
entry_read lanes n number call words i k r a b c d = rw (a, b, c, d) refl

not_places : (digits : List ℕ) (ws : List (List ℕ)) → is_places ((35 ∷ digits) ∷ ws) ≡ false
unfolding is_places are_places
not_places digits [] = refl
not_places digits (a ∷ []) = refl
not_places digits (a ∷ b ∷ []) = refl
not_places digits (a ∷ b ∷ c ∷ []) = refl
not_places digits (a ∷ b ∷ c ∷ d ∷ []) = refl
not_places digits (a ∷ b ∷ c ∷ d ∷ e ∷ ws) = refl

-- the words of a reply's line
abbrev line_words : List ℕ → ℕ → ℕ → Reply → List (List ℕ)
line_words name n k r = (35 ∷ decimal n) ∷ call_word name k ∷ reply_words r

some_words : (ws : List (List ℕ)) (r : Reply) → reply_of ws ≡ Some r → 0 < length ws
unfolding reply_of
some_words [] r h = absurd cc
some_words (w ∷ ws) r h = omega arith

spaced_more : (w : List ℕ) (ws : List (List ℕ)) → 0 < length ws → spaced (w ∷ ws) ≡ w ++ 32 ∷ spaced ws
spaced_more w [] h = absurd (omega arith)
spaced_more w (v ∷ ws) h = refl

line_assoc : (a lane k r : List ℕ) → ((((((a ++ 32 ∷ []) ++ lane) ++ 46 ∷ []) ++ k) ++ 32 ∷ []) ++ r) ≡ a ++ 32 ∷ ((lane ++ 46 ∷ k) ++ 32 ∷ r)
line_assoc a lane k r =
    assoc ((((a ++ 32 ∷ []) ++ lane) ++ 46 ∷ []) ++ k) (32 ∷ []) r
    ∙ ap (λ t. t ++ 32 ∷ r) (assoc ((a ++ 32 ∷ []) ++ lane) (46 ∷ []) k ∙ ap (λ t. t ++ 46 ∷ k) (assoc a (32 ∷ []) lane) ∙ assoc a (32 ∷ lane) (46 ∷ k))
    ∙ assoc a (32 ∷ (lane ++ 46 ∷ k)) (32 ∷ r)

line_is_words : (name : List ℕ) (n k : ℕ) (r : Reply) → reply_of (reply_words r) ≡ Some r → reply_line n name k r ≡ spaced (line_words name n k r) ++ 10 ∷ []
line_is_words name n k r read =
    let some = some_words (reply_words r) r read in
    ap (λ t. t ++ 10 ∷ [])
    (ap (λ t. ((((((35 ∷ decimal n) ++ 32 ∷ []) ++ name) ++ 46 ∷ []) ++ decimal k) ++ 32 ∷ []) ++ t) (text_is_words r)
    ∙ line_assoc (35 ∷ decimal n) name (decimal k) (spaced (reply_words r))
    ∙ ap (λ t. (35 ∷ decimal n) ++ 32 ∷ t) (sym (spaced_more (call_word name k) (reply_words r) some)))

call_inner : (name : List ℕ) (k : ℕ) → IsTrue (is_lane name) → k < 2 ^ 64 → list_all is_inner (call_word name k) ≡ true
call_inner name k formed h = all_append is_inner name (46 ∷ decimal k) (weaker is_lane_byte is_inner lane_inner name (lane_bytes name formed)) (decimal_inner k h)

-- ---- the last line

abbrev places_words : Counts → List (List ℕ)
places_words c = (codes "host=" ++ decimal c.host) ∷ (codes "drive=" ++ decimal c.drive) ∷ (codes "reads=" ++ decimal c.reads) ∷ (codes "writes=" ++ decimal c.writes) ∷ []

places_inner : (c : Counts) → AreCounts c → AreInner (places_words c)
places_inner c h = (decimal_inner c.host h.host, (decimal_inner c.drive h.drive, (decimal_inner c.reads h.reads, (decimal_inner c.writes h.writes, tt))))

abbrev places_text : Counts → List ℕ
places_text c = spaced (codes "places" ∷ places_words c)

places_is_words : (c : Counts) → places_line c ≡ places_text c ++ 10 ∷ []
places_is_words c =
    let host = decimal c.host in
    let drive = codes " drive=" ++ decimal c.drive in
    let reads = codes " reads=" ++ decimal c.reads in
    let writes = codes " writes=" ++ decimal c.writes in
    ap (λ t. (codes "places host=" ++ t) ++ 10 ∷ []) (assoc (host ++ drive) reads writes ∙ assoc host drive (reads ++ writes))

count_again : (c : Counts) → AreCounts c → is_places (codes "places" ∷ places_words c) ≡ true
unfolding is_places are_places is_count
count_again c h =
    let a = number_64-decimal c.host h.host in
    let b = number_64-decimal c.drive h.drive in
    let d = number_64-decimal c.reads h.reads in
    let e = number_64-decimal c.writes h.writes in
    rw (a, b, d, e) refl

-- ---- all lines

refused-some : {A B : Type 0} (n : ℕ) (found : _) (value : A) (next : A → Result B ℕ) → found ≡ Some value → or_refused n found next ≡ next value
refused-some n found value next is = rw is refl

append_more : (xs : List Entry) (x : Entry) (ys : List Entry) → (xs ++ x ∷ []) ++ ys ≡ xs ++ x ∷ ys
append_more [] x ys = refl
append_more (z ∷ xs) x ys = ap (λ t. z ∷ t) (append_more xs x ys)

-- one line
line_again : (lanes : List Lane) (n : ℕ) (acc : List Entry) (e : Entry) (rest : List (List ℕ)) → AreLanes lanes → IsEntry lanes e → n < 2 ^ 64 → read_entries lanes n acc (spaced (line_words (get_or (lane_names lanes) e.0 []) n e.1 e.2) ∷ rest) ≡ read_entries lanes (n + 1) (acc ++ e ∷ []) rest
line_again lanes n acc e rest are is small =
    let name = get_or (lane_names lanes) e.0 [] in
    let formed = name_at lanes e.0 are.names is.lane in
    let cut : parts (spaced (line_words name n e.1 e.2)) ≡ line_words name n e.1 e.2 =
    split_spaced (35 ∷ decimal n) (call_word name e.1 ∷ reply_words e.2) (decimal_inner n small) (call_inner name e.1 formed (let k = is.number in omega (arith, k)), words_inner e.2 is.reply) in
    let entry : entry_parts lanes n (line_words name n e.1 e.2) ≡ Some e =
    entry_read lanes n (35 ∷ decimal n) (call_word name e.1) (reply_words e.2) e.0 e.1 e.2 (numbered n small) (call_again lanes e.0 e.1 are is.lane is.from_one is.number) (reply_again e.2 is.reply) is.allowed in
    cond-false _ _ _ (ap is_places cut ∙ not_places (decimal n) (call_word name e.1 ∷ reply_words e.2))
    ∙ refused-some n _ e _ (ap (entry_parts lanes n) cut ∙ entry)

pub entries_again : (lanes : List Lane) (n : ℕ) (acc es : List Entry) (c : Counts) → AreLanes lanes → AllByRecursion (IsEntry lanes) es → AreCounts c → n + length es ≤ 2 ^ 64 → read_entries lanes n acc (lines (lines_from (lane_names lanes) n es ++ places_text c)) ≡ Ok (acc ++ es)
entries_again lanes n acc [] c are all counts few =
    let inner = places_inner c counts in
    let cut : parts (places_text c) ≡ codes "places" ∷ places_words c = split_spaced (codes "places") (places_words c) refl inner in
    ap (read_entries lanes n acc) (last_line (places_text c) (spaced_no_end (codes "places") (places_words c) refl inner))
    ∙ cond-true _ _ _ (ap is_places cut ∙ count_again c counts)
    ∙ ap (λ (es : List Entry). let r : Result (List Entry) ℕ = Ok es in r) (sym (append-nil acc))
entries_again lanes n acc (e ∷ es) c are all counts few =
    let name = get_or (lane_names lanes) e.0 [] in
    let is : IsEntry lanes e = all.0 in
    let small : n < 2 ^ 64 = omega (arith, few) in
    let read = reply_again e.2 is.reply in
    let formed = name_at lanes e.0 are.names is.lane in
    let words = line_words name n e.1 e.2 in
    let rest = lines_from (lane_names lanes) (n + 1) es ++ places_text c in
    let called : unwrap_or (slice_get (lane_names lanes) e.0) [] ≡ name = unwrap_or-slice_get (lane_names lanes) e.0 [] in
    let line : reply_line n (unwrap_or (slice_get (lane_names lanes) e.0) []) e.1 e.2 ≡ spaced words ++ 10 ∷ [] = ap (λ who. reply_line n who e.1 e.2) called ∙ line_is_words name n e.1 e.2 read in
    let whole : lines_from (lane_names lanes) n (e ∷ es) ++ places_text c ≡ spaced words ++ 10 ∷ rest =
    ap (λ l. (l ++ lines_from (lane_names lanes) (n + 1) es) ++ places_text c) line
    ∙ ap (λ l. l ++ places_text c) (assoc (spaced words) (10 ∷ []) (lines_from (lane_names lanes) (n + 1) es))
    ∙ assoc (spaced words) (10 ∷ lines_from (lane_names lanes) (n + 1) es) (places_text c) in
    let free : list_all no_end (spaced words) ≡ true =
    spaced_no_end (35 ∷ decimal n) (call_word name e.1 ∷ reply_words e.2) (decimal_inner n small) (call_inner name e.1 formed (let k = is.number in omega (arith, k)), words_inner e.2 is.reply) in
    ap (λ text. read_entries lanes n acc (lines text)) whole
    ∙ ap (read_entries lanes n acc) (first_line (spaced words) rest free)
    ∙ line_again lanes n acc e (lines rest) are is small
    ∙ entries_again lanes (n + 1) (acc ++ e ∷ []) es c are all.1 counts (omega (arith, few))
    ∙ ap (λ (xs : List Entry). let r : Result (List Entry) ℕ = Ok xs in r) (append_more acc e es)

-- the transcript of entries reads back
pub read_again : (lanes : List Lane) (es : List Entry) (c : Counts) → AreLanes lanes → AreEntries lanes es → AreCounts c → read_transcript (text_of (lane_names lanes) es c) lanes ≡ Ok es
read_again lanes es c are entries counts =
    let body = lines_from (lane_names lanes) 1 es ++ places_text c in
    let whole : text_of (lane_names lanes) es c ≡ body ++ 10 ∷ [] =
    ap (λ t. lines_from (lane_names lanes) 1 es ++ t) (places_is_words c) ∙ sym (assoc (lines_from (lane_names lanes) 1 es) (places_text c) (10 ∷ [])) in
    ap (λ text. read_entries lanes 1 [] (text_lines text)) whole
    ∙ ap (read_entries lanes 1 []) (lines_of_ended body)
    ∙ entries_again lanes 1 [] es c are entries.each counts (let few = entries.count in omega (arith, few))
