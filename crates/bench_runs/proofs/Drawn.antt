-- A drawn script has no `fault` lines: its first lane comes ahead of all drawn lines, and behind a lane no such line is read.
use Rattle.std.proofs.Common.{◌≡◌, ℕ, ◌+◌, ◌<◌, List, [], ◌∷◌, ◌++◌, length, Bool, true, false, bytes_eq, Option, Some, None, Result, Ok, Err, refl, sym, subst, ap, ◌∙◌, arith}
use Rattle.std.specs.Prelude.{codes, if◌then◌else◌, nat_lt, not, ◌&&◌, ◌||◌, ◌^◌, is_some}
use Rattle.std.specs.List.{list_all, list_any}
use Rattle.std.proofs.lemmas.Bool.Decides.{nat_tests}
use Rattle.plain_files.specs.declared.calls.Request.{Request}
use Rattle.plain_files.specs.Steps.{◌>>=◌, refuse}
use Rattle.sbpf_text.specs.Lexing.{lines, is_line_byte, ends_with_colon, without_last}
use Rattle.script_words.specs.declared.script.Lane.{Lane}
use Rattle.script_words.specs.declared.script.Script.{Script}
use Rattle.script_words.specs.Words.{words, is_lane}
use Rattle.call_text.specs.declared.faults.ScriptKind.{ScriptKind}
use Rattle.call_text.specs.declared.faults.ScriptKind.TheVariants as kind
use Rattle.call_text.specs.declared.faults.ScriptErr.{ScriptErr}
use Rattle.call_text.specs.declared.faults.ScriptErr.TheVariants as err
use Rattle.call_text.specs.Blocks.{block_of, ends_block, assembled}
use Rattle.call_text.specs.Calls.{verb_of, or_fault, call_of}
use Rattle.call_text.specs.Awaits.{awaited, await_of, is_called_later}
use Rattle.call_text.specs.Limits.{line_bytes}
use Rattle.name_table.specs.Name.{is_name}
use Rattle.script_words.specs.Lanes.{place_of}
use Rattle.call_text.specs.Scripts.{Reading, nothing, script_of, with_request, with_lane, with_call, with_await, behind_lane, await_line, call_line, lane_line, fault_words, fault_line, func_line, body_line, end_line, is_comment, word_line, is_past_limit, one_of, outside_line, at_line, line_in, read_lines, read_script}
use Rattle.bench_script.specs.Draws.{first}
use Rattle.bench_script.specs.Script as drawing

-- ---- steps that were taken

-- of a step that led to a value: the value of the first part, and that the rest led there
record Taken {A B E : Type 0} (r : Result A E) (next : A → Result B E) (y : B) : Type 0 where
  pub got : A
  pub gave : r ≡ Ok got
  pub later : next got ≡ Ok y

taken : {A B E : Type 0} (r : Result A E) (next : A → Result B E) (y : B) → (r >>= next) ≡ Ok y → Taken r next y
taken (Ok x) next y is = record { got = x; gave = refl; later = is }
taken (Err e) next y is = cc

abbrev AreSame : {A E : Type 0} → Result A E → Result A E → Type 0
AreSame a b = a ≡ b

same_ok : {A E : Type 0} (x y : A) → AreSame {E = E} (Ok x) (Ok y) → x ≡ y
same_ok x y is = cc

passed : {E : Type 0} (test : Bool) (e : E) (u : Unit {0}) → refuse test e ≡ Ok u → test ≡ false
passed true e u is = cc
passed false e u is = refl

at_ok : {A : Type 0} (n : ℕ) (r : Result A ScriptKind) (y : A) → at_line n r ≡ Ok y → r ≡ Ok y
at_ok n (Ok x) y is = let same : x ≡ y = cc in ap Ok same
at_ok n (Err e) y is = cc

-- ---- behind the first lane

-- some lane is there, and no `fault` line came
record IsBegun (s : Reading) : Type 0 where
  pub some : 0 < length s.lanes
  pub none : s.faults ≡ []

request_some : (name : List ℕ) (request : Request) (lanes : List Lane) → 0 < length (with_request name request lanes)
request_some name request [] = omega arith
request_some name request (lane ∷ lanes) =
    elim (bytes_eq lane.name name) as (λ b. 0 < length (if b then record lane { requests = lane.requests ++ request ∷ [] } ∷ lanes else lane ∷ with_request name request lanes)) [ true ↦ omega arith | false ↦ omega arith ]

lane_some : (name : List ℕ) (lanes : List Lane) → 0 < length (with_lane name lanes)
lane_some name [] = omega arith
lane_some name (lane ∷ lanes) =
    elim (bytes_eq lane.name name) as (λ b. 0 < length (if b then lane ∷ lanes else lane ∷ with_lane name lanes)) [ true ↦ omega arith | false ↦ omega arith ]

-- a line of a lane
call_begun : (s t : Reading) (name first : List ℕ) (args : List (List ℕ)) → s.faults ≡ [] → call_line s name first args ≡ Ok t → IsBegun t
unfolding call_line
call_begun s t name first args none is =
    let k = taken (behind_lane (is_lane name) (call_of s.blocks (verb_of first) args)) _ t is in
    subst IsBegun (same_ok (with_call s name k.got) t k.later) (record { some = request_some name _ s.lanes; none = none })

await_begun : (s t : Reading) (name : List ℕ) (args rest : List (List ℕ)) → s.faults ≡ [] → await_line s name args rest ≡ Ok t → IsBegun t
unfolding await_line
await_begun s t name [] rest none is = cc
await_begun s t name (call ∷ []) rest none is =
    let a = taken (refuse (not (is_lane name)) kind.Lane) _ t is in
    let b = taken (or_fault kind.Await (awaited s.lanes call)) _ t a.later in
    let c = taken (refuse (is_some (await_of (place_of name 0 s.lanes).0 s.awaits)) kind.Await) _ t b.later in
    let d = taken (refuse (not (is_called_later name false rest)) kind.Await) _ t c.later in
    subst IsBegun (same_ok (with_await s name b.got) t d.later) (record { some = lane_some name s.lanes; none = none })
await_begun s t name (call ∷ other ∷ more) rest none is = cc

lane_begun : (s t : Reading) (name : List ℕ) (args rest : List (List ℕ)) → s.faults ≡ [] → lane_line s name args rest ≡ Ok t → IsBegun t
unfolding lane_line
lane_begun s t name [] rest none is = cc
lane_begun s t name (first ∷ args) rest none is = by (bytes_eq first (codes "await")) is
  where
    by : (b : Bool) → (if b then await_line s name args rest else call_line s name first args) ≡ Ok t → IsBegun t
    by true is = await_begun s t name args rest none is
    by false is = call_begun s t name first args none is

-- a `fault` line
none_later : (s t : Reading) (n : ℕ) (which die way nth : List ℕ) → 0 < length s.lanes → fault_words n s which die way nth ≡ Ok t → ⊥
unfolding fault_words
none_later s t n which die way nth some is =
    let a = taken (one_of (codes "die") (codes "copy") which) _ t is in
    let b = taken (one_of (codes "read") (codes "write") way) _ t a.later in
    let c = taken (refuse (nat_lt 0 (length s.lanes)) kind.Order) _ t b.later in
    let no = passed (nat_lt 0 (length s.lanes)) kind.Order c.got c.gave in
    grind (arith, nat_tests)

no_fault_line : (s t : Reading) (n : ℕ) (args : List (List ℕ)) → 0 < length s.lanes → fault_line n s args ≡ Ok t → ⊥
unfolding fault_line
no_fault_line s t n [] some is = cc
no_fault_line s t n (a ∷ []) some is = cc
no_fault_line s t n (a ∷ b ∷ []) some is = cc
no_fault_line s t n (a ∷ b ∷ c ∷ []) some is = cc
no_fault_line s t n (a ∷ b ∷ c ∷ d ∷ []) some is = none_later s t n a b c d some is
no_fault_line s t n (a ∷ b ∷ c ∷ d ∷ e ∷ more) some is = cc

func_begun : (s t : Reading) (n : ℕ) (args rest : List (List ℕ)) → IsBegun s → func_line n s args rest ≡ Ok t → IsBegun t
unfolding func_line
func_begun s t n [] rest begun is = cc
func_begun s t n (name ∷ []) rest begun is =
    let a = taken (refuse (not (list_any ends_block rest)) kind.Line) _ t is in
    let b = taken (refuse (not (is_name name) || is_some (block_of name s.blocks)) kind.Name) _ t a.later in
    subst IsBegun (same_ok (record s { block = Some n; name = name; text = [] }) t b.later) (record { some = begun.some; none = begun.none })
func_begun s t n (name ∷ other ∷ more) rest begun is = cc

words_begun : (s t : Reading) (n : ℕ) (ws rest : List (List ℕ)) → IsBegun s → word_line n s ws rest ≡ Ok t → IsBegun t
unfolding word_line
words_begun s t n [] rest begun is = subst IsBegun (same_ok s t is) begun
words_begun s t n (first ∷ more) rest begun is = by (is_comment first) (bytes_eq first (codes "fault")) (bytes_eq first (codes "func")) (ends_with_colon first) is
  where
    by : (comment fault func lane : Bool) → (if comment then Ok s else if fault then fault_line n s more else if func then func_line n s more rest else if lane then lane_line s (without_last first) more rest else Err kind.Line) ≡ Ok t → IsBegun t
    by true fault func lane is = subst IsBegun (same_ok s t is) begun
    by false true func lane is = absurd (no_fault_line s t n more begun.some is)
    by false false true lane is = func_begun s t n more rest begun is
    by false false false true is = lane_begun s t (without_last first) more rest begun.none is
    by false false false false is = cc

-- what a line outside the blocks leads to, but for the count of call bytes
record Outside (s t : Reading) (n : ℕ) (line : List ℕ) (rest : List (List ℕ)) : Type 0 where
  pub read : Reading
  pub gave : word_line n s (words line) rest ≡ Ok read
  pub bytes : ℕ
  pub left : record read { bytes = bytes } ≡ t

outside : (s t : Reading) (n : ℕ) (line : List ℕ) (rest : List (List ℕ)) → outside_line n s line rest ≡ Ok t → Outside s t n line rest
unfolding outside_line
outside s t n line rest is =
    let a = taken (refuse (is_past_limit s (words line)) kind.Limit) _ t is in
    let b = taken (refuse (not (list_all is_line_byte line)) kind.Char) _ t a.later in
    let c = taken (word_line n s (words line) rest) _ t b.later in
    let bytes = s.bytes + line_bytes s.blocks (words line) in
    record { read = c.got; gave = c.gave; bytes = bytes; left = same_ok (record c.got { bytes = bytes }) t c.later }

outside_begun : (s t : Reading) (n : ℕ) (line : List ℕ) (rest : List (List ℕ)) → IsBegun s → outside_line n s line rest ≡ Ok t → IsBegun t
outside_begun s t n line rest begun is =
    let k = outside s t n line rest is in
    let at = words_begun s k.read n (words line) rest begun k.gave in
    subst IsBegun k.left (record { some = at.some; none = at.none })

-- a line in a block leaves the lanes and the `fault` lines
record InBlock (s t : Reading) : Type 0 where
  pub lanes : t.lanes ≡ s.lanes
  pub faults : t.faults ≡ s.faults

body_same : (s t : Reading) (line : List ℕ) → body_line s line ≡ Ok t → InBlock s t × (t.block ≡ s.block)
unfolding body_line
body_same s t line is =
    let a = taken (refuse (not (list_all is_line_byte line)) kind.Char) _ t is in
    let made : Reading = record s { text = s.text ++ line ++ 10 ∷ [] } in
    let e = same_ok made t a.later in
    (record { lanes = ap (λ (r : Reading). r.lanes) (sym e); faults = ap (λ (r : Reading). r.faults) (sym e) }, ap (λ (r : Reading). r.block) (sym e))

end_same : (s t : Reading) (opened : ℕ) → end_line s opened ≡ Ok t → InBlock s t × (t.block ≡ None)
unfolding end_line
end_same s t opened is =
    let a = taken (assembled opened s.text) _ t is in
    let made : Reading = record s { blocks = s.blocks ++ record { name = s.name; code = a.got } ∷ []; block = None } in
    let e = same_ok made t a.later in
    (record { lanes = ap (λ (r : Reading). r.lanes) (sym e); faults = ap (λ (r : Reading). r.faults) (sym e) }, ap (λ (r : Reading). r.block) (sym e))

block_begun : (s t : Reading) → IsBegun s → InBlock s t → IsBegun t
block_begun s t begun same = record { some = subst (λ (ls : List Lane). 0 < length ls) (sym same.lanes) begun.some; none = same.faults ∙ begun.none }

line_begun : (s t : Reading) (block : Option ℕ) (n : ℕ) (line : List ℕ) (rest : List (List ℕ)) → IsBegun s → line_in block n s line rest ≡ Ok t → IsBegun t
unfolding line_in
line_begun s t None n line rest begun is = outside_begun s t n line rest begun (at_ok n (outside_line n s line rest) t is)
line_begun s t (Some opened) n line rest begun is = by (ends_block line) is
  where
    by : (b : Bool) → (if b then end_line s opened else at_line n (body_line s line)) ≡ Ok t → IsBegun t
    by true is = block_begun s t begun (end_same s t opened is).0
    by false is = block_begun s t begun (body_same s t line (at_ok n (body_line s line) t is)).0

read_begun : (text : List (List ℕ)) (s t : Reading) (n : ℕ) → IsBegun s → read_lines n s text ≡ Ok t → IsBegun t
read_begun [] s t n begun is = subst IsBegun (same_ok s t is) begun
read_begun (line ∷ rest) s t n begun is =
    let k = taken (line_in s.block n s line rest) _ t is in
    read_begun rest k.got t (n + 1) (line_begun s k.got s.block n line rest begun k.gave) k.later

-- ---- ahead of it

-- a block is open, and no `fault` line came
record IsOpen (s : Reading) : Type 0 where
  pub opened : ℕ
  pub block : s.block ≡ Some opened
  pub none : s.faults ≡ []

-- no block is
record IsClosed (s : Reading) : Type 0 where
  pub block : s.block ≡ None
  pub none : s.faults ≡ []

-- the reader behind some lines, and what is left
record Behind (s t : Reading) (rest : List (List ℕ)) (P : Reading → Type 0) : Type 0 where
  pub now : Reading
  pub is : P now
  pub line : ℕ
  pub left : read_lines line now rest ≡ Ok t

-- `func lines`
func_opens : (s t : Reading) (n : ℕ) (args rest : List (List ℕ)) → s.faults ≡ [] → func_line n s args rest ≡ Ok t → IsOpen t
unfolding func_line
func_opens s t n [] rest none is = cc
func_opens s t n (name ∷ []) rest none is =
    let a = taken (refuse (not (list_any ends_block rest)) kind.Line) _ t is in
    let b = taken (refuse (not (is_name name) || is_some (block_of name s.blocks)) kind.Name) _ t a.later in
    subst IsOpen (same_ok (record s { block = Some n; name = name; text = [] }) t b.later) (record { opened = n; block = refl; none = none })
func_opens s t n (name ∷ other ∷ more) rest none is = cc

first_words : (s t : Reading) (n : ℕ) (rest : List (List ℕ)) → word_line n s (words (codes "func lines")) rest ≡ Ok t → func_line n s (codes "lines" ∷ []) rest ≡ Ok t
unfolding word_line
first_words s t n rest is = is

opens : (s t : Reading) (n : ℕ) (rest : List (List ℕ)) → IsClosed s → read_lines n s (codes "func lines" ∷ rest) ≡ Ok t → Behind s t rest IsOpen
unfolding line_in
opens s t n rest closed is =
    let k = taken (line_in s.block n s (codes "func lines") rest) _ t is in
    let P : Option ℕ → Type 0 = λ block. line_in block n s (codes "func lines") rest ≡ Ok k.got in
    let o = outside s k.got n (codes "func lines") rest (at_ok n (outside_line n s (codes "func lines") rest) k.got (subst P closed.block k.gave)) in
    let at = func_opens s o.read n (codes "lines" ∷ []) rest closed.none (first_words s o.read n rest o.gave) in
    record { now = k.got; is = subst IsOpen o.left (record { opened = at.opened; block = at.block; none = at.none }); line = n + 1; left = k.later }

-- the lines of a block
abbrev goes_on : List ℕ → Bool
goes_on line = not (ends_block line)

stays_open : (s t : Reading) (n : ℕ) (line : List ℕ) (rest : List (List ℕ)) → goes_on line ≡ true → IsOpen s → line_in s.block n s line rest ≡ Ok t → IsOpen t
unfolding line_in
stays_open s t n line rest on was is =
    let P : Option ℕ → Type 0 = λ block. line_in block n s line rest ≡ Ok t in
    by (ends_block line) on (subst P was.block is)
  where
    by : (b : Bool) → not b ≡ true → (if b then end_line s was.opened else at_line n (body_line s line)) ≡ Ok t → IsOpen t
    by true on is = cc
    by false on is =
        let k = body_same s t line (at_ok n (body_line s line) t is) in
        record { opened = was.opened; block = k.1 ∙ was.block; none = k.0.faults ∙ was.none }

both : (a b : Bool) → (a && b) ≡ true → (a ≡ true) × (b ≡ true)
both true b is = (refl, is)
both false b is = cc

body : (text rest : List (List ℕ)) (s t : Reading) (n : ℕ) → list_all goes_on text ≡ true → IsOpen s → read_lines n s (text ++ rest) ≡ Ok t → Behind s t rest IsOpen
body [] rest s t n on was is = record { now = s; is = was; line = n; left = is }
body (line ∷ text) rest s t n on was is =
    let k = taken (line_in s.block n s line (text ++ rest)) _ t is in
    let parts = both (goes_on line) (list_all goes_on text) on in
    let later = body text rest k.got t (n + 1) parts.1 (stays_open s k.got n line (text ++ rest) parts.0 was k.gave) k.later in
    record { now = later.now; is = later.is; line = later.line; left = later.left }

-- `end`
closes : (s t : Reading) (n : ℕ) (rest : List (List ℕ)) → IsOpen s → read_lines n s (codes "end" ∷ rest) ≡ Ok t → Behind s t rest IsClosed
unfolding line_in
closes s t n rest was is =
    let k = taken (line_in s.block n s (codes "end") rest) _ t is in
    let P : Option ℕ → Type 0 = λ block. line_in block n s (codes "end") rest ≡ Ok k.got in
    let e = end_same s k.got was.opened (subst P was.block k.gave) in
    record { now = k.got; is = record { block = e.1; none = e.0.faults ∙ was.none }; line = n + 1; left = k.later }

-- `a: create f0`
lane_words : (s t : Reading) (n : ℕ) (rest : List (List ℕ)) → word_line n s (words (codes "a: create f0")) rest ≡ Ok t → lane_line s (codes "a") (codes "create" ∷ codes "f0" ∷ []) rest ≡ Ok t
unfolding word_line
lane_words s t n rest is = is

begins : (s t : Reading) (n : ℕ) (rest : List (List ℕ)) → IsClosed s → read_lines n s (codes "a: create f0" ∷ rest) ≡ Ok t → IsBegun t
unfolding line_in
begins s t n rest closed is =
    let k = taken (line_in s.block n s (codes "a: create f0") rest) _ t is in
    let P : Option ℕ → Type 0 = λ block. line_in block n s (codes "a: create f0") rest ≡ Ok k.got in
    let o = outside s k.got n (codes "a: create f0") rest (at_ok n (outside_line n s (codes "a: create f0") rest) k.got (subst P closed.block k.gave)) in
    let at = lane_begun s o.read (codes "a") (codes "create" ∷ codes "f0" ∷ []) rest closed.none (lane_words s o.read n rest o.gave) in
    read_begun rest k.got t (n + 1) (subst IsBegun o.left (record { some = at.some; none = at.none })) k.later

-- ---- the whole

abbrev block_lines : List (List ℕ)
block_lines =
    codes "  ldxdw r2, [r1+0]" ∷ codes "  ldxdw r3, [r1+8]" ∷ codes "  ldxdw r4, [r1+16]" ∷ codes "  add r3, r2" ∷ codes "next:" ∷ codes "  jeq r2, r3, done"
    ∷ codes "  ldxb r5, [r2+0]" ∷ codes "  add r2, 1" ∷ codes "  jne r5, 10, next" ∷ codes "  add r6, 1" ∷ codes "  ja next" ∷ codes "done:" ∷ codes "  stxdw [r4+0], r6"
    ∷ codes "  mov r0, 8" ∷ codes "  exit" ∷ []

-- what stands behind the first line of a lane
abbrev behind_first : List ℕ → List ℕ
behind_first drawn = codes "b: create f1\nc: create f2\nd: create f3\na: load lines func lines\n" ++ drawn

whole : (drawn : List ℕ) → lines (drawing.function_block ++ drawing.opening_lines ++ drawn) ≡ codes "func lines" ∷ block_lines ++ codes "end" ∷ codes "a: create f0" ∷ lines (behind_first drawn)
whole drawn = refl

reads_none : (start calls n : ℕ) (t : Reading) → read_lines n nothing (lines (drawing.script start calls)) ≡ Ok t → IsBegun t
reads_none start calls n t is =
    let rest = lines (behind_first (drawing.lines calls (first start))) in
    let P : List (List ℕ) → Type 0 = λ ls. read_lines n nothing ls ≡ Ok t in
    let a = opens nothing t n (block_lines ++ codes "end" ∷ codes "a: create f0" ∷ rest) (record { block = refl; none = refl }) (subst P (whole (drawing.lines calls (first start))) is) in
    let b = body block_lines (codes "end" ∷ codes "a: create f0" ∷ rest) a.now t a.line refl a.is a.left in
    let c = closes b.now t b.line (codes "a: create f0" ∷ rest) b.is b.left in
    begins c.now t c.line rest c.is c.left

pub no_faults : (start calls : ℕ) (drawn : Script) → read_script (drawing.script start calls) ≡ Ok drawn → drawn.faults ≡ []
no_faults start calls drawn is =
    let text = drawing.script start calls in
    let long : ScriptErr = err.Script (record { line = 0; kind = kind.Limit }) in
    let a = taken (refuse (nat_lt (2 ^ 24) (length text)) long) _ drawn is in
    let b = taken (read_lines 1 nothing (lines text)) _ drawn a.later in
    ap (λ (s : Script). s.faults) (sym (same_ok (script_of b.got) drawn b.later)) ∙ (reads_none start calls 1 b.got b.gave).none
