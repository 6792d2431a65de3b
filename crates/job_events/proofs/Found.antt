-- What the tables find for a call is what the core's names find, and where a call that puts bytes ends at most.
use Rattle.std.proofs.Common.{◌≡◌, ℕ, ◌+◌, ◌≤◌, Bool, true, false, List, [], ◌∷◌, length, Option, Some, None, refl, sym, ap, ◌∙◌, arith}
use Rattle.std.specs.Prelude.{◌==◌, ◌/◌, ◌-◌, nat_lt, min, map, is_some, option_map, bytes_eq, if◌then◌else◌, IfSome}
use Rattle.std.specs.List.{All, AllByRecursion, find}
use Rattle.std.proofs.lemmas.List.Elements.{All-head, All-tail}
use Rattle.page_base.specs.Bytes.{Pages}
use Rattle.name_table.specs.declared.files.FileRec.{FileRec}
use Rattle.name_table.specs.Files.{IsFile}
use Rattle.sbpf_insn.specs.Program.{Program}
use Rattle.sbpf_insn.specs.Cells.{slots}
use Rattle.plain_files.specs.declared.calls.Call.{Call}
use Rattle.plain_files.specs.declared.calls.Call.TheVariants.{Read, Write, Append, Trunc, Readl, Writel}
use Rattle.plain_files.specs.Plain.{State, bytes_in, end_of}
use Rattle.core_state.specs.State.{Function, Shared, Exclusive}
use Rattle.core_state.specs.Reach.{is_lambda, is_exclusive, file_word, file_for, function_by, function_for, len_or_none, no_reach, read_reach, write_reach, reach_of}
use Rattle.core_state.specs.Hold.{code_of}
use Rattle.core_lemmas.proofs.Views.{find_map, is_some_map}
use Rattle.system_state.specs.Cores as cores
use Rattle.system_state.specs.declared.state.Function.{Function as FunctionRow}
use Rattle.call_checks.specs.Checks as checks
use Rattle.call_checks.specs.Checks.{row_for, len_or}
use Rattle.call_checks.proofs.Found.{row_seen}
use Rattle.call_checks.proofs.Limits.{len_most}
use Rattle.job_events.specs.Armed.{code_row}

-- ---- the file

len_seen : (o : Option FileRec) → len_or_none (option_map cores.file_of o) ≡ len_or o
len_seen None = refl
len_seen (Some f) = refl

pub len_found : (rows : List FileRec) (call : Call) → len_or_none (file_for (map cores.file_of rows) call) ≡ len_or (row_for rows call)
len_found rows call = ap len_or_none (row_seen rows (file_word call)) ∙ len_seen (row_for rows call)

-- a file that is found is no longer than files may be
pub short_file : (next : ℕ) (rows : List FileRec) (call : Call) (o : Option FileRec) (f : FileRec) → AllByRecursion (IsFile next) rows → o ≡ row_for rows call → o ≡ Some f → f.len ≤ 268435456
short_file next rows call o f each read is =
    let m = len_most next rows (file_word call) each in
    let e : len_or (row_for rows call) ≡ f.len = ap len_or (sym read ∙ is) in
    omega arith

-- ---- the function

function_found : (rows : List FunctionRow) (name : List ℕ) → function_by (map cores.function_of rows) (Some name) ≡ option_map cores.function_of (checks.function_by rows name)
function_found rows name = find_map cores.function_of (λ (f : Function). bytes_eq f.name name) rows

code_seen : (o : Option FunctionRow) → code_of (option_map cores.function_of o) ≡ option_map (λ (c : Program). c.insns) (option_map (λ (f : FunctionRow). f.code) o)
code_seen None = refl
code_seen (Some f) = refl

pub code_found : (rows : List FunctionRow) (call : Call) → code_of (function_for (map cores.function_of rows) call) ≡ option_map (λ (c : Program). c.insns) (code_row rows call)
code_found rows (Readl file off n function fuel cap param) = ap code_of (function_found rows function) ∙ code_seen (checks.function_by rows function)
code_found rows (Writel file off n function fuel param input) = ap code_of (function_found rows function) ∙ code_seen (checks.function_by rows function)
code_found rows call = refl

some_code : (rows : List FunctionRow) (name : List ℕ) → is_some (function_by (map cores.function_of rows) (Some name)) ≡ true → is_some (option_map (λ (f : FunctionRow). f.code) (checks.function_by rows name)) ≡ true
some_code rows name e =
    is_some_map (λ (f : FunctionRow). f.code) (checks.function_by rows name)
    ∙ (sym (is_some_map cores.function_of (checks.function_by rows name)) ∙ (sym (ap (λ (o : Option Function). is_some o) (function_found rows name)) ∙ e))

pub code_there : (rows : List FunctionRow) (call : Call) → (is_lambda call ≡ true → is_some (function_for (map cores.function_of rows) call) ≡ true) → is_some (code_row rows call) ≡ is_lambda call
code_there rows (Readl file off n function fuel cap param) e = some_code rows function (e refl)
code_there rows (Writel file off n function fuel param input) e = some_code rows function (e refl)
code_there rows call e = refl

found_all : {A : Type 0} (P : A → Type 0) (test : A → Bool) (xs : List A) → All P xs → IfSome (find test xs) P
found_all P test [] h = tt
found_all {A} P test (x ∷ xs) h = go (test x) (All-head P x xs h) (found_all P test xs (All-tail P x xs h))
  where
    go : (t : Bool) → P x → IfSome (find test xs) P → IfSome (if t then Some x else find test xs) P
    go true here rest = here
    go false here rest = rest

short_code : (o : Option FunctionRow) → IfSome o (λ f. slots f.code.insns ≤ 4096) → IfSome (option_map (λ (f : FunctionRow). f.code) o) (λ c. slots c.insns ≤ 4096)
short_code None h = tt
short_code (Some f) h = h

pub code_short : (rows : List FunctionRow) (call : Call) → All (λ (f : FunctionRow). slots f.code.insns ≤ 4096) rows → IfSome (code_row rows call) (λ c. slots c.insns ≤ 4096)
code_short rows (Readl file off n function fuel cap param) h = short_code (checks.function_by rows function) (found_all (λ (f : FunctionRow). slots f.code.insns ≤ 4096) (λ (f : FunctionRow). bytes_eq f.name function) rows h)
code_short rows (Writel file off n function fuel param input) h = short_code (checks.function_by rows function) (found_all (λ (f : FunctionRow). slots f.code.insns ≤ 4096) (λ (f : FunctionRow). bytes_eq f.name function) rows h)
code_short rows call h = tt

-- ---- where a call that puts bytes ends

write_low : (off n len : ℕ) → off + n ≤ 268435456 → (write_reach off n len).end ≤ 268435456
write_low off n len l = go (n == 0)
  where
    go : (z : Bool) → (if z then no_reach else record { mode = Exclusive; from = if nat_lt len (off + n) then min (off / 4096) (len / 4096) else off / 4096; to = Pages (off + n); first = off / 4096; pages = Pages (off + n) - off / 4096; begin = off; end = off + n }).end ≤ 268435456
    go true = omega arith
    go false = l

read_shared : {P : Type 0} (off n len : ℕ) → is_exclusive (read_reach off n len).mode ≡ true → P
read_shared {P} off n len m = go (n == 0) m
  where
    go : (z : Bool) → is_exclusive (if z then no_reach else record { mode = Shared; from = off / 4096; to = min (Pages (off + n)) 65537; first = off / 4096; pages = min (Pages (off + n)) (Pages len) - off / 4096; begin = off; end = off + n }).mode ≡ true → P
    go true e = absurd (cc)
    go false e = absurd (cc)

no_false : {P : Type 0} → false ≡ true → P
no_false e = absurd (cc)

-- a call that has its pages alone ends as low as the bytes that it puts
pub low_end : (s : State) (call : Call) (len : ℕ) → ((name : List ℕ) → file_word call ≡ Some name → length (bytes_in s name) ≡ len) → end_of s call ≤ 268435456 → is_exclusive (reach_of call len).mode ≡ true → (reach_of call len).end ≤ 268435456
low_end s (Write name off bytes) len long l m = write_low off (length bytes) len l
low_end s (Append name bytes) len long l m = let e = long name refl in write_low len (length bytes) len (omega arith)
low_end s (Trunc name n) len long l m = l
low_end s (Writel file off n function fuel param input) len long l m = write_low off n len l
low_end s (Read name off n) len long l m = read_shared off n len m
low_end s (Readl file off n function fuel cap param) len long l m = read_shared off n len m
low_end s call len long l m = no_false m
