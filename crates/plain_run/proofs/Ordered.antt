-- Every answer leaves the files by rising id, and the next id never falls.
use Rattle.std.proofs.Common.{◌≡◌, ℕ, ◌+◌, ◌<◌, ◌≤◌, List, [], ◌∷◌, ◌++◌, length, replicate, Bool, true, false, not, cond, Option, Some, None, Result, Ok, Err, refl, sym, subst, arith}
use Rattle.std.specs.Prelude.{is_some, nat_le}
use Rattle.name_table.specs.Name.{is_name}
use Rattle.page_base.specs.Bytes.{Cut, Put}
use Rattle.sbpf_insn.specs.declared.insn.Insn.{Insn}
use Rattle.sbpf_insn.specs.declared.fault.InsnFault.{InsnFault}
use Rattle.sbpf_insn.specs.Decoded.{decoded}
use Rattle.sbpf_insn.specs.Refusal.{refusal}
use Rattle.sbpf_insn.specs.Machine as machine
use Rattle.plain_files.specs.declared.calls.Call.{Call}
use Rattle.plain_files.specs.declared.calls.Call.TheVariants.{Create, OpenFile, Stat, Remove, Read, Write, Append, Trunc, Seal, Load, Unload, Readl, Writel, Sync}
use Rattle.plain_files.specs.declared.calls.PlainFile.{PlainFile}
use Rattle.plain_files.specs.declared.calls.Reply.{Reply}
use Rattle.plain_files.specs.declared.calls.Reply.TheVariants.{Id, Val, At, Done, BadName, Exists, Full, NoSpace, FnFull}
use Rattle.plain_files.specs.Steps.{◌>>=◌, refuse}
use Rattle.plain_files.specs.Lists.{with_changed, without}
use Rattle.plain_files.specs.Plain.{State, Answered, is_file, file_of, function_of, bytes_in, code_in, is_full, with_file, with_length, is_overfull, with_content, stored, spelled_code, unless_refused, done_with_functions, ended, first_bytes, early, effect, or_refusal, reply_alone, answer_after, answer}
use Rattle.plain_run.specs.Order.{Rise, Below, IsInOrder}

-- what is shown of the state after an answer
abbrev Kept : State → State → Type 0
Kept s t = Rise 1 t.files × Below t.next t.files × (1 ≤ t.next) × (s.next ≤ t.next)

rise_lower : (low lower : ℕ) (files : List PlainFile) → lower ≤ low → Rise low files → Rise lower files
rise_lower low lower [] le rise = tt
rise_lower low lower (f ∷ fs) le rise = (omega (arith, rise.0, le), rise.1)

rise_push : (low : ℕ) (files : List PlainFile) (file : PlainFile) → low ≤ file.id → Below file.id files → Rise low files → Rise low (files ++ file ∷ [])
rise_push low [] file le below rise = (le, tt)
rise_push low (f ∷ fs) file le below rise = (rise.0, rise_push (f.id + 1) fs file (omega (arith, below.0)) below.1 rise.1)

rise_changed : (low : ℕ) (test : PlainFile → Bool) (change : PlainFile → PlainFile) (files : List PlainFile) → ((f : PlainFile) → (change f).id ≡ f.id) → Rise low files → Rise low (with_changed test change files)
rise_changed low test change [] same rise = tt
rise_changed low test change (f ∷ fs) same rise =
    elim (test f) as (λ b. Rise low (cond b (change f ∷ fs) (f ∷ with_changed test change fs))) [
      | true ↦ let P : ℕ → Type 0 = λ id. (low ≤ id) × Rise (id + 1) fs in subst P (sym (same f)) rise
      | false ↦ (rise.0, rise_changed (f.id + 1) test change fs same rise.1)
    ]

rise_without : (low : ℕ) (test : PlainFile → Bool) (files : List PlainFile) → Rise low files → Rise low (without test files)
rise_without low test [] rise = tt
rise_without low test (f ∷ fs) rise =
    elim (test f) as (λ b. Rise low (cond b fs (f ∷ without test fs))) [
      | true ↦ rise_lower (f.id + 1) low fs (omega (arith, rise.0)) rise.1
      | false ↦ (rise.0, rise_without (f.id + 1) test fs rise.1)
    ]

below_push : (next : ℕ) (files : List PlainFile) (file : PlainFile) → file.id ≡ next → Below next files → Below (next + 1) (files ++ file ∷ [])
below_push next [] file is below = (omega (arith, is), tt)
below_push next (f ∷ fs) file is below = (omega (arith, below.0), below_push next fs file is below.1)

below_changed : (next : ℕ) (test : PlainFile → Bool) (change : PlainFile → PlainFile) (files : List PlainFile) → ((f : PlainFile) → (change f).id ≡ f.id) → Below next files → Below next (with_changed test change files)
below_changed next test change [] same below = tt
below_changed next test change (f ∷ fs) same below =
    elim (test f) as (λ b. Below next (cond b (change f ∷ fs) (f ∷ with_changed test change fs))) [
      | true ↦ let P : ℕ → Type 0 = λ id. (id < next) × Below next fs in subst P (sym (same f)) below
      | false ↦ (below.0, below_changed next test change fs same below.1)
    ]

below_without : (next : ℕ) (test : PlainFile → Bool) (files : List PlainFile) → Below next files → Below next (without test files)
below_without next test [] below = tt
below_without next test (f ∷ fs) below =
    elim (test f) as (λ b. Below next (cond b fs (f ∷ without test fs))) [
      | true ↦ below.1
      | false ↦ (below.0, below_without next test fs below.1)
    ]

-- a step that may be refused, and the rest
refused_keeps : (s : State) (test : Bool) (reply : Reply) (rest : Result Answered Reply) → Kept s s → Kept s (or_refusal s rest).state → Kept s (or_refusal s (refuse test reply >>= λ _. rest)).state
refused_keeps s true reply rest order went_on = order
refused_keeps s false reply rest order went_on = went_on

-- the early refusals, and what is done where none of them holds
early_keeps : (s : State) (call : Call) (early : Option Reply) → Kept s s → Kept s (or_refusal s (effect s call)).state → Kept s (answer_after early s call).state
early_keeps s call (Some refusal) order went_on = order
early_keeps s call None order went_on = went_on

create_keeps : (s : State) (name : List ℕ) → Kept s s → Kept s (or_refusal s (effect s (Create name))).state
create_keeps s name order =
    let file : PlainFile = record { id = s.next; name = name; bytes = []; sealed = false } in
    let made : Kept s (with_file s name) = (rise_push 1 s.files file order.2 order.1 order.0, below_push s.next s.files file refl order.1, omega arith, omega arith) in
    refused_keeps s (not (is_name name)) BadName _ order
    (refused_keeps s (is_some (file_of name s.files)) Exists _ order
    (refused_keeps s (is_full s) Full (Ok (record { reply = Id s.next; state = with_file s name })) order made))

changed_keeps : (s : State) (name : List ℕ) (change : PlainFile → PlainFile) → ((f : PlainFile) → (change f).id ≡ f.id) → Kept s s → Kept s (record s { files = with_changed (is_file name) change s.files })
changed_keeps s name change same order = (rise_changed 1 (is_file name) change s.files same order.0, below_changed s.next (is_file name) change s.files same order.1, order.2, order.3)

stored_keeps : (s : State) (name bytes : List ℕ) (reply : Reply) → Kept s s → Kept s (or_refusal s (stored s name bytes reply)).state
stored_keeps s name bytes reply order =
    refused_keeps s (is_overfull (with_content s name bytes)) NoSpace (Ok (record { reply = reply; state = with_content s name bytes })) order
    (changed_keeps s name (λ file. record file { bytes = bytes }) (λ file. refl) order)

-- what `load` does with accepted code
abbrev kept_code : State → List ℕ → List Insn → Result Answered Reply
kept_code s name code = do
  _ ← refuse (is_some (function_of name s.functions)) Exists
  _ ← refuse (nat_le 64 (length s.functions)) FnFull
  Ok (done_with_functions s (s.functions ++ record { name = name; code = code } ∷ []))

kept_code_keeps : (s : State) (name : List ℕ) (code : List Insn) → Kept s s → Kept s (or_refusal s (kept_code s name code)).state
kept_code_keeps s name code order =
    refused_keeps s (is_some (function_of name s.functions)) Exists _ order
    (refused_keeps s (nat_le 64 (length s.functions)) FnFull (Ok (done_with_functions s (s.functions ++ record { name = name; code = code } ∷ []))) order order)

read_code_keeps : (s : State) (name : List ℕ) (read : Result (List Insn) InsnFault) → Kept s s → Kept s (or_refusal s ((spelled_code read >>= λ code. unless_refused code (refusal code)) >>= kept_code s name)).state
read_code_keeps s name (Err fault) order = order
read_code_keeps s name (Ok code) order =
    elim (refusal code) as (λ r. Kept s (or_refusal s (unless_refused code r >>= kept_code s name)).state) [
      | None ↦ kept_code_keeps s name code order
      | Some fault ↦ order
    ]

load_keeps : (s : State) (name bytes : List ℕ) → Kept s s → Kept s (or_refusal s (effect s (Load name bytes))).state
load_keeps s name bytes order = refused_keeps s (not (is_name name)) BadName _ order (read_code_keeps s name (decoded bytes) order)

readl_keeps : (s : State) (cap : ℕ) (outcome : machine.Outcome) → Kept s s → Kept s (or_refusal s (ended outcome >>= λ end. Ok (reply_alone s (first_bytes cap end)))).state
readl_keeps s cap (machine.Ended r0 output used) order = order
readl_keeps s cap (machine.AccessTrap address size slot used) order = order
readl_keeps s cap (machine.DepthTrap slot used) order = order
readl_keeps s cap machine.Spent order = order

writel_keeps : (s : State) (file : List ℕ) (off : ℕ) (outcome : machine.Outcome) → Kept s s → Kept s (or_refusal s (ended outcome >>= λ end. stored s file (Put (bytes_in s file) off end.output) (Val end.r0))).state
writel_keeps s file off (machine.Ended r0 output used) order = stored_keeps s file (Put (bytes_in s file) off output) (Val r0) order
writel_keeps s file off (machine.AccessTrap address size slot used) order = order
writel_keeps s file off (machine.DepthTrap slot used) order = order
writel_keeps s file off machine.Spent order = order

effect_keeps : (s : State) (call : Call) → Kept s s → Kept s (or_refusal s (effect s call)).state
effect_keeps s (Create name) order = create_keeps s name order
effect_keeps s (OpenFile name) order = order
effect_keeps s (Stat name) order = order
effect_keeps s (Remove name) order = (rise_without 1 (is_file name) s.files order.0, below_without s.next (is_file name) s.files order.1, order.2, order.3)
effect_keeps s (Read name off len) order = order
effect_keeps s (Write name off bytes) order = stored_keeps s name (Put (bytes_in s name) off bytes) Done order
effect_keeps s (Append name bytes) order = stored_keeps s name (Put (bytes_in s name) (length (bytes_in s name)) bytes) (At (length (bytes_in s name))) order
effect_keeps s (Trunc name len) order = stored_keeps s name (with_length (bytes_in s name) len) Done order
effect_keeps s (Seal name) order = changed_keeps s name (λ file. record file { sealed = true }) (λ file. refl) order
effect_keeps s (Load name bytes) order = load_keeps s name bytes order
effect_keeps s (Unload name) order = order
effect_keeps s (Readl file off len function fuel cap param) order = readl_keeps s cap (machine.run (code_in s function) (machine.shaped (Cut (bytes_in s file) off len) (replicate cap 0) param) fuel) order
effect_keeps s (Writel file off len function fuel param input) order = writel_keeps s file off (machine.run (code_in s function) (machine.shaped input (with_length (Cut (bytes_in s file) off len) len) param) fuel) order
effect_keeps s Sync order = order

pub answer_keeps : (s : State) (call : Call) → IsInOrder s → IsInOrder (answer s call).state × (s.next ≤ (answer s call).state.next)
answer_keeps s call order =
    let here : Kept s s = (order.rise, order.below, order.least, omega arith) in
    let kept : Kept s (answer s call).state = early_keeps s call (early s call) here (effect_keeps s call here) in
    (record { rise = kept.0; below = kept.1; least = kept.2 }, kept.3)
