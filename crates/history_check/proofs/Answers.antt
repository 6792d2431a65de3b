-- No answer of the plain machine is an excuse.
use Rattle.std.proofs.Common.{◌≡◌, ℕ, ◌^◌, List, [], ◌∷◌, ◌++◌, length, take, replicate, nat_lt, nat_le, not, Bool, true, false, Option, Some, None, Result, Ok, Err, refl}
use Rattle.std.specs.Prelude.{if◌then◌else◌, is_some}
use Rattle.name_table.specs.Name.{is_name}
use Rattle.page_base.specs.Bytes.{Put, Cut}
use Rattle.sbpf_insn.specs.declared.insn.Insn.{Insn}
use Rattle.sbpf_insn.specs.declared.fault.InsnFault.{InsnFault}
use Rattle.sbpf_insn.specs.declared.fault.VerifyFault.{VerifyFault}
use Rattle.sbpf_insn.specs.Decoded.{decoded}
use Rattle.sbpf_insn.specs.Machine as machine
use Rattle.sbpf_insn.specs.Refusal.{refusal}
use Rattle.plain_files.specs.declared.calls.Call.{Call}
use Rattle.plain_files.specs.declared.calls.Call.TheVariants.{Create, OpenFile, Stat, Remove, Read, Write, Append, Trunc, Seal, Load, Unload, Readl, Writel, Sync}
use Rattle.plain_files.specs.declared.calls.Reply.{Reply}
use Rattle.plain_files.specs.declared.calls.Reply.TheVariants.{Id, Val, At, Res, Done, TrapOutLen, TooLong, NoFile, NoFn, AppendOnly, TooBig, NoSpace, BadName, Exists, Full, FnFull}
use Rattle.plain_files.specs.History.{is_excuse}
use Rattle.plain_files.specs.Plain.{State, Answered, answer, answer_after, early, effect, or_refusal, stored, accepted_code, spelled_code, unless_refused, ended, RunEnd, reply_alone, first_bytes, done_with_functions, is_too_long, lacks_file, lacks_function, is_append_only, end_of, is_overfull, with_content, with_file, with_length, bytes_in, code_in, file_of, function_of, is_full}
use Rattle.plain_files.specs.Steps.{◌>>=◌, refuse}

-- a step gives no excuse
abbrev Fine : Result Answered Reply → Type 0
Fine (Ok answered) = is_excuse answered.reply ≡ false
Fine (Err reply) = is_excuse reply ≡ false

-- where it stops
abbrev FineStop : {A : Type 0} → Result A Reply → Type 0
FineStop (Ok x) = Unit {0}
FineStop (Err reply) = is_excuse reply ≡ false

abbrev FineSome : Option Reply → Type 0
FineSome None = Unit {0}
FineSome (Some reply) = is_excuse reply ≡ false

early_five : (a b c d e : Bool) → FineSome (if a then Some TooLong else if b then Some NoFile else if c then Some NoFn else if d then Some AppendOnly else if e then Some TooBig else None)
early_five true b c d e = refl
early_five false true c d e = refl
early_five false false true d e = refl
early_five false false false true e = refl
early_five false false false false true = refl
early_five false false false false false = tt

early_fine : (s : State) (call : Call) → FineSome (early s call)
early_fine s call = early_five (is_too_long call) (lacks_file s call) (lacks_function s call) (is_append_only s call) (nat_lt (2 ^ 28) (end_of s call))

one_refusal : (b : Bool) (reply : Reply) (answered : Answered) → is_excuse reply ≡ false → is_excuse answered.reply ≡ false → Fine (refuse b reply >>= λ _. Ok answered)
one_refusal true reply answered one two = one
one_refusal false reply answered one two = two

stored_fine : (s : State) (name bytes : List ℕ) (reply : Reply) → is_excuse reply ≡ false → Fine (stored s name bytes reply)
stored_fine s name bytes reply fine =
    one_refusal (is_overfull (with_content s name bytes)) NoSpace (record { reply = reply; state = with_content s name bytes }) refl fine

unless_fine : (code : List Insn) (fault : Option VerifyFault) → FineStop (unless_refused code fault)
unless_fine code None = tt
unless_fine code (Some fault) = refl

spelled_fine : (read : Result (List Insn) InsnFault) → FineStop (spelled_code read >>= λ code. unless_refused code (refusal code))
spelled_fine (Ok code) = unless_fine code (refusal code)
spelled_fine (Err fault) = refl

code_fine : (bytes : List ℕ) → FineStop (accepted_code bytes)
code_fine bytes = spelled_fine (decoded bytes)

ended_fine : (outcome : machine.Outcome) → FineStop (ended outcome)
ended_fine (machine.Ended r0 output used) = tt
ended_fine (machine.AccessTrap address size slot used) = refl
ended_fine (machine.DepthTrap slot used) = refl
ended_fine machine.Spent = refl

create_fine : (a b c : Bool) (answered : Answered) → is_excuse answered.reply ≡ false → Fine (refuse a BadName >>= λ _. (refuse b Exists >>= λ _. (refuse c Full >>= λ _. Ok answered)))
create_fine true b c answered fine = refl
create_fine false true c answered fine = refl
create_fine false false true answered fine = refl
create_fine false false false answered fine = fine

full_fine : (b c : Bool) (answered : Answered) → is_excuse answered.reply ≡ false → Fine (refuse b Exists >>= λ _. (refuse c FnFull >>= λ _. Ok answered))
full_fine true c answered fine = refl
full_fine false true answered fine = refl
full_fine false false answered fine = fine

load_fine : (a : Bool) (step : Result (List Insn) Reply) (b c : Bool) (next : List Insn → Answered) → FineStop step → ((code : List Insn) → is_excuse (next code).reply ≡ false) → Fine (refuse a BadName >>= λ _. (step >>= λ code. (refuse b Exists >>= λ _. (refuse c FnFull >>= λ _. Ok (next code)))))
load_fine true step b c next one two = refl
load_fine false (Ok code) b c next one two = full_fine b c (next code) (two code)
load_fine false (Err reply) b c next one two = one

either_fine : (b : Bool) (one two : Reply) → is_excuse one ≡ false → is_excuse two ≡ false → is_excuse (if b then one else two) ≡ false
either_fine true one two p q = p
either_fine false one two p q = q

readl_fine : (s : State) (cap : ℕ) (step : Result RunEnd Reply) → FineStop step → Fine (step >>= λ end. Ok (reply_alone s (first_bytes cap end)))
readl_fine s cap (Ok end) fine = either_fine (nat_lt cap end.r0) (TrapOutLen end.r0) (Res (take end.r0 end.output)) refl refl
readl_fine s cap (Err reply) fine = fine

writel_fine : (s : State) (file : List ℕ) (off : ℕ) (step : Result RunEnd Reply) → FineStop step → Fine (step >>= λ end. stored s file (Put (bytes_in s file) off end.output) (Val end.r0))
writel_fine s file off (Ok end) fine = stored_fine s file (Put (bytes_in s file) off end.output) (Val end.r0) refl
writel_fine s file off (Err reply) fine = fine

effect_fine : (s : State) (call : Call) → Fine (effect s call)
effect_fine s (Create name) =
    create_fine (not (is_name name)) (is_some (file_of name s.files)) (is_full s) (record { reply = Id s.next; state = with_file s name }) refl
effect_fine s (OpenFile name) = refl
effect_fine s (Stat name) = refl
effect_fine s (Remove name) = refl
effect_fine s (Read name off len) = refl
effect_fine s (Write name off bytes) = stored_fine s name (Put (bytes_in s name) off bytes) Done refl
effect_fine s (Append name bytes) =
    stored_fine s name (Put (bytes_in s name) (length (bytes_in s name)) bytes) (At (length (bytes_in s name))) refl
effect_fine s (Trunc name len) = stored_fine s name (with_length (bytes_in s name) len) Done refl
effect_fine s (Seal name) = refl
effect_fine s (Load name bytes) =
    load_fine (not (is_name name)) (accepted_code bytes) (is_some (function_of name s.functions)) (nat_le 64 (length s.functions))
    (λ code. done_with_functions s (s.functions ++ record { name = name; code = code } ∷ [])) (code_fine bytes) (λ code. refl)
effect_fine s (Unload name) = refl
effect_fine s (Readl file off len function fuel cap param) =
    let outcome = machine.run (code_in s function) (machine.shaped (Cut (bytes_in s file) off len) (replicate cap 0) param) fuel in
    readl_fine s cap (ended outcome) (ended_fine outcome)
effect_fine s (Writel file off len function fuel param input) =
    let outcome = machine.run (code_in s function) (machine.shaped input (with_length (Cut (bytes_in s file) off len) len) param) fuel in
    writel_fine s file off (ended outcome) (ended_fine outcome)
effect_fine s Sync = refl

or_refusal_fine : (s : State) (step : Result Answered Reply) → Fine step → is_excuse (or_refusal s step).reply ≡ false
or_refusal_fine s (Ok answered) fine = fine
or_refusal_fine s (Err reply) fine = fine

after_fine : (o : Option Reply) (s : State) (call : Call) → FineSome o → is_excuse (answer_after o s call).reply ≡ false
after_fine (Some reply) s call fine = fine
after_fine None s call fine = or_refusal_fine s (effect s call) (effect_fine s call)

pub no_excuse : (s : State) (call : Call) → is_excuse (answer s call).reply ≡ false
no_excuse s call = after_fine (early s call) s call (early_fine s call)
