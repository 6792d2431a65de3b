-- Every reply of the machine has a form that belongs to its call.
use Rattle.std.proofs.Common.{◌≡◌, ℕ, List, [], ◌∷◌, ◌++◌, length, take, replicate, Bool, true, false, not, cond, Some, None, Result, Ok, Err, refl}
use Rattle.std.specs.Prelude.{◌^◌, is_some, nat_lt, nat_le}
use Rattle.name_table.specs.Name.{is_name}
use Rattle.page_base.specs.Bytes.{Cut, Put}
use Rattle.sbpf_insn.specs.declared.insn.Insn.{Insn}
use Rattle.sbpf_insn.specs.declared.fault.InsnFault.{InsnFault}
use Rattle.sbpf_insn.specs.Decoded.{decoded}
use Rattle.sbpf_insn.specs.Refusal.{refusal}
use Rattle.sbpf_insn.specs.Machine as machine
use Rattle.plain_files.specs.declared.calls.Call.{Call}
use Rattle.plain_files.specs.declared.calls.Call.TheVariants.{Create, OpenFile, Stat, Remove, Read, Write, Append, Trunc, Seal, Load, Unload, Readl, Writel, Sync}
use Rattle.plain_files.specs.declared.calls.Reply.{Reply}
use Rattle.plain_files.specs.declared.calls.Reply.TheVariants.{Id, Val, At, Res, Done, TrapOutLen, BadName, Exists, Full, NoFile, NoFn, TooLong, AppendOnly, TooBig, NoSpace, FnFull}
use Rattle.plain_files.specs.Steps.{◌>>=◌, refuse}
use Rattle.plain_files.specs.Plain.{State, Answered, file_of, function_of, bytes_in, code_in, is_too_long, lacks_file, lacks_function, is_append_only, end_of, is_full, with_file, with_length, is_overfull, with_content, stored, spelled_code, unless_refused, done_with_functions, ended, first_bytes, effect, or_refusal, reply_alone, answer_after, answer}
use Rattle.plain_files.specs.Allowed.{is_allowed}

-- a step that may be refused, and the rest
refused_or : (call : Call) (s : State) (test : Bool) (reply : Reply) (rest : Result Answered Reply) → is_allowed call reply ≡ true → is_allowed call (or_refusal s rest).reply ≡ true → is_allowed call (or_refusal s (refuse test reply >>= λ _. rest)).reply ≡ true
refused_or call s true reply rest refused went_on = refused
refused_or call s false reply rest refused went_on = went_on

-- the early refusals, and what is done where none of them holds
early_or : (call : Call) (s : State) (a b c d e : Bool) → (a ≡ true → is_allowed call TooLong ≡ true) → (b ≡ true → is_allowed call NoFile ≡ true) → (c ≡ true → is_allowed call NoFn ≡ true) → (d ≡ true → is_allowed call AppendOnly ≡ true) → (e ≡ true → is_allowed call TooBig ≡ true) → is_allowed call (or_refusal s (effect s call)).reply ≡ true → is_allowed call (answer_after (cond a (Some TooLong) (cond b (Some NoFile) (cond c (Some NoFn) (cond d (Some AppendOnly) (cond e (Some TooBig) None))))) s call).reply ≡ true
early_or call s true b c d e long file function sealed big done = long refl
early_or call s false true c d e long file function sealed big done = file refl
early_or call s false false true d e long file function sealed big done = function refl
early_or call s false false false true e long file function sealed big done = sealed refl
early_or call s false false false false true long file function sealed big done = big refl
early_or call s false false false false false long file function sealed big done = done

create_allowed : (s : State) (name : List ℕ) → is_allowed (Create name) (or_refusal s (effect s (Create name))).reply ≡ true
create_allowed s name =
    refused_or (Create name) s (not (is_name name)) BadName _ refl
    (refused_or (Create name) s (is_some (file_of name s.files)) Exists _ refl
    (refused_or (Create name) s (is_full s) Full (Ok (record { reply = Id s.next; state = with_file s name })) refl refl))

stored_allowed : (call : Call) (s : State) (name bytes : List ℕ) (reply : Reply) → is_allowed call NoSpace ≡ true → is_allowed call reply ≡ true → is_allowed call (or_refusal s (stored s name bytes reply)).reply ≡ true
stored_allowed call s name bytes reply refused told = refused_or call s (is_overfull (with_content s name bytes)) NoSpace (Ok (record { reply = reply; state = with_content s name bytes })) refused told

-- what `load` does with accepted code
abbrev kept_code : State → List ℕ → List Insn → Result Answered Reply
kept_code s name code = do
  _ ← refuse (is_some (function_of name s.functions)) Exists
  _ ← refuse (nat_le 64 (length s.functions)) FnFull
  Ok (done_with_functions s (s.functions ++ record { name = name; code = code } ∷ []))

kept_code_allowed : (s : State) (name bytes : List ℕ) (code : List Insn) → is_allowed (Load name bytes) (or_refusal s (kept_code s name code)).reply ≡ true
kept_code_allowed s name bytes code =
    refused_or (Load name bytes) s (is_some (function_of name s.functions)) Exists _ refl
    (refused_or (Load name bytes) s (nat_le 64 (length s.functions)) FnFull (Ok (done_with_functions s (s.functions ++ record { name = name; code = code } ∷ []))) refl refl)

read_code_allowed : (s : State) (name bytes : List ℕ) (read : Result (List Insn) InsnFault) → is_allowed (Load name bytes) (or_refusal s ((spelled_code read >>= λ code. unless_refused code (refusal code)) >>= kept_code s name)).reply ≡ true
read_code_allowed s name bytes (Err fault) = refl
read_code_allowed s name bytes (Ok code) =
    elim (refusal code) as (λ r. is_allowed (Load name bytes) (or_refusal s (unless_refused code r >>= kept_code s name)).reply ≡ true) [
      | None ↦ kept_code_allowed s name bytes code
      | Some fault ↦ refl
    ]

load_allowed : (s : State) (name bytes : List ℕ) → is_allowed (Load name bytes) (or_refusal s (effect s (Load name bytes))).reply ≡ true
load_allowed s name bytes = refused_or (Load name bytes) s (not (is_name name)) BadName _ refl (read_code_allowed s name bytes (decoded bytes))

readl_allowed : (s : State) (file : List ℕ) (off len : ℕ) (function : List ℕ) (fuel cap : ℕ) (param : List ℕ) (outcome : machine.Outcome) → is_allowed (Readl file off len function fuel cap param) (or_refusal s (ended outcome >>= λ end. Ok (reply_alone s (first_bytes cap end)))).reply ≡ true
readl_allowed s file off len function fuel cap param (machine.Ended r0 output used) =
    elim (nat_lt cap r0) as (λ b. is_allowed (Readl file off len function fuel cap param) (cond b (TrapOutLen r0) (Res (take r0 output))) ≡ true) [ true ↦ refl | false ↦ refl ]
readl_allowed s file off len function fuel cap param (machine.AccessTrap address size slot used) = refl
readl_allowed s file off len function fuel cap param (machine.DepthTrap slot used) = refl
readl_allowed s file off len function fuel cap param machine.Spent = refl

writel_allowed : (s : State) (file : List ℕ) (off len : ℕ) (function : List ℕ) (fuel : ℕ) (param input : List ℕ) (outcome : machine.Outcome) → is_allowed (Writel file off len function fuel param input) (or_refusal s (ended outcome >>= λ end. stored s file (Put (bytes_in s file) off end.output) (Val end.r0))).reply ≡ true
writel_allowed s file off len function fuel param input (machine.Ended r0 output used) = stored_allowed (Writel file off len function fuel param input) s file (Put (bytes_in s file) off output) (Val r0) refl refl
writel_allowed s file off len function fuel param input (machine.AccessTrap address size slot used) = refl
writel_allowed s file off len function fuel param input (machine.DepthTrap slot used) = refl
writel_allowed s file off len function fuel param input machine.Spent = refl

pub answer_allowed : (s : State) (call : Call) → is_allowed call (answer s call).reply ≡ true
answer_allowed s (Create name) =
    early_or (Create name) s (is_too_long (Create name)) (lacks_file s (Create name)) (lacks_function s (Create name)) (is_append_only s (Create name)) (nat_lt (2 ^ 28) (end_of s (Create name)))
    (λ h. (cc)) (λ h. (cc)) (λ h. (cc)) (λ h. (cc)) (λ h. (cc)) (create_allowed s name)
answer_allowed s (OpenFile name) =
    early_or (OpenFile name) s (is_too_long (OpenFile name)) (lacks_file s (OpenFile name)) (lacks_function s (OpenFile name)) (is_append_only s (OpenFile name)) (nat_lt (2 ^ 28) (end_of s (OpenFile name)))
    (λ h. (cc)) (λ _. refl) (λ h. (cc)) (λ h. (cc)) (λ h. (cc)) refl
answer_allowed s (Stat name) =
    early_or (Stat name) s (is_too_long (Stat name)) (lacks_file s (Stat name)) (lacks_function s (Stat name)) (is_append_only s (Stat name)) (nat_lt (2 ^ 28) (end_of s (Stat name)))
    (λ h. (cc)) (λ _. refl) (λ h. (cc)) (λ h. (cc)) (λ h. (cc)) refl
answer_allowed s (Remove name) =
    early_or (Remove name) s (is_too_long (Remove name)) (lacks_file s (Remove name)) (lacks_function s (Remove name)) (is_append_only s (Remove name)) (nat_lt (2 ^ 28) (end_of s (Remove name)))
    (λ h. (cc)) (λ _. refl) (λ h. (cc)) (λ h. (cc)) (λ h. (cc)) refl
answer_allowed s (Read name off len) =
    early_or (Read name off len) s (is_too_long (Read name off len)) (lacks_file s (Read name off len)) (lacks_function s (Read name off len)) (is_append_only s (Read name off len)) (nat_lt (2 ^ 28) (end_of s (Read name off len)))
    (λ _. refl) (λ _. refl) (λ h. (cc)) (λ h. (cc)) (λ h. (cc)) refl
answer_allowed s (Write name off bytes) =
    early_or (Write name off bytes) s (is_too_long (Write name off bytes)) (lacks_file s (Write name off bytes)) (lacks_function s (Write name off bytes)) (is_append_only s (Write name off bytes)) (nat_lt (2 ^ 28) (end_of s (Write name off bytes)))
    (λ _. refl) (λ _. refl) (λ h. (cc)) (λ _. refl) (λ _. refl) (stored_allowed (Write name off bytes) s name (Put (bytes_in s name) off bytes) Done refl refl)
answer_allowed s (Append name bytes) =
    early_or (Append name bytes) s (is_too_long (Append name bytes)) (lacks_file s (Append name bytes)) (lacks_function s (Append name bytes)) (is_append_only s (Append name bytes)) (nat_lt (2 ^ 28) (end_of s (Append name bytes)))
    (λ _. refl) (λ _. refl) (λ h. (cc)) (λ h. (cc)) (λ _. refl) (stored_allowed (Append name bytes) s name (Put (bytes_in s name) (length (bytes_in s name)) bytes) (At (length (bytes_in s name))) refl refl)
answer_allowed s (Trunc name len) =
    early_or (Trunc name len) s (is_too_long (Trunc name len)) (lacks_file s (Trunc name len)) (lacks_function s (Trunc name len)) (is_append_only s (Trunc name len)) (nat_lt (2 ^ 28) (end_of s (Trunc name len)))
    (λ h. (cc)) (λ _. refl) (λ h. (cc)) (λ _. refl) (λ _. refl) (stored_allowed (Trunc name len) s name (with_length (bytes_in s name) len) Done refl refl)
answer_allowed s (Seal name) =
    early_or (Seal name) s (is_too_long (Seal name)) (lacks_file s (Seal name)) (lacks_function s (Seal name)) (is_append_only s (Seal name)) (nat_lt (2 ^ 28) (end_of s (Seal name)))
    (λ h. (cc)) (λ _. refl) (λ h. (cc)) (λ h. (cc)) (λ h. (cc)) refl
answer_allowed s (Load name bytes) =
    early_or (Load name bytes) s (is_too_long (Load name bytes)) (lacks_file s (Load name bytes)) (lacks_function s (Load name bytes)) (is_append_only s (Load name bytes)) (nat_lt (2 ^ 28) (end_of s (Load name bytes)))
    (λ h. (cc)) (λ h. (cc)) (λ h. (cc)) (λ h. (cc)) (λ h. (cc)) (load_allowed s name bytes)
answer_allowed s (Unload name) =
    early_or (Unload name) s (is_too_long (Unload name)) (lacks_file s (Unload name)) (lacks_function s (Unload name)) (is_append_only s (Unload name)) (nat_lt (2 ^ 28) (end_of s (Unload name)))
    (λ h. (cc)) (λ h. (cc)) (λ _. refl) (λ h. (cc)) (λ h. (cc)) refl
answer_allowed s (Readl file off len function fuel cap param) =
    early_or (Readl file off len function fuel cap param) s (is_too_long (Readl file off len function fuel cap param)) (lacks_file s (Readl file off len function fuel cap param)) (lacks_function s (Readl file off len function fuel cap param)) (is_append_only s (Readl file off len function fuel cap param)) (nat_lt (2 ^ 28) (end_of s (Readl file off len function fuel cap param)))
    (λ _. refl) (λ _. refl) (λ _. refl) (λ h. (cc)) (λ h. (cc)) (readl_allowed s file off len function fuel cap param (machine.run (code_in s function) (machine.shaped (Cut (bytes_in s file) off len) (replicate cap 0) param) fuel))
answer_allowed s (Writel file off len function fuel param input) =
    early_or (Writel file off len function fuel param input) s (is_too_long (Writel file off len function fuel param input)) (lacks_file s (Writel file off len function fuel param input)) (lacks_function s (Writel file off len function fuel param input)) (is_append_only s (Writel file off len function fuel param input)) (nat_lt (2 ^ 28) (end_of s (Writel file off len function fuel param input)))
    (λ _. refl) (λ _. refl) (λ _. refl) (λ _. refl) (λ _. refl) (writel_allowed s file off len function fuel param input (machine.run (code_in s function) (machine.shaped input (with_length (Cut (bytes_in s file) off len) len) param) fuel))
answer_allowed s Sync =
    early_or Sync s (is_too_long Sync) (lacks_file s Sync) (lacks_function s Sync) (is_append_only s Sync) (nat_lt (2 ^ 28) (end_of s Sync))
    (λ h. (cc)) (λ h. (cc)) (λ h. (cc)) (λ h. (cc)) (λ h. (cc)) refl
