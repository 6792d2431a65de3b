-- The plain machine never replies `fault`.
use Rattle.std.proofs.Common.{◌≡◌, ℕ, Bool, true, false, List, [], ◌∷◌, ◌++◌, length, take, Option, Some, None, refl, subst, ◌^◌}
use Rattle.std.specs.Prelude.{not, nat_lt, nat_le, is_some, replicate, Result, Ok, Err, if◌then◌else◌}
use Rattle.name_table.specs.Name.{is_name}
use Rattle.page_base.specs.Bytes.{Cut, Put}
use Rattle.sbpf_insn.specs.declared.insn.Insn.{Insn}
use Rattle.sbpf_insn.specs.declared.fault.InsnFault.{InsnFault}
use Rattle.sbpf_insn.specs.declared.fault.VerifyFault.{VerifyFault}
use Rattle.sbpf_insn.specs.Decoded.{decoded}
use Rattle.sbpf_insn.specs.Refusal.{refusal}
use Rattle.sbpf_insn.specs.Machine as machine
use Rattle.plain_files.specs.declared.calls.Call.{Call}
use Rattle.plain_files.specs.declared.calls.Call.TheVariants.{Create, OpenFile, Stat, Remove, Read, Write, Append, Trunc, Seal, Load, Unload, Readl, Writel, Sync}
use Rattle.plain_files.specs.declared.calls.Reply.{Reply}
use Rattle.plain_files.specs.declared.calls.Reply.TheVariants.{Id, At, Res, Val, Done, TrapOutLen, BadName, Exists, Full, FnFull, TooLong, NoFile, NoFn, AppendOnly, TooBig, NoSpace}
use Rattle.plain_files.specs.Steps.{◌>>=◌, refuse}
use Rattle.plain_files.specs.History.{is_fault}
use Rattle.plain_files.specs.Plain.{first_bytes, State, Answered, RunEnd, early, effect, answer, answer_after, or_refusal, stored, is_overfull, with_content, accepted_code, spelled_code, unless_refused, ended, code_in, bytes_in, file_of, function_of, is_full, with_file, with_length, reply_alone, done_with_functions, is_too_long, lacks_file, lacks_function, is_append_only, end_of}

-- ---- what isn't `fault`

IsOther : Option Reply → Type 0
IsOther o = (r : Reply) → o ≡ Some r → is_fault r ≡ false

abbrev AnswersOther : Result Answered Reply → Type 0
AnswersOther (Ok a) = is_fault a.reply ≡ false
AnswersOther (Err r) = is_fault r ≡ false

choose : (t : Bool) (r : Reply) (rest : Option Reply) → is_fault r ≡ false → IsOther rest → IsOther (if t then Some r else rest)
unfolding IsOther
choose true r rest f h q e = go r q f (some r q e)
  where
    some : (r q : Reply) → Some r ≡ Some q → r ≡ q
    some r q e = cc

    go : (r q : Reply) → is_fault r ≡ false → r ≡ q → is_fault q ≡ false
    go r q f e = subst (λ (k : Reply). is_fault k ≡ false) e f
choose false r rest f h q e = h q e

early_other : (s : State) (call : Call) → IsOther (early s call)
unfolding IsOther
early_other s call =
    choose (is_too_long call) TooLong _ refl
    (choose (lacks_file s call) NoFile _ refl
    (choose (lacks_function s call) NoFn _ refl
    (choose (is_append_only s call) AppendOnly _ refl
    (choose (nat_lt (2 ^ 28) (end_of s call)) TooBig None refl (λ r e. absurd (cc))))))

refused : (t : Bool) (r : Reply) (next : Unit {0} → Result Answered Reply) → is_fault r ≡ false → AnswersOther (next tt) → AnswersOther (refuse t r >>= next)
refused true r next f h = f
refused false r next f h = h

stored_other : (s : State) (name bytes : List ℕ) (r : Reply) → is_fault r ≡ false → AnswersOther (stored s name bytes r)
stored_other s name bytes r f = refused (is_overfull (with_content s name bytes)) NoSpace (λ u. Ok (record { reply = r; state = with_content s name bytes })) refl f

code_other : (bytes : List ℕ) (next : List Insn → Result Answered Reply) → ((code : List Insn) → AnswersOther (next code)) → AnswersOther (accepted_code bytes >>= next)
code_other bytes next h = spelled (decoded bytes)
  where
    verified : (code : List Insn) (o : Option VerifyFault) → AnswersOther (unless_refused code o >>= next)
    verified code None = h code
    verified code (Some fault) = refl

    spelled : (r : Result (List Insn) InsnFault) → AnswersOther ((spelled_code r >>= (λ code. unless_refused code (refusal code))) >>= next)
    spelled (Ok code) = verified code (refusal code)
    spelled (Err fault) = refl

run_other : (o : machine.Outcome) (next : RunEnd → Result Answered Reply) → ((e : RunEnd) → AnswersOther (next e)) → AnswersOther (ended o >>= next)
run_other (machine.Ended r0 output used) next h = h (record { r0 = r0; output = output })
run_other (machine.AccessTrap address size slot used) next h = refl
run_other (machine.DepthTrap slot used) next h = refl
run_other machine.Spent next h = refl

-- a function's name is free, and there is room for it
named_other : (s : State) (name : List ℕ) (code : List Insn) → AnswersOther (
    refuse (is_some (function_of name s.functions)) Exists >>= (λ u.
    refuse (nat_le 64 (length s.functions)) FnFull >>= (λ u.
    Ok (done_with_functions s (s.functions ++ record { name = name; code = code } ∷ [])))))
named_other s name code = go (is_some (function_of name s.functions)) (nat_le 64 (length s.functions))
  where
    go : (a b : Bool) → AnswersOther (refuse a Exists >>= (λ u. refuse b FnFull >>= (λ u. Ok (done_with_functions s (s.functions ++ record { name = name; code = code } ∷ [])))))
    go true b = refl
    go false true = refl
    go false false = refl

effect_other : (s : State) (call : Call) → AnswersOther (effect s call)
effect_other s (Create name) = go (not (is_name name)) (is_some (file_of name s.files)) (is_full s)
  where
    go : (a b f : Bool) → AnswersOther (refuse a BadName >>= (λ u. refuse b Exists >>= (λ u. refuse f Full >>= (λ u. Ok (record { reply = Id s.next; state = with_file s name })))))
    go true b f = refl
    go false true f = refl
    go false false true = refl
    go false false false = refl
effect_other s (OpenFile name) = refl
effect_other s (Stat name) = refl
effect_other s (Remove name) = refl
effect_other s (Read name off len) = refl
effect_other s (Write name off bytes) = stored_other s name (Put (bytes_in s name) off bytes) Done refl
effect_other s (Append name bytes) = stored_other s name (Put (bytes_in s name) (length (bytes_in s name)) bytes) (At (length (bytes_in s name))) refl
effect_other s (Trunc name len) = stored_other s name (with_length (bytes_in s name) len) Done refl
effect_other s (Seal name) = refl
effect_other s (Load name bytes) = go (not (is_name name))
  where
    next : List Insn → Result Answered Reply
    next code = refuse (is_some (function_of name s.functions)) Exists >>= (λ u. refuse (nat_le 64 (length s.functions)) FnFull >>= (λ u. Ok (done_with_functions s (s.functions ++ record { name = name; code = code } ∷ []))))

    go : (a : Bool) → AnswersOther (refuse a BadName >>= (λ u. accepted_code bytes >>= next))
    go true = refl
    go false = code_other bytes next (named_other s name)
effect_other s (Unload name) = refl
effect_other s (Readl file off len function fuel cap param) =
    run_other (machine.run (code_in s function) (machine.shaped (Cut (bytes_in s file) off len) (replicate cap 0) param) fuel)
    (λ e. Ok (reply_alone s (first_bytes cap e))) (λ e. go e (nat_lt cap e.r0))
  where
    go : (e : RunEnd) (t : Bool) → is_fault (if t then TrapOutLen e.r0 else Res (take e.r0 e.output)) ≡ false
    go e true = refl
    go e false = refl
effect_other s (Writel file off len function fuel param input) =
    run_other (machine.run (code_in s function) (machine.shaped input (with_length (Cut (bytes_in s file) off len) len) param) fuel)
    (λ e. stored s file (Put (bytes_in s file) off e.output) (Val e.r0))
    (λ e. stored_other s file (Put (bytes_in s file) off e.output) (Val e.r0) refl)
effect_other s Sync = refl

pub answer_other : (s : State) (call : Call) → is_fault (answer s call).reply ≡ false
unfolding IsOther
answer_other s call = go (early s call) (early_other s call)
  where
    result : (r : Result Answered Reply) → AnswersOther r → is_fault (or_refusal s r).reply ≡ false
    result (Ok a) h = h
    result (Err r) h = h

    go : (o : Option Reply) → ((r : Reply) → o ≡ Some r → is_fault r ≡ false) → is_fault (answer_after o s call).reply ≡ false
    go None h = result (effect s call) (effect_other s call)
    go (Some r) h = h r refl
