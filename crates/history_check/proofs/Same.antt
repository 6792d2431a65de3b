-- Replies of one form with the same values are equal.
use Rattle.std.proofs.Common.{◌≡◌, ℕ, List, Bool, true, false, ◌&&◌, nat_eq, bytes_eq, refl, ap, subst, ◌∙◌, sym}
use Rattle.std.specs.Prelude.{if◌then◌else◌, slice_index}
use Rattle.std.proofs.lemmas.Bool.{eqb-true, eq-eqb}
use Rattle.std.proofs.lemmas.Slice.Eq.{bytes_eq-Decides}
use Rattle.plain_files.specs.declared.calls.CodeKind.{CodeKind}
use Rattle.plain_files.specs.declared.calls.CodeKind.TheVariants as code
use Rattle.plain_files.specs.declared.calls.Reply.{Reply}
use Rattle.plain_files.specs.declared.calls.Reply.TheVariants.{Id, Len, Val, At, DataBytes, Res, Done, TrapAccess, TrapDepth, TrapOutLen, Spent, BadName, Exists, Full, NoFile, NoFn, TooLong, AppendOnly, TooBig, NoSpace, FnFull, BadCode, Fault, NoMemory}
use Rattle.sbpf_insn.specs.declared.fault.InsnKind.TheVariants as insn
use Rattle.sbpf_insn.specs.declared.fault.VerifyKind.TheVariants as verify
use Rattle.history_check.specs.Replies.{kind_number, numbers_of, bytes_of, is_same_reply}

-- the kind of a number, and the reply of numbers and bytes
kind_from : ℕ → CodeKind
kind_from n =
    if nat_eq n 0 then code.Insn insn.Truncated
    else if nat_eq n 1 then code.Insn insn.Refused
    else if nat_eq n 2 then code.Insn insn.Opcode
    else if nat_eq n 3 then code.Insn insn.Register
    else if nat_eq n 4 then code.Insn insn.Field
    else if nat_eq n 5 then code.Insn insn.Wide
    else if nat_eq n 6 then code.Verify verify.Empty
    else if nat_eq n 7 then code.Verify verify.TooLong
    else if nat_eq n 8 then code.Verify verify.Writer10
    else if nat_eq n 9 then code.Verify verify.Jump
    else if nat_eq n 10 then code.Verify verify.Middle
    else if nat_eq n 11 then code.Verify verify.CallTarget
    else code.Verify verify.FallsOff

kind_back : (kind : CodeKind) → kind_from (kind_number kind) ≡ kind
unfolding kind_from
kind_back (code.Insn insn.Truncated) = refl
kind_back (code.Insn insn.Refused) = refl
kind_back (code.Insn insn.Opcode) = refl
kind_back (code.Insn insn.Register) = refl
kind_back (code.Insn insn.Field) = refl
kind_back (code.Insn insn.Wide) = refl
kind_back (code.Verify verify.Empty) = refl
kind_back (code.Verify verify.TooLong) = refl
kind_back (code.Verify verify.Writer10) = refl
kind_back (code.Verify verify.Jump) = refl
kind_back (code.Verify verify.Middle) = refl
kind_back (code.Verify verify.CallTarget) = refl
kind_back (code.Verify verify.FallsOff) = refl

reply_from : ℕ → ℕ → ℕ → ℕ → List ℕ → Reply
reply_from form a b c bytes =
    if nat_eq form 0 then Id a
    else if nat_eq form 1 then Len a
    else if nat_eq form 2 then Val a
    else if nat_eq form 3 then At a
    else if nat_eq form 4 then DataBytes bytes
    else if nat_eq form 5 then Res bytes
    else if nat_eq form 6 then Done
    else if nat_eq form 7 then TrapAccess a b c
    else if nat_eq form 8 then TrapDepth a
    else if nat_eq form 9 then TrapOutLen a
    else if nat_eq form 10 then Spent
    else if nat_eq form 11 then BadName
    else if nat_eq form 12 then Exists
    else if nat_eq form 13 then Full
    else if nat_eq form 14 then NoFile
    else if nat_eq form 15 then NoFn
    else if nat_eq form 16 then TooLong
    else if nat_eq form 17 then AppendOnly
    else if nat_eq form 18 then TooBig
    else if nat_eq form 19 then NoSpace
    else if nat_eq form 20 then FnFull
    else if nat_eq form 21 then BadCode (kind_from a) b
    else if nat_eq form 22 then Fault
    else NoMemory

back : Reply → Reply
back r = reply_from (slice_index (numbers_of r) 0) (slice_index (numbers_of r) 1) (slice_index (numbers_of r) 2) (slice_index (numbers_of r) 3) (bytes_of r)

reply_back : (r : Reply) → back r ≡ r
unfolding back reply_from
reply_back (Id id) = refl
reply_back (Len len) = refl
reply_back (Val r0) = refl
reply_back (At off) = refl
reply_back (DataBytes bytes) = refl
reply_back (Res bytes) = refl
reply_back Done = refl
reply_back (TrapAccess address size slot) = refl
reply_back (TrapDepth slot) = refl
reply_back (TrapOutLen r0) = refl
reply_back Spent = refl
reply_back BadName = refl
reply_back Exists = refl
reply_back Full = refl
reply_back NoFile = refl
reply_back NoFn = refl
reply_back TooLong = refl
reply_back AppendOnly = refl
reply_back TooBig = refl
reply_back NoSpace = refl
reply_back FnFull = refl
reply_back (BadCode kind slot) = ap (λ k. BadCode k slot) (kind_back kind)
reply_back Fault = refl
reply_back NoMemory = refl

-- the five parts of a test
five : (a b c d e : Bool) → (a && (b && (c && (d && e)))) ≡ true → (a ≡ true) × (b ≡ true) × (c ≡ true) × (d ≡ true) × (e ≡ true)
five true true true true true is = (refl, refl, refl, refl, refl)
five true true true true false is = cc
five true true true false e is = cc
five true true false d e is = cc
five true false c d e is = cc
five false b c d e is = cc

pub same_equal : (a b : Reply) → is_same_reply a b ≡ true → a ≡ b
unfolding back
same_equal a b is =
    let p = five (nat_eq (slice_index (numbers_of a) 0) (slice_index (numbers_of b) 0)) (nat_eq (slice_index (numbers_of a) 1) (slice_index (numbers_of b) 1)) (nat_eq (slice_index (numbers_of a) 2) (slice_index (numbers_of b) 2)) (nat_eq (slice_index (numbers_of a) 3) (slice_index (numbers_of b) 3)) (bytes_eq (bytes_of a) (bytes_of b)) is in
    sym (reply_back a)
    ∙ ap (λ n. reply_from n (slice_index (numbers_of a) 1) (slice_index (numbers_of a) 2) (slice_index (numbers_of a) 3) (bytes_of a)) (eqb-true _ _ p.0)
    ∙ ap (λ n. reply_from (slice_index (numbers_of b) 0) n (slice_index (numbers_of a) 2) (slice_index (numbers_of a) 3) (bytes_of a)) (eqb-true _ _ p.1)
    ∙ ap (λ n. reply_from (slice_index (numbers_of b) 0) (slice_index (numbers_of b) 1) n (slice_index (numbers_of a) 3) (bytes_of a)) (eqb-true _ _ p.2)
    ∙ ap (λ n. reply_from (slice_index (numbers_of b) 0) (slice_index (numbers_of b) 1) (slice_index (numbers_of b) 2) n (bytes_of a)) (eqb-true _ _ p.3)
    ∙ ap (λ bytes. reply_from (slice_index (numbers_of b) 0) (slice_index (numbers_of b) 1) (slice_index (numbers_of b) 2) (slice_index (numbers_of b) 3) bytes) ((bytes_eq-Decides (bytes_of a) (bytes_of b)).0 p.4)
    ∙ reply_back b

all_true : (a b c d e : Bool) → a ≡ true → b ≡ true → c ≡ true → d ≡ true → e ≡ true → (a && (b && (c && (d && e)))) ≡ true
all_true a b c d e p q r s t = rw (p, q, r, s, t) refl

same_self : (a : Reply) → is_same_reply a a ≡ true
same_self a = all_true _ _ _ _ _ (eq-eqb (slice_index (numbers_of a) 0) _ refl) (eq-eqb (slice_index (numbers_of a) 1) _ refl) (eq-eqb (slice_index (numbers_of a) 2) _ refl) (eq-eqb (slice_index (numbers_of a) 3) _ refl) ((bytes_eq-Decides (bytes_of a) (bytes_of a)).1 refl)

pub equal_same : (a b : Reply) → a ≡ b → is_same_reply a b ≡ true
equal_same a b is = let P : Reply → Type 0 = λ r. is_same_reply a r ≡ true in subst P is (same_self a)
