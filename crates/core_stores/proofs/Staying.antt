-- A call that changes nothing, since it only reads, stores no byte or is refused: the plain machine leaves the state.
use Rattle.std.proofs.Common.{◌≡◌, ℕ, Bool, true, false, List, [], ◌∷◌, length, Option, Some, None, refl, ap, ◌∙◌, subst, ⊎_elim, arith}
use Rattle.std.specs.Prelude.{◌==◌, ◌&&◌, ◌+◌, ◌/◌, ◌-◌, nat_lt, min, replicate, unwrap_or, if◌then◌else◌, Ok}
use Rattle.std.specs.List.{find}
use Rattle.std.proofs.lemmas.Bool.Decides.{nat_tests}
use Rattle.page_base.specs.Bytes.{Pages, Cut, Put}
use Rattle.sbpf_insn.specs.Machine as machine
use Rattle.core_hold.specs.Call.{Call}
use Rattle.core_hold.specs.Call.TheVariants.{Read, Write, Append, Trunc, Readl, Writel, Sync}
use Rattle.core_hold.specs.PlainFile.{PlainFile}
use Rattle.core_hold.specs.Reply.{Reply}
use Rattle.core_hold.specs.Reply.TheVariants.{Done, At, Val, NoSpace}
use Rattle.core_hold.specs.Lists.{with_changed}
use Rattle.core_hold.specs.Steps.{◌>>=◌, refuse}
use Rattle.core_hold.specs.Plain.{State, is_file, bytes_in, code_in, is_overfull, with_content, stored, with_length, ended, reply_alone, first_bytes, early, effect, or_refusal, answer_after, answer}
use Rattle.core_hold.specs.State.{Exclusive}
use Rattle.core_hold.specs.Reach.{is_exclusive, no_reach, write_reach, reach_of}
use Rattle.core_hold.specs.PlainOf.{has_stored}
use Rattle.core_hold.proofs.CoreLemmasViews.{CanFly}
use Rattle.core_hold.proofs.Outputs.{EndsAsLong, run_long}
use Rattle.core_hold.proofs.Rests.{put_none}
use Rattle.core_hold.proofs.Stores.{with_length_is}
use Rattle.core_hold.proofs.Others.{changing}

-- ---- a file that keeps its bytes

files_same : (name : List ℕ) (none : PlainFile) (files : List PlainFile) → with_changed (is_file name) (changing (unwrap_or (find (is_file name) files) none).bytes) files ≡ files
files_same name none [] = refl
files_same name none (x ∷ xs) = go (is_file name x) (files_same name none xs)
  where
    at : Bool → Option PlainFile
    at t = if t then Some x else find (is_file name) xs

    go : (t : Bool) → with_changed (is_file name) (changing (unwrap_or (find (is_file name) xs) none).bytes) xs ≡ xs →
        (if t then changing (unwrap_or (at t) none).bytes x ∷ xs else x ∷ with_changed (is_file name) (changing (unwrap_or (at t) none).bytes) xs) ≡ x ∷ xs
    go true ih = refl
    go false ih = ap (λ (ys : List PlainFile). x ∷ ys) ih

same_content : (s : State) (name : List ℕ) → with_content s name (bytes_in s name) ≡ s
same_content s name = ap (λ (files : List PlainFile). record s { files = files }) (files_same name (record { id = 0; name = name; bytes = []; sealed = false }) s.files)

-- ---- calls that could store

-- refused, or with the bytes that the file has
store_stays : (s : State) (name new : List ℕ) (reply : Reply) (t : Bool) → has_stored reply ≡ true → (t ≡ false → new ≡ bytes_in s name) → (t && has_stored (or_refusal s (stored s name new reply)).reply) ≡ false →
    (or_refusal s (stored s name new reply)).state ≡ s
store_stays s name new reply t is same = go (is_overfull (with_content s name new)) t same
  where
    go : (o t : Bool) → (t ≡ false → new ≡ bytes_in s name) → (t && has_stored (or_refusal s (refuse o NoSpace >>= (λ x. Ok (record { reply = reply; state = with_content s name new })))).reply) ≡ false →
        (or_refusal s (refuse o NoSpace >>= (λ x. Ok (record { reply = reply; state = with_content s name new })))).state ≡ s
    go true t same e = refl
    go false true same e = absurd (cc)
    go false false same e = ap (with_content s name) (same refl) ∙ same_content s name

-- a range without a byte is shared
no_byte : (off n len : ℕ) → is_exclusive (write_reach off n len).mode ≡ false → n ≡ 0
no_byte off n len = go (n == 0) refl
  where
    go : (z : Bool) → (n == 0) ≡ z → is_exclusive (if z then no_reach else record { mode = Exclusive; from = if nat_lt len (off + n) then min (off / 4096) (len / 4096) else off / 4096; to = Pages (off + n); first = off / 4096; pages = Pages (off + n) - off / 4096; begin = off; end = off + n }).mode ≡ false → n ≡ 0
    go true z e = grind (arith, nat_tests)
    go false z e = absurd (cc)

writel_stays : (s : State) (name : List ℕ) (off n len : ℕ) (outcome : machine.Outcome) → EndsAsLong n outcome →
    (is_exclusive (write_reach off n len).mode && has_stored (or_refusal s (ended outcome >>= (λ end. stored s name (Put (bytes_in s name) off end.output) (Val end.r0)))).reply) ≡ false →
    (or_refusal s (ended outcome >>= (λ end. stored s name (Put (bytes_in s name) off end.output) (Val end.r0)))).state ≡ s
writel_stays s name off n len (machine.Ended r0 output used) long =
    store_stays s name (Put (bytes_in s name) off output) (Val r0) (is_exclusive (write_reach off n len).mode) refl (λ e. put_none (bytes_in s name) output off (long ∙ no_byte off n len e))
writel_stays s name off n len (machine.AccessTrap a k slot used) long = λ e. refl
writel_stays s name off n len (machine.DepthTrap slot used) long = λ e. refl
writel_stays s name off n len machine.Spent long = λ e. refl

readl_stays : (s : State) (cap : ℕ) (outcome : machine.Outcome) → (or_refusal s (ended outcome >>= (λ end. Ok (reply_alone s (first_bytes cap end))))).state ≡ s
readl_stays s cap (machine.Ended r0 output used) = refl
readl_stays s cap (machine.AccessTrap a k slot used) = refl
readl_stays s cap (machine.DepthTrap slot used) = refl
readl_stays s cap machine.Spent = refl

-- ---- answers

effect_stays : (s : State) (call : Call) (len : ℕ) → CanFly call → (is_exclusive (reach_of call len).mode && has_stored (or_refusal s (effect s call)).reply) ≡ false → (or_refusal s (effect s call)).state ≡ s
effect_stays s (Read name off n) len k e = refl
effect_stays s (Write name off bytes) len k e = store_stays s name (Put (bytes_in s name) off bytes) Done (is_exclusive (write_reach off (length bytes) len).mode) refl (λ z. put_none (bytes_in s name) bytes off (no_byte off (length bytes) len z)) e
effect_stays s (Append name bytes) len k e =
    store_stays s name (Put (bytes_in s name) (length (bytes_in s name)) bytes) (At (length (bytes_in s name))) (is_exclusive (write_reach len (length bytes) len).mode) refl (λ z. put_none (bytes_in s name) bytes (length (bytes_in s name)) (no_byte len (length bytes) len z)) e
effect_stays s (Trunc name n) len k e = store_stays s name (with_length (bytes_in s name) n) Done true refl (λ z. absurd (cc)) e
effect_stays s (Readl file off n function fuel cap param) len k e = readl_stays s cap (machine.run (code_in s function) (machine.shaped (Cut (bytes_in s file) off n) (replicate cap 0) param) fuel)
effect_stays s (Writel file off n function fuel param input) len k e =
    writel_stays s file off n len (machine.run (code_in s function) (machine.shaped input (with_length (Cut (bytes_in s file) off n) n) param) fuel)
    (subst (λ (m : ℕ). EndsAsLong m (machine.run (code_in s function) (machine.shaped input (with_length (Cut (bytes_in s file) off n) n) param) fuel)) (with_length_is (Cut (bytes_in s file) off n) n)
    (run_long (code_in s function) (machine.shaped input (with_length (Cut (bytes_in s file) off n) n) param) fuel)) e
effect_stays s Sync len k e = refl
effect_stays s call len k e = ⊎_elim (λ a. absurd (cc)) (λ b. absurd (cc)) k

pub answer_stays : (s : State) (call : Call) (len : ℕ) → CanFly call → early s call ≡ None → (is_exclusive (reach_of call len).mode && has_stored (answer s call).reply) ≡ false → (answer s call).state ≡ s
answer_stays s call len k none = go (early s call) none
  where
    go : (o : Option Reply) → o ≡ None → (is_exclusive (reach_of call len).mode && has_stored (answer_after o s call).reply) ≡ false → (answer_after o s call).state ≡ s
    go None f e = effect_stays s call len k e
    go (Some r) f e = absurd (cc)
