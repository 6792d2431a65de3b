-- What Answer replies to calls that read, by the pages that they have gathered.
use Rattle.std.proofs.Common.{◌≡◌, ℕ, ◌+◌, ◌-◌, ◌*◌, ◌<◌, ◌≤◌, Bool, true, false, List, [], length, get_or, Option, Some, None, refl, sym, ap, ◌∙◌, subst, ⊎_elim, arith, unwrap_or}
use Rattle.std.specs.Prelude.{◌==◌, ◌/◌, ◌%◌, min, replicate, if◌then◌else◌, Ok, Err}
use Rattle.page_base.specs.Bytes.{Pages, Cut, zero_page}
use Rattle.sbpf_insn.specs.Machine as machine
use Rattle.plain_files.specs.declared.calls.Call.{Call}
use Rattle.plain_files.specs.declared.calls.Call.TheVariants.{Create, OpenFile, Stat, Remove, Read, Write, Append, Trunc, Seal, Load, Unload, Readl, Writel, Sync}
use Rattle.plain_files.specs.declared.calls.Reply.{Reply}
use Rattle.plain_files.specs.declared.calls.Reply.TheVariants.{DataBytes}
use Rattle.plain_files.specs.Steps.{◌>>=◌}
use Rattle.plain_files.specs.Plain.{State, Answered, bytes_in, ended, first_bytes, reply_alone, effect, or_refusal, answer}
use Rattle.core_state.specs.Words.{from_fn}
use Rattle.core_state.specs.State.{Page, Reach, Claim, Flight, Core}
use Rattle.core_state.specs.Contents.{contents, page_of, span_block}
use Rattle.core_state.specs.Reach.{is_lambda, is_read, gathers, file_word, read_reach, reach_of}
use Rattle.core_state.specs.PlainOf.{file_bytes, file_page, plain, outcome_of}
use Rattle.core_state.specs.Hold.{readable_seen, len_for}
use Rattle.core_state.specs.Coherent.{Coherent}
use Rattle.core_state.specs.LaneEvents.{HasGathered}
use Rattle.core_outcomes.specs.Known.{paged_bytes}
use Rattle.core_outcomes.proofs.Bytes.{byte_at, cut_is, byte_from}
use Rattle.call_answers.specs.Ends.{read_reply, HasGathers}
use Rattle.call_answers.proofs.Found.{Finds, finds, answer_is}
use Rattle.call_answers.proofs.Reaches.{Has, read_has, read_long}

-- of no effect but its reply
after : (s : State) (cap : ℕ) (o : machine.Outcome) → (or_refusal s (ended o >>= (λ end. Ok (reply_alone s (first_bytes cap end))))).reply ≡ read_reply cap o
after s cap (machine.Ended r0 output used) = refl
after s cap (machine.AccessTrap address size slot used) = refl
after s cap (machine.DepthTrap slot used) = refl
after s cap machine.Spent = refl

pub readl_reply : (c : Core) (lane : ℕ) (call : Flight) (file function : List ℕ) (off n fuel cap : ℕ) (param : List ℕ) → Coherent c → c.calls lane ≡ Some call → call.claim.request.call ≡ Readl file off n function fuel cap param →
    (answer (plain c) call.claim.request.call).reply ≡ read_reply cap (outcome_of (plain c) call.claim.request.call)
readl_reply c lane call file function off n fuel cap param h e is =
    let k : Call = Readl file off n function fuel cap param in
    ap (λ (a : Answered). a.reply) (answer_is c lane call h e)
    ∙ (ap (λ (x : Call). (or_refusal (plain c) (effect (plain c) x)).reply) is
    ∙ (after (plain c) cap (outcome_of (plain c) k) ∙ ap (λ (x : Call). read_reply cap (outcome_of (plain c) x)) (sym is)))

-- the bytes that a read has
pub read_bytes : (c : Core) (lane : ℕ) (call : Flight) (name : List ℕ) (off n : ℕ) (pages : ℕ → Page) → Coherent c → c.calls lane ≡ Some call → call.claim.request.call ≡ Read name off n →
    ((i : ℕ) → i < call.claim.reach.pages → pages i ≡ page_of (contents c.blocks) (span_block c.places call.claim i)) →
    Cut (bytes_in (plain c) name) off n ≡ paged_bytes pages (off % 4096) (unwrap_or (readable_seen call.claim (len_for c.names call.claim)) 0)
read_bytes c lane call name off n pages h e is are =
    ap (λ (b : List ℕ). Cut b off n) f.bytes ∙ cut_is f.file.len (byte_at page) (λ (i : ℕ). byte_at pages (off % 4096 + i)) off n m long same
  where
    f : Finds c call.claim name
    f = finds c lane call name h e (ap file_word is)

    page : ℕ → Page
    page = file_page c.places (contents c.blocks) f.file.id

    m : ℕ
    m = unwrap_or (readable_seen call.claim (len_for c.names call.claim)) 0

    reach : call.claim.reach ≡ read_reach off n f.file.len
    reach = f.reach ∙ ap (λ (k : Call). reach_of k f.file.len) is

    long : m ≡ min n (f.file.len - off)
    long =
        ap (λ (k : Call). unwrap_or (if is_read k then Some (min call.claim.reach.end (len_for c.names call.claim) - call.claim.reach.begin) else None) 0) is
        ∙ (ap (λ (k : ℕ). min call.claim.reach.end k - call.claim.reach.begin) f.len ∙ (ap (λ (r : Reach). min r.end f.file.len - r.begin) reach ∙ read_long off n f.file.len))

    has : Has call.claim.reach off (min n (f.file.len - off))
    has = subst (λ (r : Reach). Has r off (min n (f.file.len - off))) (sym reach) (read_has off n f.file.len)

    same : (i : ℕ) → i < m → byte_at pages (off % 4096 + i) ≡ byte_at page (off + i)
    same i l =
        let w : i < min n (f.file.len - off) = subst (λ (k : ℕ). i < k) long l in
        let j = (off + i) / 4096 - off / 4096 in
        let at = has.first (omega arith) in
        let shift : call.claim.reach.first + j ≡ (off + i) / 4096 = omega arith in
        byte_from page pages off i
        (are j (has.within i w) ∙ (ap (λ (p : ℕ). page_of (contents c.blocks) (c.places call.claim.file p)) shift ∙ ap (λ (id : ℕ). page_of (contents c.blocks) (c.places id ((off + i) / 4096))) f.id))

pub read_is : (c : Core) (lane : ℕ) (call : Flight) (name : List ℕ) (off n : ℕ) (pages : ℕ → Page) → Coherent c → c.calls lane ≡ Some call → call.claim.request.call ≡ Read name off n →
    ((i : ℕ) → i < call.claim.reach.pages → pages i ≡ page_of (contents c.blocks) (span_block c.places call.claim i)) →
    (answer (plain c) call.claim.request.call).reply ≡ DataBytes (paged_bytes pages (off % 4096) (unwrap_or (readable_seen call.claim (len_for c.names call.claim)) 0))
read_is c lane call name off n pages h e is are =
    ap (λ (a : Answered). a.reply) (answer_is c lane call h e)
    ∙ (ap (λ (x : Call). (or_refusal (plain c) (effect (plain c) x)).reply) is ∙ ap DataBytes (read_bytes c lane call name off n pages h e is are))
