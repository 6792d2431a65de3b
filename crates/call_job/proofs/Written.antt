-- The end of a call whose function writes.
use Rattle.std.proofs.Common.{◌≡◌, ℕ, ◌+◌, ◌<◌, ◌≤◌, Bool, true, false, List, length, get_or, Option, Some, None, refl, sym, ap, ◌∙◌, subst, arith}
use Rattle.std.specs.Prelude.{◌≢◌, ◌%◌, ◌^◌, ◌&&◌, option_map, if◌then◌else◌, Err}
use Rattle.page_base.specs.Bytes.{Put}
use Rattle.sbpf_insn.specs.Machine as machine
use Rattle.sbpf_exec.specs.declared.interpreter.Outcome.{Outcome}
use Rattle.sbpf_exec.specs.declared.interpreter.Outcome.TheVariants.{Done, Trap, Spent}
use Rattle.sbpf_exec.specs.declared.interpreter.TrapKind.TheVariants.{Access, Depth}
use Rattle.sbpf_exec.specs.Outcomes as exec
use Rattle.plain_files.specs.declared.calls.Call.{Call}
use Rattle.plain_files.specs.declared.calls.Call.TheVariants.{Writel}
use Rattle.plain_files.specs.declared.calls.Reply.{Reply}
use Rattle.plain_files.specs.declared.calls.Reply.TheVariants as reply
use Rattle.plain_files.specs.declared.calls.Request.{Request}
use Rattle.plain_files.specs.Steps.{◌>>=◌}
use Rattle.plain_files.specs.Plain.{State, Answered, bytes_in, stored, ended, effect, or_refusal}
use Rattle.core_state.specs.State.{Page, Flight, Core, Reach as CoreReach}
use Rattle.core_state.specs.Reach as core_reach
use Rattle.core_state.specs.Reach.{is_exclusive, file_word, gathers, write_reach}
use Rattle.core_state.specs.PlainOf.{plain, outcome_of, used_of, fuel_of, has_stored}
use Rattle.core_state.specs.EndEvent.{has_changed}
use Rattle.core_state.specs.Hold.{len_for}
use Rattle.core_state.specs.Coherent.{Coherent}
use Rattle.core_state.specs.LaneEvents.{HasGathered}
use Rattle.system_state.specs.Jobs.{view_of}
use Rattle.span_bytes.specs.Spans.{page_in, span_part}
use Rattle.call_answers.specs.Ends.{filled, put_length, has_room, EndsAs}
use Rattle.call_answers.proofs.Found.{Finds, finds, answer_is}
use Rattle.call_answers.proofs.Stored.{put_ends}
use Rattle.call_job.specs.Buffers.{HasWritten, HasRest}
use Rattle.call_job.specs.Suits.{put_out, given, IsReady, Suits}
use Rattle.call_job.specs.Writes.{is_writel, write_reply, is_put}
use Rattle.call_job.specs.declared.job.Job.{Job}
use Rattle.call_job.proofs.Executed.{writel_asks}
use Rattle.call_job.proofs.Endings.{span_pages, IsRun}
use Rattle.call_job.proofs.Putting.{ends_low}

-- ---- what it asks of its job

pub record AsksEnd (job : Job) (off n : ℕ) : Type 0 where
  pub pages : job.reach.pages ≤ length job.pages.items
  pub second : job.reach.pages ≤ length job.second.items
  pub low : 0 < n → off + n ≤ 2 ^ 28
  pub short : n ≤ 262144

pub end_asks : (job : Job) (file function : List ℕ) (off n fuel : ℕ) (param input : List ℕ) → job.request.call ≡ Writel file off n function fuel param input → IsReady job → AsksEnd job off n
end_asks job file function off n fuel param input is r =
    let a = writel_asks job file function off n fuel param input is r in
    record {
      pages = a.0.pages;
      second = a.2;
      low = λ l. ends_low job r off n r.len (r.reach ∙ ap (λ (k : Call). core_reach.reach_of k r.len) is) l;
      short = a.1;
    }

pub writel_only : (call : Call) → is_writel call ≡ true → ((file function : List ℕ) (off n fuel : ℕ) (param input : List ℕ) → call ≡ Writel file off n function fuel param input → ⊥) → ⊥
writel_only (Writel file off n function fuel param input) l a = a file function off n fuel param input refl
writel_only call l a = cc

-- ---- how its function ended

some_same : {A : Type 0} (x y : A) → Some x ≡ Some y → x ≡ y
some_same x y e = cc

pub wrote_as : (job : Job) (file function : List ℕ) (off n fuel : ℕ) (param input : List ℕ) (outcome : machine.Outcome) → job.request.call ≡ Writel file off n function fuel param input → (r : IsRun job) → given job ≡ Some outcome →
    exec.outcome_of r.outcome (span_part job.second.items (off % 4096) n) ≡ outcome
wrote_as job file function off n fuel param input outcome is r g =
    some_same (exec.outcome_of r.outcome (span_part job.second.items (off % 4096) n)) outcome
    (sym (ap (λ (o : Option Outcome). option_map (λ (x : Outcome). exec.outcome_of x (put_out job job.request.call)) o) r.is ∙ ap (λ (k : Call). Some (exec.outcome_of r.outcome (put_out job k))) is) ∙ g)

pub writel_used : (call : Flight) (job : Job) (file function : List ℕ) (off n fuel used : ℕ) (param input : List ℕ) (outcome : machine.Outcome) (r : IsRun job) → job.request.call ≡ Writel file off n function fuel param input → job.request ≡ call.claim.request → given job ≡ Some outcome →
    used ≡ used_of (exec.outcome_of r.outcome (span_part job.second.items (off % 4096) n)) fuel → used ≡ used_of outcome (fuel_of call.claim.request.call)
writel_used call job file function off n fuel used param input outcome r is s g q =
    q
    ∙ (ap (λ (o : machine.Outcome). used_of o fuel) (wrote_as job file function off n fuel param input outcome is r g)
    ∙ ap (λ (k : Call). used_of outcome (fuel_of k)) (sym is ∙ ap (λ (x : Request). x.call) s))

has_run : (job : Job) → IsRun job → job.ran ≢ None
has_run job r = λ e. let z : None ≡ Some r.outcome = sym e ∙ r.is in cc

-- what lies in the second pages
pub has_written : (job : Job) (file function : List ℕ) (off n fuel : ℕ) (param input : List ℕ) → job.request.call ≡ Writel file off n function fuel param input → IsReady job → IsRun job → HasWritten job (off % 4096) n
has_written job file function off n fuel param input is ready r =
    let h : HasRest job (Writel file off n function fuel param input) = subst (HasRest job) is ready.buffers.rest in
    h.3 (has_run job r)

-- ---- the end

-- what the end has made of the job
pub record Ended (job : Job) (o : machine.Outcome) (len new : ℕ) (room : Bool) (said : Reply) (long : ℕ) (pages : List Page) : Type 0 where
  pub reply_is : said ≡ write_reply room o
  pub put : is_put room o ≡ true → (long ≡ new) × (pages ≡ job.second.items) × ((i : ℕ) → i < job.reach.pages → length (page_in pages i) ≡ 4096)
  pub kept : is_put room o ≡ false → (long ≡ len) × (pages ≡ job.pages.items)

-- what Answer does, by how the function ends
effect_of : (s : State) (file function : List ℕ) (off n fuel : ℕ) (param input : List ℕ) →
    effect s (Writel file off n function fuel param input) ≡ (ended (outcome_of s (Writel file off n function fuel param input)) >>= (λ end. stored s file (Put (bytes_in s file) off end.output) (reply.Val end.r0)))
effect_of s file function off n fuel param input = refl

not_stored : (call : Flight) (said : Reply) → has_stored said ≡ false → has_changed call said ≡ true → ⊥
not_stored call said s e = go (is_exclusive call.claim.reach.mode) (ap (λ (t : Bool). is_exclusive call.claim.reach.mode && t) (sym s) ∙ e)
  where
    go : (t : Bool) → (t && false) ≡ true → ⊥
    go true f = cc
    go false f = cc

refused : (c : Core) (lane : ℕ) (call : Flight) (job : Job) (said : Reply) (long : ℕ) (pages : List Page) → Coherent c → c.calls lane ≡ Some call → Suits job (view_of c.names call) → effect (plain c) call.claim.request.call ≡ Err said → has_stored said ≡ false → pages ≡ job.pages.items → EndsAs c call said long pages
refused c lane call job said long pages h e s is none same = record {
  reply_is = sym (ap (λ (a : Answered). a.reply) (answer_is c lane call h e ∙ ap (or_refusal (plain c)) is));
  stores = λ k. absurd (not_stored call said none k);
  back = λ k i p l g. ap (λ (ps : List Page). page_in ps i) same ∙ s.gathered i p l g;
}

pub writel_ends : (c : Core) (lane : ℕ) (call : Flight) (job : Job) (file function : List ℕ) (off n fuel : ℕ) (param input : List ℕ) (len fill capacity new : ℕ) (room : Bool) (said : Reply) (long : ℕ) (pages : List Page) (r : IsRun job) → job.request.call ≡ Writel file off n function fuel param input → IsReady job →
    given job ≡ Some (outcome_of (plain c) call.claim.request.call) → new ≡ put_length len off n → room ≡ has_room fill capacity len new → Ended job (exec.outcome_of r.outcome (span_part job.second.items (off % 4096) n)) len new room said long pages →
    Coherent c → c.calls lane ≡ Some call → HasGathered call → Suits job (view_of c.names call) → len ≡ len_for c.names call.claim → fill ≡ filled c.names.files → capacity ≡ c.shape.blocks → EndsAs c call said long pages
writel_ends c lane call job file function off n fuel param input len fill capacity new room said long pages r is ready g ne re d h e all s l fl cap =
    cases r.outcome (wrote_as job file function off n fuel param input (outcome_of (plain c) call.claim.request.call) is r g) d
  where
    out : List ℕ
    out = span_part job.second.items (off % 4096) n

    q : call.claim.request.call ≡ Writel file off n function fuel param input
    q = ap (λ (x : Request). x.call) (sym s.request) ∙ is

    w : file_word call.claim.request.call ≡ Some file
    w = ap file_word q

    f : Finds c call.claim file
    f = finds c lane call file h e w

    wrote : HasWritten job (off % 4096) n
    wrote = has_written job file function off n fuel param input is ready r

    new_is : new ≡ put_length len off (length out)
    new_is = ne ∙ ap (put_length len off) (sym wrote.long)

    room_is : room ≡ has_room (filled c.names.files) c.shape.blocks len (put_length len off (length out))
    room_is =
        re
        ∙ (ap (λ (k : ℕ). has_room k capacity len new) fl
        ∙ (ap (λ (k : ℕ). has_room (filled c.names.files) k len new) cap ∙ ap (has_room (filled c.names.files) c.shape.blocks len) new_is))

    reach : call.claim.reach ≡ write_reach off (length out) len
    reach =
        f.reach
        ∙ (ap (λ (k : Call). core_reach.reach_of k f.file.len) q
        ∙ (ap (λ (m : ℕ). write_reach off m f.file.len) (sym wrote.long) ∙ ap (write_reach off (length out)) (sym (l ∙ f.len))))

    effect_is : (o : machine.Outcome) → o ≡ outcome_of (plain c) call.claim.request.call → effect (plain c) call.claim.request.call ≡ (ended o >>= (λ end. stored (plain c) file (Put (bytes_in (plain c) file) off end.output) (reply.Val end.r0)))
    effect_is o same =
        ap (effect (plain c)) q
        ∙ (effect_of (plain c) file function off n fuel param input
        ∙ ap (λ (x : machine.Outcome). ended x >>= (λ end. stored (plain c) file (Put (bytes_in (plain c) file) off end.output) (reply.Val end.r0))) (ap (outcome_of (plain c)) (sym q) ∙ sym same))

    fewer : (i : ℕ) → i < call.claim.reach.pages → i < job.reach.pages
    fewer i m = let k : job.reach.pages ≡ call.claim.reach.pages = ap (λ (x : CoreReach). x.pages) s.reach in omega arith

    cases : (x : Outcome) → exec.outcome_of x out ≡ outcome_of (plain c) call.claim.request.call → Ended job (exec.outcome_of x out) len new room said long pages → EndsAs c call said long pages
    cases (Done r0 used) o d =
        put_ends c lane call file out off len (reply.Val r0) said long job.pages.items pages h e w f (l ∙ f.len) (effect_is (machine.Ended r0 out used) o) refl reach
        (λ i m t. span_pages c lane call job i h e all s m (ap (λ (k : Call). gathers k call.claim.reach i) q)) s.gathered
        (record {
          room = λ t. let z : room ≡ true = room_is ∙ t in (d.reply_is ∙ ap (λ (b : Bool). if b then reply.Val r0 else reply.NoSpace) z, (d.put z).0 ∙ new_is);
          full = λ t. let z : room ≡ false = room_is ∙ t in (d.reply_is ∙ ap (λ (b : Bool). if b then reply.Val r0 else reply.NoSpace) z, (d.kept z).1);
          bytes_are = λ t i j m k. ap (λ (ps : List Page). get_or (page_in ps i) j 0) (d.put (room_is ∙ t)).1 ∙ wrote.bytes i j (fewer i m) k;
          whole = λ t i m. (d.put (room_is ∙ t)).2 i (fewer i m);
        })
    cases (Trap (Access address size) slot used) o d =
        refused c lane call job said long pages h e s (effect_is (machine.AccessTrap address size slot used) o ∙ ap Err (sym d.reply_is)) (ap has_stored d.reply_is) (d.kept refl).1
    cases (Trap Depth slot used) o d = refused c lane call job said long pages h e s (effect_is (machine.DepthTrap slot used) o ∙ ap Err (sym d.reply_is)) (ap has_stored d.reply_is) (d.kept refl).1
    cases Spent o d = refused c lane call job said long pages h e s (effect_is machine.Spent o ∙ ap Err (sym d.reply_is)) (ap has_stored d.reply_is) (d.kept refl).1
