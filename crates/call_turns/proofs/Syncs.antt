-- The end of a `sync`.
use Rattle.std.proofs.Common.{◌≡◌, ℕ, ◌<◌, Bool, true, false, Some, refl, sym, ap, ◌∙◌, subst, inl, arith}
use Rattle.std.specs.Prelude.{if◌then◌else◌, Result, Ok, IfOk}
use Rattle.std.specs.declared.snapshot.Snapshot.{Snapshot}
use Rattle.page_base.specs.Drive.{meta_pages}
use Rattle.turn_cell.specs.declared.view.View.{View}
use Rattle.turn_cell.specs.declared.pass.Worn.{Worn}
use Rattle.turn_cell.specs.Events.{events_of}
use Rattle.dispatcher.specs.declared.side.Side.{Side}
use Rattle.dispatcher.specs.declared.side.Side.TheVariants.{Host, Drive}
use Rattle.plain_files.specs.declared.calls.Call.{Call}
use Rattle.plain_files.specs.declared.calls.Call.TheVariants.{Create, OpenFile, Stat, Remove, Read, Write, Append, Trunc, Seal, Load, Unload, Readl, Writel, Sync}
use Rattle.plain_files.specs.declared.calls.Numbered.{Numbered}
use Rattle.plain_files.specs.declared.calls.Reply.{Reply}
use Rattle.plain_files.specs.declared.calls.Reply.TheVariants.{Done, Fault}
use Rattle.plain_files.specs.declared.calls.Request.{Request}
use Rattle.plain_files.specs.Plain.{State as PlainState, answer}
use Rattle.flash_die.specs.Dies.{DieView}
use Rattle.core_state.specs.declared.actor.Actor.TheVariants.{Lane}
use Rattle.core_state.specs.declared.event.Event.{Event}
use Rattle.core_state.specs.declared.event.Event.TheVariants.{End}
use Rattle.core_state.specs.State.{Shape, Claim, Reach, Flight, Core}
use Rattle.core_state.specs.Reach.{is_sync, is_lambda, no_reach, reach_of, len_or_none, file_for}
use Rattle.core_state.specs.PlainOf.{plain}
use Rattle.core_state.specs.PageEvents.{flight_at}
use Rattle.core_state.specs.InFlight.{claim_of}
use Rattle.core_state.specs.EndEvent.{MayEnd, has_changed}
use Rattle.core_state.specs.Coherent.{Coherent}
use Rattle.core_state.specs.Hold.{hold}
use Rattle.core_state.specs.History.{calls_of}
use Rattle.system_ends.specs.Landed.{reply_at}
use Rattle.system_state.specs.Jobs.{JobView}
use Rattle.system_state.specs.Cores.{core_of}
use Rattle.system_state.specs.declared.state.State.{State}
use Rattle.desk_turns.specs.Passing.{Turn}
use Rattle.page_steps.proofs.FlushTurning.{if_ok}
use Rattle.page_steps.specs.Words.{IsNumbered}
use Rattle.page_steps.proofs.Keeping.{again, at_flight}
use Rattle.page_steps.proofs.Numbering.{numbered}
use Rattle.call_turns.specs.Ending.{EndsSync, EndSays, sync_reply}
use Rattle.core_state.specs.Dies.{owner}

sync_is : (call : Call) → is_sync call ≡ true → call ≡ Sync
sync_is Sync e = refl
sync_is (Create name) e = absurd (cc)
sync_is (OpenFile name) e = absurd (cc)
sync_is (Stat name) e = absurd (cc)
sync_is (Remove name) e = absurd (cc)
sync_is (Seal name) e = absurd (cc)
sync_is (Load name bytes) e = absurd (cc)
sync_is (Unload name) e = absurd (cc)
sync_is (Read name off n) e = absurd (cc)
sync_is (Write name off bytes) e = absurd (cc)
sync_is (Append name bytes) e = absurd (cc)
sync_is (Trunc name n) e = absurd (cc)
sync_is (Readl file off n function fuel cap param) e = absurd (cc)
sync_is (Writel file off n function fuel param input) e = absurd (cc)

-- what holds of a `sync` in a coherent core: it is held at the host, and meets no page
pub record IsBare (c : Core) (lane : ℕ) (call : Flight) : Type 0 where
  pub call_is : call.claim.request.call ≡ Sync
  pub host : call.claim.side ≡ Host
  pub reach : call.claim.reach ≡ no_reach

at_host : (side : Side) → (side ≡ Drive → ⊥) → side ≡ Host
at_host Host p = refl
at_host Drive p = absurd (p refl)

pub bare : (c : Core) (lane : ℕ) (call : Flight) → Coherent c → c.calls lane ≡ Some call → is_sync call.claim.request.call ≡ true → IsBare c lane call
bare c lane call h flies sync =
    let right = h.in_flight.right lane call.claim (ap claim_of flies) in
    let is = sync_is call.claim.request.call sync in
    record {
      call_is = is;
      host = at_host call.claim.side (λ e. let t = right.drive e in let z : is_lambda call.claim.request.call ≡ false = ap is_lambda is in absurd (cc));
      reach = ap (λ (x : Claim). x.reach) right.same ∙ ap (λ (x : Call). reach_of x (len_or_none (file_for c.names.files call.claim.request.call))) is;
    }

done : (p : PlainState) → Done ≡ (answer p Sync).reply
done p = refl

replies : (fault : Bool) → (fault ≡ true → sync_reply fault ≡ Fault) × (fault ≡ false → sync_reply fault ≡ Done)
replies true = (λ e. refl, λ e. absurd (cc))
replies false = (λ e. absurd (cc), λ e. refl)

pub sync_ends : (c : Core) (lane : ℕ) (request : Request) (fault : Bool) → Coherent c → EndsSync c lane request fault → MayEnd c lane request (sync_reply fault)
sync_ends c lane request fault h p =
    let sync : is_sync p.call.claim.request.call ≡ true = sym (ap (λ (r : Request). is_sync r.call) p.request_is) ∙ p.sync in
    let b = bare c lane p.call h p.flies sync in
    let r = replies fault in
    record {
      call = p.call;
      flies = p.flies;
      request_is = p.request_is;
      at_end = inl (p.held, b.host);
      marked = λ e. r.0 (sym p.mark ∙ e);
      unmarked = λ e.
          let f : fault ≡ false = sym p.mark ∙ e in
          record {
            all = λ i l w. let m : i < 0 = subst (λ (x : Reach). i < x.pages) b.reach l in absurd (omega arith);
            synced = λ s. p.all f;
            reply_is = r.1 f ∙ (done (plain c) ∙ ap (λ (x : Call). (answer (plain c) x).reply) (sym b.call_is));
          };
    }

-- it stores nothing, and has no page
pub sync_stores : (c : Core) (lane : ℕ) (request : Request) (fault : Bool) (reply : Reply) → Coherent c → EndsSync c lane request fault → has_changed (flight_at c.calls lane) reply ≡ false
sync_stores c lane request fault reply h p =
    let sync : is_sync p.call.claim.request.call ≡ true = sym (ap (λ (r : Request). is_sync r.call) p.request_is) ∙ p.sync in
    let b = bare c lane p.call h p.flies sync in
    ap (λ (x : Flight). has_changed x reply) (at_flight c.calls lane p.call p.flies) ∙ ap (λ (x : Reach). has_changed (record p.call { claim = record p.call.claim { reach = x } }) reply) b.reach

pub sync_pages : (c : Core) (lane : ℕ) (request : Request) (fault : Bool) → Coherent c → EndsSync c lane request fault → (flight_at c.calls lane).claim.reach.pages ≡ 0
sync_pages c lane request fault h p =
    let sync : is_sync p.call.claim.request.call ≡ true = sym (ap (λ (r : Request). is_sync r.call) p.request_is) ∙ p.sync in
    let b = bare c lane p.call h p.flies sync in
    ap (λ (x : Flight). x.claim.reach.pages) (at_flight c.calls lane p.call p.flies) ∙ ap (λ (x : Reach). x.pages) b.reach

pub sync_runs_not : (c : Core) (lane : ℕ) (request : Request) (fault : Bool) → Coherent c → EndsSync c lane request fault → is_lambda (flight_at c.calls lane).claim.request.call ≡ false
sync_runs_not c lane request fault h p =
    let sync : is_sync p.call.claim.request.call ≡ true = sym (ap (λ (r : Request). is_sync r.call) p.request_is) ∙ p.sync in
    let b = bare c lane p.call h p.flies sync in
    ap (λ (x : Flight). is_lambda x.claim.request.call) (at_flight c.calls lane p.call p.flies) ∙ ap is_lambda b.call_is

pub sync_held : (c : Core) (lane : ℕ) (request : Request) (fault : Bool) → (p : EndsSync c lane request fault) → (flight_at c.calls lane).phase ≡ p.call.phase
sync_held c lane request fault p = ap (λ (x : Flight). x.phase) (at_flight c.calls lane p.call p.flies)

pub sync_replies : (c : Core) (lane : ℕ) (request : Request) (fault : Bool) → EndsSync c lane request fault → reply_at c lane request ≡ sync_reply fault
sync_replies c lane request fault p = ap (λ (b : Bool). if b then Fault else (answer (plain c) request.call).reply) p.mark ∙ by fault
  where
    by : (t : Bool) → (if t then Fault else (answer (plain c) request.call).reply) ≡ sync_reply t
    by true = refl
    by false = ap (λ (x : Call). (answer (plain c) x).reply) (sync_is request.call p.sync) ∙ sym (done (plain c))

-- it holds again
pub sync_kept : (c c2 : Core) (lane : ℕ) (request : Request) (fault : Bool) → hold c2 (Lane lane) ≡ hold c (Lane lane) → c2.shape ≡ c.shape → EndsSync c lane request fault → EndsSync c2 lane request fault
sync_kept c c2 lane request fault same shape p =
    let g = again c c2 (Lane lane) lane p.call same p.flies (ap (owner lane) p.held) in
    record {
      call = g.call;
      flies = g.flies;
      held = g.same.phase ∙ p.held;
      request_is = p.request_is ∙ sym (ap (λ (x : Claim). x.request) g.same.claim);
      sync = p.sync;
      mark = g.mark ∙ p.mark;
      all = λ e. g.same.meta ∙ (p.all e ∙ sym (ap (λ (x : Shape). meta_pages x.blocks) shape));
    }

module _ {D J : Type 0} (seen : D → DieView) (suits : J → JobView → Type 0) where
  abbrev V : Type 0
  V = View (Snapshot (State D J)) Event

  pub sync_numbered : (lane : ℕ) (request : Request) (fault : Bool) (o : Snapshot (State D J)) (v w : V) (r : Result Numbered Worn) (n : Numbered) → r ≡ Ok n → IfOk r (λ x. Turn (core_of seen) o v w (EndSays lane request fault x)) →
      IsNumbered o.value.last (calls_of (events_of w.seen)) n.number (record { lane = lane; call = request.call; reply = n.reply })
  sync_numbered lane request fault o v w r n is did =
      let t = if_ok (λ x. Turn (core_of seen) o v w (EndSays lane request fault x)) r n is did in
      numbered (core_of seen) o v w (EndSays lane request fault n) (End lane request n.reply) lane request.call n t t.says.are t.says.answered
