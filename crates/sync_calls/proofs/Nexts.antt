-- The events of a `sync` are those of the run of one thread.
use Rattle.std.proofs.Common.{◌≡◌, ℕ, Bool, true, false, List, [], ◌∷◌, Some, None, inl, inr, refl, sym, ap, ◌∙◌, subst, arith}
use Rattle.std.specs.Prelude.{◌⊎◌, nat_lt, is_some, slice_get, if◌then◌else◌}
use Rattle.std.specs.List.{find}
use Rattle.std.proofs.lemmas.Bool.Decides.{nat_tests}
use Rattle.page_base.specs.Drive.{meta_pages}
use Rattle.plain_files.specs.declared.calls.Reply.{Reply}
use Rattle.plain_files.specs.declared.calls.Reply.TheVariants.{Fault}
use Rattle.plain_files.specs.declared.calls.Request.{Request}
use Rattle.plain_files.specs.Plain.{answer}
use Rattle.core_state.specs.declared.actor.Actor.TheVariants.{Lane}
use Rattle.core_state.specs.declared.event.Event.{Event}
use Rattle.core_state.specs.declared.event.Event.TheVariants.{DieOut, End, FlushOut}
use Rattle.core_state.specs.declared.event.Purpose.TheVariants.{Meta}
use Rattle.core_state.specs.Words.{first_to}
use Rattle.core_state.specs.State.{Page, Reach, Core}
use Rattle.core_state.specs.Contents.{die_of, die_of_page}
use Rattle.core_state.specs.DieEvents.{is_flushable, MayMeta}
use Rattle.core_state.specs.PlainOf.{plain}
use Rattle.core_state.specs.Coherent.{Coherent}
use Rattle.core_state.specs.Reach.{is_sync}
use Rattle.core_state.specs.Happens.{actor_of, is_homecoming}
use Rattle.core_state.specs.History.{request_of}
use Rattle.core_solo.specs.Solo.{acting, flush_event, sync_event, page_to_gather, IsNext, IsStep}
use Rattle.core_solo.proofs.Nexts.{home_next, sync_next, end_next_host}
use Rattle.core_solo.proofs.Steps.{acting_held}
use Rattle.system_metas.specs.Encode.{encode}
use Rattle.quick_calls.specs.Flushing.{IsFirst}
use Rattle.quick_calls.proofs.Nexts.{metas_next}
use Rattle.quick_calls.specs.Ending.{sync_reply}
use Rattle.quick_calls.proofs.Syncs.{bare, sync_replies}
use Rattle.quick_calls.proofs.Moves.{flush_some}
use Rattle.sync_calls.specs.Stages.{IsInSync}
use Rattle.sync_calls.proofs.InSync.{is_its_sync, ends_sync}

-- it gathers no page
gathers_none : (m : Bool) (c : Core) (lane : ℕ) (request : Request) (n : ℕ) → Coherent c → (p : IsInSync m c lane request n) → page_to_gather p.call ≡ None
unfolding first_to
gathers_none m c lane request n h p =
    let b = bare c lane p.call h p.flies (is_its_sync m c lane request n p) in
    ap (λ (x : Reach). page_to_gather (record p.call { claim = record p.call.claim { reach = x } })) b.reach

pub acts_in_sync : (m : Bool) (c : Core) (lane : ℕ) (request : Request) (n : ℕ) → IsInSync m c lane request n → acting lane (c.calls lane) ≡ Lane lane
acts_in_sync m c lane request n p = acting_held c lane p.call p.flies p.held

find_some : (test : ℕ → Bool) (us : List ℕ) (b : ℕ) → find test us ≡ Some b → is_some (slice_get us 0) ≡ true
find_some test [] b e = absurd (cc)
find_some test (u ∷ us) b e = refl

write_next : (c : Core) (lane : ℕ) (request : Request) (n : ℕ) (e : Event) → Coherent c → IsInSync false c lane request n → sync_event encode c (Lane lane) n ≡ Some e → IsNext encode lane request c e
write_next c lane request n e h p is =
    let b = bare c lane p.call h p.flies (is_its_sync false c lane request n p) in
    sync_next encode c lane request p.call e p.flies p.held b.host (is_its_sync false c lane request n p) p.mark (gathers_none false c lane request n h p)
    (ap (λ (k : ℕ). sync_event encode c (Lane lane) k) p.number_is ∙ is)

-- the first unclean block whose die is at home goes out
pub block_out_next : (c : Core) (lane : ℕ) (request : Request) (n die b : ℕ) → Coherent c → IsInSync false c lane request n → IsFirst b c → die_of c.shape b ≡ die → IsStep encode lane request c (FlushOut (Lane lane) die b)
block_out_next c lane request n die b h p first on =
    let after = if nat_lt n (meta_pages c.shape.blocks) then Some (DieOut (Lane lane) (die_of_page c.shape n) (Meta n (encode c n))) else None in
    record {
      next = write_next c lane request n (FlushOut (Lane lane) die b) h p (ap (λ (t : Bool). if t then flush_event c (Lane lane) else after) (find_some (is_flushable c) c.unclean b first) ∙ sym (flush_some c (Lane lane) die b first on));
      open_still = refl;
    }

-- the next page of the meta data does
pub page_out_next : (c : Core) (lane : ℕ) (request : Request) (n die : ℕ) (page : Page) → Coherent c → IsInSync false c lane request n → MayMeta c (Lane lane) die n page → c.unclean ≡ [] → page ≡ encode c n → IsStep encode lane request c (DieOut (Lane lane) die (Meta n page))
page_out_next c lane request n die page h p may clean bytes =
    record { next = write_next c lane request n (DieOut (Lane lane) die (Meta n page)) h p (metas_next c (Lane lane) die n page may clean bytes); open_still = refl }

-- a die comes home
pub home_in_next : (m : Bool) (c : Core) (lane : ℕ) (request : Request) (n : ℕ) (e : Event) → IsInSync m c lane request n → is_homecoming e ≡ true → actor_of e ≡ Lane lane → request_of e ≡ None → IsStep encode lane request c e
home_in_next m c lane request n e p comes actor silent =
    record { next = home_next encode c lane request e comes (actor ∙ sym (acts_in_sync m c lane request n p)); open_still = silent }

-- nothing is left to write
none_to_write : (c : Core) (lane n : ℕ) → c.unclean ≡ [] → n ≡ meta_pages c.shape.blocks → sync_event encode c (Lane lane) n ≡ None
none_to_write c lane n clean all =
    let u : nat_lt n (meta_pages c.shape.blocks) ≡ false = grind (arith, nat_tests) in
    ap (λ (t : Bool). if t then flush_event c (Lane lane) else (if nat_lt n (meta_pages c.shape.blocks) then Some (DieOut (Lane lane) (die_of_page c.shape n) (Meta n (encode c n))) else None)) (ap (λ (us : List ℕ). is_some (slice_get us 0)) clean)
    ∙ ap (λ (t : Bool). if t then Some (DieOut (Lane lane) (die_of_page c.shape n) (Meta n (encode c n))) else None) u

-- its end
pub end_in_next : (m : Bool) (c : Core) (lane : ℕ) (request : Request) (n : ℕ) (reply : Reply) → Coherent c → IsInSync m c lane request n → (m ≡ false → (c.unclean ≡ []) × (n ≡ meta_pages c.shape.blocks)) → reply ≡ sync_reply m → IsNext encode lane request c (End lane request reply)
end_in_next m c lane request n reply h p done is =
    let b = bare c lane p.call h p.flies (is_its_sync m c lane request n p) in
    let says = sync_replies c lane request m (ends_sync m c lane request n p (λ e. (done e).1)) in
    let same : End lane p.call.claim.request (if (c.lanes lane).mark then Fault else (answer (plain c) p.call.claim.request.call).reply) ≡ End lane request reply
    = ap (λ (r : Request). End lane r (if (c.lanes lane).mark then Fault else (answer (plain c) r.call).reply)) (sym p.request_is) ∙ ap (λ (r : Reply). End lane request r) (says ∙ sym is) in
    subst (IsNext encode lane request c) same
    (end_next_host encode c lane request p.call p.flies p.held b.host (inr (gathers_none m c lane request n h p)) (by m refl))
  where
    by : (t : Bool) → m ≡ t → ((c.lanes lane).mark ≡ true) ⊎ (is_sync p.call.claim.request.call ≡ true → sync_event encode c (Lane lane) p.call.meta ≡ None)
    by true e = inl (p.mark ∙ e)
    by false e = inr (λ s. ap (λ (k : ℕ). sync_event encode c (Lane lane) k) p.number_is ∙ none_to_write c lane n (done e).0 (done e).1)
