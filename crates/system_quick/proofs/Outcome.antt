-- A call that is answered at once: all of it from what its tables, caches and marks are then.
use Rattle.std.proofs.Common.{◌≡◌, ℕ, ◌+◌, ◌%◌, ◌^◌, ◌<◌, ◌≤◌, Bool, true, false, List, [], ◌∷◌, ◌++◌, length, length-set, set, Option, Some, None, refl, sym, ap, ◌∙◌, subst, inl, arith}
use Rattle.std.specs.Prelude.{◌≢◌, ◌==◌, ◌||◌, if◌then◌else◌, slice_get, vec_capacity}
use Rattle.std.proofs.lemmas.Bool.Decides.{nat_tests}
use mathlib.Core.Path.{fun_ext}
use Rattle.index_lists.specs.Words.{put}
use Rattle.index_lists.proofs.Puts.{put-other}
use Rattle.flash_die.specs.Dies.{DieView, IsDie}
use Rattle.turn_cell.specs.declared.book.Entry.{Entry}
use Rattle.turn_cell.specs.History.{entry}
use Rattle.plain_files.specs.declared.calls.Call.{Call}
use Rattle.plain_files.specs.declared.calls.Numbered.{Numbered}
use Rattle.plain_files.specs.declared.calls.Request.{Request}
use Rattle.plain_files.specs.declared.calls.Reply.{Reply}
use Rattle.plain_files.specs.Plain.{early, answer}
use Rattle.core_state.specs.PlainOf.{plain}
use Rattle.core_state.specs.declared.actor.Actor.TheVariants.{Lane}
use Rattle.core_state.specs.declared.event.Event.{Event}
use Rattle.core_state.specs.declared.event.Event.TheVariants.{Quick}
use Rattle.core_state.specs.Words.{count_to}
use Rattle.core_state.specs.State.{Names, Places, LaneState, Phase, Flight, DieState, Core}
use Rattle.core_state.specs.Contents.{contents}
use Rattle.core_state.specs.Reach.{file_for}
use Rattle.core_state.specs.Hold.{Hold, hold, seen_call, call_seen, sees, is_owner}
use Rattle.core_state.specs.Resizing.{follows}
use Rattle.core_state.specs.PageEvents.{spans}
use Rattle.core_state.specs.LaneEvents.{replied, is_quick, IsClear, quick, MayQuick}
use Rattle.core_state.specs.Coherent.{Coherent}
use Rattle.core_state.specs.Happens.{Happens}
use Rattle.core_hold.proofs.Quicks.{quick_holds}
use Rattle.core_lemmas.proofs.Words.{same_some}
use Rattle.system_state.specs.Jobs.{JobView, view_of}
use Rattle.system_state.specs.Slots.{die_at}
use Rattle.system_state.specs.Cores.{core_of, flash_of, blocks_of, names_of, places_of, lane_of, lanes_of, calls_of, dies_of}
use Rattle.system_state.specs.Kept.{lock_of, AreCaches, AreTables, AreNotes, AreJobs, AreLocks, ArePins, AreTaken, AreNextMetas, AreReported, AreFunctions, IsKept}
use Rattle.system_state.specs.Made.{Made}
use Rattle.system_state.specs.Noted.{told_more}
use Rattle.system_state.specs.Stands.{Stands}
use Rattle.system_state.specs.declared.lanes.Lane.{Lane as Row}
use Rattle.system_state.specs.declared.told.Told.{Told}
use Rattle.system_state.specs.declared.state.State.{State}
use Rattle.system_state.proofs.Flash.{lanes_put}
use Rattle.system_state.proofs.Keeping.{reported_lanes}
use Rattle.system_state.proofs.Standing.{stands_still, stands_coherent}
use Rattle.system_lanes.proofs.LaneRows.{lanes_kept, ended_most}
use Rattle.system_begin.specs.Landed.{row_replied}
use Rattle.system_begin.proofs.Facts.{row_at}
use Rattle.system_quick.specs.Replied.{IsReplied, Asked, IsAnswered}

-- what a lane sees of its own call tells what its job is told
seen_views : (names names2 : Names) (places places2 : Places) (pages pages2 : ℕ → List ℕ) (x : Flight) → seen_call names2 places2 pages2 x ≡ seen_call names places pages x → view_of names2 x ≡ view_of names x
seen_views names names2 places places2 pages pages2 x e = λ i. record { code = (e i).code; readable = (e i).readable; flight = x }

lane_same : (l m : ℕ) → Lane l ≡ Lane m → l ≡ m
lane_same l m e = cc

sees_own : (l : ℕ) (phase : Phase) → sees (Lane l) l phase ≡ true
sees_own l phase = ap (λ (u : Bool). u || is_owner (Lane l) l phase) (same l)
  where
    same : (l : ℕ) → (l == l) ≡ true
    same l = grind (arith, nat_tests)

none_some : {A : Type 0} (o : Option A) (x : A) → o ≡ None → o ≡ Some x → ⊥
none_some o x e f = cc

module _ {D J : Type 0} (seen : D → DieView) (suits : J → JobView → Type 0) where
  -- what a call that is answered at once makes of the state before its reply
  pub record IsOutcome (s : State D J) (call : Call) (reply : Reply) (u : State D J) : Type 0 where
    pub rest : u ≡ record s { pair = u.pair; meta = u.meta; functions = u.functions }
    pub kind : is_quick call ≡ true
    pub reply_is : reply ≡ (answer (plain (core_of seen s)) call).reply
    pub clear : IsClear (core_of seen s) call reply
    pub leads : record (core_of seen s) {
      blocks = blocks_of s.sizes u.pair (flash_of seen s) s.told.value.lent;
      host_order = u.pair.host.order;
      drive_order = u.pair.drive.order;
      unclean = u.pair.unclean;
      names = names_of u.meta.names u.functions.items;
      places = places_of u.meta.extents.placed;
    } ≡ follows (core_of seen s) (file_for (core_of seen s).names.files call) (answer (plain (core_of seen s)) call).state
    pub caches : AreCaches s.sizes u.pair u.meta.written
    pub tables : AreTables s.sizes u.meta
    pub locks : (l : ℕ) (x : Flight) → (core_of seen s).calls l ≡ Some x → lock_of u.meta.names.files (Some x) ≡ lock_of s.meta.names.files (Some x)
    pub spans_stay : (l : ℕ) (x : Flight) (b : ℕ) → (core_of seen s).calls l ≡ Some x → spans (places_of u.meta.extents.placed) (Some x) b ≡ spans (core_of seen s).places (Some x) b
    pub functions : AreFunctions u.functions.items
    pub room : 64 ≤ vec_capacity u.functions

  -- the row of the lane, before its reply
  pub row_there : (s : State D J) (lane : ℕ) (request : Request) → Asked seen suits s lane request → (row : Row) × (slice_get s.lanes.items lane ≡ Some row) × (row.ended + 1 < 2 ^ 64)
  row_there s lane request a =
      let k = a.standing.stands.kept in
      let r = row_at s.lanes.items lane (let z = k.lanes.count in let w = a.ready.idle.within in omega arith) in
      let m = k.lanes.ended lane r.0 r.1 in
      let l = a.last in
      (r.0, r.1, omega arith)

  module _ (s : State D J) (lane : ℕ) (request : Request) (a : Asked seen suits s lane request) (reply : Reply) (u : State D J) (q : IsOutcome s request.call reply u) (t : State D J) (r : IsReplied lane (Quick lane request reply) u t) where
    abbrev e : Event
    e = Quick lane request reply

    abbrev c : Core
    c = core_of seen s

    abbrev as_answered : State D J
    as_answered = record s { pair = u.pair; meta = u.meta; functions = u.functions; lanes = t.lanes; last = s.last + 1; told = t.told; made = (s.made + 1) % 2 ^ 64 }

    abbrev c2 : Core
    c2 = core_of seen as_answered

    k : IsKept seen suits s
    k = a.standing.stands.kept

    h : Coherent c
    h = stands_coherent seen suits s a.standing.o a.standing.h a.standing.stands

    rest : t ≡ as_answered
    rest = r.rest ∙ ap (λ (w : State D J). record w { lanes = t.lanes; last = w.last + 1; told = t.told; made = (w.made + 1) % 2 ^ 64 }) q.rest

    notes : t.told.value ≡ told_more s.told.value e
    notes = r.notes ∙ ap (λ (w : State D J). told_more w.told.value e) q.rest

    within : lane < s.sizes.lanes
    within = a.ready.idle.within

    old_row : (row : Row) × (slice_get s.lanes.items lane ≡ Some row)
    old_row = row_at s.lanes.items lane (let z = k.lanes.count in let w = within in omega arith)

    rows : t.lanes.items ≡ set s.lanes.items lane (row_replied old_row.0)
    rows =
        r.lanes old_row.0 (ap (λ (w : State D J). slice_get w.lanes.items lane) q.rest ∙ old_row.1)
        ∙ ap (λ (w : State D J). set w.lanes.items lane (row_replied old_row.0)) q.rest

    lanes_are : lanes_of t.lanes.items ≡ put c.lanes lane (replied (c.lanes lane))
    lanes_are =
        ap lanes_of rows
        ∙ (lanes_put s.lanes.items lane (row_replied old_row.0) (let z = k.lanes.count in let w = within in omega arith)
        ∙ ap (λ (o : Option Row). put c.lanes lane (replied (lane_of o))) (sym old_row.1))

    calls_are : calls_of s.calls.items t.told.value.gathered ≡ c.calls
    calls_are = ap (λ (w : Told). calls_of s.calls.items w.gathered) notes

    dies_are : dies_of s.rack.slots.items t.told.value.counts ≡ c.dies
    dies_are = ap (λ (w : Told). dies_of s.rack.slots.items w.counts) notes

    leads : c2 ≡ quick c lane request.call
    leads =
        let n = notes in
        let ls = lanes_are in
        (λ i. record c {
          blocks = blocks_of s.sizes u.pair (flash_of seen s) (n i).lent;
          host_order = u.pair.host.order;
          drive_order = u.pair.drive.order;
          unclean = u.pair.unclean;
          names = names_of u.meta.names u.functions.items;
          places = places_of u.meta.extents.placed;
          lanes = ls i;
          calls = calls_of s.calls.items (n i).gathered;
          dies = dies_of s.rack.slots.items (n i).counts;
          last = s.last + 1;
        })
        ∙ ap (λ (d : Core). record d { lanes = put c.lanes lane (replied (c.lanes lane)); last = c.last + 1 }) q.leads

    may : MayQuick c lane request reply
    may = record { ready = a.ready; reply_is = q.reply_is; kind = inl q.kind; clear = q.clear }

    happens : Happens c e c2
    happens = record { hands = λ _. a.hands; closing = λ z. absurd (cc); may = may; leaves = leads }

    not_own : (l : ℕ) (x : Flight) → c.calls l ≡ Some x → Lane l ≢ Lane lane
    not_own l x f z = none_some (c.calls lane) x a.ready.idle.idle (ap c.calls (sym (lane_same l lane z)) ∙ f)

    views : (l : ℕ) (x : Flight) → c.calls l ≡ Some x → view_of c2.names x ≡ view_of c.names x
    views l x f =
        let flies : c2.calls l ≡ Some x = ap (λ (w : ℕ → Option Flight). w l) calls_are ∙ f in
        let holds : hold c2 (Lane l) ≡ hold c (Lane l) = quick_holds lane request reply c c2 (Lane l) h happens (not_own l x f) in
        let both : call_seen c2.names c2.places (contents c2.blocks) (Lane l) l (Some x) ≡ call_seen c.names c.places (contents c.blocks) (Lane l) l (Some x) =
        ap (call_seen c2.names c2.places (contents c2.blocks) (Lane l) l) (sym flies) ∙ (ap (λ (w : Hold). w.seen l) holds ∙ ap (call_seen c.names c.places (contents c.blocks) (Lane l) l) f) in
        let some : Some (seen_call c2.names c2.places (contents c2.blocks) x) ≡ Some (seen_call c.names c.places (contents c.blocks) x) =
        ap (λ (w : Bool). if w then Some (seen_call c2.names c2.places (contents c2.blocks) x) else None) (sym (sees_own l x.phase)) ∙ (both ∙ ap (λ (w : Bool). if w then Some (seen_call c.names c.places (contents c.blocks) x) else None) (sees_own l x.phase)) in
        seen_views c.names c2.names c.places c2.places (contents c.blocks) (contents c2.blocks) x (same_some (Some (seen_call c2.names c2.places (contents c2.blocks) x)) (seen_call c2.names c2.places (contents c2.blocks) x) (seen_call c.names c.places (contents c.blocks) x) refl some)

    jobs : AreJobs suits s.sizes s.jobs.items c2.names c.calls
    jobs = record { count = k.jobs.count; left = k.jobs.left; suit = λ l job x is f. subst (suits job) (sym (views l x f)) (k.jobs.suit l job x is f) }

    locks : AreLocks s.sizes s.ranges u.meta.names.files c.calls
    locks = record { files_are = k.locks.files_are; count = k.locks.count; held = λ l. k.locks.held l ∙ by l (c.calls l) refl }
      where
        by : (l : ℕ) (o : Option Flight) → c.calls l ≡ o → lock_of s.meta.names.files o ≡ lock_of u.meta.names.files o
        by l None f = refl
        by l (Some x) f = sym (q.locks l x f)

    pins : ArePins s.sizes s.pins.items c2.places c.calls
    pins = record { count = k.pins.count; each = λ b w. k.pins.each b w ∙ ap (count_to s.sizes.lanes) (fun_ext (λ l. by b l (c.calls l) refl)) }
      where
        by : (b l : ℕ) (o : Option Flight) → c.calls l ≡ o → spans c.places o b ≡ spans c2.places o b
        by b l None f = refl
        by b l (Some x) f = sym (q.spans_stay l x b f)

    marks : (l : ℕ) (x : Flight) → c.calls l ≡ Some x → (put c.lanes lane (replied (c.lanes lane)) l).mark ≡ false → (c.lanes l).mark ≡ false
    marks l x f m = ap (λ (w : LaneState). w.mark) (sym (put-other c.lanes lane (replied (c.lanes lane)) l (λ z. not_own l x f (ap Lane z)))) ∙ m

    ended : (replied (c.lanes lane)).ended ≤ s.last + 1
    ended = let m = ended_most s.sizes s.lanes.items s.last k.lanes lane in omega arith

    kept : IsKept seen suits as_answered
    kept = record {
      sizes = k.sizes;
      caches = q.caches;
      tables = q.tables;
      dies = k.dies;
      notes = subst (AreNotes s.sizes) (sym notes) (record { lent = k.notes.lent; gathered = k.notes.gathered; spans = k.notes.spans; counts = k.notes.counts });
      lanes = lanes_kept s.sizes s.lanes.items t.lanes.items lane (replied (c.lanes lane)) s.last (s.last + 1) k.lanes (omega arith) (ap length rows ∙ length-set s.lanes.items lane (row_replied old_row.0)) lanes_are ended;
      calls = k.calls;
      jobs = subst (AreJobs suits s.sizes s.jobs.items c2.names) (sym calls_are) jobs;
      locks = subst (AreLocks s.sizes s.ranges u.meta.names.files) (sym calls_are) locks;
      pins = subst (ArePins s.sizes s.pins.items c2.places) (sym calls_are) pins;
      taken = subst (AreTaken s.sizes s.taken) (sym calls_are) k.taken;
      queue = k.queue;
      metas = subst (λ (w : ℕ → DieState). AreNextMetas w c2.calls s.closer) (sym dies_are) (subst (λ (w : ℕ → Option Flight). AreNextMetas c.dies w s.closer) (sym calls_are) k.metas);
      reported = subst (λ (w : ℕ → DieState). AreReported c2.lanes c2.calls w) (sym dies_are)
          (subst (λ (w : ℕ → Option Flight). AreReported c2.lanes w c.dies) (sym calls_are)
          (subst (λ (w : ℕ → LaneState). AreReported w c.calls c.dies) (sym lanes_are) (reported_lanes c.lanes (put c.lanes lane (replied (c.lanes lane))) c.calls c.dies marks k.reported)));
      functions = q.functions;
      room = q.room;
      spare = k.spare;
      spare_room = k.spare_room;
    }

    made : Made seen suits s e t
    made = subst (Made seen suits s e) (sym rest) (record {
      happens = happens;
      kept = kept;
      sizes = refl;
      past = ap (λ (w : Told). w.past) notes;
      made = refl;
      places = refl;
    })

    stands : ((x : D) → IsDie (seen x)) → (o : State D J) (hist : List (Entry Event)) (n : ℕ) → Stands seen suits s o hist → Stands seen suits t o (hist ++ entry n e ∷ [])
    stands sound o hist n st = stands_still seen suits sound s t o hist n e st made (λ d. refl) (λ d. refl) (λ d. ap (λ (w : State D J). die_at seen w.rack.slots.items d) rest)

    -- the answer with its number
    pub is_answered : ((x : D) → IsDie (seen x)) → (x : Numbered) → x.number ≡ u.last + 1 → x.reply ≡ reply → IsAnswered seen suits s lane request x t
    is_answered sound x number is = record {
      number = number ∙ ap (λ (w : State D J). w.last + 1) q.rest;
      reply = is ∙ q.reply_is;
      made = subst (λ (y : Reply). Made seen suits s (Quick lane request y) t) (sym is) made;
      stands = λ o hist n st. subst (λ (y : Reply). Stands seen suits t o (hist ++ entry n (Quick lane request y) ∷ [])) (sym is) (stands sound o hist n st);
    }

  -- what a lane that may answer knows of its state
  pub kept_of : (s : State D J) (lane : ℕ) (request : Request) → Asked seen suits s lane request → IsKept seen suits s
  kept_of s lane request a = a.standing.stands.kept

  pub coherent_of : (s : State D J) (lane : ℕ) (request : Request) → Asked seen suits s lane request → Coherent (core_of seen s)
  coherent_of s lane request a = stands_coherent seen suits s a.standing.o a.standing.h a.standing.stands

  pub early_of : (s : State D J) (lane : ℕ) (request : Request) (call : Call) → Asked seen suits s lane request → request.call ≡ call → early (plain (core_of seen s)) call ≡ None
  early_of s lane request call a e = subst (λ (w : Call). early (plain (core_of seen s)) w ≡ None) e a.not_early

  pub outcome_for : (s u : State D J) (call call2 : Call) (reply reply2 : Reply) → call ≡ call2 → reply ≡ reply2 → IsOutcome s call2 reply2 u → IsOutcome s call reply u
  outcome_for s u call call2 reply reply2 e f q = subst (λ (w : Call). IsOutcome s w reply u) (sym e) (subst (λ (w : Reply). IsOutcome s call2 w u) (sym f) q)
