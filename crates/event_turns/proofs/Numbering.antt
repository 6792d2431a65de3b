-- Numbers that stay small, and the number of a call that ends.
use Rattle.std.proofs.Common.{◌≡◌, ℕ, ◌+◌, ◌-◌, ◌*◌, ◌^◌, ◌<◌, ◌≤◌, List, [], ◌∷◌, ◌++◌, length, Option, Some, None, refl, ap, ◌∙◌, subst, Bool, true, false, arith}
use Rattle.std.specs.declared.snapshot.Snapshot.{Snapshot}
use Rattle.plain_files.specs.History.{Entry as CallEntry}
use Rattle.plain_files.specs.declared.calls.Call.{Call}
use Rattle.plain_files.specs.declared.calls.Numbered.{Numbered}
use Rattle.turn_cell.specs.declared.view.View.{View}
use Rattle.core_state.specs.State.{Core}
use Rattle.core_state.specs.Reach.{is_lambda}
use Rattle.index_lists.specs.Words.{one_if}
use Rattle.coherence.specs.Paired.{flags_at}
use Rattle.system_state.specs.declared.state.Sizes.{Sizes}
use Rattle.turn_cell.specs.declared.book.Entry.{Entry}
use Rattle.turn_cell.specs.Events.{events_of}
use Rattle.flash_die.specs.Dies.{DieView}
use Rattle.dispatcher.specs.declared.side.Side.TheVariants.{Host, Drive}
use Rattle.core_state.specs.declared.event.Event.{Event}
use Rattle.core_state.specs.declared.event.Event.TheVariants.{Enter, Leave, Quick, Skip, Begin, Copy, Take, DieOut, FillIn, Submit, Fetch, Report, End, Evict, Demote, FlushOut, FlushIn, MetaIn}
use Rattle.core_state.specs.History.{Counts, counted_with, counts_from, entry_of, and_then, calls_of}
use Rattle.core_history.proofs.Numbers.{run_numbered, run_bounded}
use Rattle.system_state.specs.Jobs.{JobView}
use Rattle.system_state.specs.Cores.{core_of}
use Rattle.system_state.specs.Made.{counts_in}
use Rattle.system_state.specs.Stands.{Stands}
use Rattle.system_state.specs.declared.state.State.{State}
use Rattle.desk_turns.specs.Passing.{core_after, Turn}
use Rattle.desk_turns.proofs.Turning.{events_more}
use Rattle.event_turns.specs.Words.{IsAnswered, IsNumbered}

pub events_length : (h : List (Entry Event)) → length (events_of h) ≡ length h
events_length [] = refl
events_length (x ∷ xs) = let r = events_length xs in omega arith

one_call : (o : Option CallEntry) (xs : List CallEntry) → length (and_then o xs) ≤ length xs + 1
one_call None xs = omega arith
one_call (Some x) xs = omega arith

calls_fewer : (es : List Event) → length (calls_of es) ≤ length es
calls_fewer [] = omega arith
calls_fewer (e ∷ es) = let r = calls_fewer es in let s = one_call (entry_of e) (calls_of es) in omega arith

one_read : (e : Event) (c : Counts) → (counted_with e c).reads ≤ c.reads + 1
one_read (Enter lane) c = omega arith
one_read (Leave lane) c = omega arith
one_read (Quick lane request reply) c = omega arith
one_read (Skip lane request fault) c = omega arith
one_read (Copy actor lane i) c = omega arith
one_read (Take actor lane i) c = omega arith
one_read (DieOut actor die purpose) c = omega arith
one_read (FillIn actor die good) c = omega arith
one_read (Submit lane) c = omega arith
one_read (Fetch worker lane) c = omega arith
one_read (Report worker lane) c = omega arith
one_read (End lane request reply) c = omega arith
one_read (Evict actor side block) c = omega arith
one_read (Demote actor block) c = omega arith
one_read (FlushOut actor die block) c = omega arith
one_read (FlushIn actor die good left) c = omega arith
one_read (MetaIn actor die good left) c = omega arith
one_read (Begin lane request Host) c = omega arith
one_read (Begin lane request Drive) c = omega arith

reads_more : (es : List Event) (c : Counts) → (counts_from c es).reads ≤ c.reads + length es
reads_more [] c = omega arith
reads_more (e ∷ es) c = let r = reads_more es (counted_with e c) in let s = one_read e c in omega arith

if_one : (b : Bool) → one_if b ≤ 1
if_one true = omega arith
if_one false = omega arith

-- calls that began at either side
one_begun : (e : Event) (c : Counts) → ((counted_with e c).host ≤ c.host + 1) × ((counted_with e c).drive ≤ c.drive + 1)
one_begun (Enter lane) c = (omega arith, omega arith)
one_begun (Leave lane) c = (omega arith, omega arith)
one_begun (Quick lane request reply) c = (omega arith, omega arith)
one_begun (Skip lane request fault) c = (omega arith, omega arith)
one_begun (Copy actor lane i) c = (omega arith, omega arith)
one_begun (Take actor lane i) c = (omega arith, omega arith)
one_begun (DieOut actor die purpose) c = (omega arith, omega arith)
one_begun (FillIn actor die good) c = (omega arith, omega arith)
one_begun (Submit lane) c = (omega arith, omega arith)
one_begun (Fetch worker lane) c = (omega arith, omega arith)
one_begun (Report worker lane) c = (omega arith, omega arith)
one_begun (End lane request reply) c = (omega arith, omega arith)
one_begun (Evict actor side block) c = (omega arith, omega arith)
one_begun (Demote actor block) c = (omega arith, omega arith)
one_begun (FlushOut actor die block) c = (omega arith, omega arith)
one_begun (FlushIn actor die good left) c = (omega arith, omega arith)
one_begun (MetaIn actor die good left) c = (omega arith, omega arith)
one_begun (Begin lane request Host) c = let x = if_one (is_lambda request.call) in (omega arith, omega arith)
one_begun (Begin lane request Drive) c = let x = if_one (is_lambda request.call) in (omega arith, omega arith)

begun_more : (es : List Event) (c : Counts) → ((counts_from c es).host ≤ c.host + length es) × ((counts_from c es).drive ≤ c.drive + length es)
begun_more [] c = (omega arith, omega arith)
begun_more (e ∷ es) c =
    let r = begun_more es (counted_with e c) in
    let s = one_begun e c in
    let a = r.0 in
    let b = r.1 in
    let x = s.0 in
    let y = s.1 in
    (omega arith, omega arith)

calls_append : (es fs : List Event) → calls_of (es ++ fs) ≡ calls_of es ++ calls_of fs
calls_append [] fs = refl
calls_append (e ∷ es) fs = go (entry_of e) (calls_append es fs)
  where
    go : (o : Option CallEntry) → calls_of (es ++ fs) ≡ calls_of es ++ calls_of fs → and_then o (calls_of (es ++ fs)) ≡ and_then o (calls_of es) ++ calls_of fs
    go None r = r
    go (Some x) r = ap (λ z. x ∷ z) r

-- the number of the call that the event of a turn ends
pub numbered : {S : Type 0} → (core : S → Core) (o : Snapshot S) (v w : View (Snapshot S) Event) (P : Core → List Event → Type 0) (e : Event) (lane : ℕ) (call : Call) (n : Numbered) → (t : Turn core o v w P) → t.events ≡ e ∷ [] →
    IsAnswered (core_after core o (v.seen ++ t.between)) e lane call n → IsNumbered (core o.value).last (calls_of (events_of w.seen)) n.number (record { lane = lane; call = call; reply = n.reply })
numbered core o v w P e lane call n t is a =
    let h = v.seen ++ t.between in
    let x : CallEntry = record { lane = lane; call = call; reply = n.reply } in
    let events : events_of w.seen ≡ events_of h ++ e ∷ [] = ap events_of t.seen ∙ (events_more h v.number t.events ∙ ap (λ (z : List Event). events_of h ++ z) is) in
    let last : (core_after core o h).last ≡ (core o.value).last + length (calls_of (events_of h)) = run_numbered (events_of h) (core o.value) (core_after core o h) t.begins in
    record {
      before = calls_of (events_of h);
      split = ap calls_of events ∙ (calls_append (events_of h) (e ∷ []) ∙ ap (λ (z : Option CallEntry). calls_of (events_of h) ++ and_then z []) a.ends);
      number_is = a.number ∙ ap (λ (k : ℕ). k + 1) last;
    }

module _ {D J : Type 0} (seen : D → DieView) (suits : J → JobView → Type 0) where
  pub last_fits : (s o : State D J) (h : List (Entry Event)) → Stands seen suits s o h → o.last ≤ 2 ^ 62 → length h < 2 ^ 62 → s.last ≤ 2 ^ 64 - 3
  last_fits s o h k small few =
      let n : s.last ≡ o.last + length (calls_of (events_of h)) = run_numbered (events_of h) (core_of seen o) (core_of seen s) k.run in
      let m = calls_fewer (events_of h) in
      let l = events_length h in
      omega arith

  pub reads_fit : (s o : State D J) (h : List (Entry Event)) → Stands seen suits s o h → o.places.reads ≤ 2 ^ 62 → length h < 2 ^ 62 → s.places.reads ≤ 2 ^ 64 - 3
  reads_fit s o h k small few =
      let p : s.places.reads ≡ (counts_from (counts_in o.places) (events_of h)).reads = ap (λ (c : Counts). c.reads) k.places in
      let m = reads_more (events_of h) (counts_in o.places) in
      let l = events_length h in
      omega arith

  pub begun_fit : (s o : State D J) (h : List (Entry Event)) → Stands seen suits s o h → o.places.host ≤ 2 ^ 62 → o.places.drive ≤ 2 ^ 62 → length h < 2 ^ 62 → (s.places.host ≤ 2 ^ 64 - 3) × (s.places.drive ≤ 2 ^ 64 - 3)
  begun_fit s o h k host drive few =
      let p : s.places.host ≡ (counts_from (counts_in o.places) (events_of h)).host = ap (λ (c : Counts). c.host) k.places in
      let q : s.places.drive ≡ (counts_from (counts_in o.places) (events_of h)).drive = ap (λ (c : Counts). c.drive) k.places in
      let m = begun_more (events_of h) (counts_in o.places) in
      let x = m.0 in
      let y = m.1 in
      let l = events_length h in
      (omega arith, omega arith)

  pub versions_fit : (s o : State D J) (h : List (Entry Event)) → Stands seen suits s o h → ((b : ℕ) → b < o.sizes.blocks → (flags_at o.pair b).version ≤ 2 ^ 62) → length h < 2 ^ 62 → (b : ℕ) → b < s.sizes.blocks → (flags_at s.pair b).version ≤ 2 ^ 64 - 3
  versions_fit s o h k small few = λ b below.
      let m : (flags_at s.pair b).version ≤ (flags_at o.pair b).version + 2 * length (events_of h) = run_bounded (events_of h) (core_of seen o) (core_of seen s) k.run b in
      let v = small b (subst (λ (z : Sizes). b < z.blocks) k.sizes below) in
      let l = events_length h in
      omega arith
