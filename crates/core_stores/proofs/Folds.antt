-- Runs: each event keeps a core coherent, and the calls of a run are legal on plain files.
use Rattle.std.proofs.Common.{List, [], ◌∷◌, ◌++◌, Option, Some, None, refl, sym, ap, subst, inl, inr, ⊎_elim}
use Rattle.core_hold.specs.PlainFilesHistory.{Entry, Legal}
use Rattle.core_hold.specs.Plain.{State}
use Rattle.core_hold.specs.Event.{Event}
use Rattle.core_hold.specs.Event.TheVariants.{Enter, Leave, Quick, Skip, Begin, Copy, Take, DieOut, FillIn, Submit, Fetch, Report, End, Evict, Demote, FlushOut, FlushIn, MetaIn}
use Rattle.core_hold.specs.State.{Core}
use Rattle.core_hold.specs.PlainOf.{plain}
use Rattle.core_hold.specs.Coherent.{Coherent}
use Rattle.core_hold.specs.Happens.{after, Happens, CoreRun}
use Rattle.core_hold.specs.History.{and_then, entry_of, calls_of}
use Rattle.core_hold.proofs.Beginning.{begin_keeps}
use Rattle.core_hold.proofs.Idle.{enter_keeps, leave_keeps, skip_keeps}
use Rattle.core_hold.proofs.Metas.{meta_in_keeps}
use Rattle.core_hold.proofs.CoreLanesOutward.{flush_out_keeps, die_out_keeps}
use Rattle.core_hold.proofs.CoreLanesPhases.{submit_keeps, fetch_keeps, report_keeps}
use Rattle.core_ends.proofs.Copy.{copy_keeps}
use Rattle.core_ends.proofs.FillIn.{fill_in_keeps}
use Rattle.core_ends.proofs.FlushIn.{flush_in_keeps}
use Rattle.core_ends.proofs.Idle.{evict_keeps, demote_keeps}
use Rattle.core_ends.proofs.Take.{take_keeps}
use Rattle.core_hold.proofs.Quick.{quick_keeps}
use Rattle.core_stores.proofs.Legal.{event_legal}
use Rattle.core_stores.proofs.Ends.{end_keeps}

pub event_keeps : (e : Event) (c : Core) → Coherent c → Happens c e (after c e) → Coherent (after c e)
event_keeps (Enter lane) c h s = enter_keeps c lane h s.may
event_keeps (Leave lane) c h s = leave_keeps c lane h (s.hands refl) s.may
event_keeps (Quick lane request reply) c h s = quick_keeps c lane request reply h s.may
event_keeps (Skip lane request fault) c h s = skip_keeps c lane request fault h s.may
event_keeps (Begin lane request side) c h s = begin_keeps c lane request side h (s.hands refl) s.may
event_keeps (Copy actor lane i) c h s = copy_keeps c actor lane i h (s.hands refl) s.may
event_keeps (Take actor lane i) c h s = take_keeps c actor lane i h (s.hands refl) s.may
event_keeps (DieOut actor die purpose) c h s = die_out_keeps actor die purpose c (after c (DieOut actor die purpose)) h s
event_keeps (FillIn actor die good) c h s = fill_in_keeps c actor die good h s.may
event_keeps (Submit lane) c h s = submit_keeps c lane h (s.hands refl) s.may
event_keeps (Fetch worker lane) c h s = fetch_keeps c worker lane h s.may
event_keeps (Report worker lane) c h s = report_keeps c worker lane h (s.hands refl) s.may
event_keeps (End lane request reply) c h s = end_keeps c lane request reply h (s.hands refl) s.may
event_keeps (Evict actor side block) c h s = evict_keeps c side block h s.may
event_keeps (Demote actor block) c h s = demote_keeps c block h s.may
event_keeps (FlushOut actor die block) c h s = flush_out_keeps c actor die block h (s.hands refl) s.may
event_keeps (FlushIn actor die good left) c h s = flush_in_keeps c actor die good left h s.may
event_keeps (MetaIn actor die good left) c h s = meta_in_keeps c actor die good left h s.may

pub run_keeps : (c0 c1 : Core) (events : List Event) → Coherent c0 → CoreRun c0 events c1 → Coherent c1
run_keeps c0 c1 [] h r = subst Coherent (sym r) h
run_keeps c0 c1 (e ∷ es) h r = run_keeps (after c0 e) c1 es (event_keeps e c0 h r.0) r.1

legal_append : (xs ys : List Entry) (s t u : State) → Legal s xs t → Legal t ys u → Legal s (xs ++ ys) u
legal_append [] ys s t u h k = subst (λ (w : State). Legal w ys u) (sym h) k
legal_append (x ∷ xs) ys s t u h k = ⊎_elim (λ a. inl (a.0, legal_append xs ys _ t u a.1 k)) (λ b. inr (b.0, legal_append xs ys s t u b.1 k)) h

legal_then : (o : Option Entry) (ys : List Entry) (s t u : State) → Legal s (and_then o []) t → Legal t ys u → Legal s (and_then o ys) u
legal_then None ys s t u h k = legal_append [] ys s t u h k
legal_then (Some x) ys s t u h k = legal_append (x ∷ []) ys s t u h k

pub run_legal : (c0 c1 : Core) (events : List Event) → Coherent c0 → CoreRun c0 events c1 → Legal (plain c0) (calls_of events) (plain c1)
run_legal c0 c1 [] h r = ap plain (sym r)
run_legal c0 c1 (e ∷ es) h r = legal_then (entry_of e) (calls_of es) (plain c0) (plain (after c0 e)) (plain c1) (event_legal c0 (after c0 e) e h r.0) (run_legal (after c0 e) c1 es (event_keeps e c0 h r.0) r.1)
