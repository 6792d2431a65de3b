-- Two runs of one thread with the same answers are the same, where each answer is told by what the dies have answered before, in any form.
use Rattle.std.proofs.Common.{◌≡◌, ℕ, ◌<◌, Bool, true, false, List, [], ◌∷◌, ◌++◌, Some, None, length, refl, sym, ap, ◌∙◌, subst, ⊎_elim}
use Rattle.std.specs.Prelude.{is_some, IfSome}
use Rattle.plain_files.specs.declared.calls.Request.{Request}
use Rattle.core_state.specs.declared.event.Event.{Event}
use Rattle.core_state.specs.declared.event.Event.TheVariants.{Skip}
use Rattle.core_state.specs.State.{Page, Shape, Out, Core}
use Rattle.core_state.specs.Coherent.{Coherent}
use Rattle.core_state.specs.Happens.{CoreRun, Happens, May, is_homecoming, after, after_all}
use Rattle.core_state.specs.History.{request_of, is_failure}
use Rattle.core_solo.specs.Solo.{Steps, IsNext, IsStep, SoloCall, SoloAnswer, SoloLines, Script, request_at, enters, leaves, IsSyncNext, SoloSync, SoloEnd, SoloRun}
use Rattle.core_solo.specs.Alone.{OpeningFrames, IsAtRest, IsAlone}
use Rattle.core_solo.specs.Settling.{IsSettling, IsFresh}
use Rattle.core_solo.specs.Served.{starved_of, told_by}
use Rattle.core_lemmas.proofs.Words.{same_some}
use Rattle.core_stores.proofs.Folds.{run_keeps}
use Rattle.core_solo.proofs.Bounds.{run_begins}
use Rattle.core_solo.proofs.Rests.{shape_all, rest_alone}
use Rattle.core_solo.proofs.Calls.{free, answer_rest, line_low}
use Rattle.core_solo.proofs.Closing.{step_settles}
use Rattle.core_solo.proofs.Folds.{after_both}
use Rattle.core_solo.proofs.Same.{same_next}
use Rattle.core_solo.proofs.Steps.{fits_of, alone_after}
use Rattle.core_solo.proofs.Alike.{stored_ends}
use Rattle.core_solo.proofs.Whole.{parts_of}
use Rattle.core_plans.proofs.Answers.{way_of, one_way, tells, one_answer}
use Rattle.core_plans.proofs.Starved.{starved_both, call_fed, heads, starved_lines}
use Rattle.core_plans.proofs.Syncs.{same_sync_next, FirstOf, first_of, none_of}

-- what is told of the answers decides them: of two events that may happen in one core, and bring the same die home the same way
abbrev pub Decides : {S : Type 0} → (S → Event → Type 0) → Type 0
Decides {S} Fits = (s : S) (c : Core) (e f : Event) → May c e → May c f → is_homecoming e ≡ true → is_homecoming f ≡ true → way_of e ≡ way_of f → Fits s e → Fits s f → told_by e ≡ told_by f

answers_not : (e f : Event) → e ≡ f → request_of e ≡ None → is_some (request_of f) ≡ true → ⊥
answers_not e f s n a = let k : is_some (request_of f) ≡ false = ap (λ (g : Event). is_some (request_of g)) (sym s) ∙ ap is_some n in cc

module _ {S : Type 0} (next : S → Event → S) (Fits : S → Event → Type 0) (decides : Decides Fits) where
  abbrev pub AsSaid : S → List Event → Type 0
  AsSaid s [] = Unit {0}
  AsSaid s (e ∷ es) = Fits s e × AsSaid (next s e) es

  -- after these events
  abbrev pub later : S → List Event → S
  later s [] = s
  later s (e ∷ es) = later (next s e) es

  said_both : (xs ys : List Event) (s : S) → AsSaid s (xs ++ ys) → AsSaid s xs × AsSaid (later s xs) ys
  said_both [] ys s t = (tt, t)
  said_both (x ∷ xs) ys s t = let r = said_both xs ys (next s x) t.1 in ((t.0, r.0), r.1)

  -- two events that happen in one core, with one die out at most, have one answer
  agree : (s : S) (c : Core) (e f : Event) → ((d k : ℕ) (x y : Out) → (c.dies d).out ≡ Some x → (c.dies k).out ≡ Some y → (d ≡ k) × (x ≡ y)) → May c e → May c f → Fits s e → Fits s f →
      (a : Bool × List ℕ) × IfSome (told_by e) (λ b. b ≡ a) × IfSome (told_by f) (λ b. b ≡ a)
  agree s c e f one m n te tf = one_answer (told_by e) (told_by f)
      (λ p q. let u = sym (tells e) ∙ p in let v = sym (tells f) ∙ q in decides s c e f m n u v (one_way c one e f m n u v) te tf)

  one_out : (c : Core) (lane : ℕ) (request : Request) → Coherent c → IsAlone c lane request → (d k : ℕ) (x y : Out) → (c.dies d).out ≡ Some x → (c.dies k).out ≡ Some y → (d ≡ k) × (x ≡ y)
  one_out c lane request h alone d k x y p q =
      let s = h.dies.one_each d k x y p q (alone.holder d x p ∙ sym (alone.holder k y q)) in
      (s, same_some (c.dies k).out x y (ap (λ (w : ℕ). (c.dies w).out) (sym s) ∙ p) q)

  -- one next event
  same_said : (encode : Core → ℕ → Page) (c : Core) (lane : ℕ) (request asked : Request) (s : S) (e f : Event) → Coherent c → IsAlone c lane request → IsNext encode lane asked c e → IsNext encode lane asked c f → Happens c e (after c e) → Happens c f (after c f) →
      Fits s e → Fits s f → e ≡ f
  same_said encode c lane request asked s e f h alone ne nf se sf te tf =
      let k = agree s c e f (one_out c lane request h alone) se.may sf.may te tf in
      same_next encode c lane request asked k.0 e f h alone ne nf se sf k.1 k.2

  same_events : (encode : Core → ℕ → Page) (m n : List Event) (x y : Event) (s : S) (c c1 c2 : Core) (lane : ℕ) (request asked : Request) → Coherent c → IsAlone c lane request →
      Steps (IsStep encode lane asked) c m → IsNext encode lane asked (after_all c m) x → is_some (request_of x) ≡ true → CoreRun c (m ++ x ∷ []) c1 → AsSaid s (m ++ x ∷ []) →
      Steps (IsStep encode lane asked) c n → IsNext encode lane asked (after_all c n) y → is_some (request_of y) ≡ true → CoreRun c (n ++ y ∷ []) c2 → AsSaid s (n ++ y ∷ []) → m ++ x ∷ [] ≡ n ++ y ∷ []
  same_events encode [] [] x y s c c1 c2 lane request asked h alone sm nx ax rx tx sn ny ay ry ty =
      ap (λ (e : Event). e ∷ []) (same_said encode c lane request asked s x y h alone nx ny rx.0 ry.0 tx.0 ty.0)
  same_events encode [] (f ∷ n) x y s c c1 c2 lane request asked h alone sm nx ax rx tx sn ny ay ry ty =
      absurd (answers_not f x (sym (same_said encode c lane request asked s x f h alone nx sn.0.next rx.0 ry.0 tx.0 ty.0)) sn.0.open_still ax)
  same_events encode (e ∷ m) [] x y s c c1 c2 lane request asked h alone sm nx ax rx tx sn ny ay ry ty =
      absurd (answers_not e y (same_said encode c lane request asked s e y h alone sm.0.next ny rx.0 ry.0 tx.0 ty.0) sm.0.open_still ay)
  same_events encode (e ∷ m) (f ∷ n) x y s c c1 c2 lane request asked h alone sm nx ax rx tx sn ny ay ry ty =
      let w = same_said encode c lane request asked s e f h alone sm.0.next sn.0.next rx.0 ry.0 tx.0 ty.0 in
      let a2 = alone_after e c lane request h alone (fits_of encode c lane asked e sm.0.next) rx.0 sm.0.open_still in
      let h2 = run_keeps c (after c e) (e ∷ []) h (rx.0, refl) in
      let rest = same_events encode m n x y (next s e) (after c e) c1 c2 lane request asked h2 a2 sm.1 nx ax rx.1 tx.1
      (subst (λ (g : Event). Steps (IsStep encode lane asked) (after c g) n) (sym w) sn.1)
      (subst (λ (g : Event). IsNext encode lane asked (after_all (after c g) n) y) (sym w) ny) ay
      (subst (λ (g : Event). CoreRun (after c g) (n ++ y ∷ []) c2) (sym w) ry.1)
      (subst (λ (g : Event). AsSaid (next s g) (n ++ y ∷ [])) (sym w) ty.1) in
      ap (λ (xs : List Event). e ∷ xs) rest ∙ ap (λ (g : Event). g ∷ n ++ y ∷ []) w

  -- the lane is alone for some request
  call_alike : (encode : Core → ℕ → Page) (s : S) (c c1 c2 : Core) (lane : ℕ) (asked : Request) (es fs : List Event) → {request : Request} → Coherent c → IsAlone c lane request → SoloCall encode c lane asked es → CoreRun c es c1 → AsSaid s es →
      SoloCall encode c lane asked fs → CoreRun c fs c2 → AsSaid s fs → es ≡ fs
  call_alike encode s c c1 c2 lane asked es fs {request} h alone a ra ta b rb tb =
      a.whole ∙ (same_events encode a.most b.most a.last b.last s c c1 c2 lane request asked h alone
      a.steps a.next a.answers (subst (λ (xs : List Event). CoreRun c xs c1) a.whole ra) (subst (AsSaid s) a.whole ta)
      b.steps b.next b.answers (subst (λ (xs : List Event). CoreRun c xs c2) b.whole rb) (subst (AsSaid s) b.whole tb) ∙ sym b.whole)

  answers_same : (encode : Core → ℕ → Page) (s : S) (c c1 c2 : Core) (lane : ℕ) (asked : Request) (own own2 rest rest2 : List Event) → Coherent c → IsAtRest c → lane < c.shape.lanes →
      SoloAnswer encode c lane asked own → CoreRun c own c1 → AsSaid s own → SoloAnswer encode c lane asked own2 → CoreRun c own2 c2 → AsSaid s own2 →
      starved_of (own ++ rest) ≡ starved_of (own2 ++ rest2) → (own ≡ own2) × (starved_of rest ≡ starved_of rest2)
  answers_same encode s c c1 c2 lane asked own own2 rest rest2 h still within a ra ta b rb tb same = ⊎_elim
      (λ (u : own ≡ Skip lane asked false ∷ []). ⊎_elim
      (λ (t : own2 ≡ Skip lane asked false ∷ []). (u ∙ sym t, (both true true (ap starved_of u) (ap starved_of t)).1))
      (λ (t : SoloCall encode c lane asked own2). absurd (let q = (both true false (ap starved_of u) (call_fed encode own2 c c2 lane asked h still t rb)).0 in cc)) b)
      (λ (u : SoloCall encode c lane asked own). ⊎_elim
      (λ (t : own2 ≡ Skip lane asked false ∷ []). absurd (let q = (both false true (call_fed encode own c c1 lane asked h still u ra) (ap starved_of t)).0 in cc))
      (λ (t : SoloCall encode c lane asked own2).
      let q = both false false (call_fed encode own c c1 lane asked h still u ra) (call_fed encode own2 c c2 lane asked h still t rb) in
      (calls_same u t, q.1)) b) a
    where
      both : (x y : Bool) → starved_of own ≡ x ∷ [] → starved_of own2 ≡ y ∷ [] → (x ≡ y) × (starved_of rest ≡ starved_of rest2)
      both x y p q = heads x y (starved_of rest) (starved_of rest2)
          (sym (ap (λ (bs : List Bool). bs ++ starved_of rest) p) ∙ (sym (starved_both own rest) ∙ (same ∙ (starved_both own2 rest2 ∙ ap (λ (bs : List Bool). bs ++ starved_of rest2) q))))

      calls_same : SoloCall encode c lane asked own → SoloCall encode c lane asked own2 → own ≡ own2
      calls_same u t = call_alike encode s c c1 c2 lane asked own own2 h (rest_alone c lane (free asked) still within tt) u ra ta t rb tb

  lines_same : (encode : Core → ℕ → Page) (script : Script) (lines : List (ℕ × ℕ)) (s : S) (es fs : List Event) (c c1 c2 : Core) → OpeningFrames c.shape → length script.lanes ≡ c.shape.lanes → Coherent c → IsAtRest c →
      SoloLines encode c script lines es → CoreRun c es c1 → AsSaid s es → SoloLines encode c script lines fs → CoreRun c fs c2 → AsSaid s fs → starved_of es ≡ starved_of fs → es ≡ fs
  lines_same encode script [] s es fs c c1 c2 f wide h rest a ra ta b rb tb same = a ∙ sym b
  lines_same encode script (line ∷ more) s es fs c c1 c2 f wide h rest a ra ta b rb tb same =
      let pa = run_begins a.0 a.1 c c1 (subst (λ (xs : List Event). CoreRun c xs c1) a.2 ra) in
      let pb = run_begins b.0 b.1 c c2 (subst (λ (xs : List Event). CoreRun c xs c2) b.2 rb) in
      let qa = said_both a.0 a.1 s (subst (AsSaid s) a.2 ta) in
      let qb = said_both b.0 b.1 s (subst (AsSaid s) b.2 tb) in
      let z = shape_all a.0 c in
      let within : line.0 < c.shape.lanes = subst (λ (n : ℕ). line.0 < n) wide (line_low script.lanes line (a.3).request (a.3).asks) in
      let r : (b.3).request ≡ (a.3).request = same_some (request_at script line) (b.3).request (a.3).request (b.3).asks (a.3).asks in
      let one = answers_same encode s c (after_all c a.0) (after_all c b.0) line.0 (a.3).request a.0 b.0 a.1 b.1 h rest within (a.3).answered pa.0 qa.0
      (subst (λ (w : Request). SoloAnswer encode c line.0 w b.0) r (b.3).answered) pb.0 qb.0 (sym (ap starved_of a.2) ∙ (same ∙ ap starved_of b.2)) in
      let own = one.0 in
      let first = answer_rest encode a.0 c (after_all c a.0) line.0 (a.3).request f h rest within (a.3).answered pa.0 in
      let rest2 = lines_same encode script more (later s a.0) a.1 b.1 (after_all c a.0) c1 c2 (subst OpeningFrames (sym z) f) (wide ∙ ap (λ (w : Shape). w.lanes) (sym z)) (run_keeps c (after_all c a.0) a.0 h pa.0) first.0
      a.4 pa.1 qa.1
      (subst (λ (xs : List Event). SoloLines encode (after_all c xs) script more b.1) (sym own) b.4)
      (subst (λ (xs : List Event). CoreRun (after_all c xs) b.1 c2) (sym own) pb.1)
      (subst (λ (xs : List Event). AsSaid (later s xs) b.1) (sym own) qb.1) one.1 in
      a.2 ∙ (ap (λ (xs : List Event). xs ++ a.1) own ∙ (ap (λ (xs : List Event). b.0 ++ xs) rest2 ∙ sym b.2))

  same_sync_said : (encode : Core → ℕ → Page) (c : Core) (s : S) (e f : Event) → Coherent c → IsSettling c → IsSyncNext encode c e → IsSyncNext encode c f → Happens c e (after c e) → Happens c f (after c f) → Fits s e → Fits s f → e ≡ f
  same_sync_said encode c s e f h k ne nf se sf te tf =
      let a = agree s c e f one se.may sf.may te tf in
      same_sync_next encode c a.0 e f h k ne nf se sf a.1 a.2
    where
      one : (d i : ℕ) (x y : Out) → (c.dies d).out ≡ Some x → (c.dies i).out ≡ Some y → (d ≡ i) × (x ≡ y)
      one d i x y p q =
          let w = h.dies.one_each d i x y p q (k.holder d x p ∙ sym (k.holder i y q)) in
          (w, same_some (c.dies i).out x y (ap (λ (j : ℕ). (c.dies j).out) (sym w) ∙ p) q)

  sync_same : (encode : Core → ℕ → Page) (es fs : List Event) (k : S) (c c1 c2 : Core) → Coherent c → IsSettling c → SoloSync encode c es → CoreRun c es c1 → AsSaid k es → SoloSync encode c fs → CoreRun c fs c2 → AsSaid k fs → es ≡ fs
  sync_same encode [] [] k c c1 c2 h s a ra ta b rb tb = refl
  sync_same encode [] (f ∷ fs) k c c1 c2 h s a ra ta b rb tb = absurd (stored_ends encode c f h s (none_of encode c a) (first_of encode c f fs b).next rb.0)
  sync_same encode (e ∷ es) [] k c c1 c2 h s a ra ta b rb tb = absurd (stored_ends encode c e h s (none_of encode c b) (first_of encode c e es a).next ra.0)
  sync_same encode (e ∷ es) (f ∷ fs) k c c1 c2 h s a ra ta b rb tb =
      let x = first_of encode c e es a in
      let y = first_of encode c f fs b in
      let q : e ≡ f = same_sync_said encode c k e f h s x.next y.next ra.0 rb.0 ta.0 tb.0 in
      go x y q
      (λ good one. sync_same encode es fs (next k e) (after c e) c1 c2 (run_keeps c (after c e) (e ∷ []) h (ra.0, refl)) (step_settles encode c e h s (record { next = x.next; good = good }) ra.0).settling
      one.0 ra.1 ta.1 one.1 (subst (λ (g : Event). CoreRun (after c g) fs c2) (sym q) rb.1) (subst (λ (g : Event). AsSaid (next k g) fs) (sym q) tb.1))
    where
      go : FirstOf encode c e es → FirstOf encode c f fs → e ≡ f → (is_failure e ≡ false → SoloSync encode (after c e) es × SoloSync encode (after c e) fs → es ≡ fs) → e ∷ es ≡ f ∷ fs
      go x y q more = ⊎_elim
          (λ u. ⊎_elim
          (λ v. ap (λ (g : Event). g ∷ es) q ∙ ap (λ (xs : List Event). f ∷ xs) (u.1 ∙ sym v.1))
          (λ v. absurd (let z = ap is_failure q in let m = u.0 in let n = v.0 in cc)) y.later)
          (λ u. ⊎_elim
          (λ v. absurd (let z = ap is_failure q in let m = u.0 in let n = v.0 in cc))
          (λ v. ap (λ (g : Event). g ∷ es) q ∙ ap (λ (xs : List Event). f ∷ xs) (more u.0 (u.1, subst (λ (g : Event). SoloSync encode (after c g) fs) (sym q) v.1))) y.later) x.later

  pub run_same : (encode : Core → ℕ → Page) (s : S) (c0 c1 c2 : Core) (script : Script) (last : Bool) (es fs : List Event) → OpeningFrames c0.shape → length script.lanes ≡ c0.shape.lanes → Coherent c0 → IsFresh c0 →
      SoloRun encode c0 script last es c1 → AsSaid s es → SoloRun encode c0 script last fs c2 → AsSaid s fs → starved_of es ≡ starved_of fs → es ≡ fs
  run_same encode s c0 c1 c2 script last es fs f wide h fresh a ta b tb same =
      let n = c0.shape.lanes in
      let p = parts_of encode c0 c1 script a.lines a.settling f wide h fresh a.calls (subst (λ (xs : List Event). CoreRun c0 xs c1) a.parts a.run) in
      let q = parts_of encode c0 c2 script b.lines b.settling f wide h fresh b.calls (subst (λ (xs : List Event). CoreRun c0 xs c2) b.parts b.run) in
      let ua = said_both (enters n) (a.lines ++ (leaves n ++ a.settling)) s (subst (AsSaid s) a.parts ta) in
      let ub = said_both (enters n) (b.lines ++ (leaves n ++ b.settling)) s (subst (AsSaid s) b.parts tb) in
      let k = later s (enters n) in
      let va = said_both a.lines (leaves n ++ a.settling) k ua.1 in
      let vb = said_both b.lines (leaves n ++ b.settling) k ub.1 in
      let starts : q.start ≡ p.start = q.entered ∙ sym p.entered in
      let lines : a.lines ≡ b.lines = lines_same encode script script.order k a.lines b.lines p.start (after_all p.start a.lines) (after_all p.start b.lines) p.frames p.wide p.coherent p.rest
      (subst (λ (w : Core). SoloLines encode w script script.order a.lines) (sym p.entered) a.calls) p.lines_run va.0
      (subst (λ (w : Core). SoloLines encode w script script.order b.lines) (sym p.entered) b.calls) (subst (λ (w : Core). CoreRun w b.lines (after_all w b.lines)) starts q.lines_run) vb.0
      (sym (starved_lines encode c0 c1 script last es a) ∙ (same ∙ starved_lines encode c0 c2 script last fs b)) in
      let wa = said_both (leaves n) a.settling (later k a.lines) va.1 in
      let wb = said_both (leaves n) b.settling (later k b.lines) vb.1 in
      let ends : q.end ≡ p.end = q.left ∙ (ap (λ (w : Core). after_all (after_all w b.lines) (leaves n)) starts ∙ (ap (λ (xs : List Event). after_all (after_all p.start xs) (leaves n)) (sym lines) ∙ sym p.left)) in
      let at : p.end ≡ after_all c0 (enters n ++ (a.lines ++ leaves n)) =
      p.left ∙ (ap (λ (w : Core). after_all (after_all w a.lines) (leaves n)) p.entered
      ∙ (sym (after_both a.lines (leaves n) (after_all c0 (enters n))) ∙ sym (after_both (enters n) (a.lines ++ leaves n) c0))) in
      let settling : a.settling ≡ b.settling = settled last p.end at p.end_coherent p.settles (later (later k a.lines) (leaves n)) a.settling b.settling a.ending p.settling_run wa.1
      (subst (λ (xs : List Event). SoloEnd encode last (after_all c0 (enters n ++ (xs ++ leaves n))) b.settling) (sym lines) b.ending) (subst (λ (w : Core). CoreRun w b.settling c2) ends q.settling_run)
      (subst (λ (xs : List Event). AsSaid (later (later k xs) (leaves n)) b.settling) (sym lines) wb.1) in
      a.parts ∙ (ap (λ (xs : List Event). enters n ++ (xs ++ (leaves n ++ a.settling))) lines ∙ (ap (λ (xs : List Event). enters n ++ (b.lines ++ (leaves n ++ xs))) settling ∙ sym b.parts))
    where
      settled : (t : Bool) (end : Core) → end ≡ after_all c0 (enters c0.shape.lanes ++ (a.lines ++ leaves c0.shape.lanes)) → Coherent end → IsSettling end → (k : S) (xs ys : List Event) →
          SoloEnd encode t (after_all c0 (enters c0.shape.lanes ++ (a.lines ++ leaves c0.shape.lanes))) xs → CoreRun end xs c1 → AsSaid k xs → SoloEnd encode t (after_all c0 (enters c0.shape.lanes ++ (a.lines ++ leaves c0.shape.lanes))) ys → CoreRun end ys c2 → AsSaid k ys → xs ≡ ys
      settled true end at h z k xs ys x rx tx y ry ty = sync_same encode xs ys k end c1 c2 h z (subst (λ (w : Core). SoloSync encode w xs) (sym at) x) rx tx (subst (λ (w : Core). SoloSync encode w ys) (sym at) y) ry ty
      settled false end at h z k xs ys x rx tx y ry ty = x ∙ sym y
