-- Runs in which every call found memory, and what is printed of them.
use Rattle.std.proofs.Common.{◌≡◌, ℕ, zero, suc, Bool, true, false, List, [], ◌∷◌, length, refl, sym, ap, ◌∙◌, subst, arith}
use Rattle.std.proofs.lemmas.List.{length-map}
use Rattle.plain_files.specs.History.{Entry}
use Rattle.script_words.specs.declared.script.FaultLine.{FaultLine}
use Rattle.script_words.specs.declared.script.Lane.{Lane}
use Rattle.script_words.specs.declared.script.Script.{Script as ScriptLines}
use Rattle.script_words.specs.Lanes.{names, requests}
use Rattle.command_words.specs.declared.options.DieKind.TheVariants.{Ftl}
use Rattle.dispatcher.specs.declared.side.Place.TheVariants.{Auto}
use Rattle.image_format.specs.declared.meta.Meta.{Meta}
use Rattle.core_state.specs.declared.event.Event.{Event}
use Rattle.core_state.specs.declared.event.Event.TheVariants.{Quick, Skip, End}
use Rattle.core_state.specs.State.{Page, Core}
use Rattle.core_state.specs.Coherent.{Coherent}
use Rattle.core_state.specs.History.{calls_of, counts_of}
use Rattle.core_solo.specs.Alone.{OpeningFrames}
use Rattle.core_solo.specs.Settling.{IsFresh}
use Rattle.core_solo.specs.Served.{FollowLines, AreFed, starved_of}
use Rattle.core_solo.specs.Solo.{Script, SoloRun}
use Rattle.core_solo.proofs.Whole.{run_follows}
use Rattle.core_plans.specs.Lines.{FailAsTold}
use Rattle.core_plans.proofs.Unfaulted.{same_unfaulted}
use Rattle.system_metas.specs.Encode.{encode}
use Rattle.mounted_systems.specs.Dealt.{opening_of}
use Rattle.drive_runs.specs.Lines.{script_of}
use Rattle.bench_runs.specs.Benched.{bench_lines, HasBenched}

-- so many calls that found memory
abbrev all_fed : ℕ → List Bool
all_fed zero = []
all_fed (suc n) = false ∷ all_fed n

none_starved : (es : List Event) → AreFed (calls_of es) → starved_of es ≡ all_fed (length (calls_of es))
none_starved [] fed = refl
none_starved (Quick lane request reply ∷ es) fed = ap (λ (bs : List Bool). false ∷ bs) (none_starved es fed.1)
none_starved (Skip lane request true ∷ es) fed = ap (λ (bs : List Bool). false ∷ bs) (none_starved es fed.1)
none_starved (Skip lane request false ∷ es) fed = let k = fed.0 in absurd (cc)
none_starved (End lane request reply ∷ es) fed = ap (λ (bs : List Bool). false ∷ bs) (none_starved es fed.1)
none_starved (_ ∷ es) fed = none_starved es fed

follow_long : (script : Script) (lines : List (ℕ × ℕ)) (h : List Entry) → FollowLines script lines h → length h ≡ length lines
follow_long script [] h f = ap length f
follow_long script (line ∷ lines) h f = ap length f.2 ∙ ap suc (follow_long script lines f.1 f.4)

-- Of a script without fault lines there is one run from the opening core of an image in which every call finds memory.
pub one_run : (meta : Meta) (pages : List Page) (script : ScriptLines) (c1 c2 : Core) (es fs : List Event) → script.faults ≡ [] → Coherent (opening_of meta pages (length script.lanes) Auto) →
    SoloRun encode (opening_of meta pages (length script.lanes) Auto) (script_of script) false es c1 → FailAsTold Ftl script.faults es → AreFed (calls_of es) →
    SoloRun encode (opening_of meta pages (length script.lanes) Auto) (script_of script) false fs c2 → FailAsTold Ftl script.faults fs → AreFed (calls_of fs) → es ≡ fs
one_run meta pages script c1 c2 es fs none h a pa fa b pb fb =
    let opening : Core = opening_of meta pages (length script.lanes) Auto in
    let s = script_of script in
    let frames : OpeningFrames opening.shape = record { host = refl; drive = refl } in
    let wide : length (requests script) ≡ opening.shape.lanes = length-map script.lanes (λ (lane : Lane). lane.requests) in
    let fresh : IsFresh opening = record { still = λ l. refl; home = λ die. refl; closer = omega arith } in
    let long = follow_long s s.order (calls_of es) (run_follows encode opening c1 s false es frames wide h fresh a) in
    let long2 = follow_long s s.order (calls_of fs) (run_follows encode opening c2 s false fs frames wide h fresh b) in
    let starved : starved_of es ≡ starved_of fs = none_starved es fa ∙ (ap all_fed (long ∙ sym long2) ∙ sym (none_starved fs fb)) in
    same_unfaulted encode Ftl opening c1 c2 s false es fs frames wide h fresh
    a (subst (λ (xs : List FaultLine). FailAsTold Ftl xs es) none pa)
    b (subst (λ (xs : List FaultLine). FailAsTold Ftl xs fs) none pb) starved

pub one_text : (meta : Meta) (pages : List Page) (script : ScriptLines) (start calls : ℕ) (text other : List ℕ) → script.faults ≡ [] →
    HasBenched meta pages script start calls text → HasBenched meta pages script start calls other → text ≡ other
one_text meta pages script start calls text other none a b =
    let same = one_run meta pages script a.ran.core b.ran.core a.ran.events b.ran.events none a.ran.coherent a.ran.run a.ran.failed a.fed b.ran.run b.ran.failed b.fed in
    a.lines ∙ (ap (λ (es : List Event). bench_lines (names script) start calls (calls_of es) (counts_of es)) same ∙ sym b.lines)
