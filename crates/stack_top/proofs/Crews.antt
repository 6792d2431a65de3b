-- The crew of a `run` has few threads.
use Rattle.std.proofs.Common.{◌≡◌, ◌≤◌, ◌<◌, ℕ, ◌+◌, ◌^◌, List, [], ◌∷◌, Bool, true, false, bytes_eq, Option, Some, None, refl, ap, subst, arith}
use Rattle.std.specs.Prelude.{codes, if◌then◌else◌, option_and_then}
use Rattle.command_words.specs.declared.command.Command.{Command}
use Rattle.command_words.specs.declared.command.Command.TheVariants as command
use Rattle.command_words.specs.declared.command.Quiet.{Quiet}
use Rattle.command_words.specs.declared.command.Run.{Run}
use Rattle.command_words.specs.declared.command.Scan.{Scan}
use Rattle.command_words.specs.declared.options.Crew.{Crew}
use Rattle.command_words.specs.declared.options.Setup.{Setup}
use Rattle.command_words.specs.Commands.{run_named, run_of, asked_scan, asked_run, asked_quiet, quiet_named, scan_of, command_of}
use Rattle.command_words.specs.Options.{crew, crew_of, said, given, both, are_options, run_options, setup_of}
use Rattle.command_words.specs.Places.{within, number_in, are_files}
use Rattle.sbpf_text.specs.Numbers.{decimal_number}

within_high : (low high n m : ℕ) → within low high n ≡ Some m → m ≤ high
within_high low high n m is = grind (arith, is)

number_high : (low high : ℕ) (read : Option ℕ) (m : ℕ) → option_and_then (within low high) read ≡ Some m → m ≤ high
number_high low high None m is = cc
number_high low high (Some n) m is = within_high low high n m is

said_high : (low high default : ℕ) (word : Option (List ℕ)) (m : ℕ) → default ≤ high → said (number_in low high) default word ≡ Some m → m ≤ high
said_high low high default None m few is = grind (arith, few, is)
said_high low high default (Some word) m few is = number_high low high (decimal_number word) m is

-- few threads serve the drive
abbrev IsFew : Crew → Type 0
IsFew c = c.workers + c.flushers < 2 ^ 32

crew_few : (workers flushers : Option ℕ) (c : Crew) → ((w : ℕ) → workers ≡ Some w → w ≤ 8) → ((f : ℕ) → flushers ≡ Some f → f ≤ 4) → crew workers flushers ≡ Some c → IsFew c
crew_few None flushers c high less is = cc
crew_few (Some w) None c high less is = cc
crew_few (Some w) (Some f) c high less is =
    let a : w ≤ 8 = high w refl in
    let b : f ≤ 4 = less f refl in
    let few : IsFew (record { workers = w; flushers = f }) = omega (arith, a, b) in
    let same : (record { workers = w; flushers = f }) ≡ c = cc in
    subst IsFew same few

some_crew : (words : List (List ℕ)) (c : Crew) → crew_of words ≡ Some c → IsFew c
unfolding crew_of
some_crew words c is =
    crew_few (said (number_in 1 8) 2 (given (codes "--workers") words)) (said (number_in 0 4) 1 (given (codes "--flushers") words)) c
    (λ w. said_high 1 8 2 (given (codes "--workers") words) w (omega arith))
    (λ f. said_high 0 4 1 (given (codes "--flushers") words) f (omega arith)) is

both_crew : (a : Option Setup) (b : Option Crew) (o : Setup × Crew) → both a b ≡ Some o → b ≡ Some o.1
both_crew None b o is = cc
both_crew (Some setup) None o is = cc
both_crew (Some setup) (Some c) o is =
    let same : (setup, c) ≡ o = cc in ap (λ (p : Setup × Crew). Some p.1) same

options_few : (valid : Bool) (words : List (List ℕ)) (o : Setup × Crew) → (if valid then both (setup_of words) (crew_of words) else None) ≡ Some o → IsFew o.1
options_few true words o is = some_crew words o.1 (both_crew (setup_of words) (crew_of words) o is)
options_few false words o is = cc

named_few : (files : Bool) (image script out : List ℕ) (o : Setup × Crew) (asked : Run) → IsFew o.1 → (if files then Some (record { image = image; script = script; out = out; setup = o.0; crew = o.1 }) else None) ≡ Some asked → IsFew asked.crew
named_few true image script out o asked few is =
    let one : Run = record { image = image; script = script; out = out; setup = o.0; crew = o.1 } in
    let same : one ≡ asked = cc in subst (λ (r : Run). IsFew r.crew) same few
named_few false image script out o asked few is = cc

run_named_few : (image script out : List ℕ) (options : Option (Setup × Crew)) (asked : Run) → ((o : Setup × Crew) → options ≡ Some o → IsFew o.1) → run_named image script out options ≡ Some asked → IsFew asked.crew
run_named_few image script out None asked few is = cc
run_named_few image script out (Some o) asked few is = named_few (are_files image script out) image script out o asked (few o refl) is

run_few : (words : List (List ℕ)) (asked : Run) → run_of words ≡ Some asked → IsFew asked.crew
run_few [] asked is = cc
run_few (image ∷ []) asked is = cc
run_few (image ∷ script ∷ []) asked is = cc
run_few (image ∷ script ∷ out ∷ words) asked is =
    run_named_few image script out (run_options words) asked (λ o. options_few (are_options true words) words o) is

abbrev Asks : Option Command → Run → Type 0
Asks read asked = read ≡ Some (command.Run asked)

no_scan : (read : Option Scan) (asked : Run) → Asks (asked_scan read) asked → ⊥
no_scan None asked is = cc
no_scan (Some scan) asked is = cc

no_quiet : (read : Option Quiet) (asked : Run) → Asks (asked_quiet read) asked → ⊥
no_quiet None asked is = cc
no_quiet (Some quiet) asked is = cc

one_run : (read : Option Run) (asked : Run) → Asks (asked_run read) asked → read ≡ Some asked
one_run None asked is = cc
one_run (Some one) asked is =
    let same : one ≡ asked = cc in ap (λ (r : Run). Some r) same

by_verb : (scans runs : Bool) (verb : List ℕ) (rest : List (List ℕ)) (asked : Run)
    → Asks (if scans then asked_scan (scan_of rest) else if runs then asked_run (run_of rest) else asked_quiet (quiet_named verb rest)) asked → IsFew asked.crew
by_verb true runs verb rest asked is = absurd (no_scan (scan_of rest) asked is)
by_verb false true verb rest asked is = run_few rest asked (one_run (run_of rest) asked is)
by_verb false false verb rest asked is = absurd (no_quiet (quiet_named verb rest) asked is)

-- few threads serve the drive under a `run` of some words
pub crew_is_few : (words : List (List ℕ)) (asked : Run) → command_of words ≡ Some (command.Run asked) → asked.crew.workers + asked.crew.flushers < 2 ^ 32
crew_is_few [] asked is = cc
crew_is_few (verb ∷ rest) asked is = by_verb (bytes_eq verb (codes "scan")) (bytes_eq verb (codes "run")) verb rest asked is
