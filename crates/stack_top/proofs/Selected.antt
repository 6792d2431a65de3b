-- The file that `select` finds, and the code that `predc` writes.
use Rattle.std.proofs.Common.{◌≡◌, ◌≤◌, ◌^◌, ℕ, List, [], ◌∷◌, length, Bool, true, false, Option, Some, None, Ok, Err, refl, sym, subst}
use Rattle.std.specs.Prelude.{Result, if◌then◌else◌}
use Rattle.std.specs.List.{AllByRecursion}
use Rattle.edge_io.specs.Edges.{Names}
use Rattle.plain_files.specs.declared.calls.PlainFile.{PlainFile}
use Rattle.plain_files.specs.Plain.{is_file, file_of}
use Rattle.plain_image.specs.Fits.{IsFile}
use Rattle.predicates.specs.declared.pred.Pred.{Pred}
use Rattle.predicates.specs.Fields.{field_fault}
use Rattle.pred_compile.specs.Promise.{Compiles}
use Rattle.sbpf_insn.specs.declared.insn.Insn.{Insn}
use Rattle.sbpf_insn.specs.Refusal.{refusal}
use Rattle.sbpf_load.specs.Objects.{object_bytes}
use Rattle.stack_top.specs.declared.acts.Act.{Act}
use Rattle.stack_top.specs.declared.plan.Plan.{Plan}
use Rattle.stack_top.specs.declared.refusal.Refusal.{Refusal}
use Rattle.stack_top.specs.declared.refusal.Refusal.TheVariants as refused
use Rattle.stack_top.specs.Acts.{name_of, written_and_told, slots_line}
use Rattle.stack_top.specs.Decided.{IsDecided}
use Rattle.stack_top.specs.Selecting.{compiled, selects_from, selects_in}
use Rattle.stack_top.specs.Works.{Allows}

some_once : (a b : PlainFile) → Some a ≡ Some b → a ≡ b
some_once a b same = cc

-- a file that is found is as each file is
first_is : (first file : PlainFile) (rest : Option PlainFile) (b : Bool) → IsFile first → (rest ≡ Some file → IsFile file) → (if b then Some first else rest) ≡ Some file → IsFile file
first_is first file rest true here later is = subst IsFile (some_once first file is) here
first_is first file rest false here later is = later is

found_is : (name : List ℕ) (files : List PlainFile) (file : PlainFile) → AllByRecursion IsFile files → file_of name files ≡ Some file → IsFile file
found_is name [] file all is = cc
found_is name (first ∷ rest) file all is =
    first_is first file (file_of name rest) (is_file name first) all.0 (λ later. found_is name rest file all.1 later) is

pub file_short : (name : List ℕ) (files : List PlainFile) (file : PlainFile) → AllByRecursion IsFile files → Some file ≡ file_of name files → length file.bytes ≤ 2 ^ 28
file_short name files file all is = (found_is name files file all (sym is)).1

-- the work goes on with a file that is found, and ends where none is
pub found_decided : (told : Option Names) (before now : ℕ) (found : Option PlainFile) (file : PlainFile) (pred : List ℕ) (width : ℕ) (result : Result Plan Refusal) → Some file ≡ found → IsDecided told before now (selects_from file.bytes pred width) result → IsDecided told before now (selects_in found pred width) result
found_decided told before now found file pred width result is decided =
    let P : Option PlainFile → Type 0 = λ f. IsDecided told before now (selects_in f pred width) result in subst P is decided

pub none_decided : (told : Option Names) (before now : ℕ) (found : Option PlainFile) (pred : List ℕ) (width : ℕ) → None ≡ found → IsDecided told before now (selects_in found pred width) (Err refused.NoFile)
none_decided told before now found pred width is =
    let P : Option PlainFile → Type 0 = λ f. IsDecided told before now (selects_in f pred width) (Err refused.NoFile) in
    subst P is (record { finish = _; comes = refl; allows = refl })

-- code that was compiled is that of a plan
pub code_allowed : (out : List ℕ) (width : ℕ) (p : Pred) (code : List Insn) (acts : List Act) → Compiles (Ok code) p width → refusal code ≡ None → acts ≡ written_and_told (name_of out) (object_bytes code) (slots_line code) → Allows (compiled out width p (field_fault p width)) (record { acts = acts; ending = None })
code_allowed out width p code acts compiles accepted is =
    let P : Option ℕ → Type 0 = λ fault. Allows (compiled out width p fault) (record { acts = acts; ending = None }) in
    subst P (sym compiles.0.sound) (record { code = code; accepted = accepted; selects = compiles.1; acts = is; ending = refl })

-- and a field that was refused is that of a refusal
pub field_refused : (out : List ℕ) (width : ℕ) (p : Pred) (node : ℕ) → field_fault p width ≡ Some node → Allows (compiled out width p (field_fault p width)) (record { acts = []; ending = Some (refused.BadField node) })
field_refused out width p node is =
    let P : Option ℕ → Type 0 = λ fault. Allows (compiled out width p fault) (record { acts = []; ending = Some (refused.BadField node) }) in
    subst P (sym is) refl
