-- The grammar of the words behind the program's own name. This project's own.
use Rattle.std.specs.Prelude.{ℕ, List, [], ◌∷◌, codes, bytes_eq, if◌then◌else◌, Option, Some, None}
use Rattle.page_base.specs.Drive.{Drive}
use Rattle.sbpf_text.specs.Numbers.{decimal_number}
use Rattle.command_words.specs.declared.command.Command.{Command}
use Rattle.command_words.specs.declared.command.Command.TheVariants as command
use Rattle.command_words.specs.declared.command.Quiet.{Quiet}
use Rattle.command_words.specs.declared.command.Quiet.TheVariants as quiet
use Rattle.command_words.specs.declared.command.Run.{Run}
use Rattle.command_words.specs.declared.command.Scan.{Scan}
use Rattle.command_words.specs.declared.options.Crew.{Crew}
use Rattle.command_words.specs.declared.options.Setup.{Setup}
use Rattle.command_words.specs.Options.{solo_options, run_options}
use Rattle.command_words.specs.Places.{PieceRun, is_file_word, are_two, are_files, number_in, drive_of, width_of, param_of}

-- ---- each command, behind its own word

-- `OUT BLOCKS DIES`
abbrev pub make_of : List ℕ → Option Drive → Option Quiet
make_of out None = None
make_of out (Some drive) = if is_file_word out then Some (quiet.MakeImage out drive) else None

abbrev pub mkimage_of : List (List ℕ) → Option Quiet
mkimage_of (out ∷ blocks ∷ dies ∷ []) = make_of out (drive_of blocks dies)
mkimage_of _ = None

-- `SRC OUT`
abbrev pub asm_of : List (List ℕ) → Option Quiet
asm_of (source ∷ out ∷ []) = if are_two source out then Some (quiet.Asm source out) else None
asm_of _ = None

-- `OBJ`
abbrev pub disasm_of : List (List ℕ) → Option Quiet
disasm_of (object ∷ []) = if is_file_word object then Some (quiet.Disasm object) else None
disasm_of _ = None

-- `OBJ`
abbrev pub verify_of : List (List ℕ) → Option Quiet
verify_of (object ∷ []) = if is_file_word object then Some (quiet.Verify object) else None
verify_of _ = None

-- `IMAGE SCRIPT TRANSCRIPT`
abbrev pub check_named : List ℕ → List ℕ → List ℕ → Option Quiet
check_named image script transcript =
    if are_files image script transcript then Some (quiet.Check image script transcript) else None

abbrev pub check_of : List (List ℕ) → Option Quiet
check_of (image ∷ script ∷ transcript ∷ []) = check_named image script transcript
check_of _ = None

-- `IMAGE SCRIPT OUT` and options
abbrev pub solo_named : List ℕ → List ℕ → List ℕ → Option Setup → Option Quiet
solo_named image script out None = None
solo_named image script out (Some setup) = if are_files image script out then Some (quiet.Solo image script out setup) else None

abbrev pub solo_of : List (List ℕ) → Option Quiet
solo_of (image ∷ script ∷ out ∷ options) = solo_named image script out (solo_options options)
solo_of _ = None

-- `START CALLS`
abbrev pub bench_with : Option ℕ → Option ℕ → Option Quiet
bench_with (Some start) (Some calls) = Some (quiet.Bench start calls)
bench_with _ _ = None

unfoldable pub bench_named : List ℕ → List ℕ → Option Quiet
bench_named start calls = bench_with (decimal_number start) (number_in 0 9995 calls)

abbrev pub bench_of : List (List ℕ) → Option Quiet
bench_of (start ∷ calls ∷ []) = bench_named start calls
bench_of _ = None

-- `OBJ SECTION OUT`
abbrev pub elf_named : List ℕ → List ℕ → List ℕ → Option Quiet
elf_named object section out = if are_files object section out then Some (quiet.Elf object section out) else None

abbrev pub elf_of : List (List ℕ) → Option Quiet
elf_of (object ∷ section ∷ out ∷ []) = elf_named object section out
elf_of _ = None

-- `PRED WIDTH OUT`
abbrev pub predc_named : List ℕ → List ℕ → Option ℕ → Option Quiet
predc_named pred out None = None
predc_named pred out (Some width) = if are_two pred out then Some (quiet.CompilePred pred width out) else None

abbrev pub predc_of : List (List ℕ) → Option Quiet
predc_of (pred ∷ width ∷ out ∷ []) = predc_named pred out (width_of width)
predc_of _ = None

-- `IMAGE FILE PRED WIDTH`
abbrev pub select_named : List ℕ → List ℕ → List ℕ → Option ℕ → Option Quiet
select_named image file pred None = None
select_named image file pred (Some width) = if are_files image file pred then Some (quiet.Select image file pred width) else None

abbrev pub select_of : List (List ℕ) → Option Quiet
select_of (image ∷ file ∷ pred ∷ width ∷ []) = select_named image file pred (width_of width)
select_of _ = None

-- `IMAGE FILE OBJ CHUNK FUEL CAP PARAM`
abbrev pub pieces : Option ℕ → Option ℕ → Option ℕ → Option PieceRun
pieces (Some chunk) (Some fuel) (Some cap) = Some (record { chunk = chunk; fuel = fuel; cap = cap })
pieces _ _ _ = None

unfoldable pub pieces_of : List ℕ → List ℕ → List ℕ → Option PieceRun
pieces_of chunk fuel cap = pieces (number_in 1 262144 chunk) (number_in 0 4294967296 fuel) (number_in 0 4096 cap)

abbrev pub scan_with : List ℕ → List ℕ → List ℕ → Option PieceRun → Option (List ℕ) → Option Scan
scan_with image file object (Some pieces) (Some param) =
    if are_files image file object
    then Some (record { image = image; file = file; object = object; pieces = pieces; param = param })
    else None
scan_with image file object _ _ = None

abbrev pub scan_of : List (List ℕ) → Option Scan
scan_of (image ∷ file ∷ object ∷ chunk ∷ fuel ∷ cap ∷ param ∷ []) = scan_with image file object (pieces_of chunk fuel cap) (param_of param)
scan_of _ = None

-- `IMAGE SCRIPT OUT` and options
abbrev pub run_named : List ℕ → List ℕ → List ℕ → Option (Setup × Crew) → Option Run
run_named image script out None = None
run_named image script out (Some options) =
    if are_files image script out
    then Some (record { image = image; script = script; out = out; setup = options.0; crew = options.1 })
    else None

abbrev pub run_of : List (List ℕ) → Option Run
run_of (image ∷ script ∷ out ∷ options) = run_named image script out (run_options options)
run_of _ = None

-- ---- the words

-- the command of a first word and those behind it, of the commands that neither wait nor start threads
unfoldable pub quiet_named : List ℕ → List (List ℕ) → Option Quiet
quiet_named verb rest =
    if bytes_eq verb (codes "mkimage") then mkimage_of rest
    else if bytes_eq verb (codes "asm") then asm_of rest
    else if bytes_eq verb (codes "disasm") then disasm_of rest
    else if bytes_eq verb (codes "verify") then verify_of rest
    else if bytes_eq verb (codes "check") then check_of rest
    else if bytes_eq verb (codes "solo") then solo_of rest
    else if bytes_eq verb (codes "bench") then bench_of rest
    else if bytes_eq verb (codes "elf") then elf_of rest
    else if bytes_eq verb (codes "predc") then predc_of rest
    else if bytes_eq verb (codes "select") then select_of rest
    else None

abbrev pub quiet_of : List (List ℕ) → Option Quiet
quiet_of [] = None
quiet_of (verb ∷ rest) = quiet_named verb rest

abbrev pub asked_quiet : Option Quiet → Option Command
asked_quiet None = None
asked_quiet (Some asked) = Some (command.Quiet asked)

abbrev pub asked_scan : Option Scan → Option Command
asked_scan None = None
asked_scan (Some asked) = Some (command.Scan asked)

abbrev pub asked_run : Option Run → Option Command
asked_run None = None
asked_run (Some asked) = Some (command.Run asked)

-- the words `scan IMAGE FILE OBJ CHUNK FUEL CAP PARAM`
abbrev pub scan_named : List ℕ → List (List ℕ) → Option Scan
scan_named verb rest = if bytes_eq verb (codes "scan") then scan_of rest else None

abbrev pub scan_command : List (List ℕ) → Option Scan
scan_command [] = None
scan_command (verb ∷ rest) = scan_named verb rest

-- the command of a first word and those behind it
abbrev pub command_named : List ℕ → List (List ℕ) → Option Command
command_named verb rest =
    if bytes_eq verb (codes "scan") then asked_scan (scan_of rest)
    else if bytes_eq verb (codes "run") then asked_run (run_of rest)
    else asked_quiet (quiet_named verb rest)

-- the command of the words; none where they are outside the grammar
abbrev pub command_of : List (List ℕ) → Option Command
command_of [] = None
command_of (verb ∷ rest) = command_named verb rest
