-- What a function returned is what a definition gives, unless memory ran out.
use Rattle.std.specs.Prelude.{◌≡◌, ⊤, Result, Ok, Err}
use Rattle.call_text.specs.declared.faults.ScriptKind.{ScriptKind}
use Rattle.call_text.specs.declared.faults.LineErr.{LineErr}
use Rattle.call_text.specs.declared.faults.LineErr.TheVariants as line_errors
use Rattle.call_text.specs.declared.faults.ScriptErr.{ScriptErr}
use Rattle.call_text.specs.declared.faults.ScriptErr.TheVariants as script_errors
use Rattle.call_text.specs.declared.building.Building.{Building}
use Rattle.call_text.specs.Scripts.{Reading}
use Rattle.call_text.specs.Building.{seen}

-- ---- of a line: the definition gives this fault, or memory ran out

abbrev pub Fails : {A : Type 0} → LineErr → Result A ScriptKind → Type 0
Fails line_errors.NoMemory read = ⊤
Fails (line_errors.Kind kind) read = read ≡ Err kind

-- a part of a line
abbrev pub Gives : {A : Type 0} → Result A LineErr → Result A ScriptKind → Type 0
Gives (Ok value) read = read ≡ Ok value
Gives (Err e) read = Fails e read

-- a step that changes what is read so far
abbrev pub Makes : Result (Unit {0}) LineErr → Building → Result Reading ScriptKind → Type 0
Makes (Ok done) new read = read ≡ Ok (seen new)
Makes (Err e) new read = Fails e read

-- ---- of lines

abbrev pub Refuses : {A : Type 0} → ScriptErr → Result A ScriptErr → Type 0
Refuses script_errors.NoMemory read = ⊤
Refuses (script_errors.Script fault) read = read ≡ Err (script_errors.Script fault)
Refuses (script_errors.Asm fault) read = read ≡ Err (script_errors.Asm fault)

-- a value
abbrev pub Reads : {A : Type 0} → Result A ScriptErr → Result A ScriptErr → Type 0
Reads (Ok value) read = read ≡ Ok value
Reads (Err e) read = Refuses e read

-- a step
abbrev pub Steps : Result (Unit {0}) ScriptErr → Building → Result Reading ScriptErr → Type 0
Steps (Ok done) new read = read ≡ Ok (seen new)
Steps (Err e) new read = Refuses e read

-- all lines
abbrev pub ReadsLines : Result Building ScriptErr → Result Reading ScriptErr → Type 0
ReadsLines (Ok script) read = read ≡ Ok (seen script)
ReadsLines (Err e) read = Refuses e read
