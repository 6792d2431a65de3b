-- The script that `bench` runs, by its start and the number of its drawn lines. This project's own.
use Rattle.std.specs.Prelude.{ℕ, zero, suc, ◌+◌, ◌%◌, ◌==◌, List, [], ◌∷◌, ◌++◌, if◌then◌else◌, codes, decimal}
use Rattle.hex.specs.Hex.{encode_lower}
use Rattle.bench_script.specs.Draws.{first, after}

-- ---- the lines ahead

-- the function that counts the line ends of its input
abbrev pub function_block : List ℕ
function_block = codes "func lines\n  ldxdw r2, [r1+0]\n  ldxdw r3, [r1+8]\n  ldxdw r4, [r1+16]\n  add r3, r2\nnext:\n  jeq r2, r3, done\n  ldxb r5, [r2+0]\n  add r2, 1\n  jne r5, 10, next\n  add r6, 1\n  ja next\ndone:\n  stxdw [r4+0], r6\n  mov r0, 8\n  exit\nend\n"

-- a file for each lane, and the function
abbrev pub opening_lines : List ℕ
opening_lines = codes "a: create f0\nb: create f1\nc: create f2\nd: create f3\na: load lines func lines\n"

-- ---- drawn lines

-- the n-th value that is drawn from a state, modulo m
abbrev pub drawn : ℕ → ℕ → ℕ → ℕ
drawn x n m = after n x % m

-- `a` to `d`, and the words ahead of the first number
abbrev pub lane_text : ℕ → List ℕ
lane_text lane = (97 + lane) ∷ codes ": "

-- a word and a number
abbrev pub numbered : List ℕ → ℕ → List ℕ
numbered word n = word ++ decimal n

-- a call on a file, at an offset
abbrev pub at_file : List ℕ → ℕ → ℕ → List ℕ
at_file verb file off = numbered verb file ++ numbered (codes " ") off

-- a byte so often
abbrev pub fill_text : ℕ → ℕ → List ℕ
fill_text byte len = (codes " fill:" ++ encode_lower (byte ∷ [])) ++ numbered (codes "*") len

-- a length, and how the function is run
abbrev pub run_text : ℕ → List ℕ
run_text len = numbered (codes " ") len ++ codes " lines 60000 8 hex:"

-- the word of a kind of call, and the beginning of its file
abbrev pub verb : ℕ → List ℕ
verb kind =
    if kind == 0 then codes "write f" else if kind == 1 then codes "read f" else if kind == 2 then codes "readl f" else codes "trunc f"

-- what stands behind its offset
abbrev pub call_end : ℕ → ℕ → ℕ → List ℕ
call_end kind len byte =
    if kind == 0 then fill_text byte len else if kind == 1 then numbered (codes " ") len else if kind == 2 then run_text len else []

-- the call of a kind
abbrev pub call_text : ℕ → ℕ → ℕ → ℕ → ℕ → List ℕ
call_text kind file off len byte = at_file (verb kind) file off ++ call_end kind len byte

-- The line that is drawn from a state: its lane, the kind of its call, its file, an offset, a length, and a byte, which only
-- a write draws.
unfoldable pub line : ℕ → List ℕ
line x =
    lane_text (drawn x 1 4)
    ++ call_text (drawn x 2 4) (drawn x 3 4) (drawn x 4 65536) (drawn x 5 8192) (drawn x 6 256)
    ++ codes "\n"

-- the state behind it
unfoldable pub after_line : ℕ → ℕ
after_line x = if drawn x 2 4 == 0 then after 6 x else after 5 x

-- so many lines
abbrev pub lines : ℕ → ℕ → List ℕ
lines zero x = []
lines (suc n) x = line x ++ lines n (after_line x)

-- ---- the script

abbrev pub script : ℕ → ℕ → List ℕ
script start calls = function_block ++ opening_lines ++ lines calls (first start)
