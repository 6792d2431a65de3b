-- What the plain machine answers to `readl` of a piece.
use Rattle.std.proofs.Common.{◌≡◌, ℕ, ◌*◌, ◌≤◌, ◌^◌, List, [], ◌∷◌, length, map, replicate, Some, None, Result, Ok, Err, ap, ◌∙◌, sym, refl, arith}
use Rattle.std.proofs.lemmas.Grind.{common_steps}
use Rattle.std.specs.List.{range_with_len}
use Rattle.page_base.specs.Bytes.{Cut}
use Rattle.sbpf_insn.specs.declared.insn.Insn.{Insn}
use Rattle.sbpf_insn.specs.Machine as machine
use Rattle.plain_files.specs.declared.calls.Call.TheVariants.{Readl}
use Rattle.plain_files.specs.declared.calls.Reply.{Reply}
use Rattle.plain_files.specs.declared.calls.PlainFile.{PlainFile}
use Rattle.plain_files.specs.Steps.{◌>>=◌}
use Rattle.plain_files.specs.Plain.{State, Function, Answered, RunEnd, file_of, function_of, bytes_in, code_in, run_of, effect, or_refusal, reply_alone, ended, first_bytes, early, answer, answer_after}
use Rattle.chunk_scan.specs.Pieces.{piece_count}
use Rattle.chunk_scan.specs.Scan.{piece_reply, reply_to_end, scan}

ended_so : (s : State) (cap : ℕ) (ran : Result RunEnd Reply) → (or_refusal s (ran >>= (λ end. Ok (reply_alone s (first_bytes cap end))))).reply ≡ reply_to_end cap ran
ended_so s cap (Ok end) = refl
ended_so s cap (Err stop) = refl

not_early : (s : State) (file function : List ℕ) (f : PlainFile) (g : Function) (off size fuel cap : ℕ) (param : List ℕ)
    → file_of file s.files ≡ Some f → function_of function s.functions ≡ Some g
    → size ≤ 262144 → fuel ≤ 2 ^ 32 → cap ≤ 262144 → length param ≤ 4096
    → early s (Readl file off size function fuel cap param) ≡ None
not_early s file function f g off size fuel cap param there loaded a b c d = grind (arith, common_steps)

pub answer_is : (s : State) (file function : List ℕ) (f : PlainFile) (g : Function) (off size fuel cap : ℕ) (param : List ℕ)
    → file_of file s.files ≡ Some f → function_of function s.functions ≡ Some g
    → size ≤ 262144 → fuel ≤ 2 ^ 32 → cap ≤ 262144 → length param ≤ 4096
    → piece_reply g.code fuel cap param (Cut f.bytes off size) ≡ (answer s (Readl file off size function fuel cap param)).reply
answer_is s file function f g off size fuel cap param there loaded a b c d =
    let call = Readl file off size function fuel cap param in
    let bytes : bytes_in s file ≡ f.bytes = grind (arith, common_steps) in
    let code : code_in s function ≡ g.code = grind (arith, common_steps) in
    let late : answer s call ≡ or_refusal s (effect s call) = ap (λ o. answer_after o s call) (not_early s file function f g off size fuel cap param there loaded a b c d) in
    let zeros : List ℕ = replicate cap 0 in
    let ran : run_of s function fuel (Cut (bytes_in s file) off size) zeros param ≡ ended (machine.run g.code (machine.shaped (Cut f.bytes off size) zeros param) fuel) =
    ap (λ (b : List ℕ). run_of s function fuel (Cut b off size) zeros param) bytes
    ∙ ap (λ (k : List Insn). ended (machine.run k (machine.shaped (Cut f.bytes off size) zeros param) fuel)) code in
    sym (ap (λ (a : Answered). a.reply) late ∙ ended_so s cap (run_of s function fuel (Cut (bytes_in s file) off size) zeros param) ∙ ap (reply_to_end cap) ran)

module _ {X Y Z : Type 0} (f : Y → Z) (g : X → Y) (h : X → Z) (each : (x : X) → f (g x) ≡ h x) where
  mapped : (xs : List X) → map f (map g xs) ≡ map h xs
  mapped [] = refl
  mapped (x ∷ xs) = λ i. each x i ∷ mapped xs i

pub scan_is : (s : State) (file function : List ℕ) (f : PlainFile) (g : Function) (size fuel cap : ℕ) (param : List ℕ)
    → file_of file s.files ≡ Some f → function_of function s.functions ≡ Some g
    → size ≤ 262144 → fuel ≤ 2 ^ 32 → cap ≤ 262144 → length param ≤ 4096
    → scan g.code f.bytes size fuel cap param ≡ map (λ i. (answer s (Readl file (i * size) size function fuel cap param)).reply)
    (range_with_len 0 (piece_count size (length f.bytes)))
scan_is s file function f g size fuel cap param there loaded a b c d =
    mapped (piece_reply g.code fuel cap param) (λ i. Cut f.bytes (i * size) size) (λ i. (answer s (Readl file (i * size) size function fuel cap param)).reply)
    (λ i. answer_is s file function f g (i * size) size fuel cap param there loaded a b c d)
    (range_with_len 0 (piece_count size (length f.bytes)))
