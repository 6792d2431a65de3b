-- A run over flat regions is the run over their bytes.
use Rattle.std.proofs.Common.{◌≡◌, ℕ, ◌≤◌, List, length, take, drop, Result, ap, ◌∙◌, sym, arith}
use Rattle.std.proofs.lemmas.Grind.{common_steps}
use Rattle.sbpf_insn.specs.declared.insn.Insn.{Insn}
use Rattle.sbpf_insn.specs.Machine as machine
use Rattle.sbpf_exec.specs.declared.region.Region.{Region}
use Rattle.sbpf_exec.specs.declared.region.Region.TheVariants.{Flat, Paged}
use Rattle.sbpf_exec.specs.declared.regions.Regions.{Regions}
use Rattle.sbpf_exec.specs.declared.interpreter.Outcome.{Outcome}
use Rattle.sbpf_exec.specs.Buffers.{region_bytes, placed, part, DiffersWithin}
use Rattle.sbpf_exec.specs.Parts.{input_of, output_of, param_of, machine_regions, WritesWithin}
use Rattle.sbpf_exec.specs.Outcomes.{outcome_of}
use Rattle.plain_files.specs.declared.calls.Reply.{Reply}
use Rattle.plain_files.specs.Plain.{RunEnd, ended}

whole : (bytes : List ℕ) → take (length bytes) (drop 0 bytes) ≡ bytes
whole bytes = grind (arith, common_steps)

take_past : (bytes : List ℕ) (n : ℕ) → length bytes ≤ n → take n bytes ≡ bytes
take_past bytes n le = grind (arith, common_steps)

length_under : (bytes : List ℕ) (n : ℕ) → take n bytes ≡ bytes → length bytes ≤ n
length_under bytes n is = let same : length (take n bytes) ≡ length bytes = ap (λ (b : List ℕ). length b) is in grind (arith, common_steps)

-- what a run leaves in a flat output is all of it
still_whole : (n : ℕ) (old new : Region) (output : List ℕ) → old ≡ Flat output → DiffersWithin n old new → length output ≤ n → take n (region_bytes new) ≡ region_bytes new
still_whole n (Flat old) (Flat new) output is within le =
    let same : old ≡ output = cc in
    let short : length new ≤ n = let e : length old ≡ length output = ap (λ (b : List ℕ). length b) same in omega (arith, within.0, e, le) in
    take_past new n short
still_whole n (Flat old) (Paged pages start len) output is within le = absurd within
still_whole n (Paged pages start len) new output is within le = cc

pub flat_run : (code : List Insn) (fuel : ℕ) (input output param : List ℕ) (before ready after : Regions) (outcome : Outcome) (bytes : List ℕ) (reply : Result RunEnd Reply) (in_len out_len : ℕ) → in_len ≡ length input → out_len ≡ length output → input_of before ≡ Flat input → output_of before ≡ Flat output → param_of before ≡ param → machine_regions ready ≡ machine.shaped (part (input_of before) 0 in_len) (part (output_of before) 0 out_len) (param_of before) → output_of ready ≡ placed (output_of before) 0 out_len → WritesWithin ready after → machine.run code (machine_regions ready) fuel ≡ outcome_of outcome (machine_regions after).output → bytes ≡ region_bytes (output_of after) → reply ≡ ended (outcome_of outcome bytes) → reply ≡ ended (machine.run code (machine.shaped input output param) fuel)
flat_run code fuel input output param before ready after outcome bytes reply in_len out_len in_all out_all in_is out_is param_is shaped placed_is within ran left told =
    let in_part : part (input_of before) 0 in_len ≡ input = ap (λ (r : Region). part r 0 in_len) in_is ∙ ap (λ n. take n (drop 0 input)) in_all ∙ whole input in
    let out_part : part (output_of before) 0 out_len ≡ output = ap (λ (r : Region). part r 0 out_len) out_is ∙ ap (λ n. take n (drop 0 output)) out_all ∙ whole output in
    let regions : machine_regions ready ≡ machine.shaped input output param =
    shaped ∙ ap (λ i. machine.shaped i (part (output_of before) 0 out_len) (param_of before)) in_part ∙ ap (λ o. machine.shaped input o (param_of before)) out_part ∙ ap (λ p. machine.shaped input output p) param_is in
    let flat : ready.output ≡ Flat output = placed_is ∙ ap (λ (r : Region). placed r 0 out_len) out_is in
    let first : take ready.output_len output ≡ output = ap (λ (r : Region). take ready.output_len (region_bytes r)) (sym flat) ∙ ap (λ (m : machine.Regions). m.output) regions in
    let long : length output ≤ ready.output_len = length_under output ready.output_len first in
    let len : after.output_len ≡ ready.output_len = ap (λ (r : Regions). r.output_len) within.kept in
    let all : take ready.output_len (region_bytes after.output) ≡ region_bytes after.output = still_whole ready.output_len ready.output after.output output flat within.output long in
    let kept : take after.output_len (region_bytes after.output) ≡ bytes = ap (λ n. take n (region_bytes after.output)) len ∙ all ∙ sym left in
    told ∙ ap (λ b. ended (outcome_of outcome b)) (sym kept) ∙ ap ended (sym ran) ∙ ap (λ m. ended (machine.run code m fuel)) regions
