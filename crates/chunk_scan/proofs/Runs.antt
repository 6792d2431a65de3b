-- A run whose output is flat: what it leaves there is all of the output's bytes.
use Rattle.std.proofs.Common.{◌≡◌, ℕ, ◌≤◌, List, length, take, replicate, ap, ◌∙◌, sym, refl, arith}
use Rattle.std.proofs.lemmas.Grind.{common_steps}
use Rattle.std.proofs.lemmas.List.{length-replicate}
use Rattle.sbpf_insn.specs.declared.insn.Insn.{Insn}
use Rattle.sbpf_insn.specs.Machine as machine
use Rattle.sbpf_exec.specs.declared.region.Region.{Region}
use Rattle.sbpf_exec.specs.declared.region.Region.TheVariants.{Flat, Paged}
use Rattle.sbpf_exec.specs.declared.regions.Regions.{Regions}
use Rattle.sbpf_exec.specs.declared.interpreter.Outcome.{Outcome}
use Rattle.sbpf_exec.specs.Buffers.{region_bytes, DiffersWithin}
use Rattle.sbpf_exec.specs.Parts.{output_of, machine_regions, WritesWithin}
use Rattle.sbpf_exec.specs.Outcomes.{outcome_of}
use Rattle.plain_files.specs.Plain.{ended}
use Rattle.plain_files.specs.declared.calls.Reply.{Reply}
use Rattle.chunk_scan.specs.Scan.{piece_reply, reply_to_end}

pub record StaysFlat (output : List ℕ) (region : Region) : Type 0 where
  pub flat : region ≡ Flat (region_bytes region)
  pub len : length (region_bytes region) ≡ length output

stays : (n : ℕ) (old new : Region) (output : List ℕ) → old ≡ Flat output → DiffersWithin n old new → StaysFlat output new
stays n (Flat old) (Flat new) output is within =
    let same : old ≡ output = cc in
    record { flat = refl; len = within.0 ∙ ap (λ (b : List ℕ). length b) same }
stays n (Flat old) (Paged pages start len) output is within = absurd within
stays n (Paged pages start len) new output is within = cc

-- a run leaves a flat output flat, at its length
pub run_stays_flat : (ready after : Regions) (output : List ℕ) → output_of ready ≡ Flat output → WritesWithin ready after → StaysFlat output (output_of after)
run_stays_flat ready after output is within = stays ready.output_len ready.output after.output output is within.output

take_past : (bytes : List ℕ) (n : ℕ) → length bytes ≤ n → take n bytes ≡ bytes
take_past bytes n le = grind (arith, common_steps)

length_under : (bytes : List ℕ) (n : ℕ) → take n bytes ≡ bytes → length bytes ≤ n
length_under bytes n is = let same : length (take n bytes) ≡ length bytes = ap (λ (b : List ℕ). length b) is in grind (arith, common_steps)

-- the reply that is told of the bytes left is that of the machine's run
pub run_replies : (code : List Insn) (fuel cap : ℕ) (piece param : List ℕ) (ready after : Regions) (outcome : Outcome) (bytes : List ℕ) (reply : Reply)
    → machine_regions ready ≡ machine.shaped piece (replicate cap 0) param → output_of ready ≡ Flat (replicate cap 0) → WritesWithin ready after
    → machine.run code (machine_regions ready) fuel ≡ outcome_of outcome (machine_regions after).output → bytes ≡ region_bytes (output_of after)
    → reply ≡ reply_to_end (length bytes) (ended (outcome_of outcome bytes)) → reply ≡ piece_reply code fuel cap param piece
run_replies code fuel cap piece param ready after outcome bytes reply regions is within ran left told =
    let output : List ℕ = replicate cap 0 in
    let stay = run_stays_flat ready after output is within in
    let count : length bytes ≡ cap = ap (λ (b : List ℕ). length b) left ∙ stay.len ∙ length-replicate cap 0 in
    let first : take ready.output_len output ≡ output = ap (λ (r : Region). take ready.output_len (region_bytes r)) (sym is) ∙ ap (λ (m : machine.Regions). m.output) regions in
    let long : length output ≤ ready.output_len = length_under output ready.output_len first in
    let same_len : after.output_len ≡ ready.output_len = ap (λ (r : Regions). r.output_len) within.kept in
    let short : length (region_bytes after.output) ≤ after.output_len = omega (arith, stay.len, same_len, long) in
    let all : take after.output_len (region_bytes after.output) ≡ bytes = take_past (region_bytes after.output) after.output_len short ∙ sym left in
    told
    ∙ ap (λ n. reply_to_end n (ended (outcome_of outcome bytes))) count
    ∙ ap (λ (b : List ℕ). reply_to_end cap (ended (outcome_of outcome b))) (sym all)
    ∙ ap (λ o. reply_to_end cap (ended o)) (sym ran)
    ∙ ap (λ (m : machine.Regions). reply_to_end cap (ended (machine.run code m fuel))) regions
