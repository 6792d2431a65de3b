-- What a run leaves alone: a step, and one after another.
use Rattle.std.proofs.Common.{◌≡◌, ℕ, ◌+◌, take, drop, refl, sym, ap, ◌∙◌}
use Rattle.std.specs.List.{concat}
use Rattle.sbpf_exec.specs.declared.region.Region.{Region}
use Rattle.sbpf_exec.specs.declared.region.Region.TheVariants.{Flat, Paged}
use Rattle.sbpf_exec.specs.declared.regions.Regions.{Regions}
use Rattle.sbpf_exec.specs.Buffers.{IsPlaced, DiffersWithin}
use Rattle.sbpf_exec.specs.Parts.{IsShaped, WritesWithin}

differs_not : (n : ℕ) (region : Region) → IsPlaced region n → DiffersWithin n region region
differs_not n (Flat bytes) placed = (refl, refl)
differs_not n (Paged pages start len) placed = (refl, refl, refl, placed.3, refl, refl)

pub writes_nothing : (r : Regions) → IsShaped r → WritesWithin r r
writes_nothing r shaped = record { kept = refl; output = differs_not r.output_len r.output shaped.output }

differs_twice : (n : ℕ) (a b c : Region) → DiffersWithin n a b → DiffersWithin n b c → DiffersWithin n a c
differs_twice n (Flat a) (Flat b) (Flat c) first second = (second.0 ∙ first.0, second.1 ∙ first.1)
differs_twice n (Flat a) (Flat b) (Paged c s l) first second = second
differs_twice n (Flat a) (Paged b s l) c first second = absurd first
differs_twice n (Paged a s l) (Flat b) c first second = absurd first
differs_twice n (Paged a s l) (Paged b t m) (Flat c) first second = second
differs_twice n (Paged a s l) (Paged b t m) (Paged c u k) first second = (
  second.0 ∙ first.0,
  second.1 ∙ first.1,
  second.2 ∙ first.2,
  second.3,
  ap (λ (x : ℕ). take x (concat c.items)) (sym first.0) ∙ second.4 ∙ ap (λ (x : ℕ). take x (concat b.items)) first.0 ∙ first.4,
  ap (λ (x : ℕ). drop (x + n) (concat c.items)) (sym first.0) ∙ second.5 ∙ ap (λ (x : ℕ). drop (x + n) (concat b.items)) first.0 ∙ first.5,
)

pub writes_twice : (a b c : Regions) → WritesWithin a b → WritesWithin b c → WritesWithin a c
writes_twice a b c first second =
    let len : b.output_len ≡ a.output_len = ap (λ (r : Regions). r.output_len) first.kept in
    record {
      kept = second.kept ∙ ap (λ (r : Regions). record r { output = c.output; stack = c.stack }) first.kept;
      output = differs_twice a.output_len a.output b.output c.output first.output (rw len at second.output);
    }
