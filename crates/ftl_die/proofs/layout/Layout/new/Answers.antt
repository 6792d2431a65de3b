use Rattle.std.proofs.Common.{◌≡◌, replicate, ℕ, rules, arith}
use Rattle.std.proofs.lemmas.Grind.{common_steps}
use Rattle.ftl_die.specs.declared.place.Place.{Place}
use Rattle.ftl_die.specs.declared.place.Place.TheVariants.{Unwritten}
use Rattle.ftl_die.proofs.Changes.{fresh_made}
use Rattle.ftl_die.proofs.layout.Layout.new.Goals as goal

pub invariant_of-result : goal.invariant_of-result
invariant_of-result c =
    let places : c.in_ok-vec.field-0.items ≡ replicate {A = Place} c.args.pages Unwritten = first_of (search rules, grind (arith, common_steps)) in
    let used : c.in_ok-vec-2.field-0.items ≡ replicate {A = ℕ} c.args.blocks 0 = first_of (search rules, grind (arith, common_steps)) in
    let live : c.in_ok-vec-3.field-0.items ≡ replicate {A = ℕ} c.args.blocks 0 = first_of (search rules, grind (arith, common_steps)) in
    record { laid = fresh_made _ _ _ _ c.args.pages c.args.blocks c.requires.roomy c.requires.few places used live (c.in_ok-free_slots.ensures {u = tt}) }
