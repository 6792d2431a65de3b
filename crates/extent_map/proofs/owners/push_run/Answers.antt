use Rattle.std.proofs.Common.{◌≡◌, ◌+◌, ◌++◌, ◌∷◌, [], length, ap, sym, ◌∙◌, append_assoc, length-append, length-set, arith}
use Rattle.std.specs.Prelude.{IsOk}
use Rattle.std.specs.List.{range_with_len}
use Rattle.std.proofs.lemmas.Bool.{cond-true}
use Rattle.extent_map.specs.Places.{pages_on}
use Rattle.extent_map.proofs.Runs.{run_push, owners_push, place}
use Rattle.extent_map.proofs.owners.push_run.Goals as goal

pub loop-k-preserved : goal.loop-k-preserved
loop-k-preserved c =
    let e = c.args.e in
    let k = c.loop-k.k in
    let ok : IsOk c.push.result = c.push.ensures.succeeds (omega (arith, c.loop-k.invariant.count, c.loop-k.invariant.capacity, c.loop-k.placed.ok, c.requires.room, c.loop-k-test.true)) in
    let pushed : c.push.new.self.items ≡ c.loop-k.placed.items ++ place e.file (e.page + k) (e.block + k) ∷ [] = c.push.ensures.items ∙ cond-true _ _ _ ok in
    let run = pages_on e.file e.page (range_with_len e.block k) in
    record {
      placed = pushed ∙ ap (λ ps. ps ++ place e.file (e.page + k) (e.block + k) ∷ []) c.loop-k.invariant.placed ∙ append_assoc c.args.placed.now.items run (place e.file (e.page + k) (e.block + k) ∷ []) ∙ ap (λ ps. c.args.placed.now.items ++ ps) (sym (run_push e.file e.page e.block k));
      owners = owners_push c.loop-k.owners.items c.args.owners.now.items e.file e.page e.block k (omega (arith, c.loop-k.invariant.len, c.requires.within, c.loop-k-test.true)) c.loop-k.invariant.owners;
      len = length-set c.loop-k.owners.items _ _ ∙ c.loop-k.invariant.len;
      capacity = omega (arith, c.push.ensures.capacity, c.loop-k.invariant.capacity);
      count = omega (arith, ap length pushed, length-append c.loop-k.placed.items (place e.file (e.page + k) (e.block + k) ∷ []), c.loop-k.invariant.count);
    }
