use Rattle.std.proofs.Common.{◌≡◌, ◌+◌, ◌-◌, ◌<◌, ◌++◌, ◌∷◌, [], suc, length, take, drop, set, get_or, true, None, Some, ap, subst, ◌∙◌, length-set, length-append, arith}
use Rattle.std.specs.Prelude.{IsOk, is_none}
use Rattle.std.proofs.lemmas.Bool.{cond-true}
use Rattle.extent_map.specs.Places.{pages_on}
use Rattle.extent_map.specs.Owners.{unowned, HaveOwners}
use Rattle.extent_map.proofs.Runs.{place}
use Rattle.extent_map.proofs.Free.{next_within, have_set, taken_first, pages_first, placed_step, no_owner_below, owners_step}
use Rattle.extent_map.proofs.owners.push_free.Goals as goal

pub loop-k-preserved : goal.loop-k-preserved
loop-k-preserved c =
    let k = c.loop-k.k in
    let n = c.args.n in
    let file = c.args.file in
    let page = c.args.page + k in
    let os = c.loop-k.owners.items in
    let block = c.loop-k.block in
    let next = c.next_free-free.result in
    let left : n - k ≡ suc (n - (k + 1)) = omega (arith, c.loop-k-test.true) in
    let same : unowned next (drop next os) ≡ unowned block (drop block os) = subst (λ xs. unowned next (drop next xs) ≡ unowned block (drop block xs)) c.deref.ensures.value c.next_free-free.ensures.same in
    let within : next < length os = next_within os next (n - k) (omega (arith, left)) (omega (arith, c.loop-k.invariant.enough, ap length same)) in
    let free : is_none (get_or os next None) ≡ true = subst (λ xs. next < length xs → is_none (get_or xs next None) ≡ true) c.deref.ensures.value c.next_free-free.ensures.free within in
    let rest = unowned (next + 1) (drop (next + 1) (set os next (Some (file, page)))) in
    let first : unowned block (drop block os) ≡ next ∷ rest = taken_first os block next (file, page) within free same in
    let pages : pages_on file page (take (n - k) (unowned block (drop block os))) ≡ place file page next ∷ pages_on file (c.args.page + (k + 1)) (take (n - (k + 1)) rest) = pages_first file page (c.args.page + (k + 1)) (n - k) (n - (k + 1)) next (unowned block (drop block os)) rest (omega arith) left first in
    let ok : IsOk c.push.result = c.push.ensures.succeeds (omega (arith, c.loop-k.invariant.count, c.loop-k.invariant.capacity, c.loop-k.placed.ok, c.requires.room, c.loop-k-test.true)) in
    let pushed : c.push.new.self.items ≡ c.loop-k.placed.items ++ place file page next ∷ [] = c.push.ensures.items ∙ cond-true _ _ _ ok in
    record {
      within = omega (arith, within, length-set os next (Some (file, page)));
      len = length-set os next (Some (file, page)) ∙ c.loop-k.invariant.len;
      capacity = omega (arith, c.push.ensures.capacity, c.loop-k.invariant.capacity);
      count = omega (arith, ap length pushed, length-append c.loop-k.placed.items (place file page next ∷ []), c.loop-k.invariant.count);
      enough = omega (arith, c.loop-k.invariant.enough, ap length first, left);
      full = have_set os next (file, page) within (subst (λ xs. HaveOwners block xs → HaveOwners next xs) c.deref.ensures.value c.next_free-free.ensures.full c.loop-k.invariant.full);
      placed = ap (λ ps. ps ++ pages_on file (c.args.page + (k + 1)) (take (n - (k + 1)) rest)) pushed ∙ placed_step c.loop-k.placed.items _ (place file page next) _ _ pages c.loop-k.invariant.placed;
      owners = λ b. owners_step os file page next b _ _ _ within pages (no_owner_below file (c.args.page + (k + 1)) (n - (k + 1)) (next + 1) (drop (next + 1) (set os next (Some (file, page)))) next (omega arith)) (c.loop-k.invariant.owners b);
    }
