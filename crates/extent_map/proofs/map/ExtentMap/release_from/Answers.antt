use Rattle.std.proofs.Common.{◌≡◌, ◌-◌, ◌<◌, ◌≤◌, ◌++◌, ℕ, take, drop, length, cond, false, get_or, None, ap, sym, subst, ◌∙◌, arith, rules}
use Rattle.std.specs.List.{AllByRecursion}
use Rattle.extent_map.specs.Places.{Places, is_used, released}
use Rattle.extent_map.specs.Owners.{before_of, end_of}
use Rattle.extent_map.proofs.Runs.{places_of}
use Rattle.extent_map.proofs.Released.{rest_of, rest_is, from_to, released_sound, released_owners, released_have, part_within}
use Rattle.extent_map.proofs.map.ExtentMap.release_from.Goals as goal

pub slice_bounds-give_up-count : goal.slice_bounds-give_up-count
slice_bounds-give_up-count c =
    let ps = c.self.inside.placed.items in
    omega (arith, c.before-from.ensures.value ∙ ap (before_of c.args.file c.args.page) c.deref.ensures.value, c.end_of-to.ensures.value ∙ ap (end_of c.args.file) c.deref-2.ensures.value, from_to c.args.file c.args.page ps)

pub slice_bounds-give_up-start : goal.slice_bounds-give_up-start
slice_bounds-give_up-start c =
    let ps = c.self.inside.placed.items in
    let order : c.before-from.result ≤ c.end_of-to.result = omega (arith, c.before-from.ensures.value ∙ ap (before_of c.args.file c.args.page) c.deref.ensures.value, c.end_of-to.ensures.value ∙ ap (end_of c.args.file) c.deref-2.ensures.value, from_to c.args.file c.args.page ps) in
    search rules

pub give_up-self-inside-requires : goal.give_up-self-inside-requires
give_up-self-inside-requires c =
    let i = c.self.inside in
    let n = c.end_of-to.result - c.before-from.result in
    let within = subst (λ m. AllByRecursion (λ p. p.block < m) i.placed.items) (sym c.self.invariant.1.len) c.self.invariant.0.within in
    subst (λ xs. AllByRecursion (λ p. p.block < length i.owners.items) (take n (drop c.before-from.result xs))) (sym c.deref-3.ensures.value) (part_within (length i.owners.items) c.before-from.result n i.placed.items within)

pub cut_out-requires-clause-order : goal.cut_out-requires-clause-order
cut_out-requires-clause-order c =
    let ps = c.self.inside.placed.items in
    omega (arith, c.before-from.ensures.value ∙ ap (before_of c.args.file c.args.page) c.deref.ensures.value, c.end_of-to.ensures.value ∙ ap (end_of c.args.file) c.deref-2.ensures.value, from_to c.args.file c.args.page ps)

pub invariant_of-self : goal.invariant_of-self
invariant_of-self c =
    let i = c.self.inside in
    let ps = i.placed.items in
    let os = i.owners.items in
    let file = c.args.file in
    let page = c.args.page in
    let from = c.before-from.result in
    let to = c.end_of-to.result in
    let new_os = c.give_up-self-inside.new.owners.items in
    let from-is : from ≡ before_of file page ps = c.before-from.ensures.value ∙ ap (before_of file page) c.deref.ensures.value in
    let to-is : to ≡ end_of file ps = c.end_of-to.ensures.value ∙ ap (end_of file) c.deref-2.ensures.value in
    let items : c.cut_out.new.placed.items ≡ rest_of file page ps = c.cut_out.ensures.items ∙ ap (λ n. take n ps ++ drop to ps) from-is ∙ ap (λ n. take (before_of file page ps) ps ++ drop n ps) to-is ∙ rest_is file page ps c.self.invariant.0.order in
    let each : (b : ℕ) → get_or new_os b None ≡ cond (is_used b (take (to - from) (drop from ps))) None (get_or os b None) = λ b. c.give_up-self-inside.ensures.owners b ∙ ap (λ xs. cond (is_used b (take (to - from) (drop from xs))) None (get_or os b None)) c.deref-3.ensures.value in
    let below : (b : ℕ) → b < c.give_up-self-inside.result → is_used b (take (to - from) (drop from ps)) ≡ false = λ b lt. ap (λ xs. is_used b (take (to - from) (drop from xs))) (sym c.deref-3.ensures.value) ∙ c.give_up-self-inside.ensures.below b lt in
    rw items (
      released_sound i.blocks file page ps c.self.invariant.0,
      released_owners i.blocks file page from to os new_os ps c.self.invariant.0 c.self.invariant.1 from-is to-is c.give_up-self-inside.ensures.len each,
      omega (arith, c.cut_out.ensures.capacity, c.self.invariant.2),
      (
        omega (arith, c.give_up-self-inside.ensures.low, c.give_up-self-inside.ensures.len, c.self.invariant.3.0),
        released_have i.lowest c.give_up-self-inside.result os new_os (take (to - from) (drop from ps)) c.self.invariant.3.1 c.give_up-self-inside.ensures.low below each,
      ),
    )

pub returns : goal.returns
returns c =
    let i = c.self.inside in
    let ps = i.placed.items in
    let file = c.args.file in
    let page = c.args.page in
    let from-is : c.before-from.result ≡ before_of file page ps = c.before-from.ensures.value ∙ ap (before_of file page) c.deref.ensures.value in
    let to-is : c.end_of-to.result ≡ end_of file ps = c.end_of-to.ensures.value ∙ ap (end_of file) c.deref-2.ensures.value in
    let items : c.cut_out.new.placed.items ≡ rest_of file page ps = c.cut_out.ensures.items ∙ ap (λ n. take n ps ++ drop c.end_of-to.result ps) from-is ∙ ap (λ n. take (before_of file page ps) ps ++ drop n ps) to-is ∙ rest_is file page ps c.self.invariant.0.order in
    ap (places_of i.blocks) items ∙ ap (λ (s : Places). released s file page) c.self.view_is
