use Rattle.std.proofs.Common.{◌≡◌, ◌-◌, ◌≤◌, ◌++◌, ℕ, List, take, drop, length, get_or, None, ap, sym, subst, ◌∙◌, length-append, length-take, arith}
use Rattle.extent_map.specs.Places.{Places, owner_of, pages_on, put_in, count_of, free_blocks, allocated}
use Rattle.extent_map.specs.Owners.{before_of, end_of, or_else, unowned}
use Rattle.extent_map.proofs.Searches.{put_in_is}
use Rattle.extent_map.proofs.Runs.{places_of, count_within}
use Rattle.extent_map.proofs.Free.{length_pages}
use Rattle.extent_map.proofs.Allocated.{free_blocks_are, from_first, free_count, next_page, after_allocate, allocated_sound, allocated_owners}
use Rattle.extent_map.proofs.map.ExtentMap.allocate_free.Goals as goal

pub overflow_sub-page : goal.overflow_sub-page
overflow_sub-page c =
    let ps = c.self.inside.placed.items in
    omega (arith, c.before-first.ensures.value ∙ ap (before_of c.args.file 0) c.deref.ensures.value, c.end_of-at.ensures.value ∙ ap (end_of c.args.file) c.deref-2.ensures.value, next_page c.args.file ps c.self.invariant.0.order)

pub push_free-self-inside-requires-clause-room : goal.push_free-self-inside-requires-clause-room
push_free-self-inside-requires-clause-room c =
    let i = c.self.inside in
    let asked : c.args.n ≤ length (free_blocks (places_of i.blocks i.placed.items)) = subst (λ s. c.args.n ≤ length (free_blocks s)) (sym c.self.view_is) c.requires in
    omega (arith, asked, free_count i.blocks i.placed.items c.self.invariant.0, c.self.invariant.2)

pub push_free-self-inside-requires-clause-enough : goal.push_free-self-inside-requires-clause-enough
push_free-self-inside-requires-clause-enough c =
    let i = c.self.inside in
    let asked : c.args.n ≤ length (free_blocks (places_of i.blocks i.placed.items)) = subst (λ s. c.args.n ≤ length (free_blocks s)) (sym c.self.view_is) c.requires in
    omega (arith, asked, ap length (free_blocks_are i.blocks i.lowest i.owners.items i.placed.items c.self.invariant.1 c.self.invariant.3.1))

pub push_free-self-inside-requires-clause-small : goal.push_free-self-inside-requires-clause-small
push_free-self-inside-requires-clause-small c =
    let i = c.self.inside in
    let ps = i.placed.items in
    let asked : c.args.n ≤ length (free_blocks (places_of i.blocks ps)) = subst (λ s. c.args.n ≤ length (free_blocks s)) (sym c.self.view_is) c.requires in (
      omega (arith, c.self.invariant.1.len, c.self.invariant.0.blocks),
      omega (arith, c.before-first.ensures.value ∙ ap (before_of c.args.file 0) c.deref.ensures.value, c.end_of-at.ensures.value ∙ ap (end_of c.args.file) c.deref-2.ensures.value, next_page c.args.file ps c.self.invariant.0.order, count_within c.args.file ps, asked, free_count i.blocks ps c.self.invariant.0, c.self.invariant.0.blocks),
    )

-- as many pages as were asked for
pages_count : (file page n : ℕ) (us : List ℕ) → n ≤ length us → n ≡ length (pages_on file page (take n us))
pages_count file page n us enough = omega (arith, length_pages file page (take n us), length-take n us)

pub turn_in-requires : goal.turn_in-requires
turn_in-requires c =
    let i = c.self.inside in
    let ps = i.placed.items in
    let us = unowned i.lowest (drop i.lowest i.owners.items) in
    let page = c.end_of-at.result - c.before-first.result in
    let asked : c.args.n ≤ length (free_blocks (places_of i.blocks ps)) = subst (λ s. c.args.n ≤ length (free_blocks s)) (sym c.self.view_is) c.requires in
    let enough : c.args.n ≤ length us = omega (arith, asked, ap length (free_blocks_are i.blocks i.lowest i.owners.items ps c.self.invariant.1 c.self.invariant.3.1)) in
    let at-within : c.end_of-at.result ≤ length ps = subst (λ xs. c.end_of-at.result ≤ length xs) c.deref-2.ensures.value c.end_of-at.ensures.within in
    omega (arith, at-within, ap length c.push_free-self-inside.ensures.placed, length-append ps (pages_on c.args.file page (take c.args.n us)), pages_count c.args.file page c.args.n us enough)

pub invariant_of-self : goal.invariant_of-self
invariant_of-self c =
    let i = c.self.inside in
    let ps = i.placed.items in
    let os = i.owners.items in
    let file = c.args.file in
    let n = c.args.n in
    let us = unowned i.lowest (drop i.lowest os) in
    let page = c.end_of-at.result - c.before-first.result in
    let asked : n ≤ length (free_blocks (places_of i.blocks ps)) = subst (λ s. n ≤ length (free_blocks s)) (sym c.self.view_is) c.requires in
    let enough : n ≤ length us = omega (arith, asked, ap length (free_blocks_are i.blocks i.lowest os ps c.self.invariant.1 c.self.invariant.3.1)) in
    let at-within : c.end_of-at.result ≤ length ps = subst (λ xs. c.end_of-at.result ≤ length xs) c.deref-2.ensures.value c.end_of-at.ensures.within in
    let at : c.end_of-at.result ≡ end_of file ps = c.end_of-at.ensures.value ∙ ap (end_of file) c.deref-2.ensures.value in
    let next : page ≡ count_of file ps = omega (arith, c.before-first.ensures.value ∙ ap (before_of file 0) c.deref.ensures.value, at, next_page file ps c.self.invariant.0.order) in
    let new = pages_on file page (take n us) in
    let new-is : new ≡ pages_on file (count_of file ps) (take n (unowned 0 os)) = ap (λ p. pages_on file p (take n us)) next ∙ ap (λ xs. pages_on file (count_of file ps) (take n xs)) (from_first i.lowest os c.self.invariant.3.1) in
    let turned : c.turn_in.new.placed.items ≡ take c.end_of-at.result ps ++ new ++ drop c.end_of-at.result ps = c.turn_in.ensures.turned ps new c.push_free-self-inside.ensures.placed (pages_count file page n us enough) at-within in
    let items : c.turn_in.new.placed.items ≡ after_allocate file n os ps = turned ∙ ap (λ m. take m ps ++ new ++ drop m ps) at ∙ sym (put_in_is file new ps) ∙ ap (λ xs. put_in file xs ps) new-is in
    let each : (b : ℕ) → get_or c.push_free-self-inside.new.owners.items b None ≡ or_else (owner_of b (pages_on file (count_of file ps) (take n (unowned 0 os)))) (get_or os b None) = λ b. c.push_free-self-inside.ensures.owners b ∙ ap (λ xs. or_else (owner_of b xs) (get_or os b None)) new-is in
    rw items (
      allocated_sound i.blocks file n os ps c.self.invariant.0 c.self.invariant.1,
      allocated_owners i.blocks file n os c.push_free-self-inside.new.owners.items ps c.self.invariant.0 c.self.invariant.1 c.push_free-self-inside.ensures.len each,
      omega (arith, c.turn_in.ensures.capacity, c.push_free-self-inside.ensures.capacity, c.self.invariant.2),
      c.push_free-self-inside.ensures.full,
    )

pub returns : goal.returns
returns c =
    let i = c.self.inside in
    let ps = i.placed.items in
    let os = i.owners.items in
    let file = c.args.file in
    let n = c.args.n in
    let us = unowned i.lowest (drop i.lowest os) in
    let page = c.end_of-at.result - c.before-first.result in
    let asked : n ≤ length (free_blocks (places_of i.blocks ps)) = subst (λ s. n ≤ length (free_blocks s)) (sym c.self.view_is) c.requires in
    let free = free_blocks_are i.blocks i.lowest os ps c.self.invariant.1 c.self.invariant.3.1 in
    let enough : n ≤ length us = omega (arith, asked, ap length free) in
    let at-within : c.end_of-at.result ≤ length ps = subst (λ xs. c.end_of-at.result ≤ length xs) c.deref-2.ensures.value c.end_of-at.ensures.within in
    let at : c.end_of-at.result ≡ end_of file ps = c.end_of-at.ensures.value ∙ ap (end_of file) c.deref-2.ensures.value in
    let next : page ≡ count_of file ps = omega (arith, c.before-first.ensures.value ∙ ap (before_of file 0) c.deref.ensures.value, at, next_page file ps c.self.invariant.0.order) in
    let new = pages_on file page (take n us) in
    let new-is : new ≡ pages_on file (count_of file ps) (take n (free_blocks (places_of i.blocks ps))) = ap (λ p. pages_on file p (take n us)) next ∙ ap (λ xs. pages_on file (count_of file ps) (take n xs)) free in
    let turned : c.turn_in.new.placed.items ≡ take c.end_of-at.result ps ++ new ++ drop c.end_of-at.result ps = c.turn_in.ensures.turned ps new c.push_free-self-inside.ensures.placed (pages_count file page n us enough) at-within in
    ap (places_of i.blocks) (turned ∙ ap (λ m. take m ps ++ new ++ drop m ps) at ∙ sym (put_in_is file new ps) ∙ ap (λ xs. put_in file xs ps) new-is) ∙ ap (λ (s : Places). allocated s file n) c.self.view_is
