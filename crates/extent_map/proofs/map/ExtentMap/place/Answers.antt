use Rattle.std.proofs.Common.{◌≡◌, ◌+◌, ◌≤◌, ◌++◌, None, take, drop, length, ap, sym, subst, ◌∙◌, length-append, arith}
use Rattle.extent_map.specs.Places.{Places, first_used, pages_on, blocks_in, count_of, put_in, with_blocks}
use Rattle.extent_map.specs.Owners.{TellsOwners, end_of}
use Rattle.extent_map.proofs.Searches.{put_in_is}
use Rattle.extent_map.proofs.Runs.{place_len, place_sound, place_owners, count_within, length_run, after_place, places_of}
use Rattle.extent_map.proofs.Free.{have_or}
use Rattle.extent_map.proofs.map.ExtentMap.place.Goals as goal

pub push_run-requires-clause-room : goal.push_run-requires-clause-room
push_run-requires-clause-room c =
    let i = c.self.inside in
    let e = c.args.extent in
    let within : e.block + e.count ≤ i.blocks = subst (λ (s : Places). e.block + e.count ≤ s.blocks) (sym c.self.view_is) c.requires.within in
    let none : first_used e i.placed.items ≡ None = sym (c.first_owned.ensures i.blocks i.placed.items (subst (λ os. TellsOwners os i.blocks i.placed.items) (sym c.deref.ensures.value) c.self.invariant.1)) ∙ c.in-None.is in
    let len = place_len i.blocks i.placed.items e c.self.invariant.0 within none in
    omega (arith, len, c.self.invariant.2)

pub push_run-requires-clause-small : goal.push_run-requires-clause-small
push_run-requires-clause-small c =
    let i = c.self.inside in
    let e = c.args.extent in
    let within : e.block + e.count ≤ i.blocks = subst (λ (s : Places). e.block + e.count ≤ s.blocks) (sym c.self.view_is) c.requires.within in
    let next : e.page ≡ count_of e.file i.placed.items = subst (λ (s : Places). e.page ≡ count_of e.file s.placed) (sym c.self.view_is) c.requires.next in
    let none : first_used e i.placed.items ≡ None = sym (c.first_owned.ensures i.blocks i.placed.items (subst (λ os. TellsOwners os i.blocks i.placed.items) (sym c.deref.ensures.value) c.self.invariant.1)) ∙ c.in-None.is in
    let len = place_len i.blocks i.placed.items e c.self.invariant.0 within none in
    (omega (arith, c.self.invariant.1.len, c.self.invariant.0.blocks), omega (arith, next, count_within e.file i.placed.items, len, c.self.invariant.0.blocks))

pub turn_in-requires : goal.turn_in-requires
turn_in-requires c =
    let i = c.self.inside in
    let e = c.args.extent in
    let at : c.end_of-at.result ≡ end_of e.file i.placed.items = c.end_of-at.ensures.value ∙ ap (end_of e.file) c.deref-in-None.ensures.value in
    let at-within : c.end_of-at.result ≤ length i.placed.items = subst (λ ps. c.end_of-at.result ≤ length ps) c.deref-in-None.ensures.value c.end_of-at.ensures.within in
    omega (arith, at-within, ap length c.push_run.ensures.placed, length-append i.placed.items (pages_on e.file e.page (blocks_in e)), length_run e.file e.page e.block e.count)

pub invariant_of-self : goal.invariant_of-self
invariant_of-self c =
    let i = c.self.inside in
    let e = c.args.extent in
    let within : e.block + e.count ≤ i.blocks = subst (λ (s : Places). e.block + e.count ≤ s.blocks) (sym c.self.view_is) c.requires.within in
    let next : e.page ≡ count_of e.file i.placed.items = subst (λ (s : Places). e.page ≡ count_of e.file s.placed) (sym c.self.view_is) c.requires.next in
    let none : first_used e i.placed.items ≡ None = sym (c.first_owned.ensures i.blocks i.placed.items (subst (λ os. TellsOwners os i.blocks i.placed.items) (sym c.deref.ensures.value) c.self.invariant.1)) ∙ c.in-None.is in
    let at : c.end_of-at.result ≡ end_of e.file i.placed.items = c.end_of-at.ensures.value ∙ ap (end_of e.file) c.deref-in-None.ensures.value in
    let at-within : c.end_of-at.result ≤ length i.placed.items = subst (λ ps. c.end_of-at.result ≤ length ps) c.deref-in-None.ensures.value c.end_of-at.ensures.within in
    let new = pages_on e.file e.page (blocks_in e) in
    let turned : c.turn_in.new.placed.items ≡ take c.end_of-at.result i.placed.items ++ new ++ drop c.end_of-at.result i.placed.items = c.turn_in.ensures.turned i.placed.items new c.push_run.ensures.placed (sym (length_run e.file e.page e.block e.count)) at-within in
    let items : c.turn_in.new.placed.items ≡ after_place e i.placed.items = turned ∙ ap (λ n. take n i.placed.items ++ new ++ drop n i.placed.items) at ∙ sym (put_in_is e.file new i.placed.items) in
    let sound = place_sound i.blocks i.placed.items e c.self.invariant.0 next within none in
    let owners = place_owners i.owners.items c.push_run.new.owners.items i.blocks i.placed.items e c.self.invariant.1 none c.push_run.ensures.len c.push_run.ensures.owners in
    let have = have_or i.lowest i.owners.items c.push_run.new.owners.items new c.self.invariant.3.1 c.push_run.ensures.owners in
    rw items (sound, owners, omega (arith, c.turn_in.ensures.capacity, c.push_run.ensures.capacity, c.self.invariant.2), (omega (arith, c.push_run.ensures.len, c.self.invariant.3.0), have))

pub returns-in-None-clause-ok : goal.returns-in-None-clause-ok
returns-in-None-clause-ok c =
    let i = c.self.inside in
    let e = c.args.extent in
    let next : e.page ≡ count_of e.file i.placed.items = subst (λ (s : Places). e.page ≡ count_of e.file s.placed) (sym c.self.view_is) c.requires.next in
    let none : first_used e i.placed.items ≡ None = sym (c.first_owned.ensures i.blocks i.placed.items (subst (λ os. TellsOwners os i.blocks i.placed.items) (sym c.deref.ensures.value) c.self.invariant.1)) ∙ c.in-None.is in
    let at : c.end_of-at.result ≡ end_of e.file i.placed.items = c.end_of-at.ensures.value ∙ ap (end_of e.file) c.deref-in-None.ensures.value in
    let at-within : c.end_of-at.result ≤ length i.placed.items = subst (λ ps. c.end_of-at.result ≤ length ps) c.deref-in-None.ensures.value c.end_of-at.ensures.within in
    let new = pages_on e.file e.page (blocks_in e) in
    let turned : c.turn_in.new.placed.items ≡ take c.end_of-at.result i.placed.items ++ new ++ drop c.end_of-at.result i.placed.items = c.turn_in.ensures.turned i.placed.items new c.push_run.ensures.placed (sym (length_run e.file e.page e.block e.count)) at-within in
    let items : c.turn_in.new.placed.items ≡ after_place e i.placed.items = turned ∙ ap (λ n. take n i.placed.items ++ new ++ drop n i.placed.items) at ∙ sym (put_in_is e.file new i.placed.items) in (
      subst (λ (s : Places). first_used e s.placed ≡ None) c.self.view_is none,
      ap (places_of i.blocks) items ∙ ap (λ n. places_of i.blocks (put_in e.file (pages_on e.file n (blocks_in e)) i.placed.items)) next ∙ ap (λ (s : Places). with_blocks s e.file (blocks_in e)) c.self.view_is,
    )
