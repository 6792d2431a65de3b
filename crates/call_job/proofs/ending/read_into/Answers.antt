use Rattle.std.proofs.Common.{ℕ, List, length, ap, ◌∙◌, arith}
use Rattle.std.proofs.lemmas.List.{length-take}
use Rattle.call_job.proofs.Executed.{slice_back, bytes_paged}
use Rattle.call_job.proofs.ending.read_into.Goals as goal

pub returns : goal.returns
returns c =
    let v = c.truncate.new.self in
    let size = c.fill.auto.data ∙ ap (λ (xs : List ℕ). length xs) c.deref_mut.ensures.value in
    let cut = ap (λ (xs : List ℕ). length xs) c.truncate.ensures.items in
    let many = length-take c.args.len c.args.data.items in
    let room = c.requires.room in
    c.new.ensures
    ∙ (slice_back v.items c.fill.new.data v.len (omega (arith, v.ok.0, size)) size
    ∙ bytes_paged c.args.pages.now c.fill.new.data c.args.start c.args.len (omega (arith, size, cut, many, room)) (λ k l. c.fill.ensures k (omega (arith, size, cut, many, room))))
