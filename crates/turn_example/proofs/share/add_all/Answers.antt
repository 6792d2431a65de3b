use Rattle.std.proofs.Common.{◌<◌, ℕ, List, length, slice_index_or, sum, ap, sym, ◌∙◌, subst}
use Rattle.std.specs.Prelude.{All}
use Rattle.turn_cell.specs.Passes.{view}
use Rattle.turn_example.specs.Counting.{total_at}
use Rattle.turn_example.specs.Crew.{IsReady, IsDone}
use Rattle.turn_example.specs.declared.counter.Start.{Start}
use Rattle.turn_example.specs.declared.job.Job.{Job}
use Rattle.turn_example.proofs.Shared.{ready_all, gathering_after, served_after, joined_after}
use Rattle.turn_example.proofs.Summed.{total_of_whole}
use Rattle.turn_example.proofs.share.add_all.Goals as goal

pub run_all-requires-after_bounds : goal.run_all-requires-after_bounds
run_all-requires-after_bounds g c κs within =
    subst (λ (xs : List Job). All (λ j. IsReady c.in-Ok.turn j) xs) (sym c.deref_mut.ensures.value) (ready_all c.in-Ok.turn c.in-Ok-seat_all.jobs.items c.in-Ok-seat_all.ensures.new)

pub join_all-requires-clause-root : goal.join_all-requires-clause-root
join_all-requires-clause-root g c =
    let long = c.run_all.ensures.len ∙ ap length c.deref_mut.ensures.value in
    let done = subst (λ (xs : List Job). (i : ℕ) (d : Job) → i < length xs → IsDone c.in-Ok.turn (slice_index_or xs i d) (slice_index_or c.run_all.new.jobs i d)) c.deref_mut.ensures.value c.run_all.ensures.done in
    gathering_after c.in-Ok.turn c.in-Ok-seat_all.jobs.items c.run_all.new.jobs c.in-Ok-seat_all.jobs.len c.seat_all.new.root c.in-Ok-seat_all.ensures.root long c.in-Ok-seat_all.jobs.ok.0 done

pub join_all-requires-clause-served : goal.join_all-requires-clause-served
join_all-requires-clause-served g c =
    let long = c.run_all.ensures.len ∙ ap length c.deref_mut.ensures.value in
    let done = subst (λ (xs : List Job). (i : ℕ) (d : Job) → i < length xs → IsDone c.in-Ok.turn (slice_index_or xs i d) (slice_index_or c.run_all.new.jobs i d)) c.deref_mut.ensures.value c.run_all.ensures.done in
    served_after c.in-Ok.turn c.in-Ok-seat_all.jobs.items c.run_all.new.jobs c.in-Ok-seat_all.jobs.len c.in-Ok-seat_all.ensures.new long c.in-Ok-seat_all.jobs.ok.0 done

pub returns-clause-total : goal.returns-clause-total
returns-clause-total g c =
    let long = c.run_all.ensures.len ∙ ap length c.deref_mut.ensures.value in
    let done = subst (λ (xs : List Job). (i : ℕ) (d : Job) → i < length xs → IsDone c.in-Ok.turn (slice_index_or xs i d) (slice_index_or c.run_all.new.jobs i d)) c.deref_mut.ensures.value c.run_all.ensures.done in
    let joined = joined_after c.in-Ok.turn c.in-Ok-seat_all.jobs.items c.run_all.new.jobs c.in-Ok-seat_all.jobs.len (sum c.args.amounts.now) c.seat_all.new.root c.join_all.new.root c.in-Ok-seat_all.ensures.root long c.in-Ok-seat_all.jobs.ok.0 done
    c.in-Ok-seat_all.ensures.sum c.in_ok-join_all.ensures.sum in
    total_of_whole (view c.join_all.new.root) c.args.counter.total (sum c.args.amounts.now) c.close.result.book.total c.close.ensures.whole c.in_ok-join_all.ensures.root.2 joined
    (c.close.ensures.book.2 ∙ ap (λ (o : Start). total_at o (view c.join_all.new.root).seen) c.in-Ok.ensures.turn)
