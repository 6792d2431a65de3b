use Rattle.std.proofs.Common.{◌≡◌, ◌<◌, ◌≤◌, ℕ, length, slice_index_or}
use Rattle.crews.specs.Crews.{IsSamePost, IsGathering}
use Rattle.crews.specs.declared.post.Post.{Post}
use Rattle.crews.proofs.joining.join_all.Given as goal

abbrev pub invariant-loop-post : goal.invariant-loop-post
invariant-loop-post g l =
    IsGathering g.D.Die.seen l.turn l.initial.posts l.post-index l.root
    × ((k : ℕ) (d : Post g.row.D.Denot g.row.J.Denot) → l.post-index ≤ k → k < length l.initial.posts → slice_index_or l.posts k d ≡ slice_index_or l.initial.posts k d)
    × ((k : ℕ) (d : Post g.row.D.Denot g.row.J.Denot) → k < length l.initial.posts → IsSamePost (slice_index_or l.initial.posts k d) (slice_index_or l.posts k d))
