-- The replies that a parallel iterator collects are those of the scan.
use Rattle.std.proofs.Common.{◌≡◌, ℕ, List, [], ◌∷◌, map, ap, ◌∙◌, refl, Bor, subst, Result, Ok, Err}
use Rattle.std.specs.Prelude.{IfOk, MatchResult, Contains}
use Rattle.std.specs.List.{AllZip}
use Rattle.std.specs.declared.vec.Vec.{Vec}
use Rattle.plain_files.specs.declared.calls.Reply.{Reply}
use Rattle.chunk_scan.specs.declared.reply.ScanReply.{ScanReply}
use Rattle.chunk_scan.specs.declared.reply.ScanErr.{ScanErr}
use Rattle.chunk_scan.specs.Replies.{as_reply}

-- the result on a piece, where it is no want of memory, is this reply
abbrev pub Replies : (List ℕ → Reply) → Bor (List ℕ) → Result ScanReply ScanErr → Type 0
Replies f piece result = IfOk result (λ reply. as_reply reply ≡ f piece.now)

each : (f : List ℕ → Reply) (pieces : List (Bor (List ℕ))) (replies : List ScanReply) → AllZip (Replies f) pieces (map Ok replies)
    → map as_reply replies ≡ map f (map (λ (p : Bor (List ℕ)). p.now) pieces)
each f [] [] h = refl
each f [] (r ∷ rs) h = absurd h
each f (p ∷ ps) [] h = absurd h
each f (p ∷ ps) (r ∷ rs) h = λ i. h.0 i ∷ each f ps rs h.1 i

pub collected : {A : Type 0} → (f : List ℕ → Reply) (cut : List (List ℕ)) (pieces : List (Bor (List ℕ))) (results : List (Result ScanReply ScanErr)) (replies : Result (Vec ScanReply A) ScanErr)
    → map (λ (p : Bor (List ℕ)). p.now) pieces ≡ cut → AllZip (Replies f) pieces results
    → MatchResult replies (λ v. (ys : List ScanReply) × (results ≡ map Ok ys) × (v.items ≡ ys)) (λ e. Contains results (Err e))
    → IfOk replies (λ v. map as_reply v.items ≡ map f cut)
collected f cut pieces results (Ok v) shown all h =
    ap (map as_reply) h.2 ∙ each f pieces h.0 (subst (AllZip (Replies f) pieces) h.1 all) ∙ ap (map f) shown
collected f cut pieces results (Err e) shown all h = tt
