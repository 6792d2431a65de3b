use Rattle.std.proofs.Common.{◌≡◌, ◌≤◌, ◌^◌, ℕ, List, length, map, max, ap, ◌∙◌, arith}
use Rattle.std.specs.Prelude.{IfOk}
use Rattle.rayon.specs.Lists.{chunks_of}
use Rattle.rayon.proofs.ToStd.{chunks_of-All}
use Rattle.plain_files.specs.declared.calls.Reply.{Reply}
use Rattle.chunk_scan.specs.Replies.{as_reply}
use Rattle.chunk_scan.specs.Scan.{piece_reply}
use Rattle.chunk_scan.specs.Pieces.{pieces}
use Rattle.chunk_scan.proofs.Cuts.{chunks_are_pieces}
use Rattle.chunk_scan.proofs.Replies.{collected}
use Rattle.chunk_scan.proofs.scanning.scan.Goals as goal

pub collect-replies-requires-clause-ready : goal.collect-replies-requires-clause-ready
collect-replies-requires-clause-ready g c κs within =
    let size = c.args.chunk in
    let input = c.args.input.now in
    let short = chunks_of-All (max size 1) input (omega arith) in
    let most = c.requires.chunk.1 in
    let param : length c.as_slice-param.result.now ≤ 2 ^ 32 = omega (arith, ap (λ (b : List ℕ). length b) c.as_slice-param.ensures, c.requires.param) in
    rw (c.map.ensures.base, c.map.ensures.f, c.with_min_len.ensures.base, c.par_chunks.ensures.slice, c.par_chunks.ensures.size, c.as_slice-bytes.ensures)
    (λ k d lt x is. ((omega (arith, ap (λ (b : List ℕ). length b) is, (short k d lt).1, most), param), λ y p. tt))

pub returns-in-Ok : goal.returns-in-Ok
returns-in-Ok g c =
    let size = c.args.chunk in
    let input = c.args.input.now in
    let h = c.in-Ok.ensures in
    let chain = rw (c.map.ensures.base, c.map.ensures.f, c.with_min_len.ensures.base, c.par_chunks.ensures.slice, c.par_chunks.ensures.size, c.as_slice-bytes.ensures, c.as_slice-param.ensures) at h.1 in
    let f : List ℕ → Reply = piece_reply c.args.code.now c.args.fuel c.args.cap c.args.param.now in
    let cut : chunks_of (max size 1) input ≡ pieces size input = ap (λ n. chunks_of n input) (omega (arith, c.requires.chunk.0)) ∙ chunks_are_pieces size input (omega (arith, c.requires.chunk.0)) in
    let found : IfOk c.in-Ok.replies (λ v. map as_reply v.items ≡ map f (pieces size input)) = collected f (pieces size input) chain.0 h.0 c.in-Ok.replies (chain.1 ∙ cut) chain.2 h.2 in
    found
