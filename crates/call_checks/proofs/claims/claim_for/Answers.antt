use Rattle.std.proofs.Common.{◌≡◌, ℕ, Option, ap, ◌∙◌, sym}
use Rattle.name_table.specs.declared.files.FileRec.{FileRec}
use Rattle.core_state.specs.Reach.{reach_of}
use Rattle.core_state.specs.State.{Claim, Reach}
use Rattle.plain_files.specs.declared.calls.Request.{Request}
use Rattle.call_checks.specs.Checks.{id_or, len_or}
use Rattle.call_checks.proofs.Limits.{id_same, len_same}
use Rattle.call_checks.proofs.claims.claim_for.Goals as goal

pub returns-clause-claim : goal.returns-clause-claim
returns-clause-claim c =
    let request = c.of.ensures in
    let id = c.id_or.ensures ∙ (ap id_or c.file_for-file.ensures ∙ sym (id_same c.args.names.now.files c.args.request.now.call)) in
    let len = c.len_or.ensures ∙ (ap len_or c.file_for-file.ensures ∙ sym (len_same c.args.names.now.files c.args.request.now.call)) in
    let reach = c.reach_of.ensures ∙ ap (reach_of c.args.request.now.call) len in
    λ i. record { request = request i; file = id i; side = c.args.side; reach = reach i }
