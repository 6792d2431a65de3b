use Rattle.std.proofs.Common.{ℕ, length, ap, ◌∙◌, refl, arith}
use Rattle.std.proofs.lemmas.List.{length-replicate}
use Rattle.call_job.proofs.Pools.{rest_is}
use Rattle.call_job.proofs.preparing.fill_job.Goals as goal

pub returns-clause-buffers : goal.returns-clause-buffers
returns-clause-buffers c = record {
  pool = omega (arith, c.in_ok-pages.ensures.pages);
  few = c.in_ok-pages.ensures.few;
  rest = rest_is _ c.args.request.call c.in_ok-pages.ensures.second c.in_ok-flat.ensures (ap length c.in_ok-data.ensures ∙ (length-replicate {A = ℕ} c.data_of.result 0 ∙ c.data_of.ensures)) c.in_ok-regions.ensures c.in_ok-code.ensures.room refl;
}
