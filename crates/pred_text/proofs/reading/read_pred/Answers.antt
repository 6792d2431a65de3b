use Rattle.pred_text.proofs.Few.{if_read}
use Rattle.pred_text.proofs.reading.read_pred.Goals as goal

pub returns-clause-few : goal.returns-clause-few
returns-clause-few c = if_read c.args.text.now c.read_whole.result c.read_whole.ensures
