use Rattle.call_answers.proofs.Replies.{read_is, readl_reply}
use Rattle.call_answers.proofs.laws.reads_reply.Goals as goal

pub returns : goal.returns
returns k = record { read = read_is; readl = readl_reply }
