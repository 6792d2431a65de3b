use Rattle.transcript_text.proofs.ReadAgain.{read_again}
use Rattle.transcript_text.proofs.PrintedHistories.{history_again}
use Rattle.transcript_text.proofs.laws.transcripts_read_again.Goals as goal

pub returns-clause-entries : goal.returns-clause-entries
returns-clause-entries c = read_again

pub returns-clause-histories : goal.returns-clause-histories
returns-clause-histories c = history_again
