use Rattle.transcript_text.proofs.ReadAgain.{read_again}
use Rattle.transcript_text.proofs.InForm.{in_form}
use Rattle.transcript_text.proofs.laws.entries_are_in_form.Goals as goal

pub returns-clause-form : goal.returns-clause-form
returns-clause-form c = in_form

pub returns-clause-again : goal.returns-clause-again
returns-clause-again c = λ lanes text entries counts are right read. read_again lanes entries counts are (in_form lanes text entries read) right
