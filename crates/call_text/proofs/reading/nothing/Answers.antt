use Rattle.call_text.proofs.KeptSteps.{kept_nothing}
use Rattle.call_text.proofs.reading.nothing.Goals as goal

pub returns-clause-kept : goal.returns-clause-kept
returns-clause-kept c = (kept_nothing _ _ _ c.new.ensures.items c.new-2.ensures.items c.new-4.ensures.items, tt)
