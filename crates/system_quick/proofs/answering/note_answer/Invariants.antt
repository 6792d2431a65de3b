use Rattle.core_state.specs.declared.event.Event.TheVariants.{Quick}
use Rattle.system_state.specs.Noted.{told_more}
use Rattle.system_quick.proofs.answering.note_answer.Given as goal

abbrev pub ghost-of3 : goal.ghost-of3
ghost-of3 a = told_more a._a.now.value (Quick a._c.now.0 a._b.now a._c.now.1.now)
