use Rattle.turn_example.proofs.pair.two.Goals as goal

pub returns-clause-whole : goal.returns-clause-whole
returns-clause-whole g c = rw c.close.ensures.front c.close.ensures.whole
