use Rattle.drive_array.proofs.Dealing.{IsDealt}
use Rattle.drive_array.proofs.spreading.deal.Given as goal

abbrev pub invariant-loop-page : goal.invariant-loop-page
invariant-loop-page l = IsDealt l.dies l.number l.yielded l.initial.shares.items l.shares.items
