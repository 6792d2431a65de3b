-- A counter tells which additions were made: histories that it stands for have the same ones. This project's own.
use Rattle.std.proofs.Common.{◌≡◌, List, sym, ◌∙◌}
use Rattle.turn_cell.specs.declared.book.Entry.{Entry}
use Rattle.turn_cell.specs.Events.{events_of}
use Rattle.turn_example.specs.declared.counter.Add.{Add}
use Rattle.turn_example.specs.declared.counter.Start.{Start}
use Rattle.turn_example.specs.declared.counter.Counter.{Counter}
use Rattle.turn_example.specs.Counting.{Stands}

pub same_events : (b : Counter) (o : Start) (h k : List (Entry Add)) → Stands b o h → Stands b o k → events_of h ≡ events_of k
same_events b o h k p q = sym p.0 ∙ q.0
