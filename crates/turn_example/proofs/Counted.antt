-- One more amount.
use Rattle.std.proofs.Common.{◌≡◌, ℕ, ◌+◌, ◌%◌, ◌^◌, List, [], ◌∷◌, ◌++◌, length, sym, ap, ◌∙◌, arith, length-append}
use mathlib.Core.List.{map-append}
use Rattle.turn_cell.specs.History.{entry}
use Rattle.turn_cell.specs.declared.book.Entry.{Entry}
use Rattle.turn_cell.specs.Events.{events_of}
use Rattle.turn_example.specs.Counting.{Stands, sum_of}
use Rattle.turn_example.specs.declared.counter.Add.{Add}
use Rattle.turn_example.specs.declared.counter.Start.{Start}
use Rattle.turn_example.specs.declared.counter.Counter.{Counter}

pub sum_end : (xs : List Add) (x : Add) → sum_of (xs ++ x ∷ []) ≡ sum_of xs + x.amount
sum_end [] x = omega arith
sum_end (y ∷ xs) x = let i = sum_end xs x in omega arith

mod_more : (c x a : ℕ) → c ≡ x % 2 ^ 64 → (c + a) % 2 ^ 64 ≡ (x + a) % 2 ^ 64
mod_more c x a e = omega arith

pub one_more : (c d : Counter) (o : Start) (h : List (Entry Add)) (n : ℕ) (e : Add) → Stands c o h → d.past.value ≡ c.past.value ++ e ∷ [] → d.made ≡ (c.made + 1) % 2 ^ 64 → d.total ≡ (c.total + e.amount) % 2 ^ 64
    → Stands d o (h ++ entry n e ∷ [])
one_more c d o h n e s past made total =
    let events : events_of (h ++ entry n e ∷ []) ≡ events_of h ++ e ∷ [] = map-append (λ (z : Entry Add). z.event) h (entry n e ∷ []) in
    let long = length-append h (entry n e ∷ []) in (
      past ∙ (ap (λ z. z ++ e ∷ []) s.0 ∙ sym events),
      made ∙ (mod_more c.made (o.made + length h) 1 s.1 ∙ ap (λ z. z % 2 ^ 64) (omega arith)),
      total ∙ (mod_more c.total (o.total + sum_of (events_of h)) e.amount s.2 ∙ ap (λ z. z % 2 ^ 64) (let q = ap sum_of events in let r = sum_end (events_of h) e in omega arith)),
    )
