-- The invariant of the loop of `root_digits::digits` is `Taken` (`proofs/Turns.antt`), after as many turns as the counter says. Assumes nothing.
use Rattle.numeric.proofs.Turns.{Taken}
use Rattle.numeric.proofs.root_digits.digits.Given as goal

abbrev pub invariant-loop : goal.invariant-loop
invariant-loop l = Taken l.m l.q l.rem l.rest l.counter
