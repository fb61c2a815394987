-- `play::resize` meets its contract: behind what stood when the loop began stand as many zeros as were counted since. Assumes nothing.
use Rattle.std.proofs.Common.{◌≡◌, ◌≤◌, ◌-◌, ◌++◌, length, min, replicate}
use Rattle.ieee.specs.Numbers.{null}
use Rattle.transcript.proofs.play.resize.Given as goal

abbrev pub invariant-loop : goal.invariant-loop
invariant-loop l =
    record {
      text : l.lent.items ≡ l.initial.lent.items ++ replicate (l.counter - length l.initial.lent.items) null;
      count : length l.lent.items ≡ l.counter;
      since : length l.initial.lent.items ≤ l.counter;
      most : l.counter ≤ l.end;
      end : l.end ≡ min l.places 128;
    }
