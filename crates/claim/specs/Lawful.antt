-- What a kind of run has to keep so that every list of its calls follows the process: its contract, in shared terms. Definitions only.
use Prim.Native.Nat.{ℕ, suc}
use Rattle.std.proofs.Math.Path.{◌≡◌}
use Rattle.std.specs.Prelude.{true, List, Float, length}
use Rattle.std.proofs.Math.Bool.{false}
use Rattle.std.proofs.Math.Option.{some}
use Rattle.model.specs.Process.{Process, handed, refused, failed, ask, score, begin, stop}
use Rattle.model.specs.Refusals.{Reply, wanted, answer_refusal, accept, remains}
use Rattle.model.specs.Carry.{end_of}
use Rattle.claim.specs.History.{Runs}

-- the table's number of the refusal or failure that a call has come to, 0 for none: a failure has 9
unfoldable pub refused_by : {Q H : Type 0} → Process Q H → ℕ
refused_by (ask q k continue) = 0
refused_by (score half norm p) = refused_by p
refused_by (begin p) = refused_by p
refused_by (stop (handed h)) = 0
refused_by (stop (refused m)) = m
refused_by (stop (failed c)) = 9

-- an accepted answer has come to the process q: the lent places held `was` and now `is`, o is the outcome and r the run returned
pub record ComesTo {Q H : Type 0} (k : Runs Q H) (s : k.Settings) (q : Process Q H) (was is : k.Lent) (o : k.Outcome) (r : k.Run) : Type 0 where
  pub settings : k.settings r ≡ s
  pub outcome : o ≡ k.said q
  pub process : k.rest r ≡ remains q
  pub wrote : is ≡ k.written s q was

-- a call that has come to q hands nothing back and writes nothing, or it hands h back
pub data Gives {Q H : Type 0} (k : Runs Q H) (s : k.Settings) (q : Process Q H) : Type 0 where
  nothing : k.hands (k.said q) ≡ false → ((was : k.Lent) → k.written s q was ≡ was) → Gives k s q
  back : (h : H) → end_of q ≡ some (handed h) → k.said q ≡ k.said (stop (handed h)) → ((was : k.Lent) → k.written s q was ≡ k.written s (stop (handed h)) was) → Gives k s q

-- the contract, in these terms, and what outcomes and lent places are
pub record Lawful {Q H : Type 0} (k : Runs Q H) : Type 0 where
  pub refuses : (r : k.Run) (a : Reply) (v : List Float) (lent wrote : k.Lent) (o : k.Outcome) (t : k.Run) → k.Answers r a v lent wrote o t
      → (m : ℕ) → answer_refusal (wanted (k.rest r)) a (length v) (k.right (k.settings r) lent) ≡ suc m → (o ≡ k.said (stop (refused (suc m)))) × (t ≡ r) × (wrote ≡ lent)
  pub accepts : (r : k.Run) (a : Reply) (v : List Float) (lent wrote : k.Lent) (o : k.Outcome) (t : k.Run) → k.Answers r a v lent wrote o t
      → answer_refusal (wanted (k.rest r)) a (length v) (k.right (k.settings r) lent) ≡ 0 → ComesTo k (k.settings r) (accept (k.rest r) a v) lent wrote o t
  pub numbered : (q : Process Q H) → k.number (k.said q) ≡ refused_by q
  pub gives : (s : k.Settings) (q : Process Q H) → Gives k s q
  pub hands : (h : H) → k.hands (k.said (stop (handed h))) ≡ true
