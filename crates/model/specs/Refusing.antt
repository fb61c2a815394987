-- By which numbers a run that was accepted ends refused, whatever is answered: 10 to 16 in an inner solve, 10 to 18 in the loop, none in psi and d_psi; never by 6 to 8, which leave a run unchanged. Assumes nothing.
use Prim.Native.Nat.{ℕ, ◌≤◌}
use Rattle.model.specs.Process.{Answer, handed, refused, failed, Process, ask, score, begin, stop}

-- each refusal at an end has a number of which P holds
abbrev pub Refuses : {Q H : Type 0} → (ℕ → Type 0) → Process Q H → Type 0
Refuses P (ask q k continue) = (a : Answer k) → Refuses P (continue a)
Refuses P (score half norm p) = Refuses P p
Refuses P (begin p) = Refuses P p
Refuses P (stop (handed h)) = Unit {0}
Refuses P (stop (refused k)) = P k
Refuses P (stop (failed c)) = Unit {0}

-- a number from a to b
abbrev pub Among : ℕ → ℕ → ℕ → Type 0
Among a b k = (a ≤ k) × (k ≤ b)

-- ---- along a list of calls

-- whatever answer it takes, the process that it waits for refuses so
abbrev pub Awaits : {Q H : Type 0} → (ℕ → Type 0) → Process Q H → Type 0
Awaits P (ask q k continue) = (a : Answer k) → Refuses P (continue a)
Awaits P (score half norm p) = Unit {0}
Awaits P (begin p) = Unit {0}
Awaits P (stop e) = Unit {0}
