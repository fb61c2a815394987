-- The calls that a host makes of a run of a machine that is kept in any way: by value, in place, or for C. Definitions only.
use Rattle.std.specs.Prelude.{List, [], ◌∷◌}
use Rattle.machine.specs.Keeping.{Input, Machine, Keeping, Seen}
use Rattle.claim.specs.History.{Runs, Call}

-- What a machine's run, lent places and outcome are in a kind of run: the same, for each of the four.
pub record Same {Q H : Type 0} (k : Runs Q H) (m : Machine) : Type 0 where
  pub run : m.Run → k.Run
  pub lent : m.Lent → k.Lent
  pub outcome : m.Told → k.Outcome

module _ {Q H : Type 0} {k : Runs Q H} {m : Machine} (same : Same k m) (kept : Keeping m) where
  abbrev pub kept_call : Input m.Lent → Seen kept → Call k
  kept_call i o =
      record { reply = i.reply; vector = i.vector; lent = same.lent i.lent; wrote = same.lent o.wrote; outcome = same.outcome o.told; run = same.run (kept.run o.state) }

  -- the first answer first, onto the earlier calls cs, the latest first
  abbrev pub kept_calls : List (Input m.Lent) → List (Seen kept) → List (Call k) → List (Call k)
  kept_calls (i ∷ is) (o ∷ os) cs = kept_calls is os (kept_call i o ∷ cs)
  kept_calls [] os cs = cs
  kept_calls (i ∷ is) [] cs = cs

  -- the state that the last answer left, x where there is none
  abbrev pub last_state : kept.State → List (Seen kept) → kept.State
  last_state x [] = x
  last_state x (o ∷ os) = last_state o.state os
