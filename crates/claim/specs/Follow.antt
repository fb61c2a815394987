-- What is left after a list of calls, and what one call more leaves: the records by which the lists are followed. Definitions only.
use Rattle.std.specs.Prelude.{◌≡◌, true, false, List, ◌∷◌}
use Rattle.model.specs.Process.{Process, handed, stop}
use Rattle.model.specs.Paths.{Watch}
use Rattle.claim.specs.History.{Runs, Call}
use Rattle.claim.specs.Trace.{comes_to, remaining, trace, watched, turned_down, accepted, total_weight}
use Rattle.claim.specs.Claim.{Unchanged}

-- what a call has handed back
pub record Back {Q H S : Type 0} (k : Runs Q H) (s : k.Settings) (p : Process Q H) (w : Watch Q S) (P : S → H → Type 0) (x : S) (c : Call k) (cs : List (Call k)) : Type 0 where
  pub what : H
  pub outcome : c.outcome ≡ k.said (stop (handed what))
  pub wrote : c.wrote ≡ k.written s (stop (handed what)) c.lent
  pub holds : P (watched w x (trace k s p (c ∷ cs))) what

module _ {Q H : Type 0} (k : Runs Q H) (s : k.Settings) (p : Process Q H) where
  -- the run t is left after the calls
  pub record After (cs : List (Call k)) (t : k.Run) : Type 0 where
    pub settings : k.settings t ≡ s
    pub rest : k.rest t ≡ remaining k s p cs

  -- what one call more says and leaves
  pub record One (cs : List (Call k)) (t : k.Run) (c : Call k) : Type 0 where
    pub after : After (c ∷ cs) c.run
    pub says : c.outcome ≡ k.said (comes_to k s (remaining k s p cs) c)
    pub writes : c.wrote ≡ k.written s (comes_to k s (remaining k s p cs) c) c.lent
    pub unchanged : turned_down k c ≡ true → Unchanged k t c
    pub kept : k.hands c.outcome ≡ false → c.wrote ≡ c.lent
    pub count : accepted k cs ≡ total_weight (λ q. 1) (trace k s p cs) → accepted k (c ∷ cs) ≡ total_weight (λ q. 1) (trace k s p (c ∷ cs))
