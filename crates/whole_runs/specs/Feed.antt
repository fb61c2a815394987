-- A list of answers fed to a run: what the lent list says, and the calls that are made of it, one for each answer. Definitions only.
use Rattle.std.specs.Prelude.{◌≡◌, List, [], ◌∷◌, Float, take, drop}
use Rattle.std.proofs.Math.Option.{some}
use Rattle.panoc_engine.specs.Values.{reply_of}
use Rattle.claim.specs.History.{Runs, Call, History}
use Rattle.claim.specs.History as P
use Rattle.whole_runs.specs.declared.answers.Answer.{Answer}

-- what the lent list says: each answer with as many of the next floats as it names, as far as they go
abbrev pub answers : List Answer → List Float → List P.Answer
answers [] v = []
answers (a ∷ more) v = record { reply = some (reply_of a.reply); vector = take a.length v } ∷ answers more (drop a.length v)

module _ {Q H : Type 0} (k : Runs Q H) where
  -- the answers of the calls cs, the latest first, and then those of xs
  abbrev pub onto : List (Call k) → List P.Answer → List P.Answer
  onto [] xs = xs
  onto (c ∷ cs) xs = onto cs (record { reply = c.reply; vector = c.vector } ∷ xs)

  -- what the latest call told, o where there is none
  abbrev pub latest_outcome : k.Outcome → List (Call k) → k.Outcome
  latest_outcome o [] = o
  latest_outcome o (c ∷ cs) = c.outcome

  -- what it left in the lent places, w where there is none
  abbrev pub latest_wrote : k.Lent → List (Call k) → k.Lent
  latest_wrote w [] = w
  latest_wrote w (c ∷ cs) = c.wrote

  -- each call was lent what the call before it left, the first one w
  abbrev pub HandedOn : k.Lent → List (Call k) → Type 0
  HandedOn w [] = Unit {0}
  HandedOn w (c ∷ cs) = (c.lent ≡ latest_wrote w cs) × HandedOn w cs

  -- Of the answers xs those before `more` are fed to a run that began as r and told o, w being the lent places; the last call told o', left w' there and returned t.
  pub record Fed (r : k.Run) (o : k.Outcome) (w : k.Lent) (xs more : List P.Answer) (o' : k.Outcome) (w' : k.Lent) (t : k.Run) : Type 0 where
    pub calls : List (Call k)
    -- a call for each answer, in their order
    pub answers : onto calls more ≡ xs
    -- "Each answer gets the run that the call before returned, refused or not"
    pub history : History k r calls t
    pub handed_on : HandedOn w calls
    pub outcome : o' ≡ latest_outcome o calls
    pub wrote : w' ≡ latest_wrote w calls
