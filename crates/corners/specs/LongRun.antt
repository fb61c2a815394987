-- Inner solves with M = 1 that spend all their 86 questions: ten doublings in each of two steps, and eleven candidates. Assumes nothing.
use Rattle.std.specs.Prelude.{ℕ, zero, suc, ◌+◌, ◌-◌, ◌*◌, ◌^◌, ◌≡◌, refl, true, List, [], ◌∷◌, Float, length}
use Rattle.std.proofs.Math.Option.{none}
use Rattle.std.specs.Float.{binary64}
use Rattle.std.specs.Float.Ieee.{neg}
use Rattle.ieee.specs.Numbers.{null}
use Rattle.model.specs.Process.{Question, Handed, handed, not_converged_iterations}
use Rattle.model.specs.State.{Settings}
use Rattle.model.specs.Refusals.{start_inner}
use Rattle.model.specs.Play.{scored, began, ended}
use Rattle.model.specs.Script.{int, ◌·2^◌, ◌/2^◌, only, number, vector, answer_yes, COST, GRADIENT, PROJECT, DIRECTION, TIME, Entry, says, ◌▷◌, answers_in, Goes, all_inner}

-- of an inner solve
abbrev Transcript : Type 0
Transcript = List (Entry Question Handed)

-- no AKKT tolerance, TIME is asked, M = 1
abbrev settings : Settings
settings = record { n = 1; limit = 1; limited = true; tolerance = 1 /2^ 30; akkt = none }

-- 1048574.9514250485, whose shift leads to 1048576. The gradient is 1 everywhere but at that u, so that γ starts at 1
abbrev start : List Float
start = only (1125898780943843 /2^ 30)

-- 1048576 - 2^-k
abbrev near : ℕ → List Float
near k = only ((2 ^ (20 + k) - 1) /2^ k)

-- 1048576 - 2^-10 - 2^-(10 + k)
abbrev nearer : ℕ → List Float
nearer k = only (((2 ^ 30 - 1) * 2 ^ k - 1) /2^ (10 + k))

-- the candidate for τ = 2^-j: 1048576 - 2^-10 - 2^-20 - 2^-j
abbrev candidate : ℕ → List Float
candidate j = only ((2 ^ 40 - 1025 - 2 ^ (20 - j)) /2^ 20)

-- a gradient step from there
abbrev stepped : ℕ → List Float
stepped j = only ((2 ^ 39 - 513 - 2 ^ (19 - j)) /2^ 19)

-- a half step 2^-8 further on, so that the candidate is above what it is held to
abbrev missed : ℕ → List Float
missed j = only ((2 ^ 39 - 2561 - 2 ^ (19 - j)) /2^ 19)

-- c rounds of doubling from γ = 2^-k on: the half step is the gradient step, and costs too much
rounds : (ℕ → List Float) → ℕ → ℕ → Transcript → Transcript
rounds at k zero later = later
rounds at k (suc c) later = PROJECT (at k) ▷ vector (at k) ∷ COST (at k) ▷ number (int 1) ∷ rounds at (suc k) c later

-- c candidates from τ = 2^-j on, each above what it is held to
tries : ℕ → ℕ → Transcript → Transcript
tries j zero later = later
tries j (suc c) later =
    COST (candidate j) ▷ number (neg (int 1)) ∷ GRADIENT (candidate j) ▷ vector (only (int 1)) ∷ PROJECT (stepped j) ▷ vector (missed j) ∷ tries (suc j) c later

-- all but the answer to the last PROJECT, which is h, and what follows it
unfoldable spent : List Float → Transcript → Transcript
unfolding rounds tries
spent h later =
    says began
    ∷ COST start ▷ number null
    ∷ GRADIENT start ▷ vector (only (int 1))
    ∷ GRADIENT (only (1 ·2^ 20)) ▷ vector (only (4443124451329665 /2^ 60))
    ∷ PROJECT (only (int 1048575)) ▷ vector (only (int 1048575))
    ∷ says (scored (only (int 1048575)) (int 1))
    ∷ COST (only (int 1048575)) ▷ number (int 1)
    ∷ rounds near 1 10
    (DIRECTION true (only (1 /2^ 10)) (only (1 ·2^ 20)) ▷ vector (only null)
    ∷ COST (near 10) ▷ number null
    ∷ GRADIENT (near 10) ▷ vector (only (int 1))
    ∷ PROJECT (near 9) ▷ vector (near 9)
    ∷ TIME ▷ answer_yes
    ∷ says (scored (near 9) (1 /2^ 10))
    ∷ COST (near 9) ▷ number (int 1)
    ∷ rounds nearer 1 10
    (DIRECTION true (only (1 /2^ 20)) (near 10) ▷ vector (only (1048577 /2^ 20))
    ∷ tries 0 10
    (COST (candidate 10) ▷ number (neg (int 1)) ∷ GRADIENT (candidate 10) ▷ vector (only (int 1)) ∷ PROJECT (stepped 10) ▷ vector h ∷ later)))

-- The eleventh candidate is above what it is held to, like the ten before. u is that candidate all the same: the last norm is of it minus its half step, 2^-8 + 2^-20, and the best half step stays that of the second step.
pub overwritten : Transcript
unfolding spent
overwritten =
    spent (missed 10)
    (says (scored (missed 10) (4097 /2^ 20))
    ∷ COST (near 9) ▷ number null
    ∷ says (ended (handed (record { plan = near 9; status = not_converged_iterations; iterations = 1; norm = 1 /2^ 10; cost = null })))
    ∷ [])

-- so the run goes
pub fallback_overwritten : Goes (start_inner binary64 settings start) overwritten
unfolding all_inner overwritten
fallback_overwritten = refl

-- the eleventh candidate is accepted
pub accepted : Transcript
unfolding spent
accepted =
    spent (stepped 10)
    (says (scored (stepped 10) (1 /2^ 20))
    ∷ COST (stepped 10) ▷ number null
    ∷ says (ended (handed (record { plan = stepped 10; status = not_converged_iterations; iterations = 1; norm = 1 /2^ 20; cost = null })))
    ∷ [])

-- so that run goes, and its answers are 86
pub spends_86 : Goes (start_inner binary64 settings start) accepted × (length (answers_in accepted) ≡ 86)
unfolding all_inner accepted
spends_86 = (refl, refl)
