-- What the calls by value give, as the machine has it. Definitions only.
use Rattle.std.specs.Prelude.{List, replicate, Float}
use Rattle.ieee.specs.Numbers.{null}
use Rattle.std.specs.declared.result.Result.{Result}
use Rattle.machine.specs.Shown.{Shown}
use Rattle.machine.specs.InnerRun as M
use Rattle.panoc_engine.specs.declared.panoc_cache.Question.{Question}
use Rattle.panoc_engine.specs.declared.panoc_cache.SolverStatus.{SolverStatus}
use Rattle.panoc_engine.specs.declared.panoc_cache.Run.{Run}
use Rattle.panoc_engine.specs.declared.outcome.Outcome.{Outcome}
use Rattle.panoc_engine.specs.declared.outcome.Answered.{Answered}
use Rattle.panoc_engine.specs.declared.outcome.Refusal.{Refusal}
use Rattle.panoc_engine.specs.Told.{number_in}
use Rattle.panoc_engine.specs.Values.{told_of}
use Rattle.panoc_engine.specs.Runs.{run_of}

-- what a call gives
abbrev pub gave : Answered (Outcome Question SolverStatus) Run → M.Left
gave r = record { told = told_of r.outcome; run = run_of r.run.solve r.run.board }

-- a board of zeros
unfoldable pub no_places : List Float
no_places = replicate 576 null

-- what a call gives that is lent two slices, which hold xs and ys then
abbrev pub shows : Result (Unit {0}) Refusal → List Float → List Float → Shown
shows r xs ys = record { number = number_in r; first = xs; second = ys }
