-- The structs of an inner solve and of a loop for C, whose calls each have one contract, `Leaves`. Definitions only.
use Rattle.std.specs.Prelude.{◌≡◌, List, Float}
use Rattle.std.specs.Float.{binary64}
use Rattle.machine.specs.InnerAnswer.{start}
use Rattle.panoc_engine.specs.declared.panoc_cache.Settings.{Settings}
use Rattle.panoc_engine.specs.Values.{settings_of}
use Rattle.panoc_engine.specs.Runs.{run_of}
use Rattle.panoc_engine.specs.Blank.{blank}
use Rattle.panoc_fields.specs.declared.fields.InnerC.{InnerC}
use Rattle.panoc_fields.specs.Fields.{run_at, answer_at, seen, exact, Leaves}
use Rattle.model.specs.Loop.{LoopSettings}
use Rattle.machine.specs.LoopRun as Loop
use Rattle.machine.specs.LoopAnswer as LoopAnswer
use Rattle.alm_fields.specs.declared.fields.AlmC.{AlmC}
use Rattle.alm_fields.specs.Fields as L
use Rattle.claim.specs.ForC.{Structs}
use Rattle.claim.specs.Inner.{inner_runs}
use Rattle.claim.specs.Loop.{loop_runs}

-- its calls of any kind, and the quick ones for a number and for a vector
abbrev pub inner_c : Structs (inner_runs binary64)
inner_c =
    record {
      Struct = InnerC;
      run = λ r. run_at r.inner r.board;
      Leaves = λ was c. Leaves c.reply c.vector c.lent c.wrote was c.run c.number;
      tells = λ was c. (answer_at was c.reply c.vector c.lent).told;
    }

-- a start at u that got the number 0, as the contract of the start for C has it
abbrev pub Begun : Settings → List Float → InnerC → InnerC → Type 0
Begun set u was is = seen 0 is.inner is.board ≡ exact (start (settings_of set) u (run_of (blank set) was.board)) was.inner.end

-- ---- the loop
abbrev pub loop_c : Structs (loop_runs binary64)
loop_c =
    record {
      Struct = AlmC;
      run = λ r. L.loop_run_at r.inner r.alm r.board;
      Leaves = λ was c. L.Leaves c.reply c.vector c.lent.u c.wrote.u c.lent.xi c.wrote.xi was c.run c.number;
      tells = λ was c. (L.answer_at was c.reply c.vector c.lent.u c.lent.xi).told;
    }

-- a start at u and xi that got the number 0; r is what the struct held before
abbrev pub LoopBegun : LoopSettings → List Float → List Float → Loop.Run → AlmC → AlmC → Type 0
LoopBegun set u xi r was is = L.seen 0 is.inner is.alm is.board ≡ L.exact (LoopAnswer.start binary64 set u xi r) was.alm.end
