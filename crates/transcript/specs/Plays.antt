-- What the program keeps from line to line, and what each line leaves of it. Definitions only.
use Rattle.std.specs.Prelude.{◌≡◌, ℕ, ◌-◌, false, cond, ltb, List, [], ◌∷◌, ◌++◌, Option, Some, None, Float, codes, length, min, take, replicate}
use Rattle.std.specs.Float.{binary64}
use Rattle.ieee.specs.Numbers.{null}
use Rattle.model.specs.Refusals.{Reply}
use Rattle.words.specs.Printing.{counted_text, point_text}
use Rattle.machine.specs.InnerRun as Inner
use Rattle.machine.specs.InnerAnswer as InnerAnswer
use Rattle.machine.specs.LoopRun as Loop
use Rattle.machine.specs.LoopAnswer as LoopAnswer
use Rattle.machine.specs.PsiRun as Psi
use Rattle.machine.specs.PsiCalls.{PsiStarts, DPsiStarts, psi_answer, d_psi_answer, handed_out}
use Rattle.panoc_engine.specs.Runs.{run_of}
use Rattle.alm_engine.specs.LoopRuns.{loop_run}
use Rattle.alm_factory.specs.Runs.{psi_of, d_psi_of}
use Rattle.panoc_engine.specs.declared.panoc_cache.Settings.{Settings}
use Rattle.panoc_engine.specs.Values.{settings_of, reply_of}
use Rattle.panoc_engine.specs.Blank.{blank}
use Rattle.panoc_optimizer.specs.Calls.{no_places}
use Rattle.alm_engine.specs.declared.alm_cache.AlmSettings.{AlmSettings}
use Rattle.alm_engine.specs.Values.{loop_settings_of}
use Rattle.alm_optimizer.specs.Calls.{loop_blank}
use Rattle.alm_optimizer.specs.Calls as Alm
use Rattle.alm_factory.specs.declared.records.Sizes.{Sizes}
use Rattle.alm_factory.specs.Values.{sizes_of}
use Rattle.script.specs.declared.command.Command.{Command}
use Rattle.script.specs.declared.command.Command.TheVariants as C
use Rattle.script.specs.declared.command.Said.{Said}
use Rattle.script.specs.declared.sets.SetLine.{SetLine}
use Rattle.script.specs.Lines.{meant}
use Rattle.script.specs.SetLines.{set_meant}
use Rattle.transcript.specs.declared.play.Open.{Open}
use Rattle.transcript.specs.declared.play.Open.TheVariants as O
use Rattle.transcript.specs.declared.play.Play.{Play}
use Rattle.transcript.specs.declared.table.Table.{Table}
use Rattle.transcript.specs.Tables.{Kept, kept, changed}
use Rattle.transcript.specs.Texts.{inner_line, loop_line, psi_line, d_psi_line}

-- the run that stands open, as the machine has it
pub data Standing : Type 0 where
  inner : Inner.Run → Standing
  loop : Loop.Run → Standing
  psi : Psi.PsiRun → Standing
  d_psi : Psi.DPsiRun → Standing

abbrev pub standing : Open → Standing
standing (O.Inner r) = Standing.inner (run_of r.solve r.board)
standing (O.Loop r) = Standing.loop (loop_run r.alm r.board)
standing (O.Psi r) = Standing.psi (psi_of r)
standing (O.DPsi r) = Standing.d_psi (d_psi_of r)

-- what a line leaves: the open run, the lent places, and what is printed
pub record Turned : Type 0 where
  pub open_run : Standing
  pub u : List Float
  pub xi : List Float
  pub printed : List ℕ

abbrev pub turned : Play → List ℕ → Turned
turned p line = record { open_run = standing p.open; u = p.u.items; xi = p.xi.items; printed = line }

-- ---- lend and show

-- so many places, as far as there is room: those past the old end hold 0
abbrev pub resized : ℕ → List Float → List Float
resized n xs = take n xs ++ replicate (min n 128 - length xs) null

-- lend LENGTH_U LENGTH_XI: psi lends nothing, d_psi its result alone
abbrev pub lent_text : ℕ → ℕ → List ℕ
lent_text n m = counted_text (codes "lent ") n ++ counted_text (codes " ") m

unfoldable pub lent_on : ℕ → ℕ → Standing → List Float → List Float → Turned
lent_on n m (Standing.inner r) us xis = record { open_run = Standing.inner r; u = resized n us; xi = resized m xis; printed = lent_text n m }
lent_on n m (Standing.loop r) us xis = record { open_run = Standing.loop r; u = resized n us; xi = resized m xis; printed = lent_text n m }
lent_on n m (Standing.psi r) us xis = record { open_run = Standing.psi r; u = us; xi = xis; printed = lent_text n m }
lent_on n m (Standing.d_psi r) us xis = record { open_run = Standing.d_psi r; u = resized n us; xi = xis; printed = lent_text n m }

-- show
abbrev pub lent_shown : List Float → List Float → List ℕ
lent_shown us xis = point_text (codes "lent") us ++ point_text (codes " xi") xis

-- ---- an answer goes to the open run with the places that are lent, and the run that the call gives stands open then
abbrev pub inner_turn : Inner.Left → List Float → List Float → Turned
inner_turn l us xis = record { open_run = Standing.inner l.run; u = InnerAnswer.plan_after l us; xi = xis; printed = inner_line l }

abbrev pub loop_turn : Loop.Left → List Float → List Float → Turned
loop_turn l us xis = record { open_run = Standing.loop l.run; u = LoopAnswer.plan_after l us; xi = LoopAnswer.xi_after l xis; printed = loop_line l }

abbrev pub psi_turn : Psi.PsiLeft → List Float → List Float → Turned
psi_turn l us xis = record { open_run = Standing.psi l.run; u = us; xi = xis; printed = psi_line l }

abbrev pub d_psi_turn : Psi.DPsiLeft → List Float → List Float → Turned
d_psi_turn l us xis = record { open_run = Standing.d_psi l.run; u = handed_out l us; xi = xis; printed = d_psi_line l }

unfoldable pub answered : Reply → List Float → Standing → List Float → List Float → Turned
answered a v (Standing.inner r) us xis = inner_turn (InnerAnswer.answer binary64 r a v us) us xis
answered a v (Standing.loop r) us xis = loop_turn (LoopAnswer.answer binary64 r a v us xis) us xis
answered a v (Standing.psi r) us xis = psi_turn (psi_answer binary64 a v r) us xis
answered a v (Standing.d_psi r) us xis = d_psi_turn (d_psi_answer binary64 a v us r) us xis

-- ---- a start: the run that the call gives stands open, refused or not; us and xis are what the line lends

-- of an inner solve, and of a loop
abbrev pub inner_opens : Inner.Left → List Float → Turned
inner_opens l us = record { open_run = Standing.inner l.run; u = us; xi = []; printed = inner_line l }

abbrev pub inner_started : Settings → List Float → Turned
inner_started s us = inner_opens (InnerAnswer.start (settings_of s) us (run_of (blank s) no_places)) us

abbrev pub loop_opens : Loop.Left → List Float → List Float → Turned
loop_opens l us xis = record { open_run = Standing.loop l.run; u = us; xi = xis; printed = loop_line l }

abbrev pub loop_started : AlmSettings → List Float → List Float → Turned
loop_started s us xis = loop_opens (LoopAnswer.start binary64 (loop_settings_of s) us xis (loop_run (loop_blank s) Alm.no_places)) us xis

-- of psi, and of d_psi, whose lent result holds n zeros
pub record PsiStarted (s : Sizes) (us xis : List Float) (t : Turned) : Type 0 where
  pub left : Psi.PsiLeft
  pub starts : PsiStarts (sizes_of s) us xis left
  pub turns : t ≡ psi_turn left us xis

pub record DPsiStarted (s : Sizes) (us xis : List Float) (t : Turned) : Type 0 where
  pub left : Psi.DPsiLeft
  pub starts : DPsiStarts (sizes_of s) us xis left
  pub turns : t ≡ record { open_run = Standing.d_psi left.run; u = resized s.n []; xi = xis; printed = d_psi_line left }

-- what the program begins with: an inner solve at n = 0, which is refused, and nothing lent
abbrev pub nothing : Settings
nothing = record { n = 0; max_iter = 0; limited = false; tolerance = null; akkt_tolerance = None }

abbrev pub opened : Turned
opened = record (inner_started nothing (null ∷ [])) { u = []; printed = [] }

-- ---- a line: what it says, none of one that is too long
abbrev pub heard : {A : Type 0} → (List ℕ → Option A) → List ℕ → Option A
heard meaning line = cond (ltb 4096 (length line)) None (meaning line)

-- a line that says nothing
abbrev pub bad : Standing → List Float → List Float → Turned
bad o us xis = record { open_run = o; u = us; xi = xis; printed = codes "bad" }

-- what a command does, with the floats vs and ws behind it
abbrev pub Does : Command → List Float → List Float → Standing → List Float → List Float → Turned → Type 0
Does (C.Inner s) vs ws o us xis t = t ≡ inner_started s vs
Does (C.Loop s) vs ws o us xis t = t ≡ loop_started s vs ws
Does (C.Psi s) vs ws o us xis t = PsiStarted s vs ws t
Does (C.DPsi s) vs ws o us xis t = DPsiStarted s vs ws t
Does (C.Answer a) vs ws o us xis t = t ≡ answered (reply_of a) vs o us xis
Does (C.Lend n m) vs ws o us xis t = t ≡ lent_on n m o us xis
Does C.Show vs ws o us xis t = t ≡ record { open_run = o; u = us; xi = xis; printed = lent_shown us xis }

abbrev pub Says : Option (Said 128 128) → Standing → List Float → List Float → Turned → Type 0
Says None o us xis t = t ≡ bad o us xis
Says (Some s) o us xis t = Does s.command s.first.items s.second.items o us xis t

-- what a line leaves of the open run with its places and of the table, k before and k' after: a line of sets goes to the table, any other leaves it
abbrev pub Turns : Option SetLine → Option (Said 128 128) → Standing → List Float → List Float → Kept → Turned → Kept → Type 0
Turns (Some s) said o us xis k t k' = (k' ≡ changed s.change s.floats.items k) × (t ≡ record { open_run = o; u = us; xi = xis; printed = k'.printed })
Turns None said o us xis k t k' = Says said o us xis t × (k' ≡ record k { printed = t.printed })

-- the same of what the program keeps
abbrev pub LineTurns : List ℕ → Play → Table → Play → Table → List ℕ → Type 0
LineTurns line p b p' b' printed =
    Turns (heard set_meant line) (heard (meant 128 128) line) (standing p.open) p.u.items p.xi.items (kept b []) (turned p' printed) (kept b' printed)
