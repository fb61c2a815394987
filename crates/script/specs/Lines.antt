-- What a line says: TRANSCRIPT.md, "Starts" and "Answers". Definitions only.
use Rattle.std.specs.Prelude.{ℕ, List, [], ◌∷◌, Option, Some, None, nat_lt, if◌then◌else◌}
use Rattle.std.specs.Float.Ieee.{Float}
use Rattle.words.specs.Splitting.{words_of}
use Rattle.words.specs.declared.keywords.Keyword.{Keyword}
use Rattle.script.specs.declared.command.Command.{Command}
use Rattle.script.specs.declared.command.Said.{Said}
use Rattle.panoc_engine.specs.declared.panoc_cache.Reply.{Reply}
use Rattle.alm_factory.specs.declared.records.Sizes.{Sizes}
use Rattle.words.specs.Fields.{Left, Field, ◌>>=◌, whole_field, code_field, flag_field, float_field, tolerance_field, floats_field, rest_field}
use Rattle.words.specs.Keywords.{keyword_of}

-- N N1 N2
unfoldable pub sizes_field : Left → Field Sizes
sizes_field s = do
  (n, s) ← whole_field s
  (n1, s) ← whole_field s
  (n2, s) ← whole_field s
  Some (record { n = n; n1 = n1; n2 = n2 }, s)

-- a and b are how many places may be lent of u and of xi; none for a line of another form
module _ (a b : ℕ) where
  -- a command, with the floats behind it: u or the vector, and xi
  abbrev pub with_floats : Command → List Float → List Float → Said a b
  with_floats c us xis = record { command = c; first = record { items = us }; second = record { items = xis } }

  abbrev pub plain : Command → Said a b
  plain c = with_floats c [] []

  -- nothing may be left
  abbrev pub closed : Left → Command → Option (Said a b)
  closed [] c = Some (plain c)
  closed (w ∷ s) c = None

  -- an answer without a vector
  abbrev pub answered : Left → Reply → Option (Said a b)
  answered s g = closed s (Command.Answer g)

  -- number X
  unfoldable pub number_line : Left → Option (Said a b)
  number_line s = do
    (x, s) ← float_field s
    answered s (Reply.Number x)

  -- vector X...
  unfoldable pub vector_line : Left → Option (Said a b)
  vector_line s = do
    xs ← rest_field a [] s
    Some (with_floats (Command.Answer Reply.Vector) xs [])

  -- failure CODE
  unfoldable pub failure_line : Left → Option (Said a b)
  failure_line s = do
    (code, s) ← code_field s
    answered s (Reply.Failure code)

  -- lend LENGTH_U LENGTH_XI
  unfoldable pub lend_line : Left → Option (Said a b)
  lend_line s = do
    (u, s) ← whole_field s
    (xi, s) ← whole_field s
    if nat_lt a u then None else if nat_lt b xi then None else closed s (Command.Lend u xi)

  -- .. LENGTH_U U... XI...
  unfoldable pub lent_line : Command → Left → Option (Said a b)
  lent_line c s = do
    (n, s) ← whole_field s
    if nat_lt a n then None else do
      (us, s) ← floats_field [] n s
      xis ← rest_field b [] s
      Some (with_floats c us xis)

  -- inner N M LIMITED TOLERANCE AKKT U...
  unfoldable pub inner_line : Left → Option (Said a b)
  inner_line s = do
    (n, s) ← whole_field s
    (m, s) ← whole_field s
    (limited, s) ← flag_field s
    (tolerance, s) ← float_field s
    (akkt, s) ← tolerance_field s
    us ← rest_field a [] s
    Some (with_floats (Command.Inner (record { n = n; max_iter = m; limited = limited; tolerance = tolerance; akkt_tolerance = akkt })) us [])

  -- loop N N1 N2 Y M K LIMITED TOLERANCE EPSILON DELTA AKKT PENALTY_FACTOR EPSILON_FACTOR COEFFICIENT LENGTH_U U... XI...
  unfoldable pub loop_line : Left → Option (Said a b)
  loop_line s = do
    (sizes, s) ← sizes_field s
    (y, s) ← flag_field s
    (m, s) ← whole_field s
    (k, s) ← whole_field s
    (limited, s) ← flag_field s
    (tolerance, s) ← float_field s
    (epsilon, s) ← float_field s
    (delta, s) ← float_field s
    (akkt, s) ← float_field s
    (penalty, s) ← float_field s
    (factor, s) ← float_field s
    (coefficient, s) ← float_field s
    let c : Command = Command.Loop (record {
      n = sizes.n;
      n1 = sizes.n1;
      n2 = sizes.n2;
      has_set_y = y;
      max_inner_iterations = m;
      max_outer_iterations = k;
      limited = limited;
      tolerance = tolerance;
      epsilon_tolerance = epsilon;
      delta_tolerance = delta;
      initial_inner_tolerance = akkt;
      penalty_update_factor = penalty;
      epsilon_update_factor = factor;
      sufficient_decrease_coeff = coefficient;
    })
    lent_line c s

  -- psi N N1 N2 LENGTH_U U... XI..., and d_psi
  unfoldable pub psi_line : Left → Option (Said a b)
  psi_line s = do
    (sizes, s) ← sizes_field s
    lent_line (Command.Psi sizes) s

  unfoldable pub d_psi_line : Left → Option (Said a b)
  d_psi_line s = do
    (sizes, s) ← sizes_field s
    lent_line (Command.DPsi sizes) s

  -- by the first word
  unfoldable pub line_by : Keyword → Left → Option (Said a b)
  line_by Keyword.Inner s = inner_line s
  line_by Keyword.Loop s = loop_line s
  line_by Keyword.Psi s = psi_line s
  line_by Keyword.DPsi s = d_psi_line s
  line_by Keyword.Number s = number_line s
  line_by Keyword.Vector s = vector_line s
  line_by Keyword.Yes s = answered s Reply.Yes
  line_by Keyword.No s = answered s Reply.No
  line_by Keyword.Failure s = failure_line s
  line_by Keyword.Lend s = lend_line s
  line_by Keyword.Show s = closed s Command.Show

  unfoldable pub by_words : Left → Option (Said a b)
  by_words [] = None
  by_words (w ∷ s) = do
    k ← keyword_of w
    line_by k s

  unfoldable pub meant : List ℕ → Option (Said a b)
  meant line = by_words (words_of line)
