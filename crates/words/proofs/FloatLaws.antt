-- Laws for loops that read floats. Assumes nothing.
use Rattle.std.specs.Prelude.{◌≡◌, List, [], ◌∷◌, ◌++◌, ℕ, suc, ◌+◌, ◌-◌, ◌≤◌, ◌<◌, Some, None, Result, Ok, Err, OnErr, length}
use Rattle.std.specs.Result.{result_ok}
use Rattle.std.specs.Float.Ieee.{Float}
use Rattle.std.proofs.Common.{arith, lt-ltb, le-ltb}
use Rattle.words.specs.Reading.{float_of}
use Rattle.words.specs.Fields.{Left, float_field, floats_field, rest_field}

-- ---- n floats, of which i are read
module _ (xs : List Float) (n i : ℕ) (s : Left) where
  pub floats_next : (x : Float) (t : Left) → i < n → float_field s ≡ Some (x, t) → floats_field xs (n - i) s ≡ floats_field (xs ++ x ∷ []) (n - (i + 1)) t
  unfolding floats_field
  floats_next x t h e =
      let one : n - i ≡ suc (n - (i + 1)) = omega arith in
      rw (one, e)

  pub floats_none : i < n → float_field s ≡ None → floats_field xs (n - i) s ≡ None
  unfolding floats_field
  floats_none h e =
      let one : n - i ≡ suc (n - (i + 1)) = omega arith in
      rw (one, e)

  pub floats_done : n ≤ i → floats_field xs (n - i) s ≡ Some (xs, s)
  unfolding floats_field
  floats_done h =
      let none : n - i ≡ 0 = omega arith in
      rw none

-- ---- all that is left
module _ (m : ℕ) (xs : List Float) (s : Left) where
  pub rest_end : s ≡ [] → rest_field m xs s ≡ Some xs
  unfolding rest_field
  rest_end e = rw e

  module _ (w : List ℕ) (t : Left) (e : s ≡ w ∷ t) where
    pub rest_next : (x : Float) → float_of w ≡ Some x → length xs < m → rest_field m xs s ≡ rest_field m (xs ++ x ∷ []) t
    unfolding rest_field
    rest_next x f h = rw (e, f, lt-ltb (length xs) m h)

    pub rest_full : (x : Float) → float_of w ≡ Some x → m ≤ length xs → rest_field m xs s ≡ None
    unfolding rest_field
    rest_full x f h = rw (e, f, le-ltb (length xs) m h)

    pub rest_other : float_of w ≡ None → rest_field m xs s ≡ None
    unfolding rest_field
    rest_other f = rw (e, f)

-- ---- what a call that was made an Option ensures
pub on_err : {T E : Type 0} (r : Result T E) (P : Type 0) → None ≡ result_ok r → OnErr r P → P
on_err (Ok y) P e h = cc
on_err (Err y) P e h = h
