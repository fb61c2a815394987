-- `numeric::sqrt` meets its contract. Assumes nothing.
use Rattle.std.proofs.Common.{◌≡◌, refl, sym, ap, ◌∙◌, subst, arith}
use Rattle.std.proofs.Math.Dec.{T, leb, le→leb}
use Rattle.std.specs.Float.Ieee.{nan, binary64, eq, of_bits, to_bits}
use lib.Ieee.Bits.{is_true, of_bits-to_bits}
use Rattle.ieee.specs.Root.{root}
use Rattle.ieee.proofs.Special.{zero_bits, nan_root, zero_root, minus_root, last_root, bits_pos}
use Rattle.numeric.proofs.Signs.{is_nan_is}
use Rattle.numeric.proofs.sqrt.Goals as goal
use Rattle.numeric.proofs.sqrt.Goals.{else-b-gt0-via-then-b-gt0+else-b-lt-INFINITY, else-b-gt0-via-else-b-gt0}

no_number : of_bits binary64 0x7ff8_0000_0000_0000 ≡ nan
unfolding of_bits
no_number = refl

pub returns-then-is_nan : goal.returns-then-is_nan
returns-then-is_nan c = nan_root binary64 c.args.x (is_nan_is c.args.x (sym c.is_nan.ensures.value ∙ c.if-is_nan.true))

pub returns-then-b-lt-INFINITY : goal.returns-then-b-lt-INFINITY
returns-then-b-lt-INFINITY c =
    c.root_bits.ensures.1 ∙ ap (root binary64) (of_bits-to_bits binary64 c.args.x (subst T (sym c.well_formed.0.1) tt))

pub returns-then-x : goal.returns-then-x
returns-then-x c = zero_root binary64 c.args.x (ap (eq c.args.x) (sym (zero_bits binary64)) ∙ c.if-x.true)

pub returns-then-b-ge-SIGN : goal.returns-then-b-ge-SIGN
returns-then-b-ge-SIGN c =
    let x = c.args.x in
    no_number ∙ sym (minus_root binary64 x (subst T (sym c.well_formed.0.1) tt) (is_true (leb 9223372036854775808 (to_bits binary64 x)) (le→leb 9223372036854775808 (to_bits binary64 x) c.if-b-ge-SIGN.true)) (ap (eq c.args.x) (sym (zero_bits binary64)) ∙ c.if-x.false))

-- what is left is infinity
pub returns : goal.returns
returns c =
    let x = c.args.x in
    let p = bits_pos binary64 x (subst T (sym c.well_formed.0.1) tt) (ap (eq x) (sym (zero_bits binary64)) ∙ c.if-x.false) in
    last_root binary64 x (subst T (sym c.well_formed.0.1) tt) c.if-b-ge-SIGN.false (elim c.else-b-gt0.branch [
      | else-b-gt0-via-then-b-gt0+else-b-lt-INFINITY w ↦ omega arith
      | else-b-gt0-via-else-b-gt0 w ↦ omega arith
    ])
