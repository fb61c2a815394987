-- Sums of squares from place 0 on, one rounding for each operation, and the norm, their root. A finite one has finite entries, and none is negative. Assumes nothing but the laws of `Finite` and `Order`.
use Rattle.std.specs.Prelude.{List, [], ◌∷◌, T, Float}
use Rattle.std.specs.Float.{Format}
use Rattle.std.specs.Float.Ieee.{add, mul}
use Rattle.std.specs.Float.Ieee.Scale.{finite}
use Rattle.ieee.specs.Numbers.{null}
use Rattle.ieee.proofs.Finite.{add_finite, mul_finite, root_finite}
use Rattle.ieee.specs.Order.{upward}
use Rattle.ieee.proofs.Order.{add_upward, square_upward, root_upward}
use Rattle.ieee.specs.Sums.{AllFinite, norm, squares, squares_from}

pub squares_from_finite : (f : Format) (acc : Float) (v : List Float) → T (finite (squares_from f acc v)) → T (finite acc) × AllFinite v
unfolding squares_from
squares_from_finite f acc [] h = (h, tt)
squares_from_finite f acc (x ∷ v) h =
    let rest = squares_from_finite f (add f acc (mul f x x)) v h in
    let here = add_finite f acc (mul f x x) rest.0 in
    (here.0, ((mul_finite f x x here.1).0, rest.1))

pub squares_finite : (f : Format) (v : List Float) → T (finite (squares f v)) → AllFinite v
unfolding squares
squares_finite f v h = (squares_from_finite f null v h).1

pub norm_finite : (f : Format) (v : List Float) → T (finite (norm f v)) → AllFinite v
unfolding norm
norm_finite f v h = squares_finite f v (root_finite f (squares f v) h)

pub squares_from_upward : (f : Format) (acc : Float) (v : List Float) → T (upward acc) → T (upward (squares_from f acc v))
unfolding squares_from
squares_from_upward f acc [] h = h
squares_from_upward f acc (x ∷ v) h = squares_from_upward f (add f acc (mul f x x)) v (add_upward f acc (mul f x x) h (square_upward f x))

pub squares_upward : (f : Format) (v : List Float) → T (upward (squares f v))
unfolding squares
squares_upward f v = squares_from_upward f null v tt

pub norm_upward : (f : Format) (v : List Float) → T (upward (norm f v))
unfolding norm
norm_upward f v = root_upward f (squares f v) (squares_upward f v)
