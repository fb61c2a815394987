-- `cartesian_product::project` meets its contract: 20 before 21, and both before a place is written. Assumes nothing.
use Rattle.std.specs.Float.{binary64}
use Rattle.constraints.proofs.Tables.{refused_20, refused_21, projected}
use Rattle.constraints.proofs.cartesian_product.project.Goals as goal

pub returns-then-not-fits : goal.returns-then-not-fits
returns-then-not-fits c = refused_20 binary64 c.args.sets.now c.args.numbers.now c.args.v.now c.fits.result c.fits.result c.fits.ensures c.if-not-fits.true

pub returns-then-not-is_right : goal.returns-then-not-is_right
returns-then-not-is_right c = refused_21 binary64 c.args.sets.now c.args.numbers.now c.args.v.now c.fits.result c.is_right.result c.fits.ensures c.if-not-fits.false c.is_right.ensures c.if-not-is_right.true

pub returns : goal.returns
returns c = projected binary64 c.args.sets.now c.args.numbers.now c.args.v.now c.fits.result c.is_right.result c.fits.ensures c.if-not-fits.false c.is_right.ensures c.if-not-is_right.false _ c.put.ensures
