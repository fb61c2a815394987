-- The goals of `copy_down`. Assumes nothing.
use Rattle.std.proofs.Common.{◌≡◌, sym, ap, ◌∙◌, ℕ, ◌+◌, ◌*◌, ◌-◌, List, Float, set, get_or, arith}
use Rattle.std.specs.Float.{nan}
use Rattle.board.proofs.Downward.{down, down_none, down_more, down_read, down_all}
use Rattle.board.proofs.copies.copy_down.Goals as goal

pub loop-k-init : goal.loop-k-init
loop-k-init c =
    let e : c.args.n - 0 ≡ c.args.n = omega arith in
    rw e (sym (down_none c.args.to c.args.from c.args.n c.args.board.now c.requires.apart c.requires.count c.requires.source))

pub loop-k-preserved : goal.loop-k-preserved
loop-k-preserved c =
    let n = c.args.n in
    let k = c.loop-k.k in
    let i = n - 1 - k in
    let b = c.args.board.now in
    let d = down c.args.to c.args.from n (i + 1) b in
    let h = c.loop-k-test.true in
    let e : n - k ≡ i + 1 = omega (arith, h) in
    let m : n - (k + 1) ≡ i = omega (arith, h) in
    let g : c.loop-k.board ≡ d = c.loop-k.invariant ∙ ap (λ (j : ℕ). down c.args.to c.args.from n j b) e in
    rw m
    (ap (λ (x : List Float). set x (64 * c.args.to + i) (get_or x (64 * c.args.from + i) nan)) g
    ∙ ap (set d (64 * c.args.to + i)) (down_read c.args.to c.args.from n b c.requires.apart c.requires.count c.requires.source (i + 1) i (omega (arith, h)) (omega (arith, h)))
    ∙ down_more c.args.to c.args.from n b c.requires.apart c.requires.count c.requires.source i (omega (arith, h)))

pub returns : goal.returns
returns c =
    let e : c.args.n - c.loop-k.k ≡ 0 = omega (arith, c.loop-k-test.false) in
    c.loop-k.invariant ∙ ap (λ (j : ℕ). down c.args.to c.args.from c.args.n j c.args.board.now) e
    ∙ down_all c.args.to c.args.from c.args.n c.args.board.now c.requires.apart c.requires.count c.requires.source
