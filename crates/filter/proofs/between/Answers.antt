use mathlib.Core.Path.{◌≡◌, ◌∙◌}
use native.Mathlib.Omega.{arith}
use Rattle.model.specs.Row.{sample_in, mixed}
use Rattle.filter.proofs.Near.{near_part, near_mixed}
use Rattle.filter.proofs.between.Goals as goal

pub returns-then-k-eq0 : goal.returns-then-k-eq0
unfolding mixed sample_in
returns-then-k-eq0 c = let e : c.args.k ≡ 0 = omega (arith, c.if-k-eq0.true) in rw e c.read.ensures.0

pub returns-then-k-gt3 : goal.returns-then-k-gt3
unfolding mixed sample_in
returns-then-k-gt3 c =
    let e : c.args.k ≡ 4 = omega (arith, c.if-k-gt3.true, c.requires.k_bound) in
    rw e c.read-then-k-gt3.ensures.0

pub returns-then-c-row : goal.returns-then-c-row
returns-then-c-row c =
    let n = near_part c.args.row.now c.args.c c.if-c-ge3.true c.if-c-row.true in
    c.inner.ensures ∙ near_mixed c.args.row.now c.args.c _ n c.args.k (omega arith) (omega arith)
