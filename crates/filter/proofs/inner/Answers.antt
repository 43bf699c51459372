use mathlib.Core.Path.{◌≡◌, ◌∙◌}
use native.Mathlib.Omega.{arith}
use Rattle.model.specs.Row.{sample_in, mixed}
use Rattle.filter.proofs.Sums.{eight_first, eight_half, eight_last}
use Rattle.filter.proofs.inner.Goals as goal

pub returns-then-k-eq1 : goal.returns-then-k-eq1
unfolding mixed sample_in
returns-then-k-eq1 c =
    let e : c.args.k ≡ 1 = omega (arith, c.if-k-eq1.true) in
    rw e (c.quarter_of.ensures ∙ eight_first c.args.near.now c.requires.near_len
    c.read.ensures.0
    c.read-then-k-eq1.ensures.0
    c.read-then-k-eq1-2.ensures.0
    c.read-then-k-eq1-3.ensures.0
    c.read-then-k-eq1-4.ensures.0
    c.read-then-k-eq1-5.ensures.0
    c.read-then-k-eq1-6.ensures.0)

pub returns-then-k-eq2 : goal.returns-then-k-eq2
unfolding mixed sample_in
returns-then-k-eq2 c =
    let e : c.args.k ≡ 2 = omega (arith, c.if-k-eq2.true) in
    rw e (c.half_of.ensures ∙ eight_half c.args.near.now c.requires.near_len
    c.read-then-k-eq2.ensures.0
    c.read-then-k-eq2-2.ensures.0
    c.read-then-k-eq2-3.ensures.0
    c.read-then-k-eq2-4.ensures.0
    c.read-then-k-eq2-5.ensures.0
    c.read-then-k-eq2-6.ensures.0
    c.read-then-k-eq2-7.ensures.0
    c.read-then-k-eq2-8.ensures.0)

pub returns : goal.returns
unfolding mixed sample_in
returns c =
    let e : c.args.k ≡ 3 = omega (arith, c.if-k-eq2.false, c.if-k-eq1.false, c.requires.le_k) in
    rw e (c.quarter_of-2.ensures ∙ eight_last c.args.near.now c.requires.near_len
    c.read-2.ensures.0
    c.read-3.ensures.0
    c.read-4.ensures.0
    c.read-5.ensures.0
    c.read-6.ensures.0
    c.read-7.ensures.0
    c.read-8.ensures.0)
