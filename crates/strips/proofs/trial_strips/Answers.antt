-- `strips::trial_strips` meets its contract: the positions from `top` on are summed, and those below it can be drawn from the pair (proofs/Strips).
use Prim.Native.Nat.{◌+◌, ◌-◌}
use mathlib.Core.Path.{◌≡◌}
use native.Mathlib.Omega.{arith}
use Rattle.strips.proofs.Strips.{strips_start, strips_next, strips_end}
use Rattle.row.proofs.Columns.{with_width}
use Rattle.strips.proofs.trial_strips.Goals as goal

pub loop-top-init : goal.loop-top-init
loop-top-init c =
    strips_start c.args.start c.requires.ahead

pub loop-top-preserved : goal.loop-top-preserved
loop-top-preserved c =
    let e : c.max-bottom.result + (c.loop-top.top - c.max-bottom.result) ≡ c.loop-top.top = omega (arith, c.max-bottom.ensures, c.saturating_sub.ensures) in
    strips_next c.loop-top.invariant (omega (arith, c.max-bottom.ensures)) (omega (arith, c.max-bottom.ensures, c.saturating_sub.ensures)) (rw e at c.trial_strip-strip.ensures)

pub returns : goal.returns
returns c =
    let wide = with_width c.args.o.right c.args.v.depths.now c.args.candidate.now c.args.column c.requires.ready.1.0 in
    rw c.requires.ready.1.1 (rw wide at (strips_end c.loop-top.invariant c.loop-top-test.false))
