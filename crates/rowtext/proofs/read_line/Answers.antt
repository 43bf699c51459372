-- `read_line` meets its contract: the turns of Lines.
use Rattle.std.proofs.Common.{refl, ◌∙◌, arith, length-set}
use native.Mathlib.Nat.{sub-zero}
use Rattle.rowtext.proofs.Lines.{turn_on}
use Rattle.rowtext.proofs.Entries.{zeros_zero, zeros_set}
use Rattle.rowtext.proofs.read_line.Goals as goal

pub loop-k-init : goal.loop-k-init
loop-k-init c = (refl, zeros_zero 64, rw (sub-zero c.args.w))

pub loop-k-preserved : goal.loop-k-preserved
loop-k-preserved c = (
  length-set c.loop-k.values c.loop-k.k _ ∙ c.loop-k.invariant.0,
  zeros_set c.loop-k.k c.loop-k.values _ c.loop-k.invariant.1,
  grind (arith, turn_on),
)
