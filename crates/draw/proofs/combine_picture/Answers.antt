-- `draw::combine_picture` meets its contract: the rows passed are combined, and their errors summed.
use native.Mathlib.Omega.{arith}
use Rattle.draw.proofs.Pictures.{picture_none, picture_next, row_combined}
use Rattle.draw.proofs.combine_picture.Goals as goal

pub loop-y-init : goal.loop-y-init
loop-y-init c = picture_none _

pub loop-y-preserved : goal.loop-y-preserved
loop-y-preserved c = picture_next c.loop-y.invariant (row_combined _ _ _ _ _ _ _ _ (grind arith) c.blend_row.ensures) c.error_row.ensures c.from-total.ensures
