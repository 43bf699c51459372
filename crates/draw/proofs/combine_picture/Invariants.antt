use Rattle.draw.specs.Combination.{held_rows, PictureCombined}
use Rattle.draw.proofs.combine_picture.Given as goal

abbrev pub invariant-loop-y : goal.invariant-loop-y
invariant-loop-y l = PictureCombined l.share l.tolerance l.w l.y (held_rows l.w l.samples0 l.fronts0 l.marks0) (held_rows l.w l.samples1 l.fronts1 l.marks1) l.reference l.combined l.total
