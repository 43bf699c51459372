use mathlib.Core.Path.{◌≡◌}
use Rattle.std.specs.Prelude.{None}
use Rattle.model.specs.Planes.{pictures, depths, view, held}
use Rattle.scan.specs.Walks.{drawing_settings}
use Rattle.scan.proofs.Tested.{Tested}
use Rattle.scan.proofs.Passed.{Passed}
use Rattle.scan.proofs.walk.Given as goal

abbrev pub invariant-rows : goal.invariant-rows
invariant-rows l =
    let s = drawing_settings l.w l.h l.leftTable l.rightTable l.share l.tolerance l.tear in
    let p = pictures l.left l.right l.reference in
    let d = depths l.leftDepths l.rightDepths in
    let g = held (view l.leftSamples l.leftFronts l.leftLimits l.leftMarks) (view l.rightSamples l.rightFronts l.rightLimits l.rightMarks) l.combined in
    record { tested : Tested s p d g; none : l.place ≡ None; passed : Passed s p d g l.y 0 l.sum }

abbrev pub invariant-loop-x : goal.invariant-loop-x
invariant-loop-x l =
    let s = drawing_settings l.w l.h l.leftTable l.rightTable l.share l.tolerance l.tear in
    let p = pictures l.left l.right l.reference in
    let d = depths l.leftDepths l.rightDepths in
    let g = held (view l.leftSamples l.leftFronts l.leftLimits l.leftMarks) (view l.rightSamples l.rightFronts l.rightLimits l.rightMarks) l.combined in
    record { none : l.place ≡ None; passed : Passed s p d g l.y l.x l.sum }
