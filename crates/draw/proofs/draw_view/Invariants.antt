use Rattle.model.specs.Planes.{view}
use Rattle.draw.specs.Drawn.{ViewDrawn}
use Rattle.draw.proofs.draw_view.Given as goal

abbrev pub invariant-loop-y : goal.invariant-loop-y
invariant-loop-y l = ViewDrawn l.tear l.right l.table l.w l.y l.texture l.depths (view l.samples l.fronts l.limits l.marks)
