-- `commit::redraw` meets its contract: the span is drawn into the parts that are lent, and its marks are put into the row.
use Prim.Native.Nat.{◌+◌, ◌-◌, ◌*◌}
use native.Mathlib.Omega.{arith}
use lib.ListN.{length}
use Rattle.model.specs.Row.{line}
use Rattle.model.specs.Views.{seen}
use Rattle.planes.proofs.Splices.{part_length}
use Rattle.commit.proofs.Drawn.{redrawn_none, redrawn_some}
use Rattle.commit.proofs.redraw.Goals as goal

pub returns-then-end-start : goal.returns-then-end-start
returns-then-end-start c =
    let w = length c.args.depths.now in
    redrawn_none c.args.right (line c.args.tear c.args.table.now (seen c.args.right c.args.texture.now) (seen c.args.right c.args.depths.now)) c.args.columns c.args.low c.args.edge c.first_at-start.result c.first_at-end.result c.first_at-start.ensures c.first_at-end.ensures w c.args.y c.args.samples.now c.args.fronts.now c.args.marks.now c.if-end-start.true

pub returns : goal.returns
returns c =
    let w = length c.args.depths.now in
    redrawn_some c.args.right (line c.args.tear c.args.table.now (seen c.args.right c.args.texture.now) (seen c.args.right c.args.depths.now)) c.args.columns c.args.low c.args.edge c.first_at-start.result c.first_at-end.result c.first_at-start.ensures c.first_at-end.ensures w c.args.y c.args.samples.now c.args.fronts.now c.args.marks.now c.part_start-at.result _ c.draw_stretch.new.samples c.draw_stretch.new.fronts
    (part_length c.args.samples.now (c.args.y * w + c.part_start-at.result) (c.first_at-end.result - c.first_at-start.result) (omega arith)) c.part_start-at.ensures.0 c.part_start-at.ensures.1 c.draw_stretch.ensures
