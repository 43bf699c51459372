-- `commit::redraw_row` meets its contract.
use Prim.Native.Nat.{◌*◌}
use mathlib.Core.Path.{◌∙◌}
use Rattle.model.specs.Marks.{mark_bytes}
use Rattle.planes.proofs.Splices.{part_row, part_length}
use Rattle.commit.proofs.Lent.{redrawn_row}
use Rattle.commit.proofs.redraw_row.Goals as goal

pub returns : goal.returns
returns c =
    redrawn_row c.args.tear c.args.right c.args.w c.args.y c.args.columns c.args.low c.args.edge _ _ c.args.table.now c.args.texture.now c.args.depths.now c.args.samples.now c.args.fronts.now c.args.marks.now _ _ c.redraw.new.marks
    (part_row c.args.texture.now c.args.w c.args.y) (part_row c.args.depths.now c.args.w c.args.y) (part_row c.args.marks.now (mark_bytes c.args.w) c.args.y)
    (part_length c.args.depths.now (c.args.y * c.args.w) c.args.w c.requires.w_in_bounds.1) c.requires.w_in_bounds_2.1.1
    (c.redraw.auto.marks ∙ part_length c.args.marks.now (c.args.y * mark_bytes c.args.w) (mark_bytes c.args.w) c.requires.w_in_bounds_2.1.1) c.redraw.ensures
