-- `edits::change_row` meets its contract.
use Prim.Native.Nat.{◌+◌, ◌*◌}
use mathlib.Core.Path.{refl, ◌∙◌}
use lib.ListN.{length}
use Rattle.planes.proofs.Splices.{part_row, part_length}
use Rattle.edits.proofs.Lent.{changed}
use Rattle.edits.proofs.change_row.Goals as goal
use Rattle.edits.proofs.change_row.Goals.{Start}

pub returns : goal.returns
returns c =
    let n = length c.args.candidate.now in
    changed c.args.right c.args.table.now c.args.w c.args.y c.args.column c.part_start-first.result (c.part_start-first.result + n) c.edit_row-low.result c.update_limits-edge.result c.args.candidate.now c.args.depths.now c.edit_row-low.new.depths c.args.limits.now c.update_limits-edge.new.limits
    c.requires.w_in_bounds.0 c.requires.w_in_bounds.1 c.requires.candidate_nonzero.1 (part_row c.args.depths.now c.args.w c.args.y) (part_row _ c.args.w c.args.y) (part_row c.args.limits.now c.args.w c.args.y)
    (c.update_limits-edge.auto.limits ∙ part_length c.args.limits.now (c.args.y * c.args.w) c.args.w c.requires.w_in_bounds.1) c.part_start-first.ensures.0 refl c.edit_row-low.ensures c.update_limits-edge.ensures
