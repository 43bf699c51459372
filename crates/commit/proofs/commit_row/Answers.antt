-- `commit::commit_row` meets its contract.
use Prim.Native.Nat.{◌<◌, ◌≤◌}
use mathlib.Core.Path.{◌≡◌, sym, ◌∙◌}
use native.Mathlib.Omega.{arith}
use lib.ListN.{length}
use Rattle.model.specs.Lists.{row_of}
use Rattle.model.specs.Planes.{view}
use Rattle.model.specs.Views.{seen}
use Rattle.model.proofs.Lists.{length-row}
use Rattle.model.proofs.Views.{length_seen}
use Rattle.planes.proofs.SeenParts.{first_fits}
use Rattle.limits.proofs.Limits.{edge_edged}
use Rattle.commit.proofs.Planes.{row_commits}
use Rattle.commit.proofs.commit_row.Goals as goal

pub redraw_row-requires-clause-columns_nonzero : goal.redraw_row-requires-clause-columns_nonzero
redraw_row-requires-clause-columns_nonzero c =
    let d = seen c.args.right (row_of c.change_row-edit.new.depths c.args.w c.args.y) in
    let e = seen c.args.right (row_of c.args.limits.now c.args.w c.args.y) in
    let ld : length d ≡ c.args.w = length_seen c.args.right _ ∙ length-row _ c.args.w c.args.y (omega arith) in
    let le : length e ≡ c.args.w = length_seen c.args.right _ ∙ length-row _ c.args.w c.args.y (omega arith) in
    let columns : c.change_row-edit.result.columns ≤ c.args.w = omega (arith, first_fits c.args.right c.args.w c.args.column (length c.args.candidate.now) c.requires.candidate_nonzero.1) in
    let some : 0 < c.change_row-edit.result.columns = omega arith in
    (some, (columns, edge_edged c.args.table.now d e c.change_row-edit.result.columns c.change_row-edit.result.edge (le ∙ sym ld) some (rw ld columns) c.change_row-edit.ensures.top))

pub returns : goal.returns
returns c =
    row_commits c.args.tear c.args.right c.args.table.now c.args.texture.now c.args.w c.args.y c.args.column c.change_row-edit.result.columns c.change_row-edit.result.low c.change_row-edit.result.edge _ _ c.args.candidate.now c.args.depths.now c.change_row-edit.new.depths
    (view c.args.samples.now c.args.fronts.now c.args.limits.now c.args.marks.now) (view c.redraw_row.new.samples c.redraw_row.new.fronts c.change_row-edit.new.limits c.redraw_row.new.marks)
    c.requires.table_value.0 c.requires.row_in c.requires.table_value.1 c.requires.candidate_nonzero.0 c.requires.candidate_nonzero.1 c.change_row-edit.auto.limits c.change_row-edit.ensures c.redraw_row.ensures
