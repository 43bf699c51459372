-- `combine::set_row` meets its contract.
use Rattle.model.specs.Planes.{view}
use Rattle.combine.proofs.Combined.{row_set}
use Rattle.combine.proofs.set_row.Goals as goal

pub returns : goal.returns
returns c =
    row_set c.args.tear c.args.right c.args.table.now c.args.share c.args.tolerance c.args.w c.args.y c.args.column c.commit_row-drawn.result.from c.commit_row-drawn.result.to c.args.texture.now c.args.candidate.now c.args.samples2.now c.args.fronts2.now c.args.marks2.now c.args.depths.now c.commit_row-drawn.new.depths
    (view c.args.samples.now c.args.fronts.now c.args.limits.now c.args.marks.now) (view c.commit_row-drawn.new.samples c.commit_row-drawn.new.fronts c.commit_row-drawn.new.limits c.commit_row-drawn.new.marks)
    c.args.combined.now c.blend_row.new.combined c.requires.table_value.1.0 c.requires.view_in.1 c.commit_row-drawn.ensures c.blend_row.ensures
