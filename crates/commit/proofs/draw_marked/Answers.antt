-- `commit::draw_marked` meets its contract.
use native.Mathlib.Omega.{arith}
use lib.ListN.{length}
use Rattle.model.specs.Row.{line}
use Rattle.model.specs.Views.{seen}
use Rattle.commit.proofs.Drawn.{part_flags, part_drawn}
use Rattle.commit.proofs.draw_marked.Goals as goal

pub put_marks-requires-clause-by_index : goal.put_marks-requires-clause-by_index
put_marks-requires-clause-by_index c =
    part_flags c.args.right (line c.args.tear c.args.table.now (seen c.args.right c.args.texture.now) (seen c.args.right c.args.depths.now)) c.args.columns c.args.edge c.args.start (length c.args.samples.now) c.draw_part.new.flags (omega arith) c.draw_part.ensures.marks

pub returns : goal.returns
returns c =
    part_drawn c.args.right (line c.args.tear c.args.table.now (seen c.args.right c.args.texture.now) (seen c.args.right c.args.depths.now)) c.args.columns c.args.edge c.args.start (length c.args.samples.now) c.args.at c.args.marks.now c.draw_part.new.samples c.draw_part.new.fronts c.draw_part.new.flags _
    c.draw_part.auto.samples (omega arith) (omega arith) c.draw_part.ensures c.put_marks.ensures
