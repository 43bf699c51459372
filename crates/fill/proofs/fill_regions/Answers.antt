-- `fill::fill_regions` meets its contract: a line's row is the walk's.
use mathlib.Core.Path.{◌∙◌}
use lib.ListN.{length}
use Rattle.fill.proofs.Rows.{line_row}
use Rattle.fill.proofs.fill_regions.Goals as goal

pub returns-in-Line : goal.returns-in-Line
returns-in-Line c =
    c.fill_line.ensures ∙ line_row (length c.args.row.now) c.args.i c.args.bytes.now c.args.value0 c.args.value1 c.args.split c.in-Line.is
