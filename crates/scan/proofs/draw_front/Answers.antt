-- `scan::draw_front` meets its contract: row y is lent as planes of one row.
use mathlib.Core.Path.{◌∙◌}
use Rattle.scan.proofs.Drawing.{drawn_part}
use Rattle.scan.proofs.draw_front.Goals as goal

pub returns : goal.returns
returns c = c.draw_plane_row.ensures.drawn ∙ drawn_part _ _ _ _ _ _ _
