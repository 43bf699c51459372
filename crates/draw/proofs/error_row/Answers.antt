-- `draw::error_row` meets its contract.
use Rattle.draw.proofs.Pictures.{row_error_lem}
use Rattle.draw.proofs.error_row.Goals as goal

pub returns : goal.returns
returns c =
    row_error_lem c.args.w c.args.y c.args.combined.now c.args.reference.now _ c.requires.w_in_bounds.0 c.row_error.ensures
