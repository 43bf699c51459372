-- `read_row` meets its contract: what the steps read of the text, and the promise that follows from it.
use Rattle.std.proofs.Common.{arith}
use Rattle.rowtext.proofs.Numbers.{field_read}
use Rattle.rowtext.proofs.Rows.{width_then, promised}
use Rattle.rowtext.proofs.read_row.Goals as goal

pub read_lines-requires : goal.read_lines-requires
read_lines-requires c = let h = field_read _ _ _ _ _ (omega arith) c.in_ok-width.ensures in omega arith

pub returns : goal.returns
returns c =
    let width = width_then c.args.text.now _ _ c.in_ok-width.ensures c.if-width-eq0.false in
    promised c.args.text.now _ width c.read_lines.result (rw c.from.ensures at c.read_lines.ensures)
