-- `bytes` is called in range: the second line's numbers are at most 255.
use Rattle.std.proofs.Common.{arith}
use Rattle.rowtext.proofs.Entries.{line_entries}
use Rattle.rowtext.proofs.read_lines.Goals as goal

pub bytes-requires : goal.bytes-requires
bytes-requires c =
    (c.in_ok-second.ensures.size, line_entries _ _ _ _ _ (omega arith) c.in_ok-second.ensures)
