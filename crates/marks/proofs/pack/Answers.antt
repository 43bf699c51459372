-- `marks::pack` meets its contract: the marks are put into a cleared row.
use mathlib.Core.Path.{◌∙◌}
use native.Mathlib.Omega.{arith}
use lib.ListN.{length}
use Rattle.model.specs.Marks.{mark_bytes}
use Rattle.marks.proofs.Puts.{put_cleared}
use Rattle.marks.proofs.pack.Goals as goal

pub returns : goal.returns
returns c =
    c.put_marks.ensures
    ∙ rw (c.fill.ensures.after (λ _ e. e), c.requires.row_len.0)
    (put_cleared (mark_bytes (length c.args.flags.now)) c.args.flags.now c.requires.by_index (omega arith))
