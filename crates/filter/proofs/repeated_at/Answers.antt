use Prim.Native.Nat.{ℕ}
use mathlib.Core.Path.{ap, ◌∙◌}
use lib.ListN.{get_or}
use Rattle.model.specs.Row.{read, sample_in, repeated}
use Rattle.filter.proofs.repeated_at.Goals as goal

pub returns : goal.returns
unfolding repeated sample_in
returns c =
    c.read.ensures.0 ∙ ap (λ (i : ℕ). read (get_or c.args.row.now i 0)) c.column_at.ensures.0
