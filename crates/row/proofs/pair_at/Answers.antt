use mathlib.Core.Path.{◌∙◌}
use Rattle.model.specs.Views.{seen}
use Rattle.model.proofs.Views.{length_seen}
use Rattle.row.proofs.Columns.{stands_of}
use Rattle.row.proofs.pair_at.Goals as goal

pub pair_of-requires : goal.pair_of-requires
pair_of-requires c = record { table_value = (c.requires.table_value.0, c.requires.table_value.1); column_lt_w = rw (length_seen c.args.right c.args.depths.now) at c.requires.edged.within }

pub returns : goal.returns
returns c = (
  c.pair_of.ensures.1.0,
  (
    c.pair_of.ensures.1.1.1.1.1.1,
    (
      c.pair_of.ensures.0,
      stands_of c.args.table.now (seen c.args.right c.args.depths.now) c.pair_of.result
          (rw (c.pair_of.ensures.1.0, c.pair_of.ensures.1.1.0) c.at-d0.ensures)
          (rw (c.pair_of.ensures.1.0, c.pair_of.ensures.1.1.1.0) c.at-d1.ensures)
          (rw (c.pair_of.ensures.1.0, c.pair_of.ensures.1.1.0) c.pair_of.ensures.1.1.1.1.0)
          (rw c.pair_of.ensures.1.0 (c.pair_of.ensures.1.1.1.1.1.0 ∙ c.next_place-next.ensures)),
    ),
  ),
)
