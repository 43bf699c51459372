-- `edits::edit_row` meets its contract.
use mathlib.Core.Path.{ap, ◌∙◌}
use lib.ListN.{length}
use Rattle.planes.specs.Parts.{splice}
use Rattle.planes.proofs.Splices.{put_back}
use Rattle.places.proofs.Lows.{low_is}
use Rattle.edits.proofs.edit_row.Goals as goal

pub returns : goal.returns
returns c =
    record {
      depths = put_back c.args.depths.now _ c.args.column (length c.args.candidate.now) (ap length c.write.ensures)
          ∙ ap (splice c.args.depths.now c.args.column) c.write.ensures;
      low = c.saturating_sub.ensures
          ∙ low_is _ _ _ _ c.args.first (length c.args.candidate.now) c.requires.candidate_nonzero.0 c.row_low-old.ensures c.least_place-least.ensures;
    }
