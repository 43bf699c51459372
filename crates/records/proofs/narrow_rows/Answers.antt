-- `records::narrow_rows` meets its contract: the rows' words lie within the block's, and are depths.
use native.Mathlib.Omega.{arith}
use Rattle.std.proofs.lemmas.Grind.{common_steps}
use Rattle.records.proofs.Narrowing.{part_within, part_depths}
use Rattle.records.proofs.narrow_rows.Goals as goal

pub narrow-requires : goal.narrow-requires
narrow-requires c = (grind (arith, common_steps, part_within), part_depths _ _ _ c.requires.words_value.0)
