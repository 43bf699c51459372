-- `sums::squares` meets its contract: one test is computed over the constant, entry by entry.
use mathlib.Core.Path.{refl}
use Rattle.sums.proofs.Tables.{squares_table}
use Rattle.sums.proofs.squares.Goals as goal

pub returns : goal.returns
returns c = squares_table _ refl refl
