-- `strips::error_with` meets its contract: the combined sample and its squared error are what the leaves answer.
use Rattle.marks.proofs.Held.{held_most}
use Rattle.sums.proofs.Sides.{paired_most}
use Rattle.strips.proofs.error_with.Goals as goal

pub square_error-requires : goal.square_error-requires
square_error-requires c =
    (c.requires.squares.0, (rw (c.paired.ensures, c.held_pixel-other.ensures) (paired_most _ _ _ _ _ c.requires.squares.1.0 c.requires.squares.1.1 (held_most _ _ _ _)), c.sample_in.ensures.1))
