use borrow.Author.Tests.{le-leb, lt-leb}
use Rattle.pixel.specs.Pairs.{torn_of}
use Rattle.pixel.proofs.torn_pixel.Goals as goal

pub returns-then-t-tear : goal.returns-then-t-tear
unfolding torn_of
returns-then-t-tear c = rw (le-leb _ _ c.if-t-tear.true, c.sample_at.ensures)

pub returns-else-t-tear : goal.returns-else-t-tear
unfolding torn_of
returns-else-t-tear c = rw (lt-leb _ _ c.if-t-tear.false, c.sample_after.ensures)
