use borrow.Author.Tests.{lt-ltb, le-ltb}
use Rattle.pixel.specs.Pairs.{at_edge}
use Rattle.pixel.proofs.at_edge.Goals as goal

pub returns-then-limit-next : goal.returns-then-limit-next
unfolding at_edge
returns-then-limit-next c = rw (lt-ltb _ _ c.if-limit-next.true)

pub returns-else-limit-next : goal.returns-else-limit-next
unfolding at_edge
returns-else-limit-next c = rw (le-ltb _ _ c.if-limit-next.false)
