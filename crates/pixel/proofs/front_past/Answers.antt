use borrow.Author.Tests.{lt-ltb, le-ltb}
use Rattle.pixel.specs.Pairs.{front_past}
use Rattle.pixel.proofs.front_past.Goals as goal

pub returns-then-q : goal.returns-then-q
unfolding front_past
returns-then-q c = rw (lt-ltb _ _ c.if-q.true)

pub returns-else-q : goal.returns-else-q
unfolding front_past
returns-else-q c = rw (le-ltb _ _ c.if-q.false)
