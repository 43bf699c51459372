use borrow.Author.Tests.{le-leb, lt-leb}
use Rattle.model.proofs.Views.{length_seen}
use Rattle.pixel.specs.Pairs.{pixel_of}
use Rattle.pixel.proofs.pixel_of.Goals as goal

pub returns-then-texture-q : goal.returns-then-texture-q
unfolding pixel_of
returns-then-texture-q c = rw (length_seen c.args.right c.args.texture.now, le-leb _ _ c.if-texture-q.true) c.last_pixel.ensures

pub returns-else-texture-q : goal.returns-else-texture-q
unfolding pixel_of
returns-else-texture-q c = rw (length_seen c.args.right c.args.texture.now, lt-leb _ _ c.if-texture-q.false) c.kind_pixel.ensures
