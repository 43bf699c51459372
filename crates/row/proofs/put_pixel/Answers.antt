use mathlib.Core.Path.{refl}
use Rattle.planes.proofs.Entries.{stored}
use Rattle.row.proofs.put_pixel.Goals as goal

pub returns : goal.returns
returns c = (
  stored 0 c.args.right c.args.samples.now _ refl c.requires.0 c.entry-e.ensures.0,
  (stored 0 c.args.right c.args.fronts.now _ c.requires.1.0 c.requires.0 c.entry-e.ensures.0, stored 0 c.args.right c.args.flags.now _ c.requires.1.1 c.requires.0 c.entry-e.ensures.0),
)
