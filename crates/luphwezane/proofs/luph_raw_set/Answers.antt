-- `luphwezane::luph_raw_set` answers what SET promises.
use mathlib.Core.Path.{sym}
use lib.Seq.{length-take-le}
use Rattle.model.specs.Replies.{edit_reply}
use Rattle.shape.specs.Shapes.{bytes_of}
use Rattle.luphwezane.proofs.luph_raw_set.Goals as goal

pub slice_bounds-set-end : goal.slice_bounds-set-end
slice_bounds-set-end c = sym (length-take-le _ _ c.lent-n.ensures.1)

pub returns : goal.returns
unfolding bytes_of
returns c =
    record {
      reply = edit_reply c.args.settings c.set-edited.result;
      promised = rw (c.from.ensures, c.lent-n.ensures.0) at c.set-edited.ensures;
      told = c.edited.ensures c.args.settings;
    }
