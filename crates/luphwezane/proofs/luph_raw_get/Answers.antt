-- `luphwezane::luph_raw_get` answers what GET promises.
use mathlib.Core.Path.{sym}
use lib.Seq.{length-take-le}
use Rattle.judge.specs.Judged.{verdict}
use Rattle.shape.specs.Shapes.{bytes_of}
use Rattle.decide.specs.Decided.{answer_of}
use Rattle.luphwezane.proofs.luph_raw_get.Goals as goal

pub slice_bounds-decide-end : goal.slice_bounds-decide-end
slice_bounds-decide-end c = sym (length-take-le _ _ c.lent-n.ensures.1)

pub returns : goal.returns
unfolding bytes_of
returns c =
    record {
      reply = answer_of (verdict c.args.total c.decide-tried.result);
      promised = rw (c.tear_of-tear.ensures, c.from.ensures, c.lent-n.ensures.0) at c.decide-tried.ensures.answer;
      told = c.tried.ensures c.args.total;
    }
