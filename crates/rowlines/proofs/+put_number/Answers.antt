use Rattle.rowlines.proofs.Puts.{put_last}
use Rattle.rowlines.proofs.+put_number.Goals as goal

pub returns : goal.returns
returns t c = put_last c.args.n c.if-n-lt10.false c.digit-2.ensures c.put_number-next.ensures c.put-2.ensures
