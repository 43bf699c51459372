use Rattle.std.proofs.Common.{rules}
use Rattle.rowprint.proofs.Tables.{table_all}
use Rattle.rowprint.proofs.table.Goals as goal

pub returns : goal.returns
returns c =
    let items = c.from_fn.ensures.items in
    table_all c.from_fn.result items.long (λ i h. let (p, q, called) = items.at i 0 h in search rules)
