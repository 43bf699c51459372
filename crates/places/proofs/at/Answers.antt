use mathlib.Core.Path.{sym}
use native.Mathlib.Omega.{arith}
use lib.ListN.{get_or-eq_default}
use Rattle.model.specs.Views.{seen}
use Rattle.model.proofs.Views.{length_seen}
use Rattle.places.proofs.at.Goals as goal

pub returns-else-c-row : goal.returns-else-c-row
returns-else-c-row c =
    sym (get_or-eq_default (seen c.args.right c.args.row.now) 0 (omega (arith, length_seen c.args.right c.args.row.now, c.if-c-row.false)))
