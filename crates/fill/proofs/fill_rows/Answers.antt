-- `fill::fill_rows` meets its contract: the rows passed are made, and each is made in its own part of the room.
use Prim.Native.Nat.{◌+◌, ◌*◌, ◌≤◌}
use mathlib.Core.Path.{ap, ◌∙◌}
use native.Mathlib.Omega.{arith}
use lib.ListN.{length}
use Rattle.planes.proofs.Splices.{part_length}
use Rattle.fill.specs.Rows.{filled_row}
use Rattle.fill.proofs.Rows.{row_wide, row_holds, rows_more, made_already, made_regions}
use Rattle.fill.proofs.fill_rows.Goals as goal

pub loop-k-preserved : goal.loop-k-preserved
loop-k-preserved c =
    let fits : c.loop-k.k * c.args.width + c.args.width ≤ length c.loop-k.room = omega (arith, row_holds c.args.width _ c.args.n c.loop-k.k _ c.in-Regions.is c.requires.room_len.0 c.loop-k-test.true) in
    let row = rw (part_length c.loop-k.room (c.loop-k.k * c.args.width) c.args.width fits) at c.fill_regions.ensures in
    (rows_more c.args.width c.loop-k.k (λ j. filled_row c.args.width _ c.args.bytes.now (c.args.i + j)) c.loop-k.room _ fits (ap length row ∙ row_wide c.args.width _ _ _ _ (c.args.i + c.loop-k.k)) row c.loop-k.invariant).1

pub returns-in_default : goal.returns-in_default
returns-in_default c =
    made_already c.args.width _ _ c.args.i c.args.n _ c.in_default.not-Regions c.requires.room_len.0 c.requires.room_len.1

pub returns-after-loop-k : goal.returns-after-loop-k
returns-after-loop-k c =
    made_regions c.args.width _ _ c.args.i c.args.n _ _ c.in-Regions.is (omega arith) (λ k h. c.loop-k.invariant k (omega arith))
