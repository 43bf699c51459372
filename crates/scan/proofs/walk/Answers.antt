-- `scan::walk` meets its contract. Between rows no difference has been found and the rows' errors are summed; within a row the same holds
-- up to the column.
use mathlib.Core.Path.{refl, ap, ◌∙◌}
use native.Mathlib.Omega.{arith}
use Rattle.model.specs.Combined.{square_error}
use Rattle.model.proofs.Totals.{combined_most}
use Rattle.marks.proofs.Held.{held_most}
use Rattle.scan.proofs.Tested.{tested}
use Rattle.scan.proofs.Passed.{passed_none, passed_row, walked_all, drawn_next, drawn_at}
use Rattle.scan.proofs.walk.Goals as goal

pub rows-init : goal.rows-init
rows-init c = record { tested = tested _ _ _ _ c.requires.combined_value; none = refl; passed = passed_none }

pub square_error-requires : goal.square_error-requires
square_error-requires c = (c.requires.squares, (rw c.shown_at-shown.ensures (combined_most _ _ _ _ c.rows.invariant.tested.common.share (held_most _ _ _ _) (held_most _ _ _ _)), c.sample_in-wanted.ensures.1))

pub loop-x-preserved : goal.loop-x-preserved
loop-x-preserved c = record {
  none = c.loop-x.invariant.none;
  passed = drawn_next _ _ c.loop-x.invariant.passed c.rows.invariant.tested c.rows-test.true c.loop-x-test.true c.draw_front.ensures c.draw_front-in-rows.ensures c.shown_at-shown.ensures c.same_at.ensures c.if-not-same_at.false
      (c.square_error.ensures.0 ∙ ap (square_error _) c.sample_in-wanted.ensures.0, c.square_error.ensures.1)
      c.from-sum.ensures;
}

pub rows-preserved : goal.rows-preserved
rows-preserved c = record { tested = c.rows.invariant.tested; none = c.loop-x.invariant.none; passed = passed_row _ _ _ (omega arith) c.loop-x.invariant.passed }

pub returns-after-rows : goal.returns-after-rows
returns-after-rows c = walked_all _ _ _ c.rows.invariant.none (omega arith) c.rows.invariant.passed

pub returns-then-not-same_at : goal.returns-then-not-same_at
returns-then-not-same_at c =
    drawn_at _ _ c.loop-x.invariant.passed c.rows.invariant.tested c.rows-test.true c.loop-x-test.true c.draw_front.ensures c.draw_front-in-rows.ensures c.shown_at-shown.ensures c.same_at.ensures c.if-not-same_at.true
