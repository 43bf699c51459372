-- `restore::set_saved` meets its contract: the rows passed are set, each part of them as a block of its own.
use mathlib.Core.Path.{◌≡◌, sym, ◌∙◌}
use native.Mathlib.Omega.{arith}
use lib.Seq.{length-take-le}
use Rattle.combine.proofs.Rows.{through_none, through_all}
use Rattle.restore.proofs.Parts.{narrow_requires}
use Rattle.restore.proofs.Rows.{part_requires, through_saved}
use Rattle.restore.proofs.set_saved.Goals as goal

pub loop-done-init : goal.loop-done-init
loop-done-init c =
    (omega arith, (c.requires.fits.1.1, through_none c.requires.sized c.requires.other_sized))

pub overflow_sub-height : goal.overflow_sub-height
overflow_sub-height c = omega (arith, c.loop-done-test.true)

pub narrow_rows-n-requires : goal.narrow_rows-n-requires
narrow_rows-n-requires c = let all = narrow_requires c.requires.fits.0 c.requires.fits.1.0 c.loop-done.room c.loop-done.invariant.1.0 c.loop-done-test.true in record { width_nonzero = all.0; words_value = all.1 }

pub overflow_mul-end : goal.overflow_mul-end
overflow_mul-end c = omega (arith, c.narrow_rows-n.ensures.holds, c.loop-done.invariant.1.0, c.narrow_rows-n.auto.room)

pub overflow_add-row : goal.overflow_add-row
overflow_add-row c = omega (arith, c.loop-done-test.true, c.requires.fits.0.bottom, c.requires.fits.0.high)

pub slice_bounds-set_block-end : goal.slice_bounds-set_block-end
slice_bounds-set_block-end c = c.narrow_rows-n.ensures.holds

pub slice_bounds-set_block-end-in-loop-done : goal.slice_bounds-set_block-end-in-loop-done
slice_bounds-set_block-end-in-loop-done c = sym (length-take-le _ _ c.narrow_rows-n.ensures.holds)

pub set_block-requires : goal.set_block-requires
set_block-requires c =
    let asked = part_requires c.requires.fits.0 c.narrow_rows-n.ensures (omega (arith, c.loop-done.invariant.0)) in record { table_value = (c.requires.table_value.0, (c.requires.table_value.1, (c.requires.fits.0.wide, c.requires.fits.0.high))); sized = c.loop-done.invariant.1.1.size; other_sized = c.loop-done.invariant.1.1.other; block_in = asked }

pub overflow_add-done : goal.overflow_add-done
overflow_add-done c = omega (arith, c.narrow_rows-n.ensures.few, c.loop-done-test.true, c.requires.fits.0.bottom, c.requires.fits.0.high)

pub loop-done-smaller : goal.loop-done-smaller
loop-done-smaller c = omega (arith, c.narrow_rows-n.ensures.some, c.narrow_rows-n.ensures.few, c.loop-done-test.true)

pub loop-done-preserved : goal.loop-done-preserved
loop-done-preserved c =
    (omega (arith, c.narrow_rows-n.ensures.few, c.loop-done-test.true), (c.narrow_rows-n.auto.room ∙ c.loop-done.invariant.1.0, through_saved c.requires.fits.0 c.narrow_rows-n.ensures (omega (arith, c.loop-done.invariant.0)) c.loop-done.invariant.1.1 c.requires.sized.depths c.set_block.ensures))

pub shape_of-room : goal.shape_of-room
shape_of-room c = c.loop-done.invariant.1.0 ∙ sym c.requires.fits.1.1

pub shape_of-depths : goal.shape_of-depths
shape_of-depths c = c.loop-done.invariant.1.1.size.depths ∙ sym c.requires.sized.depths

pub shape_of-samples : goal.shape_of-samples
shape_of-samples c = c.loop-done.invariant.1.1.size.samples ∙ sym c.requires.sized.samples

pub shape_of-fronts : goal.shape_of-fronts
shape_of-fronts c = c.loop-done.invariant.1.1.size.fronts ∙ sym c.requires.sized.fronts

pub shape_of-limits : goal.shape_of-limits
shape_of-limits c = c.loop-done.invariant.1.1.size.limits ∙ sym c.requires.sized.limits

pub shape_of-marks : goal.shape_of-marks
shape_of-marks c = c.loop-done.invariant.1.1.size.marks ∙ sym c.requires.sized.marks

pub shape_of-combined : goal.shape_of-combined
shape_of-combined c = c.loop-done.invariant.1.1.other.combined ∙ sym c.requires.other_sized.combined

pub returns : goal.returns
returns c =
    let e : c.loop-done.done ≡ c.args.height = omega (arith, c.loop-done.invariant.0, c.loop-done-test.false) in
    through_all (rw e at c.loop-done.invariant.1.1) c.requires.sized.depths
