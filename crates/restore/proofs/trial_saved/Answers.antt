-- `restore::trial_saved` meets its contract: the sums of the rows so far, each part of them tried as a block of its own.
use Prim.Native.Nat.{ℕ, ◌+◌, ◌≤◌}
use mathlib.Core.Path.{◌≡◌, sym, subst, ◌∙◌}
use native.Mathlib.Omega.{arith}
use native.Mathlib.Nat.{mul_comm}
use lib.Seq.{length-take-le}
use Rattle.planes.specs.Parts.{block_of}
use Rattle.strips.specs.Strips.{around, own}
use Rattle.trial.specs.Trial.{BlockTrial}
use Rattle.trial.proofs.Blocks.{block_none, block_small}
use Rattle.restore.proofs.Parts.{narrow_requires, block_saved}
use Rattle.restore.proofs.trial_saved.Goals as goal

pub loop-done-init : goal.loop-done-init
loop-done-init c =
    (omega arith, (c.requires.fits.1.1, block_none c.args.w _ _ (block_of c.args.column c.args.row c.args.width c.args.height) _))

pub overflow_sub-height : goal.overflow_sub-height
overflow_sub-height c = omega (arith, c.loop-done-test.true)

pub narrow_rows-n-requires : goal.narrow_rows-n-requires
narrow_rows-n-requires c = let all = narrow_requires c.requires.fits.0 c.requires.fits.1.0 c.loop-done.room c.loop-done.invariant.1.0 c.loop-done-test.true in record { width_nonzero = all.0; words_value = all.1 }

pub overflow_mul-end : goal.overflow_mul-end
overflow_mul-end c = omega (arith, c.narrow_rows-n.ensures.holds, c.loop-done.invariant.1.0, c.narrow_rows-n.auto.room)

pub overflow_add-row : goal.overflow_add-row
overflow_add-row c = omega (arith, c.loop-done-test.true, c.requires.fits.0.bottom, c.requires.fits.0.high)

pub slice_bounds-trial_block-end : goal.slice_bounds-trial_block-end
slice_bounds-trial_block-end c = c.narrow_rows-n.ensures.holds

pub slice_bounds-trial_block-end-in-loop-done : goal.slice_bounds-trial_block-end-in-loop-done
slice_bounds-trial_block-end-in-loop-done c = sym (length-take-le _ _ c.narrow_rows-n.ensures.holds)

pub trial_block-part-requires : goal.trial_block-part-requires
trial_block-part-requires c = record {
  table_value = c.requires.table_value;
  sized = c.requires.sized;
  fits = record {
    wide = c.requires.fits.0.wide;
    high = c.requires.fits.0.high;
    some = c.requires.fits.0.some;
    right = c.requires.fits.0.right;
    bottom = omega (arith, c.requires.fits.0.bottom, c.narrow_rows-n.ensures.few, c.loop-done-test.true);
    entries = length-take-le _ _ c.narrow_rows-n.ensures.holds ∙ mul_comm c.narrow_rows-n.result c.args.width;
  };
}

pub overflow_add-old : goal.overflow_add-old
overflow_add-old c =
    let b = block_of c.args.column c.args.row c.args.width c.args.height in
    let o = around c.args.right c.args.share c.args.tolerance c.args.samples.now c.args.fronts.now c.args.marks.now c.args.combined.now c.args.reference.now in
    let v = own c.args.tear c.args.table.now c.args.texture.now c.args.depths.now c.args.limits.now in
    let more : c.loop-done.done + c.narrow_rows-n.result ≤ c.args.height = omega (arith, c.narrow_rows-n.ensures.few, c.loop-done-test.true) in
    let next = block_saved b c.args.words.now _ c.loop-done.done c.narrow_rows-n.result c.requires.fits.0.entries more c.narrow_rows-n.ensures.rows c.loop-done.invariant.1.1 c.trial_block-part.ensures in
    omega (arith, (block_small c.args.w o v b c.args.words.now next c.requires.fits.0 c.requires.sized.depths more).0)

pub overflow_add-new : goal.overflow_add-new
overflow_add-new c =
    let b = block_of c.args.column c.args.row c.args.width c.args.height in
    let o = around c.args.right c.args.share c.args.tolerance c.args.samples.now c.args.fronts.now c.args.marks.now c.args.combined.now c.args.reference.now in
    let v = own c.args.tear c.args.table.now c.args.texture.now c.args.depths.now c.args.limits.now in
    let more : c.loop-done.done + c.narrow_rows-n.result ≤ c.args.height = omega (arith, c.narrow_rows-n.ensures.few, c.loop-done-test.true) in
    let next = block_saved b c.args.words.now _ c.loop-done.done c.narrow_rows-n.result c.requires.fits.0.entries more c.narrow_rows-n.ensures.rows c.loop-done.invariant.1.1 c.trial_block-part.ensures in
    omega (arith, (block_small c.args.w o v b c.args.words.now next c.requires.fits.0 c.requires.sized.depths more).1)

pub overflow_add-done : goal.overflow_add-done
overflow_add-done c = omega (arith, c.narrow_rows-n.ensures.few, c.loop-done-test.true, c.requires.fits.0.bottom, c.requires.fits.0.high)

pub loop-done-smaller : goal.loop-done-smaller
loop-done-smaller c = omega (arith, c.narrow_rows-n.ensures.some, c.narrow_rows-n.ensures.few, c.loop-done-test.true)

pub loop-done-preserved : goal.loop-done-preserved
loop-done-preserved c =
    let b = block_of c.args.column c.args.row c.args.width c.args.height in
    let o = around c.args.right c.args.share c.args.tolerance c.args.samples.now c.args.fronts.now c.args.marks.now c.args.combined.now c.args.reference.now in
    let v = own c.args.tear c.args.table.now c.args.texture.now c.args.depths.now c.args.limits.now in
    let more : c.loop-done.done + c.narrow_rows-n.result ≤ c.args.height = omega (arith, c.narrow_rows-n.ensures.few, c.loop-done-test.true) in
    let next = block_saved b c.args.words.now _ c.loop-done.done c.narrow_rows-n.result c.requires.fits.0.entries more c.narrow_rows-n.ensures.rows c.loop-done.invariant.1.1 c.trial_block-part.ensures in
    (more, (c.narrow_rows-n.auto.room ∙ c.loop-done.invariant.1.0, next))

pub shape_of-room : goal.shape_of-room
shape_of-room c = c.loop-done.invariant.1.0 ∙ sym c.requires.fits.1.1

pub returns : goal.returns
returns c =
    let b = block_of c.args.column c.args.row c.args.width c.args.height in
    let o = around c.args.right c.args.share c.args.tolerance c.args.samples.now c.args.fronts.now c.args.marks.now c.args.combined.now c.args.reference.now in
    let v = own c.args.tear c.args.table.now c.args.texture.now c.args.depths.now c.args.limits.now in
    let e : c.loop-done.done ≡ c.args.height = omega (arith, c.loop-done.invariant.0, c.loop-done-test.false) in
    subst (λ (n : ℕ). BlockTrial c.args.w o v b c.args.words.now n c.loop-done.old c.loop-done.new) e c.loop-done.invariant.1.1
