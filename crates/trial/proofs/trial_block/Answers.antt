-- `trial::trial_block` meets its contract: the sums of the rows so far (proofs/Blocks).
use Prim.Native.Nat.{ℕ, ◌+◌, ◌-◌}
use mathlib.Core.Path.{◌≡◌, ap, subst, ◌∙◌}
use native.Mathlib.Omega.{arith}
use Rattle.model.specs.Lists.{row_of}
use Rattle.model.specs.Span.{first_column}
use Rattle.planes.specs.Parts.{block_of}
use Rattle.strips.specs.Strips.{around_lent, own_lent, RowTrial}
use Rattle.trial.specs.Trial.{own_row, around_row, BlockTrial}
use Rattle.trial.proofs.Blocks.{block_none, block_next, block_small, own_in, around_in, candidate_in}
use Rattle.trial.proofs.trial_block.Goals as goal
use Rattle.trial.proofs.trial_block.Goals.{After-trial_at-s}

-- one row more
row_tried : (c : After-trial_at-s) → BlockTrial c.args.w (around_lent c.args.o) (own_lent c.args.v) (block_of c.args.column c.args.row c.args.width c.args.height) c.args.candidate.now (c.loop-i.i + 1) (c.loop-i.old + c.trial_at-s.result.old) (c.loop-i.new + c.trial_at-s.result.new)
row_tried c =
    let o = around_lent c.args.o in
    let v = own_lent c.args.v in
    let n : c.args.column + c.args.width - c.args.column ≡ c.args.width = omega arith in
    block_next c.args.w o v (block_of c.args.column c.args.row c.args.width c.args.height) c.args.candidate.now c.loop-i.invariant c.loop-i-test.true (candidate_in c.requires.fits c.loop-i.i c.loop-i-test.true)
    (subst (λ (f : ℕ). RowTrial (around_row c.args.w o (c.args.row + c.loop-i.i)) (own_row c.args.w v (c.args.row + c.loop-i.i)) (row_of c.args.candidate.now c.args.width c.loop-i.i) f c.trial_at-s.result.old c.trial_at-s.result.new)
    (c.part_start-first.ensures.0 ∙ ap (first_column c.args.o.right c.args.w c.args.column) n) c.trial_at-s.ensures)

pub loop-i-init : goal.loop-i-init
loop-i-init c = block_none c.args.w _ _ (block_of c.args.column c.args.row c.args.width c.args.height) c.args.candidate.now

pub trial_at-s-requires-clause-own_row_in : goal.trial_at-s-requires-clause-own_row_in
trial_at-s-requires-clause-own_row_in c = own_in c.requires.sized (c.args.row + c.loop-i.i) (omega (arith, c.loop-i-test.true, c.requires.fits.bottom))

pub trial_at-s-requires-clause-around_row_in : goal.trial_at-s-requires-clause-around_row_in
trial_at-s-requires-clause-around_row_in c = around_in c.requires.sized (c.args.row + c.loop-i.i) (omega (arith, c.loop-i-test.true, c.requires.fits.bottom))

pub overflow_add-old : goal.overflow_add-old
overflow_add-old c =
    let next = row_tried (goal.at.overflow_add-old c).After-trial_at-s in
    omega (arith, (block_small c.args.w _ _ _ _ next c.requires.fits c.requires.sized.depths (omega (arith, c.loop-i-test.true))).0)

pub overflow_add-new : goal.overflow_add-new
overflow_add-new c =
    let next = row_tried (goal.at.overflow_add-new c).After-trial_at-s in
    omega (arith, (block_small c.args.w _ _ _ _ next c.requires.fits c.requires.sized.depths (omega (arith, c.loop-i-test.true))).1)

pub loop-i-preserved : goal.loop-i-preserved
loop-i-preserved c = row_tried (goal.at.loop-i-preserved c).After-trial_at-s
