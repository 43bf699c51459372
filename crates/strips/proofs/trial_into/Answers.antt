-- `strips::trial_into` meets its contract: what is drawn into the strip is what is measured (proofs/Rows, measured_summed).
use Prim.Native.Nat.{ℕ, ◌+◌, ◌-◌, ◌≤◌}
use mathlib.Core.Path.{◌≡◌, ◌∙◌}
use native.Mathlib.Omega.{arith}
use lib.ListN.{length}
use Rattle.pixel.specs.Pairs.{edge_right}
use Rattle.row.specs.Drawing.{pixel_below, line_with}
use Rattle.row.proofs.Below.{below_sample}
use Rattle.row.proofs.Pass.{ahead_within}
use Rattle.strips.specs.Strips.{around_lent}
use Rattle.strips.proofs.Rows.{measured_summed, strip_most}
use Rattle.row.proofs.Columns.{with_width}
use Rattle.strips.proofs.trial_into.Goals as goal

pub part_start-at-requires : goal.part_start-at-requires
part_start-at-requires c =
    let wide = with_width c.args.o.right c.args.v.depths.now c.args.candidate.now c.args.column c.requires.ready.1.0 in
    (omega arith, omega (arith, wide, (ahead_within c.requires.ahead.0).1))

pub measure-sums-requires-clause-s_in_bounds : goal.measure-sums-requires-clause-s_in_bounds
measure-sums-requires-clause-s_in_bounds c =
    let wide = with_width c.args.o.right c.args.v.depths.now c.args.candidate.now c.args.column c.requires.ready.1.0 in
    let inside = (ahead_within c.requires.ahead.0).1 in
    (omega (arith, c.draw_span-pair.auto.samples, c.part_start-at.ensures.1, c.requires.ready.1.1, wide, inside), omega (arith, c.requires.ready.0.most, c.requires.ready.1.1, wide))

pub measure-sums-requires-clause-by_index : goal.measure-sums-requires-clause-by_index
measure-sums-requires-clause-by_index c =
    let l = line_with c.args.v.tear c.args.o.right c.args.v.table.now c.args.v.texture.now c.args.v.depths.now c.args.column c.args.candidate.now in
    strip_most c.args.o.right _ _ c.draw_span-pair.auto.samples c.draw_span-pair.ensures.painted (λ i. below_sample l (c.args.from.column + 1) (edge_right c.args.from) (c.args.start + i))

pub returns : goal.returns
returns c =
    let wide = with_width c.args.o.right c.args.v.depths.now c.args.candidate.now c.args.column c.requires.ready.1.0 in
    let n : ℕ = length c.args.s.now in
    let o = around_lent c.args.o in
    let l = line_with c.args.v.tear c.args.o.right c.args.v.table.now c.args.v.texture.now c.args.v.depths.now c.args.column c.args.candidate.now in
    let inside : c.args.start + n ≤ length c.args.v.depths.now = omega (arith, wide, (ahead_within c.requires.ahead.0).1) in
    let e : c.args.start + n - c.args.start ≡ n = omega arith in
    record {
      summed = rw wide
          (measured_summed o (length c.args.v.depths.now) c.args.start n c.part_start-at.result inside (rw e at c.part_start-at.ensures.0)
          (pixel_below l (c.args.from.column + 1) (edge_right c.args.from)) _ _ _ c.draw_span-pair.auto.samples (c.draw_span-pair.auto.fronts ∙ c.requires.ahead.1.0) (c.draw_span-pair.auto.flags ∙ c.requires.ahead.1.1) c.draw_span-pair.ensures.painted (rw c.draw_span-pair.auto.samples at c.measure-sums.ensures));
      ahead = c.draw_span-pair.ensures.ahead;
      passed = c.draw_span-pair.ensures.passed;
    }
