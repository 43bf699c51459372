-- `row::draw_positions` meets its contract: the positions from i on are drawn, the pair is ahead of those below it, and the columns passed
-- lie past them (proofs/Pass).
use Prim.Native.Nat.{◌+◌, ◌-◌}
use mathlib.Core.Path.{◌≡◌, sym, ◌∙◌}
use native.Mathlib.Omega.{arith}
use Rattle.model.proofs.Views.{length_seen}
use Rattle.planes.proofs.Paints.{painted_none, painted_back}
use Rattle.row.proofs.Pass.{ahead_less, ahead_within, ahead_edge, step_column, step_ahead, passed_none, passed_less, step_passed, owner_passed}
use Rattle.row.proofs.Columns.{with_width}
use Rattle.row.proofs.draw_positions.Goals as goal

pub loop-i-init : goal.loop-i-init
loop-i-init c =
    record { ahead = c.requires.ahead; passed = passed_none _ _ _; painted = painted_none _ _ _ _ _ }

pub loop-q-init : goal.loop-q-init
loop-q-init c =
    record { ahead = ahead_less _ c.loop-i.invariant.ahead (omega arith); passed = passed_less _ c.loop-i.invariant.passed (omega arith) }

pub step-q-requires-clause-among : goal.step-q-requires-clause-among
step-q-requires-clause-among c =
    let wide = with_width c.args.right c.args.depths.now c.args.candidate.now c.args.column c.requires.ready.1 in
    (rw wide at c.loop-q.invariant.ahead.among, step_column _ c.loop-q.invariant.ahead c.loop-q-test.true)

pub loop-q-smaller : goal.loop-q-smaller
loop-q-smaller c = omega (arith, c.step-q.ensures.0, step_column _ c.loop-q.invariant.ahead c.loop-q-test.true)

pub loop-q-preserved : goal.loop-q-preserved
loop-q-preserved c =
    let wide = with_width c.args.right c.args.depths.now c.args.candidate.now c.args.column c.requires.ready.1 in
    record {
      ahead = step_ahead _ c.loop-q.invariant.ahead c.loop-q-test.true c.step-q.ensures.1.0 c.step-q.ensures.1.1.0 (rw wide c.step-q.ensures.1.1.1.0) c.step-q.ensures.1.1.1.1;
      passed = step_passed _ c.loop-q.invariant.passed c.loop-q.invariant.ahead c.loop-q-test.true c.step-q.ensures.0 c.step-q.ensures.1.1.0;
    }

pub shown_at-shown-requires : goal.shown_at-shown-requires
shown_at-shown-requires c =
    let wide = with_width c.args.right c.args.depths.now c.args.candidate.now c.args.column c.requires.ready.1 in
    let same = sym (length_seen c.args.right c.args.texture.now) ∙ c.requires.ready.0.texture ∙ wide in
    record {
      texture_len = (same, c.requires.ready.1);
      among = rw wide at c.loop-q.invariant.ahead.among;
      here_le_x = (c.loop-q-test.false, (ahead_edge _ c.loop-q.invariant.ahead, (c.loop-q.invariant.ahead.under, rw wide at (ahead_within c.loop-q.invariant.ahead).0)));
    }

pub loop-i-preserved : goal.loop-i-preserved
loop-i-preserved c =
    record {
      ahead = ahead_less _ c.loop-q.invariant.ahead (omega arith);
      passed = passed_less _ c.loop-q.invariant.passed (omega arith);
      painted = painted_back (c.loop-i.i - 1) c.shown_at-shown.result c.loop-i.invariant.painted (omega (arith, c.loop-i-test.true)) c.loop-i.auto.i
          (omega (arith, length_seen c.args.right c.loop-i.samples, c.loop-i.auto.samples))
          (omega (arith, length_seen c.args.right c.loop-i.fronts, c.loop-i.auto.fronts, c.requires.fronts_len.0))
          (omega (arith, length_seen c.args.right c.loop-i.flags, c.loop-i.auto.flags, c.requires.fronts_len.1))
          (c.shown_at-shown.ensures ∙ owner_passed _ c.loop-q.invariant.passed c.loop-q.invariant.ahead c.requires.ready.0.texture c.loop-q-test.false)
          c.put_pixel.ensures.0 c.put_pixel.ensures.1.0 c.put_pixel.ensures.1.1;
    }

pub returns : goal.returns
returns c =
    let z : c.loop-i.i ≡ 0 = omega (arith, c.loop-i-test.false) in
    let y : c.args.start + c.loop-i.i ≡ c.args.start = omega arith in
    record { painted = rw z at c.loop-i.invariant.painted; ahead = rw y at c.loop-i.invariant.ahead; passed = rw y at c.loop-i.invariant.passed }
