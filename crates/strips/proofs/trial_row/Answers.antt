-- `strips::trial_row` meets its contract: the trial begins at the candidate's last column, ahead of all that it can change (proofs/Strips), and the
-- sums of its strips are the row's answer (proofs/Rows).
use Prim.Native.Nat.{ℕ, ◌+◌, ◌-◌}
use mathlib.Core.Path.{◌≡◌, sym, ap, subst, ◌∙◌}
use native.Mathlib.Omega.{arith}
use lib.ListN.{length}
use Rattle.model.specs.Views.{seen}
use Rattle.model.proofs.Views.{length_seen}
use Rattle.places.specs.Positions.{first_at}
use Rattle.limits.specs.Limits.{limit_under, EdgeHeld}
use Rattle.limits.proofs.Limits.{edge_edged}
use Rattle.strips.specs.Strips.{around_lent, own_lent}
use Rattle.strips.proofs.Rows.{row_trial}
use Rattle.strips.proofs.Strips.{tried_line, tried_ready, first_ahead}
use Rattle.strips.proofs.trial_row.Goals as goal

pub pair_of-from-requires-clause-column_lt_w : goal.pair_of-from-requires-clause-column_lt_w
pair_of-from-requires-clause-column_lt_w c =
    let d = seen c.args.o.right c.args.v.depths.now in
    let e = seen c.args.o.right c.args.v.limits.now in
    let n : ℕ = c.args.first + length c.args.candidate.now in
    let wide = length_seen c.args.o.right c.args.v.depths.now in
    let high = c.limit_under-high.ensures ∙ ap (limit_under e n) c.next_place-next.ensures in
    let edge = edge_edged c.args.v.table.now d e n c.edge_of-edge.result (length_seen c.args.o.right c.args.v.limits.now ∙ c.requires.depths_len.1.1 ∙ sym c.requires.depths_len.0 ∙ sym wide) (omega (arith, c.requires.candidate_nonzero.0)) (rw wide c.requires.candidate_nonzero.1.0)
    (subst (λ (h : ℕ). EdgeHeld e n h c.edge_of-edge.result) high c.edge_of-edge.ensures) in
    rw wide at edge.within

pub trial_strips-requires-clause-ready : goal.trial_strips-requires-clause-ready
trial_strips-requires-clause-ready c =
    let width : c.args.first + length c.args.candidate.now - c.args.first ≡ length c.args.candidate.now = omega arith in
    let part = rw width at c.part_start-column.ensures.0 in (
      tried_ready c.args.v.tear c.args.o.right c.args.v.table.now c.args.v.texture.now c.args.v.depths.now c.args.candidate.now c.args.first _ c.requires.candidate_nonzero.1.0 part c.requires.table_value.0 (c.requires.depths_len.1.0 ∙ sym c.requires.depths_len.0) c.requires.candidate_nonzero.0 (omega (arith, c.requires.depths_len.0, c.requires.candidate_nonzero.1.1)),
      (rw width at c.part_start-column.ensures.1, sym c.requires.depths_len.0),
    )

pub trial_strips-requires-clause-ahead : goal.trial_strips-requires-clause-ahead
trial_strips-requires-clause-ahead c =
    let width : c.args.first + length c.args.candidate.now - c.args.first ≡ length c.args.candidate.now = omega arith in
    let part = rw width at c.part_start-column.ensures.0 in
    first_ahead c.args.v.tear c.args.o.right c.args.v.table.now c.args.v.texture.now c.args.v.depths.now c.args.candidate.now c.args.first _ c.requires.candidate_nonzero.1.0 part (seen c.args.o.right c.args.v.limits.now) c.pair_of-from.result c.edge_of-edge.result c.requires.candidate_nonzero.0 c.pair_of-from.ensures.0 c.pair_of-from.ensures.1.0
    (c.pair_of-from.ensures.1.1.0 ∙ c.at-d0.ensures)
    (c.pair_of-from.ensures.1.1.1.0 ∙ c.at-d1.ensures)
    (rw (c.pair_of-from.ensures.1.0, c.pair_of-from.ensures.1.1.0) c.pair_of-from.ensures.1.1.1.1.0)
    (c.pair_of-from.ensures.1.1.1.1.1.0 ∙ c.next_place-next.ensures)
    c.pair_of-from.ensures.1.1.1.1.1.1 c.edge_of-edge.ensures.limit
    (c.limit_under-high.ensures ∙ ap (limit_under (seen c.args.o.right c.args.v.limits.now) (c.args.first + length c.args.candidate.now)) (sym c.pair_of-from.ensures.1.1.1.1.1.0))
    c.first_at.ensures

pub returns : goal.returns
returns c =
    let width : c.args.first + length c.args.candidate.now - c.args.first ≡ length c.args.candidate.now = omega arith in
    let part = rw width at c.part_start-column.ensures.0 in
    let last : c.pair_of-from.result.column + 1 ≡ c.args.first + length c.args.candidate.now = omega (arith, c.pair_of-from.ensures.1.0, c.requires.candidate_nonzero.0) in
    let line = tried_line c.args.v.tear c.args.o.right c.args.v.table.now c.args.v.texture.now c.args.v.depths.now c.args.candidate.now c.args.first _ c.requires.candidate_nonzero.1.0 part in
    let high = c.limit_under-high.ensures ∙ ap (limit_under (seen c.args.o.right c.args.v.limits.now) (c.args.first + length c.args.candidate.now)) c.next_place-next.ensures in
    let held = subst (λ (h : ℕ). EdgeHeld (seen c.args.o.right c.args.v.limits.now) (c.args.first + length c.args.candidate.now) h c.edge_of-edge.result) high c.edge_of-edge.ensures in
    row_trial (around_lent c.args.o) (own_lent c.args.v) c.args.candidate.now c.args.first c.requires.table_value.0 c.requires.candidate_nonzero.1.0 c.requires.candidate_nonzero.0 (omega (arith, c.requires.depths_len.0, c.requires.candidate_nonzero.1.1)) (c.requires.depths_len.1.1 ∙ sym c.requires.depths_len.0) c.edge_of-edge.result held
    c.span_start-start.result c.first_at.result _ _
    c.span_start-start.ensures
    (c.first_at.ensures ∙ ap (λ (x : ℕ). first_at x) high)
    (rw (← c.requires.depths_len.0, line, last, c.pair_of-from.ensures.1.1.1.1.1.1) at c.trial_strips.ensures)
