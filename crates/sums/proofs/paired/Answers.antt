-- `sums::paired` meets its contract: the sample is blended, or one of the two is taken.
use Prim.Native.Nat.{◌≤◌}
use mathlib.Core.Path.{◌≡◌, ◌∙◌}
use mathlib.Core.Bool.{cond}
use Rattle.model.specs.Combined.{apart}
use Rattle.sums.specs.Sides.{paired}
use Rattle.sums.proofs.Sides.{both_shown_lem, shown_both, paired_blended, paired_chosen}
use Rattle.sums.proofs.paired.Goals as goal
use Rattle.sums.proofs.paired.Goals.{After-prefers, else-own-other-eq0-via-then-own-other-eq0+else-abs_diff-tolerance, else-own-other-eq0-via-else-own-other-eq0}

-- past the first test the two are not blended: a mark is not 0, or the depths are too far apart
chosen : (c : After-prefers) →
    cond c.prefers.result c.args.own.sample c.args.other.sample ≡ paired c.args.right c.args.share c.args.tolerance c.args.own c.args.other
chosen c =
    rw c.prefers.ensures
    (paired_chosen c.args.right c.args.share c.args.tolerance c.args.own c.args.other
    (λ p q. elim c.else-own-other-eq0.branch [
      | else-own-other-eq0-via-then-own-other-eq0+else-abs_diff-tolerance w ↦ rw w.abs_diff.ensures at w.if-abs_diff-tolerance.false
      | else-own-other-eq0-via-else-own-other-eq0 w ↦ absurd (w.if-own-other-eq0.false (shown_both c.args.own.mark c.args.other.mark p q))
    ]))

pub returns-then-abs_diff-tolerance : goal.returns-then-abs_diff-tolerance
returns-then-abs_diff-tolerance c =
    let marks = both_shown_lem c.args.own.mark c.args.other.mark c.if-own-other-eq0.true in
    let near : apart c.args.own.front c.args.other.front ≤ c.args.tolerance = rw c.abs_diff.ensures at c.if-abs_diff-tolerance.true in
    c.blended.ensures
    ∙ rw c.own_share.ensures.0 (paired_blended c.args.right c.args.share c.args.tolerance c.args.own c.args.other c.requires marks.0 marks.1 near)

pub returns-then-prefers : goal.returns-then-prefers
returns-then-prefers c = rw c.if-prefers.true at (chosen (goal.at.returns-then-prefers c).After-prefers)

pub returns-else-prefers : goal.returns-else-prefers
returns-else-prefers c = rw c.if-prefers.false at (chosen (goal.at.returns-else-prefers c).After-prefers)
