-- Document 02, card 6: a block of one column or row has no line.
use Prim.Native.Nat.{◌<◌}
use mathlib.Core.Path.{◌≡◌}
use mathlib.Core.Bool.{true, false, ◌&&◌}
use mathlib.Core.Logic.{◌⊎◌}
use native.Mathlib.Omega.{arith}
use Rattle.std.proofs.lemmas.Bool.Decides.{nat_tests}
use Rattle.model.specs.declared.Block.{Block}
use Rattle.model.specs.declared.Point.{Point}
use Rattle.model.specs.Candidates.{on_border, side_shared, line_ok}
use Rattle.model.proofs.Choice.{bool_cases, and_left, and_right}
use Rattle.model.proofs.Candidates.{border_inside}

-- two points of a block of one column or row share that side
one_side : (b : Block) (p q : Point) → (b.width ≡ 1) ⊎ (b.height ≡ 1) → (p.column < b.width) × (p.row < b.height) → (q.column < b.width) × (q.row < b.height) → side_shared b p q ≡ true
unfolding side_shared
one_side b p q thin f g = grind (arith, nat_tests)

pub no_line : (b : Block) (p q : Point) → (b.width ≡ 1) ⊎ (b.height ≡ 1) → line_ok b p q ≡ false
unfolding line_ok
no_line b p q thin =
    bool_cases (on_border b p && on_border b q)
    (λ t.
    let f = border_inside b p (and_left (on_border b p) _ t) in
    let g = border_inside b q (and_right (on_border b p) _ t) in
    rw (t, one_side b p q thin f g))
    (λ e. rw e)
