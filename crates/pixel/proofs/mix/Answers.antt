-- `pixel::mix` meets its contract: read backwards, k quarters from a column to the next are 4 − k quarters from that next column.
use Prim.Native.Nat.{ℕ, ◌-◌}
use mathlib.Core.Path.{◌≡◌, sym, ap, ◌∙◌}
use native.Mathlib.Omega.{arith}
use lib.ListN.{length}
use Rattle.model.specs.Row.{mixed}
use Rattle.model.specs.Views.{seen}
use Rattle.planes.proofs.Entries.{entry_right, entry_left}
use Rattle.filter.proofs.Turned.{mixed_turned}
use Rattle.pixel.proofs.mix.Goals as goal

pub overflow_sub-e : goal.overflow_sub-e
overflow_sub-e c = omega (arith, entry_right (length c.args.texture.now) c.args.c c.if-right.true)

pub between-requires-clause-c_in_bounds : goal.between-requires-clause-c_in_bounds
between-requires-clause-c_in_bounds c =
    let e = entry_right (length c.args.texture.now) c.args.c c.if-right.true in (omega arith, c.requires.k_bound.1)

pub between-requires-else-right-clause-c_in_bounds : goal.between-requires-else-right-clause-c_in_bounds
between-requires-else-right-clause-c_in_bounds c =
    let e = entry_left (length c.args.texture.now) c.args.c c.if-right.false in (omega arith, c.requires.k_bound.1)

pub returns-then-right : goal.returns-then-right
returns-then-right c =
    let d : c.args.e - 1 ≡ length c.args.texture.now - 2 - c.args.c = omega (arith, entry_right (length c.args.texture.now) c.args.c c.if-right.true) in
    rw c.if-right.true
    (c.between.ensures
    ∙ ap (λ (i : ℕ). mixed c.args.texture.now i (4 - c.args.k)) d
    ∙ sym (mixed_turned c.args.texture.now c.args.c c.requires.c_in_bounds.0 c.args.k c.requires.k_bound.0))

pub returns-else-right : goal.returns-else-right
unfolding seen
returns-else-right c =
    let d : c.args.e ≡ c.args.c = omega (arith, entry_left (length c.args.texture.now) c.args.c c.if-right.false) in
    rw c.if-right.false (c.between-else-right.ensures ∙ ap (λ (i : ℕ). mixed c.args.texture.now i c.args.k) d)
