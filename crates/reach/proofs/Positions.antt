-- The positions of the span of an edit of one column, and sums over them.
--     high_span          high is where the span of specs/Span ends, for the last column too
--     most_length        the bound by raised numbers
--     inside, outside    the span is the positions from `start` to below `stop`
--     most_positions     the bound counts no fewer
--     one_more           and at most one more
--     sum_stretch        a sum over a row, as the view reads it, whose terms are 0 outside a stretch
use Prim.Native.Nat.{ℕ, ◌+◌, ◌-◌, ◌*◌, ◌/◌, ◌<◌, ◌≤◌}
use mathlib.Core.Path.{◌≡◌, refl, sym, ap, ◌∙◌}
use mathlib.Core.Bool.{Bool, true, false}
use mathlib.Core.Logic.{◌⊎◌}
use native.Mathlib.Omega.{arith}
use native.Mathlib.Nat.{mul-le-mul, le_refl, le_trans}
use lib.Dec.{eqb}
use lib.IntN.{sub_ℕ}
use Rattle.std.proofs.lemmas.Int.{ints}
use Rattle.std.proofs.lemmas.Bool.Decides.{nat_tests}
use borrow.Author.Tests.{eqb-true}
use Rattle.model.specs.Lists.{sum_to}
use Rattle.model.specs.Row.{limit, raised, signed}
use Rattle.model.specs.Views.{entry_of}
use Rattle.model.specs.Combined.{worst}
use Rattle.model.specs.Span.{span_low, span_high, in_span}
use Rattle.model.proofs.Choice.{bool_cases}
use Rattle.model.proofs.Sums.{sum_within}
use Rattle.model.proofs.Owners.{limit_end}
use Rattle.model.proofs.Signs.{signed_quarter, signed_gap}
use Rattle.reach.specs.Reach.{low_of, from_zero, high_of, length_of, most_change}

-- ---- the bound

pub high_span : (f : ℕ → ℕ) (w c : ℕ) → high_of f w c ≡ signed (span_high f w c)
unfolding high_of span_high
high_span f w c =
    bool_cases (eqb (c + 1) w)
    (λ t. rw t (sym (ap signed (ap (limit f w) (eqb-true (c + 1) w t) ∙ limit_end f w) ∙ signed_quarter w)))
    (λ t. rw t refl)

-- low of 0 or more, raised
from_zero_lem : (low : ℕ) → from_zero (signed low) ≡ signed (low - raised + raised)
unfolding from_zero
from_zero_lem low = grind (arith, ints, nat_tests)

most_gap : (a b : ℕ) → most_change (sub_ℕ a b) ≡ worst * ((a - b + 3) / 4)
unfolding most_change
most_gap a b = grind (arith, ints, nat_tests)

module _ (f g : ℕ → ℕ) (w c : ℕ) where
  abbrev low : ℕ
  low = span_low f g c c

  abbrev high : ℕ
  high = span_high f w c

  pub most_length : most_change (length_of f g w c) ≡ worst * ((high - (low - raised + raised) + 3) / 4)
  unfolding length_of low_of
  most_length =
      rw (high_span f w c, from_zero_lem low, signed_gap high (low - raised + raised)) (most_gap high (low - raised + raised))

  -- ---- the positions

  -- the first position of the span, and the first past it
  unfoldable pub start : ℕ
  start = (low - raised + 3) / 4

  unfoldable pub stop : ℕ
  stop = (high - raised + 3) / 4

  pub outside : (p : ℕ) → (p < start) ⊎ (stop ≤ p) → in_span f g w c c p ≡ false
  unfolding in_span start stop
  outside p h = grind (arith, nat_tests)

  pub inside : (p : ℕ) → start ≤ p → p < stop → in_span f g w c c p ≡ true
  unfolding in_span start stop
  inside p h k = grind (arith, nat_tests)

  pub most_positions : worst * (stop - start) ≤ most_change (length_of f g w c)
  unfolding start stop
  most_positions =
      rw most_length (omega arith)

  pub one_more : most_change (length_of f g w c) ≤ worst * (stop - start + 1)
  unfolding start stop
  one_more =
      rw most_length (omega arith)

-- ---- sums

pub sum_stretch : (right : Bool) (f : ℕ → ℕ) (m from to w : ℕ) → ((i : ℕ) → i < w → f i ≤ m) → ((i : ℕ) → i < w → (entry_of right w i < from) ⊎ (to ≤ entry_of right w i) → f i ≡ 0) → sum_to f w ≤ m * (to - from)
unfolding entry_of
sum_stretch false f m from to w most none = sum_within f m from to w most none
sum_stretch true f m from to w most none =
    let h = sum_within f m (w - to) (w - from) w most (λ i l o. none i l (grind arith)) in
    le_trans h (mul-le-mul (le_refl m) (omega arith))
