-- The combined sample told by one view of the other: two marks 0 of near depths are blended, and elsewhere one of the two samples is taken.
--     both_shown_lem, shown_both    joined marks are 0 where both are, and there alone
--     paired_blended            where the two are blended
--     paired_chosen             where one is taken
--     paired_most               it is no greater than a sample may be
use Prim.Native.Nat.{ℕ, ◌-◌, ◌*◌, ◌<◌, ◌≤◌}
use mathlib.Core.Path.{◌≡◌}
use mathlib.Core.Bool.{Bool, true, false, cond}
use native.Mathlib.Nat.{add_comm}
use native.Mathlib.Omega.{arith}
use lib.Dec.{ltb, eqb}
use lib.Bits.{bit_or, or_add_and, and_le_l, and_le_r}
use borrow.Author.Tests.{ltb-true, ltb-false, lt-ltb, le-ltb, le-leb, lt-leb, eq-eqb, eqb-true}
use Rattle.model.specs.declared.Pixel.{Pixel}
use Rattle.model.specs.Row.{greatest}
use Rattle.model.specs.Combined.{apart, blended, both_shown, both_holes, combined_of}
use Rattle.model.proofs.Choice.{bool_cases}
use Rattle.model.proofs.Totals.{combined_most}
use Rattle.sums.specs.Sides.{paired, own_share, own_hole, prefers_own}

pub both_shown_lem : (a b : ℕ) → bit_or a b ≡ 0 → (a ≡ 0) × (b ≡ 0)
both_shown_lem a b e =
    let sum = or_add_and a b in
    let left = and_le_l a b in
    let right = and_le_r a b in
    (omega arith, omega arith)

pub shown_both : (a b : ℕ) → a ≡ 0 → b ≡ 0 → bit_or a b ≡ 0
shown_both a b p q = omega (arith, or_add_and a b)

-- the two parts of the blended sample make up the whole, whichever is named first
pub paired_blended : (right : Bool) (share tolerance : ℕ) (own other : Pixel) → share ≤ 64 → own.mark ≡ 0 → other.mark ≡ 0 → apart own.front other.front ≤ tolerance → blended (own_share right share) other.sample own.sample ≡ paired right share tolerance own other
unfolding paired combined_of both_shown blended own_share
paired_blended true share tolerance own other h p q near =
    rw (eq-eqb _ _ p, eq-eqb _ _ q, le-leb (apart other.front own.front) tolerance (omega arith))
paired_blended false share tolerance own other h p q near =
    let rest : 64 - (64 - share) ≡ share = omega arith in
    rw (
      eq-eqb _ _ p,
      eq-eqb _ _ q,
      le-leb (apart own.front other.front) tolerance near,
      rest,
      add_comm (other.sample * share) (own.sample * (64 - share)),
    )

-- of two samples that are read neither combines to more
pub paired_most : (right : Bool) (share tolerance : ℕ) (own other : Pixel) → share ≤ 64 → own.sample ≤ greatest → other.sample ≤ greatest → paired right share tolerance own other ≤ greatest
unfolding paired
paired_most true share tolerance own other h a b = combined_most share tolerance other own h b a
paired_most false share tolerance own other h a b = combined_most share tolerance own other h a b

-- two marks 0 of far depths, told by the left view and by the right
module _ (share tolerance : ℕ) (own other : Pixel) (far : tolerance < apart own.front other.front) where
  far_left : cond (ltb other.front own.front) own.sample other.sample ≡ both_shown share tolerance own other
  unfolding both_shown
  far_left = rw (lt-leb (apart own.front other.front) tolerance far)

  far_right : cond (ltb other.front own.front) own.sample other.sample ≡ both_shown share tolerance other own
  unfolding both_shown
  far_right =
      rw (lt-leb (apart other.front own.front) tolerance (omega arith))
      (bool_cases (ltb other.front own.front)
      (λ e. rw (e, le-ltb own.front other.front (omega (arith, ltb-true other.front own.front e))))
      (λ e. rw (e, lt-ltb own.front other.front (omega (arith, ltb-false other.front own.front e)))))

-- two marks 1, told by the right view
hole_right : (own other : Pixel) → cond (ltb own.front other.front) own.sample other.sample ≡ both_holes other own
unfolding both_holes
hole_right own other =
    bool_cases (ltb own.front other.front)
    (λ e. rw (e, lt-leb other.front own.front (ltb-true _ _ e)))
    (λ e. rw (e, le-leb other.front own.front (ltb-false _ _ e)))

pub paired_chosen : (right : Bool) (share tolerance : ℕ) (own other : Pixel) → (own.mark ≡ 0 → other.mark ≡ 0 → tolerance < apart own.front other.front) → cond (prefers_own right own other) own.sample other.sample ≡ paired right share tolerance own other
unfolding paired combined_of both_holes prefers_own own_hole
paired_chosen true share tolerance own other far =
    bool_cases (eqb own.mark 0)
    (λ p.
    bool_cases (eqb other.mark 0)
    (λ q. rw (p, q) (far_right share tolerance own other (far (eqb-true _ _ p) (eqb-true _ _ q))))
    (λ q. rw (p, q)))
    (λ p. bool_cases (eqb other.mark 0) (λ q. rw (p, q)) (λ q. rw (p, q) (hole_right own other)))
paired_chosen false share tolerance own other far =
    bool_cases (eqb own.mark 0)
    (λ p.
    bool_cases (eqb other.mark 0)
    (λ q. rw (p, q) (far_left share tolerance own other (far (eqb-true _ _ p) (eqb-true _ _ q))))
    (λ q. rw (p, q)))
    (λ p. bool_cases (eqb other.mark 0) (λ q. rw (p, q)) (λ q. rw (p, q)))
