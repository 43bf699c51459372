-- The limits of the columns below n, where `high` is taken for the limit of n.
--     below_end, below_step, below_most, below_below     from the right
--     below_limit                                        with the true limit of n they are the row's
use Prim.Native.Nat.{ℕ, suc, ◌+◌, ◌-◌, ◌<◌, ◌≤◌, min}
use mathlib.Core.Path.{◌≡◌}
use native.Mathlib.Omega.{arith}
use native.Mathlib.Numerals.{add-one}
use Rattle.model.specs.Row.{quarter, least, limit}
use Rattle.model.proofs.Owners.{least_most, least_join}
use Rattle.limits.specs.Limits.{limit_below}

pub below_end : (f : ℕ → ℕ) (high n : ℕ) → limit_below f high n n ≡ high
unfolding limit_below least
below_end f high n = let e : n - n ≡ 0 = omega arith in rw e

pub below_step : (f : ℕ → ℕ) (high n c : ℕ) → c < n → limit_below f high n c ≡ min (f c) (limit_below f high n (c + 1))
unfolding limit_below least
below_step f high n c h =
    let e : n - c ≡ suc (n - suc c) = omega arith in
    rw (e, add-one)

pub below_most : (f : ℕ → ℕ) (high n c : ℕ) → limit_below f high n c ≤ high
unfolding limit_below
below_most f high n c = least_most f high c (n - c)

-- taken in two parts
pub below_below : (f : ℕ → ℕ) (high n m c : ℕ) → c ≤ m → m ≤ n → limit_below f (limit_below f high n m) m c ≡ limit_below f high n c
unfolding limit_below
below_below f high n m c h k =
    let e : c + (m - c) ≡ m = omega arith in
    let g : m - c + (n - m) ≡ n - c = omega arith in
    let j = least_join f high c (m - c) (n - m) in
    rw (e, g) at j

-- with the true limit of n they are the limits
pub below_limit : (f : ℕ → ℕ) (w n c : ℕ) → c ≤ n → n ≤ w → limit_below f (limit f w n) n c ≡ limit f w c
unfolding limit_below limit
below_limit f w n c h k =
    let e : c + (n - c) ≡ n = omega arith in
    let g : n - c + (w - n) ≡ w - c = omega arith in
    let j = least_join f (quarter w) c (n - c) (w - n) in
    rw (e, g) at j
