-- The step k by counting.
use Prim.Native.Nat.{ℕ, ◌+◌, ◌*◌, ◌<◌, ◌≤◌}
use mathlib.Core.Path.{◌≡◌, sym}
use mathlib.Core.Logic.{⊎_elim}
use native.Mathlib.Omega.{arith}
use native.Mathlib.Nat.{div-eq_of_lt-le}
use borrow.Author.Tests.{le-leb, lt-leb}
use Rattle.model.specs.Row.{step_of}
use Rattle.model.proofs.Choice.{lt_or_le}
use Rattle.pixel.specs.Pairs.{reached}

-- the step is k where 8 × t + gap lies from k × 2 × gap up to (k + 1) × 2 × gap
step_is : (t gap k : ℕ) → k * (2 * gap) ≤ 8 * t + gap → 8 * t + gap < (k + 1) * (2 * gap) → step_of t gap ≡ k
unfolding step_of
step_is t gap k h l = div-eq_of_lt-le (2 * gap) h l

-- it is how many multiples of 2 × gap are reached
pub step_count : (t gap : ℕ) → t < gap → reached (8 * t + gap) (2 * gap) + reached (8 * t + gap) (4 * gap) + reached (8 * t + gap) (6 * gap) + reached (8 * t + gap) (8 * gap) ≡ step_of t gap
unfolding reached
step_count t gap h =
    let x : ℕ = 8 * t + gap in
    ⊎_elim
    (λ u. rw (lt-leb (2 * gap) x u, lt-leb (4 * gap) x (omega arith), lt-leb (6 * gap) x (omega arith), lt-leb (8 * gap) x (omega arith))
    (sym (step_is t gap 0 (omega arith) (omega arith))))
    (λ a. ⊎_elim
    (λ u. rw (le-leb (2 * gap) x a, lt-leb (4 * gap) x u, lt-leb (6 * gap) x (omega arith), lt-leb (8 * gap) x (omega arith))
    (sym (step_is t gap 1 (omega arith) (omega arith))))
    (λ b. ⊎_elim
    (λ u. rw (le-leb (2 * gap) x a, le-leb (4 * gap) x b, lt-leb (6 * gap) x u, lt-leb (8 * gap) x (omega arith))
    (sym (step_is t gap 2 (omega arith) (omega arith))))
    (λ c. ⊎_elim
    (λ u. rw (le-leb (2 * gap) x a, le-leb (4 * gap) x b, le-leb (6 * gap) x c, lt-leb (8 * gap) x u)
    (sym (step_is t gap 3 (omega arith) (omega arith))))
    (λ d. rw (le-leb (2 * gap) x a, le-leb (4 * gap) x b, le-leb (6 * gap) x c, le-leb (8 * gap) x d)
    (sym (step_is t gap 4 (omega arith) (omega arith))))
    (lt_or_le x (8 * gap)))
    (lt_or_le x (6 * gap)))
    (lt_or_le x (4 * gap)))
    (lt_or_le x (2 * gap))

-- with a gap of 4 it is t
pub step_even : (t gap : ℕ) → gap ≡ 4 → t ≡ step_of t gap
step_even t gap e = rw e (sym (step_is t 4 t (omega arith) (omega arith)))
