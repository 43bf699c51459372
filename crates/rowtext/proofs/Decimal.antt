-- Decimal numbers grow by a digit at their end.
--     decimal_digit    a number below 10 is its digit
--     decimal_more     the digits of 10 × v + d are those of v and then d, unless v is 0
--     decimal_ends     the same from the whole number's side
use Prim.Native.Nat.{ℕ, zero, suc, ◌+◌, ◌*◌, ◌/◌, ◌%◌, ◌<◌, ◌≤◌}
use mathlib.Core.Path.{◌≡◌, refl, ◌∙◌}
use mathlib.Core.Logic.{⊎_elim}
use mathlib.Core.List.{[], ◌∷◌, ◌++◌}
use native.Mathlib.Omega.{arith}
use borrow.Author.Tests.{lt-ltb, le-ltb}
use Rattle.model.proofs.Choice.{lt_or_le}
use Rattle.rowtext.specs.Format.{digit, decimal_in, decimal}

-- room for more digits changes nothing
in_same : (j k n : ℕ) → n ≤ j → n ≤ k → decimal_in j n ≡ decimal_in k n
unfolding decimal_in
in_same zero zero n p q = refl
in_same zero (suc k) n p q = rw (lt-ltb n 10 (omega arith))
in_same (suc j) zero n p q = rw (lt-ltb n 10 (omega arith))
in_same (suc j) (suc k) n p q =
    ⊎_elim
    (λ h. rw (lt-ltb n 10 h))
    (λ h. rw (le-ltb n 10 h, in_same j k (n / 10) (omega arith) (omega arith)))
    (lt_or_le n 10)

pub decimal_digit : (n : ℕ) → n < 10 → decimal n ≡ digit n ∷ []
unfolding decimal decimal_in
decimal_digit n h = in_same n 10 n (omega arith) (omega arith) ∙ rw (lt-ltb n 10 h)

pub decimal_ends : (n : ℕ) → 10 ≤ n → decimal n ≡ decimal (n / 10) ++ (digit (n % 10) ∷ [])
unfolding decimal decimal_in
decimal_ends n h =
    in_same n (suc n) n (omega arith) (omega arith)
    ∙ rw (le-ltb n 10 h, in_same n (n / 10) (n / 10) (omega arith) (omega arith))

pub decimal_more : (v d : ℕ) → 0 < v → d < 10 → decimal (10 * v + d) ≡ decimal v ++ (digit d ∷ [])
decimal_more v d h k =
    let q : (10 * v + d) / 10 ≡ v = omega arith in
    let r : (10 * v + d) % 10 ≡ d = omega arith in
    rw (q, r) at (decimal_ends (10 * v + d) (omega arith))
