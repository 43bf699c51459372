-- Sums.
--     sum_next, sum_same, sum_part, sum_most, sum_turn, sum-add
--     sum_within     terms of at most m, and 0 outside a stretch
--     sum_rows       a sum over a plane is the sum of its rows' sums
--     sum_change     two sums that agree outside a stretch differ by the stretch
use Prim.Native.Nat.{ℕ, zero, suc, ◌+◌, ◌-◌, ◌*◌, ◌<◌, ◌≤◌, min}
use mathlib.Core.Path.{◌≡◌, refl, ap}
use mathlib.Core.Logic.{⊎_elim, ◌⊎◌, inl, inr}
use native.Mathlib.Omega.{arith}
use native.Mathlib.Nat.{add-zero, add-suc, mul-suc, suc-mul, mul-le-mul, le_refl, le_trans}
use native.Mathlib.Numerals.{add-one}
use Rattle.model.specs.Lists.{sum_to}
use Rattle.model.proofs.Choice.{lt_or_le}

pub sum_next : (f : ℕ → ℕ) (n : ℕ) → sum_to f (n + 1) ≡ sum_to f n + f n
unfolding sum_to
sum_next f n = rw (add-one n)

pub sum_same : (f g : ℕ → ℕ) (n : ℕ) → ((i : ℕ) → i < n → f i ≡ g i) → sum_to f n ≡ sum_to g n
unfolding sum_to
sum_same f g zero h = refl
sum_same f g (suc n) h =
    let a = sum_same f g n (λ i l. h i (omega arith)) in
    let b = h n (omega arith) in
    rw (a, b)

-- terms of at most m
pub sum_most : (f : ℕ → ℕ) (m n : ℕ) → ((i : ℕ) → i < n → f i ≤ m) → sum_to f n ≤ m * n
unfolding sum_to
sum_most f m zero h = omega arith
sum_most f m (suc n) h = omega (arith, sum_most f m n (λ i l. h i (omega arith)), h n (omega arith), mul-suc m n)

-- terms of at most m, and 0 outside a stretch
sum_between : (f : ℕ → ℕ) (m from to n : ℕ) → ((i : ℕ) → i < n → f i ≤ m) → ((i : ℕ) → i < n → (i < from) ⊎ (to ≤ i) → f i ≡ 0) → sum_to f n ≤ m * (min n to - from)
unfolding sum_to
sum_between f m from to zero most none = omega arith
sum_between f m from to (suc n) most none =
    let before = sum_between f m from to n (λ i l. most i (omega arith)) (λ i l o. none i (omega arith) o) in
    let same : min (suc n) to - from ≡ min n to - from → f n ≡ 0 → sum_to f n + f n ≤ m * (min (suc n) to - from) = λ e z. rw (e, z) (omega arith) in
    ⊎_elim (λ h. same (omega arith) (none n (omega arith) (inl h)))
    (λ h. ⊎_elim
    (λ k. let e : min (suc n) to - from ≡ suc (min n to - from) = omega arith in rw e (omega (arith, before, most n (omega arith), mul-suc m (min n to - from))))
    (λ k. same (omega arith) (none n (omega arith) (inr k)))
    (lt_or_le n to))
    (lt_or_le n from)

pub sum_within : (f : ℕ → ℕ) (m from to n : ℕ) → ((i : ℕ) → i < n → f i ≤ m) → ((i : ℕ) → i < n → (i < from) ⊎ (to ≤ i) → f i ≡ 0) → sum_to f n ≤ m * (to - from)
sum_within f m from to n most none =
    let k : min n to - from ≤ to - from = omega arith in
    le_trans (sum_between f m from to n most none) (mul-le-mul (le_refl m) k)

pub sum-add : (f g : ℕ → ℕ) (n : ℕ) → sum_to (λ i. f i + g i) n ≡ sum_to f n + sum_to g n
unfolding sum_to
sum-add f g zero = refl
sum-add f g (suc n) = omega (arith, sum-add f g n)

-- a sum in two parts
pub sum_join : (f : ℕ → ℕ) (a n : ℕ) → sum_to f (a + n) ≡ sum_to f a + sum_to (λ i. f (a + i)) n
unfolding sum_to
sum_join f a zero = rw (add-zero a) (omega arith)
sum_join f a (suc n) = rw (add-suc a n) (omega (arith, sum_join f a n))

pub sum_rows : (f : ℕ → ℕ) (w h : ℕ) → sum_to f (h * w) ≡ sum_to (λ y. sum_to (λ x. f (y * w + x)) w) h
unfolding sum_to
sum_rows f w zero = let e : 0 * w ≡ 0 = omega arith in rw e
sum_rows f w (suc h) = rw (suc-mul h w, ← sum_rows f w h) (sum_join f (h * w) w)

-- two sums whose terms agree from a to a + n − 1 grow there by the same
sum_grow : (f g : ℕ → ℕ) (a n : ℕ) → ((i : ℕ) → a ≤ i → i < a + n → f i ≡ g i) → sum_to f (a + n) + sum_to g a ≡ sum_to f a + sum_to g (a + n)
unfolding sum_to
sum_grow f g a zero h = rw (add-zero a)
sum_grow f g a (suc n) h =
    let r = sum_grow f g a n (λ i k m. h i k (omega arith)) in
    let e : f (a + n) ≡ g (a + n) = h (a + n) (omega arith) (omega arith) in
    rw (add-suc a n) (omega arith)

pub sum_part : (f g : ℕ → ℕ) (a b : ℕ) → a ≤ b → ((i : ℕ) → a ≤ i → i < b → f i ≡ g i) → sum_to f b + sum_to g a ≡ sum_to f a + sum_to g b
sum_part f g a b k h =
    let e : a + (b - a) ≡ b = omega arith in
    rw e at (sum_grow f g a (b - a) (λ i m n. h i m (omega arith)))

sum_first : (f : ℕ → ℕ) (n : ℕ) → sum_to f (suc n) ≡ f 0 + sum_to (λ i. f (suc i)) n
unfolding sum_to
sum_first f zero = omega arith
sum_first f (suc n) = omega (arith, sum_first f n)

-- a sum read backwards
pub sum_turn : (f : ℕ → ℕ) (w : ℕ) → sum_to (λ p. f (w - 1 - p)) w ≡ sum_to f w
unfolding sum_to
sum_turn f zero = refl
sum_turn f (suc n) =
    let e : suc n - 1 - 0 ≡ n = omega arith in
    let a = sum_first (λ p. f (suc n - 1 - p)) n in
    let b = sum_same (λ i. f (suc n - 1 - suc i)) (λ i. f (n - 1 - i)) n (λ i h. ap f (omega arith)) in
    let c = sum_turn f n in
    let d : f (suc n - 1 - 0) ≡ f n = ap f e in
    omega arith

-- f before and g after agree outside start to stop; there p and q are what they show, and old and new what these sum to
pub sum_change : (f g p q : ℕ → ℕ) (start stop w old new : ℕ) → start ≤ stop → stop ≤ w → ((i : ℕ) → i < start → g i ≡ f i) → ((i : ℕ) → stop ≤ i → i < w → g i ≡ f i) → ((i : ℕ) → start ≤ i → i < stop → p i ≡ f i) → ((i : ℕ) → start ≤ i → i < stop → q i ≡ g i) → old + sum_to p start ≡ sum_to p stop → new + sum_to q start ≡ sum_to q stop → sum_to g w + old ≡ sum_to f w + new
sum_change f g p q start stop w old new h k before after po qo eo en =
    omega
    (arith, sum_same g f start before, sum_part g f stop w k after, sum_part p f start stop h po, sum_part q g start stop h qo)
