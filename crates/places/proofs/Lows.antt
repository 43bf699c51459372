-- The least place of some columns, found from the right; and the low end of a span.
use Prim.Native.Nat.{ℕ, zero, suc, ◌+◌, ◌-◌, ◌<◌, ◌≤◌, min}
use mathlib.Core.Path.{◌≡◌, refl, ap, ◌∙◌}
use native.Mathlib.Omega.{arith}
use Rattle.model.specs.Row.{least}
use Rattle.model.specs.Span.{least_edited, span_low}

pub least_none : (f : ℕ → ℕ) (top from n : ℕ) → top ≡ least f top (from + n) (n - n)
unfolding least
least_none f top from n = let e : n - n ≡ 0 = omega arith in rw e

-- one column more, to the left
pub least_back : (f : ℕ → ℕ) (top from n i : ℕ) → 0 < i → i ≤ n → least f top (from + (i - 1)) (n - (i - 1)) ≡ min (f (from + (i - 1))) (least f top (from + i) (n - i))
unfolding least
least_back f top from n i h k =
    let e : n - (i - 1) ≡ suc (n - i) = omega arith in
    let g : suc (from + (i - 1)) ≡ from + i = omega arith in
    rw (e, g)

-- all columns
pub least_all : (f : ℕ → ℕ) (top from n i : ℕ) → i ≤ 0 → least f top (from + i) (n - i) ≡ least f top from n
least_all f top from n i h =
    let e : from + i ≡ from = omega arith in
    let k : n - i ≡ n = omega arith in
    rw (e, k)

least_top : (f : ℕ → ℕ) (a b c n : ℕ) → least f (min a b) c n ≡ min a (least f b c n)
unfolding least
least_top f a b c zero = refl
least_top f a b c (suc n) = omega (arith, least_top f a b (suc c) n)

-- the order of two such searches does not matter
pub least_swap : (f g : ℕ → ℕ) (top a b m n : ℕ) → least f (least g top b n) a m ≡ least g (least f top a m) b n
unfolding least
least_swap f g top a b m zero = refl
least_swap f g top a b m (suc n) = least_top f (g b) (least g top (suc b) n) a m ∙ ap (min (g b)) (least_swap f g top a (suc b) m n)

-- nor that they are made as one
pub least_both : (f g : ℕ → ℕ) (top a n : ℕ) → least (λ c. min (f c) (g c)) top a n ≡ least f (least g top a n) a n
unfolding least
least_both f g top a zero = refl
least_both f g top a (suc n) = omega (arith, least_both f g top (suc a) n, least_top f (g a) (least g top (suc a) n) (suc a) n)

-- Low: the places f before an edit of the n columns from a on, with the place of a − 1, then the places g after it.
pub low_is : (f g : ℕ → ℕ) (old low a n : ℕ) → 0 < n → old ≡ least f (f (a - 1)) a n → low ≡ least g old a n → low - 1 ≡ span_low f g a (a + n - 1)
unfolding span_low least_edited
low_is f g old low a n some eo el =
    let k : a + n - 1 + 1 - a ≡ n = omega arith in
    ap (λ (m : ℕ). m - 1) (rw k (el ∙ ap (λ (m : ℕ). least g m a n) eo ∙ least_swap g f (f (a - 1)) a a n n))
