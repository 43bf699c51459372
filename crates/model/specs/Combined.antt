-- Document 01, "Combined picture and total".
use Rattle.std.specs.Prelude.{ℕ, ◌+◌, ◌-◌, ◌*◌, ◌/◌, cond, leb, ltb, eqb}
use Rattle.model.specs.declared.Pixel.{Pixel}
use Rattle.model.specs.Row.{greatest}

-- how far two numbers differ
abbrev pub apart : ℕ → ℕ → ℕ
apart a b = (a - b) + (b - a)

-- (left × (64 − share) + right × share + 32) div 64
unfoldable pub blended : ℕ → ℕ → ℕ → ℕ
blended share left right = (left * (64 - share) + right * share + 32) / 64

-- Both marks 0: front depths differing by at most the tolerance, the blended sample; by more, the sample of the larger depth.
unfoldable pub both_shown : ℕ → ℕ → Pixel → Pixel → ℕ
both_shown share tolerance l r =
    cond (leb (apart l.front r.front) tolerance) (blended share l.sample r.sample)
    (cond (ltb r.front l.front) l.sample r.sample)

-- Both marks 1: the sample of the smaller depth, left if equal.
unfoldable pub both_holes : Pixel → Pixel → ℕ
both_holes l r = cond (leb l.front r.front) l.sample r.sample

-- The combined sample. One mark 0: that view's sample.
unfoldable pub combined_of : ℕ → ℕ → Pixel → Pixel → ℕ
combined_of share tolerance l r =
    cond (eqb l.mark 0) (cond (eqb r.mark 0) (both_shown share tolerance l r) l.sample)
    (cond (eqb r.mark 0) r.sample (both_holes l r))

-- the greatest squared error of a sample
abbrev pub worst : ℕ
worst = greatest * greatest

-- (combined − reference)²
unfoldable pub square_error : ℕ → ℕ → ℕ
square_error a b = apart a b * apart a b
