-- The combined sample, told by one view of the other.
use Rattle.std.specs.Prelude.{ℕ, ◌-◌, Bool, true, false, cond, leb, ltb, eqb}
use Rattle.model.specs.declared.Pixel.{Pixel}
use Rattle.model.specs.Combined.{combined_of}

-- The combined sample where `own` is what the view itself shows and `other` what the other view does.
unfoldable pub paired : Bool → ℕ → ℕ → Pixel → Pixel → ℕ
paired true share tolerance own other = combined_of share tolerance other own
paired false share tolerance own other = combined_of share tolerance own other

-- The part of a view's own sample in the blended sample, in sixty-fourths: the share is the right view's.
unfoldable pub own_share : Bool → ℕ → ℕ
own_share true share = share
own_share false share = 64 - share

-- Of two holes the own one is taken: the smaller depth, left if equal.
unfoldable pub own_hole : Bool → ℕ → ℕ → Bool
own_hole true own other = ltb own other
own_hole false own other = leb own other

-- The own sample is taken where the two are not blended: a mark 0 before a mark 1, of two marks 0 the larger depth, of two marks 1 the smaller.
unfoldable pub prefers_own : Bool → Pixel → Pixel → Bool
prefers_own right own other =
    cond (eqb own.mark 0) (cond (eqb other.mark 0) (ltb other.front own.front) true)
    (cond (eqb other.mark 0) false (own_hole right own.front other.front))
