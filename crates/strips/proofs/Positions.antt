-- The positions of a span, and where it ends by what is held.
--     stop_within      whatever limit is held, the end lies in the row
--     start_is         the start, found in one pass
--     outside_span     positions before the start or from the end on are outside the span
use Prim.Native.Nat.{ℕ, ◌+◌, ◌-◌, ◌<◌, ◌≤◌, min}
use mathlib.Core.Path.{◌≡◌}
use mathlib.Core.Logic.{⊎_elim, ◌⊎◌, inl, inr}
use mathlib.Core.List.{List}
use native.Mathlib.Omega.{arith}
use lib.ListN.{length}
use lib.IntN.{ℤ}
use Rattle.model.specs.Row.{least, limit, quarter}
use Rattle.model.specs.Span.{least_edited, span_low, span_high}
use Rattle.model.proofs.Spans.{Outside}
use Rattle.pixel.specs.Pairs.{next_place}
use Rattle.places.specs.Positions.{first_at}
use Rattle.limits.specs.Limits.{limit_under}
use Rattle.row.proofs.Below.{first_within}
use Rattle.limits.proofs.Limits.{limit_least}
use Rattle.places.proofs.Lows.{least_both}
use Rattle.strips.specs.Strips.{span_start, span_stop}

pub stop_within : (t d : List ℕ) (e : List ℤ) (n : ℕ) → span_stop t d e n ≤ length d
stop_within t d e n =
    first_within t d (n - 1) (limit_under e n (next_place t d (n - 1))) (limit_least e n (next_place t d (n - 1)))

-- the least of the old and the new places, as one
pub start_is : (f g : ℕ → ℕ) (first n : ℕ) → 0 < n → first_at (least (λ c. min (f c) (g c)) (f (first - 1)) first n - 1) ≡ span_start f g first n
unfolding span_start span_low least_edited
start_is f g first n some =
    let e : first + n - 1 + 1 - first ≡ n = omega arith in
    rw (e, least_both f g (f (first - 1)) first n)

pub outside_span : (f g : ℕ → ℕ) (w first n p : ℕ) → 0 < n → (p < span_start f g first n) ⊎ (first_at (limit f w (first + n)) ≤ p) → Outside f g w first (first + n - 1) (quarter p)
unfolding span_start span_high
outside_span f g w first n p some o =
    let e : first + n - 1 + 1 ≡ first + n = omega arith in
    rw e (⊎_elim (λ h. inl (omega arith)) (λ h. inr (omega arith)) o)
