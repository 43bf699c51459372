-- A row whose depths are edited, and its limits.
use Rattle.std.specs.Prelude.{ℕ, ◌+◌, ◌-◌, ◌*◌, ◌<◌, ◌≤◌, Bool, ◌≡◌, List, length, get_or, ℤ, pos}
use Rattle.model.specs.Lists.{row_of}
use Rattle.model.specs.Row.{place, signed}
use Rattle.model.specs.Views.{seen}
use Rattle.model.specs.Span.{span_low, first_column}
use Rattle.planes.specs.Parts.{splice, Filled}
use Rattle.signed.specs.Limits.{raised_of}
use Rattle.pixel.specs.declared.Edge.{Edge}
use Rattle.limits.specs.Limits.{span_top, limit_below, EdgeHeld}

-- The candidate is written at entry x of a row of depths, and `least` is the low end of the span; a is the candidate's first column,
-- as the view reads the row.
pub record Rewritten (right : Bool) (t : List ℕ) (x a least : ℕ) (candidate d d' : List ℕ) : Type 0 where
  pub depths : d' ≡ splice d x candidate
  pub low : least ≡ span_low (place t (seen right d)) (place t (seen right d')) a (a + length candidate - 1)

-- The limits of the columns below n are written, down to column `stop`. Left of column a, once the held limit is the one to be written,
-- so are all before it. The rows are as the view reads them.
pub record Relimited (t d : List ℕ) (a n high : ℕ) (e e' : List ℤ) : Type 0 where
  pub stop : ℕ
  pub order : stop ≤ a
  pub written : Filled (pos 0) (λ c. signed (limit_below (place t d) high n c)) stop n e e'
  pub settled : 0 < stop → raised_of (get_or e (stop - 1) (pos 0)) ≡ limit_below (place t d) high n (stop - 1)

-- the edge right of the columns below n, with the high end, and the limits with it
pub record Limited (t d : List ℕ) (a n : ℕ) (edge : Edge) (e e' : List ℤ) : Type 0 where
  pub top : EdgeHeld e n (span_top t d e n) edge
  pub limits : Relimited t d a n edge.limit e e'

-- Row y of the depths d and of the limits e, with the candidate written from column x on: n is the column after the candidate's last, as
-- the view reads the row, and the span runs from low to the limit of the edge.
pub record Changed (right : Bool) (t : List ℕ) (w y x : ℕ) (candidate d d' : List ℕ) (e e' : List ℤ) (n low : ℕ) (edge : Edge) : Type 0 where
  pub columns : n ≡ first_column right w x (length candidate) + length candidate
  pub depths : d' ≡ splice d (y * w + x) candidate
  pub bottom : low ≡ span_low (place t (seen right (row_of d w y))) (place t (seen right (row_of d' w y))) (first_column right w x (length candidate)) (n - 1)
  pub top : EdgeHeld (seen right (row_of e w y)) n (span_top t (seen right (row_of d' w y)) (seen right (row_of e w y)) n) edge
  pub limits : Relimited t (seen right (row_of d' w y)) (first_column right w x (length candidate)) n edge.limit (seen right (row_of e w y)) (seen right (row_of e' w y))
  pub others : (k : ℕ) → (k ≡ y → ⊥) → row_of e' w k ≡ row_of e w k
