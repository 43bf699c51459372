-- What is taken for a limit and for a near edge, by what is held, and the limits that follow from it.
use Rattle.std.specs.Prelude.{ℕ, ◌+◌, ◌-◌, ◌%◌, ◌<◌, ◌≤◌, min, ◌≡◌, cond, List, ltb, length, get_or, ℤ, pos}
use Rattle.model.specs.Row.{quarter, least}
use Rattle.signed.specs.Limits.{raised_of}
use Rattle.pixel.specs.declared.Edge.{Edge}
use Rattle.pixel.specs.Pairs.{next_place}

-- the limit of column c, where `high` is taken for the limit of column n
unfoldable pub limit_below : (ℕ → ℕ) → ℕ → ℕ → ℕ → ℕ
limit_below f high n c = least f high c (n - c)

-- What is taken for the limit of column n, whose place, or the row's end, is `next`: the held limits e may say anything, and a limit past
-- `next` is not believed.
unfoldable pub limit_under : List ℤ → ℕ → ℕ → ℕ
limit_under e n next = cond (ltb n (length e)) (min next (raised_of (get_or e n (pos 0)))) next

-- The high end of the span of an edit of columns below n: the rows of depths d and limits e are as the view reads them.
abbrev pub span_top : List ℕ → List ℕ → List ℤ → ℕ → ℕ
span_top t d e n = limit_under e n (next_place t d (n - 1))

-- Column c is the last, of 256 from n on, at which the held limits e still say `high`.
pub record LastHeld (e : List ℤ) (n high c : ℕ) : Type 0 where
  pub from : n ≤ c
  pub here : n < c → raised_of (get_or e c (pos 0)) ≡ high
  pub after : c + 1 < length e → c + 1 < n + 256 → raised_of (get_or e (c + 1) (pos 0)) ≡ high → ⊥

-- The edge that is taken right of the columns below n of a row, by the held limits e, where `high` is taken for the limit of column n.
-- Only a position one quarter before it shows it, so that its column is asked for only where `high` is one above a multiple of 4.
pub record EdgeHeld (e : List ℤ) (n high : ℕ) (g : Edge) : Type 0 where
  pub limit : g.limit ≡ high
  pub within : n < length e → g.column < length e
  pub last : n < length e → high % 4 ≡ 1 → LastHeld e n high g.column

-- an edge right of the columns below n, with which these can be drawn
pub record Edged (t d : List ℕ) (n : ℕ) (g : Edge) : Type 0 where
  pub under : g.limit ≤ next_place t d (n - 1)
  pub within : g.limit < quarter (length d) → g.column < length d
