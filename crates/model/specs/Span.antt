-- Document 01, "The span of an edit", with document 02, card 7: low falls by one quarter.
use Rattle.std.specs.Prelude.{ℕ, ◌+◌, ◌-◌, Bool, true, false, ◌&&◌, leb, ltb}
use Rattle.model.specs.declared.Settings.{Settings}
use Rattle.model.specs.declared.Block.{Block}
use Rattle.model.specs.Lists.{row_of}
use Rattle.model.specs.Row.{place, least, limit, quarter}
use Rattle.model.specs.Views.{seen, entry_of}
use Rattle.model.specs.Planes.{Depths, table_of, depths_of}

-- the least of the old places f and the new places g of columns a to b and the place of a − 1
-- At a = 0 that last is column 0's own, which is counted already.
unfoldable pub least_edited : (ℕ → ℕ) → (ℕ → ℕ) → ℕ → ℕ → ℕ
least_edited f g a b = least f (least g (f (a - 1)) a (b + 1 - a)) a (b + 1 - a)

-- Low is one quarter below that (card 7). Raised places are above 0, so that nothing is lost (proofs/Signs, signed-low).
unfoldable pub span_low : (ℕ → ℕ) → (ℕ → ℕ) → ℕ → ℕ → ℕ
span_low f g a b = least_edited f g a b - 1

-- High is the limit of b + 1; if b is the last column the span runs to the row's end.
unfoldable pub span_high : (ℕ → ℕ) → ℕ → ℕ → ℕ
span_high f w b = limit f w (b + 1)

-- The span is the positions p with low ≤ 4 × p < high.
unfoldable pub in_span : (ℕ → ℕ) → (ℕ → ℕ) → ℕ → ℕ → ℕ → ℕ → Bool
in_span f g w a b p = leb (span_low f g a b) (quarter p) && ltb (quarter p) (span_high f w b)

-- the first column, as the view reads the row, of the n columns from a on of a row of w; right view: the reversed row
unfoldable pub first_column : Bool → ℕ → ℕ → ℕ → ℕ
first_column true w a n = w - (a + n)
first_column false w a n = a

-- the place of column c of row y, as the view reads it
unfoldable pub view_place : Settings → Bool → Depths → ℕ → ℕ → ℕ
view_place s right d y c = place (table_of s right) (seen right (row_of (depths_of d right) s.w y)) c

-- Entry x of row y lies in the span of an edit of the block from the depths d to the depths e.
unfoldable pub span_has : Settings → Bool → Block → Depths → Depths → ℕ → ℕ → Bool
span_has s right b d e y x =
    let a = first_column right s.w b.column b.width in
    in_span (view_place s right d y) (view_place s right e y) s.w a (a + b.width - 1) (entry_of right s.w x)

-- Limits may change at columns up to b only, reversed likewise: entry x stands for such a column.
unfoldable pub limit_moves : Settings → Bool → Block → ℕ → Bool
limit_moves s right b x = ltb (entry_of right s.w x) (first_column right s.w b.column b.width + b.width)
