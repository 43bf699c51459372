-- Document 02, card 4: how far one depth sample can move the total, by the span of card 7 and with the samples of card 12.
use Rattle.std.specs.Prelude.{ℕ, ◌+◌, ◌*◌, ◌/◌, ◌≡◌, Bool, cond, List, eqb, ℤ, pos, negsuc, ◌-ℤ◌, nat_abs}
use Rattle.std.specs.Int.Signed.{le_z}
use Rattle.model.specs.declared.Settings.{Settings}
use Rattle.model.specs.declared.Block.{Block}
use Rattle.model.specs.Row.{signed}
use Rattle.model.specs.Views.{is_right}
use Rattle.model.specs.Combined.{worst}
use Rattle.model.specs.Planes.{Depths}
use Rattle.model.specs.Blocks.{written}
use Rattle.model.specs.Span.{span_low, span_high, first_column, view_place}

-- ---- One row, w wide, as the view reads it, of which column c is edited: f are its places before the edit and g after it, raised as in model/specs/Row. Low, high
-- and L are signed, as the card has them; laws: proofs/Held, low_places and high_places.

-- low of the span
unfoldable pub low_of : (ℕ → ℕ) → (ℕ → ℕ) → ℕ → ℤ
low_of f g c = signed (span_low f g c c)

-- with low taken as 0 if it is below
unfoldable pub from_zero : ℤ → ℤ
from_zero (pos n) = pos n
from_zero (negsuc n) = pos 0

-- high of the span, and 4 × w for the last column
unfoldable pub high_of : (ℕ → ℕ) → ℕ → ℕ → ℤ
high_of f w c = cond (eqb (c + 1) w) (pos (4 * w)) (signed (span_high f w c))

-- L is high minus low.
unfoldable pub length_of : (ℕ → ℕ) → (ℕ → ℕ) → ℕ → ℕ → ℤ
length_of f g w c = high_of f w c -ℤ from_zero (low_of f g c)

-- If L is 0 or less the answer is 0. Otherwise its size is at most 1,046,529 × ((L + 3) div 4).
unfoldable pub most_change : ℤ → ℕ
most_change l = cond (le_z l (pos 0)) 0 (worst * ((nat_abs l + 3) / 4))

-- ---- A session

-- a block of one column and one row
pub record OneDepth (b : Block) : Type 0 where
  pub width : b.width ≡ 1
  pub height : b.height ≡ 1

-- L where the depths d of a view become e in such a block; right view: over the reversed row
unfoldable pub span_length : Settings → Bool → Block → Depths → Depths → ℤ
span_length s right b d e =
    length_of (view_place s right d b.row) (view_place s right e b.row) s.w (first_column right s.w b.column 1)

-- the bound where the depths c are written into such a block of view v
abbrev pub reach_of : Settings → Depths → ℕ → Block → List ℕ → ℕ
reach_of s d v b c = most_change (span_length s (is_right v) b d (written s v b c d))
