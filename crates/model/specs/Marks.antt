-- Document 01, "What the library holds": packed hole marks; and HOLES, which counts them.
use Rattle.std.specs.Prelude.{ℕ, zero, suc, ◌+◌, ◌*◌, ◌/◌, ◌%◌, ◌^◌, List, [], ◌∷◌, get_or, take, drop}
use Rattle.model.specs.Lists.{sum_to, row_of}

-- (w + 7) div 8 bytes a row
abbrev pub mark_bytes : ℕ → ℕ
mark_bytes w = (w + 7) / 8

-- up to eight marks in a byte, low bit first; bits past the last mark are zero
unfoldable pub pack_byte : List ℕ → ℕ
pack_byte [] = 0
pack_byte (m ∷ ms) = m + 2 * pack_byte ms

-- n bytes of a row's marks; spare bits are zero
unfoldable pub pack_row : ℕ → List ℕ → List ℕ
pack_row zero ms = []
pack_row (suc n) ms = pack_byte (take 8 ms) ∷ pack_row n (drop 8 ms)

-- Position p is bit p mod 8 of byte p div 8.
abbrev pub mark_at : List ℕ → ℕ → ℕ
mark_at row p = get_or row (p / 8) 0 / 2 ^ (p % 8) % 2

-- the bits of a row of marks past position w − 1
abbrev pub spare_bits : List ℕ → ℕ → ℕ
spare_bits row w = get_or row (w / 8) 0 / 2 ^ (w % 8)

-- the marks of 1 at the positions below w of one row
unfoldable pub row_holes : List ℕ → ℕ → ℕ
row_holes row w = sum_to (mark_at row) w

-- HOLES counts the marks of 1 at positions below w, spare bits left out.
unfoldable pub holes_in : List ℕ → ℕ → ℕ → ℕ
holes_in marks w h = sum_to (λ y. row_holes (row_of marks (mark_bytes w) y) w) h
