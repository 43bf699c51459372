-- Marks set in a packed row, and what a view holds at an entry of a row.
use Rattle.std.specs.Prelude.{ℕ, zero, suc, ◌+◌, ◌-◌, ◌*◌, ◌/◌, ◌%◌, ◌^◌, List, get_or, set}
use Rattle.model.specs.declared.Pixel.{Pixel}
use Rattle.model.specs.Row.{pixel, sample_in}
use Rattle.model.specs.Marks.{mark_at}

-- a byte with v in its bit k
abbrev pub put_bit : ℕ → ℕ → ℕ → ℕ
put_bit byte k v = byte - byte / 2 ^ k % 2 * 2 ^ k + v * 2 ^ k

-- a packed row with the mark v at position p
abbrev pub set_mark : List ℕ → ℕ → ℕ → List ℕ
set_mark row p v = set row (p / 8) (put_bit (get_or row (p / 8) 0) (p % 8) v)

-- a packed row with the first n of the marks ms at the positions from start on
unfoldable pub put_marks : List ℕ → ℕ → List ℕ → ℕ → List ℕ
put_marks row start ms zero = row
put_marks row start ms (suc n) = set_mark (put_marks row start ms n) (start + n) (get_or ms n 0)

-- what a view holds at entry i of a row, its sample as it is read
unfoldable pub held_pixel : List ℕ → List ℕ → List ℕ → ℕ → Pixel
held_pixel samples fronts marks i = pixel (sample_in samples i) (mark_at marks i) (get_or fronts i 0)
