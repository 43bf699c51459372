-- Positions of a row.
use Rattle.std.specs.Prelude.{ℕ, ◌-◌, ◌/◌}

-- the first position at or past x
abbrev pub first_at : ℕ → ℕ
first_at x = (x - 1021) / 4
