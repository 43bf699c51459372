-- Held limits, which GET and SET may find to be anything, as the raised numbers of the model's Row.
use Rattle.std.specs.Prelude.{ℕ, suc, ◌+◌, ◌-◌, min, ℤ, pos, negsuc}
use Rattle.model.specs.Row.{raised, quarter}

-- the highest limit of any row: the end of one of 4,096 positions
abbrev pub highest : ℕ
highest = quarter 4096

-- A held limit as a raised number; one below 0 or above the highest is read as the nearer end.
unfoldable pub raised_of : ℤ → ℕ
raised_of (pos n) = min (n + raised) highest
raised_of (negsuc n) = raised - suc n
